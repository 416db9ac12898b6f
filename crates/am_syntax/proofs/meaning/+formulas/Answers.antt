-- Each kind of formula is by its equation, and each step of the loop is one more formula.
use Rattle.std.proofs.Common.{arith}
use Rattle.am_syntax.proofs.MeaningSteps.{formula_meanings}
use Rattle.am_syntax.proofs.meaning.+formulas.Goals as goal

pub formula_meaning-returns-in_ok-atom_meaning-in-Atom : goal.formula_meaning-returns-in_ok-atom_meaning-in-Atom
formula_meaning-returns-in_ok-atom_meaning-in-Atom t c = grind (arith, formula_meanings)

pub formula_meaning-returns-in_ok-boxed_meaning-in-Not : goal.formula_meaning-returns-in_ok-boxed_meaning-in-Not
formula_meaning-returns-in_ok-boxed_meaning-in-Not t c = grind (arith, formula_meanings)

pub formula_meaning-returns-in_ok-parts-in-And : goal.formula_meaning-returns-in_ok-parts-in-And
formula_meaning-returns-in_ok-parts-in-And t c = grind (arith, formula_meanings)

pub formula_meaning-returns-in_ok-parts-in-Or : goal.formula_meaning-returns-in_ok-parts-in-Or
formula_meaning-returns-in_ok-parts-in-Or t c = grind (arith, formula_meanings)

pub formula_meaning-returns-in_ok-left-in-Implies : goal.formula_meaning-returns-in_ok-left-in-Implies
formula_meaning-returns-in_ok-left-in-Implies t c = grind (arith, formula_meanings)

pub formula_meaning-returns-in_ok-left-in-Iff : goal.formula_meaning-returns-in_ok-left-in-Iff
formula_meaning-returns-in_ok-left-in-Iff t c = grind (arith, formula_meanings)

pub formula_meaning-returns-in-Quantified : goal.formula_meaning-returns-in-Quantified
formula_meaning-returns-in-Quantified t c = grind (arith, formula_meanings)

pub formula_meanings-loop-formula-preserved : goal.formula_meanings-loop-formula-preserved
formula_meanings-loop-formula-preserved t c = grind (arith, formula_meanings)
