-- Each kind of formula is by its equation, and each step of the loop is one more formula.
use Rattle.std.proofs.Common.{arith}
use Rattle.am_syntax.proofs.FormulaSteps.{formula_flaws}
use Rattle.am_syntax.proofs.flaws.+atoms.Goals as goal

pub formula_has-returns-in-Atom : goal.formula_has-returns-in-Atom
formula_has-returns-in-Atom t c = grind (arith, formula_flaws)

pub formula_has-returns-in-Not : goal.formula_has-returns-in-Not
formula_has-returns-in-Not t c = grind (arith, formula_flaws)

pub formula_has-returns-in-And : goal.formula_has-returns-in-And
formula_has-returns-in-And t c = grind (arith, formula_flaws)

pub formula_has-returns-in-Or : goal.formula_has-returns-in-Or
formula_has-returns-in-Or t c = grind (arith, formula_flaws)

pub formula_has-returns-in-Quantified : goal.formula_has-returns-in-Quantified
formula_has-returns-in-Quantified t c = grind (arith, formula_flaws)

pub some_formula_has-loop-formula-preserved : goal.some_formula_has-loop-formula-preserved
some_formula_has-loop-formula-preserved t c = grind (arith, formula_flaws)

pub some_formula_has-returns-then-formula_has : goal.some_formula_has-returns-then-formula_has
some_formula_has-returns-then-formula_has t c = grind (arith, formula_flaws)
