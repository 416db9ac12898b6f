-- Each kind of formula is by its equation, and each step of the loop is one more formula.
use Rattle.std.proofs.Common.{arith}
use Rattle.am_syntax.proofs.NamingSteps.{named_formulas}
use Rattle.am_syntax.proofs.naming.+formulas.Goals as goal

pub named_formula-returns-in_ok-named_atom-in-Atom : goal.named_formula-returns-in_ok-named_atom-in-Atom
named_formula-returns-in_ok-named_atom-in-Atom t c = grind (arith, named_formulas)

pub named_formula-returns-in_ok-boxed_formula-in-Not : goal.named_formula-returns-in_ok-boxed_formula-in-Not
named_formula-returns-in_ok-boxed_formula-in-Not t c = grind (arith, named_formulas)

pub named_formula-returns-in_ok-parts-in-And : goal.named_formula-returns-in_ok-parts-in-And
named_formula-returns-in_ok-parts-in-And t c = grind (arith, named_formulas)

pub named_formula-returns-in_ok-parts-in-Or : goal.named_formula-returns-in_ok-parts-in-Or
named_formula-returns-in_ok-parts-in-Or t c = grind (arith, named_formulas)

pub named_formula-returns-in_ok-left-in-Implies : goal.named_formula-returns-in_ok-left-in-Implies
named_formula-returns-in_ok-left-in-Implies t c = grind (arith, named_formulas)

pub named_formula-returns-in_ok-left-in-Iff : goal.named_formula-returns-in_ok-left-in-Iff
named_formula-returns-in_ok-left-in-Iff t c = grind (arith, named_formulas)

pub named_formulas-loop-formula-preserved : goal.named_formulas-loop-formula-preserved
named_formulas-loop-formula-preserved t c = grind (arith, named_formulas)
