-- Each kind of formula is by its equation, and each step of the loop is one more formula.
use Rattle.std.proofs.Common.{arith}
use Rattle.am_syntax.proofs.FormEquations.{formula_form_laws}
use Rattle.am_syntax.proofs.forms.+formula_forms.Goals as goal

pub formula_form-returns-in-Atom : goal.formula_form-returns-in-Atom
formula_form-returns-in-Atom t c = grind (arith, formula_form_laws)

pub formula_form-returns-in-Not : goal.formula_form-returns-in-Not
formula_form-returns-in-Not t c = grind (arith, formula_form_laws)

pub formula_form-returns-in-And : goal.formula_form-returns-in-And
formula_form-returns-in-And t c = grind (arith, formula_form_laws)

pub formula_form-returns-in-Or : goal.formula_form-returns-in-Or
formula_form-returns-in-Or t c = grind (arith, formula_form_laws)

pub formula_form-returns-in_ok-left-in-Implies : goal.formula_form-returns-in_ok-left-in-Implies
formula_form-returns-in_ok-left-in-Implies t c = grind (arith, formula_form_laws)

pub formula_form-returns-in_ok-left-in-Iff : goal.formula_form-returns-in_ok-left-in-Iff
formula_form-returns-in_ok-left-in-Iff t c = grind (arith, formula_form_laws)

pub formula_form-returns-in-Quantified : goal.formula_form-returns-in-Quantified
formula_form-returns-in-Quantified t c = grind (arith, formula_form_laws)

pub joined_form-loop-formula-preserved : goal.joined_form-loop-formula-preserved
joined_form-loop-formula-preserved t c = grind (arith, formula_form_laws)
