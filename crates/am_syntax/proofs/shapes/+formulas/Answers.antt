-- Each kind of term is by its equation, and each step of the loop is one more term.
use Rattle.std.proofs.Common.{arith}
use Rattle.am_syntax.proofs.FormulaEquations.{formula_laws}
use Rattle.am_syntax.proofs.shapes.+formulas.Goals as goal

pub formula_of-returns-in-Word : goal.formula_of-returns-in-Word
formula_of-returns-in-Word t c = grind (arith, formula_laws)

pub formula_of-returns-in-Number : goal.formula_of-returns-in-Number
formula_of-returns-in-Number t c = grind (arith, formula_laws)

pub formula_of-returns-in-Text : goal.formula_of-returns-in-Text
formula_of-returns-in-Text t c = grind (arith, formula_laws)

pub all_formulas-loop-form-preserved : goal.all_formulas-loop-form-preserved
all_formulas-loop-form-preserved t c = grind (arith, formula_laws)
