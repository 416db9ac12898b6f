use Rattle.am_syntax.proofs.Writable.{spelled_formula_writable}
use Rattle.am_syntax.proofs.laws_of_shapes.spelled_formulas_can_be_written.Goals as goal

pub returns : goal.returns
returns c = spelled_formula_writable
