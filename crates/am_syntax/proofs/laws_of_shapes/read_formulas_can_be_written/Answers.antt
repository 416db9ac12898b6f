use Rattle.am_syntax.proofs.FormAgain.{read_formula_writable}
use Rattle.am_syntax.proofs.laws_of_shapes.read_formulas_can_be_written.Goals as goal

pub returns : goal.returns
returns c = read_formula_writable
