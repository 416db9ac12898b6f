use Rattle.am_syntax.proofs.FormAgain.{read_formula_is_no_higher}
use Rattle.am_syntax.proofs.laws_of_shapes.read_formulas_are_no_higher.Goals as goal

pub returns : goal.returns
returns c = read_formula_is_no_higher
