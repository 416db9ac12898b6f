use Rattle.am_syntax.proofs.ReadSpelled.{read_formula_is_spellable}
use Rattle.am_syntax.proofs.laws_of_shapes.read_formulas_can_be_spelled.Goals as goal

pub returns : goal.returns
returns c = read_formula_is_spellable
