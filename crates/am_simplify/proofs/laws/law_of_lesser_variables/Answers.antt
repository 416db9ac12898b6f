use Rattle.am_simplify.proofs.Lesser.{lesser}
use Rattle.am_simplify.proofs.laws.law_of_lesser_variables.Goals as goal

pub returns : goal.returns
returns c sig s t g n r o = lesser sig n r s t g o
