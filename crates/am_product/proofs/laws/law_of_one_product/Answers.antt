use Rattle.am_product.proofs.Joined.{one-product}
use Rattle.am_product.proofs.laws.law_of_one_product.Goals as goal

pub returns : goal.returns
returns c = one-product
