use Rattle.am_acceptance.proofs.Accepting.{products-accepted}
use Rattle.am_acceptance.proofs.Writable.{logs-written}
use Rattle.am_acceptance.proofs.laws.law_of_products.Goals as goal

pub returns : goal.returns
returns c = products-accepted logs-written
