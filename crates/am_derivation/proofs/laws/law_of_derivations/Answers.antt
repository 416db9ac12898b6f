use Rattle.am_derivation.proofs.Derived.{histories-proofs}
use Rattle.am_derivation.proofs.laws.law_of_derivations.Goals as goal

pub returns : goal.returns
returns c = histories-proofs
