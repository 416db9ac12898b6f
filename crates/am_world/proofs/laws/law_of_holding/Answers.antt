use Rattle.am_world.specs.Questions.{Meets}
use Rattle.am_world.proofs.Merging.{merged-holds-for}
use Rattle.am_world.proofs.Renumbered.{renumbered-holds}
use Rattle.am_world.proofs.laws.law_of_holding.Goals as goal

pub returns : goal.returns
returns c = record {
  merged = λ sig w ins objects outputs required. merged-holds-for w ins sig (Meets w objects outputs required ins);
  renumbered = λ sig w ins objects outputs required. renumbered-holds sig w ins (Meets w objects outputs required ins);
}
