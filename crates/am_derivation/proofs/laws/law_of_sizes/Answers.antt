use Rattle.am_derivation.proofs.Nestings.{nesting-few}
use Rattle.am_derivation.proofs.SmallLogs.{logs-small, logs-low}
use Rattle.am_derivation.proofs.laws.law_of_sizes.Goals as goal

pub returns : goal.returns
returns c = record { few = nesting-few; small = logs-small; low = logs-low }
