use Rattle.std.proofs.Common.{length}
use Rattle.am_plan.proofs.answering.+are_servers.Given as goal

abbrev pub decreases-are_servers : goal.decreases-are_servers
decreases-are_servers l = length l.outputs.now
