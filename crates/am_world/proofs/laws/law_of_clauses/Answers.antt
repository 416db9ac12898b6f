use Rattle.am_world.proofs.Renamings.{holds-clauses, clauses-hold}
use Rattle.am_world.proofs.laws.law_of_clauses.Goals as goal

pub returns : goal.returns
returns c = λ sig w ins f. (holds-clauses w ins sig f, clauses-hold w ins sig f)
