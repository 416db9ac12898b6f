use Rattle.am_unify.proofs.Renamed.{idempotent}
use Rattle.am_unify.proofs.Solved.{factors-term, mgu-solved}
use Rattle.am_unify.proofs.laws.law_of_most_general.Goals as goal

pub returns-clause-solved : goal.returns-clause-solved
returns-clause-solved c = mgu-solved

pub returns-clause-idempotent : goal.returns-clause-idempotent
returns-clause-idempotent c = idempotent

pub returns-clause-terms : goal.returns-clause-terms
returns-clause-terms c sig ins sorts σ θ ps h u t f = factors-term sig ins sorts θ σ (h.factors θ u) t f
