use Rattle.am_unify.proofs.Steps.{mgu-none, mgu-more}
use Rattle.am_unify.proofs.Renamed.{left-bound}
use Rattle.am_unify.proofs.laws.law_of_mgu.Goals as goal

pub returns-clause-none : goal.returns-clause-none
returns-clause-none c = mgu-none

pub returns-clause-step : goal.returns-clause-step
returns-clause-step c = mgu-more

pub returns-clause-left : goal.returns-clause-left
returns-clause-left c = left-bound
