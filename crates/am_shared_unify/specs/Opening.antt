-- Words of private contracts: what a pair of ids asks for, and what is left when the next binding is known, over the
-- ids' terms.
use Rattle.std.specs.Prelude.{◌+◌, ℕ, List, max}
use Rattle.am_unify.specs.declared.opening.Opened as plain_opened
use Rattle.am_unify.specs.declared.opening.Opened.TheVariants as opened
use Rattle.am_unify.specs.declared.solving.Step as plain_step
use Rattle.am_unify.specs.declared.solving.Step.TheVariants as step
use Rattle.am_bank.specs.Node.{Shared}
use Rattle.am_sharing.specs.Terms.{term_at}
use Rattle.am_shared_unify.specs.declared.opening.Opened.{Opened}
use Rattle.am_shared_unify.specs.declared.opening.Opened.TheVariants.{More, Bind, Clash}
use Rattle.am_shared_unify.specs.declared.solving.Step.{Step}
use Rattle.am_shared_unify.specs.declared.solving.Step.TheVariants.{Done, Stuck, Next}
use Rattle.am_shared_unify.specs.Sides.{term_sides}
use Rattle.am_shared_unify.specs.Unifying.{pair_ids_bound}

-- what a pair asks for, with the ids' terms
abbrev pub opened_at : List Shared → Opened → plain_opened.Opened
opened_at ns (More ps) = opened.More (term_sides ns ps)
opened_at ns (Bind n id) = opened.Bind n (term_at ns id.0)
opened_at ns Clash = opened.Clash

-- one more than its greatest id, and 0 if it has none
abbrev pub opened_bound : Opened → ℕ
opened_bound (More ps) = pair_ids_bound ps
opened_bound (Bind n id) = id.0 + 1
opened_bound Clash = 0

-- what comes next, with the ids' terms
abbrev pub step_at : List Shared → Step → plain_step.Step
step_at ns Done = step.Done
step_at ns Stuck = step.Stuck
step_at ns (Next n id rest) = step.Next n (term_at ns id.0) (term_sides ns rest)

-- one more than the greatest id of it, and 0 if it has none
abbrev pub step_bound : Step → ℕ
step_bound Done = 0
step_bound Stuck = 0
step_bound (Next n id rest) = max (id.0 + 1) (pair_ids_bound rest)
