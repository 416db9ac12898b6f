use Rattle.std.proofs.Common.{◌≡◌, IfOk, subst, sym}
use Rattle.am_exec.specs.States.{Store}
use Rattle.am_exec.proofs.Stores.{copy_entry}
use Rattle.am_exec.proofs.effects.copied.Goals as goal

pub returns-in-Some-at : goal.returns-in-Some-at
returns-in-Some-at c =
    subst (λ (s : Store). IfOk c.targeted.result (λ (made : Store). made ≡ s))
    (sym (copy_entry c.args.args.now _ _ _ _ c.in-Some.ensures c.in_ok-term-in-Some.ensures c.in-Some-at.ensures))
    c.targeted.ensures
