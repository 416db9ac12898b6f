use Rattle.std.proofs.Common.{◌<◌, ◌≤◌, ◌∙◌, ℕ, List, sym, ap, subst, length, arith}
use Rattle.am_unify.specs.Occurrence.{count_of_numbers}
use Rattle.am_unify.specs.Opening.{Reaches}
use Rattle.am_unify.specs.Substitution.{apply, replace_in}
use Rattle.am_bank.specs.declared.id.TermId.{TermId}
use Rattle.am_bank.proofs.Built.{grows-on}
use Rattle.am_sharing.specs.Pairs.{answer_at, answer_bound, insert_id, pairs_bound}
use Rattle.am_sharing.specs.Terms.{term_at}
use Rattle.am_sharing.proofs.Sorted.{grown}
use Rattle.am_shared_unify.specs.declared.solving.Step.{Step}
use Rattle.am_shared_unify.specs.Opening.{step_at, step_bound}
use Rattle.am_shared_unify.specs.Sides.{listed_at, term_sides}
use Rattle.am_shared_unify.proofs.Solved.{fewer-behind, inserted-bound, one-before}
use Rattle.am_shared_unify.proofs.solving.+solve.Goals as goal

-- what is left after a binding has fewer variables, and the table serves the bank that grew
pub solve-requires : goal.solve-requires
solve-requires t c =
    let next = subst (λ (s : Step). Reaches c.args.ctx.now.sig.now c.args.ctx.now.ins.now (term_sides c.args.bank.now c.args.pairs) (step_at c.args.bank.now s)) c.in-Next.is c.in_ok-next_binding.ensures.is in
    let is = c.in_ok-left-in-Next.ensures.is ∙ ap (λ (ps : List (TermId × TermId)). replace_in c.in-Next.n (term_at c.args.bank.now c.in-Next.id.0) (term_sides c.args.bank.now ps)) c.as_slice.ensures in
    let less : count_of_numbers (term_sides c.replaced_in.new.bank c.in_ok-left-in-Next.left) < count_of_numbers (term_sides c.args.bank.now c.args.pairs) =
    fewer-behind c.args.ctx.now.sig.now c.args.ctx.now.ins.now c.args.bank.now c.replaced_in.new.bank (term_sides c.args.bank.now c.args.pairs) c.in-Next.rest c.in_ok-left-in-Next.left c.in-Next.n c.in-Next.id next is in (
      omega (arith, less, c.decreases),
      (
        c.in_ok-left-in-Next.ensures.within,
        grown c.args.ctx.now.sig.now c.args.ctx.now.ins.now c.args.bank.now c.replaced_in.new.bank c.replaced_in.ensures.grows c.next_binding.new.table c.next_binding.ensures.table,
      ),
    )

-- the binding before those of what is left
pub returns-in-Some-clause-is : goal.returns-in-Some-clause-is
returns-in-Some-clause-is t c =
    let next = subst (λ (s : Step). Reaches c.args.ctx.now.sig.now c.args.ctx.now.ins.now (term_sides c.args.bank.now c.args.pairs) (step_at c.args.bank.now s)) c.in-Next.is c.in_ok-next_binding.ensures.is in
    let is = c.in_ok-left-in-Next.ensures.is ∙ ap (λ (ps : List (TermId × TermId)). replace_in c.in-Next.n (term_at c.args.bank.now c.in-Next.id.0) (term_sides c.args.bank.now ps)) c.as_slice.ensures in
    let step = ap step_bound c.in-Next.is in
    let below = c.in_ok-next_binding.ensures.within in
    let answer = ap answer_bound c.in-Some.is in
    let all = c.in_ok-found-in-Next.ensures.within in
    let inside : c.in-Next.id.0 < length c.args.bank.now = omega arith in
    let within : pairs_bound c.in-Some.found ≤ length c.solve.new.bank = omega arith in
    one-before c.args.ctx.now.sig.now c.args.ctx.now.ins.now c.args.bank.now c.replaced_in.new.bank (term_sides c.args.bank.now c.args.pairs) c.in-Next.rest c.in_ok-left-in-Next.left c.in-Next.n c.in-Next.id next is
    c.solve.new.bank c.applied.new.bank c.in-Some.found c.in_ok-inserted-in-Some.field-0 c.in_ok-image-in-Some.image
    (grows-on c.args.bank.now c.replaced_in.new.bank c.solve.new.bank c.replaced_in.ensures.grows c.solve.ensures.grows) c.applied.ensures.grows inside within
    (sym (ap (answer_at c.solve.new.bank) c.in-Some.is) ∙ c.in_ok-found-in-Next.ensures.is)
    (c.in_ok-image-in-Some.ensures.is ∙ ap (λ (ps : List (ℕ × TermId)). apply (listed_at c.solve.new.bank ps) (term_at c.solve.new.bank c.in-Next.id.0)) c.as_slice-in-Some.ensures)
    (c.in_ok-inserted-in-Some.ensures ∙ ap (insert_id c.in-Next.n c.in_ok-image-in-Some.image) c.as_slice-in-Some-2.ensures)

pub returns-in-Some-clause-within : goal.returns-in-Some-clause-within
returns-in-Some-clause-within t c =
    let answer = ap answer_bound c.in-Some.is in
    let all = c.in_ok-found-in-Next.ensures.within in
    let longer = c.applied.ensures.longer in
    let within : pairs_bound c.in-Some.found ≤ length c.applied.new.bank = omega arith in
    inserted-bound c.in-Next.n c.in_ok-image-in-Some.image c.in-Some.found c.in_ok-inserted-in-Some.field-0 (length c.applied.new.bank)
    (c.in_ok-inserted-in-Some.ensures ∙ ap (insert_id c.in-Next.n c.in_ok-image-in-Some.image) c.as_slice-in-Some-2.ensures) c.in_ok-image-in-Some.ensures.within within
