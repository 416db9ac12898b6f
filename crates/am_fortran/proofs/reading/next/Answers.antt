use Rattle.std.proofs.Common.{◌≡◌, true, rules, arith, sym, subst, drop, List, ℕ}
use Rattle.std.proofs.lemmas.Result.{err_from_is_err_and}
use Rattle.am_fortran.specs.Drafts.{TellsFault, Unread, IsFirstItem, draft_items, is_out}
use Rattle.am_fortran.specs.declared.fault.ReadError.{ReadError}
use Rattle.am_fortran.proofs.Grouping.{rest_is}
use Rattle.am_fortran.proofs.Firsts.{out_misplaced}
use Rattle.am_fortran.proofs.Reached.{ready_reads, unread_fails, order_fails, reached}
use Rattle.am_fortran.proofs.reading.next.Goals as goal

pub returns-in_err-item-clause-err : goal.returns-in_err-item-clause-err
returns-in_err-item-clause-err c =
    let p = err_from_is_err_and c.from_residual.result c.from_residual.ensures.1 in
    let rest = rest_is c.args.bytes.now c.args.progress.at in
    rw (p.1, p.2) (unread_fails c.args.bytes.now (drop c.args.progress.at c.args.bytes.now) (draft_items c.args.progress.draft) c.args.progress.line c.in_err-item.field-0.0 (ready_reads c.args.bytes.now c.args.progress c.requires.reads)
    (subst (λ (t : List ℕ). Unread t c.args.progress.line c.in_err-item.field-0.0) rest c.in_err-item.ensures.err))

pub returns-in-Some-clause-ok : goal.returns-in-Some-clause-ok
returns-in-Some-clause-ok c =
    let rest = rest_is c.args.bytes.now c.args.progress.at in
    let found : IsFirstItem (drop c.args.progress.at c.args.bytes.now) c.in_ok-item.field-0 = subst (λ (t : List ℕ). IsFirstItem t c.in_ok-item.field-0) rest c.in_ok-item.ensures.ok in
    let items : draft_items c.in-Some.draft ≡ _ = search rules in
    (reached c.args.bytes.now c.args.progress c.in_ok-item.field-0 c.in-Some.draft c.requires.reads found items, omega (arith, found.front.some))

pub returns-in-None-clause-err : goal.returns-in-None-clause-err
returns-in-None-clause-err c =
    let rest = rest_is c.args.bytes.now c.args.progress.at in
    let found : IsFirstItem (drop c.args.progress.at c.args.bytes.now) c.in_ok-item.field-0 = subst (λ (t : List ℕ). IsFirstItem t c.in_ok-item.field-0) rest c.in_ok-item.ensures.ok in
    let out : is_out c.args.progress.draft c.in_ok-item.field-0.item ≡ true = search rules in
    subst (λ (e : ReadError). TellsFault c.args.bytes.now e) (sym c.fault.ensures)
    (order_fails c.args.bytes.now (drop c.args.progress.at c.args.bytes.now) (draft_items c.args.progress.draft) c.args.progress.line c.in_ok-item.field-0 (ready_reads c.args.bytes.now c.args.progress c.requires.reads) found
    (out_misplaced c.args.progress.draft _ c.in_ok-item.field-0.item c.requires.reads.kept out))
