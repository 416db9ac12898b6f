use Rattle.std.proofs.Common.{◌≡◌, arith, sym, subst, length}
use Rattle.std.proofs.lemmas.Grind.{common_steps}
use Rattle.std.proofs.lemmas.Result.{err_from_is_err_and}
use Rattle.am_fortran.specs.Drafts.{TellsFault}
use Rattle.am_fortran.specs.declared.fault.ReadError.{ReadError}
use Rattle.am_fortran.proofs.Firsts.{first_misplaced}
use Rattle.am_fortran.proofs.Reached.{ready_start, empty_fails, unread_fails, order_fails}
use Rattle.am_fortran.proofs.reading.start.Goals as goal

pub returns-then-is_empty-clause-err : goal.returns-then-is_empty-clause-err
returns-then-is_empty-clause-err c =
    let none : length c.args.bytes.now ≡ 0 = grind (arith, common_steps) in
    subst (λ (e : ReadError). TellsFault c.args.bytes.now e) (sym c.fault.ensures) (empty_fails c.args.bytes.now none)

pub returns-in_err-item-clause-err : goal.returns-in_err-item-clause-err
returns-in_err-item-clause-err c =
    let p = err_from_is_err_and c.from_residual.result c.from_residual.ensures.1 in
    rw (p.1, p.2) (unread_fails c.args.bytes.now c.args.bytes.now _ 1 c.in_err-item.field-0.0 (ready_start c.args.bytes.now) c.in_err-item.ensures.err)

pub returns-in-None-clause-err : goal.returns-in-None-clause-err
returns-in-None-clause-err c =
    subst (λ (e : ReadError). TellsFault c.args.bytes.now e) (sym c.fault-in-None.ensures)
    (order_fails c.args.bytes.now c.args.bytes.now _ 1 c.in_ok-item.field-0 (ready_start c.args.bytes.now) c.in_ok-item.ensures.ok (first_misplaced _ c.in_ok-item.field-0.item c.in-None.ensures))
