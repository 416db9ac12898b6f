use Rattle.std.proofs.Common.{sym, subst, arith, List}
use Rattle.std.proofs.lemmas.Option.{slice_get_within}
use Rattle.am_clause.specs.declared.row.Row.{Row}
use Rattle.am_check.specs.FirstFault.{IsFirstBad}
use Rattle.am_check.specs.Phases.{AreSorted}
use Rattle.am_check.proofs.Rows.{written-sorted}
use Rattle.am_check.proofs.Deciding.{bad-place, first-in}
use Rattle.am_check.proofs.proving.proved.Goals as goal

pub first_bad-requires-clause-sorted : goal.first_bad-requires-clause-sorted
first_bad-requires-clause-sorted c =
    subst (AreSorted c.args.theory.now c.args.diagram.now) (sym c.as_slice-rows.ensures) (written-sorted c.args.theory.now c.args.diagram.now 1 c.in_ok-log.log.rows c.in_ok-log.ensures.found.has_text)

-- the first bad row is one of the log
pub overflow_add-place : goal.overflow_add-place
overflow_add-place c =
    let f = first-in c.args.theory.now c.args.diagram.now c.as_slice-rows.result.now c.in_ok-place.field-0 c.in-Some.place c.in-Some.fault c.in_ok-place.ensures c.in-Some.is in
    let w = slice_get_within c.as_slice-rows.result.now c.in-Some.place f.row f.there in
    omega (arith, w)

pub returns-in-Some-clause-fault : goal.returns-in-Some-clause-fault
returns-in-Some-clause-fault c =
    let f = first-in c.args.theory.now c.args.diagram.now c.as_slice-rows.result.now c.in_ok-place.field-0 c.in-Some.place c.in-Some.fault c.in_ok-place.ensures c.in-Some.is in
    let g = subst (λ (rows : List Row). IsFirstBad c.args.theory.now c.args.diagram.now rows c.in-Some.place c.in-Some.fault) c.as_slice-rows.ensures f in
    bad-place c.args.theory.now c.args.diagram.now c.args.proof.now c.in_ok-log.log c.in-Some.place c.row_line.result c.in-Some.fault c.reason_of.result c.in_ok-log.ensures.found g c.row_line.ensures c.reason_of.ensures
