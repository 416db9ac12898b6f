use Rattle.std.proofs.Common.{◌≡◌, true, false, drop, sym, ap, subst, ◌∙◌, List, ℕ}
use Rattle.am_fortran.specs.Lines.{lines_of, goes_on}
use Rattle.am_fortran.specs.Drafts.{IsLineFront}
use Rattle.am_fortran.proofs.Grouping.{rest_is, goes_some, front_more, front_group}
use Rattle.am_fortran.proofs.lines.first_group.Goals as goal

pub first_line-end-requires-in-loop-end : goal.first_line-end-requires-in-loop-end
first_line-end-requires-in-loop-end c =
    let rest = rest_is c.args.bytes.now c.loop-end.end in
    let on : goes_on (lines_of (drop c.loop-end.end c.args.bytes.now)) ≡ true = sym (ap (λ (t : List ℕ). goes_on (lines_of t)) rest) ∙ sym c.goes_on.ensures ∙ c.loop-end-test.true in
    rw rest (goes_some (drop c.loop-end.end c.args.bytes.now) on)

pub loop-end-preserved : goal.loop-end-preserved
loop-end-preserved c =
    let rest = rest_is c.args.bytes.now c.loop-end.end in
    let on : goes_on (lines_of (drop c.loop-end.end c.args.bytes.now)) ≡ true = sym (ap (λ (t : List ℕ). goes_on (lines_of t)) rest) ∙ sym c.goes_on.ensures ∙ c.loop-end-test.true in
    front_more c.args.bytes.now c.loop-end.end c.loop-end.count c.first_line-end-in-loop-end.result c.loop-end.invariant on
    (subst (λ (t : List ℕ). IsLineFront t c.first_line-end-in-loop-end.result) rest c.first_line-end-in-loop-end.ensures)

pub returns : goal.returns
returns c =
    let rest = rest_is c.args.bytes.now c.loop-end.end in
    let on : goes_on (lines_of (drop c.loop-end.end c.args.bytes.now)) ≡ false = sym (ap (λ (t : List ℕ). goes_on (lines_of t)) rest) ∙ sym c.goes_on.ensures ∙ c.loop-end-test.false in
    front_group c.args.bytes.now c.loop-end.end c.loop-end.count c.loop-end.invariant on
