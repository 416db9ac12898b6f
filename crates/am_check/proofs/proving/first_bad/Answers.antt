use Rattle.std.proofs.Common.{◌∙◌, sym, arith}
use Rattle.std.proofs.lemmas.Grind.{common_steps}
use Rattle.am_check.proofs.Rows.{proof-next}
use Rattle.am_check.proofs.proving.first_bad.Goals as goal

-- the row is a step, as it has no fault
pub loop-place-preserved : goal.loop-place-preserved
loop-place-preserved c =
    proof-next c.args.theory.now c.args.diagram.now c.args.rows.now c.loop-place.place c.index-rows-place.result c.requires.sorted (grind (arith, common_steps)) (grind (arith, common_steps)) c.loop-place.invariant
    (sym (c.in_ok-fault.ensures c.args.diagram.now c.in_ok-origin.ensures) ∙ c.in_default.is)
