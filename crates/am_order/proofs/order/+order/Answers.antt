use Rattle.std.proofs.Common.{arith}
use Rattle.std.proofs.lemmas.Grind.{common_steps}
use Rattle.am_order.proofs.Quick.{differ-greater, differ-lesser}
use Rattle.am_order.proofs.order.+order.Goals as goal

-- the first argument that differs is greater
pub greater-returns-then-greater : goal.greater-returns-then-greater
greater-returns-then-greater t c =
    let g = differ-greater c.args.sig.now c.in-App-App.f c.in-App-App.g c.in-App-App.args c.in-App-App.others c.if-f-g.false c.common_front-i.result c.index-args-i.result c.index-others-i.result (grind (arith, common_steps)) (grind (arith, common_steps)) (grind (arith, common_steps)) (grind (arith, common_steps)) (grind (arith, common_steps)) (grind (arith, common_steps)) in
    grind (arith, common_steps, g)

-- it isn't
pub greater-returns-else-greater : goal.greater-returns-else-greater
greater-returns-else-greater t c =
    let g = differ-lesser c.args.sig.now c.in-App-App.f c.in-App-App.g c.in-App-App.args c.in-App-App.others c.if-f-g.false c.common_front-i.result c.index-args-i.result c.index-others-i.result (grind (arith, common_steps)) (grind (arith, common_steps)) (grind (arith, common_steps)) (grind (arith, common_steps)) (grind (arith, common_steps)) (grind (arith, common_steps)) in
    grind (arith, common_steps, g)
