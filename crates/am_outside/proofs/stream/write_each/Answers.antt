use Rattle.std.proofs.Common.{◌≡◌, take, drop, length, ◌+◌, ◌-◌, ◌++◌, arith, ap, sym, ◌∙◌, subst}
use Rattle.std.proofs.Math.Seq.{take-add}
use Rattle.std.proofs.lemmas.Grind.{common_steps}
use Rattle.std.proofs.KnownBytes.{Appends-trans}
use Rattle.std.specs.Io.KnownBytes.{Appends}
use Rattle.am_outside.proofs.stream.write_each.Goals as goal

pub loop-done-preserved : goal.loop-done-preserved
loop-done-preserved g c =
    let bytes = c.args.bytes.now in
    let done = c.loop-done.done in
    let count = c.in-Ok.count in
    let parts : take done bytes ++ take count (take (length bytes - done) (drop done bytes)) ≡ take (done + count) bytes =
    ap (λ part. take done bytes ++ part) (grind (arith, common_steps)) ∙ sym (take-add done count bytes) in (
      grind (arith, common_steps),
      subst (Appends (g.W.Write.contents c.args.writer.now) (g.W.Write.contents c.write.new.self)) parts
          (Appends-trans _ _ _ _ _ c.loop-done.invariant.1 (c.in-Ok.ensures {u = tt}).bytes),
    )
