use Rattle.std.proofs.Common.{arith, refl}
use Rattle.std.proofs.lemmas.Grind.{common_steps}
use Rattle.am_top.proofs.Growth.{grows_on, grows_part_on}
use Rattle.am_top.proofs.printing.put_lines.Goals as goal

pub loop-at-preserved : goal.loop-at-preserved
loop-at-preserved g c = record {
  within = grind (arith, common_steps);
  grown = grows_on _ _ _ c.args.text.now _ c.loop-at.at c.line_length.result c.loop-at.invariant.grown (grind (arith, common_steps)) (c.in-Done.ensures.done refl);
  kept = grind (arith, common_steps, c.in-Done.ensures.kept refl);
}

pub returns-in-Failed-clause-part : goal.returns-in-Failed-clause-part
returns-in-Failed-clause-part g c = λ _.
    grows_part_on _ _ _ c.args.text.now _ c.loop-at.at c.line_length.result c.loop-at.invariant.grown (grind (arith, common_steps)) (c.in-Failed.ensures.part refl)
