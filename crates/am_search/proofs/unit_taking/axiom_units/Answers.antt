use Rattle.std.proofs.Common.{ap, sym, ◌∙◌}
use Rattle.std.specs.Option.{option_copied}
use Rattle.am_search.proofs.Processing.{one_axiom, no_axiom}
use Rattle.am_search.proofs.unit_taking.axiom_units.Goals as goal
use Rattle.am_search.proofs.unit_taking.axiom_units.Goals.{in-Some+in_ok-put-in-Some, in-None}

pub loop-i-preserved : goal.loop-i-preserved
loop-i-preserved c = elim c.match-find.branch [
  | in-Some+in_ok-put-in-Some w ↦ w.rewriter-is ∙ one_axiom c.args.setting.now.ctx.sig.now c.args.rows.now c.loop-i.i w.in-Some.row.now c.loop-i.rewriter _ (sym c.find.ensures ∙ ap option_copied w.in-Some.is) c.loop-i.invariant w.in_ok-put-in-Some.ensures
  | in-None w ↦ w.rewriter-is ∙ no_axiom c.args.setting.now.ctx.sig.now c.args.rows.now c.loop-i.i c.loop-i.rewriter (sym c.find.ensures ∙ ap option_copied w.in-None.is) c.loop-i.invariant
]
