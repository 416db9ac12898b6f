-- the units among the first rows
use Rattle.std.specs.Prelude.{◌≡◌, []}
use Rattle.am_search.specs.Processing.{processed_units}
use Rattle.am_search.proofs.unit_taking.axiom_units.Given as goal

abbrev pub invariant-loop-i : goal.invariant-loop-i
invariant-loop-i l = l.rewriter ≡ processed_units l.setting.ctx.sig.now l.i l.rows []
