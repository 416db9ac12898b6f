-- what is left decides
use Rattle.std.specs.Prelude.{◌≡◌, ◌+◌, length, map}
use Rattle.std.specs.List.{filter}
use Rattle.am_search.specs.Members.{clause_rows, kept_rows, is_standing, numbered_rows}
use Rattle.am_search.specs.Weights.{row_features}
use Rattle.am_simplify.specs.Reasons.{subsumer}
use Rattle.am_search.proofs.lookups.first_among.Given as goal

abbrev pub invariant-loop-rest : goal.invariant-loop-rest
invariant-loop-rest l = record {
  features : l.others ≡ map row_features l.rest;
  decides : subsumer l.setting.ctx.sig.now l.setting.ctx.ins.now (clause_rows (kept_rows l.setting.axioms l.rows l.fates)) l.clause
      ≡ subsumer l.setting.ctx.sig.now l.setting.ctx.ins.now (clause_rows (filter (is_standing l.setting.axioms l.fates) (numbered_rows (l.number + 1) l.rest))) l.clause;
}

abbrev pub decreases-loop-rest : goal.decreases-loop-rest
decreases-loop-rest l = length l.rest
