-- What a state is read as, and how its parts hang together.
use Rattle.std.specs.Prelude.{◌≡◌, ◌≤◌, ◌<◌, ℕ, List, false, length}
use Rattle.am_clause.specs.declared.row.Row.{Row}
use Rattle.am_search.specs.Left.{rest_of}
use Rattle.am_search.specs.Marks.{was_chosen}
use Rattle.am_search.specs.Plain.{Judged, Reading}
use Rattle.am_search.specs.Processing.{processed_units}
use Rattle.am_search.specs.declared.setting.Setting.{Setting}
use Rattle.am_search.specs.declared.state.State.{State}

abbrev pub judged_in : State → Judged
judged_in s = record { fates = s.fates; left = s.left; stage = s.stage }

abbrev pub rest_in : Setting → State → List Row
rest_in t s = rest_of t.ctx.sig.now t.ctx.ins.now t.axioms s.rows s.ahead

abbrev pub as_read : Setting → State → Reading
as_read t s = record { rows = s.rows; choices = s.choices; judged = judged_in s; rest = rest_in t s }

-- the turn, the axiom rows and the choices name no row that isn't there, and the units are those of the processed rows
pub record Tied (t : Setting) (s : State) : Type 0 where
  pub count : s.ahead.turn.count ≤ length s.rows
  pub axioms : t.axioms ≤ length s.rows
  pub chosen : (n : ℕ) → length s.rows < n → was_chosen s.choices n ≡ false
  pub units : s.rewriter ≡ processed_units t.ctx.sig.now t.axioms s.rows s.choices
