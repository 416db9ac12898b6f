-- A turn is made in order.
use Rattle.std.specs.Prelude.{List, ◌≡◌, ◌∷◌, [], ◌++◌}
use Rattle.std.proofs.Common.{append_assoc, ◌∙◌, ap, sym, refl}
use Rattle.am_clause.specs.declared.row.Row.{Row}
use Rattle.am_search.specs.Laws.{made_then, TurnInOrder, made_of_turn, whole_turn}
use Rattle.am_search.specs.Plain.{due_turn, Infers, behind, due_at, rest_after, Start, Then, Choose, Infer, wait_list, rest, judged}
use Rattle.am_agenda.specs.declared.wait_row.WaitRow.{WaitRow}
use Rattle.am_search.specs.declared.fate.Stage.{Stage}
use Rattle.am_search.specs.declared.fate.Stage.TheVariants.{Quiet, Makes, Closes, Ended}

-- what is due where the last row asks for nothing and something is left of the turn is its first
first_due : (waits : List WaitRow) (rs : List Row) (row : Row) → due_turn waits rs ≡ Infers row → rs ≡ row ∷ behind rs
first_due waits (r ∷ rs) row is = cc
first_due (w ∷ ws) [] row is = cc
first_due [] [] row is = cc

next_made : (waits : List WaitRow) (rs made all : List Row) (stage : Stage) (row : Row) → due_at waits rs stage ≡ Infers row → made ++ rs ≡ all → made_then stage made row ++ rest_after stage rs ≡ all
next_made waits rs made all Quiet row is before = append_assoc made (row ∷ []) (behind rs) ∙ ap (λ xs. made ++ xs) (sym (first_due waits rs row is)) ∙ before
next_made waits rs made all (Makes r) row is before = before
next_made waits rs made all (Closes r) row is before = before
next_made waits rs made all (Ended b) row is before = before

pub turn_in_order : TurnInOrder
turn_in_order c start Start f = refl
turn_in_order c start (Then h (Choose n)) f = refl
turn_in_order c start (Then h (Infer row)) f =
    next_made (wait_list c start h) (rest c start h) (made_of_turn c start h) (whole_turn c start h) (judged c start h).stage row f.0 (turn_in_order c start h f.1)
