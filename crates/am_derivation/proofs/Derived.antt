-- The rows of a search are a proof.
use Rattle.std.proofs.Common.{◌++◌, sym, subst, List, [], ◌∷◌, length}
use Rattle.std.proofs.lemmas.List.{append_assoc, append-nil}
use Rattle.am_term.specs.declared.id.SortId.{SortId}
use Rattle.am_term.specs.declared.signature.Signature.{Signature}
use Rattle.am_clause.specs.declared.row.Row.{Row}
use Rattle.am_clause.specs.Steps.{Sources, IsStep, AreSteps}
use Rattle.am_diagram.specs.Listed.{entry_sorts}
use Rattle.am_diagram.specs.Steps.{sources}
use Rattle.am_search.specs.Plain.{History, Start, Then, Choose, Infer, rows}
use Rattle.am_search.specs.Replay.{Logged, IsReplayed as IsAnswered}
use Rattle.am_search.specs.Starting.{starting_rows, theory_rows}
use Rattle.am_search.proofs.Replayed.{steps_law}
use Rattle.am_derivation.specs.Laws.{HistoriesAreProofs}
use Rattle.am_derivation.proofs.InferredRows.{replayed}
use Rattle.am_derivation.proofs.StartingRows.{starting-proof}

module _ (sig : Signature) (ins : List SortId) (from : Sources) where
  -- one row more
  steps-more : (before rs : List Row) (row : Row) → AreSteps sig ins from before rs
      → IsStep sig ins from (before ++ rs) row → AreSteps sig ins from before (rs ++ row ∷ [])
  steps-more before [] row s h = (subst (λ (z : List Row). IsStep sig ins from z row) (append-nil before) h, tt)
  steps-more before (r ∷ rs) row s h = (
    s.0,
    steps-more (before ++ r ∷ []) rs row s.1
        (subst (λ (z : List Row). IsStep sig ins from z row) (sym (append_assoc before (r ∷ []) rs)) h),
  )

  -- a row that its rule's call answers
  answered-step : (rs : List Row) (row : Row) → AreSteps sig ins from [] rs → IsAnswered sig ins rs row
      → IsStep sig ins from rs row
  answered-step rs row s e =
      let step = replayed sig ins from rs s (record { clause = row.clause; with = row.with }) row.rule e in
      record { follows = step.follows; sorted = step.sorted; numbered = step.numbered }

  logged-steps : (start : List Row) (h : History) → AreSteps sig ins from [] start → Logged sig ins start h
      → AreSteps sig ins from [] (rows start h)
  logged-steps start Start s l = s
  logged-steps start (Then h (Choose n)) s l = logged-steps start h s l
  logged-steps start (Then h (Infer row)) s l =
      let before = logged-steps start h s l.1 in
      steps-more [] (rows start h) row before (answered-step (rows start h) row before l.0)

pub histories-proofs : HistoriesAreProofs
histories-proofs t d wt wd weight h f =
    logged-steps t.sig (entry_sorts d.inputs) (sources t d) (starting_rows t d) h (starting-proof t d wt wd)
    (steps_law t.sig (entry_sorts d.inputs) weight (length (theory_rows t)) (length (starting_rows t d))
    (starting_rows t d) h f)
