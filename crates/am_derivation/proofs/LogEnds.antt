-- The log of a search ends with its last row: without literals and variables, and with an answer where one was found.
use Rattle.std.proofs.Common.{◌≡◌, ◌∙◌, ◌++◌, ℕ, Bool, true, false, refl, sym, ap, subst}
use Rattle.std.proofs.Common.{List, [], ◌∷◌, length, nat_lt, Option, Some, None, option_map, is_some, if◌then◌else◌}
use Rattle.am_term.specs.declared.term.Literal.{Literal}
use Rattle.am_term.specs.declared.term.Term.{Term}
use Rattle.am_clause.specs.declared.clause.Clause.{Clause}
use Rattle.am_clause.specs.declared.row.Row.{Row}
use Rattle.am_clause.specs.Steps.{clause_at}
use Rattle.am_clause.specs.Variables.{variables}
use Rattle.am_agenda.specs.declared.wait_row.WaitRow.{WaitRow}
use Rattle.am_theory.specs.declared.theory.Theory.{Theory}
use Rattle.am_theory.specs.Facts.{WellFormed}
use Rattle.am_diagram.specs.declared.diagram.Diagram.{Diagram}
use Rattle.am_diagram.specs.Facts.{WellFormed as WellDrawn}
use Rattle.am_diagram.specs.Listed.{entry_sorts}
use Rattle.am_diagram.specs.Steps.{sources, IsProof}
use Rattle.am_lineage.proofs.Lineage.{ancestors-end}
use Rattle.am_search.specs.Members.{row_at}
use Rattle.am_search.specs.Outcomes.{last_from}
use Rattle.am_search.specs.Plain.{History, EachIsDue, rows, judged, rest, wait_list, inferences}
use Rattle.am_search.specs.Plain.{Due, Ends, Infers, Chooses, due, due_at, due_turn, end_by}
use Rattle.am_search.specs.Rules.{Rules}
use Rattle.am_search.specs.Searched.{IsLogOf, HasLog, end_of, rules_for}
use Rattle.am_search.specs.Starting.{starting_rows, theory_rows}
use Rattle.am_search.specs.declared.fate.End.{End}
use Rattle.am_search.specs.declared.fate.End.TheVariants as end
use Rattle.am_search.specs.declared.fate.Fate.TheVariants.{Last}
use Rattle.am_search.specs.declared.fate.Prepared.{Prepared}
use Rattle.am_search.specs.declared.fate.Stage.{Stage}
use Rattle.am_search.specs.declared.fate.Stage.TheVariants.{Quiet, Makes, Closes, Ended}
use Rattle.am_search.specs.declared.outcome.Outcome.{Outcome}
use Rattle.am_search.specs.declared.outcome.Outcome.TheVariants.{Found, Spent, Exhausted, Contradiction}
use Rattle.am_term.specs.declared.signature.Signature.{Signature}
use Rattle.am_simplify.specs.Reasons.{is_uncomputed}
use Rattle.am_derivation.specs.Laws.{answering, contradictory, EndsWithAnswer, EndsSo, LogsEndSo}
use Rattle.am_derivation.proofs.ClosedEnds.{HasEnd, clause_with}
use Rattle.am_derivation.proofs.Derived.{histories-proofs}
use Rattle.am_derivation.proofs.InferredRows.{found}
use Rattle.am_derivation.proofs.LastRows.{EndsBy, ends-by}

-- ---- an end by a row

abbrev by_answer : Bool → End
by_answer b = if b then end.Found else end.Contradiction

quiet-ends : (waits : List WaitRow) (xs : List Row) (b : Bool) → due_turn waits xs ≡ Ends (by_answer b) → ⊥
quiet-ends waits (x ∷ xs) b is = cc
quiet-ends (w ∷ ws) [] b is = cc
quiet-ends [] [] true is = cc
quiet-ends [] [] false is = cc

ended-by : (waits : List WaitRow) (xs : List Row) (s : Stage) (b : Bool) → due_at waits xs s ≡ Ends (by_answer b)
    → s ≡ Ended b
ended-by waits xs Quiet b is = absurd (quiet-ends waits xs b is)
ended-by waits xs (Makes row) b is = absurd cc
ended-by waits xs (Closes row) b is = absurd cc
ended-by waits xs (Ended true) true is = refl
ended-by waits xs (Ended false) false is = refl
ended-by waits xs (Ended true) false is = absurd cc
ended-by waits xs (Ended false) true is = absurd cc

not-spent : (x b : Bool) → (if x then None else Some end.Spent) ≡ Some (by_answer b) → ⊥
not-spent true b is = cc
not-spent false true is = cc
not-spent false false is = cc

-- where it is not spent, the end is what is due
by-due : (limit made : ℕ) (u : Due) (b : Bool) → end_by limit made u ≡ Some (by_answer b) → u ≡ Ends (by_answer b)
by-due limit made (Infers row) b is = absurd (not-spent (nat_lt made limit) b is)
by-due limit made Chooses b is = absurd cc
by-due limit made (Ends e) b is = let same : e ≡ by_answer b = cc in ap Ends same

ended-stage : (c : Rules) (start : List Row) (h : History) (limit : ℕ) (b : Bool)
    → end_by limit (inferences h) (due c start h) ≡ Some (by_answer b) → (judged c start h).stage ≡ Ended b
ended-stage c start h limit b is =
    ended-by (wait_list c start h) (rest c start h) (judged c start h).stage b
    (by-due limit (inferences h) (due c start h) b is)

-- ---- the last row of the log

abbrev last_fate : ℕ → Prepared
last_fate n = record { number = n; fate = Last }

last-from-end : (n : ℕ) (earlier : List Prepared) (p : Prepared) → last_from n (earlier ++ p ∷ []) ≡ p.number
last-from-end n [] p = refl
last-from-end n (q ∷ earlier) p = last-from-end q.number earlier p

-- the last row's clause
record EndsAs (sig : Signature) (log : List Row) (b : Bool) : Type 0 where
  clause : Clause
  ends : clause_at log (length log) ≡ Some clause
  has : HasEnd sig clause b

log-ends : (t : Theory) (d : Diagram) (rs : List Row) (fates : List Prepared) (log : List Row) (b : Bool)
    → IsProof t d rs → EndsBy t.sig rs fates b → IsLogOf rs fates log → EndsAs t.sig log b
log-ends t d rs fates log b s e l =
    let n : ℕ = l.last.number in
    let same : e.number ≡ n =
    sym (last-from-end 0 e.earlier (last_fate e.number))
    ∙ (ap (last_from 0) (sym e.fates_are ∙ l.last.fates_are) ∙ last-from-end 0 l.last.earlier (last_fate n)) in
    let at_ : row_at rs n ≡ Some e.row = subst (λ (k : ℕ). row_at rs k ≡ Some e.row) same e.stands in
    let there : clause_at rs n ≡ Some e.row.clause =
    ap (option_map (λ (x : Row). x.clause)) (found rs n e.row at_) in
    record {
      clause = e.row.clause;
      ends = ancestors-end rs n log l.ancestors t.sig (entry_sorts d.inputs) (sources t d) s e.row.clause there;
      has = e.has;
    }

with-answer : (ls : List Literal) (a : Option (List Term)) → ls ≡ [] → is_some a ≡ true
    → (ts : List Term) × (clause_with ls a ≡ answering ts)
with-answer [] (Some ts) e f = (ts, refl)
with-answer [] None e f = absurd cc
with-answer (l ∷ ls) a e f = absurd cc

without-answer : (ls : List Literal) (a : Option (List Term)) → ls ≡ [] → is_some a ≡ false
    → clause_with ls a ≡ contradictory
without-answer [] None e f = refl
without-answer [] (Some ts) e f = absurd cc
without-answer (l ∷ ls) a e f = absurd cc

answer-ends : (sig : Signature) (log : List Row) → EndsAs sig log true → EndsWithAnswer sig log
answer-ends sig log e =
    let a = with-answer e.clause.literals e.clause.answer e.has.0 e.has.2 in
    record { terms = a.0; ends = e.ends ∙ ap Some a.1; closed = ap variables (sym a.1) ∙ e.has.1; computed = ap (λ (c : Clause). is_uncomputed sig c.answer) (sym a.1) ∙ e.has.3 }

contradiction-ends : (sig : Signature) (log : List Row) → EndsAs sig log false → clause_at log (length log) ≡ Some contradictory
contradiction-ends sig log e =
    e.ends ∙ ap Some (without-answer e.clause.literals e.clause.answer e.has.0 e.has.2)

module _ (t : Theory) (d : Diagram) (wt : WellFormed t) (wd : WellDrawn t d) (weight limit : ℕ) (h : History)
    (follows : EachIsDue (rules_for t d weight) (starting_rows t d) h) where
  abbrev all : List Row
  all = rows (starting_rows t d) h

  abbrev fates : List Prepared
  fates = (judged (rules_for t d weight) (starting_rows t d) h).fates

  -- the search is over, with this end
  abbrev Over : End → Type 0
  Over e = end_by limit (inferences h) (due (rules_for t d weight) (starting_rows t d) h) ≡ Some e

  row-ends : (b : Bool) → Over (by_answer b) → EndsBy t.sig all fates b
  row-ends b is =
      ends-by t.sig (entry_sorts d.inputs) weight (length (theory_rows t)) (length (starting_rows t d)) (sources t d)
      (starting_rows t d) (histories-proofs t d wt wd weight) h follows b
      (ended-stage (rules_for t d weight) (starting_rows t d) h limit b is)

  last-ends : (log : List Row) (b : Bool) → Over (by_answer b) → IsLogOf all fates log → EndsAs t.sig log b
  last-ends log b is l = log-ends t d all fates log b (histories-proofs t d wt wd weight h follows) (row-ends b is) l

  outcome-ends : (o : Outcome) → Over (end_of o) → HasLog all fates o → EndsSo t.sig o
  outcome-ends (Found log es ns) is l = answer-ends t.sig log.rows (last-ends log.rows true is l)
  outcome-ends (Spent es ns) is l = tt
  outcome-ends (Exhausted es ns) is l = tt
  outcome-ends (Contradiction log es ns) is l = contradiction-ends t.sig log.rows (last-ends log.rows false is l)

pub logs-end : LogsEndSo
logs-end t d wt wd limits pick o s =
    outcome-ends t d wt wd limits.weight limits.budget s.history s.plain.follows o s.plain.ends s.log_is
