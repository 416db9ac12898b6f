-- The log of a search: each row names earlier rows, and the last row is there.
use Rattle.std.specs.Prelude.{◌≡◌, ◌+◌, ◌-◌, ◌<◌, ◌≤◌, ◌++◌, ℕ, zero, suc, Bool, true, false, List, [], ◌∷◌, Some, None, length, slice_get, nat_lt, if◌then◌else◌}
use Rattle.std.proofs.Common.{refl, sym, ap, subst, ◌∙◌, arith}
use Rattle.std.proofs.lemmas.Grind.{common_steps}
use Rattle.std.specs.List.{AllByRecursion}
use Rattle.am_agenda.specs.declared.wait_row.WaitRow.{WaitRow}
use Rattle.am_clause.specs.Ancestors.{AreAncestors, AreOrdered, parents_of}
use Rattle.am_clause.specs.ClauseForm.{cnf}
use Rattle.am_clause.specs.declared.clause.Clause.{Clause}
use Rattle.am_clause.specs.declared.row.Row.{Row}
use Rattle.am_diagram.specs.Facts.{drawn}
use Rattle.am_diagram.specs.Clauses.{goal, givens}
use Rattle.am_diagram.specs.Listed.{entry_sorts}
use Rattle.am_diagram.specs.Steps.{formulas_of}
use Rattle.am_diagram.specs.declared.diagram.Diagram.{Diagram}
use Rattle.am_search.proofs.Lasts.{last_law}
use Rattle.am_search.proofs.Rooted.{parents_law, at_within}
use Rattle.am_search.specs.Laws.{EndsWithLast}
use Rattle.am_search.specs.Members.{numbered_rows}
use Rattle.am_search.specs.Outcomes.{Outcomes, last_from, last_number}
use Rattle.am_search.specs.Plain.{Due, Ends, Infers, Chooses, History, EachIsDue, Pick, rows, judged, due, due_at, due_turn, end_by, reading_at, wait_of, rest}
use Rattle.am_search.specs.Replay.{HasNoParents, IsBelow, IsRooted}
use Rattle.am_search.specs.Rules.{Rules, rules_of}
use Rattle.am_search.specs.Searched.{HasLast, HasLog, HasLogFrom, IsLogOf, IsSearched, choices_in, end_of, entries_in, rules_for}
use Rattle.am_search.specs.Starting.{axiom_rows, clause_rows_of, given_rows, goal_row, rows_at_first, starting_rows, theory_rows}
use Rattle.am_search.specs.declared.fate.End.{End}
use Rattle.am_search.specs.declared.fate.End.TheVariants as end
use Rattle.am_search.specs.declared.fate.Fate.TheVariants as fate
use Rattle.am_search.specs.declared.fate.Entry.{Entry}
use Rattle.am_search.specs.declared.fate.Prepared.{Prepared}
use Rattle.am_search.specs.declared.fate.Stage.{Stage}
use Rattle.am_search.specs.declared.fate.Stage.TheVariants.{Quiet, Makes, Closes, Ended}
use Rattle.am_search.specs.declared.outcome.Limits.{Limits}
use Rattle.am_search.specs.declared.outcome.Outcome.{Outcome}
use Rattle.am_search.specs.declared.outcome.Outcome.TheVariants.{Found, Spent, Exhausted, Contradiction}
use Rattle.am_term.specs.declared.id.SortId.{SortId}
use Rattle.am_term.specs.declared.term.Formula.{Formula}
use Rattle.am_theory.specs.declared.theory.Theory.{Theory}

-- ---- starting rows name no rows

all_both : (xs ys : List Row) → AllByRecursion HasNoParents xs → AllByRecursion HasNoParents ys → AllByRecursion HasNoParents (xs ++ ys)
all_both [] ys a b = b
all_both (x ∷ xs) ys a b = (a.0, all_both xs ys a.1 b)

clauses_bare : (k c : ℕ) (cs : List Clause) → AllByRecursion HasNoParents (clause_rows_of k c cs)
clauses_bare k c [] = tt
clauses_bare k c (d ∷ cs) = (refl, clauses_bare k (c + 1) cs)

axioms_bare : (k : ℕ) (fs : List Formula) → AllByRecursion HasNoParents (axiom_rows k fs)
axioms_bare k [] = tt
axioms_bare k (f ∷ fs) = all_both (clause_rows_of k 1 (cnf f)) (axiom_rows (k + 1) fs) (clauses_bare k 1 (cnf f)) (axioms_bare (k + 1) fs)

givens_bare : (k : ℕ) (cs : List Clause) → AllByRecursion HasNoParents (given_rows k cs)
givens_bare k [] = tt
givens_bare k (c ∷ cs) = (refl, givens_bare (k + 1) cs)

pub starting_bare : (t : Theory) (d : Diagram) → AllByRecursion HasNoParents (starting_rows t d)
starting_bare t d = all_both (theory_rows t) (goal_row (goal d) ∷ given_rows 1 (givens d)) (axioms_bare 1 (formulas_of t)) (refl, givens_bare 1 (givens d))

-- ---- each row names earlier rows

lower : (n most : ℕ) (ps : List ℕ) → n ≡ most + 1 → AllByRecursion (IsBelow most) ps → AllByRecursion (λ p. (0 < p) × (p < n)) ps
lower n most [] is a = tt
lower n most (p ∷ ps) is a = let b = a.0 in ((b.some, let low = b.low in omega arith), lower n most ps is a.1)

rooted_at : (k i : ℕ) (rs : List Row) (r : Row) → AllByRecursion IsRooted (numbered_rows k rs) → slice_get rs i ≡ Some r → AllByRecursion (IsBelow ((k + i) - 1)) (parents_of r.rule)
rooted_at k i [] r a at_ = absurd (cc)
rooted_at k zero (x ∷ rs) r a at_ =
    let same : x ≡ r = cc in
    let number : k - 1 ≡ (k + 0) - 1 = omega arith in
    subst (λ (n : ℕ). AllByRecursion (IsBelow n) (parents_of r.rule)) number (subst (λ (y : Row). AllByRecursion (IsBelow (k - 1)) (parents_of y.rule)) same a.0)
rooted_at k (suc i) (x ∷ rs) r a at_ =
    let number : ((k + 1) + i) - 1 ≡ (k + suc i) - 1 = omega arith in
    subst (λ (n : ℕ). AllByRecursion (IsBelow n) (parents_of r.rule)) number (rooted_at (k + 1) i rs r a.1 at_)

ordered_rows : (rs : List Row) → AllByRecursion IsRooted (numbered_rows 1 rs) → AreOrdered rs
ordered_rows rs a zero r at_ = absurd (cc)
ordered_rows rs a (suc i) r at_ = lower (suc i) ((1 + i) - 1) (parents_of r.rule) (omega arith) (rooted_at 1 i rs r a at_)

pub history_ordered : (t : Theory) (d : Diagram) (most : ℕ) (h : History) → EachIsDue (rules_for t d most) (starting_rows t d) h → AreOrdered (rows (starting_rows t d) h)
history_ordered t d most h f =
    ordered_rows (rows (starting_rows t d) h)
    (parents_law t.sig (entry_sorts d.inputs) most (length (theory_rows t)) (length (starting_rows t d)) (starting_rows t d) h (starting_bare t d) f)

-- ---- the last row

-- an end by a row
abbrev answered : Bool → End
answered b = if b then end.Found else end.Contradiction

quiet_ends : (waits : List WaitRow) (xs : List Row) (b : Bool) → due_turn waits xs ≡ Ends (answered b) → ⊥
quiet_ends waits (x ∷ xs) b is = cc
quiet_ends (w ∷ ws) [] b is = cc
quiet_ends [] [] true is = cc
quiet_ends [] [] false is = cc

ended_by : (waits : List WaitRow) (xs : List Row) (s : Stage) (b : Bool) → due_at waits xs s ≡ Ends (answered b) → s ≡ Ended b
ended_by waits xs Quiet b is = absurd (quiet_ends waits xs b is)
ended_by waits xs (Makes row) b is = absurd (cc)
ended_by waits xs (Closes row) b is = absurd (cc)
ended_by waits xs (Ended true) true is = refl
ended_by waits xs (Ended false) false is = refl
ended_by waits xs (Ended true) false is = absurd (cc)
ended_by waits xs (Ended false) true is = absurd (cc)

not_spent : (x b : Bool) → (if x then None else Some end.Spent) ≡ Some (answered b) → ⊥
not_spent true b is = cc
not_spent false true is = cc
not_spent false false is = cc

-- where it is not spent, the end is what is due
by_due : (limit made : ℕ) (u : Due) (b : Bool) → end_by limit made u ≡ Some (answered b) → u ≡ Ends (answered b)
by_due limit made (Infers row) b is = absurd (not_spent (nat_lt made limit) b is)
by_due limit made Chooses b is = absurd (cc)
by_due limit made (Ends e) b is = let same : e ≡ answered b = cc in ap Ends same

last_from_end : (n : ℕ) (earlier : List Prepared) (p : Prepared) → last_from n (earlier ++ p ∷ []) ≡ p.number
last_from_end n [] p = refl
last_from_end n (q ∷ earlier) p = last_from_end q.number earlier p

-- what the end says of the last row
record LastRow (t : Theory) (d : Diagram) (most : ℕ) (h : History) (n : ℕ) : Type 0 where
  ends : EndsWithLast (rows (starting_rows t d) h) (judged (rules_for t d most) (starting_rows t d) h).fates
  number : ends.number ≡ n

last_row : (t : Theory) (d : Diagram) (most limit made n : ℕ) (h : History) (b : Bool) → end_by limit made (due (rules_for t d most) (starting_rows t d) h) ≡ Some (answered b)
    → last_number (judged (rules_for t d most) (starting_rows t d) h).fates ≡ n → LastRow t d most h n
last_row t d most limit made n h b is number =
    let c : Rules = rules_for t d most in
    let start : List Row = starting_rows t d in
    let stage : (judged c start h).stage ≡ Ended b = ended_by (wait_of c (reading_at c start h)) (rest c start h) (judged c start h).stage b (by_due limit made (due c start h) b is) in
    let e = last_law c start h b stage in
    record {
      ends = e;
      number = sym (ap last_number e.fates_are ∙ last_from_end 0 e.earlier (record { number = e.number; fate = fate.Last })) ∙ number;
    }

there : (rs : List Row) (fates : List Prepared) (e : EndsWithLast rs fates) (n : ℕ) → e.number ≡ n → (0 < n) × (n ≤ length rs)
there rs fates e n is = let b = at_within rs e.number e.row e.stands in (let low = b.some in omega arith, let high = b.low in omega arith)

module _ (t : Theory) (d : Diagram) (most limit : ℕ) (pick : Pick) (all : List Row) (es : List Entry) (chosen : List ℕ) (n : ℕ) where
  abbrev Answer : End → Type 0
  Answer e = Outcomes (rules_for t d most) (starting_rows t d) limit pick e all es chosen n

  pub outcome_ordered : (e : End) → Answer e → AreOrdered all
  outcome_ordered e o = subst (λ (rs : List Row). AreOrdered rs) o.rows_are (history_ordered t d most o.history o.plain.follows)

  has_last : (b : Bool) (o : Answer (answered b)) → LastRow t d most o.history n
  has_last b o = last_row t d most limit _ n o.history b o.plain.ends o.last_is

  there_in : (b : Bool) (o : Answer (answered b)) → (0 < n) × (n ≤ length all)
  there_in b o =
      let l = has_last b o in
      subst (λ (rs : List Row). (0 < n) × (n ≤ length rs)) o.rows_are (there (rows (starting_rows t d) o.history) (judged (rules_for t d most) (starting_rows t d) o.history).fates l.ends n l.number)

  pub outcome_last : (e : End) → Answer e → HasLast all n e
  outcome_last end.Found o = there_in true o
  outcome_last end.Contradiction o = there_in false o
  outcome_last end.Exhausted o = tt
  outcome_last end.Spent o = tt

  log_of : (b : Bool) (o : Answer (answered b)) (log : List Row) → AreAncestors all n log → IsLogOf (rows (starting_rows t d) o.history) (judged (rules_for t d most) (starting_rows t d) o.history).fates log
  log_of b o log a =
      let l = has_last b o in
      record {
        last = l.ends;
        ancestors = subst (λ (k : ℕ). AreAncestors (rows (starting_rows t d) o.history) k log) (sym l.number) (subst (λ (rs : List Row). AreAncestors rs n log) (sym o.rows_are) a);
      }

  log_in : (x : Outcome) (o : Answer (end_of x)) → HasLogFrom all n x → HasLog (rows (starting_rows t d) o.history) (judged (rules_for t d most) (starting_rows t d) o.history).fates x
  log_in (Found log e s) o a = log_of true o log.rows a
  log_in (Spent e s) o a = tt
  log_in (Exhausted e s) o a = tt
  log_in (Contradiction log e s) o a = log_of false o log.rows a

-- the outcome that is reported
pub reported : (t : Theory) (d : Diagram) (limits : Limits) (pick : Pick) (e : End) (all : List Row) (es : List Entry) (chosen : List ℕ) (n : ℕ) (x : Outcome)
    → Outcomes (rules_for t d limits.weight) (starting_rows t d) limits.budget pick e all es chosen n → end_of x ≡ e → entries_in x ≡ es → choices_in x ≡ chosen → HasLogFrom all n x → IsSearched t d limits pick x
reported t d limits pick e all es chosen n x given_ ends entries_are choices_are log =
    let o = subst (λ (y : End). Outcomes (rules_for t d limits.weight) (starting_rows t d) limits.budget pick y all es chosen n) (sym ends) given_ in
    record {
      history = o.history;
      plain = o.plain;
      picked = o.picked;
      entries_are = o.entries_are ∙ sym entries_are;
      choices_are = o.choices_are ∙ sym choices_are;
      log_is = log_in t d limits.weight limits.budget pick all es chosen n x o log;
    }

-- the outcome for what was made of the theory and the diagram
pub as_asked : (t : Theory) (d : Diagram) (most limit : ℕ) (pick : Pick) (sorts : List SortId) (axioms : List Row) (asked : Clause) (facts : List Clause) (e : End) (all : List Row) (es : List Entry) (chosen : List ℕ) (n : ℕ)
    → sorts ≡ entry_sorts d.inputs → axioms ≡ theory_rows t → asked ≡ goal d → facts ≡ givens d
    → Outcomes (rules_of t.sig sorts most (length axioms) (length (rows_at_first axioms asked facts))) (rows_at_first axioms asked facts) limit pick e all es chosen n
    → Outcomes (rules_for t d most) (starting_rows t d) limit pick e all es chosen n
as_asked t d most limit pick sorts axioms asked facts e all es chosen n sorts_are axioms_are asked_is facts_are o =
    subst (λ (x : List SortId). Outcomes (rules_of t.sig x most (length (theory_rows t)) (length (starting_rows t d))) (starting_rows t d) limit pick e all es chosen n) sorts_are
    (subst (λ (x : List Row). Outcomes (rules_of t.sig sorts most (length x) (length (rows_at_first x (goal d) (givens d)))) (rows_at_first x (goal d) (givens d)) limit pick e all es chosen n) axioms_are
    (subst (λ (x : Clause). Outcomes (rules_of t.sig sorts most (length axioms) (length (rows_at_first axioms x (givens d)))) (rows_at_first axioms x (givens d)) limit pick e all es chosen n) asked_is
    (subst (λ (x : List Clause). Outcomes (rules_of t.sig sorts most (length axioms) (length (rows_at_first axioms asked x))) (rows_at_first axioms asked x) limit pick e all es chosen n) facts_are o)))

pub ruleset asking = (common_steps, as_asked, drawn)

pub ruleset reporting = (common_steps, outcome_ordered, outcome_last, reported)
