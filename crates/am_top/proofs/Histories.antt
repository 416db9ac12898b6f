-- What the outcome of a search says of the one history of the plain search.
use Rattle.std.proofs.Common.{◌≡◌, ◌∙◌, ◌≤◌, ◌+◌, ◌++◌, arith, refl, sym, ap, subst, ℕ, Bool, true, false, Option, Some, None, List, [], ◌∷◌, length, nat_lt, if◌then◌else◌}
use Rattle.std.proofs.lemmas.Bool.Decides.{nat_tests}
use Rattle.std.proofs.lemmas.Grind.{common_steps}
use Rattle.am_clause.specs.declared.row.Log.{Log}
use Rattle.am_clause.specs.declared.row.Row.{Row}
use Rattle.am_theory.specs.declared.theory.Theory.{Theory as TheoryValue}
use Rattle.am_diagram.specs.declared.diagram.Diagram.{Diagram as DiagramValue}
use Rattle.am_agenda.specs.declared.wait_row.WaitRow.{WaitRow}
use Rattle.am_search.specs.Laws.{OneHistory, EntriesLaw, entries_made}
use Rattle.am_search.specs.Plain.{Due, Infers, Chooses, Ends, History, Start, Then, Choose, Infer, Pick, due, due_at, end_by, inferences}
use Rattle.am_search.specs.Rules.{Rules, rules_of-starting}
use Rattle.am_search.specs.Searched.{IsLogOf, IsSearched, entries_in, end_of, rules_for}
use Rattle.am_clause.specs.Ancestors.{AreAncestors}
use Rattle.am_lineage.specs.Laws.{AncestorsAreOne}
use Rattle.am_search.specs.declared.fate.Prepared.{Prepared}
use Rattle.am_search.specs.Starting.{starting_rows, theory_rows}
use Rattle.am_search.specs.declared.fate.End.{End}
use Rattle.am_search.specs.declared.fate.End.TheVariants as end
use Rattle.am_search.specs.declared.fate.Entry.{Entry}
use Rattle.am_search.specs.declared.fate.Stage.{Stage}
use Rattle.am_search.specs.declared.fate.Stage.TheVariants.{Quiet, Makes, Closes, Ended}
use Rattle.am_search.specs.declared.outcome.Limits.{Limits}
use Rattle.am_search.specs.declared.outcome.Outcome.{Outcome}
use Rattle.am_search.specs.declared.outcome.Outcome.TheVariants.{Found, Spent, Exhausted, Contradiction}
use Rattle.am_diagram.specs.Listed.{entry_sorts}
use Rattle.am_product.specs.Product.{AreRefuted}
use Rattle.am_top.specs.Clauses.{AreRead, IsHistoryOf, HasEnded, IsSpent, IsContradiction, IsFound}

-- ---- how many inferences were made

longer : (es : List Entry) (e : Entry) → length (es ++ e ∷ []) ≡ length es + 1
longer es e = grind (arith, common_steps)

made_count : (c : Rules) (start : List Row) (h : History) → length (entries_made c start h) ≡ inferences h
made_count c start Start = refl
made_count c start (Then h (Choose n)) = made_count c start h
made_count c start (Then h (Infer row)) = longer (entries_made c start h) _ ∙ ap (λ (n : ℕ). n + 1) (made_count c start h)

-- ---- another inference is due

never_spent : (waits : List WaitRow) (rest : List Row) (stage : Stage) → due_at waits rest stage ≡ Ends end.Spent → ⊥
never_spent waits rest (Ended true) e = cc
never_spent waits rest (Ended false) e = cc
never_spent waits rest (Makes row) e = cc
never_spent waits rest (Closes row) e = cc
never_spent waits (row ∷ rows) Quiet e = cc
never_spent [] [] Quiet e = cc
never_spent (w ∷ ws) [] Quiet e = cc

not_yet : (limit made : ℕ) → made ≤ limit → (if nat_lt made limit then None else Some end.Spent) ≡ Some end.Spent → limit ≡ made
not_yet limit made few e = by_test (nat_lt made limit) refl
  where
    by_test : (b : Bool) → nat_lt made limit ≡ b → limit ≡ made
    by_test true is = absurd (never (subst (λ (x : Bool). (if x then None else Some end.Spent) ≡ Some end.Spent) is e))
      where
        never : None ≡ Some end.Spent → ⊥
        never k = cc
    by_test false is = grind (arith, nat_tests)

another_due : (limit made : ℕ) (w : Due) → made ≤ limit → (w ≡ Ends end.Spent → ⊥) → end_by limit made w ≡ Some end.Spent → (row : Row) × (w ≡ Infers row) × (limit ≡ made)
another_due limit made (Infers row) few never e = (row, refl, not_yet limit made few e)
another_due limit made Chooses few never e = absurd cc
another_due limit made (Ends f) few never e = absurd (never (ap Ends (same f e)))
  where
    same : (g : End) → Some g ≡ Some end.Spent → g ≡ end.Spent
    same g k = cc

-- ---- outcomes

module _ (law : EntriesLaw) (a b : List ℕ) (limits : Limits) (pick : Pick) (t : TheoryValue) (d : DiagramValue) (files : AreRead a b t d) where
  abbrev TheRules : Rules
  TheRules = rules_for t d limits.weight

  counted : (o : Outcome) (s : IsSearched t d limits pick o) → length (entries_in o) ≡ inferences s.history
  counted o s =
      ap (λ (es : List Entry). length es) (sym s.entries_are ∙ law TheRules (starting_rows t d) s.history (rules_of-starting t.sig (entry_sorts d.inputs) limits.weight (length (theory_rows t)) (length (starting_rows t d))) s.plain.follows)
      ∙ made_count TheRules (starting_rows t d) s.history

  history_of : (o : Outcome) (s : IsSearched t d limits pick o) → IsHistoryOf t d limits pick s.history (end_of o)
  history_of o s = record { plain = s.plain; picked = s.picked }

  ended_so : (o : Outcome) (s : IsSearched t d limits pick o) → HasEnded a b limits pick (end_of o) (length (entries_in o))
  ended_so o s = record { t = t; d = d; files = files; history = s.history; is = history_of o s; counts = counted o s }

  pub spent_so : (es : List Entry) (ns : List ℕ) → IsSearched t d limits pick (Spent es ns) → IsSpent a b limits pick
  spent_so es ns s =
      let w = another_due limits.budget (inferences s.history) (due TheRules (starting_rows t d) s.history) s.plain.few (never_spent _ _ _) s.plain.ends in
      record {
        ended = record { t = t; d = d; files = files; history = s.history; is = history_of (Spent es ns) s; counts = w.2 };
        row = w.0;
        another = w.1;
      }

  pub exhausted_so : (es : List Entry) (ns : List ℕ) → IsSearched t d limits pick (Exhausted es ns) → HasEnded a b limits pick end.Exhausted (length es)
  exhausted_so es ns s = ended_so (Exhausted es ns) s

  pub contradicted_so : (log : Log) (es : List Entry) (ns : List ℕ) → IsSearched t d limits pick (Contradiction log es ns) → AreRefuted t d → IsContradiction a b limits pick (length es)
  contradicted_so log es ns s refuted = record {
    ended = record { t = t; d = d; files = files; history = s.history; is = history_of (Contradiction log es ns) s; counts = counted (Contradiction log es ns) s };
    refuted = refuted;
  }

  pub found_so : (log : Log) (es : List Entry) (ns : List ℕ) (s : IsSearched t d limits pick (Found log es ns)) → IsFound a b limits pick t d s.history log
  found_so log es ns s = record { files = files; is = history_of (Found log es ns) s; log_is = s.log_is }

  pub found_count : (log : Log) (es : List Entry) (ns : List ℕ) (s : IsSearched t d limits pick (Found log es ns)) → length es ≡ inferences s.history
  found_count log es ns s = counted (Found log es ns) s

-- there is one end
pub one_end : OneHistory → (limits : Limits) (pick : Pick) (t u : TheoryValue) (d c : DiagramValue) (h k : History) (e f : End) → u ≡ t → c ≡ d → IsHistoryOf t d limits pick h e → IsHistoryOf u c limits pick k f → f ≡ e
one_end law limits pick t u d c h k e f same same_too is also =
    let here : IsHistoryOf t d limits pick k f = subst (λ (y : DiagramValue). IsHistoryOf t y limits pick k f) same_too (subst (λ (x : TheoryValue). IsHistoryOf x c limits pick k f) same also) in
    (law (rules_for t d limits.weight) (starting_rows t d) limits.budget pick k h f e here.plain here.picked is.plain is.picked).1

-- ---- one log

last_of : List Prepared → Option Prepared
last_of [] = None
last_of (p ∷ []) = Some p
last_of (p ∷ q ∷ ps) = last_of (q ∷ ps)

last_added : (ps : List Prepared) (p : Prepared) → last_of (ps ++ p ∷ []) ≡ Some p
unfolding last_of
last_added [] p = refl
last_added (q ∷ []) p = refl
last_added (q ∷ r ∷ ps) p = last_added (r ∷ ps) p

same_number : (p q : Prepared) → Some p ≡ Some q → p.number ≡ q.number
same_number p q e = by (first e)
  where
    first : Some p ≡ Some q → p ≡ q
    first k = cc

    by : p ≡ q → p.number ≡ q.number
    by k = ap (λ (x : Prepared). x.number) k

same_last : (fates xs ys : List Prepared) (p q : Prepared) → fates ≡ xs ++ p ∷ [] → fates ≡ ys ++ q ∷ [] → p.number ≡ q.number
same_last fates xs ys p q e k = same_number p q (sym (last_added xs p) ∙ ap last_of (sym e ∙ k) ∙ last_added ys q)

same_log : (x y : Log) → x.rows ≡ y.rows → x ≡ y
same_log x y e = ap (λ (rs : List Row). record { rows = rs }) e

one_log : AncestorsAreOne → (rs : List Row) (fates : List Prepared) (log other : Log) → IsLogOf rs fates log.rows → IsLogOf rs fates other.rows → other ≡ log
one_log law rs fates log other a b =
    let number : b.last.number ≡ a.last.number = same_last fates b.last.earlier a.last.earlier _ _ b.last.fates_are a.last.fates_are in
    same_log other log (law rs a.last.number other.rows log.rows (subst (λ (n : ℕ). AreAncestors rs n other.rows) number b.ancestors) a.ancestors)

-- what is found over one theory and one diagram is one log
pub one_found : OneHistory → AncestorsAreOne → (a b : List ℕ) (limits : Limits) (pick : Pick) (t u : TheoryValue) (d c : DiagramValue) (h k : History) (log other : Log) → u ≡ t → c ≡ d
    → IsFound a b limits pick t d h log → IsFound a b limits pick u c k other → other ≡ log
one_found law ancestry a b limits pick t u d c h k log other same same_too found also =
    let here : IsFound a b limits pick t d k other = subst (λ (y : DiagramValue). IsFound a b limits pick t y k other) same_too (subst (λ (x : TheoryValue). IsFound a b limits pick x c k other) same also) in
    let one : k ≡ h = (law (rules_for t d limits.weight) (starting_rows t d) limits.budget pick k h end.Found end.Found here.is.plain here.is.picked found.is.plain found.is.picked).0 in
    let there : IsFound a b limits pick t d h other = subst (λ (x : History). IsFound a b limits pick t d x other) one here in
    one_log ancestry _ _ log other found.log_is there.log_is
