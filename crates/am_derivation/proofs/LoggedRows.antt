-- The log of a search is a proof, and there is one entry for each inference.
use Rattle.std.proofs.Common.{◌≡◌, ◌∙◌, ◌++◌, ◌+◌, refl, sym, ap, List, [], ◌∷◌, length}
use Rattle.std.proofs.lemmas.List.{length-append}
use Rattle.am_clause.specs.declared.row.Row.{Row}
use Rattle.am_theory.specs.declared.theory.Theory.{Theory}
use Rattle.am_diagram.specs.declared.diagram.Diagram.{Diagram}
use Rattle.am_diagram.specs.Listed.{entry_sorts}
use Rattle.am_diagram.specs.Steps.{sources, IsProof}
use Rattle.am_lineage.proofs.Lineage.{ancestors-are-steps}
use Rattle.am_search.specs.Laws.{entries_made}
use Rattle.am_search.specs.Plain.{History, Start, Then, Choose, Infer, rows, inferences, judged}
use Rattle.am_search.specs.Rules.{Rules, rules_of-starting}
use Rattle.am_search.specs.Searched.{IsLogOf, HasLog, rules_for}
use Rattle.am_search.specs.Starting.{starting_rows, theory_rows}
use Rattle.am_search.specs.declared.fate.Entry.{Entry}
use Rattle.am_search.specs.declared.fate.Prepared.{Prepared}
use Rattle.am_search.specs.declared.outcome.Outcome.{Outcome}
use Rattle.am_search.specs.declared.outcome.Outcome.TheVariants.{Found, Spent, Exhausted, Contradiction}
use Rattle.am_search.proofs.Entered.{entries_law}
use Rattle.am_derivation.specs.Laws.{LogIsProof, LogsAreProofs, EntriesAreCounted}
use Rattle.am_derivation.proofs.Derived.{histories-proofs}

-- ---- the log

module _ (t : Theory) (d : Diagram) where
  log-proof : (rs : List Row) (fates : List Prepared) (log : List Row) → IsProof t d rs → IsLogOf rs fates log
      → IsProof t d log
  log-proof rs fates log s l =
      ancestors-are-steps rs l.last.number log l.ancestors t.sig (entry_sorts d.inputs) (sources t d) s

  outcome-proof : (rs : List Row) (fates : List Prepared) (o : Outcome) → IsProof t d rs → HasLog rs fates o
      → LogIsProof t d o
  outcome-proof rs fates (Found log es ns) s l = log-proof rs fates log.rows s l
  outcome-proof rs fates (Spent es ns) s l = tt
  outcome-proof rs fates (Exhausted es ns) s l = tt
  outcome-proof rs fates (Contradiction log es ns) s l = log-proof rs fates log.rows s l

pub logs-proofs : LogsAreProofs
logs-proofs t d wt wd limits pick o s =
    let h : History = s.history in
    outcome-proof t d (rows (starting_rows t d) h) (judged (rules_for t d limits.weight) (starting_rows t d) h).fates o
    (histories-proofs t d wt wd limits.weight h s.plain.follows) s.log_is

-- ---- entries

one-more : (xs : List Entry) (x : Entry) → length (xs ++ x ∷ []) ≡ length xs + 1
one-more xs x = length-append xs (x ∷ [])

counted : (c : Rules) (start : List Row) (h : History) → length (entries_made c start h) ≡ inferences h
counted c start Start = refl
counted c start (Then h (Choose n)) = counted c start h
counted c start (Then h (Infer row)) =
    one-more (entries_made c start h) _ ∙ ap (λ n. n + 1) (counted c start h)

pub entries-counted : EntriesAreCounted
entries-counted t d limits pick o s =
    let c : Rules = rules_for t d limits.weight in
    let start : List Row = starting_rows t d in
    ap length (sym s.entries_are ∙ entries_law c start s.history
    (rules_of-starting t.sig (entry_sorts d.inputs) limits.weight (length (theory_rows t)) (length start)) s.plain.follows)
    ∙ counted c start s.history
