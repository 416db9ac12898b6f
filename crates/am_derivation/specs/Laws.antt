-- What a search infers is a proof, and what its log ends with.
use Rattle.std.specs.Prelude.{◌≡◌, ℕ, false, List, [], Some, None, length}
use Rattle.am_term.specs.declared.signature.Signature.{Signature}
use Rattle.am_term.specs.declared.term.Term.{Term}
use Rattle.am_clause.specs.declared.clause.Clause.{Clause}
use Rattle.am_clause.specs.declared.row.Row.{Row}
use Rattle.am_clause.specs.Steps.{clause_at}
use Rattle.am_clause.specs.Variables.{variables}
use Rattle.am_theory.specs.declared.theory.Theory.{Theory}
use Rattle.am_theory.specs.Facts.{WellFormed}
use Rattle.am_diagram.specs.declared.diagram.Diagram.{Diagram}
use Rattle.am_diagram.specs.Facts.{WellFormed as WellDrawn}
use Rattle.am_diagram.specs.Steps.{IsProof}
use Rattle.am_simplify.specs.Reasons.{is_uncomputed}
use Rattle.am_search.specs.Plain.{History, Pick, EachIsDue, rows, inferences}
use Rattle.am_search.specs.Searched.{IsSearched, entries_in, rules_for}
use Rattle.am_search.specs.Starting.{starting_rows}
use Rattle.am_search.specs.declared.outcome.Limits.{Limits}
use Rattle.am_search.specs.declared.outcome.Outcome.{Outcome}
use Rattle.am_search.specs.declared.outcome.Outcome.TheVariants.{Found, Spent, Exhausted, Contradiction}

-- the starting rows and all inferred ones, in order, are a proof
abbrev pub HistoriesAreProofs : Type 0
HistoriesAreProofs = (t : Theory) (d : Diagram) → WellFormed t → WellDrawn t d → (weight : ℕ) (h : History)
    → EachIsDue (rules_for t d weight) (starting_rows t d) h → IsProof t d (rows (starting_rows t d) h)

-- where something was found or contradicts, the log is a proof
abbrev pub LogIsProof : Theory → Diagram → Outcome → Type 0
LogIsProof t d (Found log es ns) = IsProof t d log.rows
LogIsProof t d (Spent es ns) = Unit {0}
LogIsProof t d (Exhausted es ns) = Unit {0}
LogIsProof t d (Contradiction log es ns) = IsProof t d log.rows

abbrev pub LogsAreProofs : Type 0
LogsAreProofs = (t : Theory) (d : Diagram) → WellFormed t → WellDrawn t d → (limits : Limits) (pick : Pick)
    (o : Outcome) → IsSearched t d limits pick o → LogIsProof t d o

-- a clause without literals, with these terms for the outputs
abbrev pub answering : List Term → Clause
answering terms = record { literals = []; answer = Some terms }

-- a clause without literals and without an answer
abbrev pub contradictory : Clause
contradictory = record { literals = []; answer = None }

-- the last row has no literals, no variables and an answer, of which a program can compute each symbol
pub record EndsWithAnswer (sig : Signature) (log : List Row) : Type 0 where
  pub terms : List Term
  pub ends : clause_at log (length log) ≡ Some (answering terms)
  pub closed : variables (answering terms) ≡ []
  pub computed : is_uncomputed sig (Some terms) ≡ false

-- what was found ends with an answer, what contradicts with neither literals nor an answer
abbrev pub EndsSo : Signature → Outcome → Type 0
EndsSo sig (Found log es ns) = EndsWithAnswer sig log.rows
EndsSo sig (Spent es ns) = Unit {0}
EndsSo sig (Exhausted es ns) = Unit {0}
EndsSo sig (Contradiction log es ns) = clause_at log.rows (length log.rows) ≡ Some contradictory

abbrev pub LogsEndSo : Type 0
LogsEndSo = (t : Theory) (d : Diagram) → WellFormed t → WellDrawn t d → (limits : Limits) (pick : Pick)
    (o : Outcome) → IsSearched t d limits pick o → EndsSo t.sig o

-- there is one entry for each inference of the search's history
abbrev pub EntriesAreCounted : Type 0
EntriesAreCounted = (t : Theory) (d : Diagram) (limits : Limits) (pick : Pick) (o : Outcome)
    → (s : IsSearched t d limits pick o) → length (entries_in o) ≡ inferences s.history
