-- What a search of a theory and a diagram answers.
use Rattle.std.specs.Prelude.{◌≡◌, ◌≤◌, ◌<◌, ℕ, List, length}
use Rattle.am_clause.specs.Ancestors.{AreAncestors}
use Rattle.am_clause.specs.declared.row.Row.{Row}
use Rattle.am_diagram.specs.Listed.{entry_sorts}
use Rattle.am_diagram.specs.declared.diagram.Diagram.{Diagram}
use Rattle.am_search.specs.Laws.{EndsWithLast}
use Rattle.am_search.specs.Plain.{History, Pick, Picked, Plain, choices, entries, judged, rows}
use Rattle.am_search.specs.Rules.{Rules, rules_of}
use Rattle.am_search.specs.Starting.{starting_rows, theory_rows}
use Rattle.am_search.specs.declared.fate.End.{End}
use Rattle.am_search.specs.declared.fate.End.TheVariants as end
use Rattle.am_search.specs.declared.fate.Entry.{Entry}
use Rattle.am_search.specs.declared.fate.Prepared.{Prepared}
use Rattle.am_search.specs.declared.outcome.Limits.{Limits}
use Rattle.am_search.specs.declared.outcome.Outcome.{Outcome}
use Rattle.am_search.specs.declared.outcome.Outcome.TheVariants.{Found, Spent, Exhausted, Contradiction}
use Rattle.am_theory.specs.declared.theory.Theory.{Theory}

-- the calculus of a theory and a diagram, with the greatest weight
abbrev pub rules_for : Theory → Diagram → ℕ → Rules
rules_for t d weight = rules_of t.sig (entry_sorts d.inputs) weight (length (theory_rows t)) (length (starting_rows t d))

-- ---- the parts of an outcome

abbrev pub end_of : Outcome → End
end_of (Found log es ns) = end.Found
end_of (Spent es ns) = end.Spent
end_of (Exhausted es ns) = end.Exhausted
end_of (Contradiction log es ns) = end.Contradiction

abbrev pub entries_in : Outcome → List Entry
entries_in (Found log es ns) = es
entries_in (Spent es ns) = es
entries_in (Exhausted es ns) = es
entries_in (Contradiction log es ns) = es

abbrev pub choices_in : Outcome → List ℕ
choices_in (Found log es ns) = ns
choices_in (Spent es ns) = ns
choices_in (Exhausted es ns) = ns
choices_in (Contradiction log es ns) = ns

-- For private contracts: the log has a row and all that it rests on; and the end has a last row.
abbrev pub HasLogFrom : List Row → ℕ → Outcome → Type 0
HasLogFrom rs n (Found log es ns) = AreAncestors rs n log.rows
HasLogFrom rs n (Spent es ns) = Unit {0}
HasLogFrom rs n (Exhausted es ns) = Unit {0}
HasLogFrom rs n (Contradiction log es ns) = AreAncestors rs n log.rows

abbrev pub HasLast : List Row → ℕ → End → Type 0
HasLast rs n end.Found = (0 < n) × (n ≤ length rs)
HasLast rs n end.Contradiction = (0 < n) × (n ≤ length rs)
HasLast rs n end.Exhausted = Unit {0}
HasLast rs n end.Spent = Unit {0}

-- ---- the log

-- a log of the row that got its fate last, which is Last: that row and all rows that it rests on
pub record IsLogOf (rs : List Row) (fates : List Prepared) (log : List Row) : Type 0 where
  pub last : EndsWithLast rs fates
  pub ancestors : AreAncestors rs last.number log

-- where something was found or contradicts, the log is such
abbrev pub HasLog : List Row → List Prepared → Outcome → Type 0
HasLog rs fates (Found log es ns) = IsLogOf rs fates log.rows
HasLog rs fates (Spent es ns) = Unit {0}
HasLog rs fates (Exhausted es ns) = Unit {0}
HasLog rs fates (Contradiction log es ns) = IsLogOf rs fates log.rows

-- The outcome is that of the plain search: of the one history that follows from the chooser's picks.
pub record IsSearched (t : Theory) (d : Diagram) (limits : Limits) (pick : Pick) (o : Outcome) : Type 0 where
  pub history : History
  pub plain : Plain (rules_for t d limits.weight) (starting_rows t d) limits.budget history (end_of o)
  pub picked : Picked pick (rules_for t d limits.weight) (starting_rows t d) history
  pub entries_are : entries (rules_for t d limits.weight) (starting_rows t d) history ≡ entries_in o
  pub choices_are : choices history ≡ choices_in o
  pub log_is : HasLog (rows (starting_rows t d) history) (judged (rules_for t d limits.weight) (starting_rows t d) history).fates o
