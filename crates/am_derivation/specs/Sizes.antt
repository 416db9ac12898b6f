-- How large the rows of a log are, and how deep their terms nest.
use Rattle.std.specs.Prelude.{◌≡◌, ◌≤◌, ◌+◌, ◌⊎◌, ℕ, List, [], map, Option, Some, None}
use Rattle.std.specs.List.{AllByRecursion}
use Rattle.am_term.specs.Fold.{fold-Var, fold-In, fold-App}
use Rattle.am_term.specs.Span.{greatest}
use Rattle.am_term.specs.Weight.{nodes}
use Rattle.am_term.specs.declared.id.SortId.{SortId}
use Rattle.am_term.specs.declared.id.SymId.{SymId}
use Rattle.am_term.specs.declared.term.Literal.{Literal}
use Rattle.am_term.specs.declared.term.Term.{Term}
use Rattle.am_term.specs.declared.term.Term.TheFolds.{fold-Term}
use Rattle.am_term.specs.declared.term.Term.TheOpen.{Term-F}
use Rattle.am_term.specs.declared.term.Term.TheVariants.{Var, In, App}
use Rattle.am_term.specs.Parts.{parts_of}
use Rattle.am_clause.specs.declared.row.Row.{Row}
use Rattle.am_clause.specs.declared.row.Rule.TheVariants.{Axiom}
use Rattle.am_theory.specs.declared.theory.Theory.{Theory}
use Rattle.am_theory.specs.Facts.{WellFormed}
use Rattle.am_diagram.specs.declared.diagram.Diagram.{Diagram}
use Rattle.am_diagram.specs.Facts.{WellFormed as WellDrawn}
use Rattle.am_search.specs.Plain.{Pick}
use Rattle.am_search.specs.Searched.{IsSearched}
use Rattle.am_search.specs.declared.outcome.Limits.{Limits}
use Rattle.am_search.specs.declared.outcome.Outcome.{Outcome}
use Rattle.am_search.specs.declared.outcome.Outcome.TheVariants.{Found, Spent, Exhausted, Contradiction}
use Rattle.am_simplify.specs.Reasons.{too_big}

-- ---- how deep a term nests

abbrev pub nesting_step : Term-F ℕ → ℕ
nesting_step (Term-F.Var n s) = 1
nesting_step (Term-F.In k) = 1
nesting_step (Term-F.App f below) = greatest below + 1

-- how deep a term nests: a variable and an input 1, a symbol 1 more than the deepest of its arguments
unfoldable pub nesting : Term → ℕ
nesting = fold-Term ℕ nesting_step

pub nesting-Var : (n : ℕ) (s : SortId) → nesting (Var n s) ≡ 1
unfolding nesting
nesting-Var = fold-Var ℕ nesting_step

pub nesting-In : (k : ℕ) → nesting (In k) ≡ 1
unfolding nesting
nesting-In = fold-In ℕ nesting_step

pub nesting-App : (f : SymId) (args : List Term) → nesting (App f args) ≡ greatest (map nesting args) + 1
unfolding nesting
nesting-App f args = fold-App ℕ nesting_step f args

pub ruleset nesting_laws = (nesting-Var, nesting-In, nesting-App)

-- no term nests deeper than it has nodes
abbrev pub NestingIsFew : Type 0
NestingIsFew = (t : Term) → nesting t ≤ nodes t

-- ---- how large a row is

-- the row of a clause of an axiom
abbrev pub IsOfAxiom : Row → Type 0
IsOfAxiom row = (k : ℕ) × (c : ℕ) × (row.rule ≡ Axiom k c)

-- at most 16 literals; the clause, and each term of the answer and of the lists, weighs at most so much
abbrev pub IsSmall : ℕ → Row → Type 0
IsSmall most row = too_big most row.clause row.with ≡ None

-- the terms of an answer, where there is one
abbrev pub terms_of_answer : Option (List Term) → List Term
terms_of_answer None = []
terms_of_answer (Some ts) = ts

-- each of the terms nests at most so deep
abbrev pub AreLow : ℕ → List Term → Type 0
AreLow most ts = AllByRecursion (λ (t : Term). nesting t ≤ most) ts

-- the terms of a row nest at most so deep
pub record IsLow (most : ℕ) (row : Row) : Type 0 where
  pub literals : AllByRecursion (λ (l : Literal). AreLow most (parts_of l.atom)) row.clause.literals
  pub answer : AreLow most (terms_of_answer row.clause.answer)
  pub lists : AllByRecursion (AreLow most) row.with

-- ---- the rows of a log

-- each of the rows is an axiom's, or is such
abbrev pub BesideAxioms : (Row → Type 0) → List Row → Type 0
BesideAxioms Is rows = AllByRecursion (λ (row : Row). IsOfAxiom row ⊎ Is row) rows

-- so are the rows of the log, where something was found or contradicts
abbrev pub LogIs : (Row → Type 0) → Outcome → Type 0
LogIs Is (Found log es ns) = BesideAxioms Is log.rows
LogIs Is (Spent es ns) = Unit {0}
LogIs Is (Exhausted es ns) = Unit {0}
LogIs Is (Contradiction log es ns) = BesideAxioms Is log.rows

-- each row of a log is an axiom's, or is small for the search's limit of weight
abbrev pub LogsAreSmall : Type 0
LogsAreSmall = (t : Theory) (d : Diagram) → WellFormed t → WellDrawn t d → (limits : Limits) (pick : Pick)
    (o : Outcome) → IsSearched t d limits pick o → LogIs (IsSmall limits.weight) o

-- each row of a log is an axiom's, or its terms nest at most as deep as the search's limit of weight says
abbrev pub LogsNestLow : Type 0
LogsNestLow = (t : Theory) (d : Diagram) → WellFormed t → WellDrawn t d → (limits : Limits) (pick : Pick)
    (o : Outcome) → IsSearched t d limits pick o → LogIs (IsLow limits.weight) o
