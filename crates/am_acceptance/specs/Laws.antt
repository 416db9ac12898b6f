-- What a search finds can be written, and its product is accepted.
use Rattle.std.specs.Prelude.{◌≡◌, ◌≤◌, ℕ, Ok, Some, List, length}
use Rattle.std.specs.List.{AllByRecursion}
use Rattle.am_term.specs.declared.term.Literal.{Literal}
use Rattle.am_term.specs.Parts.{parts_of}
use Rattle.am_clause.specs.declared.clause.Clause.{Clause}
use Rattle.am_clause.specs.declared.row.Log.{Log}
use Rattle.am_theory.specs.declared.theory.Theory.{Theory}
use Rattle.am_term.specs.declared.term.Term.{Term}
use Rattle.am_theory.specs.Contents.{contents}
use Rattle.am_theory.specs.Facts.{WellFormed}
use Rattle.am_theory.specs.Limits.{depth_limit}
use Rattle.am_theory.specs.Reading.{theory}
use Rattle.am_diagram.specs.declared.diagram.Diagram.{Diagram}
use Rattle.am_diagram.specs.Facts.{WellFormed as WellDrawn}
use Rattle.am_diagram.specs.Steps.{sources}
use Rattle.am_log.specs.Text.{byte_limit, log_text, HasText}
use Rattle.am_check.specs.Accepted.{EndsWith, Accepted}
use Rattle.am_plan.specs.Answers.{IsAnswerFor}
use Rattle.am_product.specs.Product.{IsProduct}
use Rattle.am_search.specs.Plain.{Pick}
use Rattle.am_search.specs.Searched.{IsSearched}
use Rattle.am_search.specs.declared.outcome.Limits.{Limits}
use Rattle.am_search.specs.declared.outcome.Outcome.{Outcome}
use Rattle.am_search.specs.declared.outcome.Outcome.TheVariants.{Found, Spent, Exhausted, Contradiction}
use Rattle.am_derivation.specs.Sizes.{AreLow, terms_of_answer}

-- the theory is that of a file
abbrev pub IsOfFile : Theory → Type 0
IsOfFile t = (bytes : List ℕ) × (theory bytes ≡ Ok (contents t))

-- the terms of the clause nest at most so deep
pub record ClauseIsLow (most : ℕ) (c : Clause) : Type 0 where
  pub literals : AllByRecursion (λ (l : Literal). AreLow most (parts_of l.atom)) c.literals
  pub answer : AreLow most (terms_of_answer c.answer)

-- the terms of the clauses of axioms nest no deeper than the lists of a file
abbrev pub AxiomsNestLow : Type 0
AxiomsNestLow = (t : Theory) (d : Diagram) → IsOfFile t → (k n : ℕ) (c : Clause)
    → (sources t d).axioms k n ≡ Some c → ClauseIsLow depth_limit c

-- a log that is no longer than a text may be has a text
abbrev pub HasTextWhereShort : Theory → Diagram → Log → Type 0
HasTextWhereShort t d log = length (log_text t d log) ≤ byte_limit → HasText t d log

-- so has the log, where something was found or contradicts
abbrev pub LogHasText : Theory → Diagram → Outcome → Type 0
LogHasText t d (Found log es ns) = HasTextWhereShort t d log
LogHasText t d (Spent es ns) = Unit {0}
LogHasText t d (Exhausted es ns) = Unit {0}
LogHasText t d (Contradiction log es ns) = HasTextWhereShort t d log

-- over a theory of a file, for limits of weight up to 400, logs have texts
abbrev pub LogsHaveTexts : Type 0
LogsHaveTexts = (t : Theory) (d : Diagram) → IsOfFile t → WellDrawn t d → (limits : Limits) (pick : Pick)
    (o : Outcome) → limits.weight ≤ 400 → IsSearched t d limits pick o → LogHasText t d o

-- the answer by which the log ends is one that there is a subroutine for
abbrev pub AnswerServes : Theory → Diagram → Outcome → Type 0
AnswerServes t d (Found log es ns) = (answer : List Term) → EndsWith log.rows answer → IsAnswerFor t d answer
AnswerServes t d (Spent es ns) = Unit {0}
AnswerServes t d (Exhausted es ns) = Unit {0}
AnswerServes t d (Contradiction log es ns) = Unit {0}

-- over a well-formed theory, for limits of weight up to 400, what was found has such an answer
abbrev pub AnswersServe : Type 0
AnswersServe = (t : Theory) (d : Diagram) → WellFormed t → WellDrawn t d → (limits : Limits) (pick : Pick)
    (o : Outcome) → limits.weight ≤ 400 → IsSearched t d limits pick o → AnswerServes t d o

-- a product of the log that is no longer than a text may be is accepted
abbrev pub ProductIsAccepted : Theory → Diagram → Outcome → Type 0
ProductIsAccepted t d (Found log es ns) =
    (text : List ℕ) → IsProduct t d log text → length text ≤ byte_limit → Accepted t d text
ProductIsAccepted t d (Spent es ns) = Unit {0}
ProductIsAccepted t d (Exhausted es ns) = Unit {0}
ProductIsAccepted t d (Contradiction log es ns) = Unit {0}

-- over a theory of a file, for limits of weight up to 400, the product of what was found is accepted
abbrev pub ProductsAreAccepted : Type 0
ProductsAreAccepted = (t : Theory) (d : Diagram) → IsOfFile t → WellDrawn t d → (limits : Limits) (pick : Pick)
    (o : Outcome) → limits.weight ≤ 400 → IsSearched t d limits pick o → ProductIsAccepted t d o
