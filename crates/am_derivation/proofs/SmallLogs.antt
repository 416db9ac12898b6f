-- Each row of a log is an axiom's or small, and its terms nest low.
use Rattle.std.proofs.Common.{◌≡◌, ◌∙◌, ◌++◌, ◌+◌, ◌-◌, ◌==◌, ◌<◌, ℕ, zero, suc, Bool, true, false, arith, refl, sym}
use Rattle.std.proofs.Common.{ap, subst, List, [], ◌∷◌, length, slice_get, Some, None, if◌then◌else◌}
use Rattle.std.specs.List.{AllByRecursion}
use Rattle.std.proofs.lemmas.Bool.Decides.{nat_tests}
use Rattle.std.proofs.lemmas.List.{append_assoc, append-nil}
use Rattle.am_term.specs.declared.term.Formula.{Formula}
use Rattle.am_clause.specs.ClauseForm.{cnf}
use Rattle.am_clause.specs.declared.clause.Clause.{Clause}
use Rattle.am_clause.specs.declared.row.Row.{Row}
use Rattle.am_theory.specs.declared.theory.Theory.{Theory}
use Rattle.am_diagram.specs.declared.diagram.Diagram.{Diagram}
use Rattle.am_diagram.specs.Clauses.{goal, givens}
use Rattle.am_diagram.specs.Listed.{entry_sorts}
use Rattle.am_diagram.specs.Steps.{formulas_of, sources}
use Rattle.am_search.specs.Plain.{History, Start, Then, Choose, Infer, rows, judged}
use Rattle.am_search.specs.Rules.{rules_of-axioms}
use Rattle.am_search.specs.Searched.{IsLogOf, HasLog, rules_for}
use Rattle.am_search.specs.Starting.{goal_row, clause_rows_of, axiom_rows, given_rows, theory_rows, starting_rows}
use Rattle.am_search.specs.declared.fate.Fate.TheVariants.{Last}
use Rattle.am_search.specs.declared.fate.Prepared.{Prepared}
use Rattle.am_search.specs.declared.outcome.Outcome.{Outcome}
use Rattle.am_search.specs.declared.outcome.Outcome.TheVariants.{Found, Spent, Exhausted, Contradiction}
use Rattle.am_search.proofs.Reported.{starting_bare}
use Rattle.am_derivation.specs.Sizes.{IsOfAxiom, IsSmall, LogIs, LogsAreSmall, LogsNestLow}
use Rattle.am_derivation.proofs.Derived.{histories-proofs}
use Rattle.am_derivation.proofs.Nestings.{log-low}
use Rattle.am_derivation.proofs.RestedRows.{AxiomsFirst, Fits, FitsAt, RestsWell, FateFits, AllFit, all-last, all-get}
use Rattle.am_derivation.proofs.RestedRows.{ancestors-fit}
use Rattle.am_derivation.proofs.SmallRows.{all-standing}
use Rattle.am_derivation.proofs.StartingRows.{all-append}

-- ---- the rows of the axioms

clauses-axioms : (k c : ℕ) (ds : List Clause) → AllByRecursion IsOfAxiom (clause_rows_of k c ds)
clauses-axioms k c [] = tt
clauses-axioms k c (d ∷ ds) = ((k, c, refl), clauses-axioms k (c + 1) ds)

all-axioms : (k : ℕ) (fs : List Formula) → AllByRecursion IsOfAxiom (axiom_rows k fs)
all-axioms k [] = tt
all-axioms k (f ∷ fs) =
    all-append IsOfAxiom (clause_rows_of k 1 (cnf f)) (axiom_rows (k + 1) fs) (clauses-axioms k 1 (cnf f))
    (all-axioms (k + 1) fs)

get-first : (xs more : List Row) (i : ℕ) (row : Row) → i < length xs → slice_get (xs ++ more) i ≡ Some row
    → slice_get xs i ≡ Some row
get-first [] more i row l e = absurd (omega arith)
get-first (x ∷ xs) more zero row l e = e
get-first (x ∷ xs) more (suc i) row l e = get-first xs more i row (omega arith) e

first-axioms : (xs more : List Row) → AllByRecursion IsOfAxiom xs → AxiomsFirst (length xs) (xs ++ more)
first-axioms xs more a n row low at_ = by (n == 0) refl at_
  where
    by : (b : Bool) → (n == 0) ≡ b → (if b then None else slice_get (xs ++ more) (n - 1)) ≡ Some row → IsOfAxiom row
    by true is e = absurd cc
    by false is e =
        let l : n - 1 < length xs = grind (arith, nat_tests) in
        all-get IsOfAxiom xs (n - 1) row a (get-first xs more (n - 1) row l e)

-- the rows of a search are the starting ones and more
more-rows : (start : List Row) (h : History) → (more : List Row) × (rows start h ≡ start ++ more)
more-rows start Start = ([], sym (append-nil start))
more-rows start (Then h (Choose n)) = more-rows start h
more-rows start (Then h (Infer row)) =
    let m = more-rows start h in
    (m.0 ++ row ∷ [], ap (λ (xs : List Row). xs ++ row ∷ []) m.1 ∙ append_assoc start m.0 (row ∷ []))

search-axioms : (t : Theory) (d : Diagram) (weight : ℕ) (h : History)
    → AxiomsFirst (rules_for t d weight).axioms (rows (starting_rows t d) h)
search-axioms t d weight h =
    let m = more-rows (starting_rows t d) h in
    let asked : List Row = goal_row (goal d) ∷ given_rows 1 (givens d) in
    let is : rows (starting_rows t d) h ≡ theory_rows t ++ (asked ++ m.0) =
    m.1 ∙ append_assoc (theory_rows t) asked m.0 in
    let many : (rules_for t d weight).axioms ≡ length (theory_rows t) =
    rules_of-axioms t.sig (entry_sorts d.inputs) weight (length (theory_rows t)) (length (starting_rows t d)) in
    subst (λ (n : ℕ). AxiomsFirst n (rows (starting_rows t d) h)) (sym many)
    (subst (AxiomsFirst (length (theory_rows t))) (sym is)
    (first-axioms (theory_rows t) (asked ++ m.0) (all-axioms 1 (formulas_of t))))

-- ---- the log

last-fits : (most : ℕ) (rs : List Row) (fates earlier : List Prepared) (n : ℕ)
    → fates ≡ earlier ++ (record { number = n; fate = Last }) ∷ [] → AllFit most rs fates → FitsAt most rs n
last-fits most rs fates earlier n is a =
    all-last (λ (p : Prepared). FateFits most rs p.number p.fate) earlier (record { number = n; fate = Last })
    (subst (AllFit most rs) is a)

module _ (most : ℕ) (rs : List Row) (fates : List Prepared) (fit : AllFit most rs fates)
    (rest : AllByRecursion (RestsWell most rs) rs) where
  log-fits : (log : List Row) → IsLogOf rs fates log → AllByRecursion (Fits most) log
  log-fits log l =
      ancestors-fit most rs l.last.number log rest
      (last-fits most rs fates l.last.earlier l.last.number l.last.fates_are fit) l.ancestors

  outcome-fits : (o : Outcome) → HasLog rs fates o → LogIs (IsSmall most) o
  outcome-fits (Found log es ns) l = log-fits log.rows l
  outcome-fits (Spent es ns) l = tt
  outcome-fits (Exhausted es ns) l = tt
  outcome-fits (Contradiction log es ns) l = log-fits log.rows l

pub logs-small : LogsAreSmall
logs-small t d wt wd limits pick o s =
    let most : ℕ = limits.weight in
    let start : List Row = starting_rows t d in
    let axioms : ℕ = length (theory_rows t) in
    let first = search-axioms t d most in
    let proof = histories-proofs t d wt wd most in
    let stands = all-standing most t.sig (entry_sorts d.inputs) axioms (length start) (sources t d) pick start
    (starting_bare t d) first proof s.history s.plain.follows s.picked in
    outcome-fits most (rows start s.history) (judged (rules_for t d most) start s.history).fates
    stands.fitting.fates stands.all o s.log_is

pub logs-low : LogsNestLow
logs-low t d wt wd limits pick o s = log-low limits.weight o (logs-small t d wt wd limits pick o s)
