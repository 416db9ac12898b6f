-- The log of a search can be written.
use Rattle.std.proofs.Common.{◌≡◌, ◌+◌, ◌++◌, ◌≤◌, ◌⊎◌, inl, inr, ℕ, zero, suc, arith, refl, sym, subst}
use Rattle.std.proofs.Common.{List, [], ◌∷◌, length, slice_get, Some}
use Rattle.std.proofs.lemmas.List.{length-append}
use Rattle.std.specs.List.{AllByRecursion}
use Rattle.am_term.specs.Place.{member}
use Rattle.am_text.specs.Grammar.{height}
use Rattle.am_clause.specs.declared.row.Log.{Log}
use Rattle.am_clause.specs.declared.row.Row.{Row}
use Rattle.am_clause.specs.declared.row.Rule.{Rule}
use Rattle.am_clause.specs.Steps.{IsStep, Follows}
use Rattle.am_theory.specs.declared.theory.Theory.{Theory}
use Rattle.am_theory.specs.Facts.{WellFormed}
use Rattle.am_theory.specs.Limits.{depth_limit}
use Rattle.am_theory.proofs.WellFormedRead.{read_well_formed}
use Rattle.am_diagram.specs.declared.diagram.Diagram.{Diagram}
use Rattle.am_diagram.specs.Facts.{WellFormed as WellDrawn}
use Rattle.am_diagram.specs.Listed.{entry_sorts}
use Rattle.am_diagram.specs.Steps.{sources, IsProof}
use Rattle.am_log.specs.Naming.{known_names, named_row}
use Rattle.am_log.specs.Spelled.{row_form, row_depth_limit}
use Rattle.am_log.specs.Text.{byte_limit, log_text, rows_text, proof_line, IsWritable, AreWritable}
use Rattle.am_fitting.proofs.FittingSteps.{all-member}
use Rattle.am_search.specs.declared.outcome.Outcome.{Outcome}
use Rattle.am_search.specs.declared.outcome.Outcome.TheVariants.{Found, Spent, Exhausted, Contradiction}
use Rattle.am_derivation.specs.Laws.{LogIsProof}
use Rattle.am_derivation.specs.Sizes.{IsOfAxiom, IsLow, AreLow, BesideAxioms, LogIs}
use Rattle.am_derivation.proofs.LoggedRows.{logs-proofs}
use Rattle.am_derivation.proofs.SmallLogs.{logs-low}
use Rattle.am_acceptance.specs.Laws.{IsOfFile, HasTextWhereShort, LogHasText, LogsHaveTexts}
use Rattle.am_acceptance.proofs.AxiomsLow.{axioms-low}
use Rattle.am_acceptance.proofs.RowForms.{low-forms, steps-bound}
use Rattle.am_acceptance.proofs.RowNumbers.{numbers-fit}
use Rattle.am_acceptance.proofs.SortedSteps.{row-step, steps-sorted}

-- rows of which each can be written with its number
module _ (t : Theory) (d : Diagram) where
  written-from : (n : ℕ) (rs : List Row)
      → ((i : ℕ) (row : Row) → slice_get rs i ≡ Some row → IsWritable t d (n + i) row) → AreWritable t d n rs
  written-from n [] h = tt
  written-from n (r ∷ rs) h = (
    subst (λ (k : ℕ). IsWritable t d k r) (omega arith) (h zero r refl),
    written-from (n + 1) rs (λ i row e. subst (λ (k : ℕ). IsWritable t d k row) (omega arith) (h (suc i) row e)),
  )

  module _ (read : IsOfFile t) (wd : WellDrawn t d) (most : ℕ) (few : most ≤ 400) (rows : List Row)
      (proof : IsProof t d rows) (low : BesideAxioms (IsLow most) rows)
      (short : length (rows_text (known_names t d) 1 rows) ≤ byte_limit) where
    wt : WellFormed t
    wt = read_well_formed read.0 t read.1

    -- the row of an axiom's clause nests no deeper than the lists of a file, and has no lists of terms
    axiom-low : (before : List Row) (row : Row) → IsStep t.sig (entry_sorts d.inputs) (sources t d) before row → IsOfAxiom row
        → IsLow depth_limit row
    axiom-low before row s (k, n, e) =
        let start = subst (λ (r : Rule). Follows t.sig (entry_sorts d.inputs) (sources t d) before r row.with row.clause) e
        s.follows in
        let clause = axioms-low t d read k n row.clause start.is in
        record {
          literals = clause.literals;
          answer = clause.answer;
          lists = subst (AllByRecursion (AreLow depth_limit)) (sym start.unbound) tt;
        }

    form-low : (k : ℕ) (before : List Row) (row : Row) → IsStep t.sig (entry_sorts d.inputs) (sources t d) before row
        → IsOfAxiom row ⊎ IsLow most row → height (row_form (named_row (known_names t d) k row)) ≤ row_depth_limit
    form-low k before row s (inl a) =
        let high = low-forms (known_names t d) k depth_limit row (axiom-low before row s a) in omega arith
    form-low k before row s (inr l) = let high = low-forms (known_names t d) k most row l in omega arith

    row-written : (k : ℕ) (row : Row) → member rows k ≡ Some row → IsWritable t d k row
    row-written k row at_ =
        let s = row-step t.sig (entry_sorts d.inputs) (sources t d) rows proof k row at_ in
        record {
          bound = steps-bound t.sig (entry_sorts d.inputs) (sources t d) s.earlier row s.step;
          numbers = numbers-fit t d wt wd rows proof short k row at_;
          sorted = steps-sorted t.sig (entry_sorts d.inputs) (sources t d) s.earlier row s.step;
          low = form-low k s.earlier row s.step (all-member (λ (r : Row). IsOfAxiom r ⊎ IsLow most r) rows k row low at_);
        }

    pub rows-written : AreWritable t d 1 rows
    rows-written =
        written-from 1 rows (λ i row e. subst (λ (k : ℕ). IsWritable t d k row) (omega arith) (row-written (suc i) row e))

  shorter : (xs ys : List ℕ) (n : ℕ) → length (xs ++ ys) ≤ n → length ys ≤ n
  shorter xs ys n h = let both = length-append xs ys in omega arith

  rows-short : (log : Log) → length (log_text t d log) ≤ byte_limit
      → length (rows_text (known_names t d) 1 log.rows) ≤ byte_limit
  unfolding log_text
  rows-short log h = shorter proof_line (rows_text (known_names t d) 1 log.rows) byte_limit h

  log-written : IsOfFile t → WellDrawn t d → (most : ℕ) → most ≤ 400 → (log : Log) → IsProof t d log.rows
      → BesideAxioms (IsLow most) log.rows → HasTextWhereShort t d log
  log-written read wd most few log proof low = λ short.
      rows-written read wd most few log.rows proof low (rows-short log short)

  pub outcome-written : IsOfFile t → WellDrawn t d → (most : ℕ) → most ≤ 400 → (o : Outcome) → LogIsProof t d o
      → LogIs (IsLow most) o → LogHasText t d o
  outcome-written read wd most few (Found log es ns) proof low = log-written read wd most few log proof low
  outcome-written read wd most few (Spent es ns) proof low = tt
  outcome-written read wd most few (Exhausted es ns) proof low = tt
  outcome-written read wd most few (Contradiction log es ns) proof low = log-written read wd most few log proof low

pub logs-written : LogsHaveTexts
logs-written t d read wd limits pick o few s =
    let wt : WellFormed t = read_well_formed read.0 t read.1 in
    outcome-written t d read wd limits.weight few o (logs-proofs t d wt wd limits pick o s)
    (logs-low t d wt wd limits pick o s)
