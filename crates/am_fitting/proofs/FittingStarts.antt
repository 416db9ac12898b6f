-- What a proof over a theory and a diagram starts from: the goal's answer fits the outputs, nothing else has one.
use Rattle.std.proofs.Common.{◌≡◌, ◌∙◌, ◌+◌, ◌<◌, ℕ, zero, suc, arith, true, refl, sym, ap, subst, List, [], ◌∷◌, map, length, slice_get, Option, Some, None, is_some, option_and_then, if◌then◌else◌}
use Rattle.std.specs.List.{AllByRecursion}
use Rattle.std.proofs.lemmas.Bool.{lt-ltb}
use Rattle.am_term.specs.declared.id.SortId.{SortId}
use Rattle.am_term.specs.declared.signature.Signature.{Signature}
use Rattle.am_term.specs.declared.term.Formula.{Formula}
use Rattle.am_term.specs.declared.term.Literal.{Literal}
use Rattle.am_term.specs.declared.term.Term.{Term}
use Rattle.am_term.specs.declared.term.Term.TheVariants.{Var}
use Rattle.am_term.specs.Place.{member}
use Rattle.am_term.specs.Sorting.{sorts_of, sort_of-Var, fits_place, fit_places, term_fits}
use Rattle.am_term.proofs.Forest.{fits-same}
use Rattle.am_term.proofs.Tests.{and_both}
use Rattle.am_clause.specs.declared.clause.Clause.{Clause}
use Rattle.am_clause.specs.declared.row.Row.{Row}
use Rattle.am_clause.specs.ClauseForm.{merged_clause, pos, cnf}
use Rattle.am_clause.specs.Renaming.{Numbers, renamed, renamed_all, renamed_clause, places_in, renumbered, renamed-Var, renumbered-is}
use Rattle.am_clause.specs.Steps.{clause_at}
use Rattle.am_clause.specs.Variables.{variables}
use Rattle.am_clause.specs.Goals.{given_clause, negated}
use Rattle.am_theory.specs.declared.theory.Rep.{Rep}
use Rattle.am_theory.specs.declared.theory.Theory.{Theory}
use Rattle.am_theory.specs.Facts.{IsSort, IsConcrete, WellFormed as WellFormedTheory}
use Rattle.am_theory.specs.Lookups.{known}
use Rattle.am_diagram.specs.declared.diagram.Diagram.{Diagram}
use Rattle.am_diagram.specs.Clauses.{entry_variables_from, output_terms, goal, givens}
use Rattle.am_diagram.specs.Facts.{WellFormed}
use Rattle.am_diagram.specs.Listed.{entry_sorts}
use Rattle.am_diagram.specs.Steps.{formulas_of, sources, IsProof}
use Rattle.am_fitting.proofs.Bindings.{AnswerFits}
use Rattle.am_fitting.proofs.FittingSteps.{Fits, StartsFit, all-member, steps-fit}

-- ---- a sort with a representation is one of the theory

known-at : (rs : List (Option Rep)) (n : ℕ) → is_some (known (slice_get rs n)) ≡ true → n < length rs
known-at [] n e = absurd cc
known-at (r ∷ rs) zero e = omega arith
known-at (r ∷ rs) (suc n) e = let h : n < length rs = known-at rs n e in omega arith

concrete-sorts : (t : Theory) → length t.reps ≡ length t.sig.sorts → (ss : List SortId) → AllByRecursion (IsConcrete t) ss → AllByRecursion (IsSort t) ss
concrete-sorts t e [] h = tt
concrete-sorts t e (s ∷ ss) h = (subst (λ k. s.0 < k) e (known-at t.reps s.0 h.0), concrete-sorts t e ss h.1)

-- ---- variables of these sorts, whatever their numbers

module _ (sig : Signature) (ins : List SortId) (to : Numbers) where
  variable-fits : (n : ℕ) (s : SortId) → s.0 < length sig.sorts → term_fits sig ins (renamed to (Var n s)) s ≡ true
  variable-fits n s h = ap (λ t. term_fits sig ins t s) (renamed-Var to n s)
      ∙ (ap (λ o. fits_place sig o s) (sort_of-Var sig ins (to n s) s)
      ∙ (ap (λ b. fits_place sig (if b then Some s else None) s) (lt-ltb s.0 (length sig.sorts) h) ∙ fits-same sig s))

  variables-fit : (n : ℕ) (es : List (List ℕ × SortId)) → AllByRecursion (λ (s : SortId). s.0 < length sig.sorts) (entry_sorts es)
      → fit_places sig (sorts_of sig ins (renamed_all to (entry_variables_from n es))) (entry_sorts es) ≡ true
  variables-fit n [] h = refl
  variables-fit n (e ∷ es) h = and_both (term_fits sig ins (renamed to (Var n e.1)) e.1) (fit_places sig (sorts_of sig ins (renamed_all to (entry_variables_from (n + 1) es))) (entry_sorts es))
      (variable-fits n e.1 h.0) (variables-fit (n + 1) es h.1)

-- ---- what a proof starts from

all-mapped : {A B : Type 0} (P : B → Type 0) (f : A → B) → ((x : A) → P (f x)) → (xs : List A) → AllByRecursion P (map f xs)
all-mapped P f h [] = tt
all-mapped P f h (x ∷ xs) = (h x, all-mapped P f h xs)

module _ (sig : Signature) (ins places : List SortId) where
  renumbered-fits : (c : Clause) → Fits sig ins places (renamed_clause (places_in (variables c)) c) → Fits sig ins places (renumbered c)
  renumbered-fits c h = subst (Fits sig ins places) (sym (renumbered-is c)) h

  cnf-fits : (f : Formula) (n : ℕ) (d : Clause) → member (cnf f) n ≡ Some d → Fits sig ins places d
  unfolding cnf
  cnf-fits f n d e = all-member (Fits sig ins places) (cnf f) n d
      (all-mapped (Fits sig ins places) (λ ls. renumbered (merged_clause ls)) (λ ls. renumbered-fits (merged_clause ls) tt) (pos f)) e

  axiom-fits : (c : ℕ) (d : Clause) (o : Option Formula) → option_and_then (λ f. member (cnf f) c) o ≡ Some d → Fits sig ins places d
  axiom-fits c d None e = absurd cc
  axiom-fits c d (Some f) e = cnf-fits f c d e

  givens-fit : (d : Diagram) (k : ℕ) (c : Clause) → member (givens d) k ≡ Some c → Fits sig ins places c
  unfolding givens
  givens-fit d k c e = all-member (Fits sig ins places) (givens d) k c (all-mapped (Fits sig ins places) given_clause (λ l. tt) d.givens) e

abbrev asked : List Literal → List Term → Clause
asked ls ts = record { literals = map negated ls; answer = Some ts }

goal-fits : (sig : Signature) (ins : List SortId) (d : Diagram) → AllByRecursion (λ (s : SortId). s.0 < length sig.sorts) (entry_sorts d.outputs) → Fits sig ins (entry_sorts d.outputs) (goal d)
unfolding goal
goal-fits sig ins d h = renumbered-fits sig ins (entry_sorts d.outputs) (asked d.required (output_terms d))
    (variables-fit sig ins (places_in (variables (asked d.required (output_terms d)))) (length d.objects) d.outputs h)

starts-fit : (t : Theory) (d : Diagram) → WellFormedTheory t → WellFormed t d → StartsFit t.sig (entry_sorts d.inputs) (entry_sorts d.outputs) (sources t d)
starts-fit t d h k = record {
  axioms = λ m n c e. axiom-fits t.sig (entry_sorts d.inputs) (entry_sorts d.outputs) n c (member (formulas_of t) m) e;
  goal = goal-fits t.sig (entry_sorts d.inputs) d (concrete-sorts t h.reps (entry_sorts d.outputs) k.outputs_concrete);
  givens = givens-fit t.sig (entry_sorts d.inputs) (entry_sorts d.outputs) d;
}

pub answers-fit : (t : Theory) (d : Diagram) → WellFormedTheory t → WellFormed t d → (rows : List Row) → IsProof t d rows → (n : ℕ) (c : Clause) (ts : List Term) → clause_at rows n ≡ Some c → c.answer ≡ Some ts
    → fit_places t.sig (sorts_of t.sig (entry_sorts d.inputs) ts) (entry_sorts d.outputs) ≡ true
answers-fit t d h k rows s n c ts at is = subst (AnswerFits t.sig (entry_sorts d.inputs) (entry_sorts d.outputs)) is
    (steps-fit t.sig (entry_sorts d.inputs) (entry_sorts d.outputs) (sources t d) (starts-fit t d h k) rows s n c at)
