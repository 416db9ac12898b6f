-- What a proof over a theory and a diagram starts from is numbered and well sorted.
use Rattle.std.proofs.Common.{◌≡◌, ◌∙◌, ◌&&◌, ◌++◌, ◌+◌, ◌<◌, ℕ, zero, suc, Bool, true, false, refl, sym, ap, subst}
use Rattle.std.proofs.Common.{arith}
use Rattle.std.proofs.Common.{List, [], ◌∷◌, map, length, slice_get, Option, Some, None, is_some, if◌then◌else◌, IsTrue}
use Rattle.std.specs.List.{list_all, AllByRecursion}
use Rattle.std.proofs.lemmas.Bool.{lt-ltb}
use Rattle.am_term.specs.declared.id.SortId.{SortId}
use Rattle.am_term.specs.declared.signature.Signature.{Signature}
use Rattle.am_term.specs.declared.term.Term.{Term}
use Rattle.am_term.specs.declared.term.Term.TheVariants.{Var}
use Rattle.am_term.specs.declared.term.Atom.{Atom}
use Rattle.am_term.specs.declared.term.Atom.TheVariants.{Rel, Eq}
use Rattle.am_term.specs.declared.term.Formula.{Formula}
use Rattle.am_term.specs.declared.term.Literal.{Literal}
use Rattle.am_term.specs.Sorting.{sort_of, is_sorted_literal, sort_of-Var}
use Rattle.am_term.proofs.Tests.{and_both, and_true, or_left, never_both}
use Rattle.am_clause.specs.declared.clause.Clause.{Clause}
use Rattle.am_clause.specs.ClauseForm.{cnf}
use Rattle.am_clause.specs.Distinct.{among, distinct}
use Rattle.am_clause.specs.Numbered.{IsNumbered}
use Rattle.am_clause.specs.Variables.{Variable, same_variable, occurrences, occurrences_all, in_atom, in_clause}
use Rattle.am_clause.specs.Variables.{variables, occurrences-none, occurrences-more}
use Rattle.am_clause.proofs.Occurring.{among-occurs}
use Rattle.am_clause.proofs.Places.{same_variable-refl}
use Rattle.am_clause.specs.Goals.{given_clause, negated}
use Rattle.am_theory.specs.declared.theory.Axiom.{Axiom}
use Rattle.am_theory.specs.declared.theory.Rep.{Rep}
use Rattle.am_theory.specs.declared.theory.Theory.{Theory}
use Rattle.am_theory.specs.Facts.{IsAxiom, IsConcrete, WellFormed}
use Rattle.am_theory.specs.Lookups.{known}
use Rattle.am_diagram.specs.declared.diagram.Diagram.{Diagram}
use Rattle.am_diagram.specs.Clauses.{entry_variables_from, output_terms, goal, givens}
use Rattle.am_diagram.specs.Facts.{NoVariable, NoVariables, WellFormed as WellDrawn}
use Rattle.am_diagram.specs.Listed.{entry_sorts}
use Rattle.am_diagram.specs.Steps.{formulas_of}
use Rattle.am_simplify.specs.Steps.{IsProper}
use Rattle.am_derivation.proofs.SortedForms.{renumbered-proper, cnf-proper}

-- ---- axioms

-- the clauses of each of the formulas are proper
abbrev pub HasProper : Signature → List SortId → Formula → Type 0
HasProper sig ins f = AllByRecursion (IsProper sig ins) (cnf f)

axioms-from : (t : Theory) (ins : List SortId) (xs : List Axiom) → AllByRecursion (IsAxiom t) xs
    → AllByRecursion (HasProper t.sig ins) (map (λ (a : Axiom). a.formula) xs)
axioms-from t ins [] h = tt
axioms-from t ins (a ∷ xs) h = (cnf-proper t.sig ins a.formula h.0.sorted, axioms-from t ins xs h.1)

pub axioms-proper : (t : Theory) (ins : List SortId) → WellFormed t
    → AllByRecursion (HasProper t.sig ins) (formulas_of t)
axioms-proper t ins h = axioms-from t ins t.axioms h.axioms

-- ---- the goal

known-at : (rs : List (Option Rep)) (n : ℕ) → is_some (known (slice_get rs n)) ≡ true → n < length rs
known-at [] n e = absurd cc
known-at (r ∷ rs) zero e = omega arith
known-at (r ∷ rs) (suc n) e = let h : n < length rs = known-at rs n e in omega arith

module _ (t : Theory) (ins : List SortId) (reps : length t.reps ≡ length t.sig.sorts) where
  some-if : (b : Bool) (s : SortId) → b ≡ true → is_some (if b then Some s else None) ≡ true
  some-if true s e = refl
  some-if false s e = e

  variable-sorted : (n : ℕ) (s : SortId) → IsConcrete t s → is_some (sort_of t.sig ins (Var n s)) ≡ true
  variable-sorted n s h =
      let low : s.0 < length t.sig.sorts = subst (λ (k : ℕ). s.0 < k) reps (known-at t.reps s.0 h) in
      ap is_some (sort_of-Var t.sig ins n s) ∙ some-if _ s (lt-ltb s.0 (length t.sig.sorts) low)

  variables-sorted : (n : ℕ) (es : List (List ℕ × SortId)) → AllByRecursion (IsConcrete t) (entry_sorts es)
      → list_all (λ x. is_some (sort_of t.sig ins x)) (entry_variables_from n es) ≡ true
  variables-sorted n [] h = refl
  variables-sorted n (e ∷ es) h =
      and_both (is_some (sort_of t.sig ins (Var n e.1)))
      (list_all (λ x. is_some (sort_of t.sig ins x)) (entry_variables_from (n + 1) es))
      (variable-sorted n e.1 h.0) (variables-sorted (n + 1) es h.1)

negated-sorted : (sig : Signature) (ins : List SortId) (ls : List Literal)
    → AllByRecursion (λ (l : Literal). IsTrue (is_sorted_literal sig ins l)) ls
    → list_all (is_sorted_literal sig ins) (map negated ls) ≡ true
negated-sorted sig ins [] h = refl
negated-sorted sig ins (l ∷ ls) h =
    and_both (is_sorted_literal sig ins (negated l)) (list_all (is_sorted_literal sig ins) (map negated ls))
    h.0 (negated-sorted sig ins ls h.1)

abbrev asked : List Literal → List Term → Clause
asked ls ts = record { literals = map negated ls; answer = Some ts }

pub goal-proper : (t : Theory) (d : Diagram) → WellFormed t → WellDrawn t d
    → IsProper t.sig (entry_sorts d.inputs) (goal d)
unfolding goal
goal-proper t d h k =
    let ins : List SortId = entry_sorts d.inputs in
    renumbered-proper t.sig ins (asked d.required (output_terms d))
    (and_both (list_all (is_sorted_literal t.sig ins) (map negated d.required))
    (list_all (λ x. is_some (sort_of t.sig ins x)) (output_terms d))
    (negated-sorted t.sig ins d.required k.required_sorted)
    (variables-sorted t ins h.reps (length d.objects) d.outputs k.outputs_concrete))

-- ---- givens

no-occurrences : (x : Term) → NoVariable x → occurrences x ≡ []
no-occurrences x h = by (occurrences x) refl
  where
    by : (vs : List Variable) → occurrences x ≡ vs → vs ≡ []
    by [] is = refl
    by (v ∷ vs) is = never_both (among same_variable v (v ∷ vs))
        (or_left (same_variable v v) (among same_variable v vs) (same_variable-refl v))
        (ap (among same_variable v) (sym is) ∙ (among-occurs v.0 v.1 x ∙ h v.0 v.1))

no-occurrence : (xs : List Term) → AllByRecursion NoVariable xs → occurrences_all xs ≡ []
no-occurrence [] h = occurrences-none
no-occurrence (x ∷ xs) h =
    occurrences-more x xs
    ∙ (ap (λ vs. vs ++ occurrences_all xs) (no-occurrences x h.0) ∙ no-occurrence xs h.1)

atom-closed : (a : Atom) → NoVariables a → in_atom a ≡ []
atom-closed (Rel r args) h = no-occurrence args h
atom-closed (Eq left right) h =
    ap (λ vs. vs ++ occurrences right) (no-occurrences left h.0) ∙ no-occurrences right h.1

closed-numbered : (c : Clause) → in_clause c ≡ [] → IsNumbered c
unfolding variables
closed-numbered c h k v e =
    let none : slice_get (distinct same_variable (in_clause c)) k ≡ slice_get (distinct same_variable []) k =
    ap (λ (vs : List Variable). slice_get (distinct same_variable vs) k) h in
    absurd cc

given-closed : (l : Literal) → NoVariables l.atom → in_clause (given_clause l) ≡ []
given-closed l h = ap (λ vs. (vs ++ []) ++ []) (atom-closed l.atom h)

givens-from : (sig : Signature) (ins : List SortId) (ls : List Literal)
    → AllByRecursion (λ (l : Literal). IsTrue (is_sorted_literal sig ins l)) ls
    → AllByRecursion (λ (l : Literal). NoVariables l.atom) ls → AllByRecursion (IsProper sig ins) (map given_clause ls)
givens-from sig ins [] h k = tt
givens-from sig ins (l ∷ ls) h k = (
  record {
    numbered = closed-numbered (given_clause l) (given-closed l k.0);
    sorted = and_true (is_sorted_literal sig ins l && true) ∙ (and_true (is_sorted_literal sig ins l) ∙ h.0);
  },
  givens-from sig ins ls h.1 k.1,
)

pub givens-proper : (t : Theory) (d : Diagram) → WellDrawn t d
    → AllByRecursion (IsProper t.sig (entry_sorts d.inputs)) (givens d)
unfolding givens
givens-proper t d k = givens-from t.sig (entry_sorts d.inputs) d.givens k.givens_sorted k.givens_closed
