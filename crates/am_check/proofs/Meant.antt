-- A diagram that was read with a theory, as a question: what the laws of proofs need of it.
use Rattle.std.proofs.Common.{◌≡◌, ◌∙◌, ◌+◌, ◌<◌, ◌++◌, ◌⊎◌, inl, inr, ℕ, zero, suc, true, refl, sym, ap, subst, arith, List, [], ◌∷◌, Option, Some, is_some, length, map, slice_get, IsTrue}
use Rattle.std.specs.List.{AllByRecursion}
use Rattle.std.proofs.lemmas.List.{map-append, length-map}
use Rattle.std.proofs.lemmas.List.Folds.{list_any-append}
use Rattle.am_term.specs.declared.id.SortId.{SortId}
use Rattle.am_term.specs.declared.signature.Signature.{Signature}
use Rattle.am_term.specs.declared.term.Term.{Term}
use Rattle.am_term.specs.declared.term.Term.TheVariants.{Var}
use Rattle.am_term.specs.declared.term.Atom.{Atom}
use Rattle.am_term.specs.declared.term.Atom.TheVariants.{Rel, Eq}
use Rattle.am_term.specs.declared.term.Formula.{Formula}
use Rattle.am_term.specs.declared.term.Literal.{Literal}
use Rattle.am_term.specs.SortedFormula.{is_sorted_formula}
use Rattle.am_term.proofs.Tests.{or_cases, never_both, or_left}
use Rattle.am_clause.specs.Distinct.{among}
use Rattle.am_clause.specs.Goals.{goal_of, variables_from as numbered_from, given_clause, negated}
use Rattle.am_clause.specs.Renaming.{renumbered}
use Rattle.am_clause.specs.Variables.{Variable, same_variable, occurrences, occurrences_all, in_atom, occurrences-none, occurrences-more}
use Rattle.am_clause.proofs.Occurring.{among-occurs}
use Rattle.am_clause.proofs.Places.{same_variable-refl}
use Rattle.am_clause.proofs.Renames.{Within}
use Rattle.am_world.specs.Interpretation.{Interpretation}
use Rattle.am_world.specs.ClauseTruth.{ClauseHolds}
use Rattle.am_world.specs.Questions.{IsPosed, IsSortOf, numbered}
use Rattle.am_world.specs.Truth.{Models}
use Rattle.am_world.specs.Value.{literal_truth}
use Rattle.am_world.proofs.Merging.{given-holds}
use Rattle.am_calculus.specs.Asked.{IsAskedIn}
use Rattle.am_theory.specs.declared.theory.Axiom.{Axiom}
use Rattle.am_theory.specs.declared.theory.Rep.{Rep}
use Rattle.am_theory.specs.declared.theory.Theory.{Theory}
use Rattle.am_theory.specs.Facts.{WellFormed, IsAxiom, IsConcrete}
use Rattle.am_theory.specs.Lookups.{known}
use Rattle.am_diagram.specs.declared.diagram.Diagram.{Diagram}
use Rattle.am_diagram.specs.Clauses.{entry_variables_from, output_terms, goal, givens}
use Rattle.am_diagram.specs.Facts.{WellFormed as WellDrawn, NoVariable, NoVariables, HasSort, HaveSorts}
use Rattle.am_diagram.specs.Listed.{entry_sorts}
use Rattle.am_diagram.specs.Steps.{formulas_of}
use Rattle.am_exec.specs.Given.{Given}

-- ---- variables of literals

within-append : (v : Variable) (vs ws : List Variable) → Within v (vs ++ ws) → Within v vs ⊎ Within v ws
within-append v vs ws m = or_cases (among same_variable v vs) (among same_variable v ws) (sym (list_any-append (same_variable v) vs ws) ∙ m)

-- what each term says of a variable that occurs in it, an atom says
module _ (P : Term → Type 0) (R : Variable → Type 0) (one : (t : Term) → P t → (v : Variable) → Within v (occurrences t) → R v) where
  in-terms : (ts : List Term) → AllByRecursion P ts → (v : Variable) → Within v (occurrences_all ts) → R v
  in-terms [] h v m = let f : among same_variable v [] ≡ true = ap (among same_variable v) (sym occurrences-none) ∙ m in absurd cc
  in-terms (t ∷ ts) h v m = elim (within-append v (occurrences t) (occurrences_all ts) (ap (among same_variable v) (sym (occurrences-more t ts)) ∙ m)) [
    | inl x ↦ one t h.0 v x
    | inr x ↦ in-terms ts h.1 v x
  ]

  in-sides : (t u : Term) → P t → P u → (v : Variable) → Within v (occurrences t ++ occurrences u) → R v
  in-sides t u h k v m = elim (within-append v (occurrences t) (occurrences u) m) [
    | inl x ↦ one t h v x
    | inr x ↦ one u k v x
  ]

nothing-occurs : (t : Term) → NoVariable t → (v : Variable) → Within v (occurrences t) → ⊥
nothing-occurs t h v m = never_both (among same_variable v (occurrences t)) m (among-occurs v.0 v.1 t ∙ h v.0 v.1)

no-variable-within : (x : Atom) → NoVariables x → (v : Variable) → Within v (in_atom x) → ⊥
no-variable-within (Rel r args) h = in-terms NoVariable (λ v. ⊥) nothing-occurs args h
no-variable-within (Eq t u) h = in-sides NoVariable (λ v. ⊥) nothing-occurs t u h.0 h.1

sort-occurs : (sorts : List SortId) (t : Term) → HasSort sorts t → (v : Variable) → Within v (occurrences t) → slice_get sorts v.0 ≡ Some v.1
sort-occurs sorts t h v m = h v.0 v.1 (sym (among-occurs v.0 v.1 t) ∙ m)

have-sorts-within : (sorts : List SortId) (x : Atom) → HaveSorts sorts x → (v : Variable) → Within v (in_atom x) → slice_get sorts v.0 ≡ Some v.1
have-sorts-within sorts (Rel r args) h = in-terms (HasSort sorts) (λ v. slice_get sorts v.0 ≡ Some v.1) (sort-occurs sorts) args h
have-sorts-within sorts (Eq t u) h = in-sides (HasSort sorts) (λ v. slice_get sorts v.0 ≡ Some v.1) (sort-occurs sorts) t u h.0 h.1

none-within : (vs : List Variable) → ((v : Variable) → Within v vs → ⊥) → vs ≡ []
none-within [] h = refl
none-within (v ∷ vs) h = absurd (h v (or_left (same_variable v v) (among same_variable v vs) (same_variable-refl v)))

-- ---- lists of what was read

all-through : {A B : Type 0} (P : A → Type 0) (Q : B → Type 0) (f : A → B) → ((x : A) → P x → Q (f x)) → (xs : List A) → AllByRecursion P xs → AllByRecursion Q (map f xs)
all-through P Q f h [] a = tt
all-through P Q f h (x ∷ xs) a = (h x a.0, all-through P Q f h xs a.1)

all-one : {A : Type 0} (P Q : A → Type 0) → ((x : A) → P x → Q x) → (xs : List A) → AllByRecursion P xs → AllByRecursion Q xs
all-one P Q h [] a = tt
all-one P Q h (x ∷ xs) a = (h x a.0, all-one P Q h xs a.1)

known-low : (xs : List (Option Rep)) (k : ℕ) → is_some (known (slice_get xs k)) ≡ true → k < length xs
known-low [] k e = absurd cc
known-low (x ∷ xs) zero e = omega arith
known-low (x ∷ xs) (suc k) e = let h = known-low xs k e in omega (arith, h)

concrete-sort : (t : Theory) → WellFormed t → (s : SortId) → IsConcrete t s → IsSortOf t.sig s
concrete-sort t w s c = let h = known-low t.reps s.0 c in omega (arith, h, w.reps)

-- ---- the goal and the givens

outputs-numbered : (n : ℕ) (xs : List (List ℕ × SortId)) → entry_variables_from n xs ≡ numbered_from n (entry_sorts xs)
outputs-numbered n [] = refl
outputs-numbered n (x ∷ xs) = ap (λ (ts : List Term). Var n x.1 ∷ ts) (outputs-numbered (n + 1) xs)

pub goal-asked : (d : Diagram) → goal d ≡ goal_of (entry_sorts d.objects) (entry_sorts d.outputs) d.required
unfolding goal
goal-asked d =
    let count : length d.objects ≡ length (entry_sorts d.objects) = sym (length-map d.objects (λ (x : List ℕ × SortId). x.1)) in
    let one : output_terms d ≡ numbered_from (length (entry_sorts d.objects)) (entry_sorts d.outputs) = outputs-numbered (length d.objects) d.outputs ∙ ap (λ (n : ℕ). numbered_from n (entry_sorts d.outputs)) count in
    ap (λ (ts : List Term). renumbered (record { literals = map negated d.required; answer = Some ts })) one

givens-hold : (sig : Signature) (w : Interpretation) (ins : List ℕ) (ls : List Literal) → AllByRecursion (λ (l : Literal). NoVariables l.atom) ls → AllByRecursion (λ (l : Literal). IsTrue (literal_truth w ins (numbered []) l)) ls → AllByRecursion (ClauseHolds sig w ins) (map given_clause ls)
givens-hold sig w ins [] h k = tt
givens-hold sig w ins (l ∷ ls) h k = (given-holds w ins sig l (none-within (in_atom l.atom) (no-variable-within l.atom h.0)) k.0, givens-hold sig w ins ls h.1 k.1)

-- in a model, for inputs that meet the givens, the question of the diagram is asked
pub asked : (t : Theory) (d : Diagram) → WellFormed t → WellDrawn t d → (w : Interpretation) → Models t.sig (formulas_of t) w → (ins : List ℕ) → Given w d ins
    → IsAskedIn t.sig (formulas_of t) w (entry_sorts d.inputs) ins (entry_sorts d.objects) (entry_sorts d.outputs) d.required (givens d)
unfolding givens
asked t d wt wd w m ins g = record {
  model = m;
  sorted = all-through (IsAxiom t) (λ (f : Formula). IsTrue (is_sorted_formula t.sig [] f)) (λ (a : Axiom). a.formula) (λ a h. h.sorted) t.axioms wt.axioms;
  inside = g.members;
  given = givens-hold t.sig w ins d.givens wd.givens_closed g.facts;
  objects_there = wd.objects_sorted;
  outputs_there = all-one (IsConcrete t) (IsSortOf t.sig) (concrete-sort t wt) (entry_sorts d.outputs) wd.outputs_concrete;
  posed = all-one (λ (l : Literal). HaveSorts (entry_sorts (d.objects ++ d.outputs)) l.atom) (IsPosed (entry_sorts d.objects ++ entry_sorts d.outputs))
      (λ l h. subst (λ (ss : List SortId). IsPosed ss l) (map-append (λ (x : List ℕ × SortId). x.1) d.objects d.outputs) (have-sorts-within (entry_sorts (d.objects ++ d.outputs)) l.atom h)) d.required wd.required_numbered;
}
