-- A goal has no more variables than its diagram has objects and outputs.
use Rattle.std.proofs.Common.{◌≡◌, ◌∙◌, ◌+◌, ◌++◌, ◌⊎◌, inl, inr, ◌<◌, ◌≤◌, ℕ, zero, suc, true, refl, sym, ap, subst, arith, List, [], ◌∷◌, map, length, Some, slice_get}
use Rattle.std.specs.List.{AllByRecursion}
use Rattle.std.proofs.lemmas.Grind.{common_steps}
use Rattle.std.proofs.lemmas.List.{length-append, length-map}
use Rattle.std.proofs.lemmas.List.Folds.{list_any-append}
use Rattle.am_term.specs.declared.id.SortId.{SortId}
use Rattle.am_term.specs.declared.term.Term.{Term}
use Rattle.am_term.specs.declared.term.Term.TheVariants.{Var as var}
use Rattle.am_term.specs.declared.term.Atom.{Atom}
use Rattle.am_term.specs.declared.term.Atom.TheVariants.{Rel, Eq}
use Rattle.am_term.specs.declared.term.Literal.{Literal}
use Rattle.am_term.proofs.Tests.{or_cases, or_left, or_right}
use Rattle.am_clause.specs.Distinct.{among, distinct}
use Rattle.am_clause.specs.Variables.{Variable, same_variable, occurrences, occurrences_all, occurrences-Var, occurrences-none, occurrences-more, in_atom, in_literals, variables}
use Rattle.am_clause.proofs.Members.{distinct-fewer}
use Rattle.am_clause.proofs.Occurring.{among-occurs}
use Rattle.am_clause.proofs.Places.{same_variable-refl, same_variable-sound}
use Rattle.am_clause.specs.Goals.{negated}
use Rattle.am_theory.specs.declared.theory.Theory.{Theory}
use Rattle.am_diagram.specs.declared.diagram.Diagram.{Diagram}
use Rattle.am_diagram.specs.Clauses.{entry_variables_from, output_terms}
use Rattle.am_diagram.specs.Facts.{HasSort, HaveSorts, WellFormed, IsDrawn}
use Rattle.am_diagram.specs.Listed.{entry_sorts}

-- each of some sorts with its number, from n
abbrev numbered_from : ℕ → List SortId → List Variable
numbered_from n [] = []
numbered_from n (s ∷ ss) = (n, s) ∷ numbered_from (n + 1) ss

numbered-length : (n : ℕ) (ss : List SortId) → length (numbered_from n ss) ≡ length ss
numbered-length n [] = refl
numbered-length n (s ∷ ss) = ap suc (numbered-length (n + 1) ss)

numbered-among : (n k : ℕ) (s : SortId) (ss : List SortId) → slice_get ss k ≡ Some s → among same_variable (n + k, s) (numbered_from n ss) ≡ true
numbered-among n k s [] e = absurd cc
numbered-among n zero s (r ∷ rs) e =
    let i : r ≡ s = cc in
    let z : n + 0 ≡ n = omega arith in
    or_left (same_variable (n + 0, s) (n, r)) (among same_variable (n + 0, s) (numbered_from (n + 1) rs))
    (subst (λ m. same_variable (m, s) (n, r) ≡ true) (sym z) (subst (λ x. same_variable (n, s) (n, x) ≡ true) (sym i) (same_variable-refl (n, s))))
numbered-among n (suc k) s (r ∷ rs) e =
    let z : (n + 1) + k ≡ n + suc k = omega arith in
    or_right (same_variable (n + suc k, s) (n, r)) (among same_variable (n + suc k, s) (numbered_from (n + 1) rs))
    (subst (λ m. among same_variable (m, s) (numbered_from (n + 1) rs) ≡ true) z (numbered-among (n + 1) k s rs e))

-- each variable of the list has the sort at its number
abbrev HasSorts : List SortId → List Variable → Type 0
HasSorts sorts vs = (v : Variable) → among same_variable v vs ≡ true → slice_get sorts v.0 ≡ Some v.1

module _ (sorts : List SortId) where
  none : HasSorts sorts []
  none v m = absurd cc

  both : (vs ws : List Variable) → HasSorts sorts vs → HasSorts sorts ws → HasSorts sorts (vs ++ ws)
  both vs ws h k v m = by (or_cases (among same_variable v vs) (among same_variable v ws) (sym (list_any-append (same_variable v) vs ws) ∙ m))
    where
      by : (among same_variable v vs ≡ true) ⊎ (among same_variable v ws ≡ true) → slice_get sorts v.0 ≡ Some v.1
      by (inl a) = h v a
      by (inr b) = k v b

  of_term : (t : Term) → HasSort sorts t → HasSorts sorts (occurrences t)
  of_term t h v m = h v.0 v.1 (sym (among-occurs v.0 v.1 t) ∙ m)

  of_terms : (ts : List Term) → AllByRecursion (HasSort sorts) ts → HasSorts sorts (occurrences_all ts)
  of_terms [] h = subst (HasSorts sorts) (sym occurrences-none) none
  of_terms (t ∷ ts) h = subst (HasSorts sorts) (sym (occurrences-more t ts)) (both (occurrences t) (occurrences_all ts) (of_term t h.0) (of_terms ts h.1))

  of_atom : (a : Atom) → HaveSorts sorts a → HasSorts sorts (in_atom a)
  of_atom (Rel r args) h = of_terms args h
  of_atom (Eq left right) h = both (occurrences left) (occurrences right) (of_term left h.0) (of_term right h.1)

  of_literals : (ls : List Literal) → AllByRecursion (λ (l : Literal). HaveSorts sorts l.atom) ls → HasSorts sorts (in_literals (map negated ls))
  of_literals [] h = none
  of_literals (l ∷ ls) h = both (in_atom l.atom) (in_literals (map negated ls)) (of_atom l.atom h.0) (of_literals ls h.1)

  -- variables that are numbered from n, where the sorts from n on are theirs
  of_variables : (n : ℕ) (es : List (List ℕ × SortId)) → ((i : ℕ) (s : SortId) → slice_get (entry_sorts es) i ≡ Some s → slice_get sorts (n + i) ≡ Some s) → HasSorts sorts (occurrences_all (entry_variables_from n es))
  of_variables n [] h = subst (HasSorts sorts) (sym occurrences-none) none
  of_variables n (e ∷ es) h = subst (HasSorts sorts) (sym (occurrences-more (var n e.1) (entry_variables_from (n + 1) es)))
      (both (occurrences (var n e.1)) (occurrences_all (entry_variables_from (n + 1) es)) (subst (HasSorts sorts) (sym (occurrences-Var n e.1)) one) (of_variables (n + 1) es later))
    where
      one : HasSorts sorts ((n, e.1) ∷ [])
      one v m = by (or_cases (same_variable v (n, e.1)) (among same_variable v []) m)
        where
          by : (same_variable v (n, e.1) ≡ true) ⊎ (among same_variable v [] ≡ true) → slice_get sorts v.0 ≡ Some v.1
          by (inl a) = subst (λ (w : Variable). slice_get sorts w.0 ≡ Some w.1) (sym (same_variable-sound v (n, e.1) a)) (subst (λ k. slice_get sorts k ≡ Some e.1) (omega arith) (h 0 e.1 refl))
          by (inr b) = absurd cc

      later : (i : ℕ) (s : SortId) → slice_get (entry_sorts es) i ≡ Some s → slice_get sorts ((n + 1) + i) ≡ Some s
      later i s k = let z : n + suc i ≡ (n + 1) + i = omega arith in subst (λ m. slice_get sorts m ≡ Some s) z (h (suc i) s k)

-- the sorts of a second list stand behind those of the first
behind : (ds es : List (List ℕ × SortId)) (i : ℕ) (s : SortId) → slice_get (entry_sorts es) i ≡ Some s → slice_get (entry_sorts (ds ++ es)) (length ds + i) ≡ Some s
behind [] es i s e = let z : i ≡ 0 + i = omega arith in subst (λ k. slice_get (entry_sorts es) k ≡ Some s) z e
behind (d ∷ ds) es i s e =
    let z : suc (length ds + i) ≡ suc (length ds) + i = omega arith in
    subst (λ k. slice_get (entry_sorts (d ∷ ds ++ es)) k ≡ Some s) z (behind ds es i s e)

-- the variables of the requirements and of the answer are those of objects and outputs
goal-sorts : (t : Theory) (d : Diagram) → WellFormed t d → HasSorts (entry_sorts (d.objects ++ d.outputs)) (in_literals (map negated d.required) ++ occurrences_all (output_terms d))
goal-sorts t d well = both (entry_sorts (d.objects ++ d.outputs)) (in_literals (map negated d.required)) (occurrences_all (output_terms d))
    (of_literals (entry_sorts (d.objects ++ d.outputs)) d.required well.required_numbered)
    (of_variables (entry_sorts (d.objects ++ d.outputs)) (length d.objects) d.outputs (behind d.objects d.outputs))

-- and so they are few
goal-few : (d : Diagram) → IsDrawn d → length (variables (record { literals = map negated d.required; answer = Some (output_terms d) })) < 4000000000
unfolding variables
goal-few d is =
    let sorts : List SortId = entry_sorts (d.objects ++ d.outputs) in
    let all : List Variable = in_literals (map negated d.required) ++ occurrences_all (output_terms d) in
    let has : HasSorts sorts all = goal-sorts is.theory d is.well in
    let few : length (distinct same_variable all) ≤ length (numbered_from 0 sorts) = distinct-fewer same_variable same_variable-sound same_variable-refl all (numbered_from 0 sorts) (λ v m. member v (has v m)) in
    let as_many : length (numbered_from 0 sorts) ≡ length sorts = numbered-length 0 sorts in
    let sums : length sorts ≡ length d.objects + length d.outputs = length-map (d.objects ++ d.outputs) (λ (e : List ℕ × SortId). e.1) ∙ length-append d.objects d.outputs in
    let objects : length d.objects ≤ 32 = is.well.few_objects in
    let dummies : length d.inputs + length d.outputs ≤ 18 = is.well.few_dummies in
    omega arith
  where
    member : (v : Variable) → slice_get (entry_sorts (d.objects ++ d.outputs)) v.0 ≡ Some v.1 → among same_variable v (numbered_from 0 (entry_sorts (d.objects ++ d.outputs))) ≡ true
    member v e = let z : 0 + v.0 ≡ v.0 = omega arith in subst (λ k. among same_variable (k, v.1) (numbered_from 0 (entry_sorts (d.objects ++ d.outputs))) ≡ true) z (numbered-among 0 v.0 v.1 (entry_sorts (d.objects ++ d.outputs)) e)

pub few-of : (d : Diagram) (ls : List Literal) (ts : List Term) → IsDrawn d → ls ≡ map negated d.required → ts ≡ output_terms d → length (variables (record { literals = ls; answer = Some ts })) < 4000000000
few-of d ls ts is same too = subst (λ ls. length (variables (record { literals = ls; answer = Some ts })) < 4000000000) (sym same)
    (subst (λ ts. length (variables (record { literals = map negated d.required; answer = Some ts })) < 4000000000) (sym too) (goal-few d is))

pub objects-few : (d : Diagram) → IsDrawn d → length d.objects ≤ 32
objects-few d is = is.well.few_objects

pub outputs-few : (d : Diagram) → IsDrawn d → length d.outputs ≤ 18
outputs-few d is = let dummies : length d.inputs + length d.outputs ≤ 18 = is.well.few_dummies in omega arith

pub ruleset counting = (common_steps, objects-few, outputs-few)
