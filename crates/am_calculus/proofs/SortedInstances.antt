-- The instance of a well sorted clause is well sorted.
use Rattle.std.proofs.Common.{◌≡◌, ◌∙◌, ◌||◌, ◌++◌, ℕ, zero, suc, Bool, true, false, not, cond, refl, ap, subst, List, [], ◌∷◌, map, slice_get, slice_index_or, Option, Some, None, is_some, is_none}
use Rattle.std.specs.List.{list_any, list_all, filter, remove}
use Rattle.std.proofs.lemmas.List.Folds.{list_any-append}
use Rattle.am_term.specs.declared.id.SortId.{SortId}
use Rattle.am_term.specs.declared.symbol.Symbol.{Symbol}
use Rattle.am_term.specs.declared.signature.Signature.{Signature}
use Rattle.am_term.specs.declared.term.Term.{Term}
use Rattle.am_term.specs.declared.term.Term.TheVariants.{Var}
use Rattle.am_term.specs.declared.term.Atom.{Atom}
use Rattle.am_term.specs.declared.term.Atom.TheVariants.{Rel, Eq}
use Rattle.am_term.specs.declared.term.Literal.{Literal}
use Rattle.am_term.specs.Instance.{instance, instances, instance-Var}
use Rattle.am_term.specs.Sorting.{sort_of, sorts_of, fits_place, fit_places, are_akin, relates, is_sorted_atom, is_sorted_literal, term_fits, KeepsSorts}
use Rattle.am_term.specs.Sorts.{akin}
use Rattle.am_term.specs.Variables.{occurs}
use Rattle.am_term.proofs.Forest.{fits-akin, akin-trans, akin-sym}
use Rattle.am_term.proofs.Kept.{instance-fits, instances-fit, KeepEach}
use Rattle.am_term.proofs.Tests.{and_left, and_right, and_both}
use Rattle.am_clause.specs.declared.clause.Clause.{Clause}
use Rattle.am_clause.specs.Distinct.{among, distinct}
use Rattle.am_clause.specs.Variables.{Variable, same_variable, occurrences, occurrences_all, in_atom, in_literals, in_answer, in_clause, variables, occurrences-none, occurrences-more}
use Rattle.am_clause.specs.Renaming.{places_in}
use Rattle.am_clause.specs.Numbered.{IsNumbered, sorts_in}
use Rattle.am_clause.proofs.Bijections.{read-place, listed}
use Rattle.am_clause.proofs.Renames.{Within, within-left, within-right}
use Rattle.am_term.specs.Instance.{instance_atom, instance_literal, instance_literals}
use Rattle.am_clause.specs.Bound.{instance_answer, bound}
use Rattle.am_clause.specs.SortedClause.{is_sorted_answer, is_sorted_clause, are_bindings}
use Rattle.am_clause.proofs.Occurring.{among-occurs}

module _ (sig : Signature) (ins : List SortId) where
  -- the k-th term fits the k-th place
  fit-at : (ts : List Term) (ps : List SortId) (k : ℕ) (s : SortId) (d : Term) → fit_places sig (sorts_of sig ins ts) ps ≡ true → slice_get ps k ≡ Some s → term_fits sig ins (slice_index_or ts k d) s ≡ true
  fit-at ts [] k s d e at = absurd cc
  fit-at [] (p ∷ ps) k s d e at = absurd cc
  fit-at (t ∷ ts) (p ∷ ps) zero s d e at = let one : p ≡ s = cc in subst (λ (x : SortId). term_fits sig ins t x ≡ true) one (and_left (term_fits sig ins t p) (fit_places sig (sorts_of sig ins ts) ps) e)
  fit-at (t ∷ ts) (p ∷ ps) (suc k) s d e at = fit-at ts ps k s d (and_right (term_fits sig ins t p) (fit_places sig (sorts_of sig ins ts) ps) e) at

  sort-read : (vs : List Variable) (k : ℕ) (v : Variable) → slice_get vs k ≡ Some v → slice_get (map (λ (x : Variable). x.1) vs) k ≡ Some v.1
  sort-read [] k v e = absurd cc
  sort-read (x ∷ xs) zero v e = let one : x ≡ v = cc in ap (λ (y : Variable). Some y.1) one
  sort-read (x ∷ xs) (suc k) v e = sort-read xs k v e

  module _ (with : List Term) where
    -- each of these variables becomes a term whose sort fits its own
    abbrev pub Keeps : List Variable → Type 0
    Keeps vs = (v : Variable) → Within v vs → term_fits sig ins (instance with (Var v.0 v.1)) v.1 ≡ true

    pub bindings-keep : (c : Clause) → IsNumbered c → are_bindings sig ins with c ≡ true → Keeps (in_clause c)
    bindings-keep c numbered binds v m =
        let read : slice_get (variables c) (places_in (variables c) v.0 v.1) ≡ Some v = read-place (variables c) v (listed v c m) in
        let at : v.0 ≡ places_in (variables c) v.0 v.1 = numbered (places_in (variables c) v.0 v.1) v read in
        let sort : slice_get (sorts_in c) v.0 ≡ Some v.1 = ap (slice_get (sorts_in c)) at ∙ sort-read (variables c) (places_in (variables c) v.0 v.1) v read in
        ap (λ t. term_fits sig ins t v.1) (instance-Var with v.0 v.1) ∙ fit-at with (sorts_in c) v.0 v.1 (Var v.0 v.1) binds sort

    left : (vs ws : List Variable) → Keeps (vs ++ ws) → Keeps vs
    left vs ws h v m = h v (within-left v vs ws m)

    right : (vs ws : List Variable) → Keeps (vs ++ ws) → Keeps ws
    right vs ws h v m = h v (within-right v vs ws m)

    term-keeps : (t : Term) → Keeps (occurrences t) → KeepsSorts sig ins with t
    term-keeps t h n s o = h (n, s) (among-occurs n s t ∙ o)

    among-all : (n : ℕ) (s : SortId) (ts : List Term) → among same_variable (n, s) (occurrences_all ts) ≡ list_any (occurs n s) ts
    among-all n s [] = ap (among same_variable (n, s)) occurrences-none
    among-all n s (t ∷ ts) = ap (among same_variable (n, s)) (occurrences-more t ts) ∙ (list_any-append (same_variable (n, s)) (occurrences t) (occurrences_all ts)
        ∙ (ap (λ b. b || among same_variable (n, s) (occurrences_all ts)) (among-occurs n s t) ∙ ap (λ b. occurs n s t || b) (among-all n s ts)))

    terms-keep : (ts : List Term) → Keeps (occurrences_all ts) → KeepEach sig ins with ts
    terms-keep ts h n s o = h (n, s) (among-all n s ts ∙ o)

    -- ---- terms

    fits-akin_place : (o : Option SortId) (s : SortId) → fits_place sig o s ≡ true → are_akin sig o (Some s) ≡ true
    fits-akin_place None s e = absurd cc
    fits-akin_place (Some r) s e = fits-akin sig r s e

    akin-place : (o u : Option SortId) (s r : SortId) → are_akin sig o (Some s) ≡ true → are_akin sig u (Some r) ≡ true → akin sig s r ≡ true → are_akin sig o u ≡ true
    akin-place None u s r e f g = absurd cc
    akin-place (Some x) None s r e f g = absurd cc
    akin-place (Some x) (Some y) s r e f g = akin-trans sig x s y e (akin-trans sig s r y g (akin-sym sig y r f))

    side-akin : (t : Term) (s : SortId) → Keeps (occurrences t) → sort_of sig ins t ≡ Some s → are_akin sig (sort_of sig ins (instance with t)) (Some s) ≡ true
    side-akin t s h e = fits-akin_place (sort_of sig ins (instance with t)) s (instance-fits sig ins with t s (term-keeps t h) e)

    sides-akin : (t u : Term) → Keeps (occurrences t) → Keeps (occurrences u) → (o v : Option SortId) → sort_of sig ins t ≡ o → sort_of sig ins u ≡ v → are_akin sig o v ≡ true
        → are_akin sig (sort_of sig ins (instance with t)) (sort_of sig ins (instance with u)) ≡ true
    sides-akin t u h k None v e f g = absurd cc
    sides-akin t u h k (Some s) None e f g = absurd cc
    sides-akin t u h k (Some s) (Some r) e f g = akin-place (sort_of sig ins (instance with t)) (sort_of sig ins (instance with u)) s r (side-akin t s h e) (side-akin u r k f) g

    relates-kept : (o : Option Symbol) (ts : List Term) → Keeps (occurrences_all ts) → relates sig o (sorts_of sig ins ts) ≡ true → relates sig o (sorts_of sig ins (instances with ts)) ≡ true
    relates-kept None ts h e = absurd cc
    relates-kept (Some y) ts h e = and_both (is_none y.result) (fit_places sig (sorts_of sig ins (instances with ts)) y.args)
        (and_left (is_none y.result) (fit_places sig (sorts_of sig ins ts) y.args) e)
        (instances-fit sig ins with ts (terms-keep ts h) y.args (and_right (is_none y.result) (fit_places sig (sorts_of sig ins ts) y.args) e))

    pub atom-sorted : (x : Atom) → Keeps (in_atom x) → is_sorted_atom sig ins x ≡ true → is_sorted_atom sig ins (instance_atom with x) ≡ true
    atom-sorted (Rel r args) h e = relates-kept (slice_get sig.symbols r.0) args h e
    atom-sorted (Eq t u) h e = sides-akin t u (left (occurrences t) (occurrences u) h) (right (occurrences t) (occurrences u) h) (sort_of sig ins t) (sort_of sig ins u) refl refl e

    pub literals-sorted : (ls : List Literal) → Keeps (in_literals ls) → list_all (is_sorted_literal sig ins) ls ≡ true → list_all (is_sorted_literal sig ins) (instance_literals with ls) ≡ true
    literals-sorted [] h e = refl
    literals-sorted (l ∷ ls) h e = and_both (is_sorted_literal sig ins (instance_literal with l)) (list_all (is_sorted_literal sig ins) (instance_literals with ls))
        (atom-sorted l.atom (left (in_atom l.atom) (in_literals ls) h) (and_left (is_sorted_literal sig ins l) (list_all (is_sorted_literal sig ins) ls) e))
        (literals-sorted ls (right (in_atom l.atom) (in_literals ls) h) (and_right (is_sorted_literal sig ins l) (list_all (is_sorted_literal sig ins) ls) e))

    has-sort : (t : Term) → Keeps (occurrences t) → (o : Option SortId) → sort_of sig ins t ≡ o → is_some o ≡ true → is_some (sort_of sig ins (instance with t)) ≡ true
    has-sort t h None is e = absurd cc
    has-sort t h (Some s) is e = fitting (sort_of sig ins (instance with t)) (instance-fits sig ins with t s (term-keeps t h) is)
      where
        fitting : (u : Option SortId) → fits_place sig u s ≡ true → is_some u ≡ true
        fitting None f = absurd cc
        fitting (Some r) f = refl

    terms-sorted : (ts : List Term) → Keeps (occurrences_all ts) → list_all (λ t. is_some (sort_of sig ins t)) ts ≡ true → list_all (λ t. is_some (sort_of sig ins t)) (instances with ts) ≡ true
    terms-sorted [] h e = refl
    terms-sorted (t ∷ ts) h e =
        let g : Keeps (occurrences t ++ occurrences_all ts) = rw occurrences-more at h in
        and_both (is_some (sort_of sig ins (instance with t))) (list_all (λ t. is_some (sort_of sig ins t)) (instances with ts))
        (has-sort t (left (occurrences t) (occurrences_all ts) g) (sort_of sig ins t) refl (and_left (is_some (sort_of sig ins t)) (list_all (λ t. is_some (sort_of sig ins t)) ts) e))
        (terms-sorted ts (right (occurrences t) (occurrences_all ts) g) (and_right (is_some (sort_of sig ins t)) (list_all (λ t. is_some (sort_of sig ins t)) ts) e))

    answer-sorted : (o : Option (List Term)) → Keeps (in_answer o) → is_sorted_answer sig ins o ≡ true → is_sorted_answer sig ins (instance_answer with o) ≡ true
    answer-sorted None h e = refl
    answer-sorted (Some ts) h e = terms-sorted ts h e

    -- the instance of a well sorted clause
    pub bound-sorted : (c : Clause) → IsNumbered c → are_bindings sig ins with c ≡ true → is_sorted_clause sig ins c ≡ true → is_sorted_clause sig ins (bound with c) ≡ true
    bound-sorted c numbered binds e =
        let h : Keeps (in_clause c) = bindings-keep c numbered binds in
        and_both (list_all (is_sorted_literal sig ins) (instance_literals with c.literals)) (is_sorted_answer sig ins (instance_answer with c.answer))
        (literals-sorted c.literals (left (in_literals c.literals) (in_answer c.answer) h) (and_left (list_all (is_sorted_literal sig ins) c.literals) (is_sorted_answer sig ins c.answer) e))
        (answer-sorted c.answer (right (in_literals c.literals) (in_answer c.answer) h) (and_right (list_all (is_sorted_literal sig ins) c.literals) (is_sorted_answer sig ins c.answer) e))

-- ---- what holds of each literal holds of each literal of a conclusion

module _ {A : Type 0} (test : A → Bool) where
  pub all-removed : (xs : List A) (i : ℕ) → list_all test xs ≡ true → list_all test (remove xs i) ≡ true
  all-removed [] zero e = refl
  all-removed [] (suc i) e = refl
  all-removed (x ∷ xs) zero e = and_right (test x) (list_all test xs) e
  all-removed (x ∷ xs) (suc i) e = and_both (test x) (list_all test (remove xs i)) (and_left (test x) (list_all test xs) e) (all-removed xs i (and_right (test x) (list_all test xs) e))

  pub all-filter : (p : A → Bool) (xs : List A) → list_all test xs ≡ true → list_all test (filter p xs) ≡ true
  all-filter p [] e = refl
  all-filter p (x ∷ xs) e = by (p x) (and_left (test x) (list_all test xs) e) (all-filter p xs (and_right (test x) (list_all test xs) e))
    where
      by : (b : Bool) → test x ≡ true → list_all test (filter p xs) ≡ true → list_all test (cond b (x ∷ filter p xs) (filter p xs)) ≡ true
      by true f h = and_both (test x) (list_all test (filter p xs)) f h
      by false f h = h

  pub all-distinct : (same : A → A → Bool) (xs : List A) → list_all test xs ≡ true → list_all test (distinct same xs) ≡ true
  all-distinct same [] e = refl
  all-distinct same (x ∷ xs) e = and_both (test x) (list_all test (filter (λ y. not (same x y)) (distinct same xs))) (and_left (test x) (list_all test xs) e)
      (all-filter (λ y. not (same x y)) (distinct same xs) (all-distinct same xs (and_right (test x) (list_all test xs) e)))
