-- Variables, their places in a list, and lists of them that grow.
use Rattle.std.proofs.Common.{◌≡◌, ◌∙◌, ◌||◌, ◌==◌, ◌+◌, ◌<◌, ◌≤◌, ℕ, zero, suc, Bool, true, false, refl, sym, ap, arith, List, [], ◌∷◌, ◌++◌, length, take, drop, get_or}
use Rattle.std.specs.List.{flat_map}
use Rattle.std.proofs.lemmas.Bool.Decides.{nat_tests}
use Rattle.std.proofs.Math.Numerals.{add-one}
use Rattle.std.proofs.Math.Seq.{drop-cons}
use Rattle.std.proofs.lemmas.Bool.{or_parts}
use Rattle.std.proofs.lemmas.List.{take_more, append-nil}
use Rattle.std.proofs.lemmas.List.Concat.{flat_map-append}
use Rattle.am_term.specs.declared.id.SortId.{SortId}
use Rattle.am_term.specs.declared.term.Term.{Term}
use Rattle.am_term.specs.declared.term.Literal.{Literal}
use Rattle.am_term.specs.declared.term.Formula.{Formula}
use Rattle.am_term.proofs.Tests.{and_left, and_right, and_both, never_both}
use Rattle.am_clause.specs.declared.clause.Clause.{Clause}
use Rattle.am_clause.specs.Distinct.{among, with_new}
use Rattle.am_clause.specs.Variables.{Variable, same_variable, occurrences, occurrences_all, in_atom, in_literals, in_answer, in_clause, in_formula, in_formulas, variables, variables_of}
use Rattle.am_clause.specs.Renaming.{places_in}
use Rattle.am_clause.proofs.Firsts.{with_new-none, with_new-append, with_new-old, with_new-new, with_new-distinct}

or_rest : (a b : Bool) → a ≡ false → (a || b) ≡ true → b ≡ true
or_rest true b e f = never_both true refl e
or_rest false b e f = f

number-same : (n : ℕ) → (n == n) ≡ true
number-same n = grind (arith, nat_tests)

number-is : (n m : ℕ) → (n == m) ≡ true → n ≡ m
number-is n m e = grind (arith, nat_tests)

pub same_variable-refl : (v : Variable) → same_variable v v ≡ true
unfolding same_variable
same_variable-refl v = and_both (v.0 == v.0) (v.1.0 == v.1.0) (number-same v.0) (number-same v.1.0)

pub same_variable-sound : (v w : Variable) → same_variable v w ≡ true → v ≡ w
unfolding same_variable
same_variable-sound v w e =
    let a : v.0 ≡ w.0 = number-is v.0 w.0 (and_left (v.0 == w.0) (v.1.0 == w.1.0) e) in
    let b : v.1.0 ≡ w.1.0 = number-is v.1.0 w.1.0 (and_right (v.0 == w.0) (v.1.0 == w.1.0) e) in
    let c : v.1 ≡ w.1 = ap (λ (i : ℕ). let r : SortId = record { 0 = i } in r) b in
    ap (λ (n : ℕ). let x : Variable = (n, v.1) in x) a ∙ ap (λ (s : SortId). let x : Variable = (w.0, s) in x) c

pub place-none : (n : ℕ) (s : SortId) → places_in [] n s ≡ 0
unfolding places_in
place-none n s = refl

pub place-here : (v : Variable) (vs : List Variable) (n : ℕ) (s : SortId) → same_variable (n, s) v ≡ true → places_in (v ∷ vs) n s ≡ 0
unfolding places_in
place-here v vs n s e = rw e

pub place-later : (v : Variable) (vs : List Variable) (n : ℕ) (s : SortId) → same_variable (n, s) v ≡ false → places_in (v ∷ vs) n s ≡ places_in vs n s + 1
unfolding places_in
place-later v vs n s e = rw e (omega arith)

-- a search from the i-th on
pub place-found : (vs : List Variable) (i : ℕ) (d : Variable) (n : ℕ) (s : SortId) → i < length vs → same_variable (n, s) (get_or vs i d) ≡ true → places_in (drop i vs) n s ≡ 0
place-found [] i d n s h e = absurd (omega arith)
place-found (v ∷ vs) zero d n s h e = place-here v vs n s e
place-found (v ∷ vs) (suc i) d n s h e = place-found vs i d n s (omega arith) e

pub place-passed : (vs : List Variable) (i : ℕ) (d : Variable) (n : ℕ) (s : SortId) → i < length vs → same_variable (n, s) (get_or vs i d) ≡ false → places_in (drop i vs) n s ≡ places_in (drop (i + 1) vs) n s + 1
place-passed vs i d n s h e = rw (add-one i, drop-cons vs i d) (place-later (get_or vs i d) (drop (suc i) vs) n s e)

pub place-end : (vs : List Variable) (i n : ℕ) (s : SortId) → length vs ≤ i → places_in (drop i vs) n s ≡ 0
place-end [] zero n s h = place-none n s
place-end [] (suc i) n s h = place-none n s
place-end (v ∷ vs) zero n s h = absurd (omega arith)
place-end (v ∷ vs) (suc i) n s h = place-end vs i n s (omega arith)

-- the place is below the length exactly where the variable is a member
abbrev Low : List Variable → ℕ → SortId → Type 0
Low vs n s = among same_variable (n, s) vs ≡ true → places_in vs n s < length vs

low_more : (v : Variable) (vs : List Variable) (n : ℕ) (s : SortId) → Low vs n s → (b : Bool) → same_variable (n, s) v ≡ b → Low (v ∷ vs) n s
low_more v vs n s h true t e = omega (arith, place-here v vs n s t)
low_more v vs n s h false t e = let l : places_in vs n s < length vs = h (or_rest (same_variable (n, s) v) (among same_variable (n, s) vs) t e) in omega (arith, place-later v vs n s t)

pub place-low : (vs : List Variable) (n : ℕ) (s : SortId) → Low vs n s
place-low [] n s = λ e. absurd cc
place-low (v ∷ vs) n s = low_more v vs n s (place-low vs n s) (same_variable (n, s) v) refl

abbrev High : List Variable → ℕ → SortId → Type 0
High vs n s = among same_variable (n, s) vs ≡ false → places_in vs n s ≡ length vs

high_more : (v : Variable) (vs : List Variable) (n : ℕ) (s : SortId) → High vs n s → (b : Bool) → same_variable (n, s) v ≡ b → High (v ∷ vs) n s
high_more v vs n s h true t e = never_both (same_variable (n, s) v) t (or_parts (same_variable (n, s) v) (among same_variable (n, s) vs) e).0
high_more v vs n s h false t e = let l : places_in vs n s ≡ length vs = h (or_parts (same_variable (n, s) v) (among same_variable (n, s) vs) e).1 in omega (arith, place-later v vs n s t)

pub place-high : (vs : List Variable) (n : ℕ) (s : SortId) → High vs n s
place-high [] n s = λ e. place-none n s
place-high (v ∷ vs) n s = high_more v vs n s (place-high vs n s) (same_variable (n, s) v) refl

pub place-within : (vs : List Variable) (n : ℕ) (s : SortId) → places_in vs n s ≤ length vs
place-within vs n s = by_test (among same_variable (n, s) vs) refl
  where
    by_test : (b : Bool) → among same_variable (n, s) vs ≡ b → places_in vs n s ≤ length vs
    by_test true e = omega (arith, place-low vs n s e)
    by_test false e = omega (arith, place-high vs n s e)

-- one more variable
pub noted-old : (vs : List Variable) (n : ℕ) (s : SortId) → places_in vs n s < length vs → with_new same_variable vs ((n, s) ∷ []) ≡ vs
noted-old vs n s h = by_test (among same_variable (n, s) vs) refl
  where
    by_test : (b : Bool) → among same_variable (n, s) vs ≡ b → with_new same_variable vs ((n, s) ∷ []) ≡ vs
    by_test true e = with_new-old same_variable vs (n, s) e
    by_test false e = absurd (omega (arith, place-high vs n s e))

pub noted-new : (vs : List Variable) (n : ℕ) (s : SortId) → length vs ≤ places_in vs n s → with_new same_variable vs ((n, s) ∷ []) ≡ vs ++ (n, s) ∷ []
noted-new vs n s h = by_test (among same_variable (n, s) vs) refl
  where
    by_test : (b : Bool) → among same_variable (n, s) vs ≡ b → with_new same_variable vs ((n, s) ∷ []) ≡ vs ++ (n, s) ∷ []
    by_test true e = absurd (omega (arith, place-low vs n s e))
    by_test false e = with_new-new same_variable vs (n, s) e

pub noted-none : (vs : List Variable) → with_new same_variable vs [] ≡ vs
noted-none = with_new-none same_variable

pub noted-both : (vs xs ys : List Variable) → with_new same_variable vs (xs ++ ys) ≡ with_new same_variable (with_new same_variable vs xs) ys
noted-both = with_new-append same_variable

flat-more : {X : Type 0} (f : X → List Variable) (xs : List X) (i : ℕ) (d : X) → i < length xs → flat_map f (take (i + 1) xs) ≡ flat_map f (take i xs) ++ f (get_or xs i d)
flat-more f xs i d h = ap (flat_map f) (take_more xs i d h) ∙ flat_map-append f (take i xs) (get_or xs i d ∷ []) ∙ ap (λ ys. flat_map f (take i xs) ++ ys) (append-nil (f (get_or xs i d)))

-- one more term, one more literal
pub terms-noted : (vs : List Variable) (ts : List Term) (i : ℕ) (d : Term) → i < length ts
    → with_new same_variable vs (occurrences_all (take (i + 1) ts)) ≡ with_new same_variable (with_new same_variable vs (occurrences_all (take i ts))) (occurrences (get_or ts i d))
unfolding occurrences_all
terms-noted vs ts i d h = ap (with_new same_variable vs) (flat-more occurrences ts i d h) ∙ noted-both vs (flat_map occurrences (take i ts)) (occurrences (get_or ts i d))

pub literals-noted : (vs : List Variable) (ls : List Literal) (i : ℕ) (d : Literal) → i < length ls
    → with_new same_variable vs (in_literals (take (i + 1) ls)) ≡ with_new same_variable (with_new same_variable vs (in_literals (take i ls))) (in_atom (get_or ls i d).atom)
literals-noted vs ls i d h = ap (with_new same_variable vs) (flat-more (λ (l : Literal). in_atom l.atom) ls i d h) ∙ noted-both vs (in_literals (take i ls)) (in_atom (get_or ls i d).atom)

pub parts-noted : (vs : List Variable) (fs : List Formula) (i : ℕ) (d : Formula) → i < length fs
    → with_new same_variable vs (in_formulas (take (i + 1) fs)) ≡ with_new same_variable (with_new same_variable vs (in_formulas (take i fs))) (in_formula (get_or fs i d))
unfolding in_formulas
parts-noted vs fs i d h = ap (with_new same_variable vs) (flat-more in_formula fs i d h) ∙ noted-both vs (flat_map in_formula (take i fs)) (in_formula (get_or fs i d))

-- all of a formula
pub formula-noted : (f : Formula) → with_new same_variable [] (in_formula f) ≡ variables_of f
unfolding variables_of
formula-noted f = with_new-distinct same_variable same_variable-sound same_variable-refl (in_formula f)

-- all of a clause
pub all-noted : (c : Clause) → with_new same_variable (with_new same_variable [] (in_literals c.literals)) (in_answer c.answer) ≡ variables c
unfolding variables
all-noted c = sym (noted-both [] (in_literals c.literals) (in_answer c.answer)) ∙ with_new-distinct same_variable same_variable-sound same_variable-refl (in_clause c)
