-- The names of the terms that calls make.
use Rattle.std.proofs.Common.{◌≡◌, ◌∙◌, ◌⊎◌, inl, inr, ◌+◌, ◌/◌, ◌%◌, ◌<◌, ◌≤◌, ℕ, suc, arith, Bool, true, false, refl, sym, ap, subst, List, [], ◌∷◌, Option, Some, None, map, length, nat_le, slice_index_or, true≢false, if◌then◌else◌}
use Rattle.std.proofs.lemmas.Bool.Decides.{nat_tests}
use Rattle.am_term.specs.declared.id.SortId.{SortId}
use Rattle.am_term.specs.declared.term.Term.{Term}
use Rattle.am_term.specs.Names.{is_digit, is_local_name}
use Rattle.am_term.specs.Same.{same_term}
use Rattle.am_term.proofs.Alike.{same_term-refl, same_term-sound}
use Rattle.am_term.proofs.Tests.{and_both, fails}
use Rattle.am_diagram.specs.Listed.{entry_names}
use Rattle.am_plan.specs.Names.{digit, local_name, output_for, Named, named_by, name_of_term}
use Rattle.am_plan.specs.Numbering.{next_local, named_from}
use Rattle.am_plan.proofs.Membership.{Among, Different, among-map, map-among}

-- ---- locals
pub local-is : (n : ℕ) → is_local_name (local_name n) ≡ true
unfolding is_local_name
local-is n = all_digits (n / 10000) (n / 1000) (n / 100) (n / 10) (n / 1)
  where
    one : (k : ℕ) → is_digit (48 + k % 10) ≡ true
    one k = and_both (nat_le 48 (48 + k % 10)) (nat_le (48 + k % 10) 57) (low k) (high k)
      where
        low : (k : ℕ) → nat_le 48 (48 + k % 10) ≡ true
        low k = let l : 48 ≤ 48 + k % 10 = omega arith in grind (arith, nat_tests)

        high : (k : ℕ) → nat_le (48 + k % 10) 57 ≡ true
        high k = let l : 48 + k % 10 ≤ 57 = omega arith in grind (arith, nat_tests)

    all_digits : (a b c d e : ℕ) → is_local_name (84 ∷ (48 + a % 10) ∷ (48 + b % 10) ∷ (48 + c % 10) ∷ (48 + d % 10) ∷ (48 + e % 10) ∷ []) ≡ true
    all_digits a b c d e = rw (one a, one b, one c, one d, one e) refl

same_numbers : (m n : ℕ) → m < 100000 → n < 100000 → digit m 10000 ≡ digit n 10000 → digit m 1000 ≡ digit n 1000 → digit m 100 ≡ digit n 100 → digit m 10 ≡ digit n 10 → digit m 1 ≡ digit n 1 → m ≡ n
same_numbers m n h k a b c d e = omega arith

pub local-one : (m n : ℕ) → m < 100000 → n < 100000 → local_name m ≡ local_name n → m ≡ n
local-one m n h k e = same_numbers m n h k (at 1 e) (at 2 e) (at 3 e) (at 4 e) (at 5 e)
  where
    at : (i : ℕ) → local_name m ≡ local_name n → slice_index_or (local_name m) i 0 ≡ slice_index_or (local_name n) i 0
    at i e = ap (λ (bs : List ℕ). slice_index_or bs i 0) e

-- ---- outputs with their answers
abbrev pub Answered : List ℕ × SortId → Term → List (List ℕ × SortId) → List Term → Type 0
Answered o x [] xs = ⊥
Answered o x (p ∷ os) [] = ⊥
Answered o x (p ∷ os) (y ∷ xs) = ((o ≡ p) × (x ≡ y)) ⊎ Answered o x os xs

pub answered-output : (o : List ℕ × SortId) (x : Term) (os : List (List ℕ × SortId)) (xs : List Term) → Answered o x os xs → Among o os
answered-output o x [] xs a = absurd a
answered-output o x (p ∷ os) [] a = absurd a
answered-output o x (p ∷ os) (y ∷ xs) (inl e) = inl e.0
answered-output o x (p ∷ os) (y ∷ xs) (inr a) = inr (answered-output o x os xs a)

pub answered-name : (o : List ℕ × SortId) (x : Term) (os : List (List ℕ × SortId)) (xs : List Term) → Answered o x os xs → Among o.0 (entry_names os)
answered-name o x os xs a = among-map (λ (e : List ℕ × SortId). e.0) o os (answered-output o x os xs a)

-- of one name there is one output and one answer
pub answered-one : (o p : List ℕ × SortId) (x y : Term) (os : List (List ℕ × SortId)) (xs : List Term) → Different (entry_names os) → Answered o x os xs → Answered p y os xs → o.0 ≡ p.0 → x ≡ y
answered-one o p x y [] xs h a b e = absurd a
answered-one o p x y (q ∷ os) [] h a b e = absurd a
answered-one o p x y (q ∷ os) (z ∷ xs) h (inl a) (inl b) e = a.1 ∙ sym b.1
answered-one o p x y (q ∷ os) (z ∷ xs) h (inl a) (inr b) e = absurd (h.0 (subst (λ (n : List ℕ). Among n (entry_names os)) (sym e ∙ ap (λ (r : List ℕ × SortId). r.0) a.0) (answered-name p y os xs b)))
answered-one o p x y (q ∷ os) (z ∷ xs) h (inr a) (inl b) e = absurd (h.0 (subst (λ (n : List ℕ). Among n (entry_names os)) (e ∙ ap (λ (r : List ℕ × SortId). r.0) b.0) (answered-name o x os xs a)))
answered-one o p x y (q ∷ os) (z ∷ xs) h (inr a) (inr b) e = answered-one o p x y os xs h.1 a b e

pub output-answered : (x : Term) (os : List (List ℕ × SortId)) (xs : List Term) (n : List ℕ) → output_for x os xs ≡ Some n → (o : List ℕ × SortId) × (o.0 ≡ n) × Answered o x os xs
output-answered x [] xs n e = absurd cc
output-answered x (p ∷ os) [] n e = absurd cc
output-answered x (p ∷ os) (y ∷ xs) n e = by_test (output-answered x os xs n) (same_term x y) refl e
  where
    by_test : (output_for x os xs ≡ Some n → (o : List ℕ × SortId) × (o.0 ≡ n) × Answered o x os xs) → (b : Bool) → same_term x y ≡ b → (if b then Some p.0 else output_for x os xs) ≡ Some n → (o : List ℕ × SortId) × (o.0 ≡ n) × Answered o x (p ∷ os) (y ∷ xs)
    by_test later true is e = let same : p.0 ≡ n = cc in (p, same, inl (refl, same_term-sound x y is))
    by_test later false is e = let r = later e in (r.0, r.1, inr r.2)

-- ---- names of terms
-- an output's name, or a local's whose number is from k on and below m
abbrev pub IsNamed : List (List ℕ × SortId) → List Term → ℕ → ℕ → Named → Type 0
IsNamed os answer k m e = (output_for e.1 os answer ≡ Some e.0) ⊎ ((output_for e.1 os answer ≡ None) × ((j : ℕ) × (e.0 ≡ local_name j) × (k ≤ j) × (j < m)))

module _ (os : List (List ℕ × SortId)) (answer : List Term) where
  pub named-terms : (k : ℕ) (xs : List Term) → map (λ (e : Named). e.1) (named_from k os answer xs) ≡ xs
  named-terms k [] = refl
  named-terms k (x ∷ xs) = ap (λ (y : Term). y ∷ map (λ (e : Named). e.1) (named_from (next_local (output_for x os answer) k) os answer xs)) (term (output_for x os answer)) ∙ ap (λ (ys : List Term). x ∷ ys) (named-terms (next_local (output_for x os answer) k) xs)
    where
      term : (o : Option (List ℕ)) → (named_by o k x).1 ≡ x
      term None = refl
      term (Some n) = refl

  next-bound : (o : Option (List ℕ)) (k : ℕ) → k ≤ next_local o k
  next-bound None k = omega arith
  next-bound (Some n) k = omega arith

  next-few : (o : Option (List ℕ)) (k n : ℕ) → next_local o k + n ≤ k + suc n
  next-few None k n = omega arith
  next-few (Some m) k n = omega arith

  first-named : (k m : ℕ) (x : Term) → k < m → (o : Option (List ℕ)) → output_for x os answer ≡ o → IsNamed os answer k m (named_by o k x)
  first-named k m x l None is = inr (is, (k, refl, omega arith, l))
  first-named k m x l (Some n) is = inl is

  named-wider : (e : Named) (k j m n : ℕ) → k ≤ j → m ≤ n → IsNamed os answer j m e → IsNamed os answer k n e
  named-wider e k j m n l g (inl o) = inl o
  named-wider e k j m n l g (inr p) = inr (p.0, (p.1.0, p.1.1, low k j p.1.0 l p.1.2, high p.1.0 m n p.1.3 g))
    where
      low : (a b c : ℕ) → a ≤ b → b ≤ c → a ≤ c
      low a b c p q = omega arith

      high : (a b c : ℕ) → a < b → b ≤ c → a < c
      high a b c p q = omega arith

  pub all-named : (k : ℕ) (xs : List Term) (e : Named) → Among e (named_from k os answer xs) → IsNamed os answer k (k + length xs) e
  all-named k [] e a = absurd a
  all-named k (x ∷ xs) e (inl s) = subst (λ (q : Named). IsNamed os answer k (k + length (x ∷ xs)) q) (sym s) (first-named k (k + length (x ∷ xs)) x (more k (length xs)) (output_for x os answer) refl)
    where
      more : (a b : ℕ) → a < a + suc b
      more a b = omega arith
  all-named k (x ∷ xs) e (inr a) =
      let next = next_local (output_for x os answer) k in
      named-wider e k next (next + length xs) (k + length (x ∷ xs)) (next-bound (output_for x os answer) k) (next-few (output_for x os answer) k (length xs)) (all-named next xs e a)

  -- a name that an output and a local have
  module _ (outputs_differ : Different (entry_names os)) (no_local : (n : List ℕ) → Among n (entry_names os) → is_local_name n ≡ false) where
    output-no_local : (x : Term) (n : List ℕ) (j : ℕ) → output_for x os answer ≡ Some n → n ≡ local_name j → ⊥
    output-no_local x n j e is =
        let o = output-answered x os answer n e in
        true≢false (sym (local-is j) ∙ ap is_local_name (sym is) ∙ ap is_local_name (sym o.1) ∙ no_local o.0.0 (answered-name o.0 x os answer o.2))

    pub output-one : (x y : Term) (n : List ℕ) → output_for x os answer ≡ Some n → output_for y os answer ≡ Some n → x ≡ y
    output-one x y n e f =
        let o = output-answered x os answer n e in
        let p = output-answered y os answer n f in
        answered-one o.0 p.0 x y os answer outputs_differ o.2 p.2 (o.1 ∙ sym p.1)

    -- the first name is none of later ones
    first-new : (k m : ℕ) (x : Term) (e : Named) → (x ≡ e.1 → ⊥) → m ≤ 100000 → (o : Option (List ℕ)) → output_for x os answer ≡ o → IsNamed os answer (next_local o k) m e → (named_by o k x).0 ≡ e.0 → ⊥
    first-new k m x e differ l (Some n) is (inl g) same = differ (output-one x e.1 n is (g ∙ ap Some (sym same)))
    first-new k m x e differ l (Some n) is (inr p) same = output-no_local x n p.1.0 is (same ∙ p.1.1)
    first-new k m x e differ l None is (inl g) same = output-no_local e.1 e.0 k g (sym same)
    first-new k m x e differ l None is (inr p) same =
        let one = local-one k p.1.0 (low k p.1.0 m p.1.2 p.1.3 l) (high p.1.0 m p.1.3 l) (same ∙ p.1.1) in
        apart k p.1.0 p.1.2 one
      where
        low : (a b c : ℕ) → a + 1 ≤ b → b < c → c ≤ 100000 → a < 100000
        low a b c p q r = omega arith

        high : (b c : ℕ) → b < c → c ≤ 100000 → b < 100000
        high b c q r = omega arith

        apart : (a b : ℕ) → a + 1 ≤ b → a ≡ b → ⊥
        apart a b p q = absurd (omega arith)

    pub names-differ : (k : ℕ) (xs : List Term) → Different xs → k + length xs ≤ 100000 → Different (map (λ (e : Named). e.0) (named_from k os answer xs))
    names-differ k [] h l = tt
    names-differ k (x ∷ xs) h l =
        let next = next_local (output_for x os answer) k in
        let few = fewer (next + length xs) (k + length (x ∷ xs)) (next-few (output_for x os answer) k (length xs)) l in (
          (λ a.
              let e = map-among (λ (e : Named). e.0) (named_by (output_for x os answer) k x).0 (named_from next os answer xs) a in
              let there = subst (λ (ys : List Term). Among e.0.1 ys) (named-terms next xs) (among-map (λ (q : Named). q.1) e.0 (named_from next os answer xs) e.1) in
              first-new k (next + length xs) x e.0 (λ s. h.0 (subst (λ (y : Term). Among y xs) (sym s) there)) few (output_for x os answer) refl (all-named next xs e.0 e.1) e.2),
          names-differ next xs h.1 few,
        )
      where
        fewer : (a b : ℕ) → a ≤ b → b ≤ 100000 → a ≤ 100000
        fewer a b p q = omega arith

-- ---- where terms differ, each is called by its own name
pub name-own : (es : List Named) (e : Named) → Different (map (λ (q : Named). q.1) es) → Among e es → name_of_term es e.1 ≡ e.0
name-own [] e h a = absurd a
name-own (q ∷ es) e h (inl s) =
    ap (λ (b : Bool). if b then q.0 else name_of_term es e.1) (subst (λ (r : Named). same_term r.1 e.1 ≡ true) s (same_term-refl e.1)) ∙ ap (λ (r : Named). r.0) (sym s)
name-own (q ∷ es) e h (inr a) =
    ap (λ (b : Bool). if b then q.0 else name_of_term es e.1) (fails (same_term q.1 e.1) (λ s. h.0 (subst (λ (x : Term). Among x (map (λ (q : Named). q.1) es)) (sym (same_term-sound q.1 e.1 s)) (among-map (λ (q : Named). q.1) e es a))))
    ∙ name-own es e h.1 a

-- the terms under their names are the pairs again
pub pairs-are : (es : List Named) → Different (map (λ (q : Named). q.1) es) → map (λ (x : Term). (name_of_term es x, x)) (map (λ (q : Named). q.1) es) ≡ es
pairs-are es h = part es (λ e a. name-own es e h a)
  where
    part : (fs : List Named) → ((e : Named) → Among e fs → name_of_term es e.1 ≡ e.0) → map (λ (x : Term). (name_of_term es x, x)) (map (λ (q : Named). q.1) fs) ≡ fs
    part [] g = refl
    part (f ∷ fs) g = ap (λ (n : List ℕ). (n, f.1) ∷ map (λ (x : Term). (name_of_term es x, x)) (map (λ (q : Named). q.1) fs)) (g f (inl refl)) ∙ ap (λ (rs : List Named). f ∷ rs) (part fs (λ e a. g e (inr a)))
