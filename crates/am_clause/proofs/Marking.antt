-- Marking the rows that a row rests on.
use Rattle.std.proofs.Common.{◌≡◌, ◌∙◌, ◌⊎◌, ◌||◌, ◌==◌, ◌++◌, ◌+◌, ◌-◌, ◌<◌, ◌≤◌, inl, inr, ℕ, zero, suc, Bool, true, false, refl, sym, ap, subst, arith, List, [], ◌∷◌, length, set, slice_get, nat_lt, Option, Some, None}
use Rattle.std.specs.List.{list_any, AllByRecursion}
use Rattle.std.proofs.lemmas.Grind.{common_steps}
use Rattle.std.proofs.lemmas.Bool.Decides.{nat_tests}
use Rattle.am_term.specs.Place.{member, with_member}
use Rattle.am_term.proofs.Members.{member-past, with_member-set}
use Rattle.am_term.proofs.Tests.{or_cases}
use Rattle.am_clause.specs.declared.row.Row.{Row}
use Rattle.am_clause.specs.Ancestors.{parents_of, has_parent, AreOrdered, RestsOn, Itself, ByParent}
use Rattle.am_clause.specs.Marks.{flag_of, is_marked, falses, marked_by, parents_marked, stepped, AreMarked}

-- ---- lists with another member

set-past : {A : Type 0} (xs : List A) (i : ℕ) (x : A) → length xs ≤ i → set xs i x ≡ xs
set-past [] i x h = refl
set-past (y ∷ ys) zero x h = absurd (omega arith)
set-past (y ∷ ys) (suc i) x h = ap (λ zs. y ∷ zs) (set-past ys i x (omega arith))

pub with-zero : {A : Type 0} (xs : List A) (k : ℕ) (x : A) → k ≡ 0 → with_member xs k x ≡ xs
with-zero xs zero x e = refl
with-zero xs (suc k) x e = absurd (omega arith)

pub with-past : {A : Type 0} (xs : List A) (k : ℕ) (x : A) → length xs < k → with_member xs k x ≡ xs
with-past xs zero x h = refl
with-past xs (suc k) x h = set-past xs k x (omega arith)

pub falses-more : (n k : ℕ) → k ≡ n + 1 → falses k ≡ falses n ++ false ∷ []
falses-more n zero e = absurd (omega arith)
falses-more n (suc k) e = let s : k ≡ n = omega arith in ap (λ m. falses m ++ false ∷ []) s

pub falses-none : (n : ℕ) → n ≡ 0 → falses n ≡ []
falses-none zero e = refl
falses-none (suc n) e = absurd (omega arith)

pub ruleset marking = (common_steps, nat_tests, with_member-set, with-zero, with-past, falses-more, falses-none)

-- ---- one flag set

set-length : {A : Type 0} (xs : List A) (i : ℕ) (x : A) → length (set xs i x) ≡ length xs
set-length [] i x = refl
set-length (y ∷ ys) zero x = refl
set-length (y ∷ ys) (suc i) x = ap suc (set-length ys i x)

with-length : (flags : List Bool) (p : ℕ) → length (with_member flags p true) ≡ length flags
with-length flags zero = refl
with-length flags (suc i) = set-length flags i true

set-keeps : (flags : List Bool) (i j : ℕ) → flag_of (slice_get flags j) ≡ true → flag_of (slice_get (set flags i true) j) ≡ true
set-keeps [] i j e = e
set-keeps (b ∷ bs) zero zero e = refl
set-keeps (b ∷ bs) zero (suc j) e = e
set-keeps (b ∷ bs) (suc i) zero e = e
set-keeps (b ∷ bs) (suc i) (suc j) e = set-keeps bs i j e

set-here : (flags : List Bool) (i : ℕ) → i < length flags → flag_of (slice_get (set flags i true) i) ≡ true
set-here [] i h = absurd (omega arith)
set-here (b ∷ bs) zero h = refl
set-here (b ∷ bs) (suc i) h = set-here bs i (omega arith)

set-other : (flags : List Bool) (i j : ℕ) → flag_of (slice_get (set flags i true) j) ≡ true → (flag_of (slice_get flags j) ≡ true) ⊎ (i ≡ j)
set-other [] i j e = inl e
set-other (b ∷ bs) zero zero e = inr refl
set-other (b ∷ bs) zero (suc j) e = inl e
set-other (b ∷ bs) (suc i) zero e = inl e
set-other (b ∷ bs) (suc i) (suc j) e = elim (set-other bs i j e) [ inl f ↦ inl f | inr s ↦ inr (ap suc s) ]

put-keeps : (flags : List Bool) (p n : ℕ) → is_marked flags n ≡ true → is_marked (with_member flags p true) n ≡ true
put-keeps flags zero n e = e
put-keeps flags (suc i) zero e = e
put-keeps flags (suc i) (suc j) e = set-keeps flags i j e

put-here : (flags : List Bool) (p : ℕ) → 0 < p → p ≤ length flags → is_marked (with_member flags p true) p ≡ true
put-here flags zero h k = absurd (omega arith)
put-here flags (suc i) h k = set-here flags i (omega arith)

put-other : (flags : List Bool) (p n : ℕ) → is_marked (with_member flags p true) n ≡ true → (is_marked flags n ≡ true) ⊎ (p ≡ n)
put-other flags zero n e = inl e
put-other flags (suc i) zero e = inl e
put-other flags (suc i) (suc j) e = elim (set-other flags i j e) [ inl f ↦ inl f | inr s ↦ inr (ap suc s) ]

-- ---- some flags set

number-same : (n : ℕ) → (n == n) ≡ true
number-same n = grind (arith, nat_tests)

number-is : (m n : ℕ) → (m == n) ≡ true → m ≡ n
number-is m n e = grind (arith, nat_tests)

marked-length : (ps : List ℕ) (flags : List Bool) → length (marked_by flags ps) ≡ length flags
marked-length [] flags = refl
marked-length (p ∷ ps) flags = marked-length ps (with_member flags p true) ∙ with-length flags p

marked-keeps : (ps : List ℕ) (flags : List Bool) (n : ℕ) → is_marked flags n ≡ true → is_marked (marked_by flags ps) n ≡ true
marked-keeps [] flags n e = e
marked-keeps (p ∷ ps) flags n e = marked-keeps ps (with_member flags p true) n (put-keeps flags p n e)

marked-other : (ps : List ℕ) (flags : List Bool) (n : ℕ) → is_marked (marked_by flags ps) n ≡ true → (is_marked flags n ≡ true) ⊎ (list_any (λ q. q == n) ps ≡ true)
marked-other [] flags n e = inl e
marked-other (p ∷ ps) flags n e = elim (marked-other ps (with_member flags p true) n e) [
  | inr m ↦ inr (later (p == n) m)
  | inl f ↦ elim (put-other flags p n f) [
    | inl g ↦ inl g
    | inr s ↦ inr (here s)
  ]
]
  where
    later : (b : Bool) → list_any (λ q. q == n) ps ≡ true → (b || list_any (λ q. q == n) ps) ≡ true
    later true m = refl
    later false m = m

    here : p ≡ n → ((p == n) || list_any (λ q. q == n) ps) ≡ true
    here s = ap (λ b. b || list_any (λ q. q == n) ps) (ap (λ m. m == n) s ∙ number-same n)

-- what holds of all holds of one that is there
all-has : (P : ℕ → Type 0) (ps : List ℕ) (n : ℕ) → AllByRecursion P ps → list_any (λ q. q == n) ps ≡ true → P n
all-has P [] n h m = absurd cc
all-has P (p ∷ ps) n h m = elim (or_cases (p == n) (list_any (λ q. q == n) ps) m) [
  | inl e ↦ subst P (number-is p n e) h.0
  | inr e ↦ all-has P ps n h.1 e
]

marked-has : (ps : List ℕ) (flags : List Bool) (n : ℕ) → 0 < n → n ≤ length flags → list_any (λ q. q == n) ps ≡ true → is_marked (marked_by flags ps) n ≡ true
marked-has [] flags n h k m = absurd cc
marked-has (p ∷ ps) flags n h k m = elim (or_cases (p == n) (list_any (λ q. q == n) ps) m) [
  | inl e ↦ marked-keeps ps (with_member flags p true) n (subst (λ x. is_marked (with_member flags x true) n ≡ true) (sym (number-is p n e)) (put-here flags n h k))
  | inr e ↦ marked-has ps (with_member flags p true) n h (subst (λ x. n ≤ x) (sym (with-length flags p)) k) e
]

-- ---- what rests on what

rests-then : (rows : List Row) (m n : ℕ) → RestsOn rows m n → (p : ℕ) (r : Row) → member rows n ≡ Some r → has_parent r p ≡ true → RestsOn rows m p
rests-then rows m n (Itself k) p r at is = ByParent k p p r at is (Itself p)
rests-then rows m n (ByParent m' q n' s there has more) p r at is = ByParent m' q p s there has (rests-then rows q n' more p r at is)

pub low : (flags : List Bool) (n : ℕ) → is_marked flags n ≡ true → n ≤ length flags
low flags n e = by (nat_lt (length flags) n) refl
  where
    by : (b : Bool) → nat_lt (length flags) n ≡ b → n ≤ length flags
    by true f = let past : length flags < n = grind (arith, nat_tests) in let none : is_marked flags n ≡ false = ap flag_of (member-past flags n past) in absurd cc
    by false f = grind (arith, nat_tests)

positive : {A : Type 0} (xs : List A) (n : ℕ) (x : A) → member xs n ≡ Some x → 0 < n
positive xs zero x e = absurd cc
positive xs (suc n) x e = omega arith

next : (k m : ℕ) → k < m → (m ≡ suc k) ⊎ (suc k < m)
next k m h = by (nat_lt (suc k) m) refl
  where
    by : (b : Bool) → nat_lt (suc k) m ≡ b → (m ≡ suc k) ⊎ (suc k < m)
    by true e = inr (grind (arith, nat_tests))
    by false e = inl (grind (arith, nat_tests))

-- Of the rows, those after the first ones are done: where one of them is marked, its parents are.
pub record Marking (rows : List Row) (last left : ℕ) (flags : List Bool) : Type 0 where
  pub long : length flags ≡ last
  pub there : is_marked flags last ≡ true
  pub sound : (n : ℕ) → is_marked flags n ≡ true → RestsOn rows last n
  pub closed : (m p : ℕ) (r : Row) → left < m → member rows m ≡ Some r → is_marked flags m ≡ true → has_parent r p ≡ true → is_marked flags p ≡ true

falses-length : (k : ℕ) → length (falses k ++ true ∷ []) ≡ suc k
falses-length k = by (falses k) k (plain k)
  where
    more-length : {A : Type 0} (xs : List A) (x : A) → length (xs ++ x ∷ []) ≡ suc (length xs)
    more-length [] x = refl
    more-length (y ∷ ys) x = ap suc (more-length ys x)

    plain : (n : ℕ) → length (falses n) ≡ n
    plain zero = refl
    plain (suc n) = more-length (falses n) false ∙ ap suc (plain n)

    by : (xs : List Bool) (n : ℕ) → length xs ≡ n → length (xs ++ true ∷ []) ≡ suc n
    by xs n e = more-length xs true ∙ ap suc e

-- the one true flag behind false ones
push-true : (xs : List Bool) (j : ℕ) → flag_of (slice_get (xs ++ true ∷ []) j) ≡ true → (flag_of (slice_get xs j) ≡ true) ⊎ (j ≡ length xs)
push-true [] zero e = inr refl
push-true [] (suc j) e = absurd cc
push-true (x ∷ xs) zero e = inl e
push-true (x ∷ xs) (suc j) e = elim (push-true xs j e) [ inl f ↦ inl f | inr s ↦ inr (ap suc s) ]

push-false : (xs : List Bool) (j : ℕ) → flag_of (slice_get (xs ++ false ∷ []) j) ≡ true → flag_of (slice_get xs j) ≡ true
push-false [] zero e = e
push-false [] (suc j) e = e
push-false (x ∷ xs) zero e = e
push-false (x ∷ xs) (suc j) e = push-false xs j e

none-true : (k j : ℕ) → flag_of (slice_get (falses k) j) ≡ true → ⊥
none-true zero j e = let nothing : List Bool = [] in let none : flag_of (slice_get nothing j) ≡ false = refl in absurd cc
none-true (suc k) j e = none-true k j (push-false (falses k) j e)

push-here : (xs : List Bool) (n : ℕ) → length xs ≡ n → flag_of (slice_get (xs ++ true ∷ []) n) ≡ true
push-here [] zero e = refl
push-here [] (suc n) e = absurd (omega arith)
push-here (x ∷ xs) zero e = absurd (omega arith)
push-here (x ∷ xs) (suc n) e = push-here xs n (omega arith)

falses-plain : (k : ℕ) → length (falses k) ≡ k
falses-plain k = omega (arith, falses-length k, length-more (falses k))
  where
    length-more : (xs : List Bool) → length (xs ++ true ∷ []) ≡ suc (length xs)
    length-more [] = refl
    length-more (y ∷ ys) = ap suc (length-more ys)

last-only : (k n : ℕ) → is_marked (falses k ++ true ∷ []) n ≡ true → n ≡ suc k
last-only k zero e = absurd cc
last-only k (suc j) e = elim (push-true (falses k) j e) [
  | inl f ↦ absurd (none-true k j f)
  | inr s ↦ ap suc (s ∙ falses-plain k)
]

started : (rows : List Row) (k : ℕ) → Marking rows (suc k) (suc k) (falses k ++ true ∷ [])
started rows k = record {
  long = falses-length k;
  there = push-here (falses k) k (falses-plain k);
  sound = λ n e. subst (λ (m : ℕ). RestsOn rows (suc k) m) (sym (last-only k n e)) (Itself (suc k));
  closed = λ m p r h at e is. let s : m ≡ suc k = last-only k m e in absurd (omega arith);
}

pub marking-starts : (rows : List Row) (last : ℕ) → 0 < last → Marking rows last last (falses (last - 1) ++ true ∷ [])
marking-starts rows zero h = absurd (omega arith)
marking-starts rows (suc k) h = let s : suc k - 1 ≡ k = omega arith in subst (λ (n : ℕ). Marking rows (suc k) (suc k) (falses n ++ true ∷ [])) (sym s) (started rows k)

module _ (rows : List Row) (ordered : AreOrdered rows) (last : ℕ) where
  unmarked : (k : ℕ) (flags : List Bool) → ((r : Row) → slice_get rows k ≡ Some r → flag_of (slice_get flags k) ≡ true → ⊥) → Marking rows last (suc k) flags → Marking rows last k flags
  unmarked k flags none g = record {
    long = g.long;
    there = g.there;
    sound = g.sound;
    closed = λ m p r h at e is. elim (next k m h) [
      | inl s ↦ absurd (none r (subst (λ (x : ℕ). member rows x ≡ Some r) s at) (subst (λ (x : ℕ). is_marked flags x ≡ true) s e))
      | inr l ↦ g.closed m p r l at e is
    ];
  }

  parents-marked : (k : ℕ) (flags : List Bool) (r : Row) → slice_get rows k ≡ Some r → flag_of (slice_get flags k) ≡ true → Marking rows last (suc k) flags → Marking rows last k (marked_by flags (parents_of r.rule))
  parents-marked k flags r there is g = record {
    long = marked-length (parents_of r.rule) flags ∙ g.long;
    there = marked-keeps (parents_of r.rule) flags last g.there;
    sound = λ n e. elim (marked-other (parents_of r.rule) flags n e) [
      | inl f ↦ g.sound n f
      | inr f ↦ rests-then rows last (suc k) (g.sound (suc k) is) n r there f
    ];
    closed = λ m p s h at e has. elim (next k m h) [
      | inl same ↦ of-this m p s same at has
      | inr l ↦ elim (marked-other (parents_of r.rule) flags m e) [
        | inl f ↦ marked-keeps (parents_of r.rule) flags p (g.closed m p s l at f has)
        | inr f ↦ let b = all-has (λ q. (0 < q) × (q < suc k)) (parents_of r.rule) m (ordered (suc k) r there) f in absurd (too-high m b.1 l)
      ]
    ];
  }
    where
      too-high : (m : ℕ) → m < suc k → suc k < m → ⊥
      too-high m a b = omega arith

      of-this : (m p : ℕ) (s : Row) → m ≡ suc k → member rows m ≡ Some s → has_parent s p ≡ true → is_marked (marked_by flags (parents_of r.rule)) p ≡ true
      of-this m p s same at has =
          let one : s ≡ r = some_row s r (sym at ∙ (ap (member rows) same ∙ there)) in
          let mine : has_parent r p ≡ true = subst (λ (x : Row). has_parent x p ≡ true) one has in
          let b = all-has (λ q. (0 < q) × (q < suc k)) (parents_of r.rule) p (ordered (suc k) r there) mine in
          marked-has (parents_of r.rule) flags p b.0 (below p (length flags) b.1 (low flags (suc k) is)) mine
        where
          some_row : (x y : Row) → Some x ≡ Some y → x ≡ y
          some_row x y e = cc

          below : (x y : ℕ) → x < suc k → suc k ≤ y → x ≤ y
          below x y e f = omega arith

  -- one row further down
  pub marking-steps : (k : ℕ) (flags : List Bool) → Marking rows last (suc k) flags → Marking rows last k (stepped rows k flags)
  marking-steps k flags g = by (slice_get rows k) (flag_of (slice_get flags k)) refl refl
    where
      by : (o : Option Row) (b : Bool) → slice_get rows k ≡ o → flag_of (slice_get flags k) ≡ b → Marking rows last k (parents_marked flags o b)
      by None b at is = unmarked k flags (λ r e f. absurd cc) g
      by (Some r) true at is = parents-marked k flags r at is g
      by (Some r) false at is = unmarked k flags (λ x e f. absurd cc) g

  reach : (flags : List Bool) → Marking rows last 0 flags → (m n : ℕ) → RestsOn rows m n → is_marked flags m ≡ true → is_marked flags n ≡ true
  reach flags g m n (Itself k) e = e
  reach flags g m n (ByParent m' p n' r at has more) e = reach flags g p n' more (g.closed m' p r (positive rows m' r at) at e has)

  -- all rows are done
  pub marking-ends : (flags : List Bool) → Marking rows last 0 flags → AreMarked rows last flags
  marking-ends flags g = record { long = g.long; those = λ n. (g.sound n, λ r. reach flags g last n r g.there) }

-- the same with what was made as an equation

pub marking-begins : (rows : List Row) (last : ℕ) (flags : List Bool) → 0 < last → flags ≡ falses (last - 1) ++ true ∷ [] → Marking rows last last flags
marking-begins rows last flags h e = subst (λ (fs : List Bool). Marking rows last last fs) (sym e) (marking-starts rows last h)

pub marking-goes : (rows : List Row) → AreOrdered rows → (last left : ℕ) (flags made : List Bool) → Marking rows last left flags → 0 < left → made ≡ stepped rows (left - 1) flags → Marking rows last (left - 1) made
marking-goes rows ordered last zero flags made g h e = absurd (omega arith)
marking-goes rows ordered last (suc k) flags made g h e =
    let s : suc k - 1 ≡ k = omega arith in
    let t : made ≡ stepped rows k flags = e ∙ ap (λ (j : ℕ). stepped rows j flags) s in
    subst (λ (j : ℕ). Marking rows last j made) (sym s) (subst (λ (fs : List Bool). Marking rows last k fs) (sym t) (marking-steps rows ordered last k flags g))

pub marking-done : (rows : List Row) → AreOrdered rows → (last left : ℕ) (flags : List Bool) → Marking rows last left flags → left ≡ 0 → AreMarked rows last flags
marking-done rows ordered last left flags g e = marking-ends rows ordered last flags (subst (λ (j : ℕ). Marking rows last j flags) e g)
