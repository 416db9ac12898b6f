-- Counting the rows that stay, and keeping these.
use Rattle.std.proofs.Common.{◌≡◌, ◌∙◌, ◌++◌, ◌+◌, ◌<◌, ◌≤◌, ◌^◌, ℕ, zero, suc, Bool, true, false, refl, sym, ap, subst, arith, List, [], ◌∷◌, length, take, get_or, slice_get, nat_lt, Some, if◌then◌else◌}
use Rattle.std.specs.List.{AllByRecursion}
use Rattle.std.proofs.lemmas.Grind.{common_steps}
use Rattle.std.proofs.lemmas.Bool.Decides.{nat_tests}
use Rattle.am_term.proofs.Members.{member-zero, member-get}
use Rattle.am_clause.specs.declared.row.Rule.{Rule}
use Rattle.am_clause.specs.declared.row.Rule.TheVariants.{Axiom, Goal, Given, Factor, Reflex, Resolve, Para, Rewrite, Close}
use Rattle.am_clause.specs.declared.row.Row.{Row}
use Rattle.am_clause.specs.Ancestors.{parents_of, count_to, with_parents, renumbered_row, kept_from, AreOrdered, AreAncestors}
use Rattle.am_clause.specs.Marks.{flag_of, is_marked, counts_to, number_or_zero, new_number, AreMarked}
use Rattle.am_clause.proofs.Marking.{low}

-- ---- counting

pub counts-none : (stays : ℕ → Bool) (n : ℕ) → n ≡ 0 → counts_to stays n ≡ []
counts-none stays zero e = refl
counts-none stays (suc n) e = absurd (omega arith)

pub count-none : (stays : ℕ → Bool) (n : ℕ) → n ≡ 0 → count_to stays n ≡ 0
count-none stays zero e = refl
count-none stays (suc n) e = absurd (omega arith)

pub counts-more : (stays : ℕ → Bool) (n k : ℕ) → k ≡ n + 1 → counts_to stays k ≡ counts_to stays n ++ count_to stays k ∷ []
counts-more stays n zero e = absurd (omega arith)
counts-more stays n (suc k) e = let s : k ≡ n = omega arith in ap (λ m. counts_to stays m ++ count_to stays (suc k) ∷ []) s

-- the flag at place n is that of row n + 1
flag-read : (flags : List Bool) (n : ℕ) (b : Bool) → n < length flags → flag_of (slice_get flags n) ≡ get_or flags n b
flag-read [] n b h = absurd (omega arith)
flag-read (x ∷ xs) zero b h = refl
flag-read (x ∷ xs) (suc n) b h = flag-read xs n b (omega arith)

chosen-yes : {A : Type 0} (c : Bool) (x y : A) → c ≡ true → (if c then x else y) ≡ x
chosen-yes true x y e = refl
chosen-yes false x y e = absurd cc

chosen-no : {A : Type 0} (c : Bool) (x y : A) → c ≡ false → (if c then x else y) ≡ y
chosen-no true x y e = absurd cc
chosen-no false x y e = refl

after : (n : ℕ) → n + 1 ≡ suc n
after n = omega arith

behind : (n : ℕ) → 1 + n ≡ suc n
behind n = omega arith

pub count-yes : (flags : List Bool) (n : ℕ) (b : Bool) → n < length flags → get_or flags n b ≡ true → count_to (is_marked flags) (n + 1) ≡ count_to (is_marked flags) n + 1
count-yes flags n b h t = ap (count_to (is_marked flags)) (after n) ∙ (chosen-yes (is_marked flags (suc n)) (suc (count_to (is_marked flags) n)) (count_to (is_marked flags) n) (flag-read flags n b h ∙ t) ∙ sym (after (count_to (is_marked flags) n)))

pub count-no : (flags : List Bool) (n : ℕ) (b : Bool) → n < length flags → get_or flags n b ≡ false → count_to (is_marked flags) (n + 1) ≡ count_to (is_marked flags) n
count-no flags n b h t = ap (count_to (is_marked flags)) (after n) ∙ chosen-no (is_marked flags (suc n)) (suc (count_to (is_marked flags) n)) (count_to (is_marked flags) n) (flag-read flags n b h ∙ t)

pub counts-step : (stays : ℕ → Bool) (n : ℕ) → counts_to stays (n + 1) ≡ counts_to stays n ++ count_to stays (n + 1) ∷ []
counts-step stays n = counts-more stays n (n + 1) refl

pub ruleset counting = (common_steps, nat_tests, member-zero, member-get, counts-none, count-none, counts-step, count-yes, count-no)

-- ---- numbers read

push-first : (xs : List ℕ) (x j : ℕ) → j < length xs → slice_get (xs ++ x ∷ []) j ≡ slice_get xs j
push-first [] x j h = absurd (omega arith)
push-first (y ∷ ys) x zero h = refl
push-first (y ∷ ys) x (suc j) h = push-first ys x j (omega arith)

push-last : (xs : List ℕ) (x j : ℕ) → j ≡ length xs → slice_get (xs ++ x ∷ []) j ≡ Some x
push-last [] x zero h = refl
push-last [] x (suc j) h = absurd (omega arith)
push-last (y ∷ ys) x zero h = absurd (omega arith)
push-last (y ∷ ys) x (suc j) h = push-last ys x j (omega arith)

more-length : (xs : List ℕ) (x : ℕ) → length (xs ++ x ∷ []) ≡ suc (length xs)
more-length [] x = refl
more-length (y ∷ ys) x = ap suc (more-length ys x)

counts-length : (stays : ℕ → Bool) (n : ℕ) → length (counts_to stays n) ≡ n
counts-length stays zero = refl
counts-length stays (suc n) = more-length (counts_to stays n) (count_to stays (suc n)) ∙ ap suc (counts-length stays n)

counts-read : (stays : ℕ → Bool) (n j : ℕ) → j < n → slice_get (counts_to stays n) j ≡ Some (count_to stays (suc j))
counts-read stays zero j h = absurd (omega arith)
counts-read stays (suc n) j h = by (nat_lt j n) refl (counts-read stays n j)
  where
    by : (b : Bool) → nat_lt j n ≡ b → (j < n → slice_get (counts_to stays n) j ≡ Some (count_to stays (suc j))) → slice_get (counts_to stays n ++ count_to stays (suc n) ∷ []) j ≡ Some (count_to stays (suc j))
    by true e k =
        let l : j < n = grind (arith, nat_tests) in
        push-first (counts_to stays n) (count_to stays (suc n)) j (subst (λ (x : ℕ). j < x) (sym (counts-length stays n)) l) ∙ k l
    by false e k =
        let s : j ≡ n = grind (arith, nat_tests) in
        push-last (counts_to stays n) (count_to stays (suc n)) j (s ∙ sym (counts-length stays n)) ∙ ap (λ (m : ℕ). Some (count_to stays (suc m))) (sym s)

number-read : (stays : ℕ → Bool) (n p : ℕ) → 0 < p → p ≤ n → new_number (counts_to stays n) p ≡ count_to stays p
number-read stays n zero h k = absurd (omega arith)
number-read stays n (suc j) h k = ap number_or_zero (counts-read stays n j (omega arith))

-- ---- the rows that stay

pub kept-none : (stays : ℕ → Bool) (to : ℕ → ℕ) (n : ℕ) (rows : List Row) (i : ℕ) → i ≡ 0 → kept_from stays to n (take i rows) ≡ []
kept-none stays to n rows zero e = refl
kept-none stays to n rows (suc i) e = absurd (omega arith)

grown : (stays : ℕ → Bool) (to : ℕ → ℕ) (n : ℕ) (rows : List Row) (i : ℕ) (d : Row) → i < length rows
    → kept_from stays to n (take (suc i) rows) ≡ kept_from stays to n (take i rows) ++ (if stays (n + i) then renumbered_row to (get_or rows i d) ∷ [] else [])
grown stays to n [] i d h = absurd (omega arith)
grown stays to n (r ∷ rs) zero d h = ap (λ (m : ℕ). if stays m then renumbered_row to r ∷ [] else []) (omega arith)
grown stays to n (r ∷ rs) (suc i) d h = by (stays n) (grown stays to (suc n) rs i d (omega arith) ∙ ap (λ (m : ℕ). kept_from stays to (suc n) (take i rs) ++ (if stays m then renumbered_row to (get_or rs i d) ∷ [] else [])) (omega arith))
  where
    by : (b : Bool) → kept_from stays to (suc n) (take (suc i) rs) ≡ kept_from stays to (suc n) (take i rs) ++ (if stays (n + suc i) then renumbered_row to (get_or rs i d) ∷ [] else [])
        → (if b then renumbered_row to r ∷ kept_from stays to (suc n) (take (suc i) rs) else kept_from stays to (suc n) (take (suc i) rs))
        ≡ (if b then renumbered_row to r ∷ kept_from stays to (suc n) (take i rs) else kept_from stays to (suc n) (take i rs)) ++ (if stays (n + suc i) then renumbered_row to (get_or rs i d) ∷ [] else [])
    by true e = ap (λ (xs : List Row). renumbered_row to r ∷ xs) e
    by false e = e

pub kept-yes : (flags : List Bool) (to : ℕ → ℕ) (rows : List Row) (i : ℕ) (d : Row) (b : Bool) → i < length rows → i < length flags → get_or flags i b ≡ true
    → kept_from (is_marked flags) to 1 (take (i + 1) rows) ≡ kept_from (is_marked flags) to 1 (take i rows) ++ renumbered_row to (get_or rows i d) ∷ []
kept-yes flags to rows i d b h k t =
    ap (λ (m : ℕ). kept_from (is_marked flags) to 1 (take m rows)) (after i)
    ∙ (grown (is_marked flags) to 1 rows i d h
    ∙ ap (λ (xs : List Row). kept_from (is_marked flags) to 1 (take i rows) ++ xs)
    (ap (λ (m : ℕ). if is_marked flags m then renumbered_row to (get_or rows i d) ∷ [] else []) (behind i)
    ∙ chosen-yes (is_marked flags (suc i)) (renumbered_row to (get_or rows i d) ∷ []) [] (flag-read flags i b k ∙ t)))

append-none : (xs : List Row) → xs ++ [] ≡ xs
append-none [] = refl
append-none (x ∷ xs) = ap (λ ys. x ∷ ys) (append-none xs)

pub kept-no : (flags : List Bool) (to : ℕ → ℕ) (rows : List Row) (i : ℕ) (d : Row) (b : Bool) → i < length rows → i < length flags → get_or flags i b ≡ false
    → kept_from (is_marked flags) to 1 (take (i + 1) rows) ≡ kept_from (is_marked flags) to 1 (take i rows)
kept-no flags to rows i d b h k t =
    ap (λ (m : ℕ). kept_from (is_marked flags) to 1 (take m rows)) (after i)
    ∙ (grown (is_marked flags) to 1 rows i d h
    ∙ (ap (λ (xs : List Row). kept_from (is_marked flags) to 1 (take i rows) ++ xs)
    (ap (λ (m : ℕ). if is_marked flags m then renumbered_row to (get_or rows i d) ∷ [] else []) (behind i)
    ∙ chosen-no (is_marked flags (suc i)) (renumbered_row to (get_or rows i d) ∷ []) [] (flag-read flags i b k ∙ t))
    ∙ append-none (kept_from (is_marked flags) to 1 (take i rows))))

pub ruleset keeping = (common_steps, nat_tests, kept-none, kept-yes, kept-no)

-- ---- what the two together give

rule-same : (f g : ℕ → ℕ) (rule : Rule) → AllByRecursion (λ p. f p ≡ g p) (parents_of rule) → with_parents f rule ≡ with_parents g rule
rule-same f g (Axiom k c) h = refl
rule-same f g Goal h = refl
rule-same f g (Given k) h = refl
rule-same f g (Factor p i j) h = ap (λ x. Factor x i j) h.0
rule-same f g (Reflex p i) h = ap (λ x. Reflex x i) h.0
rule-same f g (Resolve p i q j) h = ap (λ x. Resolve x i (f q) j) h.0 ∙ ap (λ x. Resolve (g p) i x j) h.1.0
rule-same f g (Para p j side q i path) h = ap (λ x. Para x j side (f q) i path) h.0 ∙ ap (λ x. Para (g p) j side x i path) h.1.0
rule-same f g (Rewrite p j side q i path) h = ap (λ x. Rewrite x j side (f q) i path) h.0 ∙ ap (λ x. Rewrite (g p) j side x i path) h.1.0
rule-same f g (Close p) h = ap (λ x. Close x) h.0

row-same : (f g : ℕ → ℕ) (r : Row) → AllByRecursion (λ p. f p ≡ g p) (parents_of r.rule) → renumbered_row f r ≡ renumbered_row g r
row-same f g r h = ap (λ (x : Rule). let y : Row = record { rule = x; with = r.with; clause = r.clause } in y) (rule-same f g r.rule h)

nothing-kept : (stays : ℕ → Bool) (to : ℕ → ℕ) (rows : List Row) (n : ℕ) → ((k : ℕ) → n ≤ k → stays k ≡ false) → kept_from stays to n rows ≡ []
nothing-kept stays to [] n h = refl
nothing-kept stays to (r ∷ rs) n h = chosen-no (stays n) (renumbered_row to r ∷ kept_from stays to (suc n) rs) (kept_from stays to (suc n) rs) (h n (omega arith)) ∙ nothing-kept stays to rs (suc n) (λ k l. h k (omega arith))

kept-same : (stays : ℕ → Bool) (f g : ℕ → ℕ) (rows : List Row) (n m : ℕ)
    → ((i : ℕ) (r : Row) → slice_get rows i ≡ Some r → i < m → AllByRecursion (λ p. f p ≡ g p) (parents_of r.rule))
    → ((k : ℕ) → n + m ≤ k → stays k ≡ false)
    → kept_from stays f n (take m rows) ≡ kept_from stays g n rows
kept-same stays f g rows n zero h k = sym (nothing-kept stays g rows n (λ j l. k j (omega arith)))
kept-same stays f g [] n (suc m) h k = refl
kept-same stays f g (r ∷ rs) n (suc m) h k = by (stays n) (row-same f g r (h 0 r refl (omega arith))) (kept-same stays f g rs (suc n) m (λ i s e l. h (suc i) s e (omega arith)) (λ j l. k j (omega arith)))
  where
    by : (b : Bool) → renumbered_row f r ≡ renumbered_row g r → kept_from stays f (suc n) (take m rs) ≡ kept_from stays g (suc n) rs
        → (if b then renumbered_row f r ∷ kept_from stays f (suc n) (take m rs) else kept_from stays f (suc n) (take m rs)) ≡ (if b then renumbered_row g r ∷ kept_from stays g (suc n) rs else kept_from stays g (suc n) rs)
    by true e t = ap (λ (x : Row). x ∷ kept_from stays f (suc n) (take m rs)) e ∙ ap (λ (xs : List Row). renumbered_row g r ∷ xs) t
    by false e t = t

all-mapped : (P R : ℕ → Type 0) → ((p : ℕ) → P p → R p) → (ps : List ℕ) → AllByRecursion P ps → AllByRecursion R ps
all-mapped P R f [] h = tt
all-mapped P R f (p ∷ ps) h = (f p h.0, all-mapped P R f ps h.1)

pub are-ancestors : (rows : List Row) → AreOrdered rows → (last : ℕ) (flags : List Bool) → AreMarked rows last flags
    → (numbers : List ℕ) → numbers ≡ counts_to (is_marked flags) (length flags)
    → (made : List Row) → made ≡ kept_from (is_marked flags) (new_number numbers) 1 (take (length flags) rows) → AreAncestors rows last made
are-ancestors rows ordered last flags marked numbers e made is = record {
  stays = is_marked flags;
  those = marked.those;
  is = is ∙ kept-same (is_marked flags) (new_number numbers) (count_to (is_marked flags)) rows 1 (length flags)
      (λ i r at l. all-mapped (λ p. (0 < p) × (p < suc i)) (λ p. new_number numbers p ≡ count_to (is_marked flags) p)
      (λ p h. ap (λ (ns : List ℕ). new_number ns p) e ∙ number-read (is_marked flags) (length flags) p h.0 (within p i h.1 l)) (parents_of r.rule) (ordered (suc i) r at))
      (λ k l. beyond k l);
}
  where
    within : (p i : ℕ) → p < suc i → i < length flags → p ≤ length flags
    within p i h l = omega arith

    beyond : (k : ℕ) → 1 + length flags ≤ k → is_marked flags k ≡ false
    beyond k l = by (is_marked flags k) refl
      where
        by : (b : Bool) → is_marked flags k ≡ b → is_marked flags k ≡ false
        by true f = let u = low flags k f in absurd (omega arith)
        by false f = f

pub marked-within : (rows : List Row) (last : ℕ) (flags : List Bool) → AreMarked rows last flags → last ≤ length rows → length flags ≤ length rows
marked-within rows last flags m h = omega (arith, m.long)

pub marked-few : (rows : List Row) (last : ℕ) (flags : List Bool) → AreMarked rows last flags → last < 2 ^ 32 → length flags < 2 ^ 32
marked-few rows last flags m h = omega (arith, m.long)

pub ruleset ancestry_laws = (common_steps, nat_tests, marked-within, marked-few, are-ancestors)
