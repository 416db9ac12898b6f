-- The rows that a row of a proof rests on, as a proof of their own.
use Rattle.std.proofs.Common.{◌≡◌, ◌∙◌, ◌⊎◌, ◌==◌, ◌++◌, ◌+◌, ◌<◌, ◌≤◌, inl, inr, ℕ, zero, suc, Bool, true, false, refl, sym, ap, subst, arith, List, [], ◌∷◌, length, slice_get, nat_lt, Option, Some, None, option_map, if◌then◌else◌}
use Rattle.std.specs.List.{list_any, AllByRecursion}
use Rattle.std.proofs.lemmas.Bool.Decides.{nat_tests}
use Rattle.std.proofs.lemmas.List.{append_assoc, append-nil}
use Rattle.std.proofs.lemmas.Option.{slice_get_within, same_Some}
use Rattle.am_term.specs.declared.id.SortId.{SortId}
use Rattle.am_term.specs.declared.signature.Signature.{Signature}
use Rattle.am_term.specs.declared.term.Term.{Term}
use Rattle.am_term.specs.Place.{member}
use Rattle.am_term.proofs.Members.{member-none}
use Rattle.am_term.proofs.Tests.{or_cases, or_left, or_right, never_both}
use Rattle.am_clause.specs.declared.clause.Clause.{Clause}
use Rattle.am_clause.specs.declared.row.Rule.{Rule}
use Rattle.am_clause.specs.declared.row.Rule.TheVariants.{Axiom, Goal, Given, Factor, Reflex, Resolve, Para, Rewrite, Close}
use Rattle.am_clause.specs.declared.row.Row.{Row}
use Rattle.am_clause.specs.Ancestors.{parents_of, has_parent, count_to, with_parents, renumbered_row, kept_from, AreOrdered, RestsOn, Itself, ByParent, AreAncestors}
use Rattle.am_clause.specs.Rules.{OneParent, TwoParents, factor, reflex, close, resolve, para, rewrite}
use Rattle.am_clause.specs.Steps.{Sources, clause_at, FromOne, FromTwo, Follows, IsStep, AreSteps}
use Rattle.am_lineage.specs.Laws.{IsRowOf}

-- ---- lists to which a member comes

module _ {A : Type 0} where
  more-length : (xs : List A) (x : A) → length (xs ++ x ∷ []) ≡ suc (length xs)
  more-length [] x = refl
  more-length (y ∷ ys) x = ap suc (more-length ys x)

  get-old : (xs : List A) (x y : A) (i : ℕ) → slice_get xs i ≡ Some y → slice_get (xs ++ x ∷ []) i ≡ Some y
  get-old [] x y i e = absurd cc
  get-old (z ∷ zs) x y zero e = e
  get-old (z ∷ zs) x y (suc i) e = get-old zs x y i e

  get-last : (xs : List A) (x : A) (i : ℕ) → i ≡ length xs → slice_get (xs ++ x ∷ []) i ≡ Some x
  get-last [] x zero e = refl
  get-last [] x (suc i) e = absurd (omega arith)
  get-last (z ∷ zs) x zero e = absurd (omega arith)
  get-last (z ∷ zs) x (suc i) e = get-last zs x i (omega arith)

  get-either : (xs : List A) (x y : A) (i : ℕ) → slice_get (xs ++ x ∷ []) i ≡ Some y
      → (slice_get xs i ≡ Some y) ⊎ ((i ≡ length xs) × (x ≡ y))
  get-either [] x y zero e = inr (refl, same_Some x y e)
  get-either [] x y (suc i) e = absurd cc
  get-either (z ∷ zs) x y zero e = inl e
  get-either (z ∷ zs) x y (suc i) e = elim (get-either zs x y i e) [ inl f ↦ inl f | inr s ↦ inr (ap suc s.0, s.1) ]

  -- the same by numbers from 1

  member-old : (xs : List A) (x y : A) (k : ℕ) → member xs k ≡ Some y → member (xs ++ x ∷ []) k ≡ Some y
  member-old xs x y zero e = absurd cc
  member-old xs x y (suc i) e = get-old xs x y i e

  member-last : (xs : List A) (x : A) (k : ℕ) → k ≡ suc (length xs) → member (xs ++ x ∷ []) k ≡ Some x
  member-last xs x zero e = absurd (omega arith)
  member-last xs x (suc i) e = get-last xs x i (omega arith)

  member-either : (xs : List A) (x y : A) (k : ℕ) → member (xs ++ x ∷ []) k ≡ Some y
      → (member xs k ≡ Some y) ⊎ ((k ≡ suc (length xs)) × (x ≡ y))
  member-either xs x y zero e = absurd cc
  member-either xs x y (suc i) e = elim (get-either xs x y i e) [ inl f ↦ inl f | inr s ↦ inr (ap suc s.0, s.1) ]

  member-within : (xs : List A) (x : A) (k : ℕ) → member xs k ≡ Some x → (0 < k) × (k < suc (length xs))
  member-within xs x zero e = absurd cc
  member-within xs x (suc i) e = let w : i < length xs = slice_get_within xs i x e in (omega arith, omega arith)

-- the row that has the clause
row-at : (rows : List Row) (k : ℕ) (c : Clause) → clause_at rows k ≡ Some c
    → (r : Row) × (member rows k ≡ Some r) × (r.clause ≡ c)
row-at rows k c e = by (member rows k) refl e
  where
    by : (o : Option Row) → member rows k ≡ o → option_map (λ (r : Row). r.clause) o ≡ Some c
        → (r : Row) × (member rows k ≡ Some r) × (r.clause ≡ c)
    by None is e = absurd cc
    by (Some r) is e = (r, is, same_Some r.clause c e)

clause-within : (rows : List Row) (k : ℕ) (c : Clause) → clause_at rows k ≡ Some c → (0 < k) × (k < suc (length rows))
clause-within rows k c e = let r = row-at rows k c e in member-within rows r.0 k r.1

-- ---- parents

number-same : (n : ℕ) → (n == n) ≡ true
number-same n = grind (arith, nat_tests)

number-is : (m n : ℕ) → (m == n) ≡ true → m ≡ n
number-is m n e = grind (arith, nat_tests)

first-there : (m : ℕ) (ps : List ℕ) → list_any (λ q. q == m) (m ∷ ps) ≡ true
first-there m ps = or_left (m == m) (list_any (λ q. q == m) ps) (number-same m)

second-there : (m n : ℕ) → list_any (λ q. q == n) (m ∷ n ∷ []) ≡ true
second-there m n = or_right (m == n) (list_any (λ q. q == n) (n ∷ [])) (first-there n [])

all-has : (P : ℕ → Type 0) (ps : List ℕ) (n : ℕ) → AllByRecursion P ps → list_any (λ q. q == n) ps ≡ true → P n
all-has P [] n h m = absurd cc
all-has P (p ∷ ps) n h m = elim (or_cases (p == n) (list_any (λ q. q == n) ps) m) [
  | inl e ↦ subst P (number-is p n e) h.0
  | inr e ↦ all-has P ps n h.1 e
]

rests-then : (rows : List Row) (m n : ℕ) → RestsOn rows m n
    → (p : ℕ) (r : Row) → member rows n ≡ Some r → has_parent r p ≡ true → RestsOn rows m p
rests-then rows m n (Itself k) p r at is = ByParent k p p r at is (Itself p)
rests-then rows m n (ByParent m' q n' s there has more) p r at is =
    ByParent m' q p s there has (rests-then rows q n' more p r at is)

-- a row rests on no later one
rests-before : (rows : List Row) → AreOrdered rows → (m n : ℕ) → RestsOn rows m n → n ≤ m
rests-before rows ordered m n (Itself k) = omega arith
rests-before rows ordered m n (ByParent m' p n' r at has more) =
    let b : (0 < p) × (p < m') = all-has (λ q. (0 < q) × (q < m')) (parents_of r.rule) p (ordered m' r at) has in
    below p n' m' b.1 (rests-before rows ordered p n' more)
  where
    below : (x y z : ℕ) → x < z → y ≤ x → y ≤ z
    below x y z h k = omega arith

-- ---- in a proof each parent is an earlier row

module _ (sig : Signature) (ins : List SortId) (sources : Sources) where
  -- all of them are numbers of rows
  abbrev AreWithin : List Row → List ℕ → Type 0
  AreWithin rows = AllByRecursion (λ p. (0 < p) × (p < suc (length rows)))

  from-two-within : (rows : List Row) (rule : TwoParents) (m n : ℕ) (with : List (List Term)) (d : Clause)
      → FromTwo sig ins rows rule m n with d → AreWithin rows (m ∷ n ∷ [])
  from-two-within rows rule m n with d f =
      (clause-within rows m f.p f.there, (clause-within rows n f.q f.there_too, tt))

  parents-within : (rows : List Row) (rule : Rule) (with : List (List Term)) (d : Clause)
      → Follows sig ins sources rows rule with d → AreWithin rows (parents_of rule)
  parents-within rows (Axiom k c) with d f = tt
  parents-within rows Goal with d f = tt
  parents-within rows (Given k) with d f = tt
  parents-within rows (Factor m i j) with d f = (clause-within rows m f.p f.there, tt)
  parents-within rows (Reflex m i) with d f = (clause-within rows m f.p f.there, tt)
  parents-within rows (Resolve m i n j) with d f = from-two-within rows (resolve i j) m n with d f
  parents-within rows (Para m j side n i path) with d f = from-two-within rows (para j side i path) m n with d f
  parents-within rows (Rewrite m j side n i path) with d f = from-two-within rows (rewrite j side i path) m n with d f
  parents-within rows (Close m) with d f = (clause-within rows m f.p f.there, tt)

  -- the rows come after others, so that row i of them from 0 has the number n
  steps-ordered : (before rows : List Row) → AreSteps sig ins sources before rows
      → (i : ℕ) (r : Row) → slice_get rows i ≡ Some r → (n : ℕ) → n ≡ suc (length before + i)
      → AllByRecursion (λ p. (0 < p) × (p < n)) (parents_of r.rule)
  steps-ordered before [] s i r e n is = absurd cc
  steps-ordered before (row ∷ rows) s zero r e n is =
      let same : suc (length before) ≡ n = omega arith in
      subst (λ (x : Row). AllByRecursion (λ p. (0 < p) × (p < n)) (parents_of x.rule)) (same_Some row r e)
      (subst (λ (x : ℕ). AllByRecursion (λ p. (0 < p) × (p < x)) (parents_of row.rule)) same
      (parents-within before row.rule row.with row.clause s.0.follows))
  steps-ordered before (row ∷ rows) s (suc i) r e n is =
      let long : length (before ++ row ∷ []) ≡ suc (length before) = more-length before row in
      steps-ordered (before ++ row ∷ []) rows s.1 i r e n (omega arith)

  pub are-ordered : (rows : List Row) → AreSteps sig ins sources [] rows → AreOrdered rows
  are-ordered rows s zero r e = absurd cc
  are-ordered rows s (suc i) r e = steps-ordered [] rows s i r e (suc i) (plus i)
    where
      plus : (i : ℕ) → suc i ≡ suc (0 + i)
      plus i = omega arith

-- ---- counting

module _ (stays : ℕ → Bool) where
  count-more : (n : ℕ) → stays (suc n) ≡ true → count_to stays (suc n) ≡ suc (count_to stays n)
  count-more n e = rw e refl

  count-same : (n : ℕ) → stays (suc n) ≡ false → count_to stays (suc n) ≡ count_to stays n
  count-same n e = rw e refl

  -- behind the last row that stays the count stands still
  count-still : (last n : ℕ) → ((k : ℕ) → last < k → stays k ≡ false) → last ≤ n
      → count_to stays n ≡ count_to stays last
  count-still last zero none h = let s : zero ≡ last = omega arith in ap (count_to stays) s
  count-still last (suc n) none h = by (nat_lt last (suc n)) refl (λ l. count-still last n none l)
    where
      by : (b : Bool) → nat_lt last (suc n) ≡ b → (last ≤ n → count_to stays n ≡ count_to stays last)
          → count_to stays (suc n) ≡ count_to stays last
      by true e more =
          let l : last < suc n = grind (arith, nat_tests) in
          count-same n (none (suc n) l) ∙ more (omega arith)
      by false e more = let s : suc n ≡ last = grind (arith, nat_tests) in ap (count_to stays) s

-- ---- rows that stay, at their new numbers

module _ (stays : ℕ → Bool) where
  abbrev new : Row → Row
  new = renumbered_row (count_to stays)

  abbrev those_from : ℕ → List Row → List Row
  those_from = kept_from stays (count_to stays)

  -- those of the rows so far that stay: each stands at its new number
  record Carries (before kept : List Row) : Type 0 where
    long : length kept ≡ count_to stays (length before)
    carried : (m : ℕ) (r : Row) → member before m ≡ Some r → stays m ≡ true
        → member kept (count_to stays m) ≡ Some (new r)

  carries-none : Carries [] []
  carries-none = record { long = refl; carried = λ m r e s. let none = member-none {A = Row} m in absurd cc }

  carries-kept : (before kept : List Row) (row : Row) → Carries before kept → stays (suc (length before)) ≡ true
      → Carries (before ++ row ∷ []) (kept ++ new row ∷ [])
  carries-kept before kept row g is = record {
    long = more-length kept (new row) ∙ (ap suc g.long ∙ (sym (count-more stays (length before) is)
        ∙ ap (count_to stays) (sym (more-length before row))));
    carried = λ m r e s. elim (member-either before row r m e) [
      | inl f ↦ member-old kept (new row) (new r) (count_to stays m) (g.carried m r f s)
      | inr f ↦ member-last kept (new row) (count_to stays m) (ap (count_to stays) f.0
          ∙ (count-more stays (length before) is ∙ ap suc (sym g.long))) ∙ ap (λ (x : Row). Some (new x)) f.1
    ];
  }

  carries-dropped : (before kept : List Row) (row : Row) → Carries before kept → stays (suc (length before)) ≡ false
      → Carries (before ++ row ∷ []) kept
  carries-dropped before kept row g is = record {
    long = g.long ∙ (sym (count-same stays (length before) is) ∙ ap (count_to stays) (sym (more-length before row)));
    carried = λ m r e s. elim (member-either before row r m e) [
      | inl f ↦ g.carried m r f s
      | inr f ↦ never_both (stays (suc (length before))) (subst (λ (x : ℕ). stays x ≡ true) f.0 s) is
    ];
  }

  -- all rows, where those that come have numbers from n on
  carries-all : (rows before kept : List Row) (n : ℕ) → n ≡ suc (length before) → Carries before kept
      → Carries (before ++ rows) (kept ++ those_from n rows)
  carries-all [] before kept n e g = subst (λ (xs : List Row). Carries xs (kept ++ [])) (sym (append-nil before))
      (subst (λ (xs : List Row). Carries before xs) (sym (append-nil kept)) g)
  carries-all (row ∷ rows) before kept n e g =
      let same : suc n ≡ suc (length (before ++ row ∷ [])) = ap suc (e ∙ sym (more-length before row)) in
      subst (λ (xs : List Row). Carries xs (kept ++ those_from n (row ∷ rows))) (append_assoc before (row ∷ []) rows)
      (by (stays n) refl (λ k h. carries-all rows (before ++ row ∷ []) k (suc n) same h))
    where
      rest : List Row
      rest = those_from (suc n) rows

      all : List Row
      all = before ++ row ∷ [] ++ rows

      by : (b : Bool) → stays n ≡ b → ((k : List Row) → Carries (before ++ row ∷ []) k → Carries all (k ++ rest))
          → Carries all (kept ++ (if b then new row ∷ rest else rest))
      by true is more = subst (Carries all) (append_assoc kept (new row ∷ []) rest)
          (more (kept ++ new row ∷ []) (carries-kept before kept row g (subst (λ (x : ℕ). stays x ≡ true) e is)))
      by false is more = more kept (carries-dropped before kept row g (subst (λ (x : ℕ). stays x ≡ false) e is))

  carries-clause : (before kept : List Row) → Carries before kept → (m : ℕ) (c : Clause) → clause_at before m ≡ Some c
      → stays m ≡ true → clause_at kept (count_to stays m) ≡ Some c
  carries-clause before kept g m c e s =
      let r = row-at before m c e in
      ap (option_map (λ (x : Row). x.clause)) (g.carried m r.0 r.1 s) ∙ ap (λ (x : Clause). Some x) r.2

  -- ---- steps

  module _ (sig : Signature) (ins : List SortId) (sources : Sources) where
    module _ (before kept : List Row) (g : Carries before kept) where
      one-kept : (rule : OneParent) (m : ℕ) (with : List (List Term)) (d : Clause) → stays m ≡ true
          → FromOne sig ins before rule m with d → FromOne sig ins kept rule (count_to stays m) with d
      one-kept rule m with d s f = record {
        p = f.p;
        first = f.first;
        there = carries-clause before kept g m f.p f.there s;
        bound_by = f.bound_by;
        made = f.made;
      }

      two-kept : (rule : TwoParents) (m n : ℕ) (with : List (List Term)) (d : Clause)
          → ((p : ℕ) → list_any (λ q. q == p) (m ∷ n ∷ []) ≡ true → stays p ≡ true)
          → FromTwo sig ins before rule m n with d
          → FromTwo sig ins kept rule (count_to stays m) (count_to stays n) with d
      two-kept rule m n with d h f = record {
        p = f.p;
        q = f.q;
        first = f.first;
        second = f.second;
        there = carries-clause before kept g m f.p f.there (h m (first-there m (n ∷ [])));
        there_too = carries-clause before kept g n f.q f.there_too (h n (second-there m n));
        bound_by = f.bound_by;
        made = f.made;
      }

      follows-kept : (rule : Rule) (with : List (List Term)) (d : Clause)
          → ((p : ℕ) → list_any (λ q. q == p) (parents_of rule) ≡ true → stays p ≡ true)
          → Follows sig ins sources before rule with d
          → Follows sig ins sources kept (with_parents (count_to stays) rule) with d
      follows-kept (Axiom k c) with d h f = f
      follows-kept Goal with d h f = f
      follows-kept (Given k) with d h f = f
      follows-kept (Factor m i j) with d h f = one-kept (factor i j) m with d (h m (first-there m [])) f
      follows-kept (Reflex m i) with d h f = one-kept (reflex i) m with d (h m (first-there m [])) f
      follows-kept (Resolve m i n j) with d h f = two-kept (resolve i j) m n with d h f
      follows-kept (Para m j side n i path) with d h f = two-kept (para j side i path) m n with d h f
      follows-kept (Rewrite m j side n i path) with d h f = two-kept (rewrite j side i path) m n with d h f
      follows-kept (Close m) with d h f = one-kept close m with d (h m (first-there m [])) f

      step-kept : (row : Row) → ((p : ℕ) → has_parent row p ≡ true → stays p ≡ true)
          → IsStep sig ins sources before row → IsStep sig ins sources kept (new row)
      step-kept row h s = record {
        follows = follows-kept row.rule row.with row.clause h s.follows;
        sorted = s.sorted;
        numbered = s.numbered;
      }

    -- those that stay are steps, where with each row that stays its parents do
    steps-kept : (rows before kept : List Row) (n : ℕ) → n ≡ suc (length before) → Carries before kept
        → ((i : ℕ) (r : Row) → slice_get rows i ≡ Some r → stays (n + i) ≡ true
        → (p : ℕ) → has_parent r p ≡ true → stays p ≡ true)
        → AreSteps sig ins sources before rows → AreSteps sig ins sources kept (those_from n rows)
    steps-kept [] before kept n e g closed s = tt
    steps-kept (row ∷ rows) before kept n e g closed s = by (stays n) refl
        (λ k h. steps-kept rows (before ++ row ∷ []) k (suc n) (ap suc (e ∙ sym (more-length before row))) h later s.1)
      where
        later : (i : ℕ) (r : Row) → slice_get rows i ≡ Some r → stays (suc n + i) ≡ true
            → (p : ℕ) → has_parent r p ≡ true → stays p ≡ true
        later i r at is =
            let same : suc n + i ≡ n + suc i = omega arith in
            closed (suc i) r at (subst (λ (x : ℕ). stays x ≡ true) same is)

        by : (b : Bool) → stays n ≡ b
            → ((k : List Row) → Carries (before ++ row ∷ []) k → AreSteps sig ins sources k (those_from (suc n) rows))
            → AreSteps sig ins sources kept (if b then new row ∷ those_from (suc n) rows else those_from (suc n) rows)
        by true is more =
            let same : n ≡ n + 0 = omega arith in (
              step-kept before kept g row (closed 0 row refl (subst (λ (x : ℕ). stays x ≡ true) same is)) s.0,
              more (kept ++ new row ∷ []) (carries-kept before kept row g (subst (λ (x : ℕ). stays x ≡ true) e is)),
            )
        by false is more = more kept (carries-dropped before kept row g (subst (λ (x : ℕ). stays x ≡ false) e is))

-- ---- the ancestors of a row

module _ (rows : List Row) (last : ℕ) (made : List Row) (a : AreAncestors rows last made) where
  -- with a row that stays its parents do
  parents-stay : (i : ℕ) (r : Row) → slice_get rows i ≡ Some r → a.stays (1 + i) ≡ true
      → (p : ℕ) → has_parent r p ≡ true → a.stays p ≡ true
  parents-stay i r at is p has =
      let same : 1 + i ≡ suc i = omega arith in
      let rests : RestsOn rows last (suc i) = (a.those (suc i)).0 (subst (λ (x : ℕ). a.stays x ≡ true) same is) in
      (a.those p).1 (rests-then rows last (suc i) rests p r at has)

  carries-made : Carries a.stays rows made
  carries-made = subst (λ (xs : List Row). Carries a.stays rows xs) (sym a.is)
      (carries-all a.stays rows [] [] 1 refl (carries-none a.stays))

  none-later : AreOrdered rows → (k : ℕ) → last < k → a.stays k ≡ false
  none-later ordered k l = by (a.stays k) refl
    where
      by : (b : Bool) → a.stays k ≡ b → b ≡ false
      by true is = let h : k ≤ last = rests-before rows ordered last k ((a.those k).0 is) in absurd (omega arith)
      by false is = refl

  ends : AreOrdered rows → last < suc (length rows) → length made ≡ count_to a.stays last
  ends ordered w = carries-made.long ∙ count-still a.stays last (length rows) (none-later ordered) (omega arith)

  module _ (sig : Signature) (ins : List SortId) (sources : Sources) (s : AreSteps sig ins sources [] rows) where
    pub ancestors-are-steps : AreSteps sig ins sources [] made
    ancestors-are-steps = subst (λ (xs : List Row). AreSteps sig ins sources [] xs) (sym a.is)
        (steps-kept a.stays sig ins sources rows [] [] 1 refl (carries-none a.stays) parents-stay s)

    pub ancestors-end : (c : Clause) → clause_at rows last ≡ Some c → clause_at made (length made) ≡ Some c
    ancestors-end c e =
        ap (clause_at made) (ends (are-ordered sig ins sources rows s) (clause-within rows last c e).1)
        ∙ carries-clause a.stays rows made carries-made last c e ((a.those last).1 (Itself last))

-- ---- where the rows come from

module _ (stays : ℕ → Bool) (to : ℕ → ℕ) where
  -- a row of the list that the row is
  abbrev Source : List Row → Row → Type 0
  Source rows r = (j : ℕ) × (s : Row) × (slice_get rows j ≡ Some s) × (renumbered_row to s ≡ r)

  kept-get : (rows : List Row) (n i : ℕ) (r : Row) → slice_get (kept_from stays to n rows) i ≡ Some r → Source rows r
  kept-get [] n i r e = absurd cc
  kept-get (row ∷ rows) n i r e = by (stays n) i e (λ k h. kept-get rows (suc n) k r h)
    where
      rest : List Row
      rest = kept_from stays to (suc n) rows

      by : (b : Bool) (k : ℕ) → slice_get (if b then renumbered_row to row ∷ rest else rest) k ≡ Some r
          → ((k : ℕ) → slice_get rest k ≡ Some r → Source rows r) → Source (row ∷ rows) r
      by true zero e more = (0, row, refl, same_Some (renumbered_row to row) r e)
      by true (suc k) e more = let m = more k e in (suc m.0, m.1, m.2, m.3)
      by false k e more = let m = more k e in (suc m.0, m.1, m.2, m.3)

  kept-member : (rows : List Row) (n : ℕ) (r : Row) → member (kept_from stays to 1 rows) n ≡ Some r → IsRowOf rows to r
  kept-member rows zero r e = absurd cc
  kept-member rows (suc i) r e =
      let m = kept-get rows 1 i r e in
      record {
        number = suc m.0;
        old = m.1;
        there = m.2;
        clause = sym (ap (λ (x : Row). x.clause) m.3);
        with = sym (ap (λ (x : Row). x.with) m.3);
        rule = sym (ap (λ (x : Row). x.rule) m.3);
      }

pub ancestors-are-rows : (rows : List Row) (last : ℕ) (made : List Row) (a : AreAncestors rows last made)
    → (n : ℕ) (r : Row) → member made n ≡ Some r → IsRowOf rows (count_to a.stays) r
ancestors-are-rows rows last made a n r e =
    kept-member a.stays (count_to a.stays) rows n r (sym (ap (λ (xs : List Row). member xs n) a.is) ∙ e)
