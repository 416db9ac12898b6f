-- Rows on which others may rest: each is an axiom's row, or small.
use Rattle.std.proofs.Common.{◌≡◌, ◌∙◌, ◌++◌, ◌+◌, ◌==◌, ◌⊎◌, inl, inr, ℕ, zero, suc, Bool, true, false, not}
use Rattle.std.proofs.Common.{arith, refl, sym, ap, subst, List, [], ◌∷◌, map, filter, nat_le, slice_get, Some}
use Rattle.std.proofs.Common.{if◌then◌else◌}
use Rattle.std.specs.List.{AllByRecursion, list_any}
use Rattle.std.proofs.lemmas.Bool.Decides.{nat_tests}
use Rattle.std.proofs.lemmas.Option.{same_Some}
use Rattle.am_term.specs.Place.{member}
use Rattle.am_term.specs.declared.id.SortId.{SortId}
use Rattle.am_term.specs.declared.signature.Signature.{Signature}
use Rattle.am_term.proofs.Tests.{and_left, and_right, or_cases}
use Rattle.am_clause.specs.Ancestors.{parents_of, with_parents, renumbered_row, kept_from, count_to}
use Rattle.am_clause.specs.Ancestors.{RestsOn, Itself, ByParent, AreAncestors}
use Rattle.am_clause.specs.declared.row.Row.{Row}
use Rattle.am_agenda.specs.declared.wait_row.WaitRow.{WaitRow}
use Rattle.am_search.specs.Marks.{was_chosen, was_kept, keeps, is_kept}
use Rattle.am_search.specs.Members.{Member, row_at, numbered_rows, processed, is_processed, waiting, is_waiting, shown}
use Rattle.am_search.specs.Plain.{picked_at}
use Rattle.am_search.specs.Replay.{HasNoParents}
use Rattle.am_search.specs.declared.fate.Fate.{Fate}
use Rattle.am_search.specs.declared.fate.Fate.TheVariants.{Kept, Rewritten, Dropped, Closed, Last}
use Rattle.am_search.specs.declared.fate.Prepared.{Prepared}
use Rattle.am_search.proofs.Partners.{row_at-after}
use Rattle.am_search.proofs.Replayed.{at_more, all_numbered, IsAt}
use Rattle.am_derivation.specs.Sizes.{IsOfAxiom, IsSmall}

-- ---- lists

one-passed : {A : Type 0} (P : A → Type 0) (b : Bool) (x : A) (ys : List A) → (b ≡ true → P x) → AllByRecursion P ys
    → AllByRecursion P (if b then x ∷ ys else ys)
one-passed P true x ys h a = (h refl, a)
one-passed P false x ys h a = a

all-passed : {A : Type 0} (P Q : A → Type 0) (test : A → Bool) (xs : List A)
    → ((x : A) → P x → test x ≡ true → Q x) → AllByRecursion P xs → AllByRecursion Q (filter test xs)
all-passed P Q test [] h a = tt
all-passed P Q test (x ∷ xs) h a =
    one-passed Q (test x) x (filter test xs) (h x a.0) (all-passed P Q test xs h a.1)

all-then : {A : Type 0} (P Q : A → Type 0) (xs : List A) → ((x : A) → P x → Q x) → AllByRecursion P xs
    → AllByRecursion Q xs
all-then P Q [] h a = tt
all-then P Q (x ∷ xs) h a = (h x a.0, all-then P Q xs h a.1)

pub all-last : {A : Type 0} (P : A → Type 0) (xs : List A) (x : A) → AllByRecursion P (xs ++ x ∷ []) → P x
all-last P [] x a = a.0
all-last P (y ∷ xs) x a = all-last P xs x a.1

pub all-get : {A : Type 0} (P : A → Type 0) (xs : List A) (i : ℕ) (x : A) → AllByRecursion P xs
    → slice_get xs i ≡ Some x → P x
all-get P [] i x a e = absurd cc
all-get P (y ∷ xs) zero x a e = let same : y ≡ x = cc in subst P same a.0
all-get P (y ∷ xs) (suc i) x a e = all-get P xs i x a.1 e

all-member : {A : Type 0} (P : A → Type 0) (xs : List A) (n : ℕ) (x : A) → AllByRecursion P xs → member xs n ≡ Some x
    → P x
all-member P xs zero x a e = absurd cc
all-member P xs (suc i) x a e = all-get P xs i x a e

number-is : (m n : ℕ) → (m == n) ≡ true → m ≡ n
number-is m n e = grind (arith, nat_tests)

any-has : (P : ℕ → Type 0) (ns : List ℕ) (n : ℕ) → AllByRecursion P ns → list_any (λ m. m == n) ns ≡ true → P n
any-has P [] n a e = absurd cc
any-has P (m ∷ ns) n a e = elim (or_cases (m == n) (list_any (λ k. k == n) ns) e) [
  | inl f ↦ subst P (number-is m n f) a.0
  | inr f ↦ any-has P ns n a.1 f
]

-- the rows up to a number are axioms' rows
abbrev pub AxiomsFirst : ℕ → List Row → Type 0
AxiomsFirst axioms rs = (n : ℕ) (row : Row) → nat_le n axioms ≡ true → row_at rs n ≡ Some row → IsOfAxiom row

module _ (most : ℕ) where
  -- an axiom's row, or a small one
  abbrev pub Fits : Row → Type 0
  Fits row = IsOfAxiom row ⊎ IsSmall most row

  -- such a row has this number
  abbrev pub FitsAt : List Row → ℕ → Type 0
  FitsAt rs n = (row : Row) × (row_at rs n ≡ Some row) × Fits row

  -- each parent is such a row
  abbrev pub RestsWell : List Row → Row → Type 0
  RestsWell rs row = AllByRecursion (FitsAt rs) (parents_of row.rule)

  -- a row of this fate is such a row, unless it was dropped
  abbrev pub FateFits : List Row → ℕ → Fate → Type 0
  FateFits rs n (Kept k) = FitsAt rs n
  FateFits rs n Rewritten = FitsAt rs n
  FateFits rs n (Dropped reason) = Unit {0}
  FateFits rs n Closed = FitsAt rs n
  FateFits rs n Last = FitsAt rs n

  abbrev pub AllFit : List Row → List Prepared → Type 0
  AllFit rs fates = AllByRecursion (λ (p : Prepared). FateFits rs p.number p.fate) fates

  -- ---- more rows

  module _ (rs more : List Row) where
    fits-more : (n : ℕ) → FitsAt rs n → FitsAt (rs ++ more) n
    fits-more n f = (f.0, at_more rs more n f.0 f.1, f.2)

    pub chosen-more : (ns : List ℕ) → AllByRecursion (FitsAt rs) ns → AllByRecursion (FitsAt (rs ++ more)) ns
    chosen-more ns a = all-then (FitsAt rs) (FitsAt (rs ++ more)) ns fits-more a

    pub rests-more : (row : Row) → RestsWell rs row → RestsWell (rs ++ more) row
    rests-more row a = chosen-more (parents_of row.rule) a

    pub all-rest-more : (xs : List Row) → AllByRecursion (RestsWell rs) xs
        → AllByRecursion (RestsWell (rs ++ more)) xs
    all-rest-more xs a = all-then (RestsWell rs) (RestsWell (rs ++ more)) xs rests-more a

    fate-more : (n : ℕ) (f : Fate) → FateFits rs n f → FateFits (rs ++ more) n f
    fate-more n (Kept k) a = fits-more n a
    fate-more n Rewritten a = fits-more n a
    fate-more n (Dropped reason) a = a
    fate-more n Closed a = fits-more n a
    fate-more n Last a = fits-more n a

    pub all-fit-more : (fates : List Prepared) → AllFit rs fates → AllFit (rs ++ more) fates
    all-fit-more fates a =
        all-then (λ (p : Prepared). FateFits rs p.number p.fate)
        (λ (p : Prepared). FateFits (rs ++ more) p.number p.fate) fates (λ p h. fate-more p.number p.fate h) a

  pub bare-rest : (rs xs : List Row) → AllByRecursion HasNoParents xs → AllByRecursion (RestsWell rs) xs
  bare-rest rs xs a =
      all-then HasNoParents (RestsWell rs) xs
      (λ row e. subst (λ (ps : List ℕ). AllByRecursion (FitsAt rs) ps) (sym e) tt) a

  -- ---- processed rows, and rows that wait

  module _ (sig : Signature) (ins : List SortId) (rs : List Row) where
    all-numbered : AllByRecursion (IsAt sig ins rs) (numbered_rows 1 rs)
    all-numbered = all_numbered sig ins [] rs 1 refl

    pub processed-fit : (axioms : ℕ) (ns : List ℕ) → AxiomsFirst axioms rs → AllByRecursion (FitsAt rs) ns
        → AllByRecursion (λ (m : Member). FitsAt rs m.number) (processed axioms rs ns)
    processed-fit axioms ns first a =
        all-passed (IsAt sig ins rs) (λ (m : Member). FitsAt rs m.number) (is_processed axioms ns)
        (numbered_rows 1 rs) one all-numbered
      where
        one : (m : Member) → IsAt sig ins rs m → is_processed axioms ns m ≡ true → FitsAt rs m.number
        one m at_ e = elim (or_cases (nat_le m.number axioms) (was_chosen ns m.number) e) [
          | inl f ↦ (m.row, at_, inl (first m.number m.row f at_))
          | inr f ↦ any-has (FitsAt rs) ns m.number a f
        ]

    kept-one : (n : ℕ) (f : Fate) → FateFits rs n f → is_kept f ≡ true → FitsAt rs n
    kept-one n (Kept k) a e = a
    kept-one n Rewritten a e = a
    kept-one n (Dropped reason) a e = absurd cc
    kept-one n Closed a e = a
    kept-one n Last a e = a

    kept-fit : (fates : List Prepared) (n : ℕ) → AllFit rs fates → was_kept fates n ≡ true → FitsAt rs n
    kept-fit [] n a e = absurd cc
    kept-fit (p ∷ fates) n a e = elim (or_cases (keeps n p) (was_kept fates n) e) [
      | inl f ↦ subst (FitsAt rs) (number-is p.number n (and_left (p.number == n) (is_kept p.fate) f))
          (kept-one p.number p.fate a.0 (and_right (p.number == n) (is_kept p.fate) f))
      | inr f ↦ kept-fit fates n a.1 f
    ]

    shown-fit : (limit : ℕ) (ms : List Member) → AllByRecursion (λ (m : Member). FitsAt rs m.number) ms
        → AllByRecursion (λ (w : WaitRow). FitsAt rs w.number) (map (shown limit) ms)
    shown-fit limit [] a = tt
    shown-fit limit (m ∷ ms) a = (a.0, shown-fit limit ms a.1)

    waits-fit : (limit : ℕ) (fates : List Prepared) (ns : List ℕ) → AllFit rs fates
        → AllByRecursion (λ (w : WaitRow). FitsAt rs w.number) (waiting limit rs fates ns)
    waits-fit limit fates ns a =
        shown-fit limit (filter (is_waiting fates ns) (numbered_rows 1 rs))
        (all-passed (IsAt sig ins rs) (λ (m : Member). FitsAt rs m.number) (is_waiting fates ns) (numbered_rows 1 rs)
        (λ m at_ e. kept-fit fates m.number a (and_left (was_kept fates m.number) (not (was_chosen ns m.number)) e))
        all-numbered)

    from-list : (ws : List WaitRow) (place n : ℕ) → AllByRecursion (λ (w : WaitRow). FitsAt rs w.number) ws
        → picked_at ws place ≡ Some n → FitsAt rs n
    from-list [] place n a e = absurd cc
    from-list (w ∷ ws) zero n a e = let same : w.number ≡ n = cc in subst (FitsAt rs) same a.0
    from-list (w ∷ ws) (suc place) n a e = from-list ws place n a.1 e

    pub picked-fits : (limit : ℕ) (fates : List Prepared) (ns : List ℕ) (place n : ℕ) → AllFit rs fates
        → picked_at (waiting limit rs fates ns) place ≡ Some n → FitsAt rs n
    picked-fits limit fates ns place n a e =
        from-list (waiting limit rs fates ns) place n (waits-fit limit fates ns a) e

  -- ---- ancestors

  rests-fit : (rs : List Row) → AllByRecursion (RestsWell rs) rs → (m n : ℕ) → RestsOn rs m n → FitsAt rs m
      → FitsAt rs n
  rests-fit rs a m n (Itself k) f = f
  rests-fit rs a m n (ByParent k p l r at has rests) f =
      rests-fit rs a p l rests
      (any-has (FitsAt rs) (parents_of r.rule) p (all-member (RestsWell rs) rs k r a at) has)

  renumbered-fits : (to : ℕ → ℕ) (row : Row) → Fits row → Fits (renumbered_row to row)
  renumbered-fits to row (inl a) = inl (a.0, a.1, ap (with_parents to) a.2)
  renumbered-fits to row (inr s) = inr s

  kept-all : (stays : ℕ → Bool) (to : ℕ → ℕ) (rows : List Row) (n : ℕ)
      → ((i : ℕ) (r : Row) → slice_get rows i ≡ Some r → stays (n + i) ≡ true → Fits r)
      → AllByRecursion Fits (kept_from stays to n rows)
  kept-all stays to [] n h = tt
  kept-all stays to (row ∷ rows) n h =
      let same : n ≡ n + 0 = omega arith in
      one-passed Fits (stays n) (renumbered_row to row) (kept_from stays to (suc n) rows)
      (λ e. renumbered-fits to row (h 0 row refl (subst (λ (x : ℕ). stays x ≡ true) same e)))
      (kept-all stays to rows (suc n)
      (λ i r at e. let next : suc n + i ≡ n + suc i = omega arith in
      h (suc i) r at (subst (λ (x : ℕ). stays x ≡ true) next e)))

  fits-there : (rs : List Row) (i : ℕ) (r : Row) → slice_get rs i ≡ Some r → FitsAt rs (1 + i) → Fits r
  fits-there rs i r at f =
      let number : 1 + i ≡ i + 1 = omega arith in
      subst Fits
      (same_Some f.0 r (sym f.1 ∙ (ap (row_at rs) number ∙ (row_at-after rs i ∙ at)))) f.2

  -- the rows on which such a row rests
  pub ancestors-fit : (rs : List Row) (last : ℕ) (log : List Row) → AllByRecursion (RestsWell rs) rs → FitsAt rs last
      → AreAncestors rs last log → AllByRecursion Fits log
  ancestors-fit rs last log a f l =
      subst (λ (xs : List Row). AllByRecursion Fits xs) (sym l.is)
      (kept-all l.stays (count_to l.stays) rs 1
      (λ i r at e. fits-there rs i r at (rests-fit rs a last (1 + i) ((l.those (1 + i)).0 e) f)))
