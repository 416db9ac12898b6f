-- Lists that are put one after another: their members, and whether two of them are one.
use Rattle.std.proofs.Common.{◌≡◌, ◌∙◌, ◌+◌, ◌<◌, ◌&&◌, ◌||◌, ℕ, zero, suc, Bool, true, false, not, List, [], ◌∷◌, ◌++◌, map, length, Some, refl, sym, ap, subst, arith, slice_get, append_assoc, zero-add}
use Rattle.std.specs.List.{AllZip, AllByRecursion, flat_map, list_all, list_any}
use Rattle.std.specs.Str.{bytes_eq}
use Rattle.std.proofs.lemmas.List.{append-nil}
use Rattle.std.proofs.lemmas.List.Folds.{list_any-append}
use Rattle.std.proofs.lemmas.Slice.Eq.{bytes_eq-Decides}
use Rattle.am_term.proofs.Tests.{and_left, and_right, and_both, true_not, not_false}
use Rattle.am_term.specs.NameLists.{is_among, are_distinct}
use Rattle.am_syntax.proofs.Among.{none_left, none_right}

pub none_both : (a b : Bool) → a ≡ false → b ≡ false → (a || b) ≡ false
none_both true b e f = e
none_both false b e f = f

-- ---- what holds of each member
pub all-append : {X : Type 0} (P : X → Type 0) (xs ys : List X) → AllByRecursion P xs → AllByRecursion P ys → AllByRecursion P (xs ++ ys)
all-append P [] ys h k = k
all-append P (x ∷ xs) ys h k = (h.0, all-append P xs ys h.1 k)

pub all-push : {X : Type 0} (P : X → Type 0) (xs : List X) (x : X) → AllByRecursion P xs → P x → AllByRecursion P (xs ++ x ∷ [])
all-push P xs x h k = all-append P xs (x ∷ []) h (k, tt)

pub all-weaker : {X : Type 0} (P Q : X → Type 0) → ((x : X) → P x → Q x) → (xs : List X) → AllByRecursion P xs → AllByRecursion Q xs
all-weaker P Q f [] h = tt
all-weaker P Q f (x ∷ xs) h = (f x h.0, all-weaker P Q f xs h.1)

pub all-both : {X : Type 0} (P Q R : X → Type 0) → ((x : X) → P x → Q x → R x) → (xs : List X) → AllByRecursion P xs → AllByRecursion Q xs → AllByRecursion R xs
all-both P Q R f [] h k = tt
all-both P Q R f (x ∷ xs) h k = (f x h.0 k.0, all-both P Q R f xs h.1 k.1)

pub all-map : {X Y : Type 0} (P : Y → Type 0) (f : X → Y) (xs : List X) → AllByRecursion (λ x. P (f x)) xs → AllByRecursion P (map f xs)
all-map P f [] h = tt
all-map P f (x ∷ xs) h = (h.0, all-map P f xs h.1)

pub all-unmap : {X Y : Type 0} (P : Y → Type 0) (f : X → Y) (xs : List X) → AllByRecursion P (map f xs) → AllByRecursion (λ x. P (f x)) xs
all-unmap P f [] h = tt
all-unmap P f (x ∷ xs) h = (h.0, all-unmap P f xs h.1)

pub all-each : {X : Type 0} (P : X → Type 0) → ((x : X) → P x) → (xs : List X) → AllByRecursion P xs
all-each P f [] = tt
all-each P f (x ∷ xs) = (f x, all-each P f xs)

pub all-at : {X : Type 0} (P : X → Type 0) (xs : List X) (k : ℕ) (x : X) → AllByRecursion P xs → slice_get xs k ≡ Some x → P x
all-at P [] k x h e = absurd cc
all-at P (y ∷ xs) zero x h e = let s : y ≡ x = cc in subst P s h.0
all-at P (y ∷ xs) (suc k) x h e = all-at P xs k x h.1 e

pub all-passed : {X : Type 0} (test : X → Bool) (xs : List X) → list_all test xs ≡ true → AllByRecursion (λ x. test x ≡ true) xs
all-passed test [] e = tt
all-passed test (x ∷ xs) e = (and_left (test x) (list_all test xs) e, all-passed test xs (and_right (test x) (list_all test xs) e))

pub all-failed : {X : Type 0} (test : X → Bool) (xs : List X) → list_any test xs ≡ false → AllByRecursion (λ x. test x ≡ false) xs
all-failed test [] e = tt
all-failed test (x ∷ xs) e = (none_left (test x) (list_any test xs) e, all-failed test xs (none_right (test x) (list_any test xs) e))

pub none-passed : {X : Type 0} (test : X → Bool) (xs : List X) → AllByRecursion (λ x. test x ≡ false) xs → list_any test xs ≡ false
none-passed test [] h = refl
none-passed test (x ∷ xs) h = none_both (test x) (list_any test xs) h.0 (none-passed test xs h.1)

-- ---- two lists side by side
pub zip-push : {A B : Type 0} (R : A → B → Type 0) (xs : List A) (ys : List B) (x : A) (y : B) → AllZip R xs ys → R x y → AllZip R (xs ++ x ∷ []) (ys ++ y ∷ [])
zip-push R [] [] x y h k = (k, tt)
zip-push R [] (b ∷ ys) x y h k = absurd h
zip-push R (a ∷ xs) [] x y h k = absurd h
zip-push R (a ∷ xs) (b ∷ ys) x y h k = (h.0, zip-push R xs ys x y h.1 k)

-- ---- members by their numbers
pub get-left : {X : Type 0} (xs ys : List X) (k : ℕ) (x : X) → slice_get xs k ≡ Some x → slice_get (xs ++ ys) k ≡ Some x
get-left [] ys k x e = absurd cc
get-left (y ∷ xs) ys zero x e = e
get-left (y ∷ xs) ys (suc k) x e = get-left xs ys k x e

pub get-end : {X : Type 0} (xs ys : List X) (y : X) → slice_get (xs ++ y ∷ ys) (length xs) ≡ Some y
get-end [] ys y = refl
get-end (x ∷ xs) ys y = get-end xs ys y

-- a member of the first list, or one of the second
pub data Side {X : Type 0} (xs ys : List X) (k : ℕ) (x : X) : Type 0 where
  before : slice_get xs k ≡ Some x → Side xs ys k x
  behind : (j : ℕ) → k ≡ length xs + j → slice_get ys j ≡ Some x → Side xs ys k x

pub get-side : {X : Type 0} (xs ys : List X) (k : ℕ) (x : X) → slice_get (xs ++ ys) k ≡ Some x → Side xs ys k x
get-side [] ys k x e = behind k (sym (zero-add k)) e
get-side (y ∷ xs) ys zero x e = before e
get-side (y ∷ xs) ys (suc k) x e = elim (get-side xs ys k x e) [
  | before f ↦ before f
  | behind j i f ↦ behind j (omega arith) f
]

-- the only member
pub get-only : {X : Type 0} (x : X) (k : ℕ) (y : X) → slice_get (x ∷ []) k ≡ Some y → (k ≡ 0) × (x ≡ y)
get-only x zero y e = (refl, cc)
get-only x (suc k) y e = absurd cc

pub get-within : {X : Type 0} (xs : List X) (k : ℕ) (x : X) → slice_get xs k ≡ Some x → k < length xs
get-within [] k x e = absurd cc
get-within (y ∷ xs) zero x e = omega arith
get-within (y ∷ xs) (suc k) x e = let h = get-within xs k x e in omega arith

-- ---- lists of which no two members are one
module _ {X : Type 0} (same : X → X → Bool) (turned : (x y : X) → same x y ≡ same y x) where
  abbrev pub differ : List X → Bool
  differ [] = true
  differ (x ∷ xs) = not (list_any (same x) xs) && differ xs

  -- none of these is one of those
  abbrev pub AreApart : List X → List X → Type 0
  AreApart ns xs = AllByRecursion (λ n. list_any (same n) xs ≡ false) ns

  from_head : (ns xs : List X) (x : X) → AreApart ns (x ∷ xs) → list_any (same x) ns ≡ false
  from_head [] xs x h = refl
  from_head (n ∷ ns) xs x h = none_both (same x n) (list_any (same x) ns) (turned x n ∙ none_left (same n x) (list_any (same n) xs) h.0) (from_head ns xs x h.1)

  from_tail : (ns xs : List X) (x : X) → AreApart ns (x ∷ xs) → AreApart ns xs
  from_tail ns xs x = all-weaker (λ n. list_any (same n) (x ∷ xs) ≡ false) (λ n. list_any (same n) xs ≡ false) (λ n e. none_right (same n x) (list_any (same n) xs) e) ns

  not_among : (x : X) (xs : List X) → differ (x ∷ xs) ≡ true → list_any (same x) xs ≡ false
  not_among x xs e = true_not (list_any (same x) xs) (and_left (not (list_any (same x) xs)) (differ xs) e)

  differ_cons : (x : X) (xs : List X) → list_any (same x) xs ≡ false → differ xs ≡ true → differ (x ∷ xs) ≡ true
  differ_cons x xs e f = and_both (not (list_any (same x) xs)) (differ xs) (not_false (list_any (same x) xs) e) f

  any_append : (x : X) (xs ys : List X) → list_any (same x) xs ≡ false → list_any (same x) ys ≡ false → list_any (same x) (xs ++ ys) ≡ false
  any_append x xs ys e f = list_any-append (same x) xs ys ∙ none_both (list_any (same x) xs) (list_any (same x) ys) e f

  in_front : (ns bs : List X) → differ ns ≡ true → differ bs ≡ true → AreApart ns bs → differ (ns ++ bs) ≡ true
  in_front [] bs e f h = f
  in_front (n ∷ ns) bs e f h = differ_cons n (ns ++ bs) (any_append n ns bs (not_among n ns e) h.0) (in_front ns bs (and_right (not (list_any (same n) ns)) (differ ns) e) f h.1)

  -- members that are put between others
  pub between : (xs ns bs : List X) → differ (xs ++ bs) ≡ true → differ ns ≡ true → AreApart ns (xs ++ bs) → differ (xs ++ (ns ++ bs)) ≡ true
  between [] ns bs e f h = in_front ns bs f e h
  between (x ∷ xs) ns bs e f h =
      let whole = list_any-append (same x) xs bs in
      let none : (list_any (same x) xs || list_any (same x) bs) ≡ false = sym whole ∙ not_among x (xs ++ bs) e in
      differ_cons x (xs ++ (ns ++ bs))
      (any_append x xs (ns ++ bs) (none_left (list_any (same x) xs) (list_any (same x) bs) none)
      (any_append x ns bs (from_head ns (xs ++ bs) x h) (none_right (list_any (same x) xs) (list_any (same x) bs) none)))
      (between xs ns bs (and_right (not (list_any (same x) (xs ++ bs))) (differ (xs ++ bs)) e) f (from_tail ns (xs ++ bs) x h))

-- ---- names
pub names-turned : (n m : List ℕ) → bytes_eq n m ≡ bytes_eq m n
names-turned n m = grind (arith, bytes_eq-Decides n m, bytes_eq-Decides m n)

pub distinct-differ : (ns : List (List ℕ)) → are_distinct ns ≡ differ bytes_eq names-turned ns
distinct-differ [] = refl
distinct-differ (n ∷ ns) = ap (λ b. not (is_among n ns) && b) (distinct-differ ns)

pub distinct-append : (xs ns : List (List ℕ)) → are_distinct xs ≡ true → are_distinct ns ≡ true → AllByRecursion (λ n. is_among n xs ≡ false) ns → are_distinct (xs ++ ns) ≡ true
distinct-append xs ns e f h =
    let none : xs ++ [] ≡ xs = append-nil xs in
    let whole : differ bytes_eq names-turned (xs ++ (ns ++ [])) ≡ true =
    between bytes_eq names-turned xs ns [] (ap (differ bytes_eq names-turned) none ∙ sym (distinct-differ xs) ∙ e) (sym (distinct-differ ns) ∙ f)
    (subst (λ (ys : List (List ℕ)). AllByRecursion (λ n. is_among n ys ≡ false) ns) (sym none) h) in
    distinct-differ (xs ++ ns) ∙ ap (λ (ys : List (List ℕ)). differ bytes_eq names-turned (xs ++ ys)) (sym (append-nil ns)) ∙ whole

-- one more name in between
pub distinct-insert : (xs bs : List (List ℕ)) (n : List ℕ) → are_distinct (xs ++ bs) ≡ true → is_among n (xs ++ bs) ≡ false → are_distinct ((xs ++ n ∷ []) ++ bs) ≡ true
distinct-insert xs bs n e h =
    ap are_distinct (append_assoc xs (n ∷ []) bs) ∙ distinct-differ (xs ++ n ∷ bs)
    ∙ between bytes_eq names-turned xs (n ∷ []) bs (sym (distinct-differ (xs ++ bs)) ∙ e) refl (h, tt)

-- a name that is none of these: none of these is that name
pub none-is : (n : List ℕ) (ms : List (List ℕ)) → is_among n ms ≡ false → AllByRecursion (λ m. bytes_eq m n ≡ false) ms
none-is n ms e = all-weaker (λ m. bytes_eq n m ≡ false) (λ m. bytes_eq m n ≡ false) (λ m k. names-turned m n ∙ k) ms (all-failed (bytes_eq n) ms e)

pub among-append : (n : List ℕ) (xs ys : List (List ℕ)) → is_among n xs ≡ false → is_among n ys ≡ false → is_among n (xs ++ ys) ≡ false
among-append n xs ys e f = list_any-append (bytes_eq n) xs ys ∙ none_both (is_among n xs) (is_among n ys) e f

-- names of which none is one of others: none of the others is one of them
pub apart-turned : (ns ms : List (List ℕ)) → AllByRecursion (λ n. is_among n ms ≡ false) ns → AllByRecursion (λ m. is_among m ns ≡ false) ms
apart-turned ns [] h = tt
apart-turned ns (m ∷ ms) h = (from_head bytes_eq names-turned ns ms m h, apart-turned ns ms (from_tail bytes_eq names-turned ns ms m h))

-- what holds of each member of each of the lists that are put one after another
pub all-flat : {X Y : Type 0} (P : Y → Type 0) (f : X → List Y) (xs : List X) → AllByRecursion (λ x. AllByRecursion P (f x)) xs → AllByRecursion P (flat_map f xs)
all-flat P f [] h = tt
all-flat P f (x ∷ xs) h = all-append P (f x) (flat_map f xs) h.0 (all-flat P f xs h.1)

pub all-front : {X : Type 0} (P : X → Type 0) (xs ys : List X) → AllByRecursion P (xs ++ ys) → AllByRecursion P xs
all-front P [] ys h = tt
all-front P (x ∷ xs) ys h = (h.0, all-front P xs ys h.1)

pub all-back : {X : Type 0} (P : X → Type 0) (xs ys : List X) → AllByRecursion P (xs ++ ys) → AllByRecursion P ys
all-back P [] ys h = h
all-back P (x ∷ xs) ys h = all-back P xs ys h.1

pub all-unflat : {X Y : Type 0} (P : Y → Type 0) (f : X → List Y) (xs : List X) → AllByRecursion P (flat_map f xs) → AllByRecursion (λ x. AllByRecursion P (f x)) xs
all-unflat P f [] h = tt
all-unflat P f (x ∷ xs) h = (all-front P (f x) (flat_map f xs) h, all-unflat P f xs (all-back P (f x) (flat_map f xs) h))
