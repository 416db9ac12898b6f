-- Members of lists, and lists whose members differ.
use Rattle.std.proofs.Common.{◌≡◌, ◌⊎◌, inl, inr, ◌++◌, refl, sym, ap, subst, List, [], ◌∷◌, map}
use Rattle.std.specs.List.{flat_map, AllByRecursion}

-- one of these
abbrev pub Among : {A : Type 0} → A → List A → Type 0
Among x [] = ⊥
Among x (y ∷ ys) = (x ≡ y) ⊎ Among x ys

pub among-left : {A : Type 0} (x : A) (xs ys : List A) → Among x xs → Among x (xs ++ ys)
among-left {A = A} x [] ys h = absurd h
among-left {A = A} x (z ∷ xs) ys (inl e) = inl e
among-left {A = A} x (z ∷ xs) ys (inr h) = inr (among-left x xs ys h)

pub among-right : {A : Type 0} (x : A) (xs ys : List A) → Among x ys → Among x (xs ++ ys)
among-right {A = A} x [] ys h = h
among-right {A = A} x (z ∷ xs) ys h = inr (among-right x xs ys h)

pub among-split : {A : Type 0} (x : A) (xs ys : List A) → Among x (xs ++ ys) → Among x xs ⊎ Among x ys
among-split {A = A} x [] ys h = inr h
among-split {A = A} x (z ∷ xs) ys (inl e) = inl (inl e)
among-split {A = A} x (z ∷ xs) ys (inr h) = one_later (among-split x xs ys h)
  where
    one_later : Among x xs ⊎ Among x ys → Among x (z ∷ xs) ⊎ Among x ys
    one_later (inl a) = inl (inr a)
    one_later (inr b) = inr b

pub among-map : {A B : Type 0} (f : A → B) (x : A) (xs : List A) → Among x xs → Among (f x) (map f xs)
among-map {A = A} {B = B} f x [] h = absurd h
among-map {A = A} {B = B} f x (z ∷ xs) (inl e) = inl (ap f e)
among-map {A = A} {B = B} f x (z ∷ xs) (inr h) = inr (among-map f x xs h)

pub map-among : {A B : Type 0} (f : A → B) (y : B) (xs : List A) → Among y (map f xs) → (x : A) × Among x xs × (y ≡ f x)
map-among {A = A} {B = B} f y [] h = absurd h
map-among {A = A} {B = B} f y (z ∷ xs) (inl e) = (z, inl refl, e)
map-among {A = A} {B = B} f y (z ∷ xs) (inr h) = let r = map-among f y xs h in (r.0, inr r.1, r.2)

pub among-flat : {A B : Type 0} (f : A → List B) (x : A) (y : B) (xs : List A) → Among x xs → Among y (f x) → Among y (flat_map f xs)
among-flat {A = A} {B = B} f x y [] h g = absurd h
among-flat {A = A} {B = B} f x y (z ∷ xs) (inl e) g = among-left y (f z) (flat_map f xs) (subst (λ (w : A). Among y (f w)) e g)
among-flat {A = A} {B = B} f x y (z ∷ xs) (inr h) g = among-right y (f z) (flat_map f xs) (among-flat f x y xs h g)

pub flat-among : {A B : Type 0} (f : A → List B) (y : B) (xs : List A) → Among y (flat_map f xs) → (x : A) × Among x xs × Among y (f x)
flat-among {A = A} {B = B} f y [] h = absurd h
flat-among {A = A} {B = B} f y (z ∷ xs) h = by_side (flat-among f y xs) (among-split y (f z) (flat_map f xs) h)
  where
    by_side : (Among y (flat_map f xs) → (x : A) × Among x xs × Among y (f x)) → Among y (f z) ⊎ Among y (flat_map f xs) → (x : A) × Among x (z ∷ xs) × Among y (f x)
    by_side later (inl a) = (z, inl refl, a)
    by_side later (inr b) = let r = later b in (r.0, inr r.1, r.2)

-- what holds of all holds of each, and the other way round
pub all-among : {A : Type 0} (P : A → Type 0) (x : A) (xs : List A) → AllByRecursion P xs → Among x xs → P x
all-among {A = A} P x [] h g = absurd g
all-among {A = A} P x (z ∷ xs) h (inl e) = subst P (sym e) h.0
all-among {A = A} P x (z ∷ xs) h (inr g) = all-among P x xs h.1 g

pub among-all : {A : Type 0} (P : A → Type 0) (xs : List A) → ((x : A) → Among x xs → P x) → AllByRecursion P xs
among-all {A = A} P [] h = tt
among-all {A = A} P (z ∷ xs) h = (h z (inl refl), among-all P xs (λ x g. h x (inr g)))

-- no two of these are one
abbrev pub Different : {A : Type 0} → List A → Type 0
Different [] = Unit {0}
Different (x ∷ xs) = (Among x xs → ⊥) × Different xs

pub different-left : {A : Type 0} (xs ys : List A) → Different (xs ++ ys) → Different xs
different-left {A = A} [] ys h = tt
different-left {A = A} (x ∷ xs) ys h = (λ g. h.0 (among-left x xs ys g), different-left xs ys h.1)

pub different-right : {A : Type 0} (xs ys : List A) → Different (xs ++ ys) → Different ys
different-right {A = A} [] ys h = h
different-right {A = A} (x ∷ xs) ys h = different-right xs ys h.1

pub different-apart : {A : Type 0} (x : A) (xs ys : List A) → Different (xs ++ ys) → Among x xs → Among x ys → ⊥
different-apart {A = A} x [] ys h a b = a
different-apart {A = A} x (z ∷ xs) ys h (inl e) b = h.0 (among-right z xs ys (subst (λ (w : A). Among w ys) e b))
different-apart {A = A} x (z ∷ xs) ys h (inr a) b = different-apart x xs ys h.1 a b

pub different-append : {A : Type 0} (xs ys : List A) → Different xs → Different ys → ((x : A) → Among x xs → Among x ys → ⊥) → Different (xs ++ ys)
different-append {A = A} [] ys h g apart = g
different-append {A = A} (x ∷ xs) ys h g apart = (λ a. by_side (among-split x xs ys a), different-append xs ys h.1 g (λ y a b. apart y (inr a) b))
  where
    by_side : Among x xs ⊎ Among x ys → ⊥
    by_side (inl a) = h.0 a
    by_side (inr b) = apart x (inl refl) b

-- lists whose images differ
pub different-map : {A B : Type 0} (f : A → B) (xs : List A) → ((x y : A) → Among x xs → Among y xs → f x ≡ f y → x ≡ y) → Different xs → Different (map f xs)
different-map {A = A} {B = B} f [] one h = tt
different-map {A = A} {B = B} f (x ∷ xs) one h = (λ g. new (map-among f (f x) xs g), different-map f xs (λ y z a b. one y z (inr a) (inr b)) h.1)
  where
    new : (y : A) × Among y xs × (f x ≡ f y) → ⊥
    new r = h.0 (subst (λ (w : A). Among w xs) (sym (one x r.0 (inl refl) (inr r.1) r.2)) r.1)
