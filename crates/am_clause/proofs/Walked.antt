-- The walk tells exactly the sorts of variables that are numbered.
use Rattle.std.proofs.Common.{◌≡◌, ◌∙◌, ◌==◌, ◌<◌, ◌≤◌, ◌++◌, ◌⊎◌, inl, inr, ℕ, zero, suc, Bool, true, false, refl, sym, ap, subst, arith, List, [], ◌∷◌, map, length, slice_get, Option, Some, None, if◌then◌else◌}
use Rattle.std.proofs.lemmas.Bool.Decides.{nat_tests}
use Rattle.std.proofs.lemmas.List.{map-append}
use Rattle.am_term.specs.declared.id.SortId.{SortId}
use Rattle.am_clause.specs.Distinct.{among, distinct, with_new}
use Rattle.am_clause.specs.Variables.{Variable, same_variable}
use Rattle.am_clause.specs.Renaming.{places_in}
use Rattle.am_clause.proofs.Firsts.{with_new-none, with_new-append, with_new-old, with_new-new, with_new-is, with_new-distinct}
use Rattle.am_clause.proofs.Places.{same_variable-refl, same_variable-sound}
use Rattle.am_clause.proofs.Bijections.{read-place}
use Rattle.am_term.proofs.Tests.{bool_cases, or_left, or_right}
use Rattle.am_clause.specs.Numbered.{AreNumbered}
use Rattle.am_clause.specs.Walks.{walk_one, walk_from, walk}

-- the k-th of these variables has the number k
abbrev InOrder : List Variable → Type 0
InOrder us = (k : ℕ) (v : Variable) → slice_get us k ≡ Some v → v.0 ≡ k

abbrev sorts : List Variable → List SortId
sorts us = map (λ (v : Variable). v.1) us

number-is : (n m : ℕ) → (n == m) ≡ true → n ≡ m
number-is n m e = grind (arith, nat_tests)

number-same : (n m : ℕ) → n ≡ m → (n == m) ≡ true
number-same n m e = grind (arith, nat_tests)

sort-is : (s t : SortId) → (s.0 == t.0) ≡ true → s ≡ t
sort-is s t e = ap (λ (i : ℕ). let r : SortId = record { 0 = i } in r) (number-is s.0 t.0 e)

get-sorts : (us : List Variable) (k : ℕ) (s : SortId) → slice_get (sorts us) k ≡ Some s → (v : Variable) × (slice_get us k ≡ Some v) × (v.1 ≡ s)
get-sorts [] k s e = absurd cc
get-sorts (u ∷ us) zero s e = let one : u.1 ≡ s = cc in (u, refl, one)
get-sorts (u ∷ us) (suc k) s e = get-sorts us k s e

sorts-get : (us : List Variable) (k : ℕ) (v : Variable) → slice_get us k ≡ Some v → slice_get (sorts us) k ≡ Some v.1
sorts-get [] k v e = absurd cc
sorts-get (u ∷ us) zero v e = let one : u ≡ v = cc in ap (λ (x : Variable). Some x.1) one
sorts-get (u ∷ us) (suc k) v e = sorts-get us k v e

get-past : {A : Type 0} (xs : List A) (k : ℕ) → length xs ≤ k → slice_get xs k ≡ None
get-past [] k h = refl
get-past (x ∷ xs) zero h = absurd (omega arith)
get-past (x ∷ xs) (suc k) h = get-past xs k (omega arith)

length-sorts : (us : List Variable) → length (sorts us) ≡ length us
length-sorts [] = refl
length-sorts (u ∷ us) = ap suc (length-sorts us)

get-low : {A : Type 0} (xs : List A) (k : ℕ) (x : A) → slice_get xs k ≡ Some x → k < length xs
get-low [] k x e = absurd cc
get-low (y ∷ ys) zero x e = omega arith
get-low (y ∷ ys) (suc k) x e = let h = get-low ys k x e in omega arith

get-last : {A : Type 0} (xs : List A) (x : A) → slice_get (xs ++ x ∷ []) (length xs) ≡ Some x
get-last [] x = refl
get-last (y ∷ ys) x = get-last ys x

get-first : {A : Type 0} (xs ys : List A) (k : ℕ) (x : A) → slice_get xs k ≡ Some x → slice_get (xs ++ ys) k ≡ Some x
get-first [] ys k x e = absurd cc
get-first (z ∷ zs) ys zero x e = e
get-first (z ∷ zs) ys (suc k) x e = get-first zs ys k x e

read-among : (vs : List Variable) (k : ℕ) (v : Variable) → slice_get vs k ≡ Some v → among same_variable v vs ≡ true
read-among [] k v e = absurd cc
read-among (w ∷ ws) zero v e = let i : w ≡ v = cc in or_left (same_variable v w) (among same_variable v ws) (subst (λ (x : Variable). same_variable v x ≡ true) (sym i) (same_variable-refl v))
read-among (w ∷ ws) (suc k) v e = or_right (same_variable v w) (among same_variable v ws) (read-among ws k v e)

-- the last one has its number, and those before keep theirs
order-last : (us : List Variable) (v : Variable) → InOrder us → v.0 ≡ length us → InOrder (us ++ v ∷ [])
order-last us v h e k x g = by (us_or us v k x g)
  where
    us_or : (us : List Variable) (v : Variable) (k : ℕ) (x : Variable) → slice_get (us ++ v ∷ []) k ≡ Some x → (slice_get us k ≡ Some x) ⊎ ((k ≡ length us) × (v ≡ x))
    us_or [] v zero x g = let one : v ≡ x = cc in inr (refl, one)
    us_or [] v (suc k) x g = absurd cc
    us_or (u ∷ us) v zero x g = inl g
    us_or (u ∷ us) v (suc k) x g = elim (us_or us v k x g) [
      | inl a ↦ inl a
      | inr b ↦ inr (ap suc b.0, b.1)
    ]

    by : (slice_get us k ≡ Some x) ⊎ ((k ≡ length us) × (v ≡ x)) → x.0 ≡ k
    by (inl a) = h k x a
    by (inr b) = ap (λ (y : Variable). y.0) (sym b.1) ∙ (e ∙ sym b.0)

-- among variables in order, one is found at its number
found : (us : List Variable) → InOrder us → (v : Variable) → among same_variable v us ≡ true → slice_get us v.0 ≡ Some v
found us h v m =
    let read : slice_get us (places_in us v.0 v.1) ≡ Some v = read-place us v m in
    ap (slice_get us) (h (places_in us v.0 v.1) v read) ∙ read

pair_is : (v w : Variable) → v.0 ≡ w.0 → v.1 ≡ w.1 → v ≡ w
pair_is v w e f = ap (λ (n : ℕ). let x : Variable = (n, v.1) in x) e ∙ ap (λ (s : SortId). let x : Variable = (w.0, s) in x) f

abbrev grown : List Variable → List Variable → List Variable
grown us vs = with_new same_variable us vs

cons-new : (us : List Variable) (v : Variable) (vs : List Variable) → grown us (v ∷ vs) ≡ grown (grown us (v ∷ [])) vs
cons-new us v vs = with_new-append same_variable us (v ∷ []) vs

-- one more variable: it was there, or it is the next
one-told : (us : List Variable) → InOrder us → (v : Variable) (more : List SortId) → walk_one (sorts us) v (slice_get (sorts us) v.0) ≡ Some more → InOrder (grown us (v ∷ [])) × (more ≡ sorts (grown us (v ∷ [])))
one-told us h v more e = by (slice_get (sorts us) v.0) refl e
  where
    old : (s : SortId) → slice_get (sorts us) v.0 ≡ Some s → (b : Bool) → (s.0 == v.1.0) ≡ b → (if b then Some (sorts us) else None) ≡ Some more → InOrder (grown us (v ∷ [])) × (more ≡ sorts (grown us (v ∷ [])))
    old s at false t f = absurd cc
    old s at true t f =
        let g = get-sorts us v.0 s at in
        let same : g.0 ≡ v = pair_is g.0 v (h v.0 g.0 g.1) (g.2 ∙ sort-is s v.1 t) in
        let there : among same_variable v us ≡ true = read-among us v.0 v (g.1 ∙ ap Some same) in
        let is : grown us (v ∷ []) ≡ us = with_new-old same_variable us v there in
        let out : sorts us ≡ more = cc in
        (subst InOrder (sym is) h, sym out ∙ ap sorts (sym is))

    new : slice_get (sorts us) v.0 ≡ None → (b : Bool) → (v.0 == length (sorts us)) ≡ b → (if b then Some (sorts us ++ v.1 ∷ []) else None) ≡ Some more → InOrder (grown us (v ∷ [])) × (more ≡ sorts (grown us (v ∷ [])))
    new at false t f = absurd cc
    new at true t f =
        let number : v.0 ≡ length us = number-is v.0 (length (sorts us)) t ∙ length-sorts us in
        let fresh : among same_variable v us ≡ false = elim (bool_cases (among same_variable v us)) [
          | inl m ↦ let low : v.0 < length us = get-low us v.0 v (found us h v m) in absurd (omega arith)
          | inr m ↦ m
        ] in
        let is : grown us (v ∷ []) ≡ us ++ v ∷ [] = with_new-new same_variable us v fresh in
        let out : sorts us ++ v.1 ∷ [] ≡ more = cc in
        (subst InOrder (sym is) (order-last us v h number), sym out ∙ (sym (map-append (λ (x : Variable). x.1) us (v ∷ [])) ∙ ap sorts (sym is)))

    by : (o : Option SortId) → slice_get (sorts us) v.0 ≡ o → walk_one (sorts us) v o ≡ Some more → InOrder (grown us (v ∷ [])) × (more ≡ sorts (grown us (v ∷ [])))
    by None at f = new at (v.0 == length (sorts us)) refl f
    by (Some s) at f = old s at (s.0 == v.1.0) refl f

-- a walk that ends: the variables are in order, and the sorts are theirs
pub walk-told : (us vs : List Variable) → InOrder us → (ss : List SortId) → walk (sorts us) vs ≡ Some ss → InOrder (grown us vs) × (ss ≡ sorts (grown us vs))
walk-told us [] h ss e =
    let is : grown us [] ≡ us = with_new-none same_variable us in
    let out : sorts us ≡ ss = cc in
    (subst InOrder (sym is) h, sym out ∙ ap sorts (sym is))
walk-told us (v ∷ vs) h ss e = by (walk_one (sorts us) v (slice_get (sorts us) v.0)) refl e (λ ws. walk-told ws vs)
  where
    by : (o : Option (List SortId)) → walk_one (sorts us) v (slice_get (sorts us) v.0) ≡ o → walk_from o (λ more. walk more vs) ≡ Some ss
        → ((ws : List Variable) → InOrder ws → (ss : List SortId) → walk (sorts ws) vs ≡ Some ss → InOrder (grown ws vs) × (ss ≡ sorts (grown ws vs)))
        → InOrder (grown us (v ∷ vs)) × (ss ≡ sorts (grown us (v ∷ vs)))
    by None one f next = absurd cc
    by (Some more) one f next =
        let a = one-told us h v more one in
        let b = next (grown us (v ∷ [])) a.0 ss (ap (λ (xs : List SortId). walk xs vs) (sym a.1) ∙ f) in
        (subst InOrder (sym (cons-new us v vs)) b.0, b.1 ∙ ap sorts (sym (cons-new us v vs)))

-- what was there stays at its place
stays : (us vs : List Variable) (k : ℕ) (x : Variable) → slice_get us k ≡ Some x → slice_get (grown us vs) k ≡ Some x
stays us vs k x e = ap (λ (xs : List Variable). slice_get xs k) (with_new-is same_variable same_variable-sound same_variable-refl us vs) ∙ get-first us _ k x e

-- where the variables will be in order, one more is told
told-one : (us : List Variable) → InOrder us → (v : Variable) → InOrder (grown us (v ∷ [])) → walk_one (sorts us) v (slice_get (sorts us) v.0) ≡ Some (sorts (grown us (v ∷ [])))
told-one us h v g = elim (bool_cases (among same_variable v us)) [
  | inl m ↦
      let is : grown us (v ∷ []) ≡ us = with_new-old same_variable us v m in
      ap (walk_one (sorts us) v) (sorts-get us v.0 v (found us h v m))
      ∙ (ap (λ b. if b then Some (sorts us) else None) (number-same v.1.0 v.1.0 refl) ∙ ap (λ (ws : List Variable). Some (sorts ws)) (sym is))
  | inr m ↦
      let is : grown us (v ∷ []) ≡ us ++ v ∷ [] = with_new-new same_variable us v m in
      let number : v.0 ≡ length us = g (length us) v (ap (λ (ws : List Variable). slice_get ws (length us)) is ∙ get-last us v) in
      let count : length (sorts us) ≡ length us = length-sorts us in
      let past : slice_get (sorts us) v.0 ≡ None = get-past (sorts us) v.0 (omega arith) in
      ap (walk_one (sorts us) v) past
      ∙ (ap (λ b. if b then Some (sorts us ++ v.1 ∷ []) else None) (number-same v.0 (length (sorts us)) (number ∙ sym count))
      ∙ ap Some (sym (map-append (λ (x : Variable). x.1) us (v ∷ [])) ∙ ap sorts (sym is)))
]

pub told-walk : (us vs : List Variable) → InOrder us → InOrder (grown us vs) → walk (sorts us) vs ≡ Some (sorts (grown us vs))
told-walk us [] h g = ap (λ (ws : List Variable). Some (sorts ws)) (sym (with_new-none same_variable us))
told-walk us (v ∷ vs) h g =
    let all : InOrder (grown (grown us (v ∷ [])) vs) = subst InOrder (cons-new us v vs) g in
    let now : InOrder (grown us (v ∷ [])) = λ k x e. all k x (stays (grown us (v ∷ [])) vs k x e) in
    ap (λ o. walk_from o (λ more. walk more vs)) (told-one us h v now)
    ∙ (told-walk (grown us (v ∷ [])) vs now all ∙ ap (λ (ws : List Variable). Some (sorts ws)) (sym (cons-new us v vs)))

-- ---- from nothing

pub walk-numbered : (vs : List Variable) (ss : List SortId) → walk [] vs ≡ Some ss → AreNumbered vs × (ss ≡ sorts (distinct same_variable vs))
walk-numbered vs ss e =
    let a = walk-told [] vs (λ k v g. absurd cc) ss e in
    let is : grown [] vs ≡ distinct same_variable vs = with_new-distinct same_variable same_variable-sound same_variable-refl vs in
    (subst InOrder is a.0, a.1 ∙ ap sorts is)

pub numbered-walk : (vs : List Variable) → AreNumbered vs → walk [] vs ≡ Some (sorts (distinct same_variable vs))
numbered-walk vs h =
    let is : grown [] vs ≡ distinct same_variable vs = with_new-distinct same_variable same_variable-sound same_variable-refl vs in
    told-walk [] vs (λ k v g. absurd cc) (subst InOrder (sym is) h) ∙ ap (λ (ws : List Variable). Some (sorts ws)) is
