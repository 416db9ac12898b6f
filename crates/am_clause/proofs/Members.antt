-- What a list without repetitions has: the same members, and no more of them than another list that has
-- them all.
use Rattle.std.proofs.Common.{◌≡◌, ◌∙◌, ◌&&◌, ◌||◌, ◌<◌, ◌≤◌, suc, Bool, true, false, not, cond, refl, sym, ap, subst, arith, List, [], ◌∷◌, length}
use Rattle.std.specs.List.{filter, list_any, list_all, flat_map}
use Rattle.std.proofs.lemmas.List.Folds.{list_any-append, list_all-append}
use Rattle.am_term.proofs.Tests.{and_left, and_right, and_both, or_left, or_right, never_both}
use Rattle.am_clause.specs.Distinct.{among, distinct}
use Rattle.am_clause.proofs.Firsts.{filters, filter_all}

pub any-flat : {X Y : Type 0} (p : Y → Bool) (f : X → List Y) (xs : List X) → list_any p (flat_map f xs) ≡ list_any (λ x. list_any p (f x)) xs
any-flat p f [] = refl
any-flat p f (x ∷ xs) = list_any-append p (f x) (flat_map f xs) ∙ ap (λ b. list_any p (f x) || b) (any-flat p f xs)

pub all-flat : {X Y : Type 0} (p : Y → Bool) (f : X → List Y) (xs : List X) → list_all p (flat_map f xs) ≡ list_all (λ x. list_all p (f x)) xs
all-flat p f [] = refl
all-flat p f (x ∷ xs) = list_all-append p (f x) (flat_map f xs) ∙ ap (λ b. list_all p (f x) && b) (all-flat p f xs)

length-filter-le : {X : Type 0} (p : X → Bool) (xs : List X) → length (filter p xs) ≤ length xs
length-filter-le p [] = omega arith
length-filter-le p (x ∷ xs) = by (p x) (length-filter-le p xs)
  where
    by : (b : Bool) → length (filter p xs) ≤ length xs → length (cond b (x ∷ filter p xs) (filter p xs)) ≤ suc (length xs)
    by true h = omega arith
    by false h = omega arith

module _ {X : Type 0} (same : X → X → Bool) (sound : (x y : X) → same x y ≡ true → x ≡ y) (whole : (x : X) → same x x ≡ true) where
  other : X → X → Bool
  other x y = not (same x y)

  without : X → List X → List X
  without x xs = filter (λ y. not (same x y)) xs

  -- what passes no test may be left out
  any-without : (p : X → Bool) (x : X) → p x ≡ false → (ys : List X) → list_any p (filter (λ y. not (same x y)) ys) ≡ list_any p ys
  any-without p x e [] = refl
  any-without p x e (y ∷ ys) = by (same x y) refl (any-without p x e ys)
    where
      by : (b : Bool) → same x y ≡ b → list_any p (filter (λ y. not (same x y)) ys) ≡ list_any p ys
          → list_any p (cond (not (same x y)) (y ∷ filter (λ y. not (same x y)) ys) (filter (λ y. not (same x y)) ys)) ≡ (p y || list_any p ys)
      by true f h = let g : p y ≡ false = subst (λ z. p z ≡ false) (sound x y f) e in rw (f, g) h
      by false f h = rw f (ap (λ b. p y || b) h)

  -- a test passes a member of the list without repetitions exactly where it passes one of the list
  pub any-distinct : (p : X → Bool) (xs : List X) → list_any p (distinct same xs) ≡ list_any p xs
  any-distinct p [] = refl
  any-distinct p (x ∷ xs) = by (p x) refl (any-distinct p xs)
    where
      by : (b : Bool) → p x ≡ b → list_any p (distinct same xs) ≡ list_any p xs
          → (p x || list_any p (filter (λ y. not (same x y)) (distinct same xs))) ≡ (p x || list_any p xs)
      by true e h = rw e refl
      by false e h = rw e (any-without p x e (distinct same xs) ∙ h)

  among-filter : (q : X → Bool) (x : X) → q x ≡ true → (ys : List X) → among same x ys ≡ true → among same x (filter q ys) ≡ true
  among-filter q x e [] m = m
  among-filter q x e (y ∷ ys) m = by (same x y) (q y) refl refl (among-filter q x e ys)
    where
      by : (b c : Bool) → same x y ≡ b → q y ≡ c → (among same x ys ≡ true → among same x (filter q ys) ≡ true) → among same x (cond (q y) (y ∷ filter q ys) (filter q ys)) ≡ true
      by true true f g h = rw (g, f) refl
      by true false f g h = never_both (q y) (subst (λ z. q z ≡ true) (sound x y f) e) g
      by false true f g h = rw (g, f) (h (rest f m))
        where
          rest : same x y ≡ false → (same x y || among same x ys) ≡ true → among same x ys ≡ true
          rest f m = rw f at m
      by false false f g h = rw g (h (rest f m))
        where
          rest : same x y ≡ false → (same x y || among same x ys) ≡ true → among same x ys ≡ true
          rest f m = rw f at m

  less-without : (x : X) (ys : List X) → among same x ys ≡ true → length (filter (λ y. not (same x y)) ys) < length ys
  less-without x [] m = absurd cc
  less-without x (y ∷ ys) m = by (same x y) refl (less-without x ys) m
    where
      by : (b : Bool) → same x y ≡ b → (among same x ys ≡ true → length (filter (λ y. not (same x y)) ys) < length ys) → (same x y || among same x ys) ≡ true
          → length (cond (not (same x y)) (y ∷ filter (λ y. not (same x y)) ys) (filter (λ y. not (same x y)) ys)) < suc (length ys)
      by true e h m = rw e (let l : length (filter (λ y. not (same x y)) ys) ≤ length ys = length-filter-le (λ y. not (same x y)) ys in omega arith)
      by false e h m = rw e (let n : among same x ys ≡ true = rw e at m in let l : length (filter (λ y. not (same x y)) ys) < length ys = h n in omega arith)

  abbrev Fewer : List X → Type 0
  Fewer xs = (p : X → Bool) (ys : List X) → ((x : X) → p x ≡ true → among same x xs ≡ true → among same x ys ≡ true) → length (filter p (distinct same xs)) ≤ length ys

  fewer_more : (x : X) (xs : List X) → Fewer xs → Fewer (x ∷ xs)
  fewer_more x xs h p ys k = by (p x) refl
    where
      q : X → Bool
      q y = p y && not (same x y)

      within : (y : X) → q y ≡ true → among same y xs ≡ true → among same y ys ≡ true
      within y e m = k y (and_left (p y) (not (same x y)) e) (or_right (same y x) (among same y xs) m)

      without_x : (y : X) → q y ≡ true → among same y xs ≡ true → among same y (filter (λ z. not (same x z)) ys) ≡ true
      without_x y e m = among-filter (λ z. not (same x z)) y (and_right (p y) (not (same x y)) e) ys (within y e m)

      by : (b : Bool) → p x ≡ b → length (cond (p x) (x ∷ filter p (filter (λ y. not (same x y)) (distinct same xs))) (filter p (filter (λ y. not (same x y)) (distinct same xs)))) ≤ length ys
      by true e =
          let here : among same x ys ≡ true = k x e (or_left (same x x) (among same x xs) (whole x)) in
          let less : length (filter (λ z. not (same x z)) ys) < length ys = less-without x ys here in
          let l : length (filter (λ y. p y && not (same x y)) (distinct same xs)) ≤ length (filter (λ z. not (same x z)) ys) = h q (filter (λ z. not (same x z)) ys) without_x in
          rw (e, filters p (λ y. not (same x y)) (distinct same xs)) (omega arith)
      by false e = rw (e, filters p (λ y. not (same x y)) (distinct same xs)) (h q ys within)

  fewer : (xs : List X) → Fewer xs
  fewer [] = λ p ys k. omega arith
  fewer (x ∷ xs) = fewer_more x xs (fewer xs)

  -- there are at most as many different members as the other list has members
  pub distinct-fewer : (xs ys : List X) → ((x : X) → among same x xs ≡ true → among same x ys ≡ true) → length (distinct same xs) ≤ length ys
  distinct-fewer xs ys k = subst (λ zs. length zs ≤ length ys) (filter_all (λ _. true) (λ _. refl) (distinct same xs)) (fewer xs (λ _. true) ys (λ x _. k x))

  -- what holds of each member
  pub all-from : (p : X → Bool) (xs : List X) → ((x : X) → among same x xs ≡ true → p x ≡ true) → list_all p xs ≡ true
  all-from p [] h = refl
  all-from p (x ∷ xs) h = and_both (p x) (list_all p xs) (h x (or_left (same x x) (among same x xs) (whole x))) (all-from p xs (λ y m. h y (or_right (same y x) (among same y xs) m)))

  pub all-at : (p : X → Bool) (xs : List X) → list_all p xs ≡ true → (x : X) → among same x xs ≡ true → p x ≡ true
  all-at p [] e x m = absurd cc
  all-at p (y ∷ ys) e x m = by (same x y) refl (all-at p ys (and_right (p y) (list_all p ys) e) x) m
    where
      by : (b : Bool) → same x y ≡ b → (among same x ys ≡ true → p x ≡ true) → (same x y || among same x ys) ≡ true → p x ≡ true
      by true f h m = subst (λ z. p z ≡ true) (sym (sound x y f)) (and_left (p y) (list_all p ys) e)
      by false f h m = h (rw f at m)
