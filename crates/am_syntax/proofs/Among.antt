-- What `||` and lists of tests tell.
use Rattle.std.proofs.Common.{◌≡◌, ◌||◌, Bool, true, false, refl, ap, true≢false, List, [], ◌∷◌, map}
use Rattle.std.specs.List.{list_any}

pub none_left : (a b : Bool) → (a || b) ≡ false → a ≡ false
none_left true b e = e
none_left false b e = refl

pub none_right : (a b : Bool) → (a || b) ≡ false → b ≡ false
none_right true b e = absurd (true≢false e)
none_right false b e = e

pub any-map : {A B : Type 0} (test : B → Bool) (f : A → B) (xs : List A) → list_any test (map f xs) ≡ list_any (λ x. test (f x)) xs
any-map test f [] = refl
any-map test f (x ∷ xs) = ap (λ b. test (f x) || b) (any-map test f xs)
