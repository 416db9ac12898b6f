-- Names among several lists.
use Rattle.std.proofs.Common.{◌≡◌, ◌||◌, ℕ, Bool, true, false, refl, List, [], ◌∷◌, ◌++◌}
use Rattle.std.specs.Str.{bytes_eq}
use Rattle.am_term.specs.NameLists.{is_among}

or_later : (a b c : Bool) → (a || (b || c)) ≡ ((a || b) || c)
or_later true b c = refl
or_later false b c = refl

-- a name is in two lists together where it is in one of them
pub is_among-append : (n : List ℕ) (ms ks : List (List ℕ)) → is_among n (ms ++ ks) ≡ (is_among n ms || is_among n ks)
is_among-append n [] ks = refl
is_among-append n (m ∷ ms) ks = rw (is_among-append n ms ks) (or_later (bytes_eq n m) (is_among n ms) (is_among n ks))

pub ruleset joined_names = (is_among-append)
