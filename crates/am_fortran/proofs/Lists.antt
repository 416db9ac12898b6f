-- A list of members is written by its first member and what stands before each later one.
use Rattle.std.proofs.Common.{◌≡◌, ◌++◌, ℕ, List, [], ◌∷◌, codes, refl, sym, ◌<◌, length, arith}
use Rattle.std.proofs.lemmas.Grind.{common_steps}
use Rattle.std.specs.List.{flat_map}
use mathlib.Core.List.{append_assoc, append-nil}
use Rattle.am_fortran.specs.Joined.{separated}
use Rattle.am_fortran.specs.Text.{with_commas, continued}

pub listed-joined : (xs : List (List ℕ)) → with_commas xs ≡ separated (codes ", ") xs
unfolding with_commas separated
listed-joined [] = refl
listed-joined (x ∷ []) = sym (append-nil x)
listed-joined (x ∷ y ∷ ys) = rw (listed-joined (y ∷ ys)) (simp append_assoc)

regroup : (lead x a b y more e f : List ℕ) → ((lead ++ x ++ a) ++ b) ++ ((lead ++ (y ++ more) ++ e) ++ f) ≡ (lead ++ (x ++ (((a ++ b) ++ lead) ++ y ++ more)) ++ e) ++ f
regroup lead x a b y more e f = simp append_assoc

pub continued-joined : (x : List ℕ) (xs : List (List ℕ)) → continued (x ∷ xs) ≡ codes "     . " ++ separated (codes "," ++ 10 ∷ codes "     . ") (x ∷ xs) ++ codes ")" ++ 10 ∷ []
unfolding continued separated
continued-joined x [] = rw (append-nil x) refl
continued-joined x (y ∷ ys) = rw (continued-joined y ys)
    (regroup (codes "     . ") x (codes ",") (10 ∷ []) y (flat_map (λ z. codes "," ++ 10 ∷ codes "     . " ++ z) ys) (codes ")") (10 ∷ []))

-- the same, where the list is seen by its length
pub continued_some : (xs : List (List ℕ)) → 0 < length xs → continued xs ≡ codes "     . " ++ separated (codes "," ++ 10 ∷ codes "     . ") xs ++ codes ")" ++ 10 ∷ []
continued_some [] h = absurd (omega (arith, h))
continued_some (x ∷ xs) h = continued-joined x xs

pub continued_none : (xs : List (List ℕ)) → length xs ≡ 0 → continued xs ≡ []
unfolding continued
continued_none [] h = refl
continued_none (x ∷ xs) h = absurd (omega (arith, h))

pub ruleset list_laws = (common_steps, listed-joined, continued_some, continued_none)
