-- A list with one member replaced is what stands before it, the new one, and what stands behind.
use Rattle.std.proofs.Common.{◌≡◌, ◌∙◌, ◌++◌, ◌+◌, ◌<◌, ℕ, sym, ap, List, ◌∷◌, take, drop, set, length}
use Rattle.std.proofs.lemmas.Grind.{common_steps}
use Rattle.std.proofs.lemmas.List.{drop-set, take-append-drop, take-set}

pub set-split : {X : Type 0} (xs : List X) (i : ℕ) (y : X) → i < length xs → take i xs ++ y ∷ drop (i + 1) xs ≡ set xs i y
set-split xs i y h = ap (λ zs. zs ++ y ∷ drop (i + 1) xs) (sym (take-set xs i y)) ∙ (ap (λ zs. take i (set xs i y) ++ zs) (sym (drop-set xs i y h)) ∙ take-append-drop i (set xs i y))

pub ruleset splitting = (common_steps, set-split)
