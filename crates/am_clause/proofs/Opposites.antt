-- Searching the literals of a clause.
use Rattle.std.proofs.Common.{◌≡◌, ◌||◌, ◌+◌, ◌<◌, ℕ, true, false, Bool, refl, List, [], length, take, get_or}
use Rattle.std.specs.List.{list_any}
use Rattle.std.proofs.lemmas.Grind.{common_steps}
use Rattle.std.proofs.lemmas.List.Folds.{list_any_more, list_any_at}
use Rattle.am_term.specs.declared.term.Literal.{Literal}
use Rattle.am_clause.specs.Tautology.{opposite, has_opposites}

-- the first literals have no opposite in the whole list
unfoldable pub opposites_to : List Literal → List Literal → Bool
opposites_to whole ls = list_any (λ l. list_any (opposite l) whole) ls

pub opposites-none : (whole : List Literal) → opposites_to whole [] ≡ false
unfolding opposites_to
opposites-none whole = refl

pub opposites-all : (whole : List Literal) → has_opposites whole ≡ opposites_to whole whole
unfolding opposites_to has_opposites
opposites-all whole = refl

pub opposites-here : (whole ls : List Literal) (i : ℕ) (d : Literal) → i < length ls → list_any (opposite (get_or ls i d)) whole ≡ true → opposites_to whole ls ≡ true
unfolding opposites_to
opposites-here whole ls i d h e = list_any_at (λ l. list_any (opposite l) whole) ls i d h e

pub opposites-more : (whole ls : List Literal) (i : ℕ) (d : Literal) → i < length ls → opposites_to whole (take (i + 1) ls) ≡ (opposites_to whole (take i ls) || list_any (opposite (get_or ls i d)) whole)
unfolding opposites_to
opposites-more whole ls i d h = list_any_more (λ l. list_any (opposite l) whole) ls i d h

pub ruleset searching = (common_steps, list_any_more, list_any_at, opposites-none, opposites-all, opposites-here, opposites-more)
