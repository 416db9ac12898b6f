-- The groups of a proof's bytes, and of which text a group is the lines.
use Rattle.std.specs.Prelude.{◌≡◌, ◌&&◌, ◌==◌, ℕ, Bool, true, not, List, [], ◌∷◌, codes, if◌then◌else◌}
use Rattle.std.specs.List.{starts_with, list_all}
use Rattle.am_log.specs.Cut.{wrapped, cut, width, pieced_together}

-- a group ends behind a byte 10 after which no `C+` stands
abbrev pub ends_group : ℕ → List ℕ → Bool
ends_group b behind = b == 10 && not (starts_with ◌==◌ behind (codes "C+"))

abbrev pub onto_first : ℕ → List (List ℕ) → List (List ℕ)
onto_first b [] = (b ∷ []) ∷ []
onto_first b (g ∷ gs) = (b ∷ g) ∷ gs

-- a group is a line with the lines behind it that begin with `C+`
unfoldable pub groups : List ℕ → List (List ℕ)
groups [] = []
groups (b ∷ bs) = if ends_group b bs then (b ∷ []) ∷ groups bs else onto_first b (groups bs)

-- a byte that ends no line
abbrev pub is_inside : ℕ → Bool
is_inside b = not (b == 10)

-- The group is the lines of this text: the text has no end of a line in it, its pieces join to it, and the group is the
-- first of them behind `C `, the others behind `C+`, each line ended.
pub record Wraps (group text : List ℕ) : Type 0 where
  pub inside : list_all is_inside text ≡ true
  pub whole : pieced_together (cut width text) ≡ text
  pub lines_are : group ≡ wrapped text

-- the group is the lines of no text
abbrev pub WrapsNothing : List ℕ → Type 0
WrapsNothing g = (t : List ℕ) → Wraps g t → ⊥
