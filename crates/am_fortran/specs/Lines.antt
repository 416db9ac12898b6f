-- The lines of a text and their groups: a statement may go on over continuation lines.
use Rattle.std.specs.Prelude.{◌+◌, ◌==◌, ℕ, Bool, true, false, List, [], ◌∷◌, ◌++◌, length, take, codes, if◌then◌else◌}
use Rattle.std.specs.List.{flat_map, list_all, starts_with, sum_by}

-- a line without the byte 10 that ends it, and whether that byte is there
pub record Line : Type 0 where
  pub text : List ℕ
  pub ended : Bool

abbrev pub line_bytes : Line → List ℕ
line_bytes l = if l.ended then l.text ++ 10 ∷ [] else l.text

-- the lines with a byte put in front of the first
unfoldable pub onto_first : ℕ → List Line → List Line
onto_first b [] = record { text = b ∷ []; ended = false } ∷ []
onto_first b (l ∷ ls) = record { text = b ∷ l.text; ended = l.ended } ∷ ls

-- each byte 10 ends a line; what stands behind the last one is a line too, which isn't ended
unfoldable pub lines_of : List ℕ → List Line
lines_of [] = []
lines_of (b ∷ bs) = if b == 10 then record { text = []; ended = true } ∷ lines_of bs else onto_first b (lines_of bs)

-- a continuation line begins with five blanks and a full stop
abbrev pub is_continuation : Line → Bool
is_continuation l = starts_with ◌==◌ l.text (codes "     .")

abbrev pub goes_on : List Line → Bool
goes_on [] = false
goes_on (l ∷ ls) = is_continuation l

-- the groups with a line put in front of the first
unfoldable pub onto_group : Line → List (List Line) → List (List Line)
onto_group l [] = (l ∷ []) ∷ []
onto_group l (g ∷ gs) = (l ∷ g) ∷ gs

-- a group is a line and the continuation lines behind it
unfoldable pub groups : List Line → List (List Line)
groups [] = []
groups (l ∷ ls) = if goes_on ls then onto_group l (groups ls) else (l ∷ []) ∷ groups ls

abbrev pub group_text : List Line → List ℕ
group_text g = flat_map line_bytes g

-- whether each line of the group is ended
abbrev pub is_whole : List Line → Bool
is_whole g = list_all (λ (l : Line). l.ended) g

-- the number of the first line of the group at this place, from 1; of the line after the last where
-- the place is the one behind the last group
abbrev pub first_line : List (List Line) → ℕ → ℕ
first_line gs k = 1 + sum_by length (take k gs)
