-- How a text is cut into pieces, and the lines that the pieces stand on.
use Rattle.std.specs.Prelude.{◌≡◌, ◌==◌, ◌<◌, ◌≤◌, ℕ, zero, suc, Bool, false, List, [], ◌∷◌, ◌++◌, length, take, drop, codes, if◌then◌else◌}

-- a byte in front of a prefix of this length; the blank is the byte 32
abbrev pub reach : ℕ → ℕ → ℕ
reach b zero = if b == 32 then 0 else 1
reach b (suc n) = suc (suc n)

-- the length of the longest prefix that has at most w bytes and doesn't end with a blank
unfoldable pub longest : ℕ → List ℕ → ℕ
longest zero t = 0
longest (suc w) [] = 0
longest (suc w) (b ∷ bs) = reach b (longest w bs)

-- a piece of this length, and what is made of the text behind it; nothing where the length is 0
abbrev pub split_at : ℕ → List ℕ → (List ℕ → List (List ℕ)) → List (List ℕ)
split_at zero t behind = []
split_at (suc n) t behind = take (suc n) t ∷ behind (drop (suc n) t)

-- at most f pieces, each the longest prefix of what is left
unfoldable pub cut_within : ℕ → ℕ → List ℕ → List (List ℕ)
cut_within w zero t = []
cut_within w (suc f) t = split_at (longest w t) t (cut_within w f)

-- The pieces of a text: each is the longest prefix of what is left that has at most w bytes and doesn't end with a
-- blank. Where what is left begins with w blanks, or has blanks alone, there is no further piece.
unfoldable pub cut : ℕ → List ℕ → List (List ℕ)
cut w t = cut_within w (length t) t

-- the texts one behind another
abbrev pub pieced_together : List (List ℕ) → List ℕ
pieced_together [] = []
pieced_together (p ∷ ps) = p ++ pieced_together ps

-- ---- the rule of the cut, as a condition on pieces
-- whether the last byte is a blank, behind a blank or behind something else
abbrev pub ends_with_blank : Bool → List ℕ → Bool
ends_with_blank blank [] = blank
ends_with_blank blank (b ∷ bs) = ends_with_blank (b == 32) bs

-- a prefix of the text that has at most w bytes and doesn't end with a blank
pub record IsPrefix (w : ℕ) (t p : List ℕ) : Type 0 where
  pub behind : List ℕ
  pub front : t ≡ p ++ behind
  pub short : length p ≤ w
  pub solid : ends_with_blank false p ≡ false

-- the longest of them, where it isn't empty
pub record IsPiece (w : ℕ) (t p : List ℕ) : Type 0 where
  pub prefix : IsPrefix w t p
  pub some : 0 < length p
  pub most : (q : List ℕ) → IsPrefix w t q → length q ≤ length p

-- each piece is one of what is left, and nothing is left behind the last
abbrev pub IsCut : ℕ → List ℕ → List (List ℕ) → Type 0
IsCut w t [] = t ≡ []
IsCut w t (p ∷ ps) = IsPiece w t p × IsCut w (drop (length p) t) ps

-- ---- lines
-- how many bytes of a piece stand on a line
abbrev pub width : ℕ
width = 70

-- each further piece on a line behind `C+`
abbrev pub further_lines : List (List ℕ) → List ℕ
further_lines [] = []
further_lines (p ∷ ps) = codes "C+" ++ (p ++ 10 ∷ further_lines ps)

-- the first piece on a line behind `C `
abbrev pub piece_lines : List (List ℕ) → List ℕ
piece_lines [] = []
piece_lines (p ∷ ps) = codes "C " ++ (p ++ 10 ∷ further_lines ps)

-- the lines of a row's text
abbrev pub wrapped : List ℕ → List ℕ
wrapped t = piece_lines (cut width t)
