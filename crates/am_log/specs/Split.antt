-- The two parts of a program with its proof: the lines in front that begin with `C`, and what stands behind them.
use Rattle.std.specs.Prelude.{◌≡◌, ◌&&◌, ◌||◌, ◌==◌, ℕ, suc, Bool, true, false, not, List, [], ◌∷◌, ◌++◌, if◌then◌else◌}

-- the byte of `C`
abbrev pub is_c : ℕ → Bool
is_c b = b == 67

abbrev pub is_no_c : ℕ → Bool
is_no_c b = not (is_c b)

-- At the start of a line, or inside one: the first byte of each line passes the test. That of an empty line is the byte
-- 10 that ends it.
abbrev pub lines_begin : (ℕ → Bool) → Bool → List ℕ → Bool
lines_begin p start [] = true
lines_begin p true (b ∷ bs) = p b && lines_begin p (b == 10) bs
lines_begin p false (b ∷ bs) = lines_begin p (b == 10) bs

-- each line begins with `C`
abbrev pub begin_with_c : List ℕ → Bool
begin_with_c t = lines_begin is_c true t

-- no line begins with `C`
abbrev pub begin_without_c : List ℕ → Bool
begin_without_c t = lines_begin is_no_c true t

-- at the start of a line, or inside one: behind these bytes a line starts
abbrev pub ends_line : Bool → List ℕ → Bool
ends_line start [] = start
ends_line start (b ∷ bs) = ends_line (b == 10) bs

abbrev pub no_bytes : List ℕ → Bool
no_bytes [] = true
no_bytes (b ∷ bs) = false

abbrev pub starts_with_c : List ℕ → Bool
starts_with_c [] = false
starts_with_c (b ∷ bs) = is_c b

-- The proof part is the longest prefix of lines that begin with `C`, the unit part is the rest: each line of the proof
-- part begins so, its last line is ended unless nothing stands behind it, and the unit part doesn't begin so.
pub record IsSplit (text proof unit : List ℕ) : Type 0 where
  pub all : text ≡ proof ++ unit
  pub lines : begin_with_c proof ≡ true
  pub ended : (no_bytes unit || ends_line true proof) ≡ true
  pub behind : starts_with_c unit ≡ false

-- ---- for a private contract: how many bytes the proof part has, at the start of a line or inside one
unfoldable pub proof_bytes : Bool → List ℕ → ℕ
proof_bytes start [] = 0
proof_bytes start (b ∷ bs) = if start && is_no_c b then 0 else suc (proof_bytes (b == 10) bs)
