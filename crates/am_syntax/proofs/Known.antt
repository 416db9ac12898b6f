-- Names of symbols that are there: their numbers and the symbols themselves.
use Rattle.std.proofs.Common.{◌≡◌, ◌∙◌, ℕ, false, refl, ap, true≢false, List, Option, Some, None, slice_get}
use Rattle.std.specs.Prelude.{is_none}
use Rattle.am_syntax.specs.Positions.{position_of}
use Rattle.am_syntax.specs.Scopes.{Scope, Profile, symbol_at, symbol_of}
use Rattle.am_syntax.specs.Meaning.{symbol_id, named_symbol}

-- the number of a name, and the symbol of this number
pub record Known (s : Scope) (w : List ℕ) : Type 0 where
  pub number : ℕ
  pub symbol : Profile
  pub found : position_of w s.names ≡ Some number
  pub there : slice_get s.symbols number ≡ Some symbol

module _ (s : Scope) (w : List ℕ) where
  by_symbol : (k : ℕ) (o : Option Profile) → position_of w s.names ≡ Some k → slice_get s.symbols k ≡ o → is_none o ≡ false → Known s w
  by_symbol k None p q e = absurd (true≢false e)
  by_symbol k (Some y) p q e = record { number = k; symbol = y; found = p; there = q }

  by_number : (o : Option ℕ) → position_of w s.names ≡ o → is_none (symbol_at s.symbols o) ≡ false → Known s w
  by_number None p e = absurd (true≢false e)
  by_number (Some k) p e = by_symbol k (slice_get s.symbols k) p refl e

  pub known : is_none (symbol_of s w) ≡ false → Known s w
  known e = by_number (position_of w s.names) refl e

  pub known-symbol : (k : Known s w) → symbol_of s w ≡ Some k.symbol
  known-symbol k = ap (symbol_at s.symbols) k.found ∙ k.there

  pub known-named : (k : Known s w) → named_symbol s w ≡ symbol_id (Some k.number)
  known-named k = ap symbol_id k.found
