-- Steps of the tests of declarations.
use Rattle.std.proofs.Common.{◌≡◌, ℕ, zero, suc, Bool, List, [], ◌∷◌, map, refl, ap}
use Rattle.std.specs.Prelude.{◌||◌, option_map, slice_get}
use Rattle.std.specs.List.{list_any}
use Rattle.std.proofs.lemmas.Grind.{common_steps}
use Rattle.std.proofs.lemmas.Bool.Decides.{nat_tests}
use Rattle.am_term.specs.declared.id.SortId.{SortId}
use Rattle.am_term.specs.declared.signature.Signature.{Signature}
use Rattle.am_term.specs.declared.symbol.Symbol.{Symbol}
use Rattle.am_term.specs.Sorts.{akin, akin_in}
use Rattle.am_syntax.specs.Scopes.{profile}
use Rattle.am_theory.specs.declared.declaration.Typed.{Typed}
use Rattle.am_theory.specs.Faults.{names_in}
use Rattle.am_theory.specs.Parts.{sorts_in}

-- a test of the names, or of the sorts
pub any-names : (p : List ℕ → Bool) (vs : List Typed) → list_any p (names_in vs) ≡ list_any (λ (v : Typed). p v.name) vs
any-names p [] = refl
any-names p (v ∷ vs) = ap (λ b. p v.name || b) (any-names p vs)

pub any-sorts : (p : List ℕ → Bool) (vs : List Typed) → list_any p (sorts_in vs) ≡ list_any (λ (v : Typed). p v.sort) vs
any-sorts p [] = refl
any-sorts p (v ∷ vs) = ap (λ b. p v.sort || b) (any-sorts p vs)

-- a symbol as data, by its number
pub get-profile : (ys : List Symbol) (k : ℕ) → slice_get (map profile ys) k ≡ option_map profile (slice_get ys k)
get-profile [] k = refl
get-profile (y ∷ ys) zero = refl
get-profile (y ∷ ys) (suc k) = get-profile ys k

pub akin-in : (sig : Signature) (s t : SortId) → akin sig s t ≡ akin_in sig.parents s t
unfolding akin
akin-in sig s t = refl

pub ruleset kind_steps = (common_steps, any-names, any-sorts, get-profile, akin-in)

pub ruleset limit_steps = (common_steps, nat_tests)
