-- Where a name first stands among names, and what stands at a place.
use Rattle.std.specs.Prelude.{ℕ, suc, Bool, true, false, Option, Some, None, List, [], ◌∷◌, slice_get, option_map, if◌then◌else◌}
use Rattle.std.specs.Str.{bytes_eq}
use Rattle.am_fortran.specs.declared.statement.FortranType.{FortranType}
use Rattle.am_fortran.specs.declared.statement.Decl.{Decl}

-- how many names stand before the first that is this one
abbrev pub first_place : List ℕ → List (List ℕ) → Option ℕ
first_place n [] = None
first_place n (m ∷ ms) = if bytes_eq n m then Some 0 else option_map suc (first_place n ms)

-- the place that is there, or else this one where the test is met
abbrev pub or_at : Option ℕ → Bool → ℕ → Option ℕ
or_at (Some k) b at = Some k
or_at None true at = Some at
or_at None false at = None

-- the type that is declared at a place, if there is one
abbrev pub type_at : List Decl → Option ℕ → Option FortranType
type_at es None = None
type_at es (Some k) = option_map (λ (e : Decl). e.ty) (slice_get es k)
