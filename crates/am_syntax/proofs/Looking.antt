-- Looking names up: what stands for what, which symbol has the name, and which sort a term has.
use Rattle.std.proofs.Common.{◌≡◌, ℕ, ◌+◌, Bool, true, false, List, [], ◌∷◌, map, zero, suc, Option, Some, None, refl, ap, ◌∙◌, arith}
use Rattle.std.specs.Prelude.{option_map, slice_get, if◌then◌else◌}
use Rattle.std.specs.Str.{bytes_eq}
use Rattle.std.proofs.lemmas.Grind.{common_steps}
use Rattle.am_term.specs.declared.symbol.Symbol.{Symbol}
use Rattle.am_syntax.specs.declared.scope.Bound.{Bound}
use Rattle.am_syntax.specs.declared.scope.Standing.{Standing}
use Rattle.am_syntax.specs.declared.written.WrittenTerm.{WrittenTerm}
use Rattle.am_syntax.specs.declared.written.WrittenTerm.TheVariants.{Alone, Headed, outs-Alone, outs-Headed}
use Rattle.am_syntax.specs.declared.written.WrittenTerm.TheViews.{the_lemmas}
use Rattle.am_syntax.specs.Positions.{position_of}
use Rattle.am_syntax.specs.Scopes.{Scope, profile, standing_of, symbol_of, result_of, alone_sort}
use Rattle.am_syntax.specs.Flaws.{written_sort, sort_at}
use Rattle.am_syntax.proofs.Positions.{none_of, at_place}

abbrev standing_in : Option Bound → Option Standing
standing_in None = None
standing_in (Some b) = Some b.standing

-- what stands at the place of a name
abbrev standing_at : List Bound → Option ℕ → Option Standing
standing_at bs None = None
standing_at bs (Some k) = standing_in (slice_get bs k)

abbrev bound_names : List Bound → List (List ℕ)
bound_names = map (λ (b : Bound). b.name)

further : (b : Bound) (bs : List Bound) (r : Option ℕ) → standing_at bs r ≡ standing_at (b ∷ bs) (option_map (λ k. k + 1) r)
further b bs None = refl
further b bs (Some k) = let e : suc k ≡ k + 1 = omega arith in ap (λ (n : ℕ). standing_in (slice_get (b ∷ bs) n)) e

by_name : (t : Bool) (w : List ℕ) (b : Bound) (bs : List Bound) → standing_of w bs ≡ standing_at bs (position_of w (bound_names bs)) → (if t then Some b.standing else standing_of w bs) ≡ standing_at (b ∷ bs) (if t then Some 0 else option_map (λ k. k + 1) (position_of w (bound_names bs)))
by_name true w b bs e = refl
by_name false w b bs e = e ∙ further b bs (position_of w (bound_names bs))

-- what the first of a name stands for is found at its place
standing-placed : (w : List ℕ) (bs : List Bound) → standing_of w bs ≡ standing_at bs (position_of w (bound_names bs))
standing-placed w [] = refl
standing-placed w (b ∷ bs) = by_name (bytes_eq w b.name) w b bs (standing-placed w bs)

abbrev no_standing : Option Standing
no_standing = None

abbrev some_standing : Standing → Option Standing
some_standing x = Some x

abbrev no_bound : Option Bound
no_bound = None

abbrev some_bound : Bound → Option Bound
some_bound b = Some b

pub standing-found : (w : List ℕ) (bs : List Bound) (k : ℕ) (b : Bound) → position_of w (bound_names bs) ≡ at_place k → slice_get bs k ≡ some_bound b → standing_of w bs ≡ some_standing b.standing
standing-found w bs k b e h = standing-placed w bs ∙ ap (standing_at bs) e ∙ ap standing_in h

pub standing-past : (w : List ℕ) (bs : List Bound) (k : ℕ) → position_of w (bound_names bs) ≡ at_place k → slice_get bs k ≡ no_bound → standing_of w bs ≡ no_standing
standing-past w bs k e h = standing-placed w bs ∙ ap (standing_at bs) e ∙ ap standing_in h

pub standing-missing : (w : List ℕ) (bs : List Bound) → position_of w (bound_names bs) ≡ none_of → standing_of w bs ≡ no_standing
standing-missing w bs e = standing-placed w bs ∙ ap (standing_at bs) e

pub ruleset standings = (common_steps, standing-found, standing-past, standing-missing)

-- the symbols as data, by number
pub get-profile : (ys : List Symbol) (k : ℕ) → slice_get (map profile ys) k ≡ option_map profile (slice_get ys k)
get-profile [] k = refl
get-profile (y ∷ ys) zero = refl
get-profile (y ∷ ys) (suc k) = get-profile ys k

pub ruleset symbols = (common_steps, get-profile)

pub sort-Alone : (s : Scope) (w : List ℕ) → written_sort s (Alone w) ≡ alone_sort s w
unfolding written_sort
sort-Alone s w = ap (sort_at s) (outs-Alone w)

pub sort-Headed : (s : Scope) (h : List ℕ) (args : List WrittenTerm) → written_sort s (Headed h args) ≡ result_of (symbol_of s h)
unfolding written_sort
sort-Headed s h args = ap (sort_at s) (outs-Headed h args)

pub ruleset sorts = (common_steps, the_lemmas, sort-Alone, sort-Headed)
