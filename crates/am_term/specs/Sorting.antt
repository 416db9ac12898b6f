-- Which sort a term has, and which atoms, literals and formulas are well sorted.
use Rattle.std.specs.Prelude.{◌≡◌, ◌&&◌, ℕ, Bool, true, false, Option, Some, None, List, [], ◌∷◌, map, length, slice_get, nat_lt, is_none, if◌then◌else◌, IsTrue}
use Rattle.am_term.specs.declared.id.SortId.{SortId}
use Rattle.am_term.specs.declared.id.SymId.{SymId}
use Rattle.am_term.specs.declared.symbol.Symbol.{Symbol}
use Rattle.am_term.specs.declared.signature.Signature.{Signature}
use Rattle.am_term.specs.declared.term.Term.{Term}
use Rattle.am_term.specs.declared.term.Term.TheOpen.{Term-F}
use Rattle.am_term.specs.declared.term.Term.TheVariants.{Var, In, App}
use Rattle.am_term.specs.declared.term.Term.TheFolds.{fold-Term}
use Rattle.am_term.specs.declared.term.Atom.{Atom}
use Rattle.am_term.specs.declared.term.Atom.TheVariants.{Rel, Eq}
use Rattle.am_term.specs.declared.term.Literal.{Literal}
use Rattle.am_term.specs.Fold.{fold-Var, fold-In, fold-App}
use Rattle.am_term.specs.Instance.{instance}
use Rattle.am_term.specs.Sorts.{fits, akin}
use Rattle.am_term.specs.Variables.{occurs}

-- a sort is there, and fits the place
abbrev pub fits_place : Signature → Option SortId → SortId → Bool
fits_place sig None place = false
fits_place sig (Some s) place = fits sig s place

-- as many sorts as places, and each fits its place
abbrev pub fit_places : Signature → List (Option SortId) → List SortId → Bool
fit_places sig [] [] = true
fit_places sig [] (p ∷ ps) = false
fit_places sig (s ∷ ss) [] = false
fit_places sig (s ∷ ss) (p ∷ ps) = fits_place sig s p && fit_places sig ss ps

-- the result sort of a symbol at arguments of these sorts; a relation has none
abbrev pub result_at : Signature → Option Symbol → List (Option SortId) → Option SortId
result_at sig None sorts = None
result_at sig (Some y) sorts = if fit_places sig sorts y.args then y.result else None

abbrev pub sort_step : Signature → List SortId → Term-F (Option SortId) → Option SortId
sort_step sig ins (Term-F.Var n s) = if nat_lt s.0 (length sig.sorts) then Some s else None
sort_step sig ins (Term-F.In k) = slice_get ins k
sort_step sig ins (Term-F.App f sorts) = result_at sig (slice_get sig.symbols f.0) sorts

-- A variable has its sort, if that is one of the signature. An input has the sort listed for it. A
-- symbol at as many terms as it has places has its result sort, if it is no relation and the sort of
-- each term fits that of its place. Anything else has no sort.
unfoldable pub sort_of : Signature → List SortId → Term → Option SortId
sort_of sig ins = fold-Term (Option SortId) (sort_step sig ins)

abbrev pub sorts_of : Signature → List SortId → List Term → List (Option SortId)
sorts_of sig ins = map (sort_of sig ins)

pub sort_of-Var : (sig : Signature) (ins : List SortId) (n : ℕ) (s : SortId) → sort_of sig ins (Var n s) ≡ (if nat_lt s.0 (length sig.sorts) then Some s else None)
unfolding sort_of
sort_of-Var sig ins = fold-Var (Option SortId) (sort_step sig ins)

pub sort_of-In : (sig : Signature) (ins : List SortId) (k : ℕ) → sort_of sig ins (In k) ≡ slice_get ins k
unfolding sort_of
sort_of-In sig ins = fold-In (Option SortId) (sort_step sig ins)

pub sort_of-App : (sig : Signature) (ins : List SortId) (f : SymId) (args : List Term) → sort_of sig ins (App f args) ≡ result_at sig (slice_get sig.symbols f.0) (sorts_of sig ins args)
unfolding sort_of
sort_of-App sig ins = fold-App (Option SortId) (sort_step sig ins)

pub ruleset sort_laws = (sort_of-Var, sort_of-In, sort_of-App)

-- both sides have a sort, and these are akin
abbrev pub are_akin : Signature → Option SortId → Option SortId → Bool
are_akin sig None t = false
are_akin sig (Some s) None = false
are_akin sig (Some s) (Some t) = akin sig s t

-- a symbol is a relation whose places the sorts fit
abbrev pub relates : Signature → Option Symbol → List (Option SortId) → Bool
relates sig None sorts = false
relates sig (Some y) sorts = is_none y.result && fit_places sig sorts y.args

-- The sorts of a relation's arguments fit its places; the sorts of the sides of an equation are akin.
abbrev pub is_sorted_atom : Signature → List SortId → Atom → Bool
is_sorted_atom sig ins (Rel r args) = relates sig (slice_get sig.symbols r.0) (sorts_of sig ins args)
is_sorted_atom sig ins (Eq left right) = are_akin sig (sort_of sig ins left) (sort_of sig ins right)

abbrev pub is_sorted_literal : Signature → List SortId → Literal → Bool
is_sorted_literal sig ins l = is_sorted_atom sig ins l.atom

-- the term has a sort, and that fits s
abbrev pub term_fits : Signature → List SortId → Term → SortId → Bool
term_fits sig ins t s = fits_place sig (sort_of sig ins t) s

-- each variable that occurs in the term becomes, in its instance, a term whose sort fits that of the variable
abbrev pub KeepsSorts : Signature → List SortId → List Term → Term → Type 0
KeepsSorts sig ins with t = (n : ℕ) (s : SortId) → IsTrue (occurs n s t) → IsTrue (term_fits sig ins (instance with (Var n s)) s)
