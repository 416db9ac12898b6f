-- Which sort fits which: sorts form a forest, and a sort fits those above it.
use Rattle.std.specs.Prelude.{◌||◌, ◌==◌, ℕ, zero, suc, Bool, false, Option, Some, None, List, slice_get, nat_lt, if◌then◌else◌}
use Rattle.am_term.specs.declared.id.SortId.{SortId}
use Rattle.am_term.specs.declared.signature.Signature.{Signature}

-- one and the same sort
abbrev pub same_sort : SortId → SortId → Bool
same_sort s t = s.0 == t.0

-- what a list of parents says of a sort, if that stands before the sort: a signature keeps that it does
abbrev pub below : SortId → Option (Option SortId) → Option SortId
below s None = None
below s (Some None) = None
below s (Some (Some p)) = if nat_lt p.0 s.0 then Some p else None

-- the parent of a sort, by the list of parents
abbrev pub parent_in : List (Option SortId) → SortId → Option SortId
parent_in parents s = below s (slice_get parents s.0)

-- the parent of a sort
abbrev pub parent : Signature → SortId → Option SortId
parent sig s = parent_in sig.parents s

-- the test at a sort's parent, or else
abbrev pub at_parent : {A : Type 0} → Option SortId → (SortId → A) → A → A
at_parent None f else_ = else_
at_parent (Some p) f else_ = f p

-- s is t, or the parent of s fits t; n counts the sorts that may still stand above s
abbrev pub fits_within : List (Option SortId) → ℕ → SortId → SortId → Bool
fits_within parents zero s t = same_sort s t
fits_within parents (suc n) s t = same_sort s t || at_parent (parent_in parents s) (λ p. fits_within parents n p t) false

-- s is t, or the parent of s fits t. No more sorts stand above s than its number says
unfoldable pub fits_in : List (Option SortId) → SortId → SortId → Bool
fits_in parents s t = fits_within parents s.0 s t

-- the same over the parents of a signature
unfoldable pub fits : Signature → SortId → SortId → Bool
fits sig s t = fits_in sig.parents s t

-- the sort without a parent that stands above s
abbrev pub root_within : List (Option SortId) → ℕ → SortId → SortId
root_within parents zero s = s
root_within parents (suc n) s = at_parent (parent_in parents s) (root_within parents n) s

unfoldable pub root_in : List (Option SortId) → SortId → SortId
root_in parents s = root_within parents s.0 s

unfoldable pub root : Signature → SortId → SortId
root sig s = root_in sig.parents s

-- s and t have one root
unfoldable pub akin_in : List (Option SortId) → SortId → SortId → Bool
akin_in parents s t = same_sort (root_in parents s) (root_in parents t)

-- the same over the parents of a signature
unfoldable pub akin : Signature → SortId → SortId → Bool
akin sig s t = akin_in sig.parents s t
