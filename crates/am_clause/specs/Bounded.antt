-- Clauses made with equal literals merged on the way, as far as none has more than so many literals.
use Rattle.std.specs.Prelude.{◌++◌, ℕ, Bool, true, false, List, [], ◌∷◌, map, length, nat_lt, Option, Some, None, if◌then◌else◌}
use Rattle.std.specs.List.{flat_map, list_any}
use Rattle.am_term.specs.declared.term.Literal.{Literal}
use Rattle.am_term.specs.declared.term.Formula.{Formula}
use Rattle.am_term.specs.Same.{same_literal}
use Rattle.am_clause.specs.declared.clause.Clause.{Clause}
use Rattle.am_clause.specs.Distinct.{with_new}
use Rattle.am_clause.specs.Merge.{merged}
use Rattle.am_clause.specs.ClauseForm.{Lists}
use Rattle.am_clause.specs.Forms.{form_of}

-- a followed by what is new there of each of the others
unfoldable pub widened_by : List Literal → Lists → Lists
widened_by a bs = map (with_new same_literal a) bs

-- for each a of the first in order and each b of the second in order, a followed by what is new there of b
unfoldable pub widened : Lists → Lists → Lists
widened as_ bs = flat_map (λ a. widened_by a bs) as_

-- a clause without an answer
abbrev pub plain : List Literal → Clause
plain ls = record { literals = ls; answer = None }

-- more than so many literals
abbrev pub is_long : ℕ → List Literal → Bool
is_long most ls = nat_lt most (length ls)

-- the clauses, unless one has more than so many literals
unfoldable pub fitted : ℕ → Lists → Option Lists
fitted most cs = if list_any (is_long most) cs then None else Some cs

-- the clauses with equal literals merged, unless one has more than so many then
unfoldable pub bounded : ℕ → Lists → Option Lists
bounded most cs = fitted most (map merged cs)

-- the first and then the second, if both are there
unfoldable pub both : Option Lists → Option Lists → Option Lists
both None bs = None
both (Some as_) None = None
both (Some as_) (Some bs) = Some (as_ ++ bs)

-- each of the first widened by each of the second, if both are there, unless one gets too long
unfoldable pub fitted_product : ℕ → Option Lists → Option Lists → Option Lists
fitted_product most None bs = None
fitted_product most (Some as_) None = None
fitted_product most (Some as_) (Some bs) = fitted most (widened as_ bs)

-- there are no clauses
unfoldable pub are_none : Lists → Bool
are_none [] = true
are_none (c ∷ cs) = false

-- one of the formulas has no clauses, or its negation has none
unfoldable pub none_among : Bool → List Formula → Bool
none_among sign fs = list_any (λ f. are_none (form_of sign f)) fs
