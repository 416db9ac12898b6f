-- The parts of a term. A node is a term with one thing of any kind in the place of each argument.
use Rattle.std.specs.Prelude.{◌&&◌, ◌||◌, ℕ, suc, Bool, not, List, [], ◌∷◌, if◌then◌else◌}
use Rattle.std.specs.List.{list_any}
use Rattle.am_term.specs.declared.term.Term.{Term}
use Rattle.am_term.specs.declared.term.Term.TheOpen.{Term-F}
use Rattle.am_term.specs.declared.term.Term.TheViews.{roll-Term}
use Rattle.am_term.specs.declared.term.Term.TheFolds.{map-Term, para-Term}
use Rattle.am_term.specs.Same.{same_term}
use Rattle.am_term.specs.Variables.{is_variable}

-- what stands in the places of a node's arguments; a variable and an input have none
abbrev pub arguments_of_node : {X : Type 0} → Term-F X → List X
arguments_of_node (Term-F.Var n s) = []
arguments_of_node (Term-F.In k) = []
arguments_of_node (Term-F.App f xs) = xs

-- the term of a node in which each argument comes with something
abbrev pub whole : {A : Type 0} → Term-F (Term × A) → Term
whole {A = A} x = roll-Term (map-Term (Term × A) Term (λ y. y.0) x)

abbrev pub part_step : Term → Term-F (Term × Bool) → Bool
part_step t x = same_term t (whole x) || list_any (λ y. y.1) (arguments_of_node x)

-- t is a part of s: it is s, or a part of some argument of s
unfoldable pub is_part : Term → Term → Bool
is_part t = para-Term Bool (part_step t)

-- t is a variable that occurs in s and isn't s
abbrev pub inner_variable : Term → Term → Bool
inner_variable t s = is_variable t && is_part t s && not (same_term t s)

-- how many terms two lists have in common from the front
abbrev pub common_front : List Term → List Term → ℕ
common_front [] us = 0
common_front (a ∷ as_) [] = 0
common_front (a ∷ as_) (u ∷ us) = if same_term a u then suc (common_front as_ us) else 0
