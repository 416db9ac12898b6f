-- The recursive path order with lexicographic status: which term is greater than which.
use Rattle.std.specs.Prelude.{◌&&◌, ◌||◌, Bool, false, List, [], ◌∷◌}
use Rattle.std.specs.List.{list_any, list_all}
use Rattle.am_term.specs.declared.signature.Signature.{Signature}
use Rattle.am_term.specs.declared.term.Term.{Term}
use Rattle.am_term.specs.declared.term.Term.TheOpen.{Term-F}
use Rattle.am_term.specs.declared.term.Term.TheFolds.{para-Term}
use Rattle.am_term.specs.Same.{same_term}
use Rattle.am_order.specs.Precedence.{head_above, same_head}
use Rattle.am_order.specs.Parts.{arguments_of_node, inner_variable, whole}

-- an argument of the left term, and what it is greater than
abbrev pub LeftArgument : Type 0
LeftArgument = Term × (Term → Bool)

-- an argument of the right term, and whether the left term is greater than it
abbrev pub RightArgument : Type 0
RightArgument = Term × Bool

-- the left one of the first arguments is greater, or they are the same and so on with the rest
abbrev pub first_left : List LeftArgument → List RightArgument → Bool
first_left [] us = false
first_left (a ∷ as_) [] = false
first_left (a ∷ as_) (u ∷ us) = a.1 u.0 || (same_term a.0 u.0 && first_left as_ us)

-- The left term is greater than the right one in four cases. The right one is a variable that occurs
-- in the left one and isn't it. Some argument of the left one is the right one or greater than it. The
-- head of the left one stands above that of the right one, and the left one is greater than each
-- argument of the right one. The heads are the same, the left one is greater than each argument of the
-- right one, and at the first place where the arguments differ that of the left one is greater.
abbrev pub compared : Signature → Term-F LeftArgument → Term-F RightArgument → Bool
compared sig x y =
    inner_variable (whole y) (whole x)
    || list_any (λ a. same_term a.0 (whole y) || a.1 (whole y)) (arguments_of_node x)
    || (head_above sig x y && list_all (λ u. u.1) (arguments_of_node y))
    || (same_head x y && list_all (λ u. u.1) (arguments_of_node y) && first_left (arguments_of_node x) (arguments_of_node y))

abbrev pub greater_step : Signature → Term-F LeftArgument → Term → Bool
greater_step sig x = para-Term Bool (compared sig x)

-- `greater sig s t`: s is greater than t under the precedence of the signature
unfoldable pub greater : Signature → Term → Term → Bool
greater sig = para-Term (Term → Bool) (greater_step sig)
