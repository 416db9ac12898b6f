-- The four cases in which one term is greater than another, over whole terms.
use Rattle.std.specs.Prelude.{◌&&◌, ◌||◌, Bool, false, List, [], ◌∷◌, if◌then◌else◌}
use Rattle.std.specs.List.{list_any, list_all}
use Rattle.am_term.specs.declared.signature.Signature.{Signature}
use Rattle.am_term.specs.declared.term.Term.{Term}
use Rattle.am_term.specs.declared.term.Term.TheViews.{out-Term}
use Rattle.am_term.specs.Place.{args_of}
use Rattle.am_term.specs.Same.{same_term}
use Rattle.am_order.specs.Precedence.{head_above, same_head}
use Rattle.am_order.specs.Order.{greater}

-- a is t or greater than it
abbrev pub reaches : Signature → Term → Term → Bool
reaches sig a t = same_term a t || greater sig a t

-- some of the terms is t or greater than it
abbrev pub some_reaches : Signature → List Term → Term → Bool
some_reaches sig ts t = list_any (λ a. reaches sig a t) ts

-- s is greater than each of the terms
abbrev pub exceeds_all : Signature → Term → List Term → Bool
exceeds_all sig s = list_all (greater sig s)

-- at the first place where two lists differ, the term of the first list is greater
abbrev pub first_greater : Signature → List Term → List Term → Bool
first_greater sig [] us = false
first_greater sig (a ∷ as_) [] = false
first_greater sig (a ∷ as_) (u ∷ us) = if same_term a u then first_greater sig as_ us else greater sig a u

-- some argument of s is t or greater than it
abbrev pub by_part : Signature → Term → Term → Bool
by_part sig s t = some_reaches sig (args_of s) t

-- the head of s stands above that of t, and s is greater than each argument of t
abbrev pub by_head : Signature → Term → Term → Bool
by_head sig s t = head_above sig (out-Term s) (out-Term t) && exceeds_all sig s (args_of t)

-- the heads are the same, s is greater than each argument of t, and at the first place where the
-- arguments differ that of s is greater
abbrev pub by_arguments : Signature → Term → Term → Bool
by_arguments sig s t = same_head (out-Term s) (out-Term t) && exceeds_all sig s (args_of t) && first_greater sig (args_of s) (args_of t)
