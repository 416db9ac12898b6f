-- Which formulas are well sorted: those of which each atom is.
use Rattle.std.specs.Prelude.{◌&&◌, Bool, List}
use Rattle.std.specs.List.{list_all}
use Rattle.am_term.specs.declared.id.SortId.{SortId}
use Rattle.am_term.specs.declared.signature.Signature.{Signature}
use Rattle.am_term.specs.declared.term.Formula.{Formula}
use Rattle.am_term.specs.declared.term.Formula.TheOpen.{Formula-F}
use Rattle.am_term.specs.declared.term.Formula.TheFolds.{fold-Formula}
use Rattle.am_term.specs.Sorting.{is_sorted_atom}

-- the same of one connective, where it is known of its parts
abbrev pub sorted_step : Signature → List SortId → Formula-F Bool → Bool
sorted_step sig ins (Formula-F.Atom a) = is_sorted_atom sig ins a
sorted_step sig ins (Formula-F.Not b) = b
sorted_step sig ins (Formula-F.And bs) = list_all (λ b. b) bs
sorted_step sig ins (Formula-F.Or bs) = list_all (λ b. b) bs
sorted_step sig ins (Formula-F.Implies b c) = b && c
sorted_step sig ins (Formula-F.Iff b c) = b && c

-- each atom of the formula is well sorted, for inputs of these sorts
unfoldable pub is_sorted_formula : Signature → List SortId → Formula → Bool
is_sorted_formula sig ins = fold-Formula Bool (sorted_step sig ins)
