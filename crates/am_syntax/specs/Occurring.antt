-- Which variables occur in an atom or a formula. A variable is its number and its sort.
use Rattle.std.specs.Prelude.{◌||◌, ℕ, Bool}
use Rattle.std.specs.List.{list_any}
use Rattle.am_term.specs.declared.id.SortId.{SortId}
use Rattle.am_term.specs.declared.term.Atom.{Atom}
use Rattle.am_term.specs.declared.term.Atom.TheVariants.{Rel, Eq}
use Rattle.am_term.specs.declared.term.Formula.{Formula}
use Rattle.am_term.specs.declared.term.Formula.TheOpen.{Formula-F}
use Rattle.am_term.specs.declared.term.Formula.TheFolds.{fold-Formula}
use Rattle.am_term.specs.Variables.{occurs}

-- the variable n of sort s occurs in an argument, or in a side
abbrev pub occurs_in_atom : ℕ → SortId → Atom → Bool
occurs_in_atom n s (Rel r args) = list_any (occurs n s) args
occurs_in_atom n s (Eq left right) = occurs n s left || occurs n s right

abbrev pub occurs_in_step : ℕ → SortId → Formula-F Bool → Bool
occurs_in_step n s (Formula-F.Atom a) = occurs_in_atom n s a
occurs_in_step n s (Formula-F.Not b) = b
occurs_in_step n s (Formula-F.And bs) = list_any (λ b. b) bs
occurs_in_step n s (Formula-F.Or bs) = list_any (λ b. b) bs
occurs_in_step n s (Formula-F.Implies b c) = b || c
occurs_in_step n s (Formula-F.Iff b c) = b || c

-- the variable n of sort s occurs in some atom of the formula
unfoldable pub occurs_in_formula : ℕ → SortId → Formula → Bool
occurs_in_formula n s = fold-Formula Bool (occurs_in_step n s)
