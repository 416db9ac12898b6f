-- The first fault of a row without its parents' instances.
use Rattle.std.proofs.Common.{◌≡◌, refl, Option, Some, None}
use Rattle.std.proofs.lemmas.Bool.Decides.{nat_tests}
use Rattle.std.proofs.lemmas.Grind.{common_steps}
use Rattle.am_term.specs.declared.term.Atom.{Atom}
use Rattle.am_term.specs.declared.term.Atom.TheVariants.{Rel, Eq}
use Rattle.am_term.specs.declared.term.Literal.{Literal}
use Rattle.am_clause.specs.Rules.{equates_sides, has_equal_sides, side_at, are_one, side_of}
use Rattle.am_clause.specs.declared.row.Side.TheVariants.{Left, Right}
use Rattle.am_calculus.proofs.Lists.{member-map}
use Rattle.am_calculus.proofs.Outgrown.{wrong-alone, wrong-paired}
use Rattle.am_calculus.proofs.PartsBound.{side-at-bound}

sides-of : (a : Atom) → has_equal_sides a ≡ are_one (side_of Left a) (side_of Right a)
sides-of (Rel r args) = refl
sides-of (Eq left right) = refl

pub sides-are : (o : Option Literal) → equates_sides o ≡ are_one (side_at Left o) (side_at Right o)
sides-are None = refl
sides-are (Some l) = sides-of l.atom

pub ruleset judging = (common_steps, nat_tests, member-map, side-at-bound, sides-are, wrong-alone, wrong-paired)
