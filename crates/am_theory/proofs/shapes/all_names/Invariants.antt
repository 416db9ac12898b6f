use Rattle.std.proofs.Common.{◌≡◌, Some, map, take}
use Rattle.am_syntax.specs.Shapes.{all_of}
use Rattle.am_theory.specs.Declarations.{name_of}
use Rattle.am_theory.proofs.shapes.all_names.Given as goal

-- the forms so far are these names
abbrev pub invariant-loop-form : goal.invariant-loop-form
invariant-loop-form l = all_of (map name_of (take l.form-index l.forms)) ≡ Some l.names
