use Rattle.std.proofs.Common.{◌≡◌, Some, map, take}
use Rattle.am_syntax.specs.Shapes.{all_of}
use Rattle.am_theory.specs.Declarations.{typed_of}
use Rattle.am_theory.proofs.shapes.all_typed.Given as goal

-- the forms so far are these
abbrev pub invariant-loop-form : goal.invariant-loop-form
invariant-loop-form l = all_of (map typed_of (take l.form-index l.forms)) ≡ Some l.all
