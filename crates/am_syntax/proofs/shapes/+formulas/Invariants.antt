use Rattle.std.proofs.Common.{◌≡◌, Some, map, take}
use Rattle.am_syntax.specs.Shapes.{formula_of, all_of}
use Rattle.am_syntax.proofs.shapes.+formulas.Given as goal

-- the forms so far are these formulas
abbrev pub invariant-all_formulas-loop-form : goal.invariant-all_formulas-loop-form
invariant-all_formulas-loop-form l = all_of (map (formula_of l.words) (take l.form-index l.forms)) ≡ Some l.formulas
