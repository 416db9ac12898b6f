use Rattle.std.proofs.Common.{◌≡◌, Some, map, take}
use Rattle.am_syntax.specs.Shapes.{term_of, all_of}
use Rattle.am_syntax.proofs.shapes.+terms.Given as goal

-- the forms so far are these terms
abbrev pub invariant-all_terms-loop-form : goal.invariant-all_terms-loop-form
invariant-all_terms-loop-form l = all_of (map (term_of l.words) (take l.form-index l.forms)) ≡ Some l.terms
