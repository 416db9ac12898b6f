use Rattle.std.proofs.Common.{◌≡◌, map, take}
use Rattle.am_syntax.specs.Naming.{naming_of, named_term}
use Rattle.am_syntax.proofs.naming.+terms.Given as goal

-- the terms so far as they are written
abbrev pub invariant-named_terms-loop-term : goal.invariant-named_terms-loop-term
invariant-named_terms-loop-term l = l.made ≡ map (named_term (naming_of l.naming)) (take l.term-index l.terms)
