use Rattle.std.proofs.Common.{◌≡◌, map, take}
use Rattle.am_syntax.specs.Scopes.{scope_of}
use Rattle.am_syntax.specs.Meaning.{term_meaning}
use Rattle.am_syntax.proofs.meaning.+terms.Given as goal

-- what the terms so far stand for
abbrev pub invariant-term_meanings-loop-term : goal.invariant-term_meanings-loop-term
invariant-term_meanings-loop-term l = l.made ≡ map (term_meaning (scope_of l.scope)) (take l.term-index l.terms)
