use Rattle.std.proofs.Common.{◌≡◌, map, take}
use Rattle.am_syntax.specs.Scopes.{scope_of}
use Rattle.am_syntax.specs.Meaning.{literal_meaning}
use Rattle.am_diagram.proofs.adding.literal_meanings.Given as goal

abbrev pub invariant-loop-literal : goal.invariant-loop-literal
invariant-loop-literal l = l.made ≡ map (literal_meaning (scope_of l.scope)) (take l.literal-index l.literals)
