use Rattle.std.proofs.Common.{◌≡◌, false, take}
use Rattle.std.specs.List.{list_any}
use Rattle.am_syntax.specs.Scopes.{scope_of}
use Rattle.am_syntax.specs.Flaws.{term_has}
use Rattle.am_syntax.proofs.flaws.some_term_has.Given as goal

-- none of the terms so far has it
abbrev pub invariant-loop-term : goal.invariant-loop-term
invariant-loop-term l = list_any (term_has (scope_of l.scope) l.flaw) (take l.term-index l.terms) ≡ false
