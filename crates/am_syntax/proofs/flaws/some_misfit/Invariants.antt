use Rattle.std.proofs.Common.{◌≡◌, drop}
use Rattle.am_syntax.specs.Scopes.{scope_of}
use Rattle.am_syntax.specs.Flaws.{some_misfit, written_sorts}
use Rattle.am_syntax.proofs.flaws.some_misfit.Given as goal

-- what is left decides
abbrev pub invariant-loop-i : goal.invariant-loop-i
invariant-loop-i l = some_misfit (scope_of l.scope).parents (written_sorts (scope_of l.scope) l.terms) l.places ≡ some_misfit (scope_of l.scope).parents (written_sorts (scope_of l.scope) (drop l.i l.terms)) (drop l.i l.places)
