use Rattle.std.proofs.Common.{◌≡◌, false, take}
use Rattle.std.specs.List.{list_any}
use Rattle.am_syntax.specs.Scopes.{scope_of}
use Rattle.am_syntax.specs.Flaws.{formula_has}
use Rattle.am_syntax.proofs.flaws.+atoms.Given as goal

-- none of the formulas so far has it
abbrev pub invariant-some_formula_has-loop-formula : goal.invariant-some_formula_has-loop-formula
invariant-some_formula_has-loop-formula l = list_any (formula_has (scope_of l.scope) l.flaw) (take l.formula-index l.formulas) ≡ false
