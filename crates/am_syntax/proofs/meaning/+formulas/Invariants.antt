use Rattle.std.proofs.Common.{◌≡◌, map, take}
use Rattle.am_syntax.specs.Scopes.{scope_of}
use Rattle.am_syntax.specs.Meaning.{formula_meaning}
use Rattle.am_syntax.proofs.meaning.+formulas.Given as goal

-- what the formulas so far stand for
abbrev pub invariant-formula_meanings-loop-formula : goal.invariant-formula_meanings-loop-formula
invariant-formula_meanings-loop-formula l = l.made ≡ map (formula_meaning (scope_of l.scope)) (take l.formula-index l.formulas)
