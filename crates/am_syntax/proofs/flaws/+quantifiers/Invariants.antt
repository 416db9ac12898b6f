use Rattle.std.proofs.Common.{◌≡◌, false, take}
use Rattle.std.specs.List.{list_any}
use Rattle.am_syntax.specs.Flaws.{has_quantifier}
use Rattle.am_syntax.proofs.flaws.+quantifiers.Given as goal

-- none of the formulas so far has one
abbrev pub invariant-some_has_quantifier-loop-formula : goal.invariant-some_has_quantifier-loop-formula
invariant-some_has_quantifier-loop-formula l = list_any has_quantifier (take l.formula-index l.formulas) ≡ false
