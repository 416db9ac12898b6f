use Rattle.std.proofs.Common.{◌≡◌, map, take}
use Rattle.am_syntax.specs.Naming.{naming_of, named_formula}
use Rattle.am_syntax.proofs.naming.+formulas.Given as goal

-- the formulas so far as they are written
abbrev pub invariant-named_formulas-loop-formula : goal.invariant-named_formulas-loop-formula
invariant-named_formulas-loop-formula l = l.made ≡ map (named_formula (naming_of l.naming)) (take l.formula-index l.formulas)
