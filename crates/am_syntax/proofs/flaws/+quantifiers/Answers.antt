-- Each kind of formula is by its equation, and each step of the loop is one more formula.
use Rattle.std.proofs.Common.{arith}
use Rattle.am_syntax.proofs.FormulaSteps.{quantifiers}
use Rattle.am_syntax.proofs.flaws.+quantifiers.Goals as goal

pub has_quantifier-returns-in-Atom : goal.has_quantifier-returns-in-Atom
has_quantifier-returns-in-Atom t c = grind (arith, quantifiers)

pub has_quantifier-returns-in-Not : goal.has_quantifier-returns-in-Not
has_quantifier-returns-in-Not t c = grind (arith, quantifiers)

pub has_quantifier-returns-in-And : goal.has_quantifier-returns-in-And
has_quantifier-returns-in-And t c = grind (arith, quantifiers)

pub has_quantifier-returns-in-Or : goal.has_quantifier-returns-in-Or
has_quantifier-returns-in-Or t c = grind (arith, quantifiers)

pub has_quantifier-returns-in-Quantified : goal.has_quantifier-returns-in-Quantified
has_quantifier-returns-in-Quantified t c = grind (arith, quantifiers)

pub some_has_quantifier-loop-formula-preserved : goal.some_has_quantifier-loop-formula-preserved
some_has_quantifier-loop-formula-preserved t c = grind (arith, quantifiers)

pub some_has_quantifier-returns-then-has_quantifier : goal.some_has_quantifier-returns-then-has_quantifier
some_has_quantifier-returns-then-has_quantifier t c = grind (arith, quantifiers)
