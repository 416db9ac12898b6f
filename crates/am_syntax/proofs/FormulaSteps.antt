-- What is wrong with a formula is so with one of its parts.
use Rattle.std.proofs.lemmas.Grind.{common_steps}
use Rattle.std.proofs.lemmas.List.Folds.{list_any_more, list_any_at}
use Rattle.am_syntax.specs.declared.written.WrittenFormula.TheViews.{the_lemmas}
use Rattle.am_syntax.proofs.Equations.{formula_has-Atom, formula_has-Not, formula_has-And, formula_has-Or, formula_has-Implies, formula_has-Iff, formula_has-Quantified, has_quantifier-Atom, has_quantifier-Not, has_quantifier-And, has_quantifier-Or, has_quantifier-Implies, has_quantifier-Iff, has_quantifier-Quantified}

pub ruleset formula_flaws = (common_steps, the_lemmas, formula_has-Atom, formula_has-Not, formula_has-And, formula_has-Or, formula_has-Implies, formula_has-Iff, formula_has-Quantified, list_any_more, list_any_at)

pub ruleset quantifiers = (common_steps, the_lemmas, has_quantifier-Atom, has_quantifier-Not, has_quantifier-And, has_quantifier-Or, has_quantifier-Implies, has_quantifier-Iff, has_quantifier-Quantified, list_any_more, list_any_at)
