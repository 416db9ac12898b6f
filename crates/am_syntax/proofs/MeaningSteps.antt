-- What a written term, atom or formula stands for, by its parts.
use Rattle.std.proofs.lemmas.Grind.{common_steps}
use Rattle.std.proofs.lemmas.List.{map_more, map_push}
use Rattle.am_syntax.specs.declared.written.WrittenTerm.TheViews as term_view
use Rattle.am_syntax.specs.declared.written.WrittenFormula.TheViews as formula_view
use Rattle.am_syntax.proofs.Equations.{term_meaning-Alone, term_meaning-Headed, formula_meaning-Atom, formula_meaning-Not, formula_meaning-And, formula_meaning-Or, formula_meaning-Implies, formula_meaning-Iff, formula_meaning-Quantified}

pub ruleset term_meanings = (common_steps, term_view.the_lemmas, map_more, map_push, term_meaning-Alone, term_meaning-Headed)

pub ruleset formula_meanings = (common_steps, formula_view.the_lemmas, map_more, map_push, formula_meaning-Atom, formula_meaning-Not, formula_meaning-And, formula_meaning-Or, formula_meaning-Implies, formula_meaning-Iff, formula_meaning-Quantified)
