-- Going over the terms of a clause.
use Rattle.std.proofs.lemmas.Grind.{common_steps}
use Rattle.std.proofs.lemmas.Bool.Decides.{nat_tests}
use Rattle.am_term.specs.declared.term.Term.TheViews.{the_lemmas}
use Rattle.am_term.specs.declared.term.Formula.TheViews.{the_lemmas as formula_lemmas}
use Rattle.am_clause.specs.Variables.{occurrences_laws, in_formula_laws}
use Rattle.am_clause.specs.Renaming.{renamed_laws, renumbered-is}
use Rattle.am_clause.proofs.Places.{place-found, place-passed, place-end, place-within, noted-old, noted-new, noted-none, noted-both, terms-noted, literals-noted, parts-noted, all-noted, formula-noted}

pub ruleset collecting = (common_steps, the_lemmas, occurrences_laws, noted-old, noted-new, noted-none, noted-both, terms-noted, literals-noted, all-noted, formula-noted)

pub ruleset descending = (common_steps, formula_lemmas, in_formula_laws, noted-none, noted-both, parts-noted)

pub ruleset placing = (common_steps, nat_tests, place-found, place-passed, place-end)

pub ruleset renaming = (common_steps, the_lemmas, renamed_laws, place-within)

pub ruleset renumbering = (common_steps, the_lemmas, renumbered-is)
