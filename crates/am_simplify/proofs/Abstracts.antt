-- Walks over the symbols of terms.
use Rattle.std.proofs.lemmas.Bool.Decides.{nat_tests}
use Rattle.std.proofs.lemmas.Grind.{common_steps}
use Rattle.std.proofs.lemmas.List.Folds.{list_any_more, list_any_at}
use Rattle.am_term.specs.declared.term.Term.TheViews.{the_lemmas}
use Rattle.am_simplify.specs.Reasons.{abstract_laws}

pub ruleset abstracts = (common_steps, nat_tests, the_lemmas, abstract_laws, list_any_more, list_any_at)
