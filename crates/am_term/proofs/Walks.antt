-- Going over a term and its arguments.
use Rattle.std.proofs.lemmas.Grind.{common_steps}
use Rattle.std.proofs.lemmas.Bool.Decides.{nat_tests}
use Rattle.am_term.specs.declared.term.Term.TheViews.{the_lemmas}
use Rattle.am_term.specs.Instance.{instance_laws}
use Rattle.am_term.specs.Place.{place_laws}
use Rattle.am_term.specs.Same.{same_laws}
use Rattle.am_term.specs.Span.{span_laws}
use Rattle.am_term.specs.Weight.{nodes_laws}
use Rattle.am_term.proofs.Alike.{same_term-refl, same_term-sound, same_terms-refl, same_terms-sound, same_terms-count}
use Rattle.am_term.proofs.Members.{member-zero, member-past, member-within, member-get, with_member-set}
use Rattle.am_term.proofs.Spans.{span-le-spans, spans-push}

pub ruleset walks = (common_steps, the_lemmas)

pub ruleset comparisons = (common_steps, nat_tests, the_lemmas, same_laws, same_terms-count, same_terms-refl, same_terms-sound, same_term-refl, same_term-sound)

pub ruleset substitutions = (common_steps, the_lemmas, instance_laws, span_laws, span-le-spans, spans-push)

pub ruleset places = (common_steps, the_lemmas, place_laws, member-zero, member-past, member-within, member-get, with_member-set)

pub ruleset weights = (common_steps, the_lemmas, nodes_laws)
