-- Making the unit.
use Rattle.std.proofs.Common.{◌≡◌, refl, List, []}
use Rattle.std.proofs.lemmas.Grind.{common_steps}
use Rattle.std.proofs.lemmas.List.{map-append, append_assoc}
use Rattle.std.specs.List.{flat_map}
use Rattle.am_term.specs.declared.term.Term.{Term}
use Rattle.am_theory.specs.declared.theory.Theory.{Theory}
use Rattle.am_diagram.specs.declared.diagram.Diagram.{Diagram}
use Rattle.am_plan.specs.Calls.{calls, made_by}
use Rattle.am_plan.specs.Names.{named_terms, named_behind}

pub names-are : (t : Theory) (d : Diagram) (answer : List Term) → named_behind d.outputs answer [] (flat_map (made_by t) (calls t answer)) ≡ named_terms t d answer
unfolding named_terms
names-are t d answer = refl

pub ruleset planning = (common_steps, map-append, append_assoc, names-are)
