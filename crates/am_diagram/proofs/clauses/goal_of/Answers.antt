-- The variables of the goal are few.
use Rattle.std.proofs.Common.{◌∙◌, ap, map}
use Rattle.am_clause.specs.Goals.{negated}
use Rattle.am_diagram.proofs.clauses.goal_of.Goals as goal
use Rattle.am_diagram.proofs.GoalVariables.{few-of}

pub renumber-requires : goal.renumber-requires
renumber-requires c = record { few = few-of c.args.diagram.now c.in_ok-literals.literals c.in_ok-output_terms.field-0 c.requires (c.in_ok-literals.ensures ∙ ap (map negated) c.as_slice.ensures) c.in_ok-output_terms.ensures }
