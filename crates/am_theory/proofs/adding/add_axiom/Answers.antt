use Rattle.std.proofs.Common.{◌∙◌, ℕ, List, map, ap}
use Rattle.am_term.specs.declared.id.SortId.{SortId}
use Rattle.am_theory.specs.Contents.{contents}
use Rattle.am_theory.proofs.AddSteps.{names-of-variables}
use Rattle.am_theory.proofs.adding.add_axiom.Goals as goal

pub add_law-requires : goal.add_law-requires
add_law-requires c = ap (map (λ (v : List ℕ × SortId). v.0)) c.in_ok-vars.ensures ∙ names-of-variables (contents c.args.tables.now.theory) c.args.typed.now
