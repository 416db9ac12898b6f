-- The axiom rows are among the starting rows.
use Rattle.std.specs.Prelude.{◌≡◌, ◌≤◌, ◌+◌, ◌∷◌, List, length}
use Rattle.std.proofs.Common.{ap, arith, ◌∙◌}
use Rattle.std.proofs.lemmas.Grind.{common_steps}
use Rattle.std.proofs.lemmas.List.{length-append}
use Rattle.am_clause.specs.declared.clause.Clause.{Clause}
use Rattle.am_clause.specs.declared.row.Row.{Row}
use Rattle.am_search.specs.Starting.{given_rows, goal_row, rows_at_first}

pub axioms_within : (axioms rs : List Row) (asked : Clause) (facts : List Clause) → rs ≡ rows_at_first axioms asked facts → length axioms ≤ length rs
axioms_within axioms rs asked facts is =
    let whole : length rs ≡ length axioms + length (goal_row asked ∷ given_rows 1 facts) = ap (λ (xs : List Row). length xs) is ∙ length-append axioms (goal_row asked ∷ given_rows 1 facts) in
    omega arith

pub ruleset beginnings = (common_steps, axioms_within)
