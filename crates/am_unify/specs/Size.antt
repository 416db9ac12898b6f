-- How large pairs are.
use Rattle.std.specs.Prelude.{ℕ, List}
use Rattle.std.specs.List.{sum_by}
use Rattle.am_term.specs.declared.term.Term.{Term}
use Rattle.am_term.specs.Weight.{nodes}

-- the nodes of the left sides
abbrev pub size : List (Term × Term) → ℕ
size ps = sum_by (λ p. nodes p.0) ps
