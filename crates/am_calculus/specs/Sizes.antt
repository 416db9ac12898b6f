-- How many nodes a clause has; for private contracts.
use Rattle.std.specs.Prelude.{◌+◌, ℕ, List, Option, Some, None, map, min, sum_by}
use Rattle.am_term.specs.Weight.{nodes}
use Rattle.am_term.specs.declared.term.Literal.{Literal}
use Rattle.am_term.specs.declared.term.Term.{Term}
use Rattle.am_clause.specs.Size.{atom_weight}
use Rattle.am_clause.specs.declared.clause.Clause.{Clause}

-- the nodes of the answer's terms, where there is an answer
abbrev pub answer_nodes : Option (List Term) → ℕ
answer_nodes None = 0
answer_nodes (Some ts) = sum_by nodes ts

-- the nodes of all arguments and sides of the literals, and those of the answer
abbrev pub clause_nodes : Clause → ℕ
clause_nodes c = sum_by (λ (l : Literal). atom_weight l.atom) c.literals + answer_nodes c.answer

-- the nodes of each term, counted no further than 16,777,217
abbrev pub counted_nodes : List Term → List ℕ
counted_nodes ts = map (λ t. min (nodes t) 16777217) ts
