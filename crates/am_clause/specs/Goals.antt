-- The clauses of a question: what is asked, negated, with the outputs' variables as answer; and what is given.
use Rattle.std.specs.Prelude.{◌+◌, ℕ, not, Some, None, List, [], ◌∷◌, map, length}
use Rattle.am_term.specs.declared.id.SortId.{SortId}
use Rattle.am_term.specs.declared.term.Term.{Term}
use Rattle.am_term.specs.declared.term.Term.TheVariants.{Var}
use Rattle.am_term.specs.declared.term.Literal.{Literal}
use Rattle.am_clause.specs.declared.clause.Clause.{Clause}
use Rattle.am_clause.specs.Renaming.{renumbered}

-- the literal with the other sign
abbrev pub negated : Literal → Literal
negated l = record { positive = not l.positive; atom = l.atom }

-- variables of these sorts, numbered from n
abbrev pub variables_from : ℕ → List SortId → List Term
variables_from n [] = []
variables_from n (s ∷ ss) = Var n s ∷ variables_from (n + 1) ss

-- the negated requirements in order, equal ones not merged, with the outputs' variables, which follow those of the
-- objects, as answer; renumbered
abbrev pub goal_of : List SortId → List SortId → List Literal → Clause
goal_of objects outputs required = renumbered (record { literals = map negated required; answer = Some (variables_from (length objects) outputs) })

-- a clause of one literal, without answer
abbrev pub given_clause : Literal → Clause
given_clause l = record { literals = l ∷ []; answer = None }
