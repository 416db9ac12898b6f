-- How large a clause is.
use Rattle.std.specs.Prelude.{◌+◌, ℕ, sum_by}
use Rattle.am_term.specs.declared.term.Atom.{Atom}
use Rattle.am_term.specs.declared.term.Atom.TheVariants.{Rel, Eq}
use Rattle.am_term.specs.declared.term.Literal.{Literal}
use Rattle.am_term.specs.Weight.{nodes}
use Rattle.am_clause.specs.declared.clause.Clause.{Clause}

-- the nodes of the arguments, or of both sides
abbrev pub atom_weight : Atom → ℕ
atom_weight (Rel r args) = sum_by nodes args
atom_weight (Eq left right) = nodes left + nodes right

-- 1 and the nodes of the arguments, whatever the sign
abbrev pub literal_weight : Literal → ℕ
literal_weight l = 1 + atom_weight l.atom

-- the weights of the literals; the answer isn't counted
abbrev pub clause_weight : Clause → ℕ
clause_weight c = sum_by literal_weight c.literals
