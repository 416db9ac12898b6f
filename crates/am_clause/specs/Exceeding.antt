-- When a formula's clause form is larger than a limit.
use Rattle.std.specs.Prelude.{◌||◌, ℕ, Bool, length, nat_lt}
use Rattle.std.specs.List.{list_any}
use Rattle.am_term.specs.declared.term.Formula.{Formula}
use Rattle.am_clause.specs.declared.clause.Clause.{Clause}
use Rattle.am_clause.specs.ClauseForm.{cnf}
use Rattle.am_clause.specs.Count.{count}

-- more than so many literals
abbrev pub is_longer : ℕ → Clause → Bool
is_longer most c = nat_lt most (length c.literals)

-- More than 64 clauses, or one with more than so many literals. Clauses are counted without merging them,
-- literals after equal ones are merged.
abbrev pub exceeds : ℕ → Formula → Bool
exceeds most f = nat_lt 64 (count f) || list_any (is_longer most) (cnf f)
