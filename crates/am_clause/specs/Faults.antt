-- When a formula's clauses are refused.
use Rattle.std.specs.Prelude.{◌≡◌, ◌<◌, ◌-◌, ◌^◌, length, min}
use Rattle.am_term.specs.declared.term.Formula.{Formula}
use Rattle.am_clause.specs.declared.fault.ClauseFault.{ClauseFault}
use Rattle.am_clause.specs.declared.fault.ClauseFault.TheVariants.{TooManyClauses, NoMemory}
use Rattle.am_clause.specs.ClauseForm.{cnf}

-- more than 64 clauses, and their number, which stands still at the end of 64 bits; want of memory has no
-- cause in the formula
abbrev pub IsCause : Formula → ClauseFault → Type 0
IsCause f (TooManyClauses n) = (64 < length (cnf f)) × (n ≡ min (length (cnf f)) (2 ^ 64 - 1))
IsCause f NoMemory = Unit {0}
