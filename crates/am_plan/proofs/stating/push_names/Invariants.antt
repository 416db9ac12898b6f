use Rattle.std.proofs.Common.{◌≡◌, ◌++◌, length, map}
use Rattle.am_term.specs.declared.id.SymId.{SymId}
use Rattle.am_term.specs.declared.term.Term.{Term}
use Rattle.am_term.specs.declared.term.Term.TheVariants.{App}
use Rattle.am_fortran.specs.declared.statement.Operand.TheVariants as operand
use Rattle.am_plan.specs.Names.{name_of_term}
use Rattle.am_plan.proofs.stating.push_names.Given as goal

-- what was made, with what is left, is all
abbrev pub invariant-loop-rest : goal.invariant-loop-rest
invariant-loop-rest l = l.made ++ map (λ (x : Term). operand.Name (name_of_term l.names.entries x)) (map (λ (f : SymId). App f l.args) l.rest) ≡ l.initial.made ++ map (λ (x : Term). operand.Name (name_of_term l.names.entries x)) (map (λ (f : SymId). App f l.args) l.symbols)

abbrev pub decreases-loop-rest : goal.decreases-loop-rest
decreases-loop-rest l = length l.rest
