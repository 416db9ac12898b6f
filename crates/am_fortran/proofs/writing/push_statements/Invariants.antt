use Rattle.std.proofs.Common.{◌≡◌, ◌++◌, take}
use Rattle.std.specs.List.{flat_map}
use Rattle.am_fortran.specs.Text.{statement_text}
use Rattle.am_fortran.proofs.writing.push_statements.Given as goal

-- the texts of the statements so far
abbrev pub invariant-loop-statement : goal.invariant-loop-statement
invariant-loop-statement l = l.out.items ≡ l.initial.out.items ++ flat_map statement_text (take l.statement-index l.statements)
