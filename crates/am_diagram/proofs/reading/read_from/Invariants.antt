use Rattle.std.proofs.Common.{◌≡◌, length}
use Rattle.am_diagram.specs.Reading.{read_from}
use Rattle.am_diagram.proofs.reading.read_from.Given as goal

-- what is left decides
abbrev pub invariant-loop-rest : goal.invariant-loop-rest
invariant-loop-rest l = read_from l.tables.theory.now l.draft l.rest ≡ read_from l.tables.theory.now l.fn.draft l.forms

abbrev pub decreases-loop-rest : goal.decreases-loop-rest
decreases-loop-rest l = length l.rest
