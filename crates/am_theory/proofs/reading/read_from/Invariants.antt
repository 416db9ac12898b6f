use Rattle.std.proofs.Common.{◌≡◌, drop}
use Rattle.am_theory.specs.Contents.{contents}
use Rattle.am_theory.specs.Reading.{read_from}
use Rattle.am_theory.proofs.reading.read_from.Given as goal

-- what is left, after what was read, gives what all gives
abbrev pub invariant-loop-form : goal.invariant-loop-form
invariant-loop-form l = read_from (contents l.tables.theory) (drop l.form-index l.forms) ≡ read_from (contents l.fn.tables.theory) l.forms
