-- The number of each status.
use Rattle.std.specs.Prelude.{ℕ}
use Rattle.am_top.specs.declared.status.Status.{Status}
use Rattle.am_top.specs.declared.status.Status.TheVariants as status

abbrev pub code_of : Status → ℕ
code_of status.Ok = 0
code_of status.Usage = 1
code_of status.File = 2
code_of status.Spent = 3
code_of status.Exhausted = 4
code_of status.Refused = 5
code_of status.Read = 6
code_of status.Write = 7
code_of status.NoMemory = 8
code_of status.Contradiction = 9
code_of status.Long = 10
