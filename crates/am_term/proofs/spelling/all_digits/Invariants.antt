use Rattle.std.proofs.Common.{◌≡◌, true, take}
use Rattle.std.specs.List.{list_all}
use Rattle.am_term.specs.Names.{is_digit}
use Rattle.am_term.proofs.spelling.all_digits.Given as goal

-- all bytes so far are allowed
abbrev pub invariant-loop-byte : goal.invariant-loop-byte
invariant-loop-byte l = list_all is_digit (take l.byte-index l.bytes) ≡ true
