use Rattle.std.proofs.Common.{◌≡◌, true, take}
use Rattle.std.specs.List.{list_all}
use Rattle.am_fortran.specs.Well.{is_unit_text_byte}
use Rattle.am_fortran.proofs.well.all_text_bytes.Given as goal

-- all bytes so far are allowed
abbrev pub invariant-loop-byte : goal.invariant-loop-byte
invariant-loop-byte l = list_all is_unit_text_byte (take l.byte-index l.text) ≡ true
