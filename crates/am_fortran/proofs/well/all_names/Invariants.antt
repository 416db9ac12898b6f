use Rattle.std.proofs.Common.{◌≡◌, true, take}
use Rattle.std.specs.List.{list_all}
use Rattle.am_term.specs.Names.{is_fortran_name}
use Rattle.am_fortran.proofs.well.all_names.Given as goal

-- all names so far are FORTRAN names
abbrev pub invariant-loop-name : goal.invariant-loop-name
invariant-loop-name l = list_all is_fortran_name (take l.name-index l.names) ≡ true
