use Rattle.std.proofs.Common.{◌≡◌, ◌++◌, take}
use Rattle.std.specs.List.{flat_map}
use Rattle.am_fortran.proofs.writing.push_behind.Given as goal

-- each member so far behind a separator
abbrev pub invariant-loop-member : goal.invariant-loop-member
invariant-loop-member l = l.out.items ≡ l.initial.out.items ++ flat_map (λ y. l.separator ++ y) (take l.member-index l.members)
