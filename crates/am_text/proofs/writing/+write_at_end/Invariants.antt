use Rattle.std.proofs.Common.{◌≡◌, ◌++◌, ◌∷◌, map, take}
use Rattle.std.specs.List.{join_with_byte}
use Rattle.am_text.specs.Spelling.{written}
use Rattle.am_text.proofs.writing.+write_at_end.Given as goal

-- the members so far stand behind the parenthesis
abbrev pub invariant-loop-i : goal.invariant-loop-i
invariant-loop-i l = l.out.items ≡ l.fn.out.items ++ 40 ∷ join_with_byte 32 (map written (take l.i l.member-items))
