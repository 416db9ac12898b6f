use Rattle.std.proofs.Common.{◌≡◌, ◌++◌, map, take}
use Rattle.am_text.specs.Spelling.{lines}
use Rattle.am_canon.specs.CanonicalText.{decl_form}
use Rattle.am_canon.proofs.writing.push_lines.Given as goal

-- the lines so far stand behind what was there
abbrev pub invariant-loop-declaration : goal.invariant-loop-declaration
invariant-loop-declaration l = l.out.items ≡ l.fn.out.items ++ lines (map decl_form (take l.declaration-index l.all))
