use Rattle.std.proofs.Common.{◌≡◌, ◌++◌, take}
use Rattle.std.specs.List.{flat_map}
use Rattle.am_fortran.specs.Text.{declaration_text}
use Rattle.am_fortran.proofs.writing.push_declarations.Given as goal

-- the texts of the declarations so far
abbrev pub invariant-loop-declaration : goal.invariant-loop-declaration
invariant-loop-declaration l = l.out.items ≡ l.initial.out.items ++ flat_map declaration_text (take l.declaration-index l.declarations)
