use Rattle.std.proofs.Common.{◌≡◌, map, take}
use Rattle.am_syntax.specs.Forms.{word_form}
use Rattle.am_canon.proofs.declaration_forms.names_form.Given as goal

-- the names so far, a word each
abbrev pub invariant-loop-name : goal.invariant-loop-name
invariant-loop-name l = l.members ≡ map word_form (take l.name-index l.names)
