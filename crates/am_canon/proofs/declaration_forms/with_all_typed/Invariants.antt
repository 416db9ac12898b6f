use Rattle.std.proofs.Common.{◌≡◌, ◌++◌, map, take}
use Rattle.am_canon.specs.CanonicalText.{typed_form}
use Rattle.am_canon.proofs.declaration_forms.with_all_typed.Given as goal

-- the forms so far stand behind what was there
abbrev pub invariant-loop-typed : goal.invariant-loop-typed
invariant-loop-typed l = l.members ≡ l.fn.forms ++ map typed_form (take l.typed-index l.all)
