use Rattle.std.proofs.Common.{◌≡◌, [], take, drop}
use Rattle.am_exec.specs.ItemFaults.{declared_names}
use Rattle.am_exec.specs.Terms.{bad_declaration}
use Rattle.am_exec.proofs.declarations.bad_declaration.Given as goal

-- what is left decides, and the names are those of what was seen
abbrev pub invariant-loop-i : goal.invariant-loop-i
invariant-loop-i l = (bad_declaration l.theory l.diagram l.unit (take l.i l.declarations) (drop l.i l.declarations) ≡ bad_declaration l.theory l.diagram l.unit [] l.declarations) × (l.names ≡ declared_names (take l.i l.declarations))
