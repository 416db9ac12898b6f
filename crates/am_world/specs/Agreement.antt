-- Assignments that agree on some variables.
use Rattle.std.specs.Prelude.{◌≡◌, List, IsTrue}
use Rattle.am_clause.specs.Distinct.{among}
use Rattle.am_clause.specs.Variables.{Variable, same_variable}
use Rattle.am_world.specs.Value.{Assignment}

-- each variable of the list has one number under both
abbrev pub AgreeOn : List Variable → Assignment → Assignment → Type 0
AgreeOn vs a b = (v : Variable) → IsTrue (among same_variable v vs) → a v.0 v.1 ≡ b v.0 v.1
