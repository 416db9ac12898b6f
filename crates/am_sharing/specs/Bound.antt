-- Bounds of ids, by which recursions over nodes end.
use Rattle.std.specs.Prelude.{◌+◌, ℕ, List, [], ◌∷◌, max}
use Rattle.am_bank.specs.declared.id.TermId.{TermId}
use Rattle.am_bank.specs.declared.node.Node.{Node}
use Rattle.am_bank.specs.declared.node.Node.TheVariants as node

-- one more than the greatest of some ids, and 0 of none
abbrev pub id_bound : List TermId → ℕ
id_bound [] = 0
id_bound (i ∷ ids) = max (i.0 + 1) (id_bound ids)

-- that of a node's arguments
abbrev pub node_bound : Node → ℕ
node_bound (node.Var n s) = 0
node_bound (node.In k) = 0
node_bound (node.App f args) = id_bound args.items
