-- A node as plain data.
use Rattle.std.specs.Prelude.{ℕ, List, map}
use Rattle.am_term.specs.declared.id.SortId.{SortId}
use Rattle.am_term.specs.declared.id.SymId.{SymId}
use Rattle.am_bank.specs.declared.id.TermId.{TermId}
use Rattle.am_bank.specs.declared.node.Node.{Node}
use Rattle.am_bank.specs.declared.node.Node.TheVariants as node

-- a variable by its number and sort, an input by its number, or a symbol at the ids of its arguments
pub data Shared : Type 0 where
  Var : ℕ → SortId → Shared
  In : ℕ → Shared
  App : SymId → List ℕ → Shared

-- the numbers of some ids
abbrev pub numbers : List TermId → List ℕ
numbers = map (λ (a : TermId). a.0)

-- a node without where its list is held
abbrev pub node_shared : Node → Shared
node_shared (node.Var n sort) = Var n sort
node_shared (node.In k) = In k
node_shared (node.App f args) = App f (numbers args.items)
