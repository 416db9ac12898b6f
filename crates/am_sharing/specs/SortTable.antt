-- A table of the sorts of the terms of a bank's first ids, by which a term's sort is known from those of its arguments.
use Rattle.std.specs.Prelude.{◌≡◌, ◌<◌, ◌≤◌, ℕ, List, Option, Some, None, length, map, get_or}
use Rattle.am_term.specs.declared.id.SortId.{SortId}
use Rattle.am_term.specs.declared.signature.Signature.{Signature}
use Rattle.am_term.specs.declared.term.Term.{Term}
use Rattle.am_term.specs.declared.term.Term.TheOpen.{Term-F}
use Rattle.am_term.specs.Sorting.{sort_of}
use Rattle.am_bank.specs.declared.id.TermId.{TermId}
use Rattle.am_bank.specs.declared.node.Node.{Node}
use Rattle.am_bank.specs.declared.node.Node.TheVariants as node
use Rattle.am_bank.specs.Node.{Shared}
use Rattle.am_bank.specs.Trees.{tree}

-- each place below the table's length is an id, and holds the sort of its term
pub record IsSortTable (sig : Signature) (ins : List SortId) (ns : List Shared) (table : List (Option SortId)) : Type 0 where
  pub within : length table ≤ length ns
  pub sorts : (i : ℕ) (t : Term) → i < length table → tree ns i ≡ Some t → get_or table i None ≡ sort_of sig ins t

-- the sorts of some ids
abbrev pub sorts_in_table : List (Option SortId) → List TermId → List (Option SortId)
sorts_in_table table = map (λ (i : TermId). get_or table i.0 None)

-- a node with its arguments' sorts, of which its own sort is made
abbrev pub node_sorts : List (Option SortId) → Node → Term-F (Option SortId)
node_sorts table (node.Var n s) = Term-F.Var n s
node_sorts table (node.In k) = Term-F.In k
node_sorts table (node.App f args) = Term-F.App f (sorts_in_table table args.items)
