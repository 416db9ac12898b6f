-- What a list of nodes must be for ids to stand for terms, and how it grows.
use Rattle.std.specs.Prelude.{◌≡◌, ◌<◌, ◌++◌, ℕ, List, [], Some, slice_get}
use Rattle.am_bank.specs.Node.{Shared, Var, In, App}

-- the ids of a node's arguments; a variable and an input have none
abbrev pub arguments : Shared → List ℕ
arguments (Var n s) = []
arguments (In k) = []
arguments (App f ids) = ids

-- each argument of the node is an id below n
abbrev pub ArgsBelow : ℕ → Shared → Type 0
ArgsBelow n x = (k i : ℕ) → slice_get (arguments x) k ≡ Some i → i < n

-- no node stands twice, and each node's arguments are smaller ids
pub record IsBank (nodes : List Shared) : Type 0 where
  pub distinct : (i j : ℕ) (x : Shared) → slice_get nodes i ≡ Some x → slice_get nodes j ≡ Some x → i ≡ j
  pub below : (i : ℕ) (x : Shared) → slice_get nodes i ≡ Some x → ArgsBelow i x

-- the new nodes are the old ones and perhaps more behind them
pub record Grows (old new : List Shared) : Type 0 where
  pub more : List Shared
  pub is : new ≡ old ++ more
