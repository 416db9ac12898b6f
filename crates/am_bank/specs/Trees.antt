-- Which term an id of a bank stands for.
use Rattle.std.specs.Prelude.{◌++◌, ℕ, List, [], ◌∷◌, Option, Some, None, fold, slice_get}
use Rattle.am_term.specs.declared.term.Term.{Term}
use Rattle.am_term.specs.declared.term.Term.TheVariants as term
use Rattle.am_bank.specs.Node.{Shared, Var, In, App}

abbrev with_found : Option Term → List Term → List Term
with_found None ts = ts
with_found (Some t) ts = t ∷ ts

-- the terms that stand at some places of a list, those that are there
abbrev pub found : List Term → List ℕ → List Term
found ts [] = []
found ts (i ∷ ids) = with_found (slice_get ts i) (found ts ids)

-- the tree of a node, made of the trees of the nodes before it
abbrev pub node_tree : List Term → Shared → Term
node_tree ts (Var n s) = term.Var n s
node_tree ts (In k) = term.In k
node_tree ts (App f ids) = term.App f (found ts ids)

-- the trees of the nodes so far, and of one more
abbrev pub with_tree : List Term → Shared → List Term
with_tree ts x = ts ++ node_tree ts x ∷ []

-- the trees of some nodes in order, each made of the trees before it
unfoldable pub trees : List Shared → List Term
trees = fold with_tree []

-- the term that an id stands for: the tree of its node
unfoldable pub tree : List Shared → ℕ → Option Term
tree ns i = slice_get (trees ns) i
