-- What a node feeds a hasher: a number for its kind, and then its fields.
use Rattle.std.specs.Prelude.{ℕ, ◌++◌, List}
use Rattle.std.specs.Hash as fed
use Rattle.am_bank.specs.declared.id.TermId.{TermId}
use Rattle.am_bank.specs.declared.node.Node.{Node}
use Rattle.am_bank.specs.declared.node.Node.TheVariants.{Var, In, App}

abbrev pub hashed : Node → List (List ℕ)
hashed (Var n sort) = fed.u8 0 ++ fed.u32 n ++ fed.u32 sort.0
hashed (In k) = fed.u8 1 ++ fed.u32 k
hashed (App f args) = fed.u8 2 ++ fed.u32 f.0 ++ fed.slice (λ (a : TermId). fed.u64 a.0) args.items
