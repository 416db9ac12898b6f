-- The terms of ids that are known to be of a bank, and how the path order compares them.
use Rattle.std.specs.Prelude.{ℕ, Bool, List, map, unwrap_or}
use Rattle.std.specs.List.{list_any, list_all}
use Rattle.am_term.specs.declared.signature.Signature.{Signature}
use Rattle.am_term.specs.declared.term.Term.{Term}
use Rattle.am_term.specs.declared.term.Term.TheVariants as term
use Rattle.am_order.specs.Order.{greater}
use Rattle.am_order.specs.Cases.{reaches}
use Rattle.am_bank.specs.declared.id.TermId.{TermId}
use Rattle.am_bank.specs.declared.node.Node.{Node}
use Rattle.am_bank.specs.declared.node.Node.TheVariants as node
use Rattle.am_bank.specs.Node.{Shared}
use Rattle.am_bank.specs.Trees.{tree}

-- the term that an id stands for, and some term where it stands for none
unfoldable pub term_at : List Shared → ℕ → Term
term_at ns i = unwrap_or (tree ns i) (term.In 0)

-- the terms of some ids
abbrev pub terms_at : List Shared → List TermId → List Term
terms_at ns = map (λ (i : TermId). term_at ns i.0)

-- the term of a node of the bank
abbrev pub node_term : List Shared → Node → Term
node_term ns (node.Var n s) = term.Var n s
node_term ns (node.In k) = term.In k
node_term ns (node.App f args) = term.App f (terms_at ns args.items)

-- some of the ids' terms is the term of t or greater than it
abbrev pub some_reaches : Signature → List Shared → List TermId → ℕ → Bool
some_reaches sig ns ids t = list_any (λ (i : TermId). reaches sig (term_at ns i.0) (term_at ns t)) ids

-- the term of s is greater than each of the ids' terms
abbrev pub exceeds_all : Signature → List Shared → ℕ → List TermId → Bool
exceeds_all sig ns s ids = list_all (λ (i : TermId). greater sig (term_at ns s) (term_at ns i.0)) ids
