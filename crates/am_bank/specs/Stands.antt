-- What atoms, literals, clauses and lists over a bank's ids stand for, and none where an id isn't of the bank.
use Rattle.std.specs.Prelude.{◌≡◌, ℕ, List, [], ◌∷◌, Option, Some, None, map, option_map, option_and_then}
use Rattle.std.proofs.Common.{ap}
use Rattle.am_term.specs.declared.id.SymId.{SymId}
use Rattle.am_term.specs.declared.term.Term.{Term}
use Rattle.am_term.specs.declared.term.Term.TheOpen.{Term-F}
use Rattle.am_term.specs.declared.term.Term.TheViews.{out-Term}
use Rattle.am_term.specs.declared.term.Term.TheVariants.{App, outs-App}
use Rattle.am_term.specs.declared.term.Atom.{Atom}
use Rattle.am_term.specs.declared.term.Atom.TheVariants as atom
use Rattle.am_term.specs.declared.term.Literal.{Literal}
use Rattle.am_clause.specs.declared.clause.Clause.{Clause}
use Rattle.am_clause.specs.declared.row.Made.{Made}
use Rattle.am_bank.specs.declared.id.TermId.{TermId}
use Rattle.am_bank.specs.declared.shared.SharedAtom.{SharedAtom}
use Rattle.am_bank.specs.declared.shared.SharedAtom.TheVariants.{Rel, Eq}
use Rattle.am_bank.specs.declared.shared.SharedLiteral.{SharedLiteral}
use Rattle.am_bank.specs.declared.shared.SharedClause.{SharedClause}
use Rattle.am_bank.specs.declared.shared.SharedMade.{SharedMade}
use Rattle.am_bank.specs.declared.shared.SharedSubst.{SharedSubst}
use Rattle.am_bank.specs.Node.{Shared}
use Rattle.am_bank.specs.Trees.{tree}

-- all of some things, where each is there
abbrev pub all_there : {A : Type 0} → List (Option A) → Option (List A)
all_there [] = Some []
all_there (o ∷ os) = option_and_then (λ x. option_map (λ xs. x ∷ xs) (all_there os)) o

abbrev relation_at : Term-F Term → Option Atom
relation_at (Term-F.Var n s) = None
relation_at (Term-F.In k) = None
relation_at (Term-F.App r args) = Some (atom.Rel r args)

-- the relation atom that is held as a term: the term's symbol is the relation
unfoldable pub relation_of : Term → Option Atom
relation_of t = relation_at (out-Term t)

pub relation_of-App : (r : SymId) (args : List Term) → relation_of (App r args) ≡ Some (atom.Rel r args)
unfolding relation_of
relation_of-App r args = ap relation_at (outs-App r args)

module _ (ns : List Shared) where
  -- the terms of some ids
  abbrev pub terms_of : List TermId → Option (List Term)
  terms_of ids = all_there (map (λ i. tree ns i.0) ids)

  abbrev pub atom_of : SharedAtom → Option Atom
  atom_of (Rel id) = option_and_then relation_of (tree ns id.0)
  atom_of (Eq left right) = option_and_then (λ l. option_map (λ r. atom.Eq l r) (tree ns right.0)) (tree ns left.0)

  abbrev pub literal_of : SharedLiteral → Option Literal
  literal_of l = option_map (λ a. record { positive = l.positive; atom = a }) (atom_of l.atom)

  abbrev pub answer_of : Option (List TermId) → Option (Option (List Term))
  answer_of None = Some None
  answer_of (Some ids) = option_map Some (terms_of ids)

  abbrev pub clause_of : SharedClause → Option Clause
  clause_of c = option_and_then (λ ls. option_map (λ a. record { literals = ls; answer = a }) (answer_of c.answer)) (all_there (map literal_of c.literals))

  abbrev pub made_of : SharedMade → Option Made
  made_of m = option_and_then (λ c. option_map (λ tss. record { clause = c; with = tss }) (all_there (map terms_of m.with))) (clause_of m.clause)

  -- the numbers of variables with the terms for them
  abbrev pub bindings_of : SharedSubst → Option (List (ℕ × Term))
  bindings_of s = all_there (map (λ p. option_map (λ t. (p.0, t)) (tree ns p.1.0)) s.0)
