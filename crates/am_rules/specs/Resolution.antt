-- For the private contracts and the proofs of this crate alone: which bindings of two parents resolution takes, and what it makes of them.
use Rattle.std.specs.Prelude.{◌≡◌, ◌++◌, ℕ, List, map, Option, Some, None, option_map}
use Rattle.am_term.specs.declared.term.Term.{Term}
use Rattle.am_term.specs.declared.term.Atom.{Atom}
use Rattle.am_term.specs.declared.term.Literal.{Literal}
use Rattle.am_clause.specs.declared.clause.Clause.{Clause}
use Rattle.am_clause.specs.Merge.{merged}
use Rattle.am_rules.specs.Parts.{map_atom, literal_under, answer_under, all_but}
use Rattle.am_clause.specs.Rules.{shared}
use Rattle.am_term.specs.Place.{member}

abbrev pub nth_atom : ℕ → Clause → Option Atom
nth_atom i c = option_map (λ (l : Literal). l.atom) (member c.literals i)

-- both atoms are there, and become one
abbrev pub AtomsMeet : (Term → Term) → (Term → Term) → Option Atom → Option Atom → Type 0
AtomsMeet f g None b = ⊥
AtomsMeet f g (Some a) None = ⊥
AtomsMeet f g (Some a) (Some b) = map_atom f a ≡ map_atom g b

-- if there are two answers, they become one
abbrev pub AnswersMeet : (Term → Term) → (Term → Term) → Option (List Term) → Option (List Term) → Type 0
AnswersMeet f g None o = Unit {0}
AnswersMeet f g (Some ts) None = Unit {0}
AnswersMeet f g (Some ts) (Some us) = map f ts ≡ map g us

-- atom i of p and atom j of q become one, and the answers
pub record ResolveMeets (p : Clause) (i : ℕ) (q : Clause) (j : ℕ) (f g : Term → Term) : Type 0 where
  pub atoms : AtomsMeet f g (nth_atom i p) (nth_atom j q)
  pub answers : AnswersMeet f g p.answer q.answer

-- p without i, then q without j, in their instances
abbrev pub resolved_literals : Clause → ℕ → Clause → ℕ → List Term → List Term → List Literal
resolved_literals p i q j xs ys = map (literal_under xs) (all_but i p.literals) ++ map (literal_under ys) (all_but j q.literals)

abbrev pub resolvent : Clause → ℕ → Clause → ℕ → List Term → List Term → Clause
resolvent p i q j xs ys = record { literals = merged (resolved_literals p i q j xs ys); answer = shared (answer_under xs p.answer) (answer_under ys q.answer) }
