-- For the private contracts and the proofs of this crate alone: the terms of a clause, and what it becomes where each of its terms becomes another.
use Rattle.std.specs.Prelude.{◌++◌, ◌==◌, ◌-◌, if◌then◌else◌, ℕ, Bool, true, false, List, [], ◌∷◌, map, Option, Some, None}
use Rattle.am_term.specs.declared.term.Term.{Term}
use Rattle.am_term.specs.declared.term.Atom.{Atom}
use Rattle.am_term.specs.declared.term.Atom.TheVariants.{Rel, Eq}
use Rattle.am_term.specs.declared.term.Literal.{Literal}
use Rattle.am_term.specs.Instance.{instance}

abbrev pub answer_terms : Option (List Term) → List Term
answer_terms None = []
answer_terms (Some ts) = ts

abbrev pub map_atom : (Term → Term) → Atom → Atom
map_atom f (Rel r args) = Rel r (map f args)
map_atom f (Eq left right) = Eq (f left) (f right)

abbrev pub map_literal : (Term → Term) → Literal → Literal
map_literal f l = record { positive = l.positive; atom = map_atom f l.atom }

abbrev pub map_answer : (Term → Term) → Option (List Term) → Option (List Term)
map_answer f None = None
map_answer f (Some ts) = Some (map f ts)

-- the instance of an atom, a literal and an answer: of each of its terms
abbrev pub atom_under : List Term → Atom → Atom
atom_under with = map_atom (instance with)

abbrev pub literal_under : List Term → Literal → Literal
literal_under with = map_literal (instance with)

abbrev pub answer_under : List Term → Option (List Term) → Option (List Term)
answer_under with = map_answer (instance with)

-- the list without its i-th member, from 1
abbrev pub all_but : {A : Type 0} → ℕ → List A → List A
all_but i [] = []
all_but i (x ∷ xs) = if i == 1 then xs else x ∷ all_but (i - 1) xs

-- one more member, unless it is skipped
abbrev pub added_unless : {A : Type 0} → List A → Bool → A → List A
added_unless xs true x = xs
added_unless xs false x = xs ++ x ∷ []
