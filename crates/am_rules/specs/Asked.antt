-- For the private contracts and the proofs of this crate alone: pairs of terms that are to become one, of two atoms and of two answers; none where the lengths differ.
use Rattle.std.specs.Prelude.{◌==◌, ◌++◌, List, [], ◌∷◌, length, Option, Some, None, if◌then◌else◌}
use Rattle.std.specs.List.{zip}
use Rattle.am_term.specs.declared.term.Term.{Term}
use Rattle.am_term.specs.declared.term.Atom.{Atom}
use Rattle.am_term.specs.declared.term.Atom.TheVariants.{Rel, Eq}

abbrev pub Pairs : Type 0
Pairs = Option (List (Term × Term))

abbrev pub zipped : List Term → List Term → Pairs
zipped ts us = if length ts == length us then Some (zip ts us) else None

abbrev pub atom_pairs : Atom → Atom → Pairs
atom_pairs (Rel r ts) (Rel q us) = if r.0 == q.0 then zipped ts us else None
atom_pairs (Rel r ts) (Eq m n) = None
atom_pairs (Eq l k) (Rel q us) = None
atom_pairs (Eq l k) (Eq m n) = Some ((l, m) ∷ (k, n) ∷ [])

abbrev pub answer_pairs : Option (List Term) → Option (List Term) → Pairs
answer_pairs None u = Some []
answer_pairs (Some ts) None = Some []
answer_pairs (Some ts) (Some us) = zipped ts us

-- the first pairs and then the second, if both are there
abbrev pub both_pairs : Pairs → Pairs → Pairs
both_pairs None b = None
both_pairs (Some ps) None = None
both_pairs (Some ps) (Some qs) = Some (ps ++ qs)

abbrev pub asked : Option Atom → Option Atom → Option (List Term) → Option (List Term) → Pairs
asked None b o u = None
asked (Some a) None o u = None
asked (Some a) (Some b) o u = both_pairs (atom_pairs a b) (answer_pairs o u)
