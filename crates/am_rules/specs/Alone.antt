-- For the private contracts and the proofs of this crate alone: factoring and reflexion: rules of one parent.
use Rattle.std.specs.Prelude.{◌≡◌, ℕ, List, [], ◌∷◌, map, Option, Some, None, option_map, option_and_then}
use Rattle.am_term.specs.declared.id.SortId.{SortId}
use Rattle.am_term.specs.declared.signature.Signature.{Signature}
use Rattle.am_term.specs.declared.term.Term.{Term}
use Rattle.am_term.specs.declared.term.Atom.{Atom}
use Rattle.am_term.specs.declared.term.Atom.TheVariants.{Rel, Eq}
use Rattle.am_clause.specs.declared.clause.Clause.{Clause}
use Rattle.am_clause.specs.declared.row.Made.{Made}
use Rattle.am_clause.specs.Merge.{merged}
use Rattle.am_clause.specs.Variables.{variables}
use Rattle.am_unify.specs.Mgu.{mgu}
use Rattle.am_rules.specs.Asked.{Pairs, asked}
use Rattle.am_rules.specs.Parts.{literal_under, answer_under, all_but}
use Rattle.am_rules.specs.Resolution.{nth_atom, AtomsMeet}
use Rattle.am_rules.specs.Row.{row}
use Rattle.am_rules.specs.Solving.{images}
use Rattle.am_clause.specs.NumberedMade.{numbered_made}

-- atoms i and j become one
abbrev pub FactorMeets : Clause → ℕ → ℕ → (Term → Term) → Type 0
FactorMeets p i j f = AtomsMeet f f (nth_atom i p) (nth_atom j p)

-- the sides of the equation become one
abbrev pub SidesMeet : (Term → Term) → Option Atom → Type 0
SidesMeet f None = ⊥
SidesMeet f (Some (Rel r args)) = ⊥
SidesMeet f (Some (Eq left right)) = f left ≡ f right

abbrev pub ReflexMeets : Clause → ℕ → (Term → Term) → Type 0
ReflexMeets p i f = SidesMeet f (nth_atom i p)

-- the clause without its i-th literal, or with all where i is 0
abbrev pub kept : Clause → ℕ → List Term → Clause
kept p i xs = record { literals = merged (map (literal_under xs) (all_but i p.literals)); answer = answer_under xs p.answer }

abbrev pub sides : Option Atom → Pairs
sides None = None
sides (Some (Rel r args)) = None
sides (Some (Eq left right)) = Some ((left, right) ∷ [])

abbrev pub made_alone : Clause → (List Term → Clause) → List (ℕ × Term) → Made
made_alone p make bs = numbered_made (row (make (images bs 0 (variables p))) (images bs 0 (variables p) ∷ []))

abbrev pub solved_alone : Signature → List SortId → Clause → (List Term → Clause) → Pairs → Option Made
solved_alone sig ins p make ps = option_map (made_alone p make) (option_and_then (mgu sig ins) ps)

abbrev pub factoring : Signature → List SortId → Clause → ℕ → ℕ → Option Made
factoring sig ins p i j = solved_alone sig ins p (kept p 0) (asked (nth_atom i p) (nth_atom j p) None None)

abbrev pub reflexion : Signature → List SortId → Clause → ℕ → Option Made
reflexion sig ins p i = solved_alone sig ins p (kept p i) (sides (nth_atom i p))
