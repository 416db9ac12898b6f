-- Which clause subsumes which, as a test: the answers are matched, then each literal of the one with some literal of the other.
use Rattle.std.specs.Prelude.{◌&&◌, ◌==◌, ℕ, Bool, true, false, Option, Some, None, List, [], ◌∷◌, map, length, nat_le, if◌then◌else◌}
use Rattle.std.specs.Bool.{beq}
use Rattle.std.specs.List.{list_any}
use Rattle.am_term.specs.declared.id.SortId.{SortId}
use Rattle.am_term.specs.declared.signature.Signature.{Signature}
use Rattle.am_term.specs.declared.term.Atom.{Atom}
use Rattle.am_term.specs.declared.term.Atom.TheVariants.{Rel, Eq}
use Rattle.am_term.specs.declared.term.Literal.{Literal}
use Rattle.am_term.specs.declared.term.Term.{Term}
use Rattle.am_clause.specs.declared.clause.Clause.{Clause}
use Rattle.am_unify.specs.Matching.{match_all, matched}

-- terms for variables, in order of their numbers
abbrev pub Bindings : Type 0
Bindings = List (ℕ × Term)

-- what is asked of the bindings once all before is matched
abbrev pub Goal : Type 0
Goal = Bindings → Bool

-- something was matched, and its bindings meet the goal
abbrev pub meets : Option Bindings → Goal → Bool
meets None goal = false
meets (Some bs) goal = goal bs

module _ (sig : Signature) (ins : List SortId) where
  -- as many patterns as terms, each matched with its term
  abbrev pub match_terms : List Term → List Term → Bindings → Option Bindings
  match_terms ps = match_all (map (matched sig ins) ps)

  -- one relation, or both equations: the arguments or the sides are matched
  abbrev pub match_atom : Atom → Atom → Bindings → Option Bindings
  match_atom (Rel r ps) (Rel q ts) bs = if r.0 == q.0 then match_terms ps ts bs else None
  match_atom (Rel r ps) (Eq left right) bs = None
  match_atom (Eq left right) (Rel q ts) bs = None
  match_atom (Eq left right) (Eq first second) bs = match_terms (left ∷ right ∷ []) (first ∷ second ∷ []) bs

  -- of one sign, and the atoms matched
  abbrev pub match_literal : Literal → Literal → Bindings → Option Bindings
  match_literal l m bs = if beq l.positive m.positive then match_atom l.atom m.atom bs else None

  -- each of the literals is matched with one of all
  abbrev pub covers : List Literal → List Literal → Goal
  covers [] all bs = true
  covers (l ∷ ls) all bs = list_any (λ m. meets (match_literal l m bs) (covers ls all)) all

  -- an answer is matched with the other; without one nothing is asked
  abbrev pub match_answer : Option (List Term) → Option (List Term) → Option Bindings
  match_answer None other = Some []
  match_answer (Some ts) None = None
  match_answer (Some ts) (Some us) = match_terms ts us []

  -- d has at most as many literals as c, and its answer and each of its literals are matched
  abbrev pub subsumed_by : Clause → Clause → Bool
  subsumed_by d c = nat_le (length d.literals) (length c.literals) && meets (match_answer d.answer c.answer) (covers d.literals c.literals)

  -- lists of terms are matched in order, and then the goal is met
  abbrev pub after_tasks : List (List Term × List Term) → Goal → Goal
  after_tasks [] goal = goal
  after_tasks (task ∷ tasks) goal = λ bs. meets (match_terms task.0 task.1 bs) (after_tasks tasks goal)
