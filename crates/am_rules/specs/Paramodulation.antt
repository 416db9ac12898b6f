-- For the private contracts and the proofs of this crate alone: a side of an equation of p stands at a place of a literal of q.
use Rattle.std.specs.Prelude.{◌≡◌, ◌⊎◌, ◌++◌, ℕ, List, [], ◌∷◌, map, Option, Some, None, option_map, option_and_then, if◌then◌else◌, IsTrue, IsFalse}
use Rattle.am_term.specs.declared.id.SortId.{SortId}
use Rattle.am_term.specs.declared.signature.Signature.{Signature}
use Rattle.am_term.specs.declared.term.Term.{Term}
use Rattle.am_term.specs.declared.term.Literal.{Literal}
use Rattle.am_term.specs.Instance.{instance}
use Rattle.am_clause.specs.declared.clause.Clause.{Clause}
use Rattle.am_clause.specs.declared.row.Made.{Made}
use Rattle.am_clause.specs.declared.row.Side.{Side}
use Rattle.am_clause.specs.Merge.{merged}
use Rattle.am_rules.specs.Asked.{Pairs, answer_pairs, both_pairs}
use Rattle.am_rules.specs.Made.{IsMadeOfSuch}
use Rattle.am_rules.specs.Parts.{literal_under, answer_under, all_but}
use Rattle.am_rules.specs.Replacing.{other_of, put_part, changed}
use Rattle.am_rules.specs.Resolution.{nth_atom, AnswersMeet}
use Rattle.am_rules.specs.Solving.{solved}
use Rattle.am_clause.specs.SortedClause.{is_sorted_clause}
use Rattle.am_clause.specs.Rules.{side_of, shared}
use Rattle.am_term.specs.Parts.{place_in}

-- both terms are there, and become one
abbrev pub TermsMeet : (Term → Term) → (Term → Term) → Option Term → Option Term → Type 0
TermsMeet f g None u = ⊥
TermsMeet f g (Some t) None = ⊥
TermsMeet f g (Some t) (Some u) = f t ≡ g u

abbrev pub side_in : Clause → ℕ → Side → Option Term
side_in p j side = option_and_then (side_of side) (nth_atom j p)

abbrev pub other_in : Clause → ℕ → Side → Option Term
other_in p j side = option_and_then (other_of side) (nth_atom j p)

abbrev pub part_in : Clause → ℕ → List ℕ → Option Term
part_in q i path = option_and_then (place_in path) (nth_atom i q)

-- the named side of equation j of p and the part of literal i of q become one, and the answers
pub record ParaMeets (p : Clause) (j : ℕ) (side : Side) (q : Clause) (i : ℕ) (path : List ℕ) (f g : Term → Term) : Type 0 where
  pub terms : TermsMeet f g (side_in p j side) (part_in q i path)
  pub answers : AnswersMeet f g p.answer q.answer

-- q with the part replaced by the other side, then p without j, in their instances
abbrev pub replaced_literals : Clause → ℕ → Side → Clause → ℕ → List ℕ → List Term → List Term → List Literal
replaced_literals p j side q i path xs ys =
    changed i (put_part (option_map (instance xs) (other_in p j side)) path) (map (literal_under ys) q.literals) ++ map (literal_under xs) (all_but j p.literals)

abbrev pub paramodulant : Clause → ℕ → Side → Clause → ℕ → List ℕ → List Term → List Term → Clause
paramodulant p j side q i path xs ys = record {
  literals = merged (replaced_literals p j side q i path xs ys);
  answer = shared (answer_under xs p.answer) (answer_under ys q.answer);
}

abbrev pub term_pairs : Option Term → Option Term → Pairs
term_pairs None u = None
term_pairs (Some t) None = None
term_pairs (Some t) (Some u) = Some ((t, u) ∷ [])

abbrev pub para_pairs : Clause → ℕ → Side → Clause → ℕ → List ℕ → Pairs
para_pairs p j side q i path = both_pairs (term_pairs (side_in p j side) (part_in q i path)) (answer_pairs p.answer q.answer)

abbrev pub paramodulation : Signature → List SortId → Clause → ℕ → Side → Clause → ℕ → List ℕ → Option Made
paramodulation sig ins p j side q i path = solved sig ins p q (paramodulant p j side q i path) (para_pairs p j side q i path)

-- a row that is made, whose clause is well sorted
pub record IsMadeSorted (sig : Signature) (ins : List SortId) (Such : List (List Term) → Type 0) (conclusion : List (List Term) → Clause) (m : Made) : Type 0 where
  pub made : IsMadeOfSuch sig ins Such conclusion m
  pub sorted : IsTrue (is_sorted_clause sig ins m.clause)

-- a row is made, whose clause isn't well sorted
pub record IsMadeUnsorted (sig : Signature) (ins : List SortId) (Such : List (List Term) → Type 0) (conclusion : List (List Term) → Clause) : Type 0 where
  pub row : Made
  pub made : IsMadeOfSuch sig ins Such conclusion row
  pub unsorted : IsFalse (is_sorted_clause sig ins row.clause)

-- an answer: no lists are such, or what is made isn't well sorted; or what is made
abbrev pub IsSortedAnswer : Signature → List SortId → (List (List Term) → Type 0) → (List (List Term) → Clause) → Option Made → Type 0
IsSortedAnswer sig ins Such conclusion None = ((ws : List (List Term)) → Such ws → ⊥) ⊎ IsMadeUnsorted sig ins Such conclusion
IsSortedAnswer sig ins Such conclusion (Some m) = IsMadeSorted sig ins Such conclusion m

-- a row whose clause isn't well sorted is none
abbrev pub sorted_only : Signature → List SortId → Option Made → Option Made
sorted_only sig ins None = None
sorted_only sig ins (Some m) = if is_sorted_clause sig ins m.clause then Some m else None
