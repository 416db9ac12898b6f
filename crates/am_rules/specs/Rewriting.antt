-- For the private contracts and the proofs of this crate alone: matching of terms that may be absent, and the terms by which nothing changes.
use Rattle.std.specs.Prelude.{ℕ, List, [], map, Option, Some, None, option_map}
use Rattle.am_term.specs.declared.id.SortId.{SortId}
use Rattle.am_term.specs.declared.signature.Signature.{Signature}
use Rattle.am_term.specs.declared.term.Term.{Term}
use Rattle.am_term.specs.declared.term.Term.TheVariants.{Var}
use Rattle.am_clause.specs.declared.clause.Clause.{Clause}
use Rattle.am_clause.specs.declared.row.Made.{Made}
use Rattle.am_clause.specs.declared.row.Side.{Side}
use Rattle.am_clause.specs.Variables.{Variable, variables}
use Rattle.am_unify.specs.Matching.{matched}
use Rattle.am_rules.specs.Paramodulation.{side_in, part_in, paramodulant}
use Rattle.am_rules.specs.Solving.{images, made_of_lists}

-- each variable as a term
abbrev pub own_terms : List Variable → List Term
own_terms vs = map (λ (v : Variable). Var v.0 v.1) vs

-- the bindings that make the pattern the term, where both are there
abbrev pub found_match : Signature → List SortId → Option Term → Option Term → Option (List (ℕ × Term))
found_match sig ins None part = None
found_match sig ins (Some pattern) None = None
found_match sig ins (Some pattern) (Some part) = matched sig ins pattern part []

-- rewriting as the code goes: what is made of these bindings, and of those that are found
abbrev pub rewriting_made : Clause → Side → Clause → ℕ → List ℕ → List (ℕ × Term) → Made
rewriting_made p side q i path found = made_of_lists (paramodulant p 1 side q i path) (images found 0 (variables p)) (own_terms (variables q))

abbrev pub rewriting_found : Signature → List SortId → Clause → Side → Clause → ℕ → List ℕ → Option Made
rewriting_found sig ins p side q i path = option_map (rewriting_made p side q i path) (found_match sig ins (side_in p 1 side) (part_in q i path))
