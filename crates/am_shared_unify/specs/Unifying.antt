-- What unification over ids answers: what the textbook recursion gives for their terms, with an id for each term.
use Rattle.std.specs.Prelude.{◌≡◌, ◌+◌, ℕ, List, [], ◌∷◌, Option, Some, None, map, max, option_map, option_and_then}
use Rattle.am_term.specs.declared.id.SortId.{SortId}
use Rattle.am_term.specs.declared.signature.Signature.{Signature}
use Rattle.am_term.specs.declared.term.Term.{Term}
use Rattle.am_unify.specs.Unifier.{IsSolved}
use Rattle.am_bank.specs.declared.id.TermId.{TermId}
use Rattle.am_bank.specs.declared.shared.SharedSubst.{SharedSubst}
use Rattle.am_bank.specs.Node.{Shared}
use Rattle.am_bank.specs.Trees.{tree}
use Rattle.am_bank.specs.Stands.{all_there, bindings_of}

-- one more than the greatest id of the pairs, and 0 of none
abbrev pub pair_ids_bound : List (TermId × TermId) → ℕ
pair_ids_bound [] = 0
pair_ids_bound (p ∷ ps) = max (max (p.0.0 + 1) (p.1.0 + 1)) (pair_ids_bound ps)

-- the pairs of terms that some pairs of ids stand for
abbrev pub pairs_of : List Shared → List (TermId × TermId) → Option (List (Term × Term))
pairs_of ns ps = all_there (map (λ (p : TermId × TermId). option_and_then (λ (l : Term). option_map (λ (r : Term). (l, r)) (tree ns p.1.0)) (tree ns p.0.0)) ps)

-- an answer over ids is one over terms: none is none, and bindings are those that the ids stand for
abbrev pub IsUnifiedShared : List Shared → Option SharedSubst → Option (List (ℕ × Term)) → Type 0
IsUnifiedShared ns None answer = answer ≡ None
IsUnifiedShared ns (Some s) answer = (bs : List (ℕ × Term)) × ((bindings_of ns s ≡ Some bs) × (answer ≡ Some bs))

-- an answer over ids solves the pairs of terms: there is no unifier, or the bindings that the ids stand for are a solution
abbrev pub IsSolvedShared : List Shared → Signature → List SortId → (ℕ → SortId) → List (Term × Term) → Option SharedSubst → Type 0
IsSolvedShared ns sig ins sorts ps None = IsSolved sig ins sorts ps None
IsSolvedShared ns sig ins sorts ps (Some s) = (bs : List (ℕ × Term)) × ((bindings_of ns s ≡ Some bs) × IsSolved sig ins sorts ps (Some bs))
