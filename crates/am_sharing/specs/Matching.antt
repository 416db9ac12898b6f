-- What matching over ids answers: what matching of their terms does, with an id for each term.
use Rattle.std.specs.Prelude.{◌≡◌, ℕ, List, Option, Some, None}
use Rattle.am_term.specs.declared.id.SortId.{SortId}
use Rattle.am_term.specs.declared.signature.Signature.{Signature}
use Rattle.am_term.specs.declared.term.Term.{Term}
use Rattle.am_unify.specs.Matching.{IsMatched}
use Rattle.am_bank.specs.declared.shared.SharedSubst.{SharedSubst}
use Rattle.am_bank.specs.Node.{Shared}
use Rattle.am_bank.specs.Stands.{bindings_of}

-- an answer: no instance of the pattern is the term, or bindings that stand for those of the one
abbrev pub IsMatchedShared : List Shared → Signature → List SortId → (ℕ → SortId) → Term → Term → Option SharedSubst → Type 0
IsMatchedShared ns sig ins sorts pattern term None = IsMatched sig ins sorts pattern term None
IsMatchedShared ns sig ins sorts pattern term (Some s) =
    (bs : List (ℕ × Term)) × ((bindings_of ns s ≡ Some bs) × IsMatched sig ins sorts pattern term (Some bs))
