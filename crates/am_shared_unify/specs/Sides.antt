-- Words of private contracts: the terms of ids that are known to be of a bank, in pairs and bindings.
use Rattle.std.specs.Prelude.{◌==◌, ℕ, List, [], ◌∷◌, map, if◌then◌else◌}
use Rattle.am_term.specs.declared.term.Term.{Term}
use Rattle.am_unify.specs.Substitution.{Substitution, apply, listed}
use Rattle.am_bank.specs.declared.id.TermId.{TermId}
use Rattle.am_bank.specs.Node.{Shared}
use Rattle.am_sharing.specs.Pairs.{pairs_at}
use Rattle.am_sharing.specs.Terms.{term_at}

-- the terms of a pair
abbrev pub sides_at : List Shared → TermId × TermId → Term × Term
sides_at ns p = (term_at ns p.0.0, term_at ns p.1.0)

-- those of some pairs
abbrev pub term_sides : List Shared → List (TermId × TermId) → List (Term × Term)
term_sides ns = map (sides_at ns)

-- what both sides of a pair become
abbrev pub sides_applied : Substitution → Term × Term → Term × Term
sides_applied θ p = (apply θ p.0, apply θ p.1)

-- a variable becomes the term of the id listed for its number, if there is one
abbrev pub listed_at : List Shared → List (ℕ × TermId) → Substitution
listed_at ns found = listed (pairs_at ns found)

-- the first id of a number, or else another id
abbrev pub id_for : List (ℕ × TermId) → ℕ → TermId → TermId
id_for [] n other = other
id_for (p ∷ ps) n other = if p.0 == n then p.1 else id_for ps n other
