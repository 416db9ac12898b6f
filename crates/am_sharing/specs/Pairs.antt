-- Variables' numbers with ids, in order of the numbers: words of `inserted` and of private contracts.
use Rattle.std.specs.Prelude.{◌+◌, ◌==◌, ℕ, Bool, List, [], ◌∷◌, Option, Some, None, map, max, nat_lt, option_map, if◌then◌else◌}
use Rattle.am_term.specs.declared.term.Term.{Term}
use Rattle.am_bank.specs.declared.id.TermId.{TermId}
use Rattle.am_bank.specs.Node.{Shared}
use Rattle.am_sharing.specs.Terms.{term_at}

-- the numbers with the ids' terms
abbrev pub pairs_at : List Shared → List (ℕ × TermId) → List (ℕ × Term)
pairs_at ns = map (λ (p : ℕ × TermId). (p.0, term_at ns p.1.0))

-- those of an answer
abbrev pub answer_at : List Shared → Option (List (ℕ × TermId)) → Option (List (ℕ × Term))
answer_at ns = option_map (pairs_at ns)

-- one more than the greatest of the ids, and 0 of none
abbrev pub pairs_bound : List (ℕ × TermId) → ℕ
pairs_bound [] = 0
pairs_bound (p ∷ ps) = max (p.1.0 + 1) (pairs_bound ps)

-- that of an answer
abbrev pub answer_bound : Option (List (ℕ × TermId)) → ℕ
answer_bound None = 0
answer_bound (Some ps) = pairs_bound ps

-- whether the first id of a number is this one, if there is one
abbrev pub held_id : List (ℕ × TermId) → ℕ → ℕ → Option Bool
held_id [] n i = None
held_id (p ∷ ps) n i = if p.0 == n then Some (p.1.0 == i) else held_id ps n i

-- one more pair, before the first whose number isn't smaller
abbrev pub insert_id : ℕ → TermId → List (ℕ × TermId) → List (ℕ × TermId)
insert_id n i [] = (n, i) ∷ []
insert_id n i (p ∷ ps) = if nat_lt p.0 n then p ∷ insert_id n i ps else (n, i) ∷ p ∷ ps
