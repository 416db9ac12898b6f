-- Numbers with ids, and the numbers with the ids' terms.
use Rattle.std.proofs.Common.{◌≡◌, ◌==◌, ◌+◌, ◌<◌, ◌≤◌, ℕ, Bool, true, false, List, [], ◌∷◌, Option, Some, refl, ap, ap₂, map, length, drop, get_or, max, arith, nat_lt, option_map, if◌then◌else◌}
use Rattle.std.proofs.lemmas.Grind.{common_steps}
use Rattle.std.proofs.lemmas.Bool.Decides.{nat_tests}
use Rattle.std.proofs.lemmas.List.{drop_more}
use Rattle.am_term.specs.declared.term.Term.{Term}
use Rattle.am_unify.specs.Matching.{held}
use Rattle.am_unify.specs.Substitution.{insert_binding}
use Rattle.am_bank.specs.declared.id.TermId.{TermId}
use Rattle.am_bank.specs.Node.{Shared}
use Rattle.am_bank.specs.Bank.{IsBank}
use Rattle.am_bank.specs.Trees.{tree}
use Rattle.am_bank.specs.Stands.{all_there}
use Rattle.am_sharing.specs.Terms.{term_at}
use Rattle.am_sharing.specs.Pairs.{pairs_at, pairs_bound, held_id, insert_id}
use Rattle.am_sharing.proofs.Nodes.{same-id, tree-is}

-- what is left decides
pub held_id-at : (ps : List (ℕ × TermId)) (i n j : ℕ) (x : ℕ × TermId) → i < length ps → held_id (drop i ps) n j ≡ (let p = get_or ps i x in if p.0 == n then Some (p.1.0 == j) else held_id (drop (i + 1) ps) n j)
held_id-at ps i n j x h = rw (drop_more ps i x h) refl

pub ruleset holding = (common_steps, nat_tests, held_id-at)

pub ruleset inserting = (common_steps, nat_tests)

module _ (ns : List Shared) where
  -- a number is held with an id as it is with the id's term
  pub held-is : IsBank ns → (ps : List (ℕ × TermId)) (n i : ℕ) → pairs_bound ps ≤ length ns → i < length ns → held_id ps n i ≡ held (pairs_at ns ps) n (term_at ns i)
  held-is bank [] n i h k = refl
  held-is bank (p ∷ ps) n i h k = ap₂ (λ (b : Bool) (o : Option Bool). if p.0 == n then Some b else o) (same-id ns bank p.1.0 i (omega arith) k) (held-is bank ps n i (omega arith) k)

  pub insert-is : (n : ℕ) (i : TermId) (ps : List (ℕ × TermId)) → pairs_at ns (insert_id n i ps) ≡ insert_binding n (term_at ns i.0) (pairs_at ns ps)
  insert-is n i [] = refl
  insert-is n i (p ∷ ps) = by_test (nat_lt p.0 n) (insert-is n i ps)
    where
      by_test : (l : Bool) → pairs_at ns (insert_id n i ps) ≡ insert_binding n (term_at ns i.0) (pairs_at ns ps) → pairs_at ns (if l then p ∷ insert_id n i ps else (n, i) ∷ p ∷ ps) ≡ (if l then (p.0, term_at ns p.1.0) ∷ insert_binding n (term_at ns i.0) (pairs_at ns ps) else (n, term_at ns i.0) ∷ pairs_at ns (p ∷ ps))
      by_test true e = ap (λ (bs : List (ℕ × Term)). (p.0, term_at ns p.1.0) ∷ bs) e
      by_test false e = refl

  -- read back, each id has its term
  pub bindings-are : (ps : List (ℕ × TermId)) → pairs_bound ps ≤ length ns → all_there (map (λ (p : ℕ × TermId). option_map (λ (t : Term). (p.0, t)) (tree ns p.1.0)) ps) ≡ Some (pairs_at ns ps)
  bindings-are [] h = refl
  bindings-are (p ∷ ps) h = rw (tree-is ns p.1.0 (omega arith), bindings-are ps (omega arith)) refl

pub insert-bound : (n : ℕ) (i : TermId) (ps : List (ℕ × TermId)) → pairs_bound (insert_id n i ps) ≡ max (i.0 + 1) (pairs_bound ps)
insert-bound n i [] = refl
insert-bound n i (p ∷ ps) = by_test (nat_lt p.0 n) (insert-bound n i ps)
  where
    by_test : (l : Bool) → pairs_bound (insert_id n i ps) ≡ max (i.0 + 1) (pairs_bound ps) → pairs_bound (if l then p ∷ insert_id n i ps else (n, i) ∷ p ∷ ps) ≡ max (i.0 + 1) (max (p.1.0 + 1) (pairs_bound ps))
    by_test true e = omega (arith, e)
    by_test false e = refl
