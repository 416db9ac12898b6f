-- The search for a subsumption: bindings as they grow, and what becomes smaller.
use Rattle.std.proofs.Common.{◌≡◌, ◌==◌, ◌+◌, ◌*◌, ℕ, Bool, true, false, refl, arith, Some, List, [], ◌∷◌, nat_lt, if◌then◌else◌}
use Rattle.std.specs.List.{sum_by}
use Rattle.std.proofs.lemmas.Bool.Decides.{nat_tests}
use Rattle.std.proofs.lemmas.Grind.{common_steps}
use Rattle.am_term.specs.declared.term.Literal.{Literal}
use Rattle.am_term.specs.declared.term.Term.{Term}
use Rattle.am_term.specs.declared.term.Term.TheViews.{the_lemmas}
use Rattle.am_term.specs.Same.{same_term}
use Rattle.am_term.specs.Weight.{nodes, nodes_laws}
use Rattle.am_term.proofs.Instances.{nodes-positive}
use Rattle.am_clause.specs.Size.{atom_weight}
use Rattle.am_unify.specs.Matching.{held, matched_laws}
use Rattle.am_unify.specs.Substitution.{insert_binding}

abbrev pub terms_size : List Term → ℕ
terms_size ts = sum_by nodes ts

abbrev pub todo_size : List (List Term × List Term) → ℕ
todo_size [] = 0
todo_size (task ∷ tasks) = 2 * terms_size task.0 + 1 + todo_size tasks

abbrev pub literals_size : List Literal → ℕ
literals_size [] = 0
literals_size (l ∷ ls) = 2 * atom_weight l.atom + 4 + literals_size ls

-- the latest binding of a number counts
pub held-inserted : (n m : ℕ) (t u : Term) (bs : List (ℕ × Term)) → held (insert_binding n t bs) m u ≡ (if n == m then Some (same_term t u) else held bs m u)
held-inserted n m t u [] = refl
held-inserted n m t u (b ∷ bs) = by_test (held-inserted n m t u bs) (nat_lt b.0 n) refl (b.0 == m) refl (n == m) refl
  where
    by_test : held (insert_binding n t bs) m u ≡ (if n == m then Some (same_term t u) else held bs m u)
        → (l : Bool) → nat_lt b.0 n ≡ l → (c : Bool) → (b.0 == m) ≡ c → (d : Bool) → (n == m) ≡ d
        → held (if l then b ∷ insert_binding n t bs else (n, t) ∷ b ∷ bs) m u ≡ (if n == m then Some (same_term t u) else held (b ∷ bs) m u)
    by_test k true less true here true is = absurd (grind (arith, nat_tests))
    by_test k true less true here false is = rw (here, is) refl
    by_test k true less false here d is = rw here k
    by_test k false less c here d is = refl

pub ruleset running = (common_steps, nat_tests, the_lemmas, matched_laws, nodes_laws, nodes-positive)

pub ruleset holding = (common_steps, nat_tests, held-inserted)

pub ruleset inputs = (common_steps, nat_tests, the_lemmas)
