-- Conclusions of all rules but those that replace a part are well sorted.
use Rattle.std.proofs.Common.{◌≡◌, ◌∙◌, ◌++◌, ℕ, zero, suc, Bool, true, List, Option, Some, None}
use Rattle.std.specs.List.{list_all}
use Rattle.std.proofs.lemmas.List.Folds.{list_all-append}
use Rattle.am_term.specs.declared.id.SortId.{SortId}
use Rattle.am_term.specs.declared.signature.Signature.{Signature}
use Rattle.am_term.specs.declared.term.Term.{Term}
use Rattle.am_term.specs.declared.term.Literal.{Literal}
use Rattle.am_term.specs.Same.{same_literal}
use Rattle.am_term.specs.Sorting.{is_sorted_literal}
use Rattle.am_term.proofs.Tests.{and_left, and_right, and_both}
use Rattle.am_clause.specs.declared.clause.Clause.{Clause}
use Rattle.am_clause.specs.Bound.{without_repeats}
use Rattle.am_term.specs.Parts.{without}
use Rattle.am_clause.specs.SortedClause.{is_sorted_answer, is_sorted_clause}
use Rattle.am_clause.specs.Rules.{shared, reflex, resolve}
use Rattle.am_calculus.proofs.SortedInstances.{all-removed, all-distinct}

module _ (sig : Signature) (ins : List SortId) where
  abbrev all_sorted : List Literal → Bool
  all_sorted = list_all (is_sorted_literal sig ins)

  pub merged-sorted : (c : Clause) → is_sorted_clause sig ins c ≡ true → is_sorted_clause sig ins (without_repeats c) ≡ true
  merged-sorted c e = and_both _ (is_sorted_answer sig ins c.answer) (all-distinct (is_sorted_literal sig ins) same_literal c.literals (and_left (all_sorted c.literals) (is_sorted_answer sig ins c.answer) e)) (and_right (all_sorted c.literals) (is_sorted_answer sig ins c.answer) e)

  without-sorted : (ls : List Literal) (i : ℕ) → all_sorted ls ≡ true → all_sorted (without ls i) ≡ true
  without-sorted ls zero e = e
  without-sorted ls (suc i) e = all-removed (is_sorted_literal sig ins) ls i e

  shared-sorted : (o u : Option (List Term)) → is_sorted_answer sig ins o ≡ true → is_sorted_answer sig ins u ≡ true → is_sorted_answer sig ins (shared o u) ≡ true
  shared-sorted None u e f = f
  shared-sorted (Some ts) u e f = e

  pub reflex-sorted : (i : ℕ) (c : Clause) → is_sorted_clause sig ins c ≡ true → is_sorted_clause sig ins ((reflex i).made c) ≡ true
  reflex-sorted i c e = and_both (all_sorted (without c.literals i)) (is_sorted_answer sig ins c.answer) (without-sorted c.literals i (and_left (all_sorted c.literals) (is_sorted_answer sig ins c.answer) e)) (and_right (all_sorted c.literals) (is_sorted_answer sig ins c.answer) e)

  pub resolve-sorted : (i j : ℕ) (c d : Clause) → is_sorted_clause sig ins c ≡ true → is_sorted_clause sig ins d ≡ true → is_sorted_clause sig ins ((resolve i j).made c d) ≡ true
  resolve-sorted i j c d e f = and_both (all_sorted (without c.literals i ++ without d.literals j)) (is_sorted_answer sig ins (shared c.answer d.answer))
      (list_all-append (is_sorted_literal sig ins) (without c.literals i) (without d.literals j) ∙ and_both (all_sorted (without c.literals i)) (all_sorted (without d.literals j))
      (without-sorted c.literals i (and_left (all_sorted c.literals) (is_sorted_answer sig ins c.answer) e))
      (without-sorted d.literals j (and_left (all_sorted d.literals) (is_sorted_answer sig ins d.answer) f)))
      (shared-sorted c.answer d.answer (and_right (all_sorted c.literals) (is_sorted_answer sig ins c.answer) e) (and_right (all_sorted d.literals) (is_sorted_answer sig ins d.answer) f))
