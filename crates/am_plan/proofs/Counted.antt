-- The calls of an answer make fewer terms than there are names of locals.
use Rattle.std.proofs.Common.{◌≡◌, ◌∙◌, ◌++◌, ◌+◌, ◌*◌, ◌<◌, ◌≤◌, ℕ, suc, arith, Bool, true, false, not, cond, refl, sym, ap, subst, List, [], ◌∷◌, Option, Some, None, length, sum_by}
use Rattle.std.proofs.lemmas.List.{length-append, length-map}
use Rattle.std.specs.List.{AllByRecursion, filter, flat_map}
use Rattle.am_term.specs.declared.id.SortId.{SortId}
use Rattle.am_term.specs.declared.id.SymId.{SymId}
use Rattle.am_term.specs.declared.term.Term.{Term}
use Rattle.am_term.specs.declared.term.Term.TheVariants.{Var, In, App}
use Rattle.am_term.specs.Fold.{para-Var}
use Rattle.am_term.specs.Induct.{terms_induct}
use Rattle.am_term.specs.Weight.{nodes, nodes-Var, nodes-In, nodes-App}
use Rattle.am_clause.specs.Distinct.{distinct}
use Rattle.am_theory.specs.declared.theory.Theory.{Theory}
use Rattle.am_theory.specs.Facts.{WellFormed, IsRoutine}
use Rattle.am_diagram.specs.declared.diagram.Diagram.{Diagram}
use Rattle.am_diagram.specs.Listed.{entry_sorts}
use Rattle.am_plan.specs.declared.call.Callee.{Callee}
use Rattle.am_plan.specs.declared.call.Callee.TheVariants as callee
use Rattle.am_plan.specs.Calls.{PlannedCall, under_step, terms_below, completed, call_of, call_with, listed_option, same_call, asks_for, calls, outputs_made, value_made, made_by, made}
use Rattle.am_plan.specs.Answers.{AllServe}
use Rattle.am_plan.proofs.Standing.{all-index}
use Rattle.am_plan.proofs.Running.{CalleeFits}
use Rattle.am_plan.proofs.Asked.{asks, nodes-first, terms_below-In, terms_below-App}

terms_below-Var : (n : ℕ) (s : SortId) → terms_below (Var n s) ≡ []
unfolding terms_below
terms_below-Var n s = para-Var (List Term) under_step n s

-- a term has as many terms as nodes
one-more : (xs : List Term) (x : Term) (n : ℕ) → length xs ≡ n → length (xs ++ x ∷ []) ≡ n + 1
one-more xs x n e = length-append xs (x ∷ []) ∙ ap (λ (m : ℕ). m + 1) e

completed-counted : (xs : List Term) → length (flat_map completed xs) ≡ sum_by nodes xs
completed-counted = terms_induct
    (λ x. length (completed x) ≡ nodes x)
    (λ xs. length (flat_map completed xs) ≡ sum_by nodes xs)
    (λ n s. one-more (terms_below (Var n s)) (Var n s) 0 (ap length (terms_below-Var n s)) ∙ sym (nodes-Var n s))
    (λ k. one-more (terms_below (In k)) (In k) 0 (ap length (terms_below-In k)) ∙ sym (nodes-In k))
    (λ f args h. one-more (terms_below (App f args)) (App f args) (sum_by nodes args) (ap length (terms_below-App f args) ∙ h) ∙ sym (nodes-App f args))
    refl
    (λ x xs h k. length-append (completed x) (flat_map completed xs) ∙ ap (λ (n : ℕ). n + length (flat_map completed xs)) h ∙ ap (λ (n : ℕ). nodes x + n) k ∙ sym (nodes-first x xs))

asks-few : (t : Theory) (xs : List Term) → length (asks t xs) ≤ length xs
asks-few t [] = omega arith
asks-few t (x ∷ xs) = by_call (call_of t x) (asks-few t xs)
  where
    by_call : (o : Option PlannedCall) → length (asks t xs) ≤ length xs → length (listed_option o ++ asks t xs) ≤ length (x ∷ xs)
    by_call None h = omega arith
    by_call (Some c) h = omega arith

filter-few : {A : Type 0} (p : A → Bool) (xs : List A) → length (filter p xs) ≤ length xs
filter-few {A = A} p [] = omega arith
filter-few {A = A} p (x ∷ xs) = by_test (p x) (filter-few p xs)
  where
    by_test : (b : Bool) → length (filter p xs) ≤ length xs → length (cond b (x ∷ filter p xs) (filter p xs)) ≤ length (x ∷ xs)
    by_test true h = omega arith
    by_test false h = omega arith

distinct-few : {A : Type 0} (same : A → A → Bool) (xs : List A) → length (distinct same xs) ≤ length xs
distinct-few {A = A} same [] = omega arith
distinct-few {A = A} same (x ∷ xs) = both (length (filter (λ y. not (same x y)) (distinct same xs))) (length (distinct same xs)) (length xs) (filter-few (λ y. not (same x y)) (distinct same xs)) (distinct-few same xs)
  where
    both : (a b c : ℕ) → a ≤ b → b ≤ c → suc a ≤ suc c
    both a b c e f = omega arith

module _ (t : Theory) (h : WellFormed t) (d : Diagram) where
  makes-few : (args : List Term) (c : Callee) → CalleeFits t (entry_sorts d.inputs) args c → length (made_by t (call_with args c)) ≤ 12
  makes-few args (callee.Routine k) fit =
      subst (λ (n : ℕ). n ≤ 12) (sym (ap (λ (ys : List Term). length ys) (ap (outputs_made args) fit.1) ∙ length-map fit.0.outputs (λ (f : SymId). App f args)))
      (all-index (IsRoutine t) t.routines k fit.0 h.routines fit.1).few_outputs
  makes-few args (callee.Function k) fit = subst (λ (n : ℕ). n ≤ 12) (sym (ap (λ (ys : List Term). length ys) (ap (value_made args) fit.1))) (omega arith)

  all-few : (cs : List PlannedCall) → AllByRecursion (λ (c : PlannedCall). CalleeFits t (entry_sorts d.inputs) c.args c.callee) cs → length (flat_map (made_by t) cs) ≤ 12 * length cs
  all-few [] f = omega arith
  all-few (c ∷ cs) f = joined (length (made_by t c)) (length (flat_map (made_by t) cs)) (length cs) (length (made_by t c ++ flat_map (made_by t) cs)) (length-append (made_by t c) (flat_map (made_by t) cs)) (makes-few c.args c.callee f.0) (all-few cs f.1)
    where
      joined : (a b n w : ℕ) → w ≡ a + b → a ≤ 12 → b ≤ 12 * n → w ≤ 12 * suc n
      joined a b n w e f g = omega arith

  serve-few : (os : List (List ℕ × SortId)) (xs : List Term) → AllServe t d os xs → sum_by nodes xs ≤ 400 * length os
  serve-few [] [] s = omega arith
  serve-few [] (x ∷ xs) s = absurd s
  serve-few (o ∷ os) [] s = absurd s
  serve-few (o ∷ os) (x ∷ xs) s = joined (nodes x) (sum_by nodes xs) (length os) (sum_by nodes (x ∷ xs)) (nodes-first x xs) s.0.small (serve-few os xs s.1)
    where
      joined : (a b n w : ℕ) → w ≡ a + b → a ≤ 400 → b ≤ 400 * n → w ≤ 400 * suc n
      joined a b n w e f g = omega arith

  -- 18 outputs of 400 nodes ask for 7,200 calls, which make 86,400 terms
  pub made-few : (answer : List Term) → length d.outputs ≤ 18 → AllServe t d d.outputs answer → AllByRecursion (λ (c : PlannedCall). CalleeFits t (entry_sorts d.inputs) c.args c.callee) (calls t answer) → length (made t answer) + 1 < 100000
  unfolding calls
  made-few answer few serve fit =
      together (length (flat_map (made_by t) (distinct same_call (asks_for t answer)))) (length (distinct same_call (asks_for t answer))) (length (asks_for t answer)) (length (flat_map completed answer)) (sum_by nodes answer) (length d.outputs)
      (all-few (distinct same_call (asks_for t answer)) fit) (distinct-few same_call (asks_for t answer)) (asks-few t (flat_map completed answer)) (completed-counted answer) (serve-few d.outputs answer serve) few
    where
      together : (m c a f n o : ℕ) → m ≤ 12 * c → c ≤ a → a ≤ f → f ≡ n → n ≤ 400 * o → o ≤ 18 → m + 1 < 100000
      together m c a f n o e1 e2 e3 e4 e5 e6 = omega arith
