-- Names by places are those that are made one after another.
use Rattle.std.proofs.Common.{◌≡◌, ◌∙◌, ◌+◌, ℕ, refl, ap, arith, Option, Some, None, List, [], ◌∷◌, ◌++◌, length}
use Rattle.std.specs.List.{filter}
use Rattle.std.proofs.lemmas.Grind.{common_steps}
use Rattle.std.proofs.lemmas.List.{length-append}
use Rattle.std.proofs.lemmas.List.Elements.{filter-append}
use Rattle.am_term.specs.declared.id.SortId.{SortId}
use Rattle.am_term.specs.declared.term.Term.{Term}
use Rattle.am_theory.specs.declared.theory.Theory.{Theory}
use Rattle.am_diagram.specs.declared.diagram.Diagram.{Diagram}
use Rattle.am_plan.specs.Calls.{made}
use Rattle.am_plan.specs.Names.{output_for, named_by, is_absent, locals_among, named_behind, named_terms}
use Rattle.am_plan.specs.Numbering.{next_local, named_from}

module _ (os : List (List ℕ × SortId)) (answer : List Term) where
  -- one more term
  counted : (before : List Term) (x : Term) → locals_among os answer (before ++ x ∷ []) + 1 ≡ next_local (output_for x os answer) (locals_among os answer before + 1)
  counted before x =
      ap (λ (ys : List Term). length ys + 1) (filter-append (λ (y : Term). is_absent (output_for y os answer)) before (x ∷ []))
      ∙ ap (λ n. n + 1) (length-append (filter (λ (y : Term). is_absent (output_for y os answer)) before) (filter (λ (y : Term). is_absent (output_for y os answer)) (x ∷ [])))
      ∙ by_output (locals_among os answer before) (output_for x os answer) refl
    where
      by_output : (n : ℕ) (o : Option (List ℕ)) → output_for x os answer ≡ o → n + length (filter (λ (y : Term). is_absent (output_for y os answer)) (x ∷ [])) + 1 ≡ next_local o (n + 1)
      by_output n None is = rw is (let z : n + 1 + 1 ≡ n + 1 + 1 = refl in z)
      by_output n (Some m) is = rw is (let z : n + 0 + 1 ≡ n + 1 = omega arith in z)

  pub behind-from : (before xs : List Term) → named_behind os answer before xs ≡ named_from (locals_among os answer before + 1) os answer xs
  behind-from before [] = refl
  behind-from before (x ∷ xs) =
      ap (λ es. named_by (output_for x os answer) (locals_among os answer before + 1) x ∷ es)
      (behind-from (before ++ x ∷ []) xs ∙ ap (λ k. named_from k os answer xs) (counted before x))

  pub from-start : (xs : List Term) → named_behind os answer [] xs ≡ named_from 1 os answer xs
  from-start xs = behind-from [] xs

pub named-are : (t : Theory) (d : Diagram) (answer : List Term) → named_terms t d answer ≡ named_from 1 d.outputs answer (made t answer)
unfolding named_terms
named-are t d answer = from-start d.outputs answer (made t answer)

pub ruleset numbering = (common_steps, from-start)
