-- Under a list of terms that binds a clause, the answer goes on to fit the places that it fitted.
use Rattle.std.proofs.Common.{◌≡◌, ◌∙◌, ◌||◌, ℕ, zero, suc, true, ap, subst, List, [], ◌∷◌, map, slice_get, slice_index_or, Option, Some, None}
use Rattle.std.specs.List.{list_any}
use Rattle.std.proofs.lemmas.List.Folds.{list_any-append}
use Rattle.am_term.specs.declared.id.SortId.{SortId}
use Rattle.am_term.specs.declared.signature.Signature.{Signature}
use Rattle.am_term.specs.declared.term.Term.{Term}
use Rattle.am_term.specs.declared.term.Term.TheVariants.{Var}
use Rattle.am_term.specs.Instance.{instance, instance-Var}
use Rattle.am_term.specs.Sorting.{sorts_of, fit_places, term_fits}
use Rattle.am_term.specs.Variables.{occurs}
use Rattle.am_term.proofs.Kept.{instances-fit}
use Rattle.am_term.proofs.Tests.{and_left, and_right}
use Rattle.am_clause.specs.declared.clause.Clause.{Clause}
use Rattle.am_clause.specs.Bound.{instance_answer}
use Rattle.am_clause.specs.Distinct.{among}
use Rattle.am_clause.specs.Numbered.{IsNumbered, sorts_in}
use Rattle.am_clause.specs.Renaming.{places_in}
use Rattle.am_clause.specs.SortedClause.{are_bindings}
use Rattle.am_clause.specs.Variables.{Variable, same_variable, occurrences, occurrences_all, in_literals, in_answer, in_clause, variables, occurrences-none, occurrences-more}
use Rattle.am_clause.proofs.Bijections.{read-place, listed}
use Rattle.am_clause.proofs.Occurring.{among-occurs}
use Rattle.am_clause.proofs.Renames.{Within, within-right}

sort-read : (vs : List Variable) (k : ℕ) (v : Variable) → slice_get vs k ≡ Some v → slice_get (map (λ (x : Variable). x.1) vs) k ≡ Some v.1
sort-read [] k v e = absurd cc
sort-read (x ∷ xs) zero v e = let one : x ≡ v = cc in ap (λ (y : Variable). Some y.1) one
sort-read (x ∷ xs) (suc k) v e = sort-read xs k v e

-- a numbered clause has the sort of each of its variables at the variable's number
sort-at : (c : Clause) → IsNumbered c → (v : Variable) → Within v (in_clause c) → slice_get (sorts_in c) v.0 ≡ Some v.1
sort-at c numbered v m =
    let read : slice_get (variables c) (places_in (variables c) v.0 v.1) ≡ Some v = read-place (variables c) v (listed v c m) in
    ap (slice_get (sorts_in c)) (numbered (places_in (variables c) v.0 v.1) v read) ∙ sort-read (variables c) (places_in (variables c) v.0 v.1) v read

among-all : (n : ℕ) (s : SortId) (ts : List Term) → among same_variable (n, s) (occurrences_all ts) ≡ list_any (occurs n s) ts
among-all n s [] = ap (among same_variable (n, s)) occurrences-none
among-all n s (t ∷ ts) = ap (among same_variable (n, s)) (occurrences-more t ts) ∙ (list_any-append (same_variable (n, s)) (occurrences t) (occurrences_all ts)
    ∙ (ap (λ b. b || among same_variable (n, s) (occurrences_all ts)) (among-occurs n s t) ∙ ap (λ b. occurs n s t || b) (among-all n s ts)))

module _ (sig : Signature) (ins : List SortId) where
  -- the k-th term fits the k-th place
  fit-at : (ts : List Term) (ps : List SortId) (k : ℕ) (s : SortId) (d : Term) → fit_places sig (sorts_of sig ins ts) ps ≡ true → slice_get ps k ≡ Some s → term_fits sig ins (slice_index_or ts k d) s ≡ true
  fit-at ts [] k s d e at = absurd cc
  fit-at [] (p ∷ ps) k s d e at = absurd cc
  fit-at (t ∷ ts) (p ∷ ps) zero s d e at = let one : p ≡ s = cc in subst (λ (x : SortId). term_fits sig ins t x ≡ true) one (and_left (term_fits sig ins t p) (fit_places sig (sorts_of sig ins ts) ps) e)
  fit-at (t ∷ ts) (p ∷ ps) (suc k) s d e at = fit-at ts ps k s d (and_right (term_fits sig ins t p) (fit_places sig (sorts_of sig ins ts) ps) e) at

  -- each variable of the clause becomes a term whose sort fits its own
  variable-fits : (with : List Term) (c : Clause) → IsNumbered c → are_bindings sig ins with c ≡ true → (v : Variable) → Within v (in_clause c) → term_fits sig ins (instance with (Var v.0 v.1)) v.1 ≡ true
  variable-fits with c numbered binds v m = ap (λ t. term_fits sig ins t v.1) (instance-Var with v.0 v.1) ∙ fit-at with (sorts_in c) v.0 v.1 (Var v.0 v.1) binds (sort-at c numbered v m)

  -- where there is an answer, its terms fit these places
  abbrev pub AnswerFits : List SortId → Option (List Term) → Type 0
  AnswerFits places None = Unit {0}
  AnswerFits places (Some ts) = fit_places sig (sorts_of sig ins ts) places ≡ true

  pub bound-fits : (places : List SortId) (with : List Term) (c : Clause) → IsNumbered c → are_bindings sig ins with c ≡ true → AnswerFits places c.answer → AnswerFits places (instance_answer with c.answer)
  bound-fits places with c numbered binds e = by_answer c.answer (λ v m. variable-fits with c numbered binds v (within-right v (in_literals c.literals) (in_answer c.answer) m)) e
    where
      by_answer : (o : Option (List Term)) → ((v : Variable) → Within v (in_answer o) → term_fits sig ins (instance with (Var v.0 v.1)) v.1 ≡ true) → AnswerFits places o → AnswerFits places (instance_answer with o)
      by_answer None h f = tt
      by_answer (Some ts) h f = instances-fit sig ins with ts (λ n s o. h (n, s) (among-all n s ts ∙ o)) places f
