-- Well-sorted clauses: their terms have sorts, their variables sorts of the signature.
use Rattle.std.proofs.Common.{◌≡◌, ◌∙◌, ◌<◌, ℕ, zero, suc, Bool, true, false, refl, sym, ap, subst, List, [], ◌∷◌, length, Option, Some, None, option_map, is_some, is_none, slice_get, if◌then◌else◌}
use Rattle.std.specs.List.{AllByRecursion, list_all}
use Rattle.am_term.specs.declared.id.SortId.{SortId}
use Rattle.am_term.specs.declared.id.SymId.{SymId}
use Rattle.am_term.specs.declared.symbol.Symbol.{Symbol}
use Rattle.am_term.specs.declared.signature.Signature.{Signature}
use Rattle.am_term.specs.declared.term.Term.{Term}
use Rattle.am_term.specs.declared.term.Term.TheVariants.{App}
use Rattle.am_term.specs.declared.term.Atom.{Atom}
use Rattle.am_term.specs.declared.term.Atom.TheVariants.{Rel, Eq}
use Rattle.am_term.specs.declared.term.Literal.{Literal}
use Rattle.am_term.specs.Induct.{term_induct}
use Rattle.am_term.specs.Sorts.{same_sort}
use Rattle.am_term.specs.Sorting.{sort_of, sorts_of, sort_of-App, fits_place, fit_places, relates, are_akin, is_sorted_atom, is_sorted_literal, result_at}
use Rattle.am_term.proofs.Forest.{same_sort-same}
use Rattle.am_term.proofs.Tests.{and_left, and_right, and_both}
use Rattle.am_clause.specs.declared.clause.Clause.{Clause}
use Rattle.am_clause.specs.Variables.{Variable, occurrences, occurrences_all, in_atom, in_answer, in_literals, in_clause, occurrences-In, occurrences-App, occurrences-none}
use Rattle.am_unify.specs.Occurrence.{has_given_sorts, has_given_sorts-Var, has_given_sorts-In, has_given_sorts-App}
use Rattle.am_unify.proofs.Instances.{given_sort}
use Rattle.am_unify.proofs.Keeping.{place-some, sort_of-valid}
use Rattle.am_rules.specs.Parts.{answer_terms}
use Rattle.am_rules.specs.Resolution.{nth_atom}
use Rattle.am_rules.proofs.Standing.{never, one-var, Each, each-Var, each-App, each-both, each-head, each-tail, each-more}
use Rattle.am_term.specs.Parts.{parts_of}
use Rattle.am_term.specs.Place.{member}
use Rattle.am_clause.specs.SortedClause.{is_sorted_answer, is_sorted_clause}

-- variables of the sorts listed for their numbers
module _ (sorts : ℕ → SortId) where
  abbrev pub HasSort : Variable → Type 0
  HasSort v = v.1 ≡ sorts v.0

  pub each-given_sort : (t : Term) → has_given_sorts sorts t ≡ true → Each HasSort (occurrences t)
  each-given_sort = term_induct
      (λ t. has_given_sorts sorts t ≡ true → Each HasSort (occurrences t))
      (λ ts. list_all (has_given_sorts sorts) ts ≡ true → Each HasSort (occurrences_all ts))
      (λ n s h. one-var HasSort n s (given_sort sorts n s h))
      (λ k h v m. never (rw occurrences-In at m))
      (λ f ts h e. rw occurrences-App (h (sym (has_given_sorts-App sorts f ts) ∙ e)))
      (λ h v m. never (rw occurrences-none at m))
      (λ t ts h k e. each-more HasSort t ts (h (and_left (has_given_sorts sorts t) (list_all (has_given_sorts sorts) ts) e)) (k (and_right (has_given_sorts sorts t) (list_all (has_given_sorts sorts) ts) e)))

  pub given_sorts-each : (t : Term) → Each HasSort (occurrences t) → has_given_sorts sorts t ≡ true
  given_sorts-each = term_induct
      (λ t. Each HasSort (occurrences t) → has_given_sorts sorts t ≡ true)
      (λ ts. Each HasSort (occurrences_all ts) → list_all (has_given_sorts sorts) ts ≡ true)
      (λ n s h. has_given_sorts-Var sorts n s ∙ subst (λ r. same_sort s r ≡ true) (each-Var HasSort n s h) (same_sort-same s))
      (λ k h. has_given_sorts-In sorts k)
      (λ f ts h e. has_given_sorts-App sorts f ts ∙ h (each-App HasSort f ts e))
      (λ h. refl)
      (λ t ts h k e. and_both (has_given_sorts sorts t) (list_all (has_given_sorts sorts) ts) (h (each-head HasSort t ts e)) (k (each-tail HasSort t ts e)))

module _ (sig : Signature) (ins : List SortId) where
  abbrev pub HasOne : Term → Type 0
  HasOne t = is_some (sort_of sig ins t) ≡ true

  pub places-sorted : (ts : List Term) (ps : List SortId) → fit_places sig (sorts_of sig ins ts) ps ≡ true → AllByRecursion HasOne ts
  places-sorted [] ps e = tt
  places-sorted (t ∷ ts) [] e = never e
  places-sorted (t ∷ ts) (p ∷ ps) e = (
    place-some sig (sort_of sig ins t) p (and_left (fits_place sig (sort_of sig ins t) p) (fit_places sig (sorts_of sig ins ts) ps) e),
    places-sorted ts ps (and_right (fits_place sig (sort_of sig ins t) p) (fit_places sig (sorts_of sig ins ts) ps) e),
  )

  result-sorted : (o : Option Symbol) (ts : List Term) → is_some (result_at sig o (sorts_of sig ins ts)) ≡ true → AllByRecursion HasOne ts
  result-sorted None ts e = never e
  result-sorted (Some y) ts e = by (fit_places sig (sorts_of sig ins ts) y.args) refl e
    where
      by : (b : Bool) → fit_places sig (sorts_of sig ins ts) y.args ≡ b → is_some (if b then y.result else None) ≡ true → AllByRecursion HasOne ts
      by true f e = places-sorted ts y.args f
      by false f e = never e

  pub arguments-sorted : (f : SymId) (ts : List Term) → HasOne (App f ts) → AllByRecursion HasOne ts
  arguments-sorted f ts e = result-sorted (slice_get sig.symbols f.0) ts (sym (ap is_some (sort_of-App sig ins f ts)) ∙ e)

  -- a variable of a sort of the signature
  abbrev pub Valid : Variable → Type 0
  Valid v = v.1.0 < length sig.sorts

  pub each-valid : (t : Term) → HasOne t → Each Valid (occurrences t)
  each-valid = term_induct
      (λ t. HasOne t → Each Valid (occurrences t))
      (λ ts. AllByRecursion HasOne ts → Each Valid (occurrences_all ts))
      (λ n s h. one-var Valid n s (sort_of-valid sig ins n s h))
      (λ k h v m. never (rw occurrences-In at m))
      (λ f ts h e. rw occurrences-App (h (result-sorted (slice_get sig.symbols f.0) ts (sym (ap is_some (sort_of-App sig ins f ts)) ∙ e))))
      (λ h v m. never (rw occurrences-none at m))
      (λ t ts h k e. each-more Valid t ts (h e.0) (k e.1))

  pub all-valid : (ts : List Term) → AllByRecursion HasOne ts → Each Valid (occurrences_all ts)
  all-valid [] h = λ v m. never (rw occurrences-none at m)
  all-valid (t ∷ ts) h = each-more Valid t ts (each-valid t h.0) (all-valid ts h.1)

  -- atoms
  relation-sorted : (o : Option Symbol) (ts : List Term) → relates sig o (sorts_of sig ins ts) ≡ true → AllByRecursion HasOne ts
  relation-sorted None ts e = never e
  relation-sorted (Some y) ts e = places-sorted ts y.args (and_right (is_none y.result) (fit_places sig (sorts_of sig ins ts) y.args) e)

  akin-left : (o u : Option SortId) → are_akin sig o u ≡ true → is_some o ≡ true
  akin-left None u e = never e
  akin-left (Some s) u e = refl

  akin-right : (o u : Option SortId) → are_akin sig o u ≡ true → is_some u ≡ true
  akin-right None u e = never e
  akin-right (Some s) None e = never e
  akin-right (Some s) (Some t) e = refl

  pub atom-sorted : (a : Atom) → is_sorted_atom sig ins a ≡ true → AllByRecursion HasOne (parts_of a)
  atom-sorted (Rel r args) e = relation-sorted (slice_get sig.symbols r.0) args e
  atom-sorted (Eq l r) e = (akin-left (sort_of sig ins l) (sort_of sig ins r) e, (akin-right (sort_of sig ins l) (sort_of sig ins r) e, tt))

  atom-valid : (a : Atom) → is_sorted_atom sig ins a ≡ true → Each Valid (in_atom a)
  atom-valid (Rel r args) e = all-valid args (atom-sorted (Rel r args) e)
  atom-valid (Eq l r) e = each-both Valid (occurrences l) (occurrences r) (each-valid l (akin-left (sort_of sig ins l) (sort_of sig ins r) e)) (each-valid r (akin-right (sort_of sig ins l) (sort_of sig ins r) e))

  literals-valid : (ls : List Literal) → list_all (is_sorted_literal sig ins) ls ≡ true → Each Valid (in_literals ls)
  literals-valid [] e = λ v m. never m
  literals-valid (l ∷ ls) e = each-both Valid (in_atom l.atom) (in_literals ls) (atom-valid l.atom (and_left (is_sorted_literal sig ins l) (list_all (is_sorted_literal sig ins) ls) e)) (literals-valid ls (and_right (is_sorted_literal sig ins l) (list_all (is_sorted_literal sig ins) ls) e))

  all-sorted : (ts : List Term) → list_all (λ t. is_some (sort_of sig ins t)) ts ≡ true → AllByRecursion HasOne ts
  all-sorted [] e = tt
  all-sorted (t ∷ ts) e = (and_left (is_some (sort_of sig ins t)) (list_all (λ t. is_some (sort_of sig ins t)) ts) e, all-sorted ts (and_right (is_some (sort_of sig ins t)) (list_all (λ t. is_some (sort_of sig ins t)) ts) e))

  pub answer-tests : (o : Option (List Term)) → is_sorted_answer sig ins o ≡ list_all (λ t. is_some (sort_of sig ins t)) (answer_terms o)
  answer-tests None = refl
  answer-tests (Some ts) = refl

  answer-valid : (o : Option (List Term)) → AllByRecursion HasOne (answer_terms o) → Each Valid (in_answer o)
  answer-valid None h = λ v m. never m
  answer-valid (Some ts) h = all-valid ts h

  module _ (c : Clause) (sorted : is_sorted_clause sig ins c ≡ true) where
    pub literals-sorted : list_all (is_sorted_literal sig ins) c.literals ≡ true
    literals-sorted = and_left (list_all (is_sorted_literal sig ins) c.literals) (is_sorted_answer sig ins c.answer) sorted

    pub answer-sorted : AllByRecursion HasOne (answer_terms c.answer)
    answer-sorted = all-sorted (answer_terms c.answer) (sym (answer-tests c.answer) ∙ and_right (list_all (is_sorted_literal sig ins) c.literals) (is_sorted_answer sig ins c.answer) sorted)

    at : (i : ℕ) (ls : List Literal) → list_all (is_sorted_literal sig ins) ls ≡ true → (a : Atom) → option_map (λ (l : Literal). l.atom) (member ls i) ≡ Some a → AllByRecursion HasOne (parts_of a)
    at zero ls h a e = absurd cc
    at (suc i) [] h a e = absurd cc
    at (suc zero) (l ∷ ls) h a e = let is : l.atom ≡ a = cc in subst (λ x. AllByRecursion HasOne (parts_of x)) is (atom-sorted l.atom (and_left (is_sorted_literal sig ins l) (list_all (is_sorted_literal sig ins) ls) h))
    at (suc (suc i)) (l ∷ ls) h a e = at (suc i) ls (and_right (is_sorted_literal sig ins l) (list_all (is_sorted_literal sig ins) ls) h) a e

    pub atoms-sorted : (i : ℕ) (a : Atom) → nth_atom i c ≡ Some a → AllByRecursion HasOne (parts_of a)
    atoms-sorted i = at i c.literals literals-sorted

    pub clause-valid : Each Valid (in_clause c)
    clause-valid = each-both Valid (in_literals c.literals) (in_answer c.answer) (literals-valid c.literals literals-sorted) (answer-valid c.answer answer-sorted)
