-- What factor, reflex and resolve make of well-sorted clauses is well sorted.
use Rattle.std.proofs.Common.{IsTrue, ◌≡◌, ◌∙◌, ◌==◌, ◌&&◌, ◌<◌, inl, inr, ℕ, Bool, true, false, refl, sym, ap, subst, arith, List, [], ◌∷◌, map, length, get_or, Option, Some, None, is_some, is_none, slice_get}
use Rattle.std.specs.List.{AllByRecursion, list_all, list_any}
use Rattle.std.proofs.lemmas.List.{length-map, get_or-map}
use Rattle.am_term.specs.declared.id.SortId.{SortId}
use Rattle.am_term.specs.declared.symbol.Symbol.{Symbol}
use Rattle.am_term.specs.declared.signature.Signature.{Signature}
use Rattle.am_term.specs.declared.term.Term.{Term}
use Rattle.am_term.specs.declared.term.Term.TheVariants.{Var}
use Rattle.am_term.specs.declared.term.Atom.{Atom}
use Rattle.am_term.specs.declared.term.Atom.TheVariants.{Rel, Eq}
use Rattle.am_term.specs.declared.term.Literal.{Literal}
use Rattle.am_term.specs.Induct.{term_induct}
use Rattle.am_term.specs.Instance.{instance, instances, instance-Var}
use Rattle.am_term.specs.Sorting.{sort_of, sorts_of, fits_place, fit_places, term_fits, relates, are_akin, is_sorted_atom, is_sorted_literal, KeepsSorts}
use Rattle.am_term.specs.Variables.{occurs, occurs-Var, occurs-In, occurs-App}
use Rattle.am_term.proofs.Forest.{fits-same, fits-akin, akin-sym, akin-trans}
use Rattle.am_term.proofs.Kept.{instance-stands, instances-fit}
use Rattle.am_term.proofs.Tests.{and_left, and_right, and_both, or_cases, or_left}
use Rattle.am_clause.specs.declared.clause.Clause.{Clause}
use Rattle.am_clause.specs.Merge.{merged}
use Rattle.am_clause.specs.Variables.{Variable, same_variable, occurrences, occurrences_all, occurrences-Var, occurrences-App, occurrences-more, in_atom, in_literals, in_answer, in_clause, variables}
use Rattle.am_clause.specs.Numbered.{IsNumbered, sorts_in}
use Rattle.am_clause.proofs.Bijections.{listed}
use Rattle.am_clause.proofs.Renames.{Within, within-left, within-right}
use Rattle.am_unify.proofs.Keeping.{place-some}
use Rattle.am_clause.specs.declared.row.Made.{Made}
use Rattle.am_rules.specs.Made.{IsMadeOfSuch}
use Rattle.am_rules.specs.Binding.{Binds, BindsOne, OfOne, OfTwo, of_one, of_two}
use Rattle.am_rules.specs.Parts.{answer_terms, atom_under, literal_under, answer_under, all_but}
use Rattle.am_rules.specs.Resolution.{ResolveMeets, resolved_literals, resolvent}
use Rattle.am_rules.specs.Alone.{kept}
use Rattle.am_rules.proofs.Standing.{never, Each, each-left, each-right, each-head, each-tail}
use Rattle.am_rules.proofs.Lifts.{EachAtom, literals-each, all-without, all-append}
use Rattle.am_rules.proofs.InstanceLaws.{bindings-length}
use Rattle.am_rules.proofs.Joining.{At, at-low, at-read, counted-at, fit-read}
use Rattle.am_rules.proofs.Merging.{all-merged}
use Rattle.am_rules.proofs.Posing.{answer-tests, HasOne, literals-sorted, answer-sorted}
use Rattle.am_clause.specs.SortedClause.{are_bindings, is_sorted_answer, is_sorted_clause}
use Rattle.am_clause.specs.Rules.{shared}

as_test : (n m : ℕ) (s r : SortId) → (n == m && s.0 == r.0) ≡ true → same_variable (n, s) (m, r) ≡ true
unfolding same_variable
as_test n m s r h = h

-- an occurrence is among the occurrences
pub occurs-within : (n : ℕ) (s : SortId) (t : Term) → occurs n s t ≡ true → Within (n, s) (occurrences t)
occurs-within n s = term_induct
    (λ t. occurs n s t ≡ true → Within (n, s) (occurrences t))
    (λ ts. list_any (occurs n s) ts ≡ true → Within (n, s) (occurrences_all ts))
    (λ m r h. rw occurrences-Var (or_left (same_variable (n, s) (m, r)) false (as_test n m s r (sym (occurs-Var n s m r) ∙ h))))
    (λ k h. never (sym (occurs-In n s k) ∙ h))
    (λ f ts e h. rw occurrences-App (e (sym (occurs-App n s f ts) ∙ h)))
    (λ h. never h)
    (λ t ts e d h. rw occurrences-more (elim (or_cases (occurs n s t) (list_any (occurs n s) ts) h) [
      | inl a ↦ within-left (n, s) (occurrences t) (occurrences_all ts) (e a)
      | inr b ↦ within-right (n, s) (occurrences t) (occurrences_all ts) (d b)
    ]))

pub any-within : (n : ℕ) (s : SortId) (ts : List Term) → list_any (occurs n s) ts ≡ true → Within (n, s) (occurrences_all ts)
any-within n s [] h = never h
any-within n s (t ∷ ts) h = rw occurrences-more (elim (or_cases (occurs n s t) (list_any (occurs n s) ts) h) [
  | inl a ↦ within-left (n, s) (occurrences t) (occurrences_all ts) (occurs-within n s t a)
  | inr b ↦ within-right (n, s) (occurrences t) (occurrences_all ts) (any-within n s ts b)
])

akin-kept : (sig : Signature) (o u a b : Option SortId) → are_akin sig o u ≡ true → ((s : SortId) → fits_place sig o s ≡ true → fits_place sig a s ≡ true) → ((s : SortId) → fits_place sig u s ≡ true → fits_place sig b s ≡ true) → are_akin sig a b ≡ true
akin-kept sig None u a b e h k = never e
akin-kept sig (Some s) None a b e h k = never e
akin-kept sig (Some s) (Some t) a b e h k = both a b (h s (fits-same sig s)) (k t (fits-same sig t))
  where
    both : (a b : Option SortId) → fits_place sig a s ≡ true → fits_place sig b t ≡ true → are_akin sig a b ≡ true
    both None b f g = never f
    both (Some x) None f g = never g
    both (Some x) (Some y) f g = akin-trans sig x s y (fits-akin sig x s f) (akin-trans sig s t y e (akin-sym sig y t (fits-akin sig y t g)))

relates-kept : (sig : Signature) (o : Option Symbol) (os us : List (Option SortId)) → ((ps : List SortId) → fit_places sig os ps ≡ true → fit_places sig us ps ≡ true) → relates sig o os ≡ true → relates sig o us ≡ true
relates-kept sig None os us h e = never e
relates-kept sig (Some y) os us h e = and_both (is_none y.result) (fit_places sig us y.args) (and_left (is_none y.result) (fit_places sig os y.args) e) (h y.args (and_right (is_none y.result) (fit_places sig os y.args) e))

abbrev pub Sorted : Signature → List SortId → Literal → Type 0
Sorted sig ins l = is_sorted_literal sig ins l ≡ true

all-tests : {A : Type 0} (t : A → Bool) (xs : List A) → list_all t xs ≡ true → AllByRecursion (λ x. t x ≡ true) xs
all-tests t [] h = tt
all-tests t (x ∷ xs) h = (and_left (t x) (list_all t xs) h, all-tests t xs (and_right (t x) (list_all t xs) h))

tests-all : {A : Type 0} (t : A → Bool) (xs : List A) → AllByRecursion (λ x. t x ≡ true) xs → list_all t xs ≡ true
tests-all t [] h = refl
tests-all t (x ∷ xs) h = and_both (t x) (list_all t xs) h.0 (tests-all t xs h.1)

module _ (sig : Signature) (ins : List SortId) (c : Clause) (numbered : IsNumbered c) (xs : List Term) (bound : IsTrue (are_bindings sig ins xs c)) where
  -- a variable's instance fits it
  pub bound-fits : (n : ℕ) (s : SortId) → At (variables c) (n, s) → term_fits sig ins (instance xs (Var n s)) s ≡ true
  bound-fits n s h =
      let z : SortId = record { 0 = 0 } in
      let low : n < length (variables c) = at-low (variables c) (n, s) h in
      let many : length xs ≡ length (variables c) = bindings-length sig ins c xs bound in
      let long : length (sorts_of sig ins xs) ≡ length xs = length-map xs (sort_of sig ins) in
      let f : fits_place sig (get_or (sorts_of sig ins xs) n None) (get_or (sorts_in c) n z) ≡ true = fit-read sig (sorts_of sig ins xs) (sorts_in c) n None z bound (omega arith) in
      let g : fits_place sig (sort_of sig ins (get_or xs n (Var n s))) (get_or (sorts_in c) n z) ≡ true = subst (λ o. fits_place sig o (get_or (sorts_in c) n z) ≡ true) (get_or-map (sort_of sig ins) xs n (Var n s) None (omega arith)) f in
      let e : get_or (sorts_in c) n z ≡ s = get_or-map (λ (v : Variable). v.1) (variables c) n (n, s) z low ∙ ap (λ (v : Variable). v.1) (at-read (variables c) (n, s) (n, s) h) in
      subst (λ r. term_fits sig ins (instance xs (Var n s)) r ≡ true) e (subst (λ t. term_fits sig ins t (get_or (sorts_in c) n z) ≡ true) (sym (instance-Var xs n s)) g)

  keeps : (t : Term) → Each (At (variables c)) (occurrences t) → KeepsSorts sig ins xs t
  keeps t h n s o = bound-fits n s (h (n, s) (occurs-within n s t o))

  pub instance-sorted : (a : Atom) → Each (At (variables c)) (in_atom a) → is_sorted_atom sig ins a ≡ true → is_sorted_atom sig ins (atom_under xs a) ≡ true
  instance-sorted (Rel r args) h e = relates-kept sig (slice_get sig.symbols r.0) (sorts_of sig ins args) (sorts_of sig ins (instances xs args))
      (instances-fit sig ins xs args (λ n s o. bound-fits n s (h (n, s) (any-within n s args o)))) e
  instance-sorted (Eq l r) h e = akin-kept sig (sort_of sig ins l) (sort_of sig ins r) (sort_of sig ins (instance xs l)) (sort_of sig ins (instance xs r)) e
      (instance-stands sig ins xs l (keeps l (each-left (At (variables c)) (occurrences l) (occurrences r) h)))
      (instance-stands sig ins xs r (keeps r (each-right (At (variables c)) (occurrences l) (occurrences r) h)))

  literals-instance : (ls : List Literal) → AllByRecursion (EachAtom (At (variables c))) ls → AllByRecursion (Sorted sig ins) ls → AllByRecursion (Sorted sig ins) (map (literal_under xs) ls)
  literals-instance [] h k = tt
  literals-instance (l ∷ ls) h k = (instance-sorted l.atom h.0 k.0, literals-instance ls h.1 k.1)

  has-place : (t : Term) → HasOne sig ins t → Each (At (variables c)) (occurrences t) → HasOne sig ins (instance xs t)
  has-place t k h = by (sort_of sig ins t) refl k
    where
      by : (o : Option SortId) → sort_of sig ins t ≡ o → is_some o ≡ true → HasOne sig ins (instance xs t)
      by None e f = never f
      by (Some s) e f = place-some sig (sort_of sig ins (instance xs t)) s (instance-stands sig ins xs t (keeps t h) s (ap (λ o. fits_place sig o s) e ∙ fits-same sig s))

  terms-instance : (ts : List Term) → Each (At (variables c)) (occurrences_all ts) → AllByRecursion (HasOne sig ins) ts → AllByRecursion (HasOne sig ins) (instances xs ts)
  terms-instance [] h k = tt
  terms-instance (t ∷ ts) h k = (has-place t k.0 (each-head (At (variables c)) t ts h), terms-instance ts (each-tail (At (variables c)) t ts h) k.1)

  answer-instance : (o : Option (List Term)) → Each (At (variables c)) (in_answer o) → AllByRecursion (HasOne sig ins) (answer_terms o) → AllByRecursion (HasOne sig ins) (answer_terms (answer_under xs o))
  answer-instance None h k = tt
  answer-instance (Some ts) h k = terms-instance ts h k

  module _ (sorted : is_sorted_clause sig ins c ≡ true) where
    each_at : Each (At (variables c)) (in_clause c)
    each_at v m = counted-at (variables c) numbered v (listed v c m)

    pub share-sorted : (i : ℕ) → AllByRecursion (Sorted sig ins) (map (literal_under xs) (all_but i c.literals))
    share-sorted i = literals-instance (all_but i c.literals)
        (all-without (EachAtom (At (variables c))) i c.literals (literals-each (At (variables c)) c.literals (each-left (At (variables c)) (in_literals c.literals) (in_answer c.answer) each_at)))
        (all-without (Sorted sig ins) i c.literals (all-tests (is_sorted_literal sig ins) c.literals (literals-sorted sig ins c sorted)))

    pub answer-share : AllByRecursion (HasOne sig ins) (answer_terms (answer_under xs c.answer))
    answer-share = answer-instance c.answer (each-right (At (variables c)) (in_literals c.literals) (in_answer c.answer) each_at) (answer-sorted sig ins c sorted)

    pub kept-sorted : (i : ℕ) → is_sorted_clause sig ins (kept c i xs) ≡ true
    kept-sorted i = and_both (list_all (is_sorted_literal sig ins) (merged (map (literal_under xs) (all_but i c.literals)))) (is_sorted_answer sig ins (answer_under xs c.answer))
        (tests-all (is_sorted_literal sig ins) (merged (map (literal_under xs) (all_but i c.literals))) (all-merged (Sorted sig ins) (map (literal_under xs) (all_but i c.literals)) (share-sorted i)))
        (answer-tests sig ins (answer_under xs c.answer) ∙ tests-all (λ t. is_some (sort_of sig ins t)) (answer_terms (answer_under xs c.answer)) answer-share)

either-has : (sig : Signature) (ins : List SortId) (o u : Option (List Term)) → AllByRecursion (HasOne sig ins) (answer_terms o) → AllByRecursion (HasOne sig ins) (answer_terms u) → AllByRecursion (HasOne sig ins) (answer_terms (shared o u))
either-has sig ins None u h k = k
either-has sig ins (Some ts) u h k = h

pub resolvent-sorted : (sig : Signature) (ins : List SortId) (p : Clause) (i : ℕ) (q : Clause) (j : ℕ) → IsNumbered p → IsNumbered q → is_sorted_clause sig ins p ≡ true → is_sorted_clause sig ins q ≡ true
    → (xs ys : List Term) → Binds sig ins p q (ResolveMeets p i q j) xs ys → is_sorted_clause sig ins (resolvent p i q j xs ys) ≡ true
resolvent-sorted sig ins p i q j a b d e xs ys h =
    and_both (list_all (is_sorted_literal sig ins) (merged (resolved_literals p i q j xs ys))) (is_sorted_answer sig ins (shared (answer_under xs p.answer) (answer_under ys q.answer)))
    (tests-all (is_sorted_literal sig ins) (merged (resolved_literals p i q j xs ys)) (all-merged (Sorted sig ins) (resolved_literals p i q j xs ys)
    (all-append (Sorted sig ins) (map (literal_under xs) (all_but i p.literals)) (map (literal_under ys) (all_but j q.literals)) (share-sorted sig ins p a xs h.left d i) (share-sorted sig ins q b ys h.right e j))))
    (answer-tests sig ins (shared (answer_under xs p.answer) (answer_under ys q.answer)) ∙ tests-all (λ t. is_some (sort_of sig ins t)) (answer_terms (shared (answer_under xs p.answer) (answer_under ys q.answer)))
    (either-has sig ins (answer_under xs p.answer) (answer_under ys q.answer) (answer-share sig ins p a xs h.left d) (answer-share sig ins q b ys h.right e)))

-- what is made is well sorted
pub resolved-sorted : (sig : Signature) (ins : List SortId) (p : Clause) (i : ℕ) (q : Clause) (j : ℕ) (m : Made) → IsNumbered p → IsNumbered q → is_sorted_clause sig ins p ≡ true → is_sorted_clause sig ins q ≡ true
    → IsMadeOfSuch sig ins (OfTwo (Binds sig ins p q (ResolveMeets p i q j))) (of_two (resolvent p i q j)) m → is_sorted_clause sig ins m.clause ≡ true
resolved-sorted sig ins p i q j m a b d e h = subst (λ c. is_sorted_clause sig ins c ≡ true) (sym h.concluded) (by m.with h.general.holds)
  where
    by : (ws : List (List Term)) → OfTwo (Binds sig ins p q (ResolveMeets p i q j)) ws → is_sorted_clause sig ins (of_two (resolvent p i q j) ws) ≡ true
    by [] k = absurd k
    by (xs ∷ []) k = absurd k
    by (xs ∷ ys ∷ []) k = resolvent-sorted sig ins p i q j a b d e xs ys k
    by (xs ∷ ys ∷ zs ∷ ws) k = absurd k

pub alone-sorted : (sig : Signature) (ins : List SortId) (p : Clause) (i : ℕ) (Meets : (Term → Term) → Type 0) (m : Made) → IsNumbered p → is_sorted_clause sig ins p ≡ true
    → IsMadeOfSuch sig ins (OfOne (BindsOne sig ins p Meets)) (of_one (kept p i)) m → is_sorted_clause sig ins m.clause ≡ true
alone-sorted sig ins p i Meets m a d h = subst (λ c. is_sorted_clause sig ins c ≡ true) (sym h.concluded) (by m.with h.general.holds)
  where
    by : (ws : List (List Term)) → OfOne (BindsOne sig ins p Meets) ws → is_sorted_clause sig ins (of_one (kept p i) ws) ≡ true
    by [] k = absurd k
    by (xs ∷ []) k = kept-sorted sig ins p a xs k.whole d i
    by (xs ∷ ys ∷ ws) k = absurd k
