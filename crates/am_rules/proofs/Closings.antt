-- What closing gives is right.
use Rattle.std.proofs.Common.{◌≡◌, ◌∙◌, ◌==◌, ◌&&◌, ◌++◌, inr, ℕ, Bool, true, refl, sym, ap, subst, arith, List, [], ◌∷◌, map, length, Option, Some, None, option_map, is_some, slice_get, get_or, if◌then◌else◌}
use Rattle.std.specs.List.{position}
use Rattle.std.specs.Option.{option_or}
use Rattle.std.proofs.lemmas.Bool.Decides.{nat_tests}
use Rattle.std.proofs.lemmas.Grind.{common_steps}
use Rattle.std.proofs.lemmas.List.{append_assoc}
use Rattle.std.proofs.lemmas.List.Quantifiers.{position-Some}
use Rattle.std.proofs.lemmas.Option.{slice_get-get_or}
use Rattle.am_term.specs.declared.id.SortId.{SortId}
use Rattle.am_term.specs.declared.symbol.Symbol.{Symbol}
use Rattle.am_term.specs.declared.signature.Signature.{Signature}
use Rattle.am_term.specs.declared.term.Term.{Term}
use Rattle.am_term.specs.declared.term.Term.TheVariants.{In}
use Rattle.am_term.specs.declared.term.Literal.{Literal}
use Rattle.am_term.specs.Sorts.{fits}
use Rattle.am_term.specs.Symbols.{is_computable}
use Rattle.am_term.specs.Sorting.{fits_place, fit_places, sorts_of, term_fits, result_at, sort_of-In, sort_of-App}
use Rattle.am_term.proofs.Tests.{and_left, and_right, and_both, or_right}
use Rattle.am_term.specs.Instance.{instance_literal}
use Rattle.am_clause.specs.Bound.{instance_answer, bound, without_repeats}
use Rattle.am_clause.specs.SortedClause.{is_sorted_clause}
use Rattle.am_rules.specs.Row.{row}
use Rattle.am_rules.proofs.SortedMade.{kept-sorted}
use Rattle.am_clause.specs.Merge.{merged}
use Rattle.am_clause.specs.declared.clause.Clause.{Clause}
use Rattle.am_clause.specs.declared.row.Made.{Made}
use Rattle.am_clause.specs.Distinct.{among}
use Rattle.am_clause.specs.Variables.{Variable, same_variable, occurrences, occurrences_all, in_answer, variables, occurrences-In, occurrences-App, occurrences-none, occurrences-more}
use Rattle.am_clause.specs.Numbered.{IsNumbered, AreNumbered}
use Rattle.am_clause.specs.NumberedMade.{made_occurrences}
use Rattle.am_clause.specs.Rules.{close}
use Rattle.am_clause.proofs.Renames.{Within}
use Rattle.am_clause.proofs.Places.{same_variable-refl}
use Rattle.am_rules.specs.Parts.{answer_under}
use Rattle.am_rules.specs.Closing.{input_for, constant_for, is_constant_for, constant_term, closing_term, IsClosing, AnswersClosing}
use Rattle.am_rules.specs.Chosen.{one_more, all_chosen, closed_by}
use Rattle.am_rules.proofs.Standing.{never, Each}
use Rattle.am_rules.proofs.InstanceLaws.{bindings-length}
use Rattle.am_rules.proofs.RowLaws.{in-variables}
use Rattle.am_rules.proofs.Resolvents.{answer-inside}
use Rattle.am_rules.proofs.Tied.{answer-is, kept-is}
use Rattle.am_rules.proofs.Lifts.{clause}

-- ---- what a place holds

-- what is found is there
pub position-there : {A : Type 0} (test : A → Bool) (xs : List A) (i : ℕ) → position test xs ≡ Some i → (x : A) × (slice_get xs i ≡ Some x) × (test x ≡ true)
position-there test [] i e = absurd cc
position-there test (y ∷ ys) i e =
    let h = position-Some test (y ∷ ys) i y e in
    (get_or (y ∷ ys) i y, slice_get-get_or (y ∷ ys) i y h.0, h.1)

-- ---- the terms that are chosen

no-arguments : {A : Type 0} (xs : List A) → (length xs == 0) ≡ true → xs ≡ []
no-arguments [] e = refl
no-arguments (x ∷ xs) e = absurd (grind (arith, nat_tests))

module _ (sig : Signature) (ins : List SortId) (s : SortId) where
  abbrev Fit : Term → Type 0
  Fit t = (term_fits sig ins t s ≡ true) × (occurrences t ≡ [])

  input-fits : (k : ℕ) → input_for sig ins s ≡ Some k → Fit (In k)
  input-fits k e =
      let h = position-there (λ r. fits sig r s) ins k e in
      (ap (λ o. fits_place sig o s) (sort_of-In sig ins k ∙ h.1) ∙ h.2, occurrences-In k)

  result-fits : (y : Symbol) → is_constant_for sig s y ≡ true → fits_place sig (result_at sig (Some y) []) s ≡ true
  result-fits y e =
      let more = and_right (is_computable y.kind) (length y.args == 0 && fits_place sig y.result s) e in
      let none : y.args ≡ [] = no-arguments y.args (and_left (length y.args == 0) (fits_place sig y.result s) more) in
      ap (λ (ps : List SortId). fits_place sig (if fit_places sig [] ps then y.result else None) s) none ∙ and_right (length y.args == 0) (fits_place sig y.result s) more

  constant-fits : (n : ℕ) → constant_for sig s ≡ Some n → Fit (constant_term n)
  constant-fits n e =
      let h = position-there (is_constant_for sig s) sig.symbols n e in (
        ap (λ o. fits_place sig o s) (sort_of-App sig ins (record { 0 = n }) [] ∙ ap (λ o. result_at sig o []) h.1) ∙ result-fits h.0 h.2,
        occurrences-App (record { 0 = n }) [] ∙ occurrences-none,
      )

  pub chosen-fits : (t : Term) → closing_term sig ins s ≡ Some t → Fit t
  chosen-fits t e = by (input_for sig ins s) refl (constant_for sig s) refl e
    where
      by : (o : Option ℕ) → input_for sig ins s ≡ o → (u : Option ℕ) → constant_for sig s ≡ u → option_or (option_map (λ k. In k) o) (option_map constant_term u) ≡ Some t → Fit t
      by (Some k) a u b e = let is : In k ≡ t = cc in subst Fit is (input-fits k a)
      by None a (Some n) b e = let is : constant_term n ≡ t = cc in subst Fit is (constant-fits n b)
      by None a None b e = absurd cc

-- ---- all of them

module _ (sig : Signature) (ins : List SortId) where
  record AreChosen (vs : List Variable) (ts : List Term) : Type 0 where
    pub fit : fit_places sig (sorts_of sig ins ts) (map (λ (v : Variable). v.1) vs) ≡ true
    pub none : occurrences_all ts ≡ []
    pub chosen : map (λ (v : Variable). closing_term sig ins v.1) vs ≡ map Some ts

  are-chosen : (vs : List Variable) (ts : List Term) → all_chosen sig ins vs ≡ Some ts → AreChosen vs ts
  are-chosen [] ts e = let is : [] ≡ ts = cc in subst (AreChosen []) is (record { fit = refl; none = occurrences-none; chosen = refl })
  are-chosen (v ∷ vs) ts e = by (closing_term sig ins v.1) refl (all_chosen sig ins vs) refl (are-chosen vs) e
    where
      by : (o : Option Term) → closing_term sig ins v.1 ≡ o → (u : Option (List Term)) → all_chosen sig ins vs ≡ u → ((ts : List Term) → all_chosen sig ins vs ≡ Some ts → AreChosen vs ts) → one_more o u ≡ Some ts → AreChosen (v ∷ vs) ts
      by None a u b g e = absurd cc
      by (Some t) a None b g e = absurd cc
      by (Some t) a (Some us) b g e =
          let is : t ∷ us ≡ ts = cc in
          let h = chosen-fits sig ins v.1 t a in
          let k = g us b in
          subst (AreChosen (v ∷ vs)) is (record {
            fit = and_both (term_fits sig ins t v.1) (fit_places sig (sorts_of sig ins us) (map (λ (v : Variable). v.1) vs)) h.0 k.fit;
            none = occurrences-more t us ∙ (ap (λ ws. ws ++ occurrences_all us) h.1 ∙ k.none);
            chosen = ap (λ o. o ∷ map (λ (v : Variable). closing_term sig ins v.1) vs) a ∙ ap (λ os. Some t ∷ os) k.chosen;
          })

  record IsOpen (vs : List Variable) : Type 0 where
    pub variable : Variable
    pub within : Within variable vs
    pub unbound : closing_term sig ins variable.1 ≡ None

  one-open : (vs : List Variable) → all_chosen sig ins vs ≡ None → IsOpen vs
  one-open [] e = absurd cc
  one-open (v ∷ vs) e = by (closing_term sig ins v.1) refl (all_chosen sig ins vs) refl (one-open vs) e
    where
      here : Within v (v ∷ vs)
      here = rw (same_variable-refl v) refl

      there : (w : Variable) → Within w vs → Within w (v ∷ vs)
      there w m = or_right (same_variable w v) (among same_variable w vs) m

      by : (o : Option Term) → closing_term sig ins v.1 ≡ o → (u : Option (List Term)) → all_chosen sig ins vs ≡ u → (all_chosen sig ins vs ≡ None → IsOpen vs) → one_more o u ≡ None → IsOpen (v ∷ vs)
      by None a u b g e = record { variable = v; within = here; unbound = a }
      by (Some t) a None b g e = let h = g b in record { variable = h.variable; within = there h.variable h.within; unbound = h.unbound }
      by (Some t) a (Some us) b g e = absurd cc

-- ---- what is made

no-members : (vs : List Variable) → ((v : Variable) → Within v vs → ⊥) → vs ≡ []
no-members [] h = refl
no-members (v ∷ vs) h = absurd (h v (rw (same_variable-refl v) refl))

none-numbered : (vs : List Variable) → vs ≡ [] → AreNumbered vs
none-numbered [] e k v r = absurd cc
none-numbered (w ∷ ws) e k v r = absurd cc

empty-literals : (ls : List Literal) → (length ls == 0) ≡ true → ls ≡ []
empty-literals ls e = no-arguments ls e

module _ (sig : Signature) (ins : List SortId) (p : Clause) (numbered : IsNumbered p) (suits : close.suits p ≡ true) where
  bare : p.literals ≡ []
  bare = empty-literals p.literals (and_left (length p.literals == 0) (is_some p.answer) suits)

  is-closing : (xs : List Term) → AreChosen sig ins (variables p) xs → IsClosing sig ins p (closed_by p xs)
  is-closing xs h = record {
    first = xs;
    bound_by = refl;
    made = record {
      suits = suits;
      binds = h.fit;
      equal = refl;
      is = ap (clause []) (sym (answer-is xs p.answer)) ∙ ap (λ (ls : List Literal). clause (merged (map (instance_literal xs) ls)) (instance_answer xs p.answer)) (sym bare);
    };
    chosen = h.chosen;
    numbered = none-numbered (made_occurrences (closed_by p xs)) all-none;
  }
    where
      inside : Each (λ v. Within v (occurrences_all xs)) (in_answer (answer_under xs p.answer))
      inside = answer-inside p numbered xs (bindings-length sig ins p xs h.fit)

      answer-none : in_answer (answer_under xs p.answer) ≡ []
      answer-none = no-members (in_answer (answer_under xs p.answer)) (λ v m. never (subst (λ vs. among same_variable v vs ≡ true) h.none (inside v m)))

      all-none : made_occurrences (closed_by p xs) ≡ []
      all-none = ap (λ vs. vs ++ (occurrences_all xs ++ [])) answer-none ∙ ap (λ vs. vs ++ []) h.none

  pub closing-answer : (o : Option (List Term)) → all_chosen sig ins (variables p) ≡ o → AnswersClosing sig ins p (option_map (closed_by p) o)
  closing-answer (Some xs) e = is-closing xs (are-chosen sig ins (variables p) xs e)
  closing-answer None e = let h = one-open sig ins (variables p) e in inr (record { variable = h.variable; occurs = in-variables h.variable p h.within; unbound = h.unbound })

-- ---- laws of it

some-maps : (ts us : List Term) → map (λ t. Some t) ts ≡ map (λ t. Some t) us → ts ≡ us
some-maps [] [] e = refl
some-maps [] (u ∷ us) e = absurd cc
some-maps (t ∷ ts) [] e = absurd cc
some-maps (t ∷ ts) (u ∷ us) e =
    let a : t ≡ u = cc in
    let b : map (λ x. Some x) ts ≡ map (λ x. Some x) us = cc in
    ap (λ x. x ∷ ts) a ∙ ap (λ xs. u ∷ xs) (some-maps ts us b)

pub closing-unique : (sig : Signature) (ins : List SortId) (p : Clause) (m n : Made) → IsClosing sig ins p m → IsClosing sig ins p n → n ≡ m
closing-unique sig ins p m n g h =
    let f : h.first ≡ g.first = some-maps h.first g.first (sym h.chosen ∙ g.chosen) in
    ap (λ c. row c n.with) (h.made.is ∙ (ap (λ xs. without_repeats (bound xs p)) f ∙ sym g.made.is))
    ∙ ap (row m.clause) (h.bound_by ∙ (ap (λ (xs : List Term). xs ∷ []) f ∙ sym g.bound_by))

pub closing-sorted : (sig : Signature) (ins : List SortId) (p : Clause) (m : Made) → IsNumbered p → is_sorted_clause sig ins p ≡ true → IsClosing sig ins p m → is_sorted_clause sig ins m.clause ≡ true
closing-sorted sig ins p m a s h = subst (λ c. is_sorted_clause sig ins c ≡ true) (sym (h.made.is ∙ kept-is sig ins p 0 h.first)) (kept-sorted sig ins p a h.first h.made.binds s 0)

-- ---- the loop

pub chosen-none : (sig : Signature) (ins : List SortId) (made : List Term) (v : Variable) (rest : List Variable) → closing_term sig ins v.1 ≡ None → option_map (λ ts. made ++ ts) (all_chosen sig ins (v ∷ rest)) ≡ None
chosen-none sig ins made v rest e = ap (λ o. option_map (λ ts. made ++ ts) (one_more o (all_chosen sig ins rest))) e

pub chosen-step : (sig : Signature) (ins : List SortId) (made : List Term) (v : Variable) (rest : List Variable) (t : Term) → closing_term sig ins v.1 ≡ Some t
    → option_map (λ ts. made ++ ts) (all_chosen sig ins (v ∷ rest)) ≡ option_map (λ ts. (made ++ t ∷ []) ++ ts) (all_chosen sig ins rest)
chosen-step sig ins made v rest t e = ap (λ o. option_map (λ ts. made ++ ts) (one_more o (all_chosen sig ins rest))) e ∙ by (all_chosen sig ins rest)
  where
    by : (u : Option (List Term)) → option_map (λ ts. made ++ ts) (one_more (Some t) u) ≡ option_map (λ ts. (made ++ t ∷ []) ++ ts) u
    by None = refl
    by (Some ts) = ap Some (sym (append_assoc made (t ∷ []) ts))

pub ruleset choosing = (common_steps, chosen-none, chosen-step)
