-- Flaws look at the sorts of names alone and not at their numbers: where each name that may stand alone keeps
-- what it stands for but for its number, an atom keeps its flaws.
use Rattle.std.proofs.Common.{◌≡◌, ◌∙◌, ◌||◌, ℕ, false, refl, sym, ap, List, [], ◌∷◌}
use Rattle.std.specs.Prelude.{is_none, length}
use Rattle.std.specs.List.{list_any}
use Rattle.am_syntax.specs.declared.scope.Bound.{Bound}
use Rattle.am_syntax.specs.declared.scope.Flaw.{Flaw}
use Rattle.am_syntax.specs.declared.scope.Flaw.TheVariants.{UnknownName, BadSort, BadArity, Unbound}
use Rattle.am_syntax.specs.declared.written.WrittenTerm.{WrittenTerm}
use Rattle.am_syntax.specs.declared.written.WrittenTerm.TheVariants.{Alone, Headed}
use Rattle.am_syntax.specs.declared.written.WrittenAtom.{WrittenAtom}
use Rattle.am_syntax.specs.declared.written.WrittenAtom.TheVariants.{Equation, Relation}
use Rattle.am_syntax.specs.Induct.{written_term_induct, written_terms_induct}
use Rattle.am_syntax.specs.Scopes.{Scope, standing_of, symbol_of, argument_sorts_of}
use Rattle.am_syntax.specs.Flaws.{has_bad_sort, has_unbound, term_has, written_sort, written_sorts, some_misfit, is_relation, is_function, is_miscounted, are_apart, relation_has, equation_has}
use Rattle.am_syntax.specs.Laws.{IsFlawlessAtom}
use Rattle.am_syntax.proofs.Among.{none_left, none_right}
use Rattle.am_syntax.proofs.Equations.{written_sort-Alone, written_sort-Headed, has_unknown_name-Alone, has_unknown_name-Headed, has_bad_sort-Alone, has_bad_sort-Headed, has_bad_arity-Alone, has_bad_arity-Headed, has_unbound-Alone, has_unbound-Headed}
use Rattle.am_theory.specs.declared.theory.Theory.{Theory}
use Rattle.am_diagram.specs.Drafts.{scope_with}
use Rattle.am_diagram.proofs.StandingViews.{view, unbound_by, unbound-view, lone_by, lone_relation-view, lone_function-view, sort_by, sort-view}

-- a name that may stand alone among some bounds stands for the same among others, but for its number
abbrev pub Keeps : Theory → List Bound → List Bound → Type 0
Keeps t bs br = (w : List ℕ) → unbound_by (view (standing_of w bs)) (symbol_of (scope_with t bs) w) ≡ false → view (standing_of w br) ≡ view (standing_of w bs)

module _ (t : Theory) (bs br : List Bound) (keeps : Keeps t bs br) where
  abbrev s : Scope
  s = scope_with t bs

  abbrev r : Scope
  r = scope_with t br

  -- a term has the same flaws and the same sort
  record IsSame (u : WrittenTerm) : Type 0 where
    pub flaws : (flaw : Flaw) → term_has r flaw u ≡ term_has s flaw u
    pub sort : written_sort r u ≡ written_sort s u

  record AreSame (us : List WrittenTerm) : Type 0 where
    pub flaws : (flaw : Flaw) → list_any (term_has r flaw) us ≡ list_any (term_has s flaw) us
    pub sorts : written_sorts r us ≡ written_sorts s us

  -- ---- a name alone
  flaws-Alone : (w : List ℕ) → view (standing_of w br) ≡ view (standing_of w bs) → (flaw : Flaw) → term_has r flaw (Alone w) ≡ term_has s flaw (Alone w)
  flaws-Alone w k UnknownName = has_unknown_name-Alone r w ∙ sym (has_unknown_name-Alone s w)
  flaws-Alone w k BadSort =
      has_bad_sort-Alone r w ∙ lone_relation-view r (standing_of w br) w
      ∙ ap (λ v. lone_by v (is_relation (symbol_of s w))) k
      ∙ sym (has_bad_sort-Alone s w ∙ lone_relation-view s (standing_of w bs) w)
  flaws-Alone w k BadArity =
      has_bad_arity-Alone r w ∙ lone_function-view r (standing_of w br) w
      ∙ ap (λ v. lone_by v (is_miscounted (symbol_of s w) 0)) k
      ∙ sym (has_bad_arity-Alone s w ∙ lone_function-view s (standing_of w bs) w)
  flaws-Alone w k Unbound =
      has_unbound-Alone r w ∙ unbound-view (standing_of w br) (symbol_of r w)
      ∙ ap (λ v. unbound_by v (symbol_of s w)) k
      ∙ sym (has_unbound-Alone s w ∙ unbound-view (standing_of w bs) (symbol_of s w))

  same-Alone : (w : List ℕ) → view (standing_of w br) ≡ view (standing_of w bs) → IsSame (Alone w)
  same-Alone w k = record {
    flaws = flaws-Alone w k;
    sort =
        written_sort-Alone r w ∙ sort-view (standing_of w br) (symbol_of r w)
        ∙ ap (λ v. sort_by v (symbol_of s w)) k
        ∙ sym (written_sort-Alone s w ∙ sort-view (standing_of w bs) (symbol_of s w));
  }

  -- ---- a head with its arguments
  flaws-Headed : (h : List ℕ) (args : List WrittenTerm) → AreSame args → (flaw : Flaw) → term_has r flaw (Headed h args) ≡ term_has s flaw (Headed h args)
  flaws-Headed h args k UnknownName =
      has_unknown_name-Headed r h args
      ∙ ap (λ b. is_none (symbol_of s h) || b) (k.flaws UnknownName)
      ∙ sym (has_unknown_name-Headed s h args)
  flaws-Headed h args k BadSort =
      has_bad_sort-Headed r h args
      ∙ ap (λ os. is_relation (symbol_of s h) || (some_misfit s.parents os (argument_sorts_of (symbol_of s h)) || list_any (has_bad_sort r) args)) k.sorts
      ∙ ap (λ b. is_relation (symbol_of s h) || (some_misfit s.parents (written_sorts s args) (argument_sorts_of (symbol_of s h)) || b)) (k.flaws BadSort)
      ∙ sym (has_bad_sort-Headed s h args)
  flaws-Headed h args k BadArity =
      has_bad_arity-Headed r h args
      ∙ ap (λ b. is_miscounted (symbol_of s h) (length args) || b) (k.flaws BadArity)
      ∙ sym (has_bad_arity-Headed s h args)
  flaws-Headed h args k Unbound = has_unbound-Headed r h args ∙ k.flaws Unbound ∙ sym (has_unbound-Headed s h args)

  -- ---- all terms
  abbrev TermKept : WrittenTerm → Type 0
  TermKept u = has_unbound s u ≡ false → IsSame u

  abbrev TermsKept : List WrittenTerm → Type 0
  TermsKept us = list_any (has_unbound s) us ≡ false → AreSame us

  kept-Alone : (w : List ℕ) → TermKept (Alone w)
  kept-Alone w u = same-Alone w (keeps w (sym (unbound-view (standing_of w bs) (symbol_of s w)) ∙ sym (has_unbound-Alone s w) ∙ u))

  kept-Headed : (h : List ℕ) (args : List WrittenTerm) → TermsKept args → TermKept (Headed h args)
  kept-Headed h args k u = record {
    flaws = flaws-Headed h args (k (sym (has_unbound-Headed s h args) ∙ u));
    sort = written_sort-Headed r h args ∙ sym (written_sort-Headed s h args);
  }

  kept-none : TermsKept []
  kept-none u = record { flaws = λ flaw. refl; sorts = refl }

  kept-more : (u : WrittenTerm) (us : List WrittenTerm) → TermKept u → TermsKept us → TermsKept (u ∷ us)
  kept-more u us k ks e =
      let here = k (none_left (has_unbound s u) (list_any (has_unbound s) us) e) in
      let there = ks (none_right (has_unbound s u) (list_any (has_unbound s) us) e) in
      record {
        flaws = λ flaw. ap (λ b. b || list_any (term_has r flaw) us) (here.flaws flaw) ∙ ap (λ b. term_has s flaw u || b) (there.flaws flaw);
        sorts = ap (λ o. o ∷ written_sorts r us) here.sort ∙ ap (λ os. written_sort s u ∷ os) there.sorts;
      }

  term-kept : (u : WrittenTerm) → TermKept u
  term-kept = written_term_induct TermKept TermsKept kept-Alone kept-Headed kept-none kept-more

  terms-kept : (us : List WrittenTerm) → TermsKept us
  terms-kept = written_terms_induct TermKept TermsKept kept-Alone kept-Headed kept-none kept-more

  -- ---- atoms
  equation-kept : (left right : WrittenTerm) → IsSame left → IsSame right → (flaw : Flaw) → equation_has r flaw left right ≡ equation_has s flaw left right
  equation-kept left right k l UnknownName = refl
  equation-kept left right k l BadSort =
      ap (λ o. are_apart s.parents o (written_sort r right)) k.sort
      ∙ ap (λ o. are_apart s.parents (written_sort s left) o) l.sort
  equation-kept left right k l BadArity = refl
  equation-kept left right k l Unbound = refl

  relation-kept : (n : List ℕ) (args : List WrittenTerm) → AreSame args → (flaw : Flaw) → relation_has r flaw n args ≡ relation_has s flaw n args
  relation-kept n args k UnknownName = refl
  relation-kept n args k BadSort = ap (λ os. is_function (symbol_of s n) || some_misfit s.parents os (argument_sorts_of (symbol_of s n))) k.sorts
  relation-kept n args k BadArity = refl
  relation-kept n args k Unbound = refl

  pub atom-kept : (a : WrittenAtom) → IsFlawlessAtom s a → IsFlawlessAtom r a
  atom-kept (Equation left right) f flaw =
      let sides = none_right (equation_has s Unbound left right) (term_has s Unbound left || term_has s Unbound right) (f Unbound) in
      let k = term-kept left (none_left (term_has s Unbound left) (term_has s Unbound right) sides) in
      let l = term-kept right (none_right (term_has s Unbound left) (term_has s Unbound right) sides) in
      ap (λ b. b || (term_has r flaw left || term_has r flaw right)) (equation-kept left right k l flaw)
      ∙ ap (λ b. equation_has s flaw left right || (b || term_has r flaw right)) (k.flaws flaw)
      ∙ ap (λ b. equation_has s flaw left right || (term_has s flaw left || b)) (l.flaws flaw)
      ∙ f flaw
  atom-kept (Relation n args) f flaw =
      let k = terms-kept args (none_right (relation_has s Unbound n args) (list_any (term_has s Unbound) args) (f Unbound)) in
      ap (λ b. b || list_any (term_has r flaw) args) (relation-kept n args k flaw)
      ∙ ap (λ b. relation_has s flaw n args || b) (k.flaws flaw)
      ∙ f flaw
