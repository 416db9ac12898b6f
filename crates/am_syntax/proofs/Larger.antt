-- In a scope that extends another, what has its names there is the same.
use Rattle.std.proofs.Common.{◌≡◌, ◌∙◌, ◌||◌, ℕ, false, refl, sym, ap, List, [], ◌∷◌, map, Option, Some, None}
use Rattle.std.specs.Prelude.{is_none, length}
use Rattle.std.specs.List.{list_any}
use Rattle.am_term.specs.declared.id.SortId.{SortId}
use Rattle.am_term.specs.declared.term.Term.TheVariants.{App}
use Rattle.am_syntax.specs.declared.scope.Flaw.{Flaw}
use Rattle.am_syntax.specs.declared.scope.Flaw.TheVariants.{UnknownName, BadSort, BadArity, Unbound}
use Rattle.am_syntax.specs.declared.scope.Standing.{Standing}
use Rattle.am_syntax.specs.declared.scope.Standing.TheVariants.{Variable, Input, Barred}
use Rattle.am_syntax.specs.declared.written.WrittenTerm.{WrittenTerm}
use Rattle.am_syntax.specs.declared.written.WrittenTerm.TheVariants.{Alone, Headed}
use Rattle.am_syntax.specs.Induct.{written_term_induct, written_terms_induct}
use Rattle.am_syntax.specs.Scopes.{Scope, standing_of, symbol_at, symbol_of, result_of, argument_sorts_of, alone_sort_by}
use Rattle.am_syntax.specs.Flaws.{has_unknown_name, has_bad_sort, has_bad_arity, has_unbound, term_has, written_sort, written_sorts, misfits, some_misfit, is_relation, is_lone_relation, is_miscounted, is_lone_function, is_unbound}
use Rattle.am_syntax.specs.Meaning.{symbol_id, named_symbol, alone_term, term_meaning}
use Rattle.am_syntax.specs.Laws.{Extends, IsSameIn}
use Rattle.am_syntax.proofs.Among.{none_left, none_right}
use Rattle.am_syntax.proofs.Known.{known, known-symbol}
use Rattle.am_syntax.proofs.ScopeSorts.{sort-in, misfits-kept}
use Rattle.am_syntax.proofs.Equations.{written_sort-Alone, written_sort-Headed, has_unknown_name-Alone, has_unknown_name-Headed, has_bad_sort-Alone, has_bad_sort-Headed, has_bad_arity-Alone, has_bad_arity-Headed, has_unbound-Alone, has_unbound-Headed, term_meaning-Alone, term_meaning-Headed}

-- terms have the same flaws, sorts and meanings in two scopes
pub record AreSameIn (s r : Scope) (ts : List WrittenTerm) : Type 0 where
  pub flaws : (flaw : Flaw) → list_any (term_has r flaw) ts ≡ list_any (term_has s flaw) ts
  pub sorts : written_sorts r ts ≡ written_sorts s ts
  pub meanings : map (term_meaning r) ts ≡ map (term_meaning s) ts

module _ (s r : Scope) (x : Extends s r) where
  pub symbol-kept : (w : List ℕ) → is_none (symbol_of s w) ≡ false → symbol_of r w ≡ symbol_of s w
  symbol-kept w e =
      let k = known s w e in
      ap (symbol_at r.symbols) (x.names w k.number k.found) ∙ x.symbols k.number k.symbol k.there ∙ sym (known-symbol s w k)

  pub named-kept : (w : List ℕ) → is_none (symbol_of s w) ≡ false → named_symbol r w ≡ named_symbol s w
  named-kept w e = let k = known s w e in ap symbol_id (x.names w k.number k.found ∙ sym k.found)

  pub some_misfit-kept : (ts : List WrittenTerm) (ps : List SortId) → some_misfit r.parents (written_sorts s ts) ps ≡ some_misfit s.parents (written_sorts s ts) ps
  some_misfit-kept [] ps = refl
  some_misfit-kept (t ∷ ts) [] = refl
  some_misfit-kept (t ∷ ts) (p ∷ ps) =
      ap (λ b. b || some_misfit r.parents (written_sorts s ts) ps) (misfits-kept s r x (written_sort s t) p (sort-in s r x t))
      ∙ ap (λ b. misfits s.parents (written_sort s t) p || b) (some_misfit-kept ts ps)

  -- ---- a name alone, by what it stands for
  unbound-at : (w : List ℕ) (o : Option Standing) → is_unbound o (symbol_of s w) ≡ false → is_unbound o (symbol_of r w) ≡ is_unbound o (symbol_of s w)
  unbound-at w None e = ap is_none (symbol-kept w e)
  unbound-at w (Some (Variable n sort)) e = refl
  unbound-at w (Some (Input k sort)) e = refl
  unbound-at w (Some Barred) e = refl

  relation-at : (w : List ℕ) (o : Option Standing) → is_unbound o (symbol_of s w) ≡ false → is_lone_relation r o w ≡ is_lone_relation s o w
  relation-at w None e = ap is_relation (symbol-kept w e)
  relation-at w (Some standing) e = refl

  function-at : (w : List ℕ) (o : Option Standing) → is_unbound o (symbol_of s w) ≡ false → is_lone_function r o w ≡ is_lone_function s o w
  function-at w None e = ap (λ y. is_miscounted y 0) (symbol-kept w e)
  function-at w (Some standing) e = refl

  sort-at : (w : List ℕ) (o : Option Standing) → is_unbound o (symbol_of s w) ≡ false → alone_sort_by o (symbol_of r w) ≡ alone_sort_by o (symbol_of s w)
  sort-at w None e = ap result_of (symbol-kept w e)
  sort-at w (Some standing) e = refl

  term-at : (w : List ℕ) (o : Option Standing) → is_unbound o (symbol_of s w) ≡ false → alone_term r o w ≡ alone_term s o w
  term-at w None e = ap (λ f. App f []) (named-kept w e)
  term-at w (Some standing) e = refl

  flaws-Alone : (w : List ℕ) → is_unbound (standing_of w s.bound) (symbol_of s w) ≡ false → standing_of w r.bound ≡ standing_of w s.bound → (flaw : Flaw) → term_has r flaw (Alone w) ≡ term_has s flaw (Alone w)
  flaws-Alone w u same UnknownName = has_unknown_name-Alone r w ∙ sym (has_unknown_name-Alone s w)
  flaws-Alone w u same BadSort = has_bad_sort-Alone r w ∙ ap (λ o. is_lone_relation r o w) same ∙ relation-at w (standing_of w s.bound) u ∙ sym (has_bad_sort-Alone s w)
  flaws-Alone w u same BadArity = has_bad_arity-Alone r w ∙ ap (λ o. is_lone_function r o w) same ∙ function-at w (standing_of w s.bound) u ∙ sym (has_bad_arity-Alone s w)
  flaws-Alone w u same Unbound = has_unbound-Alone r w ∙ ap (λ o. is_unbound o (symbol_of r w)) same ∙ unbound-at w (standing_of w s.bound) u ∙ sym (has_unbound-Alone s w)

  same-Alone : (w : List ℕ) → is_unbound (standing_of w s.bound) (symbol_of s w) ≡ false → standing_of w r.bound ≡ standing_of w s.bound → IsSameIn s r (Alone w)
  same-Alone w u same = record {
    flaws = flaws-Alone w u same;
    sort = written_sort-Alone r w ∙ ap (λ o. alone_sort_by o (symbol_of r w)) same ∙ sort-at w (standing_of w s.bound) u ∙ sym (written_sort-Alone s w);
    meaning = term_meaning-Alone r w ∙ ap (λ o. alone_term r o w) same ∙ term-at w (standing_of w s.bound) u ∙ sym (term_meaning-Alone s w);
  }

  -- ---- a head with its arguments
  flaws-Headed : (h : List ℕ) (args : List WrittenTerm) → symbol_of r h ≡ symbol_of s h → AreSameIn s r args → (flaw : Flaw) → term_has r flaw (Headed h args) ≡ term_has s flaw (Headed h args)
  flaws-Headed h args same k UnknownName =
      has_unknown_name-Headed r h args
      ∙ ap (λ y. is_none y || list_any (has_unknown_name r) args) same
      ∙ ap (λ b. is_none (symbol_of s h) || b) (k.flaws UnknownName)
      ∙ sym (has_unknown_name-Headed s h args)
  flaws-Headed h args same k BadSort =
      has_bad_sort-Headed r h args
      ∙ ap (λ y. is_relation y || (some_misfit r.parents (written_sorts r args) (argument_sorts_of y) || list_any (has_bad_sort r) args)) same
      ∙ ap (λ os. is_relation (symbol_of s h) || (some_misfit r.parents os (argument_sorts_of (symbol_of s h)) || list_any (has_bad_sort r) args)) k.sorts
      ∙ ap (λ b. is_relation (symbol_of s h) || (b || list_any (has_bad_sort r) args)) (some_misfit-kept args (argument_sorts_of (symbol_of s h)))
      ∙ ap (λ b. is_relation (symbol_of s h) || (some_misfit s.parents (written_sorts s args) (argument_sorts_of (symbol_of s h)) || b)) (k.flaws BadSort)
      ∙ sym (has_bad_sort-Headed s h args)
  flaws-Headed h args same k BadArity =
      has_bad_arity-Headed r h args
      ∙ ap (λ y. is_miscounted y (length args) || list_any (has_bad_arity r) args) same
      ∙ ap (λ b. is_miscounted (symbol_of s h) (length args) || b) (k.flaws BadArity)
      ∙ sym (has_bad_arity-Headed s h args)
  flaws-Headed h args same k Unbound = has_unbound-Headed r h args ∙ k.flaws Unbound ∙ sym (has_unbound-Headed s h args)

  same-Headed : (h : List ℕ) (args : List WrittenTerm) → is_none (symbol_of s h) ≡ false → AreSameIn s r args → IsSameIn s r (Headed h args)
  same-Headed h args e k = record {
    flaws = flaws-Headed h args (symbol-kept h e) k;
    sort = written_sort-Headed r h args ∙ ap result_of (symbol-kept h e) ∙ sym (written_sort-Headed s h args);
    meaning = term_meaning-Headed r h args ∙ ap (λ f. App f (map (term_meaning r) args)) (named-kept h e) ∙ ap (App (named_symbol s h)) k.meanings ∙ sym (term_meaning-Headed s h args);
  }

  -- ---- all terms
  abbrev pub TermKept : WrittenTerm → Type 0
  TermKept t = has_unknown_name s t ≡ false → has_unbound s t ≡ false → IsSameIn s r t

  abbrev pub TermsKept : List WrittenTerm → Type 0
  TermsKept ts = list_any (has_unknown_name s) ts ≡ false → list_any (has_unbound s) ts ≡ false → AreSameIn s r ts

  kept-Alone : (w : List ℕ) → TermKept (Alone w)
  kept-Alone w e u = same-Alone w (sym (has_unbound-Alone s w) ∙ u) (ap (standing_of w) (sym x.bound))

  kept-Headed : (h : List ℕ) (args : List WrittenTerm) → TermsKept args → TermKept (Headed h args)
  kept-Headed h args k e u =
      let known_all : (is_none (symbol_of s h) || list_any (has_unknown_name s) args) ≡ false = sym (has_unknown_name-Headed s h args) ∙ e in
      same-Headed h args (none_left (is_none (symbol_of s h)) (list_any (has_unknown_name s) args) known_all)
      (k (none_right (is_none (symbol_of s h)) (list_any (has_unknown_name s) args) known_all) (sym (has_unbound-Headed s h args) ∙ u))

  kept-none : TermsKept []
  kept-none e u = record { flaws = λ flaw. refl; sorts = refl; meanings = refl }

  kept-more : (t : WrittenTerm) (ts : List WrittenTerm) → TermKept t → TermsKept ts → TermsKept (t ∷ ts)
  kept-more t ts k ks e u =
      let here = k (none_left (has_unknown_name s t) (list_any (has_unknown_name s) ts) e) (none_left (has_unbound s t) (list_any (has_unbound s) ts) u) in
      let there = ks (none_right (has_unknown_name s t) (list_any (has_unknown_name s) ts) e) (none_right (has_unbound s t) (list_any (has_unbound s) ts) u) in
      record {
        flaws = λ flaw. ap (λ b. b || list_any (term_has r flaw) ts) (here.flaws flaw) ∙ ap (λ b. term_has s flaw t || b) (there.flaws flaw);
        sorts = ap (λ o. o ∷ written_sorts r ts) here.sort ∙ ap (λ os. written_sort s t ∷ os) there.sorts;
        meanings = ap (λ u. u ∷ map (term_meaning r) ts) here.meaning ∙ ap (λ us. term_meaning s t ∷ us) there.meanings;
      }

  pub term-kept : (t : WrittenTerm) → TermKept t
  term-kept = written_term_induct TermKept TermsKept kept-Alone kept-Headed kept-none kept-more

  pub terms-kept : (ts : List WrittenTerm) → TermsKept ts
  terms-kept = written_terms_induct TermKept TermsKept kept-Alone kept-Headed kept-none kept-more
