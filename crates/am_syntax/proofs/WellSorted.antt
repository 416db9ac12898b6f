-- Terms without a flaw have a sort, and what they mean has the same sort.
use Rattle.std.proofs.Common.{◌≡◌, ◌==◌, ◌∙◌, ◌||◌, ◌<◌, ℕ, true, false, not, refl, sym, ap, true≢false, List, [], ◌∷◌, map, Option, Some, None, slice_get, nat_lt, if◌then◌else◌, arith}
use Rattle.std.specs.Prelude.{is_none, length, option_map}
use Rattle.std.specs.List.{list_any}
use Rattle.std.proofs.lemmas.Bool.Decides.{nat_tests}
use Rattle.std.proofs.lemmas.Option.{slice_get-map}
use Rattle.am_term.specs.declared.id.SortId.{SortId}
use Rattle.am_term.specs.declared.symbol.Symbol.{Symbol}
use Rattle.am_term.specs.declared.signature.Signature.{Signature}
use Rattle.am_term.specs.Sorting.{fits_place, fit_places, result_at, sort_of, sorts_of, sort_of-Var, sort_of-In, sort_of-App}
use Rattle.am_term.specs.Sorts.{fits, fits_in, akin, akin_in}
use Rattle.am_term.proofs.Tests.{and_both, false_not}
use Rattle.am_syntax.specs.declared.scope.Flaw.{Flaw}
use Rattle.am_syntax.specs.declared.scope.Flaw.TheVariants.{UnknownName, BadSort, BadArity, Unbound}
use Rattle.am_syntax.specs.declared.scope.Standing.{Standing}
use Rattle.am_syntax.specs.declared.scope.Standing.TheVariants.{Variable, Input, Barred}
use Rattle.am_syntax.specs.declared.written.WrittenTerm.{WrittenTerm}
use Rattle.am_syntax.specs.declared.written.WrittenTerm.TheVariants.{Alone, Headed}
use Rattle.am_syntax.specs.Induct.{written_term_induct, written_terms_induct}
use Rattle.am_syntax.specs.Scopes.{Scope, Profile, profile, standing_of, symbol_of, result_of, argument_sorts_of, alone_sort_by}
use Rattle.am_syntax.specs.Flaws.{has_unknown_name, has_bad_sort, has_bad_arity, term_has, written_sort, written_sorts, misfits, some_misfit, is_relation, is_lone_relation, is_miscounted, is_lone_function, is_unbound}
use Rattle.am_syntax.specs.Meaning.{named_symbol, alone_term, term_meaning}
use Rattle.am_syntax.specs.Laws.{MatchesSignature, IsFlawless, IsWellSorted}
use Rattle.am_syntax.proofs.Among.{none_left, none_right}
use Rattle.am_syntax.proofs.Known.{Known, known, known-symbol, known-named}
use Rattle.am_syntax.proofs.Equations.{written_sort-Alone, written_sort-Headed, has_unknown_name-Headed, has_bad_sort-Alone, has_bad_sort-Headed, has_bad_arity-Alone, has_bad_arity-Headed, has_unbound-Alone, has_unbound-Headed, term_meaning-Alone, term_meaning-Headed}

pub counted : (m n : ℕ) → not (m == n) ≡ false → m ≡ n
counted m n e = grind (arith, nat_tests)

below-is : (m n : ℕ) → m < n → nat_lt m n ≡ true
below-is m n l = grind (arith, nat_tests)

some-is : (o : Option SortId) → is_none o ≡ false → (sort : SortId) × (o ≡ Some sort)
some-is None e = absurd (true≢false e)
some-is (Some sort) e = (sort, refl)

-- a symbol of the signature is the symbol of the scope
pub record IsSymbol (sig : Signature) (number : ℕ) (y : Profile) : Type 0 where
  pub symbol : Symbol
  pub there : slice_get sig.symbols number ≡ Some symbol
  pub same : profile symbol ≡ y

module _ (s : Scope) (sig : Signature) (ins : List SortId) (m : MatchesSignature s sig ins) where
  pub fits-is : (a b : SortId) → fits_in s.parents a b ≡ fits sig a b
  unfolding fits
  fits-is a b = ap (λ ps. fits_in ps a b) m.parents

  pub akin-is : (a b : SortId) → akin_in s.parents a b ≡ akin sig a b
  unfolding akin
  akin-is a b = ap (λ ps. akin_in ps a b) m.parents

  symbol-by : (k : ℕ) (y : Profile) (o : Option Symbol) → slice_get sig.symbols k ≡ o → option_map profile o ≡ Some y → IsSymbol sig k y
  symbol-by k y None p e = absurd cc
  symbol-by k y (Some z) p e = record { symbol = z; there = p; same = cc }

  symbol-is : (k : ℕ) (y : Profile) → slice_get s.symbols k ≡ Some y → IsSymbol sig k y
  symbol-is k y e = symbol-by k y (slice_get sig.symbols k) refl (sym (slice_get-map profile sig.symbols k) ∙ ap (λ ys. slice_get ys k) (sym m.symbols) ∙ e)

  pub symbol-known : (w : List ℕ) (k : Known s w) → IsSymbol sig k.number k.symbol
  symbol-known w k = symbol-is k.number k.symbol k.there

  pub symbol-named : (w : List ℕ) (k : Known s w) (y : IsSymbol sig k.number k.symbol) → slice_get sig.symbols (named_symbol s w).0 ≡ Some y.symbol
  symbol-named w k y = ap (λ f. slice_get sig.symbols f.0) (known-named s w k) ∙ y.there

  -- a symbol at sorts that fit its places has its result sort
  result-is : (w : List ℕ) (k : Known s w) (sorts : List (Option SortId)) (sort : SortId) → k.symbol.result ≡ Some sort → fit_places sig sorts k.symbol.args ≡ true → result_at sig (slice_get sig.symbols (named_symbol s w).0) sorts ≡ Some sort
  result-is w k sorts sort e f =
      let y = symbol-known w k in
      ap (λ o. result_at sig o sorts) (symbol-named w k y)
      ∙ ap (λ z. if fit_places sig sorts z.args then z.result else None) y.same
      ∙ ap (λ b. if b then k.symbol.result else None) f
      ∙ e

  fit_places-none : (ps : List SortId) → length ps ≡ 0 → fit_places sig [] ps ≡ true
  fit_places-none [] e = refl
  fit_places-none (p ∷ ps) e = absurd (omega arith)

  -- ---- a name alone, by what it stands for
  record IsSortedAlone (w : List ℕ) (o : Option Standing) : Type 0 where
    pub sort : SortId
    pub written : alone_sort_by o (symbol_of s w) ≡ Some sort
    pub meant : sort_of sig ins (alone_term s o w) ≡ Some sort

  sorted-constant : (w : List ℕ) (k : Known s w) → is_relation (symbol_of s w) ≡ false → is_miscounted (symbol_of s w) 0 ≡ false → IsSortedAlone w None
  sorted-constant w k e c =
      let result = some-is k.symbol.result (ap is_relation (sym (known-symbol s w k)) ∙ e) in
      let count : length k.symbol.args ≡ 0 = counted (length k.symbol.args) 0 (ap (λ y. is_miscounted y 0) (sym (known-symbol s w k)) ∙ c) in
      record {
        sort = result.0;
        written = ap result_of (known-symbol s w k) ∙ result.1;
        meant = sort_of-App sig ins (named_symbol s w) [] ∙ result-is w k [] result.0 result.1 (fit_places-none k.symbol.args count);
      }

  sorted-at : (w : List ℕ) (o : Option Standing) → standing_of w s.bound ≡ o → is_unbound o (symbol_of s w) ≡ false → is_lone_relation s o w ≡ false → is_lone_function s o w ≡ false → IsSortedAlone w o
  sorted-at w None p u e c = sorted-constant w (known s w u) e c
  sorted-at w (Some (Variable n sort)) p u e c = record {
    sort = sort;
    written = refl;
    meant = sort_of-Var sig ins n sort ∙ ap (λ b. if b then Some sort else None) (below-is sort.0 (length sig.sorts) (m.variables w n sort p));
  }
  sorted-at w (Some (Input k sort)) p u e c = record {
    sort = sort;
    written = refl;
    meant = sort_of-In sig ins k ∙ m.inputs w k sort p;
  }
  sorted-at w (Some Barred) p u e c = absurd (true≢false u)

  -- ---- arguments
  -- what terms mean has the sorts of the terms, and these fit as many places unless one doesn't
  pub record AreWellSorted (ts : List WrittenTerm) : Type 0 where
    pub sorts : sorts_of sig ins (map (term_meaning s) ts) ≡ written_sorts s ts
    pub fit : (ps : List SortId) → length ps ≡ length ts → some_misfit s.parents (written_sorts s ts) ps ≡ false → fit_places sig (written_sorts s ts) ps ≡ true

  fits-there : (o : Option SortId) (sort p : SortId) → o ≡ Some sort → misfits s.parents o p ≡ false → fits_place sig o p ≡ true
  fits-there None sort p is e = absurd cc
  fits-there (Some a) sort p is e = sym (fits-is a p) ∙ false_not (fits_in s.parents a p) e

  pub args-fit : (ts : List WrittenTerm) → AreWellSorted ts → (y : Profile) → is_miscounted (Some y) (length ts) ≡ false → some_misfit s.parents (written_sorts s ts) y.args ≡ false → fit_places sig (sorts_of sig ins (map (term_meaning s) ts)) y.args ≡ true
  args-fit ts k y c e = ap (λ os. fit_places sig os y.args) k.sorts ∙ k.fit y.args (counted (length y.args) (length ts) c) e

  -- ---- all terms
  abbrev pub TermSorted : WrittenTerm → Type 0
  TermSorted t = IsFlawless s t → IsWellSorted s sig ins t

  abbrev pub TermsSorted : List WrittenTerm → Type 0
  TermsSorted ts = ((flaw : Flaw) → list_any (term_has s flaw) ts ≡ false) → AreWellSorted ts

  sorted-Alone : (w : List ℕ) → TermSorted (Alone w)
  sorted-Alone w h =
      let k = sorted-at w (standing_of w s.bound) refl
      (sym (has_unbound-Alone s w) ∙ h Unbound)
      (sym (has_bad_sort-Alone s w) ∙ h BadSort)
      (sym (has_bad_arity-Alone s w) ∙ h BadArity) in
      record {
        sort = k.sort;
        written = written_sort-Alone s w ∙ k.written;
        meant = ap (sort_of sig ins) (term_meaning-Alone s w) ∙ k.meant;
      }

  -- a head that is a symbol, with arguments that are well sorted
  sorted-head : (h : List ℕ) (args : List WrittenTerm) (k : Known s h) → is_relation (Some k.symbol) ≡ false → is_miscounted (Some k.symbol) (length args) ≡ false → some_misfit s.parents (written_sorts s args) k.symbol.args ≡ false → AreWellSorted args → IsWellSorted s sig ins (Headed h args)
  sorted-head h args k e c f a =
      let result = some-is k.symbol.result e in
      record {
        sort = result.0;
        written = written_sort-Headed s h args ∙ ap result_of (known-symbol s h k) ∙ result.1;
        meant =
            ap (sort_of sig ins) (term_meaning-Headed s h args)
            ∙ sort_of-App sig ins (named_symbol s h) (map (term_meaning s) args)
            ∙ result-is h k (sorts_of sig ins (map (term_meaning s) args)) result.0 result.1 (args-fit args a k.symbol c f);
      }

  flawless-args : (h : List ℕ) (args : List WrittenTerm) → IsFlawless s (Headed h args) → (flaw : Flaw) → list_any (term_has s flaw) args ≡ false
  flawless-args h args f UnknownName = none_right (is_none (symbol_of s h)) (list_any (has_unknown_name s) args) (sym (has_unknown_name-Headed s h args) ∙ f UnknownName)
  flawless-args h args f BadSort = none_right (some_misfit s.parents (written_sorts s args) (argument_sorts_of (symbol_of s h))) (list_any (has_bad_sort s) args) (none_right (is_relation (symbol_of s h)) (some_misfit s.parents (written_sorts s args) (argument_sorts_of (symbol_of s h)) || list_any (has_bad_sort s) args) (sym (has_bad_sort-Headed s h args) ∙ f BadSort))
  flawless-args h args f BadArity = none_right (is_miscounted (symbol_of s h) (length args)) (list_any (has_bad_arity s) args) (sym (has_bad_arity-Headed s h args) ∙ f BadArity)
  flawless-args h args f Unbound = sym (has_unbound-Headed s h args) ∙ f Unbound

  sorted-Headed : (h : List ℕ) (args : List WrittenTerm) → TermsSorted args → TermSorted (Headed h args)
  sorted-Headed h args a f =
      let k = known s h (none_left (is_none (symbol_of s h)) (list_any (has_unknown_name s) args) (sym (has_unknown_name-Headed s h args) ∙ f UnknownName)) in
      let sorts = sym (has_bad_sort-Headed s h args) ∙ f BadSort in
      let inner = none_right (is_relation (symbol_of s h)) (some_misfit s.parents (written_sorts s args) (argument_sorts_of (symbol_of s h)) || list_any (has_bad_sort s) args) sorts in
      sorted-head h args k
      (ap is_relation (sym (known-symbol s h k)) ∙ none_left (is_relation (symbol_of s h)) (some_misfit s.parents (written_sorts s args) (argument_sorts_of (symbol_of s h)) || list_any (has_bad_sort s) args) sorts)
      (ap (λ y. is_miscounted y (length args)) (sym (known-symbol s h k)) ∙ none_left (is_miscounted (symbol_of s h) (length args)) (list_any (has_bad_arity s) args) (sym (has_bad_arity-Headed s h args) ∙ f BadArity))
      (ap (λ y. some_misfit s.parents (written_sorts s args) (argument_sorts_of y)) (sym (known-symbol s h k)) ∙ none_left (some_misfit s.parents (written_sorts s args) (argument_sorts_of (symbol_of s h))) (list_any (has_bad_sort s) args) inner)
      (a (flawless-args h args f))

  sorted-none : TermsSorted []
  sorted-none f = record { sorts = refl; fit = λ ps c e. fit_places-none ps c }

  fit-more : (t : WrittenTerm) (ts : List WrittenTerm) → IsWellSorted s sig ins t → AreWellSorted ts → (ps : List SortId) → length ps ≡ length (t ∷ ts) → some_misfit s.parents (written_sorts s (t ∷ ts)) ps ≡ false → fit_places sig (written_sorts s (t ∷ ts)) ps ≡ true
  fit-more t ts here there [] c e = absurd (omega arith)
  fit-more t ts here there (p ∷ ps) c e =
      and_both (fits_place sig (written_sort s t) p) (fit_places sig (written_sorts s ts) ps)
      (fits-there (written_sort s t) here.sort p here.written (none_left (misfits s.parents (written_sort s t) p) (some_misfit s.parents (written_sorts s ts) ps) e))
      (there.fit ps (omega arith) (none_right (misfits s.parents (written_sort s t) p) (some_misfit s.parents (written_sorts s ts) ps) e))

  sorted-more : (t : WrittenTerm) (ts : List WrittenTerm) → TermSorted t → TermsSorted ts → TermsSorted (t ∷ ts)
  sorted-more t ts k ks f =
      let here = k (λ flaw. none_left (term_has s flaw t) (list_any (term_has s flaw) ts) (f flaw)) in
      let there = ks (λ flaw. none_right (term_has s flaw t) (list_any (term_has s flaw) ts) (f flaw)) in
      record {
        sorts =
            ap (λ o. o ∷ sorts_of sig ins (map (term_meaning s) ts)) (here.meant ∙ sym here.written)
            ∙ ap (λ os. written_sort s t ∷ os) there.sorts;
        fit = fit-more t ts here there;
      }

  pub term-sorted : (t : WrittenTerm) → TermSorted t
  term-sorted = written_term_induct TermSorted TermsSorted sorted-Alone sorted-Headed sorted-none sorted-more

  pub terms-sorted : (ts : List WrittenTerm) → TermsSorted ts
  terms-sorted = written_terms_induct TermSorted TermsSorted sorted-Alone sorted-Headed sorted-none sorted-more
