-- Sorts that are kept: where a part is replaced, and in an instance.
use Rattle.std.proofs.Common.{◌≡◌, ◌∙◌, ℕ, zero, suc, Bool, true, false, refl, sym, ap, subst, List, [], ◌∷◌, Option, Some, None, set, slice_get, length, nat_lt, if◌then◌else◌}
use Rattle.std.specs.List.{list_any}
use Rattle.std.proofs.lemmas.List.{map-set}
use Rattle.am_term.specs.declared.id.SortId.{SortId}
use Rattle.am_term.specs.declared.id.SymId.{SymId}
use Rattle.am_term.specs.declared.symbol.Symbol.{Symbol}
use Rattle.am_term.specs.declared.signature.Signature.{Signature}
use Rattle.am_term.specs.declared.term.Term.{Term}
use Rattle.am_term.specs.declared.term.Term.TheVariants.{Var, In, App}
use Rattle.am_term.specs.Induct.{term_induct, terms_induct, term_cases}
use Rattle.am_term.specs.Instance.{instance, instances, instance-In, instance-App}
use Rattle.am_term.specs.Place.{member, with_member, args_of, with_arg, place, replaced, args_of-Var, args_of-In, args_of-App, with_arg-App}
use Rattle.am_term.specs.Sorting.{fits_place, fit_places, result_at, sort_of, sorts_of, sort_of-Var, sort_of-App, term_fits, KeepsSorts}
use Rattle.am_term.specs.Sorts.{fits}
use Rattle.am_term.specs.Variables.{is_variable, is_variable-Var, occurs, occurs-App}
use Rattle.am_term.proofs.Forest.{fits-same, fits-trans}
use Rattle.am_term.proofs.Instances.{occurs-self}
use Rattle.am_term.proofs.Parts.{inside, place-step, no_arg}
use Rattle.am_term.proofs.Tests.{and_left, and_right, and_both, or_left, or_right}

module _ (sig : Signature) where
  pub fits_place-trans : (o : Option SortId) (s p : SortId) → fits_place sig o s ≡ true → fits sig s p ≡ true → fits_place sig o p ≡ true
  fits_place-trans None s p e f = absurd cc
  fits_place-trans (Some r) s p e f = fits-trans sig r s p e f

  -- a symbol has one result wherever its places are met
  pub result_at-kept : (o : Option Symbol) (ss rs : List (Option SortId)) (s : SortId) → ((ps : List SortId) → fit_places sig ss ps ≡ true → fit_places sig rs ps ≡ true) → result_at sig o ss ≡ Some s → result_at sig o rs ≡ Some s
  result_at-kept None ss rs s h e = absurd cc
  result_at-kept (Some y) ss rs s h e = by_test (fit_places sig ss y.args) refl e
    where
      by_test : (b : Bool) → fit_places sig ss y.args ≡ b → (if b then y.result else None) ≡ Some s → (if fit_places sig rs y.args then y.result else None) ≡ Some s
      by_test true t k = ap (λ b. if b then y.result else None) (h y.args t) ∙ k
      by_test false t k = absurd cc

  -- one of the sorts replaced by another that fits wherever it did
  pub fit_places-set : (ss : List (Option SortId)) (i : ℕ) (old now : Option SortId) (ps : List SortId) → slice_get ss i ≡ Some old → ((p : SortId) → fits_place sig old p ≡ true → fits_place sig now p ≡ true) → fit_places sig ss ps ≡ true → fit_places sig (set ss i now) ps ≡ true
  fit_places-set [] i old now ps is h e = absurd cc
  fit_places-set (s ∷ ss) i old now [] is h e = absurd cc
  fit_places-set (s ∷ ss) zero old now (p ∷ ps) is h e =
      let same : s ≡ old = cc in
      and_both (fits_place sig now p) (fit_places sig ss ps)
      (h p (ap (λ o. fits_place sig o p) (sym same) ∙ and_left (fits_place sig s p) (fit_places sig ss ps) e))
      (and_right (fits_place sig s p) (fit_places sig ss ps) e)
  fit_places-set (s ∷ ss) (suc i) old now (p ∷ ps) is h e =
      and_both (fits_place sig s p) (fit_places sig (set ss i now) ps)
      (and_left (fits_place sig s p) (fit_places sig ss ps) e)
      (fit_places-set ss i old now ps is h (and_right (fits_place sig s p) (fit_places sig ss ps) e))

module _ (sig : Signature) (ins : List SortId) where
  -- one term may stand wherever another may
  abbrev pub StandsFor : Term → Term → Type 0
  StandsFor new old = (p : SortId) → term_fits sig ins old p ≡ true → term_fits sig ins new p ≡ true

  pub stands-by : (new old : Term) → ((s : SortId) → sort_of sig ins old ≡ Some s → term_fits sig ins new s ≡ true) → StandsFor new old
  stands-by new old h = by_sort (sort_of sig ins old) refl
    where
      by_sort : (o : Option SortId) → sort_of sig ins old ≡ o → (p : SortId) → fits_place sig o p ≡ true → term_fits sig ins new p ≡ true
      by_sort None is p f = absurd cc
      by_sort (Some s) is p f = fits_place-trans sig (sort_of sig ins new) s p (h s is) f

  pub stands-for : (new old : Term) (s : SortId) → sort_of sig ins old ≡ Some s → term_fits sig ins new s ≡ true → StandsFor new old
  stands-for new old s is e p f = fits_place-trans sig (sort_of sig ins new) s p e (ap (λ o. fits_place sig o p) (sym is) ∙ f)

  -- a symbol with other arguments that fit wherever the old ones did
  pub sort-args : (f : SymId) (args others : List Term) (s : SortId) → ((ps : List SortId) → fit_places sig (sorts_of sig ins args) ps ≡ true → fit_places sig (sorts_of sig ins others) ps ≡ true) → sort_of sig ins (App f args) ≡ Some s → sort_of sig ins (App f others) ≡ Some s
  sort-args f args others s h e = sort_of-App sig ins f others ∙ result_at-kept sig (slice_get sig.symbols f.0) (sorts_of sig ins args) (sorts_of sig ins others) s h (sym (sort_of-App sig ins f args) ∙ e)

  get-sorts : (ts : List Term) (i : ℕ) (t : Term) → slice_get ts i ≡ Some t → slice_get (sorts_of sig ins ts) i ≡ Some (sort_of sig ins t)
  get-sorts [] i t e = absurd cc
  get-sorts (u ∷ ts) zero t e = let s : u ≡ t = cc in ap (λ x. Some (sort_of sig ins x)) s
  get-sorts (u ∷ ts) (suc i) t e = get-sorts ts i t e

  fit_places-member : (ts : List Term) (k : ℕ) (old now : Term) (ps : List SortId) → member ts k ≡ Some old → StandsFor now old → fit_places sig (sorts_of sig ins ts) ps ≡ true → fit_places sig (sorts_of sig ins (with_member ts k now)) ps ≡ true
  fit_places-member ts zero old now ps is h e = e
  fit_places-member ts (suc i) old now ps is h e =
      ap (λ ss. fit_places sig ss ps) (map-set (sort_of sig ins) ts i now)
      ∙ fit_places-set sig (sorts_of sig ins ts) i (sort_of sig ins old) (sort_of sig ins now) ps (get-sorts ts i old is) h e

  -- one argument replaced
  pub sort-with_arg : (t : Term) (k : ℕ) (old now : Term) (s : SortId) → member (args_of t) k ≡ Some old → StandsFor now old → sort_of sig ins t ≡ Some s → sort_of sig ins (with_arg t k now) ≡ Some s
  sort-with_arg = term_cases
      (λ t. (k : ℕ) (old now : Term) (s : SortId) → member (args_of t) k ≡ Some old → StandsFor now old → sort_of sig ins t ≡ Some s → sort_of sig ins (with_arg t k now) ≡ Some s)
      (λ n r k old now s is h e. no_arg (args_of (Var n r)) k old (args_of-Var n r) is)
      (λ j k old now s is h e. no_arg (args_of (In j)) k old (args_of-In j) is)
      (λ f args k old now s is h e.
      ap (sort_of sig ins) (with_arg-App f args k now)
      ∙ sort-args f args (with_member args k now) s (λ ps d. fit_places-member args k old now ps (ap (λ us. member us k) (sym (args_of-App f args)) ∙ is) h d) e)

  -- from the place up to the root
  pub replaced-stands : (new part : Term) → StandsFor new part → (path : List ℕ) (t u : Term) → place path t ≡ Some part → replaced new path t ≡ Some u → StandsFor u t
  replaced-stands new part h [] t u is e =
      let a : t ≡ part = cc in
      let b : new ≡ u = cc in
      subst (λ x. StandsFor x t) b (subst (λ x. StandsFor new x) (sym a) h)
  replaced-stands new part h (k ∷ path) t u is e =
      let r = inside new k path t u e in
      let below = replaced-stands new part h path r.old r.now (sym (place-step k path t r.old r.was) ∙ is) r.inner in
      stands-by u t (λ s d.
      subst (λ w. term_fits sig ins w s ≡ true) r.whole
      (ap (λ o. fits_place sig o s) (sort-with_arg t k r.old r.now s r.was below d) ∙ fits-same sig s))

  -- where a part is replaced by one whose sort fits that of the part, the sort of the whole fits that of the whole before
  pub replaced-fits : (path : List ℕ) (t part new u : Term) (p s : SortId) → place path t ≡ Some part → replaced new path t ≡ Some u → sort_of sig ins part ≡ Some p → term_fits sig ins new p ≡ true → sort_of sig ins t ≡ Some s → term_fits sig ins u s ≡ true
  replaced-fits path t part new u p s is e q f d =
      replaced-stands new part (stands-for new part p q f) path t u is e s (ap (λ o. fits_place sig o s) d ∙ fits-same sig s)

  -- below the root the sort of the whole stays
  pub replaced-sort : (k : ℕ) (path : List ℕ) (t part new u : Term) (p s : SortId) → place (k ∷ path) t ≡ Some part → replaced new (k ∷ path) t ≡ Some u → sort_of sig ins part ≡ Some p → term_fits sig ins new p ≡ true → sort_of sig ins t ≡ Some s → sort_of sig ins u ≡ Some s
  replaced-sort k path t part new u p s is e q f d =
      let r = inside new k path t u e in
      let below = replaced-stands new part (stands-for new part p q f) path r.old r.now (sym (place-step k path t r.old r.was) ∙ is) r.inner in
      subst (λ w. sort_of sig ins w ≡ Some s) r.whole (sort-with_arg t k r.old r.now s r.was below d)

module _ (sig : Signature) (ins : List SortId) (with : List Term) where
  -- each variable of the terms becomes a term whose sort fits that of the variable
  abbrev pub KeepEach : List Term → Type 0
  KeepEach ts = (n : ℕ) (s : SortId) → list_any (occurs n s) ts ≡ true → term_fits sig ins (instance with (Var n s)) s ≡ true

  abbrev pub Kept : Term → Type 0
  Kept t = KeepsSorts sig ins with t → StandsFor sig ins (instance with t) t

  abbrev pub KeptAll : List Term → Type 0
  KeptAll ts = KeepEach ts → (ps : List SortId) → fit_places sig (sorts_of sig ins ts) ps ≡ true → fit_places sig (sorts_of sig ins (instances with ts)) ps ≡ true

  var-sort : (n : ℕ) (r s : SortId) → sort_of sig ins (Var n r) ≡ Some s → r ≡ s
  var-sort n r s e = by_test (nat_lt r.0 (length sig.sorts)) (sym (sort_of-Var sig ins n r) ∙ e)
    where
      by_test : (b : Bool) → (if b then Some r else None) ≡ Some s → r ≡ s
      by_test true h = cc
      by_test false h = absurd cc

  kept-Var : (n : ℕ) (r : SortId) → Kept (Var n r)
  kept-Var n r h = stands-by sig ins (instance with (Var n r)) (Var n r) (λ s e. subst (λ x. term_fits sig ins (instance with (Var n r)) x ≡ true) (var-sort n r s e) (h n r (occurs-self n r)))

  kept-In : (k : ℕ) → Kept (In k)
  kept-In k h p f = ap (λ x. term_fits sig ins x p) (instance-In with k) ∙ f

  pub sort-instance-App : (f : SymId) (args : List Term) → KeptAll args → KeepsSorts sig ins with (App f args) → (s : SortId) → sort_of sig ins (App f args) ≡ Some s → sort_of sig ins (instance with (App f args)) ≡ Some s
  sort-instance-App f args k h s e =
      ap (sort_of sig ins) (instance-App with f args)
      ∙ sort-args sig ins f args (instances with args) s (λ ps d. k (λ n r o. h n r (occurs-App n r f args ∙ o)) ps d) e

  kept-App : (f : SymId) (args : List Term) → KeptAll args → Kept (App f args)
  kept-App f args k h = stands-by sig ins (instance with (App f args)) (App f args) (λ s e.
      ap (λ o. fits_place sig o s) (sort-instance-App f args k h s e) ∙ fits-same sig s)

  kept-none : KeptAll []
  kept-none h ps e = e

  kept-more : (t : Term) (ts : List Term) → Kept t → KeptAll ts → KeptAll (t ∷ ts)
  kept-more t ts k ks h [] e = absurd cc
  kept-more t ts k ks h (p ∷ ps) e =
      and_both (term_fits sig ins (instance with t) p) (fit_places sig (sorts_of sig ins (instances with ts)) ps)
      (k (λ n s o. h n s (or_left (occurs n s t) (list_any (occurs n s) ts) o)) p (and_left (term_fits sig ins t p) (fit_places sig (sorts_of sig ins ts) ps) e))
      (ks (λ n s o. h n s (or_right (occurs n s t) (list_any (occurs n s) ts) o)) ps (and_right (term_fits sig ins t p) (fit_places sig (sorts_of sig ins ts) ps) e))

  -- an instance may stand wherever the term may
  pub instance-stands : (t : Term) → Kept t
  instance-stands = term_induct Kept KeptAll kept-Var kept-In kept-App kept-none kept-more

  pub instances-fit : (ts : List Term) → KeptAll ts
  instances-fit = terms_induct Kept KeptAll kept-Var kept-In kept-App kept-none kept-more

  pub instance-fits : (t : Term) (s : SortId) → KeepsSorts sig ins with t → sort_of sig ins t ≡ Some s → term_fits sig ins (instance with t) s ≡ true
  instance-fits t s h e = instance-stands t h s (ap (λ o. fits_place sig o s) e ∙ fits-same sig s)

  -- and its sort is that of the term, if this is no variable
  pub instance-sort : (t : Term) (s : SortId) → KeepsSorts sig ins with t → is_variable t ≡ false → sort_of sig ins t ≡ Some s → sort_of sig ins (instance with t) ≡ Some s
  instance-sort = term_cases
      (λ t. (s : SortId) → KeepsSorts sig ins with t → is_variable t ≡ false → sort_of sig ins t ≡ Some s → sort_of sig ins (instance with t) ≡ Some s)
      (λ n r s h v e. let a = is_variable-Var n r in absurd cc)
      (λ k s h v e. ap (sort_of sig ins) (instance-In with k) ∙ e)
      (λ f args s h v e. sort-instance-App f args (instances-fit args) h s e)

pub ruleset laws_of_sorts = (replaced-fits, replaced-sort, instance-fits, instance-sort)
