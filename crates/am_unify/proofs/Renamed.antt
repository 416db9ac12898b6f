-- Two most general unifiers differ by a renaming, and one is idempotent.
use Rattle.std.proofs.Common.{◌≡◌, ◌≢◌, ◌∙◌, ◌==◌, ◌&&◌, ◌<◌, if◌then◌else◌, inl, inr, ℕ, true, false, true≢false, refl, sym, ap, subst, Some, None, List, [], ◌∷◌, length}
use Rattle.std.specs.List.{list_any, list_all, AllByRecursion}
use Rattle.am_term.specs.declared.id.SortId.{SortId}
use Rattle.am_term.specs.declared.id.SymId.{SymId}
use Rattle.am_term.specs.declared.signature.Signature.{Signature}
use Rattle.am_term.specs.declared.term.Term.{Term}
use Rattle.am_term.specs.declared.term.Term.TheOpen.{Term-F}
use Rattle.am_term.specs.declared.term.Term.TheViews.{out-Term}
use Rattle.am_term.specs.declared.term.Term.TheVariants.{Var, In, App, outs-Var, outs-In, outs-App}
use Rattle.am_term.specs.Induct.{term_induct}
use Rattle.am_term.specs.Same.{is_var as is_same_var, same_term, same_term-Var}
use Rattle.am_term.specs.Sorts.{fits}
use Rattle.am_term.specs.Sorting.{fits_place, sort_of}
use Rattle.am_term.proofs.Forest.{fits-antisym, fits-same}
use Rattle.am_term.proofs.Tests.{or_cases, and_left, and_right, fails}
use Rattle.am_unify.specs.Mgu.{Solver, bind, open_pair, mgu}
use Rattle.am_unify.specs.Occurrence.{number_occurs, number_occurs-Var, number_occurs-In, number_occurs-App, has_given_sorts, has_given_sorts-App}
use Rattle.am_unify.specs.Substitution.{Substitution, apply, applies, apply-Var, apply-In, apply-App, listed, after_binding}
use Rattle.am_unify.specs.Unifier.{IsSortedUnder, IsMostGeneral, IsRenamed}
use Rattle.am_unify.proofs.Standing.{number_is}
use Rattle.am_unify.proofs.Steps.{is_var, is_in, is_app, mgu-none, mgu-more}
use Rattle.am_unify.proofs.Instances.{given_sort}
use Rattle.am_unify.proofs.Keeping.{place-some, sort_of-valid, sort_of-variable, arguments-posed}
use Rattle.am_unify.proofs.Solved.{AreAlike, app-alike}

never : {A : Type 0} → false ≡ true → A
never e = absurd (true≢false (sym e))

in-var : (k n : ℕ) (s : SortId) → In k ≡ Var n s → ⊥
in-var k n s e = let d : Term-F.In k ≡ Term-F.Var n s = sym (outs-In k) ∙ (ap out-Term e ∙ outs-Var n s) in cc

pub app-var : (f : SymId) (ts : List Term) (n : ℕ) (s : SortId) → App f ts ≡ Var n s → ⊥
app-var f ts n s e = let d : Term-F.App f ts ≡ Term-F.Var n s = sym (outs-App f ts) ∙ (ap out-Term e ∙ outs-Var n s) in cc

-- the terms of an equation between lists
pub heads : {A : Type 0} (x y : A) (xs ys : List A) → (x ∷ xs) ≡ (y ∷ ys) → x ≡ y
heads x y xs ys e = cc

pub tails : {A : Type 0} (x y : A) (xs ys : List A) → (x ∷ xs) ≡ (y ∷ ys) → xs ≡ ys
tails x y xs ys e = cc

module _ (sorts : ℕ → SortId) where
  -- a term that stays has variables that stay
  pub stays : (σ : Substitution) (m : ℕ) (t : Term) → has_given_sorts sorts t ≡ true → apply σ t ≡ t → number_occurs m t ≡ true → σ m (sorts m) ≡ Var m (sorts m)
  stays σ m = term_induct
      (λ t. has_given_sorts sorts t ≡ true → apply σ t ≡ t → number_occurs m t ≡ true → σ m (sorts m) ≡ Var m (sorts m))
      (λ ts. list_all (has_given_sorts sorts) ts ≡ true → applies σ ts ≡ ts → list_any (number_occurs m) ts ≡ true → σ m (sorts m) ≡ Var m (sorts m))
      (λ n s f e o.
      let is : m ≡ n = number_is m n (sym (number_occurs-Var m n s) ∙ o) in
      let of : s ≡ sorts n = given_sort sorts n s f in
      let same : σ n s ≡ Var n s = sym (apply-Var σ n s) ∙ e in
      subst (λ x. σ x (sorts x) ≡ Var x (sorts x)) (sym is) (subst (λ r. σ n r ≡ Var n r) of same))
      (λ k f e o. never (sym (number_occurs-In m k) ∙ o))
      (λ g args h f e o.
      let k : AreAlike g g (applies σ args) args = app-alike g g (applies σ args) args (sym (apply-App σ g args) ∙ e) in
      h (sym (has_given_sorts-App sorts g args) ∙ f) k.arguments (sym (number_occurs-App m g args) ∙ o))
      (λ f e o. never o)
      (λ t ts h k f e o. elim (or_cases (number_occurs m t) (list_any (number_occurs m) ts) o) [
        | inl d ↦ h (and_left (has_given_sorts sorts t) (list_all (has_given_sorts sorts) ts) f) (heads (apply σ t) t (applies σ ts) ts e) d
        | inr d ↦ k (and_right (has_given_sorts sorts t) (list_all (has_given_sorts sorts) ts) f) (tails (apply σ t) t (applies σ ts) ts e) d
      ])

module _ (sig : Signature) (ins : List SortId) (sorts : ℕ → SortId) where
  -- the variables of a well-sorted term have sorts of the signature
  pub inner-valid : (m : ℕ) (t : Term) → IsSortedUnder sig ins sorts t → number_occurs m t ≡ true → (sorts m).0 < length sig.sorts
  inner-valid m = term_induct
      (λ t. IsSortedUnder sig ins sorts t → number_occurs m t ≡ true → (sorts m).0 < length sig.sorts)
      (λ ts. AllByRecursion (IsSortedUnder sig ins sorts) ts → list_any (number_occurs m) ts ≡ true → (sorts m).0 < length sig.sorts)
      (λ n s h o.
      let is : m ≡ n = number_is m n (sym (number_occurs-Var m n s) ∙ o) in
      let of : s ≡ sorts n = given_sort sorts n s h.follows in
      subst (λ x. (sorts x).0 < length sig.sorts) (sym is) (subst (λ (r : SortId). r.0 < length sig.sorts) of (sort_of-valid sig ins n s h.sorted)))
      (λ k h o. never (sym (number_occurs-In m k) ∙ o))
      (λ g args h p o. h (arguments-posed sig ins sorts g args p) (sym (number_occurs-App m g args) ∙ o))
      (λ h o. never o)
      (λ t ts h k p o. elim (or_cases (number_occurs m t) (list_any (number_occurs m) ts) o) [
        | inl d ↦ h p.0 d
        | inr d ↦ k p.1 d
      ])

  module _ (σ τ : Substitution) (ps : List (Term × Term)) (first : IsMostGeneral sig ins sorts σ ps) (second : IsMostGeneral sig ins sorts τ ps) where
    image_posed : (n : ℕ) → (sorts n).0 < length sig.sorts → IsSortedUnder sig ins sorts (σ n (sorts n))
    image_posed n valid = record {
      sorted = place-some sig (sort_of sig ins (σ n (sorts n))) (sorts n) (first.unifier.fitting n valid);
      follows = first.follows n;
    }

    pub record Variable (m : ℕ) : Type 0 where
      pub number : ℕ
      pub there : τ m (sorts m) ≡ Var number (sorts m)
      pub back : σ number (sorts m) ≡ Var m (sorts m)

    -- σ takes τ's term for m back to m
    takes_back : (m : ℕ) → σ m (sorts m) ≡ Var m (sorts m) → apply σ (τ m (sorts m)) ≡ Var m (sorts m)
    takes_back m e = second.factors σ first.unifier m ∙ e

    by_kind : (m : ℕ) → (sorts m).0 < length sig.sorts → σ m (sorts m) ≡ Var m (sorts m) → (x : Term-F Term) → out-Term (τ m (sorts m)) ≡ x → Variable m
    by_kind m valid e (Term-F.Var k s) is =
        let named : τ m (sorts m) ≡ Var k s = is_var (τ m (sorts m)) k s is in
        let own : s ≡ sorts k = given_sort sorts k s (subst (λ t. has_given_sorts sorts t ≡ true) named (second.follows m)) in
        let down : fits_place sig (sort_of sig ins (Var k s)) (sorts m) ≡ true = subst (λ t. fits_place sig (sort_of sig ins t) (sorts m) ≡ true) named (second.unifier.fitting m valid) in
        let valid_too : s.0 < length sig.sorts = sort_of-valid sig ins k s (place-some sig (sort_of sig ins (Var k s)) (sorts m) down) in
        let below : fits sig s (sorts m) ≡ true = sym (ap (λ o. fits_place sig o (sorts m)) (sort_of-variable sig ins k s valid_too)) ∙ down in
        let home : σ k s ≡ Var m (sorts m) = sym (apply-Var σ k s) ∙ (sym (ap (apply σ) named) ∙ takes_back m e) in
        let up : fits_place sig (sort_of sig ins (σ k s)) s ≡ true = subst (λ r. fits_place sig (sort_of sig ins (σ k r)) r ≡ true) (sym own) (first.unifier.fitting k (subst (λ (r : SortId). r.0 < length sig.sorts) own valid_too)) in
        let above : fits sig (sorts m) s ≡ true = sym (ap (λ o. fits_place sig o s) (sort_of-variable sig ins m (sorts m) valid)) ∙ (sym (ap (λ t. fits_place sig (sort_of sig ins t) s) home) ∙ up) in
        let same : s ≡ sorts m = fits-antisym sig s (sorts m) below above in
        record { number = k; there = named ∙ ap (Var k) same; back = subst (λ r. σ k r ≡ Var m (sorts m)) same home }
    by_kind m valid e (Term-F.In k) is = absurd (in-var k m (sorts m) (sym (ap (apply σ) (is_in (τ m (sorts m)) k is) ∙ apply-In σ k) ∙ takes_back m e))
    by_kind m valid e (Term-F.App f ts) is = absurd (app-var f (applies σ ts) m (sorts m) (sym (ap (apply σ) (is_app (τ m (sorts m)) f ts is) ∙ apply-App σ f ts) ∙ takes_back m e))

    pub most_general-renamed : IsRenamed sig sorts σ τ
    most_general-renamed = record {
      there = λ n. sym (first.factors τ second.unifier n);
      variable = λ n m valid o.
          let e : σ m (sorts m) ≡ Var m (sorts m) = stays sorts σ m (σ n (sorts n)) (first.follows n) (first.factors σ first.unifier n) o in
          let v : Variable m = by_kind m (inner-valid m (σ n (sorts n)) (image_posed n valid) o) e (out-Term (τ m (sorts m))) refl in
          (v.number, (v.there, v.back));
    }

pub idempotent : (sig : Signature) (ins : List SortId) (sorts : ℕ → SortId) (σ : Substitution) (ps : List (Term × Term)) → IsMostGeneral sig ins sorts σ ps → (n : ℕ) → apply σ (σ n (sorts n)) ≡ σ n (sorts n)
idempotent sig ins sorts σ ps h n = h.factors σ h.unifier n

-- the left one of two variables of one sort is bound
pub left-bound : (sig : Signature) (ins : List SortId) (n m : ℕ) (s : SortId) → n ≢ m → mgu sig ins ((Var n s, Var m s) ∷ []) ≡ Some ((n, Var m s) ∷ [])
left-bound sig ins n m s apart =
    let M : Solver = mgu sig ins in
    let v : Term = Var n s in
    let w : Term = Var m s in
    let other : (n == m) ≡ false = fails (n == m) (λ e. apart (number_is n m e)) in
    let differ : same_term v w ≡ false = same_term-Var n s w ∙ (ap (is_same_var n s) (outs-Var m s) ∙ ap (λ b. b && s.0 == s.0) other) in
    let out : number_occurs n w ≡ false = number_occurs-Var n m s ∙ other in
    mgu-more sig ins (v, w) []
    ∙ (ap (λ b. if b then M [] else open_pair sig ins M M v w (out-Term v) (out-Term w) []) differ
    ∙ (ap (λ x. open_pair sig ins M M v w x (out-Term w) []) (outs-Var n s)
    ∙ (ap (λ y. open_pair sig ins M M v w (Term-F.Var n s) y []) (outs-Var m s)
    ∙ (ap (λ b. if b then bind sig ins M M n w [] else if fits sig s s then bind sig ins M M m v [] else None) (fits-same sig s)
    ∙ (ap (λ b. if b then None else after_binding n w (M [])) out
    ∙ (ap (after_binding n w) (mgu-none sig ins)
    ∙ ap (λ t. Some ((n, t) ∷ [])) (apply-Var (listed []) m s)))))))
