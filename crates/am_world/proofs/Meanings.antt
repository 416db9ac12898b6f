-- Members of sorts, and values of terms and of their instances.
use Rattle.std.proofs.Common.{◌≡◌, ◌∙◌, ◌<◌, ◌&&◌, ℕ, zero, suc, Bool, true, false, refl, sym, subst, arith, Option, Some, None, List, [], ◌∷◌, IsTrue, slice_get, slice_index, nat_lt, if◌then◌else◌, length, true≢false}
use Rattle.std.proofs.lemmas.Bool.Decides.{nat_tests}
use Rattle.am_term.specs.declared.id.SortId.{SortId}
use Rattle.am_term.specs.declared.id.SymId.{SymId}
use Rattle.am_term.specs.declared.symbol.Symbol.{Symbol}
use Rattle.am_term.specs.declared.signature.Signature.{Signature}
use Rattle.am_term.specs.declared.term.Term.{Term}
use Rattle.am_term.specs.declared.term.Term.TheVariants.{Var, In, App}
use Rattle.am_term.specs.Induct.{term_induct}
use Rattle.am_term.specs.Instance.{instance, instances, instance-Var, instance-In, instance-App}
use Rattle.am_term.specs.Sorts.{fits}
use Rattle.am_term.specs.Sorting.{sort_of, sorts_of, fits_place, fit_places, result_at, sort_of-Var, sort_of-In, sort_of-App}
use Rattle.am_term.proofs.Forest.{parent-lower, fits-way, here, above}
use Rattle.am_world.specs.Interpretation.{Interpretation, IsWorld, Members, GivesMember}
use Rattle.am_world.specs.Value.{Assignment, IsAssignment, value, values, through, value-Var, value-In, value-App}

module _ (w : Interpretation) (ins : List ℕ) (a : Assignment) (with : List Term) where
  pub value-instance : (t : Term) → value w ins a (instance with t) ≡ value w ins (through w ins a with) t
  value-instance = term_induct
      (λ t. value w ins a (instance with t) ≡ value w ins (through w ins a with) t)
      (λ ts. values w ins a (instances with ts) ≡ values w ins (through w ins a with) ts)
      (λ n s. rw (instance-Var, value-Var w ins (through w ins a with)))
      (λ k. rw (instance-In, value-In w ins a, value-In w ins (through w ins a with)))
      (λ f args h. rw (instance-App, value-App w ins a, value-App w ins (through w ins a with), h))
      refl
      (λ t ts h k. rw (h, k))

module _ (sig : Signature) (w : Interpretation) (world : IsWorld sig w) where
  members-to : (n : ℕ) (s t : SortId) → s.0 < n → fits sig s t ≡ true → (m : ℕ) → IsTrue (w.dom s m) → IsTrue (w.dom t m)
  members-to zero s t h e m d = absurd (omega arith)
  members-to (suc n) s t h e m d = elim (fits-way sig s t e) [
    | here is ↦ subst (λ (x : SortId). IsTrue (w.dom x m)) is d
    | above p is g ↦ let l = parent-lower sig s p is in members-to n p t (omega arith) g m (world.upward s p is m d)
  ]

  pub members-fit : (s t : SortId) → fits sig s t ≡ true → (m : ℕ) → IsTrue (w.dom s m) → IsTrue (w.dom t m)
  members-fit s t = members-to (suc s.0) s t (omega arith)

  -- the k-th of the numbers is a member of the k-th sort
  pub member-at : (sorts : List SortId) (ins : List ℕ) → Members w sorts ins → (k : ℕ) (s : SortId) → slice_get sorts k ≡ Some s → IsTrue (w.dom s (slice_index ins k))
  member-at [] ins m k s e = absurd cc
  member-at (q ∷ qs) [] m k s e = absurd m
  member-at (q ∷ qs) (n ∷ ns) m zero s e = let one : q ≡ s = cc in subst (λ (x : SortId). IsTrue (w.dom x n)) one m.0
  member-at (q ∷ qs) (n ∷ ns) m (suc k) s e = member-at qs ns m.1 k s e

  module _ (sorts : List SortId) (ins : List ℕ) (inside : Members w sorts ins) (a : Assignment) (assigned : IsAssignment sig w a) where
    abbrev IsMember : Term → Type 0
    IsMember t = (s : SortId) → sort_of sig sorts t ≡ Some s → IsTrue (w.dom s (value w ins a t))

    abbrev AreMembers : List Term → Type 0
    AreMembers ts = (ps : List SortId) → fit_places sig (sorts_of sig sorts ts) ps ≡ true → Members w ps (values w ins a ts)

    of_var : (n : ℕ) (s : SortId) → IsMember (Var n s)
    of_var n s q e = by_test (nat_lt s.0 (length sig.sorts)) refl (sym (sort_of-Var sig sorts n s) ∙ e)
      where
        by_test : (b : Bool) → nat_lt s.0 (length sig.sorts) ≡ b → (if b then Some s else None) ≡ Some q → IsTrue (w.dom q (value w ins a (Var n s)))
        by_test true t e =
            let one : s ≡ q = cc in
            let low : s.0 < length sig.sorts = grind (arith, nat_tests) in
            subst (λ (x : SortId). IsTrue (w.dom x (value w ins a (Var n s)))) one (rw (value-Var w ins a n s) (assigned n s low))
        by_test false t e = absurd cc

    of_in : (k : ℕ) → IsMember (In k)
    of_in k s e = rw (value-In w ins a k) (member-at sorts ins inside k s (sym (sort_of-In sig sorts k) ∙ e))

    given : (f : SymId) (r : Option SortId) (ns : List ℕ) (q : SortId) → r ≡ Some q → GivesMember w f r ns → IsTrue (w.dom q (w.fun f ns))
    given f None ns q e g = absurd cc
    given f (Some s) ns q e g = let one : s ≡ q = cc in subst (λ (x : SortId). IsTrue (w.dom x (w.fun f ns))) one g

    of_app : (f : SymId) (args : List Term) → AreMembers args → IsMember (App f args)
    of_app f args h q e = rw (value-App w ins a f args) (by_symbol (slice_get sig.symbols f.0) refl (sym (sort_of-App sig sorts f args) ∙ e))
      where
        by_fit : (y : Symbol) (b : Bool) → slice_get sig.symbols f.0 ≡ Some y → fit_places sig (sorts_of sig sorts args) y.args ≡ b
            → (if b then y.result else None) ≡ Some q → IsTrue (w.dom q (w.fun f (values w ins a args)))
        by_fit y true at fit e = given f y.result (values w ins a args) q e (world.closed f y at (values w ins a args) (h y.args fit))
        by_fit y false at fit e = absurd cc

        by_symbol : (o : Option Symbol) → slice_get sig.symbols f.0 ≡ o → result_at sig o (sorts_of sig sorts args) ≡ Some q → IsTrue (w.dom q (w.fun f (values w ins a args)))
        by_symbol None at e = absurd cc
        by_symbol (Some y) at e = by_fit y (fit_places sig (sorts_of sig sorts args) y.args) at refl e

    of_none : AreMembers []
    of_none [] e = tt
    of_none (p ∷ ps) e = absurd cc

    fits_member : (t : Term) (o : Option SortId) (p : SortId) → sort_of sig sorts t ≡ o → fits_place sig o p ≡ true → IsMember t → IsTrue (w.dom p (value w ins a t))
    fits_member t None p is e h = absurd (true≢false (sym e))
    fits_member t (Some s) p is e h = members-fit s p e (value w ins a t) (h s is)

    and_left : (b c : Bool) → (b && c) ≡ true → b ≡ true
    and_left true c e = refl
    and_left false c e = e

    and_right : (b c : Bool) → (b && c) ≡ true → c ≡ true
    and_right true c e = e
    and_right false c e = absurd (true≢false (sym e))

    of_more : (t : Term) (ts : List Term) → IsMember t → AreMembers ts → AreMembers (t ∷ ts)
    of_more t ts h k [] e = absurd cc
    of_more t ts h k (p ∷ ps) e = (
      fits_member t (sort_of sig sorts t) p refl (and_left (fits_place sig (sort_of sig sorts t) p) (fit_places sig (sorts_of sig sorts ts) ps) e) h,
      k ps (and_right (fits_place sig (sort_of sig sorts t) p) (fit_places sig (sorts_of sig sorts ts) ps) e),
    )

    -- what a term stands for is a member of its sort
    pub value-member : (t : Term) → IsMember t
    value-member = term_induct IsMember AreMembers of_var of_in of_app of_none of_more

    pub values-members : (ts : List Term) → AreMembers ts
    values-members [] = of_none
    values-members (t ∷ ts) = of_more t ts (value-member t) (values-members ts)
