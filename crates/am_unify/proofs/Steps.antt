-- The recursion's equations: what it is counted by is always enough.
use Rattle.std.proofs.Common.{◌≡◌, ◌∙◌, ◌&&◌, ◌==◌, ◌<◌, ◌≤◌, ◌++◌, ℕ, zero, suc, Bool, true, false, refl, sym, ap, arith, Some, None, List, [], ◌∷◌, length, if◌then◌else◌}
use Rattle.std.specs.List.{zip}
use Rattle.am_term.specs.declared.id.SortId.{SortId}
use Rattle.am_term.specs.declared.id.SymId.{SymId}
use Rattle.am_term.specs.declared.signature.Signature.{Signature}
use Rattle.am_term.specs.declared.term.Term.{Term}
use Rattle.am_term.specs.declared.term.Term.TheOpen.{Term-F}
use Rattle.am_term.specs.declared.term.Term.TheViews.{out-Term, roll-Term, roll-out-Term}
use Rattle.am_term.specs.declared.term.Term.TheVariants.{Var, In, App, rolls-Var, rolls-In, rolls-App}
use Rattle.am_term.specs.Same.{same_term}
use Rattle.am_term.specs.Sorts.{fits}
use Rattle.am_term.specs.Sorting.{sort_of, fits_place}
use Rattle.am_unify.specs.Mgu.{Solver, bind, bind_term, open_pair, mgu_step, mgu_within, mgu_to, mgu}
use Rattle.am_unify.specs.Occurrence.{number_occurs, number_occurs-Var, number_occurs_in, count_of_numbers}
use Rattle.am_unify.specs.Size.{size}
use Rattle.am_unify.specs.Substitution.{after_binding, replace_in}
use Rattle.am_unify.proofs.Standing.{number_same, stands_left, stands_right, count_of_numbers-le}
use Rattle.am_unify.proofs.Smaller.{IsShorter, HasFewer, nodes-positive, size-cons, rest-shorter, arguments-shorter, bound-fewer}

pub is_var : (t : Term) (n : ℕ) (s : SortId) → out-Term t ≡ Term-F.Var n s → t ≡ Var n s
is_var t n s e = sym (roll-out-Term t) ∙ (ap roll-Term e ∙ rolls-Var n s)

pub is_in : (t : Term) (k : ℕ) → out-Term t ≡ Term-F.In k → t ≡ In k
is_in t k e = sym (roll-out-Term t) ∙ (ap roll-Term e ∙ rolls-In k)

pub is_app : (t : Term) (f : SymId) (args : List Term) → out-Term t ≡ Term-F.App f args → t ≡ App f args
is_app t f args e = sym (roll-out-Term t) ∙ (ap roll-Term e ∙ rolls-App f args)

if_same : {A : Type 0} (c : Bool) (x y z w : A) → (c ≡ true → x ≡ z) → (c ≡ false → y ≡ w) → (if c then x else y) ≡ (if c then z else w)
if_same true x y z w h k = h refl
if_same false x y z w h k = k refl

pub var_stands : (n : ℕ) (t : Term) (s : SortId) → t ≡ Var n s → number_occurs n t ≡ true
var_stands n t s is = ap (number_occurs n) is ∙ (number_occurs-Var n n s ∙ number_same n)

-- a step depends on the recursion at smaller pairs alone
module _ (sig : Signature) (ins : List SortId) (b c r q : Solver) (t u : Term) (ps : List (Term × Term))
    (bounds : (qs : List (Term × Term)) → HasFewer qs ((t, u) ∷ ps) → b qs ≡ c qs)
    (rests : (qs : List (Term × Term)) → IsShorter qs ((t, u) ∷ ps) → r qs ≡ q qs) where
  bind-same : (n : ℕ) (v : Term) → number_occurs_in n ((t, u) ∷ ps) ≡ true → ((m : ℕ) → number_occurs m v ≡ true → number_occurs_in m ((t, u) ∷ ps) ≡ true) → bind sig ins b r n v ps ≡ bind sig ins c q n v ps
  bind-same n v stands inner = if_same (number_occurs n v) None (after_binding n v (b (replace_in n v ps))) None (after_binding n v (c (replace_in n v ps)))
      (λ e. refl)
      (λ e. ap (after_binding n v) (bounds (replace_in n v ps) (bound-fewer t u ps n v stands inner e)))

  left-same : (n : ℕ) (s : SortId) → t ≡ Var n s → bind sig ins b r n u ps ≡ bind sig ins c q n u ps
  left-same n s is = bind-same n u (stands_left n t u ps (var_stands n t s is)) (λ m e. stands_right m t u ps e)

  right-same : (n : ℕ) (s : SortId) → u ≡ Var n s → bind sig ins b r n t ps ≡ bind sig ins c q n t ps
  right-same n s is = bind-same n t (stands_right n t u ps (var_stands n u s is)) (λ m e. stands_left m t u ps e)

  term-same : (n : ℕ) (s : SortId) (v : Term) → bind sig ins b r n v ps ≡ bind sig ins c q n v ps → bind_term sig ins b r n s v ps ≡ bind_term sig ins c q n s v ps
  term-same n s v e = if_same (fits_place sig (sort_of sig ins v) s) (bind sig ins b r n v ps) None (bind sig ins c q n v ps) None (λ d. e) (λ d. refl)

  open-same : (x y : Term-F Term) → out-Term t ≡ x → out-Term u ≡ y → open_pair sig ins b r t u x y ps ≡ open_pair sig ins c q t u x y ps
  open-same (Term-F.Var n s) (Term-F.Var m k) is are =
      let is_left : t ≡ Var n s = is_var t n s is in
      let is_right : u ≡ Var m k = is_var u m k are in
      let one : bind sig ins b r n (Var m k) ps ≡ bind sig ins c q n (Var m k) ps = ap (λ v. bind sig ins b r n v ps) (sym is_right) ∙ (left-same n s is_left ∙ ap (λ v. bind sig ins c q n v ps) is_right) in
      let two : bind sig ins b r m (Var n s) ps ≡ bind sig ins c q m (Var n s) ps = ap (λ v. bind sig ins b r m v ps) (sym is_left) ∙ (right-same m k is_right ∙ ap (λ v. bind sig ins c q m v ps) is_left) in
      if_same (fits sig k s) (bind sig ins b r n (Var m k) ps) (if fits sig s k then bind sig ins b r m (Var n s) ps else None) (bind sig ins c q n (Var m k) ps) (if fits sig s k then bind sig ins c q m (Var n s) ps else None)
      (λ e. one)
      (λ e. if_same (fits sig s k) (bind sig ins b r m (Var n s) ps) None (bind sig ins c q m (Var n s) ps) None (λ d. two) (λ d. refl))
  open-same (Term-F.Var n s) (Term-F.In j) is are = term-same n s u (left-same n s (is_var t n s is))
  open-same (Term-F.Var n s) (Term-F.App g bs) is are = term-same n s u (left-same n s (is_var t n s is))
  open-same (Term-F.In k) (Term-F.Var m s) is are = term-same m s t (right-same m s (is_var u m s are))
  open-same (Term-F.In k) (Term-F.In j) is are = refl
  open-same (Term-F.In k) (Term-F.App g bs) is are = refl
  open-same (Term-F.App f as_) (Term-F.Var m s) is are = term-same m s t (right-same m s (is_var u m s are))
  open-same (Term-F.App f as_) (Term-F.In j) is are = refl
  open-same (Term-F.App f as_) (Term-F.App g bs) is are = if_same (f.0 == g.0 && length as_ == length bs) (r (zip as_ bs ++ ps)) None (q (zip as_ bs ++ ps)) None
      (λ e. rests (zip as_ bs ++ ps) (arguments-shorter t u ps f g as_ bs (is_app t f as_ is) (is_app u g bs are)))
      (λ e. refl)

  pub step-same : mgu_step sig ins b r (t, u) ps ≡ mgu_step sig ins c q (t, u) ps
  step-same = if_same (same_term t u) (r ps) (open_pair sig ins b r t u (out-Term t) (out-Term u) ps) (q ps) (open_pair sig ins c q t u (out-Term t) (out-Term u) ps)
      (λ e. rests ps (rest-shorter t u ps))
      (λ e. open-same (out-Term t) (out-Term u) refl refl)

module _ (sig : Signature) (ins : List SortId) where
  -- the steps that are counted are enough
  within-enough : (b c : Solver) (m k : ℕ) (ps : List (Term × Term)) → ((qs : List (Term × Term)) → count_of_numbers qs < count_of_numbers ps → b qs ≡ c qs) → size ps ≤ m → size ps ≤ k → mgu_within sig ins b m ps ≡ mgu_within sig ins c k ps
  within-enough b c m k [] h l j = refl
  within-enough b c zero k (p ∷ ps) h l j = let a = nodes-positive p.0 in absurd (omega (arith, size-cons p.0 p.1 ps))
  within-enough b c (suc m) zero (p ∷ ps) h l j = let a = nodes-positive p.0 in absurd (omega (arith, size-cons p.0 p.1 ps))
  within-enough b c (suc m) (suc k) (p ∷ ps) h l j = step-same sig ins b c (mgu_within sig ins b m) (mgu_within sig ins c k) p.0 p.1 ps
      (λ qs d. h qs d.fewer)
      (λ qs d. let a = count_of_numbers-le qs (p ∷ ps) d.inside in let z = d.size in
      within-enough b c m k qs (λ rs e. h rs (omega arith)) (omega arith) (omega arith))

  -- the bindings that are counted are enough
  to-enough : (n m : ℕ) (ps : List (Term × Term)) → count_of_numbers ps < n → count_of_numbers ps < m → mgu_to sig ins n ps ≡ mgu_to sig ins m ps
  to-enough zero m ps h k = absurd (omega arith)
  to-enough (suc n) zero ps h k = absurd (omega arith)
  to-enough (suc n) (suc m) ps h k = within-enough (mgu_to sig ins n) (mgu_to sig ins m) (size ps) (size ps) ps
      (λ qs l. to-enough n m qs (omega arith) (omega arith)) (omega arith) (omega arith)

  pub mgu-none : mgu sig ins [] ≡ Some []
  unfolding mgu
  mgu-none = refl

  pub mgu-more : (p : Term × Term) (ps : List (Term × Term)) → mgu sig ins (p ∷ ps) ≡ mgu_step sig ins (mgu sig ins) (mgu sig ins) p ps
  unfolding mgu
  mgu-more p ps =
      let all : List (Term × Term) = p ∷ ps in
      let n : ℕ = count_of_numbers all in
      within-enough (mgu_to sig ins n) (mgu_to sig ins n) (size all) (suc (size all)) all (λ qs l. refl) (omega arith) (omega arith)
      ∙ step-same sig ins (mgu_to sig ins n) (mgu sig ins) (mgu_within sig ins (mgu_to sig ins n) (size all)) (mgu sig ins) p.0 p.1 ps
      (λ qs d. let l = d.fewer in to-enough n (suc (count_of_numbers qs)) qs (omega arith) (omega arith))
      (λ qs d. let l = count_of_numbers-le qs all d.inside in let z = d.size in
      within-enough (mgu_to sig ins n) (mgu_to sig ins (count_of_numbers qs)) (size all) (size qs) qs (λ rs e. to-enough n (count_of_numbers qs) rs (omega arith) (omega arith)) (omega arith) (omega arith))
