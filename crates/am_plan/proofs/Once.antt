-- Each different call stands once, and makes terms that no other makes.
use Rattle.std.proofs.Common.{◌≡◌, ◌∙◌, ◌⊎◌, inl, inr, ◌++◌, ◌==◌, ℕ, zero, suc, arith, Bool, true, false, not, cond, refl, sym, ap, subst, List, [], ◌∷◌, Some, map, slice_get, true≢false}
use Rattle.std.proofs.lemmas.Bool.Decides.{nat_tests}
use Rattle.std.specs.List.{AllByRecursion, filter, flat_map}
use Rattle.std.specs.Str.{bytes_eq}
use Rattle.am_exec.proofs.Held.{eq_is, eq_same}
use Rattle.am_term.specs.declared.id.SymId.{SymId}
use Rattle.am_term.specs.declared.term.Term.{Term}
use Rattle.am_term.specs.declared.term.Term.TheOpen.{Term-F}
use Rattle.am_term.specs.declared.term.Term.TheViews.{out-Term}
use Rattle.am_term.specs.declared.term.Term.TheVariants.{App, outs-App}
use Rattle.am_term.specs.Same.{same_terms}
use Rattle.am_term.proofs.Alike.{same_terms-refl, same_terms-sound}
use Rattle.am_term.proofs.Tests.{and_left, and_right, and_both, not_false, true_not, false_not}
use Rattle.am_clause.specs.Distinct.{distinct}
use Rattle.am_theory.specs.declared.theory.Routine.{Routine}
use Rattle.am_theory.specs.declared.theory.Theory.{Theory}
use Rattle.am_theory.specs.Facts.{WellFormed}
use Rattle.am_diagram.specs.declared.diagram.Diagram.{Diagram}
use Rattle.am_diagram.specs.Listed.{entry_sorts}
use Rattle.am_plan.specs.declared.call.Callee.{Callee}
use Rattle.am_plan.specs.declared.call.Callee.TheVariants as callee
use Rattle.am_plan.specs.Calls.{PlannedCall, call_with, same_callee, same_call, asks_for, calls, outputs_made, value_made, made_by, made}
use Rattle.am_plan.proofs.Membership.{Among, Different, all-among, among-map, map-among, among-left, among-right, among-split, flat-among, among-flat, different-left, different-right, different-append, different-map}
use Rattle.am_plan.proofs.Standing.{Available}
use Rattle.am_plan.proofs.Callees.{Computes, one-callee, outputs-different}
use Rattle.am_plan.proofs.Running.{CalleeFits, AreReady}
use Rattle.am_plan.proofs.Asked.{IsFine, all-available, ready-more, terms-ordered}

-- ---- the test of calls
number-is : (m n : ℕ) → (m == n) ≡ true → m ≡ n
number-is m n e = grind (arith, nat_tests)

number-same : (n : ℕ) → (n == n) ≡ true
number-same n = grind (arith, nat_tests)

same_callee-is : (b c : Callee) → same_callee b c ≡ true → b ≡ c
same_callee-is (callee.Routine j) (callee.Routine k) e = ap callee.Routine (number-is j k e)
same_callee-is (callee.Routine j) (callee.Function k) e = absurd (true≢false (sym e))
same_callee-is (callee.Function j) (callee.Routine k) e = absurd (true≢false (sym e))
same_callee-is (callee.Function j) (callee.Function k) e = ap callee.Function (number-is j k e)

same_callee-refl : (c : Callee) → same_callee c c ≡ true
same_callee-refl (callee.Routine k) = number-same k
same_callee-refl (callee.Function k) = number-same k

pub same_call-is : (b c : PlannedCall) → same_call b c ≡ true → b ≡ c
same_call-is b c e =
    ap (λ (k : Callee). call_with b.args k) (same_callee-is b.callee c.callee (and_left (same_callee b.callee c.callee) (same_terms b.args c.args) e))
    ∙ ap (λ (xs : List Term). call_with xs c.callee) (same_terms-sound b.args c.args (and_right (same_callee b.callee c.callee) (same_terms b.args c.args) e))

pub same_call-refl : (c : PlannedCall) → same_call c c ≡ true
same_call-refl c = and_both (same_callee c.callee c.callee) (same_terms c.args c.args) (same_callee-refl c.callee) (same_terms-refl c.args)

-- ---- lists without repetitions
pub filter-so : {A : Type 0} (p : A → Bool) (x : A) (xs : List A) → Among x (filter p xs) → Among x xs × (p x ≡ true)
filter-so {A = A} p x [] a = absurd a
filter-so {A = A} p x (z ∷ zs) a = by_test (filter-so p x zs) (p z) refl a
  where
    by_test : (Among x (filter p zs) → Among x zs × (p x ≡ true)) → (b : Bool) → p z ≡ b → Among x (cond b (z ∷ filter p zs) (filter p zs)) → Among x (z ∷ zs) × (p x ≡ true)
    by_test later true is (inl e) = (inl e, ap p e ∙ is)
    by_test later true is (inr a) = let r = later a in (inr r.0, r.1)
    by_test later false is a = let r = later a in (inr r.0, r.1)

pub filter-among : {A : Type 0} (p : A → Bool) (x : A) (xs : List A) → Among x xs → p x ≡ true → Among x (filter p xs)
filter-among {A = A} p x [] a e = absurd a
filter-among {A = A} p x (z ∷ zs) (inl s) e = subst (λ (b : Bool). Among x (cond b (z ∷ filter p zs) (filter p zs))) (sym (ap p (sym s) ∙ e)) (inl s)
filter-among {A = A} p x (z ∷ zs) (inr a) e = by_test (p z) (filter-among p x zs a e)
  where
    by_test : (b : Bool) → Among x (filter p zs) → Among x (cond b (z ∷ filter p zs) (filter p zs))
    by_test true r = inr r
    by_test false r = r

different-filter : {A : Type 0} (p : A → Bool) (xs : List A) → Different xs → Different (filter p xs)
different-filter {A = A} p [] h = tt
different-filter {A = A} p (z ∷ zs) h = by_test (p z) (different-filter p zs h.1)
  where
    by_test : (b : Bool) → Different (filter p zs) → Different (cond b (z ∷ filter p zs) (filter p zs))
    by_test true r = ((λ a. h.0 (filter-so p z zs a).0), r)
    by_test false r = r

pub distinct-from : {A : Type 0} (same : A → A → Bool) (x : A) (xs : List A) → Among x (distinct same xs) → Among x xs
distinct-from {A = A} same x [] a = a
distinct-from {A = A} same x (z ∷ zs) (inl e) = inl e
distinct-from {A = A} same x (z ∷ zs) (inr a) = inr (distinct-from same x zs (filter-so (λ (y : A). not (same z y)) x (distinct same zs) a).0)

-- by names, one of each name stays
pub distinct-has : {A : Type 0} (f : A → List ℕ) (x : A) (xs : List A) → Among x xs → (y : A) × Among y (distinct (λ (p q : A). bytes_eq (f p) (f q)) xs) × (f y ≡ f x)
distinct-has {A = A} f x [] a = absurd a
distinct-has {A = A} f x (z ∷ zs) (inl e) = (z, inl refl, ap f (sym e))
distinct-has {A = A} f x (z ∷ zs) (inr a) = by_test (distinct-has f x zs a)
  where
    by_name : (y : A) → Among y (distinct (λ (p q : A). bytes_eq (f p) (f q)) zs) → f y ≡ f x → (b : Bool) → bytes_eq (f z) (f y) ≡ b → (w : A) × Among w (z ∷ filter (λ (q : A). not (bytes_eq (f z) (f q))) (distinct (λ (p q : A). bytes_eq (f p) (f q)) zs)) × (f w ≡ f x)
    by_name y b e true is = (z, inl refl, eq_is (f z) (f y) is ∙ e)
    by_name y b e false is = (y, inr (filter-among (λ (q : A). not (bytes_eq (f z) (f q))) y (distinct (λ (p q : A). bytes_eq (f p) (f q)) zs) b (not_false (bytes_eq (f z) (f y)) is)), e)

    by_test : (y : A) × Among y (distinct (λ (p q : A). bytes_eq (f p) (f q)) zs) × (f y ≡ f x) → (w : A) × Among w (z ∷ filter (λ (q : A). not (bytes_eq (f z) (f q))) (distinct (λ (p q : A). bytes_eq (f p) (f q)) zs)) × (f w ≡ f x)
    by_test r = by_name r.0 r.1 r.2 (bytes_eq (f z) (f r.0)) refl

names-filter : {A : Type 0} (f : A → List ℕ) (p : A → Bool) (xs : List A) → Different (map f xs) → Different (map f (filter p xs))
names-filter {A = A} f p [] h = tt
names-filter {A = A} f p (z ∷ zs) h = by_test (p z) (names-filter f p zs h.1)
  where
    by_test : (b : Bool) → Different (map f (filter p zs)) → Different (map f (cond b (z ∷ filter p zs) (filter p zs)))
    by_test true r = ((λ a. let e = map-among f (f z) (filter p zs) a in h.0 (subst (λ (n : List ℕ). Among n (map f zs)) (sym e.2) (among-map f e.0 zs (filter-so p e.0 zs e.1).0))), r)
    by_test false r = r

pub distinct-names : {A : Type 0} (f : A → List ℕ) (xs : List A) → Different (map f (distinct (λ (p q : A). bytes_eq (f p) (f q)) xs))
distinct-names {A = A} f [] = tt
distinct-names {A = A} f (z ∷ zs) = (
  (λ a.
      let e = map-among f (f z) (filter (λ (q : A). not (bytes_eq (f z) (f q))) (distinct (λ (p q : A). bytes_eq (f p) (f q)) zs)) a in
      let r = filter-so (λ (q : A). not (bytes_eq (f z) (f q))) e.0 (distinct (λ (p q : A). bytes_eq (f p) (f q)) zs) e.1 in
      true≢false (sym (subst (λ (n : List ℕ). bytes_eq (f z) n ≡ true) e.2 (eq_same (f z))) ∙ true_not (bytes_eq (f z) (f e.0)) r.1)),
  names-filter f (λ (q : A). not (bytes_eq (f z) (f q))) (distinct (λ (p q : A). bytes_eq (f p) (f q)) zs) (distinct-names f zs),
)

module _ {A : Type 0} (same : A → A → Bool) (sound : (x y : A) → same x y ≡ true → x ≡ y) (whole : (x : A) → same x x ≡ true) where
  abbrev others : A → A → Bool
  others x y = not (same x y)

  pub distinct-among : (x : A) (xs : List A) → Among x xs → Among x (distinct same xs)
  distinct-among x [] a = a
  distinct-among x (z ∷ zs) (inl e) = inl e
  distinct-among x (z ∷ zs) (inr a) = by_test (same z x) refl (distinct-among x zs a)
    where
      by_test : (b : Bool) → same z x ≡ b → Among x (distinct same zs) → Among x (z ∷ filter (others z) (distinct same zs))
      by_test true is r = inl (sym (sound z x is))
      by_test false is r = inr (filter-among (others z) x (distinct same zs) r (not_false (same z x) is))

  pub distinct-differ : (xs : List A) → Different (distinct same xs)
  distinct-differ [] = tt
  distinct-differ (z ∷ zs) = (
    (λ a. true≢false (sym (whole z) ∙ true_not (same z z) (filter-so (others z) z (distinct same zs) a).1)),
    different-filter (others z) (distinct same zs) (distinct-differ zs),
  )

-- ---- calls
module _ (t : Theory) (d : Diagram) where
  filter-ready : (p : PlannedCall → Bool) (done : List Term) (cs : List PlannedCall) → ((c : PlannedCall) → p c ≡ false → (z : Term) → Among z (made_by t c) → Among z done) → AreReady t d done cs → AreReady t d done (filter p cs)
  filter-ready p done [] w r = tt
  filter-ready p done (c ∷ cs) w r = by_test (λ more. filter-ready p more cs) (p c) refl
    where
      shrunk : p c ≡ false → (z : Term) → Among z (done ++ made_by t c) → Among z done
      shrunk is z a = by_side (among-split z done (made_by t c) a)
        where
          by_side : Among z done ⊎ Among z (made_by t c) → Among z done
          by_side (inl b) = b
          by_side (inr b) = w c is z b

      by_test : ((more : List Term) → ((c : PlannedCall) → p c ≡ false → (z : Term) → Among z (made_by t c) → Among z more) → AreReady t d more cs → AreReady t d more (filter p cs)) → (b : Bool) → p c ≡ b → AreReady t d done (cond b (c ∷ filter p cs) (filter p cs))
      by_test rest true is = (r.0, rest (done ++ made_by t c) (λ e no z a. among-left z done (made_by t c) (w e no z a)) r.1)
      by_test rest false is = rest done w (ready-more t d (done ++ made_by t c) done cs (shrunk is) r.1)

  distinct-ready : (done : List Term) (cs : List PlannedCall) → AreReady t d done cs → AreReady t d done (distinct same_call cs)
  distinct-ready done [] r = tt
  distinct-ready done (c ∷ cs) r = (
    r.0,
    filter-ready (λ (b : PlannedCall). not (same_call c b)) (done ++ made_by t c) (distinct same_call cs)
        (λ b no z a. among-right z done (made_by t c) (subst (λ (e : PlannedCall). Among z (made_by t e)) (sym (same_call-is c b (false_not (same_call c b) no))) a))
        (distinct-ready (done ++ made_by t c) cs r.1),
  )

  module _ (h : WellFormed t) (answer : List Term) (fine : AllByRecursion (IsFine t (entry_sorts d.inputs)) answer) where
    -- each call's arguments are done before it
    pub calls-ready : AreReady t d [] (calls t answer)
    unfolding calls
    calls-ready = distinct-ready [] (asks_for t answer) (terms-ordered t d h answer fine).0

    -- what was asked for is made
    made-all : (z : Term) → Among z (flat_map (made_by t) (asks_for t answer)) → Among z (made t answer)
    unfolding calls
    made-all z a =
        let c = flat-among (made_by t) z (asks_for t answer) a in
        among-flat (made_by t) c.0 z (calls t answer) (distinct-among same_call same_call-is same_call-refl c.0 (asks_for t answer) c.1) c.2

    pub answers-available : AllByRecursion (Available t d (made t answer)) answer
    answers-available = all-available t d (flat_map (made_by t) (asks_for t answer)) (made t answer) answer made-all (terms-ordered t d h answer fine).1

    pub calls-differ : Different (calls t answer)
    unfolding calls
    calls-differ = distinct-differ same_call same_call-is same_call-refl (asks_for t answer)

    -- ---- made terms differ
    pub ready-fit : (done : List Term) (cs : List PlannedCall) → AreReady t d done cs → AllByRecursion (λ (c : PlannedCall). CalleeFits t (entry_sorts d.inputs) c.args c.callee) cs
    ready-fit done [] r = tt
    ready-fit done (c ∷ cs) r = (r.0.fit, ready-fit (done ++ made_by t c) cs r.1)

    -- what a call makes
    pub makes-so : (args : List Term) (c : Callee) (x : Term) → CalleeFits t (entry_sorts d.inputs) args c → Among x (made_by t (call_with args c)) → (f : SymId) × (x ≡ App f args) × Computes t f c
    makes-so args (callee.Routine k) x fit a =
        let r = map-among (λ (g : SymId). App g args) x fit.0.outputs (subst (λ (ys : List Term). Among x ys) (ap (outputs_made args) fit.1) a) in
        (r.0, r.2, (fit.0, fit.1, r.1))
    makes-so args (callee.Function k) x fit a = by_one (subst (λ (ys : List Term). Among x ys) (ap (value_made args) fit.1) a)
      where
        by_one : Among x (App fit.0.symbol args ∷ []) → (f : SymId) × (x ≡ App f args) × Computes t f (callee.Function k)
        by_one (inl e) = (fit.0.symbol, e, (fit.0, fit.1, refl))
        by_one (inr a) = absurd a

    pub opened : (f g : SymId) (xs ys : List Term) → App f xs ≡ App g ys → (f ≡ g) × (xs ≡ ys)
    opened f g xs ys e = let o : Term-F.App f xs ≡ Term-F.App g ys = sym (outs-App f xs) ∙ ap out-Term e ∙ outs-App g ys in (cc, cc)

    pub one-maker : (b c : PlannedCall) (x : Term) → CalleeFits t (entry_sorts d.inputs) b.args b.callee → CalleeFits t (entry_sorts d.inputs) c.args c.callee → Among x (made_by t b) → Among x (made_by t c) → b ≡ c
    one-maker b c x fit_b fit_c p q =
        let m = makes-so b.args b.callee x fit_b p in
        let n = makes-so c.args c.callee x fit_c q in
        let o = opened m.0 n.0 b.args c.args (sym m.1 ∙ n.1) in
        ap (λ (k : Callee). call_with b.args k) (one-callee t h n.0 b.callee c.callee (subst (λ (f : SymId). Computes t f b.callee) o.0 m.2) n.2)
        ∙ ap (λ (xs : List Term). call_with xs c.callee) o.1

    routine-outputs : (rs : List Routine) (k : ℕ) (r : Routine) → slice_get rs k ≡ Some r → Different (flat_map (λ (r : Routine). r.outputs) rs) → Different r.outputs
    routine-outputs [] k r at e = absurd cc
    routine-outputs (q ∷ rs) zero r at e = let same : q ≡ r = cc in subst (λ (z : Routine). Different z.outputs) same (different-left q.outputs (flat_map (λ (r : Routine). r.outputs) rs) e)
    routine-outputs (q ∷ rs) (suc k) r at e = routine-outputs rs k r at (different-right q.outputs (flat_map (λ (r : Routine). r.outputs) rs) e)

    one-differ : (args : List Term) (c : Callee) → CalleeFits t (entry_sorts d.inputs) args c → Different (made_by t (call_with args c))
    one-differ args (callee.Routine k) fit =
        subst (λ (ys : List Term). Different ys) (sym (ap (outputs_made args) fit.1))
        (different-map (λ (f : SymId). App f args) fit.0.outputs (λ f g a b e. (opened f g args args e).0) (routine-outputs t.routines k fit.0 fit.1 (outputs-different t h)))
    one-differ args (callee.Function k) fit = subst (λ (ys : List Term). Different ys) (sym (ap (value_made args) fit.1)) ((λ a. a), tt)

    makes-differ : (cs : List PlannedCall) → Different cs → AllByRecursion (λ (c : PlannedCall). CalleeFits t (entry_sorts d.inputs) c.args c.callee) cs → Different (flat_map (made_by t) cs)
    makes-differ [] e f = tt
    makes-differ (c ∷ cs) e f = different-append (made_by t c) (flat_map (made_by t) cs) (one-differ c.args c.callee f.0) (makes-differ cs e.1 f.1) (λ x a b.
        let r = flat-among (made_by t) x cs b in
        let fit = all-among (λ (q : PlannedCall). CalleeFits t (entry_sorts d.inputs) q.args q.callee) r.0 cs f.1 r.1 in
        e.0 (subst (λ (q : PlannedCall). Among q cs) (sym (one-maker c r.0 x f.0 fit a r.2)) r.1))

    pub made-differ : Different (made t answer)
    made-differ = makes-differ (calls t answer) calls-differ (ready-fit [] (calls t answer) calls-ready)
