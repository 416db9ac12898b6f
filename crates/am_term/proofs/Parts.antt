-- Parts of terms: what stands where, once a part was replaced.
use Rattle.std.proofs.Common.{◌≡◌, ◌≢◌, ◌∙◌, ◌⊎◌, inl, inr, ℕ, refl, sym, ap, subst, List, [], ◌∷◌, ◌++◌, Option, Some, None, is_some, option_map, option_and_then}
use Rattle.std.proofs.lemmas.Bool.{cases_eq}
use Rattle.am_term.specs.declared.term.Term.{Term}
use Rattle.am_term.specs.declared.term.Term.TheVariants.{Var, In, App}
use Rattle.am_term.specs.Induct.{term_cases}
use Rattle.am_term.specs.Place.{member, with_member, args_of, with_arg, place, replaced, AreDisjoint, args_of-Var, args_of-In, args_of-App, with_arg-App}
use Rattle.am_term.proofs.Members.{member-none, member-put, member-other, member-same}

-- one step

pub no_arg : {A : Type 0} (ts : List Term) (k : ℕ) (x : Term) → ts ≡ [] → member ts k ≡ Some x → A
no_arg ts k x e h = let n : member ts k ≡ None = ap (λ us. member us k) e ∙ member-none k in absurd cc

pub arg-put : (t : Term) (k : ℕ) (x y : Term) → member (args_of t) k ≡ Some x → member (args_of (with_arg t k y)) k ≡ Some y
arg-put = term_cases
    (λ t. (k : ℕ) (x y : Term) → member (args_of t) k ≡ Some x → member (args_of (with_arg t k y)) k ≡ Some y)
    (λ n s k x y e. no_arg (args_of (Var n s)) k x (args_of-Var n s) e)
    (λ j k x y e. no_arg (args_of (In j)) k x (args_of-In j) e)
    (λ f args k x y e.
    ap (λ u. member (args_of u) k) (with_arg-App f args k y) ∙ ap (λ us. member us k) (args_of-App f (with_member args k y))
    ∙ member-put args k x y (ap (λ us. member us k) (sym (args_of-App f args)) ∙ e))

pub arg-other : (t : Term) (k j : ℕ) (x y : Term) → member (args_of t) k ≡ Some x → k ≢ j → member (args_of (with_arg t k y)) j ≡ member (args_of t) j
arg-other = term_cases
    (λ t. (k j : ℕ) (x y : Term) → member (args_of t) k ≡ Some x → k ≢ j → member (args_of (with_arg t k y)) j ≡ member (args_of t) j)
    (λ n s k j x y e h. no_arg (args_of (Var n s)) k x (args_of-Var n s) e)
    (λ i k j x y e h. no_arg (args_of (In i)) k x (args_of-In i) e)
    (λ f args k j x y e h.
    ap (λ u. member (args_of u) j) (with_arg-App f args k y) ∙ ap (λ us. member us j) (args_of-App f (with_member args k y))
    ∙ member-other args k j y h ∙ ap (λ us. member us j) (sym (args_of-App f args)))

pub arg-same : (t : Term) (k : ℕ) (x : Term) → member (args_of t) k ≡ Some x → with_arg t k x ≡ t
arg-same = term_cases
    (λ t. (k : ℕ) (x : Term) → member (args_of t) k ≡ Some x → with_arg t k x ≡ t)
    (λ n s k x e. no_arg (args_of (Var n s)) k x (args_of-Var n s) e)
    (λ j k x e. no_arg (args_of (In j)) k x (args_of-In j) e)
    (λ f args k x e. with_arg-App f args k x ∙ ap (App f) (member-same args k x (ap (λ us. member us k) (sym (args_of-App f args)) ∙ e)))

-- the argument through which a path goes on, and what becomes of it
pub record Inside (new : Term) (k : ℕ) (path : List ℕ) (t u : Term) : Type 0 where
  pub old : Term
  pub now : Term
  pub was : member (args_of t) k ≡ Some old
  pub inner : replaced new path old ≡ Some now
  pub whole : with_arg t k now ≡ u

pub inside : (new : Term) (k : ℕ) (path : List ℕ) (t u : Term) → replaced new (k ∷ path) t ≡ Some u → Inside new k path t u
inside new k path t u e = by_arg (member (args_of t) k) refl e
  where
    by_inner : (x : Term) (o : Option Term) → member (args_of t) k ≡ Some x → replaced new path x ≡ o → option_map (with_arg t k) o ≡ Some u → Inside new k path t u
    by_inner x None is in_ h = absurd cc
    by_inner x (Some y) is in_ h = record { old = x; now = y; was = is; inner = in_; whole = cc }

    by_arg : (o : Option Term) → member (args_of t) k ≡ o → option_map (with_arg t k) (option_and_then (replaced new path) o) ≡ Some u → Inside new k path t u
    by_arg None is h = absurd cc
    by_arg (Some x) is h = by_inner x (replaced new path x) is refl h

-- the part below an argument
pub place-step : (k : ℕ) (path : List ℕ) (t x : Term) → member (args_of t) k ≡ Some x → place (k ∷ path) t ≡ place path x
place-step k path t x e = ap (option_and_then (place path)) e

pub replaced-step : (new : Term) (k : ℕ) (path : List ℕ) (t x : Term) → member (args_of t) k ≡ Some x → replaced new (k ∷ path) t ≡ option_map (with_arg t k) (replaced new path x)
replaced-step new k path t x e = ap (λ o. option_map (with_arg t k) (option_and_then (replaced new path) o)) e

-- the argument through which a path leads to a part
pub record Along (k : ℕ) (path : List ℕ) (t part : Term) : Type 0 where
  pub arg : Term
  pub is : member (args_of t) k ≡ Some arg
  pub inner : place path arg ≡ Some part

pub along : (k : ℕ) (path : List ℕ) (t part : Term) → place (k ∷ path) t ≡ Some part → Along k path t part
along k path t part e = by_arg (member (args_of t) k) refl e
  where
    by_arg : (o : Option Term) → member (args_of t) k ≡ o → option_and_then (place path) o ≡ Some part → Along k path t part
    by_arg None is h = absurd cc
    by_arg (Some x) is h = record { arg = x; is = is; inner = h }

-- whole paths

-- a part can be replaced exactly where there is one
pub replaced-there : (new : Term) (path : List ℕ) (t : Term) → is_some (replaced new path t) ≡ is_some (place path t)
replaced-there new [] t = refl
replaced-there new (k ∷ path) t = by_arg (replaced-there new path) (member (args_of t) k)
  where
    some-map : (f : Term → Term) (o : Option Term) → is_some (option_map f o) ≡ is_some o
    some-map f None = refl
    some-map f (Some x) = refl

    by_arg : ((x : Term) → is_some (replaced new path x) ≡ is_some (place path x)) → (o : Option Term) → is_some (option_map (with_arg t k) (option_and_then (replaced new path) o)) ≡ is_some (option_and_then (place path) o)
    by_arg h None = refl
    by_arg h (Some x) = some-map (with_arg t k) (replaced new path x) ∙ h x

-- what stands below the place is what stands in the new part
pub replaced-below : (new : Term) (path deeper : List ℕ) (t u : Term) → replaced new path t ≡ Some u → place (path ++ deeper) u ≡ place deeper new
replaced-below new [] deeper t u e = let s : u ≡ new = cc in ap (place deeper) s
replaced-below new (k ∷ path) deeper t u e =
    let r = inside new k path t u e in
    let p : member (args_of u) k ≡ Some r.now = subst (λ w. member (args_of w) k ≡ Some r.now) r.whole (arg-put t k r.old r.now r.was) in
    place-step k (path ++ deeper) u r.now p ∙ replaced-below new path deeper r.old r.now r.inner

pub replaced-new : (new : Term) (path : List ℕ) (t u : Term) → replaced new path t ≡ Some u → place path u ≡ Some new
replaced-new new [] t u e = sym e
replaced-new new (k ∷ path) t u e =
    let r = inside new k path t u e in
    let p : member (args_of u) k ≡ Some r.now = subst (λ w. member (args_of w) k ≡ Some r.now) r.whole (arg-put t k r.old r.now r.was) in
    place-step k path u r.now p ∙ replaced-new new path r.old r.now r.inner

-- the part above the place has the new part in it
pub replaced-above : (new : Term) (path deeper : List ℕ) (t part u : Term) → place path t ≡ Some part → replaced new (path ++ deeper) t ≡ Some u → place path u ≡ replaced new deeper part
replaced-above new [] deeper t part u e h = let s : t ≡ part = cc in sym h ∙ ap (replaced new deeper) s
replaced-above new (k ∷ path) deeper t part u e h =
    let r = inside new k (path ++ deeper) t u h in
    let p : member (args_of u) k ≡ Some r.now = subst (λ w. member (args_of w) k ≡ Some r.now) r.whole (arg-put t k r.old r.now r.was) in
    place-step k path u r.now p ∙ replaced-above new path deeper r.old part r.now (sym (place-step k path t r.old r.was) ∙ e) r.inner

-- parts beside the place stay
pub replaced-beside : (new : Term) (path other : List ℕ) (t u : Term) → AreDisjoint path other → replaced new path t ≡ Some u → place other u ≡ place other t
replaced-beside new [] other t u h e = absurd (h.0 other refl)
replaced-beside new (k ∷ path) [] t u h e = absurd (h.1 (k ∷ path) refl)
replaced-beside new (k ∷ path) (j ∷ other) t u h e = by_step (λ d. replaced-beside new path other r.old r.now d r.inner) (cases_eq k j)
  where
    r : Inside new k path t u
    r = inside new k path t u e

    by_step : (AreDisjoint path other → place other r.now ≡ place other r.old) → (k ≡ j) ⊎ (k ≢ j) → place (j ∷ other) u ≡ place (j ∷ other) t
    by_step below (inl same) =
        let p : member (args_of u) k ≡ Some r.now = subst (λ w. member (args_of w) k ≡ Some r.now) r.whole (arg-put t k r.old r.now r.was) in
        let d : AreDisjoint path other = (
          (λ rest is. h.0 rest (ap (λ xs. k ∷ xs) is ∙ ap (λ i. i ∷ other) same)),
          (λ rest is. h.1 rest (ap (λ i. i ∷ (other ++ rest)) (sym same) ∙ ap (λ xs. k ∷ xs) is)),
        ) in
        let a : place (k ∷ other) u ≡ place (k ∷ other) t = place-step k other u r.now p ∙ below d ∙ sym (place-step k other t r.old r.was) in
        subst (λ i. place (i ∷ other) u ≡ place (i ∷ other) t) same a
    by_step below (inr differ) =
        let p : member (args_of u) j ≡ member (args_of t) j = subst (λ w. member (args_of w) j ≡ member (args_of t) j) r.whole (arg-other t k j r.old r.now r.was differ) in
        ap (option_and_then (place other)) p

-- the part that stands there, put there
pub replaced-same : (path : List ℕ) (t part : Term) → place path t ≡ Some part → replaced part path t ≡ Some t
replaced-same [] t part e = sym e
replaced-same (k ∷ path) t part e =
    let a = along k path t part e in
    replaced-step part k path t a.arg a.is ∙ ap (option_map (with_arg t k)) (replaced-same path a.arg part a.inner) ∙ ap Some (arg-same t k a.arg a.is)

-- a path in two pieces
pub place-append : (path deeper : List ℕ) (t : Term) → place (path ++ deeper) t ≡ option_and_then (place deeper) (place path t)
place-append [] deeper t = refl
place-append (k ∷ path) deeper t = by_arg (place-append path deeper) (member (args_of t) k)
  where
    by_arg : ((x : Term) → place (path ++ deeper) x ≡ option_and_then (place deeper) (place path x)) → (o : Option Term) → option_and_then (place (path ++ deeper)) o ≡ option_and_then (place deeper) (option_and_then (place path) o)
    by_arg h None = refl
    by_arg h (Some x) = h x

pub ruleset laws_of_places = (replaced-there, replaced-new, replaced-above, replaced-below, replaced-beside, replaced-same)
