-- Two lists of bindings as one substitution, the second's variables behind those of the first; and back.
use Rattle.std.proofs.Common.{◌≡◌, ◌∙◌, ◌+◌, ◌<◌, ◌≤◌, ◌++◌, ℕ, zero, suc, Bool, true, false, refl, sym, ap, subst, arith, List, [], ◌∷◌, map, length, get_or, Option, Some, None, slice_get, nat_lt, is_some}
use Rattle.std.specs.List.{AllByRecursion}
use Rattle.std.proofs.lemmas.Bool.Decides.{nat_tests}
use Rattle.std.proofs.lemmas.List.{map-append, length-map, get_or-map, get_or_append_left, get_or-append-add, get_or_default, get_or_past, ext_get_or}
use Rattle.std.proofs.lemmas.Option.{slice_get_within, slice_get-get_or}
use Rattle.am_term.specs.declared.id.SortId.{SortId}
use Rattle.am_term.specs.declared.signature.Signature.{Signature}
use Rattle.am_term.specs.declared.term.Term.{Term}
use Rattle.am_term.specs.declared.term.Term.TheVariants.{Var, App}
use Rattle.am_term.specs.Instance.{instance, instance-Var, instance-In, instance-App}
use Rattle.am_term.specs.Sorting.{sort_of, sorts_of, fits_place, fit_places, term_fits}
use Rattle.am_term.proofs.Forest.{fits-same}
use Rattle.am_term.proofs.Tests.{and_left, and_right, and_both}
use Rattle.am_clause.specs.Variables.{Variable, occurrences, occurrences_all, occurrences-none}
use Rattle.am_clause.specs.Renaming.{renamed, renamed_all, renamed-Var, renamed-In, renamed-App, places_in}
use Rattle.am_clause.proofs.Bijections.{read-place}
use Rattle.am_clause.proofs.Places.{same_variable-refl}
use Rattle.am_clause.proofs.Renames.{Within, moved, term-moved}
use Rattle.am_unify.specs.Occurrence.{has_given_sorts}
use Rattle.am_unify.specs.Substitution.{Substitution, apply, applies, apply-Var, apply-In, apply-App, listed}
use Rattle.am_unify.specs.Unifier.{IsSortedUnder, AreSortedUnder, IsFitting, Unifies, IsUnifier, IsSolution}
use Rattle.am_unify.proofs.Keeping.{place-some, variable-fits}
use Rattle.am_rules.specs.Most.{Keeps}
use Rattle.am_rules.specs.Row.{in_lists}
use Rattle.am_rules.specs.Solving.{shifted, apart, images}
use Rattle.am_rules.proofs.Standing.{never, Each, each-left, each-right, each-both, each-more, agree}
use Rattle.am_rules.proofs.Lifts.{all-after}
use Rattle.am_rules.proofs.Numberings.{WasMoved, was-moved}
use Rattle.am_rules.proofs.InstanceLaws.{sort-renamed, fit-length}
use Rattle.am_rules.proofs.Posing.{HasSort, each-given_sort, given_sorts-each, HasOne, Valid, each-valid}

-- reading from one list behind another
read-left : {A : Type 0} (xs ys : List A) (n : ℕ) (d e : A) → n < length xs → get_or (xs ++ ys) n d ≡ get_or xs n e
read-left xs ys n d e h = get_or_append_left xs ys d n h ∙ get_or_default xs n d e h

read-right : {A : Type 0} (xs ys : List A) (k n : ℕ) (d e : A) → length xs ≡ k → n < length ys → get_or (xs ++ ys) (n + k) d ≡ get_or ys n e
read-right xs ys k n d e l h = ap (λ i. get_or (xs ++ ys) i d) (let x : n + k ≡ length xs + n = omega arith in x) ∙ (get_or-append-add xs ys n d ∙ get_or_default ys n d e h)

-- the list has the variable at the place of its number
abbrev pub At : List Variable → Variable → Type 0
At vs v = slice_get vs v.0 ≡ Some v

some-is : {A : Type 0} (v w : A) → Some v ≡ Some w → v ≡ w
some-is v w e = cc

pub at-low : (vs : List Variable) (v : Variable) → At vs v → v.0 < length vs
at-low vs v h = slice_get_within vs v.0 v h

pub at-read : (vs : List Variable) (v d : Variable) → At vs v → get_or vs v.0 d ≡ v
at-read vs v d h = some-is (get_or vs v.0 d) v (sym (slice_get-get_or vs v.0 d (at-low vs v h)) ∙ h)

-- each k-th variable has the number k
abbrev pub IsCounted : List Variable → Type 0
IsCounted vs = (k : ℕ) (v : Variable) → slice_get vs k ≡ Some v → v.0 ≡ k

pub counted-at : (vs : List Variable) → IsCounted vs → Each (At vs) vs
counted-at vs c v m =
    let r : slice_get vs (places_in vs v.0 v.1) ≡ Some v = read-place vs v m in
    subst (λ k. slice_get vs k ≡ Some v) (sym (c (places_in vs v.0 v.1) v r)) r

-- what is listed by such a list of variables
pub listing : (vs : List Variable) → IsCounted vs → (f : Variable → Term) (ts : List Term) → length ts ≡ length vs → ((v : Variable) → At vs v → f v ≡ get_or ts v.0 (Var v.0 v.1)) → map f vs ≡ ts
listing vs c f ts l h =
    let z : SortId = record { 0 = 0 } in
    let d : Variable = (0, z) in
    let e : Term = Var 0 z in
    ext_get_or e (map f vs) ts (length-map vs f ∙ sym l) (λ n lt.
    let k : n < length vs = let m : length (map f vs) ≡ length vs = length-map vs f in omega arith in
    let v : Variable = get_or vs n d in
    let r : slice_get vs n ≡ Some v = slice_get-get_or vs n d k in
    let is : v.0 ≡ n = c n v r in
    let a : At vs v = subst (λ i. slice_get vs i ≡ Some v) (sym is) r in
    get_or-map f vs n d e k ∙ (h v a ∙ (ap (λ i. get_or ts i (Var v.0 v.1)) is ∙ get_or_default ts n (Var v.0 v.1) e (omega arith))))

-- what is made of each variable fits it
pub fit-mapped : (sig : Signature) (ins : List SortId) (f : Variable → Term) (vs : List Variable) → Each (λ v. term_fits sig ins (f v) v.1 ≡ true) vs → fit_places sig (sorts_of sig ins (map f vs)) (map (λ (v : Variable). v.1) vs) ≡ true
fit-mapped sig ins f [] h = refl
fit-mapped sig ins f (v ∷ vs) h = and_both (term_fits sig ins (f v) v.1) (fit_places sig (sorts_of sig ins (map f vs)) (map (λ (v : Variable). v.1) vs))
    (each-left (λ v. term_fits sig ins (f v) v.1 ≡ true) (v ∷ []) vs h v (within-self v))
    (fit-mapped sig ins f vs (each-right (λ v. term_fits sig ins (f v) v.1 ≡ true) (v ∷ []) vs h))
  where
    within-self : (v : Variable) → Within v (v ∷ [])
    within-self v = rw (same_variable-refl v) refl

pub occurrences-mapped : (P : Variable → Type 0) (f : Variable → Term) (vs : List Variable) → Each (λ v. Each P (occurrences (f v))) vs → Each P (occurrences_all (map f vs))
occurrences-mapped P f [] h = λ v m. never (rw occurrences-none at m)
occurrences-mapped P f (v ∷ vs) h = each-more P (f v) (map f vs)
    (each-left (λ v. Each P (occurrences (f v))) (v ∷ []) vs h v (rw (same_variable-refl v) refl))
    (occurrences-mapped P f vs (each-right (λ v. Each P (occurrences (f v))) (v ∷ []) vs h))

fit-append : (sig : Signature) (os us : List (Option SortId)) (ps qs : List SortId) → fit_places sig os ps ≡ true → fit_places sig us qs ≡ true → fit_places sig (os ++ us) (ps ++ qs) ≡ true
fit-append sig [] us [] qs h k = k
fit-append sig [] us (p ∷ ps) qs h k = never h
fit-append sig (o ∷ os) us [] qs h k = never h
fit-append sig (o ∷ os) us (p ∷ ps) qs h k = and_both (fits_place sig o p) (fit_places sig (os ++ us) (ps ++ qs)) (and_left (fits_place sig o p) (fit_places sig os ps) h) (fit-append sig os us ps qs (and_right (fits_place sig o p) (fit_places sig os ps) h) k)

pub fit-read : (sig : Signature) (os : List (Option SortId)) (ps : List SortId) (n : ℕ) (d : Option SortId) (e : SortId) → fit_places sig os ps ≡ true → n < length os → fits_place sig (get_or os n d) (get_or ps n e) ≡ true
fit-read sig [] ps n d e h l = absurd (omega arith)
fit-read sig (o ∷ os) [] n d e h l = never h
fit-read sig (o ∷ os) (p ∷ ps) zero d e h l = and_left (fits_place sig o p) (fit_places sig os ps) h
fit-read sig (o ∷ os) (p ∷ ps) (suc n) d e h l = fit-read sig os ps n d e (and_right (fits_place sig o p) (fit_places sig os ps) h) (omega arith)

-- instances are what substitutions give
module _ (zs : List Term) (θ : Substitution) (P : Variable → Type 0) where
  pub instance-apply : ((n : ℕ) (s : SortId) → P (n, s) → get_or zs n (Var n s) ≡ θ n s) → (t : Term) → Each P (occurrences t) → instance zs t ≡ apply θ t
  instance-apply h = agree (instance zs) (apply θ) P
      (λ n s e. instance-Var zs n s ∙ (h n s e ∙ sym (apply-Var θ n s)))
      (λ k. instance-In zs k ∙ sym (apply-In θ k))
      (instance-App zs) (apply-App θ)

  pub instance-shifted : (k : ℕ) → ((n : ℕ) (s : SortId) → P (n, s) → get_or zs n (Var n s) ≡ θ (n + k) s) → (t : Term) → Each P (occurrences t) → instance zs t ≡ apply θ (shifted k t)
  unfolding shifted
  instance-shifted k h = agree (instance zs) (λ t. apply θ (renamed (λ n s. n + k) t)) P
      (λ n s e. instance-Var zs n s ∙ (h n s e ∙ sym (ap (apply θ) (renamed-Var (λ n s. n + k) n s) ∙ apply-Var θ (n + k) s)))
      (λ j. instance-In zs j ∙ sym (ap (apply θ) (renamed-In (λ n s. n + k) j) ∙ apply-In θ j))
      (instance-App zs)
      (λ f ts. ap (apply θ) (renamed-App (λ n s. n + k) f ts) ∙ (apply-App θ f (renamed_all (λ n s. n + k) ts) ∙ ap (App f) (all-after (apply θ) (renamed (λ n s. n + k)) ts)))

pub sort-shifted : (sig : Signature) (ins : List SortId) (k : ℕ) (t : Term) → sort_of sig ins (shifted k t) ≡ sort_of sig ins t
unfolding shifted
sort-shifted sig ins k t = sort-renamed sig ins (λ n s. n + k) t

pub each-shifted : (P : Variable → Type 0) (k : ℕ) (t : Term) → Each (λ v. P (v.0 + k, v.1)) (occurrences t) → Each P (occurrences (shifted k t))
unfolding shifted
each-shifted P k t h w m =
    let r : WasMoved (moved (λ n s. n + k)) w (occurrences t) = was-moved (moved (λ n s. n + k)) w (occurrences t) (subst (λ xs. Within w xs) (term-moved (λ n s. n + k) t) m) in
    subst P r.is (h r.from r.within)

module _ (sig : Signature) (ins : List SortId) (vs ws : List Variable) (first : IsCounted vs) (second : IsCounted ws) where
  abbrev pub table : List SortId
  table = map (λ (v : Variable). v.1) vs ++ map (λ (v : Variable). v.1) ws

  abbrev pub sorts : ℕ → SortId
  sorts n = get_or table n (record { 0 = 0 })

  pub left-sort : (v : Variable) → At vs v → v.1 ≡ sorts v.0
  left-sort v h =
      let z : SortId = record { 0 = 0 } in
      let l : v.0 < length vs = at-low vs v h in
      let long : length (map (λ (w : Variable). w.1) vs) ≡ length vs = length-map vs (λ (w : Variable). w.1) in
      sym (read-left (map (λ (w : Variable). w.1) vs) (map (λ (w : Variable). w.1) ws) v.0 z z (omega arith)
      ∙ (get_or-map (λ (w : Variable). w.1) vs v.0 v z l ∙ ap (λ (w : Variable). w.1) (at-read vs v v h)))

  pub right-sort : (v : Variable) → At ws v → v.1 ≡ sorts (v.0 + length vs)
  right-sort v h =
      let z : SortId = record { 0 = 0 } in
      let l : v.0 < length ws = at-low ws v h in
      let long : length (map (λ (w : Variable). w.1) ws) ≡ length ws = length-map ws (λ (w : Variable). w.1) in
      sym (read-right (map (λ (w : Variable). w.1) vs) (map (λ (w : Variable). w.1) ws) (length vs) v.0 z z (length-map vs (λ (w : Variable). w.1)) (omega arith)
      ∙ (get_or-map (λ (w : Variable). w.1) ws v.0 v z l ∙ ap (λ (w : Variable). w.1) (at-read ws v v h)))

  -- terms whose variables are those of the lists
  abbrev pub Left : Term → Type 0
  Left t = HasOne sig ins t × Each (At vs) (occurrences t)

  abbrev pub Right : Term → Type 0
  Right t = HasOne sig ins t × Each (At ws) (occurrences t)

  abbrev pub Pairing : List (Term × Term) → Type 0
  Pairing ps = AllByRecursion (λ (e : Term × Term). Left e.0 × Right e.1) ps

  pub left-posed : (t : Term) → Left t → IsSortedUnder sig ins sorts t
  left-posed t h = record { sorted = h.0; follows = given_sorts-each sorts t (λ v m. left-sort v (h.1 v m)) }

  right-posed : (t : Term) → Right t → IsSortedUnder sig ins sorts (shifted (length vs) t)
  right-posed t h = record {
    sorted = ap is_some (sort-shifted sig ins (length vs) t) ∙ h.0;
    follows = given_sorts-each sorts (shifted (length vs) t) (each-shifted (HasSort sorts) (length vs) t (λ v m. right-sort v (h.1 v m)));
  }

  pub apart-posed : (ps : List (Term × Term)) → Pairing ps → AreSortedUnder sig ins sorts (apart (length vs) ps)
  apart-posed [] h = tt
  apart-posed (p ∷ ps) h = ((left-posed p.0 h.0.0, right-posed p.1 h.0.1), apart-posed ps h.1)

  -- two lists as a substitution
  module _ (xs ys : List Term) (fit_left : fit_places sig (sorts_of sig ins xs) (map (λ (v : Variable). v.1) vs) ≡ true) (fit_right : fit_places sig (sorts_of sig ins ys) (map (λ (v : Variable). v.1) ws) ≡ true) where
    abbrev pub joint : Substitution
    joint n s = get_or (xs ++ ys) n (Var n s)

    pub left-long : length xs ≡ length vs
    left-long = sym (length-map xs (sort_of sig ins)) ∙ (fit-length sig (sorts_of sig ins xs) (map (λ (v : Variable). v.1) vs) fit_left ∙ length-map vs (λ (v : Variable). v.1))

    pub right-long : length ys ≡ length ws
    right-long = sym (length-map ys (sort_of sig ins)) ∙ (fit-length sig (sorts_of sig ins ys) (map (λ (v : Variable). v.1) ws) fit_right ∙ length-map ws (λ (v : Variable). v.1))

    pub joint-left : (v : Variable) → At vs v → get_or xs v.0 (Var v.0 v.1) ≡ joint v.0 v.1
    joint-left v h = let l : v.0 < length vs = at-low vs v h in let e = left-long in sym (read-left xs ys v.0 (Var v.0 v.1) (Var v.0 v.1) (omega arith))

    joint-right : (v : Variable) → At ws v → get_or ys v.0 (Var v.0 v.1) ≡ joint (v.0 + length vs) v.1
    joint-right v h = let l : v.0 < length ws = at-low ws v h in let e = right-long in sym (read-right xs ys (length vs) v.0 (Var (v.0 + length vs) v.1) (Var v.0 v.1) left-long (omega arith))

    pub joint-fits : IsFitting sig ins sorts joint
    joint-fits n valid = by (nat_lt n (length (xs ++ ys))) refl
      where
        fit : fit_places sig (sorts_of sig ins (xs ++ ys)) table ≡ true
        fit = subst (λ os. fit_places sig os table ≡ true) (sym (map-append (sort_of sig ins) xs ys)) (fit-append sig (sorts_of sig ins xs) (sorts_of sig ins ys) (map (λ (v : Variable). v.1) vs) (map (λ (v : Variable). v.1) ws) fit_left fit_right)

        by : (b : Bool) → nat_lt n (length (xs ++ ys)) ≡ b → fits_place sig (sort_of sig ins (joint n (sorts n))) (sorts n) ≡ true
        by true e =
            let low : n < length (xs ++ ys) = grind (arith, nat_tests) in
            let long : length (sorts_of sig ins (xs ++ ys)) ≡ length (xs ++ ys) = length-map (xs ++ ys) (sort_of sig ins) in
            subst (λ o. fits_place sig o (sorts n) ≡ true) (get_or-map (sort_of sig ins) (xs ++ ys) n (Var n (sorts n)) None low)
            (fit-read sig (sorts_of sig ins (xs ++ ys)) table n None (record { 0 = 0 }) fit (omega arith))
        by false e =
            let high : length (xs ++ ys) ≤ n = grind (arith, nat_tests) in
            subst (λ t. fits_place sig (sort_of sig ins t) (sorts n) ≡ true) (sym (get_or_past (xs ++ ys) n (Var n (sorts n)) high)) (variable-fits sig ins n (sorts n) (sorts n) valid (fits-same sig (sorts n)))

    pub joint-unifies : (ps : List (Term × Term)) → Pairing ps → AllByRecursion (λ (e : Term × Term). instance xs e.0 ≡ instance ys e.1) ps → Unifies joint (apart (length vs) ps)
    joint-unifies [] h u = tt
    joint-unifies (p ∷ ps) h u = (
      sym (instance-apply xs joint (At vs) (λ n s. joint-left (n, s)) p.0 h.0.0.1) ∙ (u.0 ∙ instance-shifted ys joint (At ws) (length vs) (λ n s. joint-right (n, s)) p.1 h.0.1.1),
      joint-unifies ps h.1 u.1,
    )

    pub joint-unifier : (ps : List (Term × Term)) → Pairing ps → AllByRecursion (λ (e : Term × Term). instance xs e.0 ≡ instance ys e.1) ps → IsUnifier sig ins sorts joint (apart (length vs) ps)
    joint-unifier ps h u = record { fitting = joint-fits; unifies = joint-unifies ps h u }

  -- a solution as two lists
  module _ (left_valid : Each (Valid sig ins) vs) (right_valid : Each (Valid sig ins) ws) (us : List (Term × Term)) (bs : List (ℕ × Term)) (solved : IsSolution sig ins sorts bs us) where
    abbrev σ : Substitution
    σ = listed bs

    abbrev pub lefts : List Term
    lefts = images bs 0 vs

    abbrev pub rights : List Term
    rights = images bs (length vs) ws

    image_fits : (k : ℕ) (v : Variable) → v.1 ≡ sorts (v.0 + k) → Valid sig ins v → term_fits sig ins (σ (v.0 + k) v.1) v.1 ≡ true
    image_fits k v e valid = subst (λ (s : SortId). term_fits sig ins (σ (v.0 + k) s) s ≡ true) (sym e) (solved.most_general.unifier.fitting (v.0 + k) (subst (λ (s : SortId). s.0 < length sig.sorts) e valid))

    pub none-more : (n : ℕ) → n + 0 ≡ n
    none-more n = omega arith

    pub left_at : (v : Variable) → At vs v → v.1 ≡ sorts (v.0 + 0)
    left_at v h = left-sort v h ∙ ap sorts (sym (none-more v.0))

    pub lefts-fit : fit_places sig (sorts_of sig ins lefts) (map (λ (v : Variable). v.1) vs) ≡ true
    lefts-fit = fit-mapped sig ins (λ v. σ (v.0 + 0) v.1) vs (λ v m. image_fits 0 v (left_at v (counted-at vs first v m)) (left_valid v m))

    pub rights-fit : fit_places sig (sorts_of sig ins rights) (map (λ (v : Variable). v.1) ws) ≡ true
    rights-fit = fit-mapped sig ins (λ v. σ (v.0 + length vs) v.1) ws (λ v m. image_fits (length vs) v (right-sort v (counted-at ws second v m)) (right_valid v m))

    pub read_image : (k : ℕ) (us : List Variable) (v : Variable) → At us v → get_or (images bs k us) v.0 (Var v.0 v.1) ≡ σ (v.0 + k) v.1
    read_image k us v h = get_or-map (λ (w : Variable). σ (w.0 + k) w.1) us v.0 v (Var v.0 v.1) (at-low us v h) ∙ ap (λ (w : Variable). σ (w.0 + k) w.1) (at-read us v v h)

    pub unite : (qs : List (Term × Term)) → Pairing qs → Unifies σ (apart (length vs) qs) → AllByRecursion (λ (e : Term × Term). instance lefts e.0 ≡ instance rights e.1) qs
    unite [] h u = tt
    unite (p ∷ qs) h u = (
      instance-apply lefts σ (At vs) (λ n s e. read_image 0 vs (n, s) e ∙ ap (λ i. σ i s) (none-more n)) p.0 h.0.0.1
          ∙ (u.0 ∙ sym (instance-shifted rights σ (At ws) (length vs) (λ n s. read_image (length vs) ws (n, s)) p.1 h.0.1.1)),
      unite qs h.1 u.1,
    )

    -- the variables of an image have sorts, and these are those of the table
    abbrev pub Fine : Variable → Type 0
    Fine v = HasSort sorts v × Valid sig ins v

    pub image_fine : (k : ℕ) (v : Variable) → v.1 ≡ sorts (v.0 + k) → Valid sig ins v → Each Fine (occurrences (σ (v.0 + k) v.1))
    image_fine k v e valid w m = (
      each-given_sort sorts (σ (v.0 + k) v.1) (subst (λ s. has_given_sorts sorts (σ (v.0 + k) s) ≡ true) (sym e) (solved.most_general.follows (v.0 + k))) w m,
      each-valid sig ins (σ (v.0 + k) v.1) (place-some sig (sort_of sig ins (σ (v.0 + k) v.1)) v.1 (image_fits k v e valid)) w m,
    )

    pub all_fine : Each Fine (in_lists (lefts ∷ rights ∷ []))
    all_fine = each-both Fine (occurrences_all lefts) (in_lists (rights ∷ []))
        (occurrences-mapped Fine (λ v. σ (v.0 + 0) v.1) vs (λ v m. image_fine 0 v (left_at v (counted-at vs first v m)) (left_valid v m)))
        (each-both Fine (occurrences_all rights) []
        (occurrences-mapped Fine (λ v. σ (v.0 + length vs) v.1) ws (λ v m. image_fine (length vs) v (right-sort v (counted-at ws second v m)) (right_valid v m)))
        (λ v m. never m))

    -- other such lists are instances of these
    module _ (xs ys : List Term) (fit_left : fit_places sig (sorts_of sig ins xs) (map (λ (v : Variable). v.1) vs) ≡ true) (fit_right : fit_places sig (sorts_of sig ins ys) (map (λ (v : Variable). v.1) ws) ≡ true)
        (unifier : IsUnifier sig ins sorts (joint xs ys fit_left fit_right) us) where
      abbrev pub θ : Substitution
      θ = joint xs ys fit_left fit_right

      factor : (k : ℕ) (v : Variable) → v.1 ≡ sorts (v.0 + k) → apply θ (σ (v.0 + k) v.1) ≡ θ (v.0 + k) v.1
      factor k v e = subst (λ s. apply θ (σ (v.0 + k) s) ≡ θ (v.0 + k) s) (sym e) (solved.most_general.factors θ unifier (v.0 + k))

      pub lefts-factor : applies θ lefts ≡ xs
      lefts-factor = all_mapped vs ∙ listing vs first (λ v. apply θ (σ (v.0 + 0) v.1)) xs (left-long xs ys fit_left fit_right)
          (λ v h. factor 0 v (left_at v h) ∙ (ap (λ i. θ i v.1) (none-more v.0) ∙ sym (joint-left xs ys fit_left fit_right v h)))
        where
          all_mapped : (us : List Variable) → applies θ (images bs 0 us) ≡ map (λ (v : Variable). apply θ (σ (v.0 + 0) v.1)) us
          all_mapped [] = refl
          all_mapped (u ∷ us) = ap (λ ts. apply θ (σ (u.0 + 0) u.1) ∷ ts) (all_mapped us)

      pub rights-factor : applies θ rights ≡ ys
      rights-factor = all_mapped ws ∙ listing ws second (λ v. apply θ (σ (v.0 + length vs) v.1)) ys (right-long xs ys fit_left fit_right)
          (λ v h. factor (length vs) v (right-sort v h) ∙ sym (joint-right xs ys fit_left fit_right v h))
        where
          all_mapped : (us : List Variable) → applies θ (images bs (length vs) us) ≡ map (λ (v : Variable). apply θ (σ (v.0 + length vs) v.1)) us
          all_mapped [] = refl
          all_mapped (u ∷ us) = ap (λ ts. apply θ (σ (u.0 + length vs) u.1) ∷ ts) (all_mapped us)

      pub images-keep : Keeps sig ins θ (in_lists (lefts ∷ rights ∷ []))
      images-keep n s m =
          let h : Fine (n, s) = all_fine (n, s) m in
          subst (λ (r : SortId). term_fits sig ins (θ n r) r ≡ true) (sym h.0) (unifier.fitting n (subst (λ (r : SortId). r.0 < length sig.sorts) h.0 h.1))
