-- Numbering by first occurrence is a bijection, and the same for all clauses that are alike.
use Rattle.std.proofs.Common.{◌≡◌, ◌∙◌, ◌||◌, ◌+◌, ◌<◌, ℕ, zero, suc, Bool, true, false, not, cond, refl, sym, ap, subst, arith, List, [], ◌∷◌, map, length, Some, slice_get}
use Rattle.std.specs.List.{filter}
use Rattle.std.proofs.Math.Numerals.{add-one}
use Rattle.am_term.proofs.Tests.{or_left, or_right, never_both, same_tests, fails}
use Rattle.am_clause.specs.declared.clause.Clause.{Clause}
use Rattle.am_clause.specs.Distinct.{among, distinct}
use Rattle.am_clause.specs.Variables.{Variable, same_variable, in_clause, variables}
use Rattle.am_clause.specs.Renaming.{Numbers, renamed_clause, places_in, renumbered, renumbered-is}
use Rattle.am_clause.specs.Numbered.{Occurs, IsBijection, IsNumbered, AreAlike, sorts_in}
use Rattle.am_clause.proofs.Members.{any-distinct}
use Rattle.am_clause.proofs.Places.{same_variable-refl, same_variable-sound, place-none, place-here, place-later, place-low}
use Rattle.am_clause.proofs.Renames.{moved, Within, clause-moved, clause-twice, clause-agrees, clause-itself, after, itself}

-- a list in which no member is the same as a later one
abbrev Apart : List Variable → Type 0
Apart [] = Unit {0}
Apart (v ∷ vs) = (among same_variable v vs ≡ false) × Apart vs

kept-among : (p : Variable → Bool) (v : Variable) (vs : List Variable) → among same_variable v (filter p vs) ≡ true → among same_variable v vs ≡ true
kept-among p v [] m = m
kept-among p v (w ∷ ws) m = by (p w) m (kept-among p v ws)
  where
    by : (b : Bool) → among same_variable v (cond b (w ∷ filter p ws) (filter p ws)) ≡ true → (among same_variable v (filter p ws) ≡ true → among same_variable v ws ≡ true) → (same_variable v w || among same_variable v ws) ≡ true
    by true m h = one (same_variable v w) m h
      where
        one : (c : Bool) → (c || among same_variable v (filter p ws)) ≡ true → (among same_variable v (filter p ws) ≡ true → among same_variable v ws ≡ true) → (c || among same_variable v ws) ≡ true
        one true m h = refl
        one false m h = h m
    by false m h = or_right (same_variable v w) (among same_variable v ws) (h m)

gone : (v : Variable) (vs : List Variable) → among same_variable v (filter (λ w. not (same_variable v w)) vs) ≡ false
gone v [] = refl
gone v (w ∷ ws) = by (same_variable v w) refl (gone v ws)
  where
    by : (b : Bool) → same_variable v w ≡ b → among same_variable v (filter (λ w. not (same_variable v w)) ws) ≡ false
        → among same_variable v (cond (not (same_variable v w)) (w ∷ filter (λ w. not (same_variable v w)) ws) (filter (λ w. not (same_variable v w)) ws)) ≡ false
    by true e h = rw e h
    by false e h = rw (e, e) h

apart-filter : (p : Variable → Bool) (vs : List Variable) → Apart vs → Apart (filter p vs)
apart-filter p [] a = a
apart-filter p (v ∷ vs) a = by (p v) (apart-filter p vs a.1)
  where
    by : (b : Bool) → Apart (filter p vs) → Apart (cond b (v ∷ filter p vs) (filter p vs))
    by true h = (fails (among same_variable v (filter p vs)) (λ m. never_both (among same_variable v vs) (kept-among p v vs m) a.0), h)
    by false h = h

apart-distinct : (vs : List Variable) → Apart (distinct same_variable vs)
apart-distinct [] = tt
apart-distinct (v ∷ vs) = (gone v (distinct same_variable vs), apart-filter (λ w. not (same_variable v w)) (distinct same_variable vs) (apart-distinct vs))

-- a member that is read stands in the list
read-among : (vs : List Variable) (k : ℕ) (v : Variable) → slice_get vs k ≡ Some v → among same_variable v vs ≡ true
read-among [] k v e = absurd cc
read-among (w ∷ ws) zero v e = let i : w ≡ v = cc in or_left (same_variable v w) (among same_variable v ws) (subst (λ (x : Variable). same_variable v x ≡ true) (sym i) (same_variable-refl v))
read-among (w ∷ ws) (suc k) v e = or_right (same_variable v w) (among same_variable v ws) (read-among ws k v e)

-- the place of the k-th of a list without repetitions is k
place-read : (vs : List Variable) → Apart vs → (k : ℕ) (v : Variable) → slice_get vs k ≡ Some v → places_in vs v.0 v.1 ≡ k
place-read [] a k v e = absurd cc
place-read (w ∷ ws) a zero v e = let i : w ≡ v = cc in place-here w ws v.0 v.1 (subst (λ (x : Variable). same_variable v x ≡ true) (sym i) (same_variable-refl v))
place-read (w ∷ ws) a (suc k) v e =
    let h : places_in ws v.0 v.1 ≡ k = place-read ws a.1 k v e in
    let d : same_variable v w ≡ false = fails (same_variable v w) (λ f. never_both (among same_variable w ws) (subst (λ (x : Variable). among same_variable x ws ≡ true) (same_variable-sound v w f) (read-among ws k v e)) a.0) in
    omega (arith, place-later w ws v.0 v.1 d)

-- what stands at the place of a member is the member
pub read-place : (vs : List Variable) (v : Variable) → among same_variable v vs ≡ true → slice_get vs (places_in vs v.0 v.1) ≡ Some v
read-place [] v m = absurd cc
read-place (w ∷ ws) v m = by (same_variable v w) refl m (read-place ws v)
  where
    by : (b : Bool) → same_variable v w ≡ b → (same_variable v w || among same_variable v ws) ≡ true → (among same_variable v ws ≡ true → slice_get ws (places_in ws v.0 v.1) ≡ Some v) → slice_get (w ∷ ws) (places_in (w ∷ ws) v.0 v.1) ≡ Some v
    by true e m h = rw (place-here w ws v.0 v.1 e) (ap Some (sym (same_variable-sound v w e)))
    by false e m h = rw (place-later w ws v.0 v.1 e, add-one) (h (rw e at m))

-- the k-th member, where there is one
reads : (vs : List Variable) (k : ℕ) → k < length vs → (v : Variable) × (slice_get vs k ≡ Some v)
reads [] k h = absurd (omega arith)
reads (v ∷ vs) zero h = (v, refl)
reads (v ∷ vs) (suc k) h = reads vs k (omega arith)

occurs-variables : (v : Variable) (c : Clause) → among same_variable v (variables c) ≡ among same_variable v (in_clause c)
unfolding variables
occurs-variables v c = any-distinct same_variable same_variable-sound same_variable-refl (same_variable v) (in_clause c)

variables-apart : (c : Clause) → Apart (variables c)
unfolding variables
variables-apart c = apart-distinct (in_clause c)

pub listed : (v : Variable) (c : Clause) → Occurs v c → among same_variable v (variables c) ≡ true
listed v c h = occurs-variables v c ∙ h

some-is : (v w : Variable) → Some v ≡ Some w → v ≡ w
some-is v w e = cc

pub bijection : (c : Clause) → IsBijection c (places_in (variables c)) (length (variables c))
bijection c = record {
  below = λ v h. place-low (variables c) v.0 v.1 (listed v c h);
  apart = λ v w h k e.
      let a : slice_get (variables c) (places_in (variables c) v.0 v.1) ≡ Some v = read-place (variables c) v (listed v c h) in
      let b : slice_get (variables c) (places_in (variables c) w.0 w.1) ≡ Some w = read-place (variables c) w (listed w c k) in
      some-is v w (sym a ∙ (ap (slice_get (variables c)) e ∙ b));
  every = λ k h.
      let r : (v : Variable) × (slice_get (variables c) k ≡ Some v) = reads (variables c) k h in
      (r.0, sym (occurs-variables r.0 c) ∙ read-among (variables c) k r.0 r.1, place-read (variables c) (variables-apart c) k r.0 r.1);
}

-- lists of moved variables

module _ (f : Variable → Variable) where
  abbrev KeepsApart : List Variable → Type 0
  KeepsApart vs = (v w : Variable) → Within v vs → Within w vs → f v ≡ f w → v ≡ w

  kept-test : (vs : List Variable) → KeepsApart vs → (v w : Variable) → Within v vs → Within w vs → same_variable (f v) (f w) ≡ same_variable v w
  kept-test vs h v w a b = same_tests (same_variable (f v) (f w)) (same_variable v w)
      (λ e. subst (λ (x : Variable). same_variable v x ≡ true) (h v w a b (same_variable-sound (f v) (f w) e)) (same_variable-refl v))
      (λ e. subst (λ (x : Variable). same_variable (f v) (f x) ≡ true) (same_variable-sound v w e) (same_variable-refl (f v)))

  filter-map : (p : Variable → Bool) (vs : List Variable) → filter p (map f vs) ≡ map f (filter (λ v. p (f v)) vs)
  filter-map p [] = refl
  filter-map p (v ∷ vs) = by (p (f v)) (filter-map p vs)
    where
      by : (b : Bool) → filter p (map f vs) ≡ map f (filter (λ v. p (f v)) vs) → cond b (f v ∷ filter p (map f vs)) (filter p (map f vs)) ≡ map f (cond b (v ∷ filter (λ v. p (f v)) vs) (filter (λ v. p (f v)) vs))
      by true h = ap (λ xs. f v ∷ xs) h
      by false h = h

  agreeing : (p q : Variable → Bool) (vs : List Variable) → ((v : Variable) → Within v vs → p v ≡ q v) → filter p vs ≡ filter q vs
  agreeing p q [] h = refl
  agreeing p q (v ∷ vs) h = rw (h v (or_left (same_variable v v) (among same_variable v vs) (same_variable-refl v)))
      (ap (λ ys. cond (q v) (v ∷ ys) ys) (agreeing p q vs (λ w m. h w (or_right (same_variable w v) (among same_variable w vs) m))))

  pub distinct-map : (vs : List Variable) → KeepsApart vs → distinct same_variable (map f vs) ≡ map f (distinct same_variable vs)
  distinct-map [] h = refl
  distinct-map (v ∷ vs) h = ap (λ xs. f v ∷ xs)
      (ap (filter (λ w. not (same_variable (f v) w))) (distinct-map vs (λ w x a b. h w x (later w a) (later x b)))
      ∙ (filter-map (λ w. not (same_variable (f v) w)) (distinct same_variable vs)
      ∙ ap (map f) (agreeing (λ w. not (same_variable (f v) (f w))) (λ w. not (same_variable v w)) (distinct same_variable vs)
      (λ w m. ap not (kept-test (v ∷ vs) h v w (or_left (same_variable v v) (among same_variable v vs) (same_variable-refl v))
      (later w (sym (any-distinct same_variable same_variable-sound same_variable-refl (same_variable w) vs) ∙ m)))))))
    where
      later : (w : Variable) → Within w vs → Within w (v ∷ vs)
      later w m = or_right (same_variable w v) (among same_variable w vs) m

  pub place-map : (v : Variable) (vs : List Variable) → ((w : Variable) → Within w vs → same_variable (f v) (f w) ≡ same_variable v w) → places_in (map f vs) (f v).0 (f v).1 ≡ places_in vs v.0 v.1
  place-map v [] h = place-none (f v).0 (f v).1 ∙ sym (place-none v.0 v.1)
  place-map v (w ∷ ws) h = by (same_variable v w) refl (place-map v ws (λ x m. h x (or_right (same_variable x w) (among same_variable x ws) m)))
    where
      here : same_variable (f v) (f w) ≡ same_variable v w
      here = h w (or_left (same_variable w w) (among same_variable w ws) (same_variable-refl w))

      by : (b : Bool) → same_variable v w ≡ b → places_in (map f ws) (f v).0 (f v).1 ≡ places_in ws v.0 v.1 → places_in (f w ∷ map f ws) (f v).0 (f v).1 ≡ places_in (w ∷ ws) v.0 v.1
      by true e k = place-here (f w) (map f ws) (f v).0 (f v).1 (here ∙ e) ∙ sym (place-here w ws v.0 v.1 e)
      by false e k = place-later (f w) (map f ws) (f v).0 (f v).1 (here ∙ e) ∙ (ap (λ n. n + 1) k ∙ sym (place-later w ws v.0 v.1 e))

-- renaming that keeps variables apart

module _ (c : Clause) (to : Numbers) (apart : (v w : Variable) → Occurs v c → Occurs w c → to v.0 v.1 ≡ to w.0 w.1 → v.1 ≡ w.1 → v ≡ w) where
  keeps : KeepsApart (moved to) (in_clause c)
  keeps v w a b e = apart v w a b (ap (λ (x : Variable). x.0) e) (ap (λ (x : Variable). x.1) e)

  pub variables-moved : variables (renamed_clause to c) ≡ map (moved to) (variables c)
  unfolding variables
  variables-moved = ap (distinct same_variable) (clause-moved to c) ∙ distinct-map (moved to) (in_clause c) keeps

  pub renumbered-moved : renumbered (renamed_clause to c) ≡ renumbered c
  unfolding renumbered
  renumbered-moved = clause-twice (places_in (variables (renamed_clause to c))) to c
      ∙ clause-agrees (after (places_in (variables (renamed_clause to c))) to) (places_in (variables c)) c
      (λ v m. ap (λ (vs : List Variable). places_in vs (to v.0 v.1) v.1) variables-moved
      ∙ place-map (moved to) v (variables c) (λ w n. kept-test (moved to) (in_clause c) keeps v w m (sym (occurs-variables w c) ∙ n)))

-- the laws

own : (c : Clause) (v w : Variable) → Occurs v c → Occurs w c → places_in (variables c) v.0 v.1 ≡ places_in (variables c) w.0 w.1 → v.1 ≡ w.1 → v ≡ w
own c v w a b e f = (bijection c).apart v w a b e

renumbered-variables : (c : Clause) → variables (renumbered c) ≡ map (moved (places_in (variables c))) (variables c)
unfolding renumbered
renumbered-variables c = variables-moved c (places_in (variables c)) (own c)

maps : {A B C : Type 0} (g : B → C) (f : A → B) (xs : List A) → map g (map f xs) ≡ map (λ x. g (f x)) xs
maps g f [] = refl
maps g f (x ∷ xs) = ap (λ ys. g (f x) ∷ ys) (maps g f xs)

pub keeps-sorts : (c : Clause) → sorts_in (renumbered c) ≡ sorts_in c
keeps-sorts c = ap (map (λ (v : Variable). v.1)) (renumbered-variables c) ∙ maps (λ (v : Variable). v.1) (moved (places_in (variables c))) (variables c)

pub renumbered-again : (c : Clause) → renumbered (renumbered c) ≡ renumbered c
renumbered-again c = ap renumbered (renumbered-is c) ∙ renumbered-moved c (places_in (variables c)) (own c)

pub alike-same : (c d : Clause) → AreAlike c d → renumbered d ≡ renumbered c
alike-same c d h = ap renumbered h.is ∙ renumbered-moved c h.to h.apart

pub numbered-fixed : (c : Clause) → IsNumbered c → renumbered c ≡ c
numbered-fixed c h = renumbered-is c ∙ (clause-agrees (places_in (variables c)) itself c (λ v m. sym (h (places_in (variables c) v.0 v.1) v (read-place (variables c) v (listed v c m)))) ∙ clause-itself c)

-- the k-th of the moved variables is the k-th, moved
read-map : (f : Variable → Variable) (vs : List Variable) (k : ℕ) (v : Variable) → slice_get (map f vs) k ≡ Some v → (w : Variable) × (slice_get vs k ≡ Some w) × (f w ≡ v)
read-map f [] k v e = absurd cc
read-map f (w ∷ ws) zero v e = (w, refl, some-is (f w) v e)
read-map f (w ∷ ws) (suc k) v e = read-map f ws k v e

pub renumbered-numbered : (c : Clause) → IsNumbered (renumbered c)
renumbered-numbered c k v e =
    let r : (w : Variable) × (slice_get (variables c) k ≡ Some w) × (moved (places_in (variables c)) w ≡ v) = read-map (moved (places_in (variables c))) (variables c) k v (sym (ap (λ (vs : List Variable). slice_get vs k) (renumbered-variables c)) ∙ e) in
    sym (ap (λ (x : Variable). x.0) r.2) ∙ place-read (variables c) (variables-apart c) k r.0 r.1

pub ruleset numbering_laws = (bijection, keeps-sorts, renumbered-again, alike-same, numbered-fixed, renumbered-numbered)
