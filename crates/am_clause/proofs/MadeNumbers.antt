-- Numbering a conclusion with its lists.
use Rattle.std.proofs.Common.{◌≡◌, ◌∙◌, ◌||◌, ◌++◌, ℕ, zero, suc, Bool, true, false, not, cond, refl, sym, ap, subst, arith, List, [], ◌∷◌, map, Some, slice_get}
use Rattle.std.specs.List.{filter, flat_map}
use Rattle.std.proofs.lemmas.List.{map-append}
use Rattle.am_term.specs.declared.term.Term.{Term}
use Rattle.am_term.specs.declared.term.Term.TheVariants.{App}
use Rattle.am_term.specs.Induct.{term_induct}
use Rattle.am_term.proofs.Tests.{or_left, or_right, never_both, same_tests, fails}
use Rattle.am_clause.specs.declared.clause.Clause.{Clause}
use Rattle.am_clause.specs.declared.row.Made.{Made}
use Rattle.am_clause.specs.Distinct.{among, distinct}
use Rattle.am_clause.specs.Variables.{Variable, same_variable, occurrences, occurrences_all, in_clause, occurrences-more}
use Rattle.am_clause.specs.Renaming.{Numbers, renamed, renamed_all, renamed_clause, places_in, renamed-Var, renamed-In, renamed-App}
use Rattle.am_clause.proofs.Members.{any-distinct}
use Rattle.am_clause.proofs.Places.{same_variable-refl, same_variable-sound, place-here, place-later}
use Rattle.am_clause.proofs.Bijections.{read-place, distinct-map, place-map}
use Rattle.am_clause.proofs.Renames.{moved, Within, within-left, within-right, terms-moved, clause-moved, after, term-twice, clause-twice, itself, clause-itself, term-agrees, clause-agrees}
use Rattle.am_clause.specs.Numbered.{AreNumbered}
use Rattle.am_clause.specs.NumberedMade.{numbering, made_occurrences, renamed_made, numbered_made, AreAlikeMade}

abbrev made_of : Clause → List (List Term) → Made
made_of c with = record { clause = c; with = with }

-- ---- lists without repetitions

abbrev Apart : List Variable → Type 0
Apart [] = Unit {0}
Apart (v ∷ vs) = (among same_variable v vs ≡ false) × Apart vs

kept-among : (p : Variable → Bool) (v : Variable) (vs : List Variable) → among same_variable v (filter p vs) ≡ true → among same_variable v vs ≡ true
kept-among p v [] m = m
kept-among p v (w ∷ ws) m = by (p w) m (kept-among p v ws)
  where
    by : (b : Bool) → among same_variable v (cond b (w ∷ filter p ws) (filter p ws)) ≡ true → (among same_variable v (filter p ws) ≡ true → among same_variable v ws ≡ true) → (same_variable v w || among same_variable v ws) ≡ true
    by true m h = one (same_variable v w) m h
      where
        one : (c : Bool) → (c || among same_variable v (filter p ws)) ≡ true → (among same_variable v (filter p ws) ≡ true → among same_variable v ws ≡ true) → (c || among same_variable v ws) ≡ true
        one true m h = refl
        one false m h = h m
    by false m h = or_right (same_variable v w) (among same_variable v ws) (h m)

gone : (v : Variable) (vs : List Variable) → among same_variable v (filter (λ w. not (same_variable v w)) vs) ≡ false
gone v [] = refl
gone v (w ∷ ws) = by (same_variable v w) refl (gone v ws)
  where
    by : (b : Bool) → same_variable v w ≡ b → among same_variable v (filter (λ w. not (same_variable v w)) ws) ≡ false
        → among same_variable v (cond (not (same_variable v w)) (w ∷ filter (λ w. not (same_variable v w)) ws) (filter (λ w. not (same_variable v w)) ws)) ≡ false
    by true e h = rw e h
    by false e h = rw (e, e) h

apart-filter : (p : Variable → Bool) (vs : List Variable) → Apart vs → Apart (filter p vs)
apart-filter p [] a = a
apart-filter p (v ∷ vs) a = by (p v) (apart-filter p vs a.1)
  where
    by : (b : Bool) → Apart (filter p vs) → Apart (cond b (v ∷ filter p vs) (filter p vs))
    by true h = (fails (among same_variable v (filter p vs)) (λ m. never_both (among same_variable v vs) (kept-among p v vs m) a.0), h)
    by false h = h

apart-distinct : (vs : List Variable) → Apart (distinct same_variable vs)
apart-distinct [] = tt
apart-distinct (v ∷ vs) = (gone v (distinct same_variable vs), apart-filter (λ w. not (same_variable v w)) (distinct same_variable vs) (apart-distinct vs))

read-among : (vs : List Variable) (k : ℕ) (v : Variable) → slice_get vs k ≡ Some v → among same_variable v vs ≡ true
read-among [] k v e = absurd cc
read-among (w ∷ ws) zero v e = let i : w ≡ v = cc in or_left (same_variable v w) (among same_variable v ws) (subst (λ (x : Variable). same_variable v x ≡ true) (sym i) (same_variable-refl v))
read-among (w ∷ ws) (suc k) v e = or_right (same_variable v w) (among same_variable v ws) (read-among ws k v e)

place-read : (vs : List Variable) → Apart vs → (k : ℕ) (v : Variable) → slice_get vs k ≡ Some v → places_in vs v.0 v.1 ≡ k
place-read [] a k v e = absurd cc
place-read (w ∷ ws) a zero v e = let i : w ≡ v = cc in place-here w ws v.0 v.1 (subst (λ (x : Variable). same_variable v x ≡ true) (sym i) (same_variable-refl v))
place-read (w ∷ ws) a (suc k) v e =
    let h : places_in ws v.0 v.1 ≡ k = place-read ws a.1 k v e in
    let d : same_variable v w ≡ false = fails (same_variable v w) (λ f. never_both (among same_variable w ws) (subst (λ (x : Variable). among same_variable x ws ≡ true) (same_variable-sound v w f) (read-among ws k v e)) a.0) in
    omega (arith, place-later w ws v.0 v.1 d)

some-is : (v w : Variable) → Some v ≡ Some w → v ≡ w
some-is v w e = cc

read-map : (f : Variable → Variable) (vs : List Variable) (k : ℕ) (v : Variable) → slice_get (map f vs) k ≡ Some v → (w : Variable) × (slice_get vs k ≡ Some w) × (f w ≡ v)
read-map f [] k v e = absurd cc
read-map f (w ∷ ws) zero v e = (w, refl, some-is (f w) v e)
read-map f (w ∷ ws) (suc k) v e = read-map f ws k v e

-- a variable that occurs is among the different ones
within-distinct : (v : Variable) (vs : List Variable) → Within v vs → Within v (distinct same_variable vs)
within-distinct v vs m = any-distinct same_variable same_variable-sound same_variable-refl (same_variable v) vs ∙ m

distinct-within : (v : Variable) (vs : List Variable) → Within v (distinct same_variable vs) → Within v vs
distinct-within v vs m = sym (any-distinct same_variable same_variable-sound same_variable-refl (same_variable v) vs) ∙ m

-- numbers are apart
numbering-apart : (vs : List Variable) (v w : Variable) → Within v vs → Within w vs → numbering vs v.0 v.1 ≡ numbering vs w.0 w.1 → v ≡ w
numbering-apart vs v w m n e =
    let a : slice_get (distinct same_variable vs) (numbering vs v.0 v.1) ≡ Some v = read-place (distinct same_variable vs) v (within-distinct v vs m) in
    let b : slice_get (distinct same_variable vs) (numbering vs w.0 w.1) ≡ Some w = read-place (distinct same_variable vs) w (within-distinct w vs n) in
    some-is v w (sym a ∙ (ap (slice_get (distinct same_variable vs)) e ∙ b))

-- the moved occurrences are numbered
numbering-numbered : (vs : List Variable) → AreNumbered (map (moved (numbering vs)) vs)
numbering-numbered vs k v e =
    let f : Variable → Variable = moved (numbering vs) in
    let all : distinct same_variable (map f vs) ≡ map f (distinct same_variable vs) = distinct-map f vs (λ v w m n i. numbering-apart vs v w m n (ap (λ (x : Variable). x.0) i)) in
    let r : (w : Variable) × (slice_get (distinct same_variable vs) k ≡ Some w) × (f w ≡ v) = read-map f (distinct same_variable vs) k v (sym (ap (λ (ws : List Variable). slice_get ws k) all) ∙ e) in
    sym (ap (λ (x : Variable). x.0) r.2) ∙ place-read (distinct same_variable vs) (apart-distinct vs) k r.0 r.1

-- ---- lists of terms

module _ (to : Numbers) where
  lists-moved : (tss : List (List Term)) → flat_map occurrences_all (map (renamed_all to) tss) ≡ map (moved to) (flat_map occurrences_all tss)
  lists-moved [] = refl
  lists-moved (ts ∷ tss) = ap (λ vs. vs ++ flat_map occurrences_all (map (renamed_all to) tss)) (terms-moved to ts) ∙ (ap (λ vs. map (moved to) (occurrences_all ts) ++ vs) (lists-moved tss)
      ∙ sym (map-append (moved to) (occurrences_all ts) (flat_map occurrences_all tss)))

  pub made-moved : (m : Made) → made_occurrences (renamed_made to m) ≡ map (moved to) (made_occurrences m)
  made-moved m = ap (λ vs. vs ++ flat_map occurrences_all (map (renamed_all to) m.with)) (clause-moved to m.clause) ∙ (ap (λ vs. map (moved to) (in_clause m.clause) ++ vs) (lists-moved m.with)
      ∙ sym (map-append (moved to) (in_clause m.clause) (flat_map occurrences_all m.with)))

module _ (to from : Numbers) where
  abbrev Agree : List Variable → Type 0
  Agree vs = (v : Variable) → Within v vs → to v.0 v.1 ≡ from v.0 v.1

  terms-agree : (ts : List Term) → Agree (occurrences_all ts) → renamed_all to ts ≡ renamed_all from ts
  terms-agree [] h = refl
  terms-agree (t ∷ ts) h =
      let g : Agree (occurrences t ++ occurrences_all ts) = rw occurrences-more at h in
      ap (λ x. x ∷ renamed_all to ts) (term-agrees to from t (λ v m. g v (within-left v (occurrences t) (occurrences_all ts) m)))
      ∙ ap (λ xs. renamed from t ∷ xs) (terms-agree ts (λ v m. g v (within-right v (occurrences t) (occurrences_all ts) m)))

  lists-agree : (tss : List (List Term)) → Agree (flat_map occurrences_all tss) → map (renamed_all to) tss ≡ map (renamed_all from) tss
  lists-agree [] h = refl
  lists-agree (ts ∷ tss) h =
      ap (λ x. x ∷ map (renamed_all to) tss) (terms-agree ts (λ v m. h v (within-left v (occurrences_all ts) (flat_map occurrences_all tss) m)))
      ∙ ap (λ xs. renamed_all from ts ∷ xs) (lists-agree tss (λ v m. h v (within-right v (occurrences_all ts) (flat_map occurrences_all tss) m)))

  made-agrees : (m : Made) → Agree (made_occurrences m) → renamed_made to m ≡ renamed_made from m
  made-agrees m h =
      ap (λ c. made_of c (map (renamed_all to) m.with)) (clause-agrees to from m.clause (λ v n. h v (within-left v (in_clause m.clause) (flat_map occurrences_all m.with) n)))
      ∙ ap (made_of (renamed_clause from m.clause)) (lists-agree m.with (λ v n. h v (within-right v (in_clause m.clause) (flat_map occurrences_all m.with) n)))

module _ (second first : Numbers) where
  terms-twice : (ts : List Term) → renamed_all second (renamed_all first ts) ≡ renamed_all (after second first) ts
  terms-twice [] = refl
  terms-twice (t ∷ ts) = ap (λ x. x ∷ renamed_all second (renamed_all first ts)) (term-twice second first t) ∙ ap (λ xs. renamed (after second first) t ∷ xs) (terms-twice ts)

  lists-twice : (tss : List (List Term)) → map (renamed_all second) (map (renamed_all first) tss) ≡ map (renamed_all (after second first)) tss
  lists-twice [] = refl
  lists-twice (ts ∷ tss) = ap (λ x. x ∷ map (renamed_all second) (map (renamed_all first) tss)) (terms-twice ts) ∙ ap (λ xs. renamed_all (after second first) ts ∷ xs) (lists-twice tss)

  made-twice : (m : Made) → renamed_made second (renamed_made first m) ≡ renamed_made (after second first) m
  made-twice m = ap (λ c. made_of c (map (renamed_all second) (map (renamed_all first) m.with))) (clause-twice second first m.clause) ∙ ap (made_of (renamed_clause (after second first) m.clause)) (lists-twice m.with)

term-itself : (t : Term) → renamed itself t ≡ t
term-itself = term_induct (λ t. renamed itself t ≡ t) (λ ts. renamed_all itself ts ≡ ts)
    (λ n s. renamed-Var itself n s)
    (λ k. renamed-In itself k)
    (λ f args h. renamed-App itself f args ∙ ap (App f) h)
    refl
    (λ t ts h k. ap (λ x. x ∷ renamed_all itself ts) h ∙ ap (λ xs. t ∷ xs) k)

terms-itself : (ts : List Term) → renamed_all itself ts ≡ ts
terms-itself [] = refl
terms-itself (t ∷ ts) = ap (λ x. x ∷ renamed_all itself ts) (term-itself t) ∙ ap (λ xs. t ∷ xs) (terms-itself ts)

lists-itself : (tss : List (List Term)) → map (renamed_all itself) tss ≡ tss
lists-itself [] = refl
lists-itself (ts ∷ tss) = ap (λ x. x ∷ map (renamed_all itself) tss) (terms-itself ts) ∙ ap (λ xs. ts ∷ xs) (lists-itself tss)

made-itself : (m : Made) → renamed_made itself m ≡ m
made-itself m = ap (λ c. made_of c (map (renamed_all itself) m.with)) (clause-itself m.clause) ∙ ap (made_of m.clause) (lists-itself m.with)

-- ---- the laws

pub made-numbered : (m : Made) → AreNumbered (made_occurrences (numbered_made m))
unfolding numbered_made
made-numbered m = subst AreNumbered (sym (made-moved (numbering (made_occurrences m)) m)) (numbering-numbered (made_occurrences m))

pub made-fixed : (m : Made) → AreNumbered (made_occurrences m) → numbered_made m ≡ m
unfolding numbered_made
made-fixed m h = made-agrees (numbering (made_occurrences m)) itself m (λ v n. sym (h (numbering (made_occurrences m) v.0 v.1) v (read-place (distinct same_variable (made_occurrences m)) v (within-distinct v (made_occurrences m) n)))) ∙ made-itself m

pub made-alike : (m n : Made) → AreAlikeMade m n → numbered_made n ≡ numbered_made m
unfolding numbered_made
made-alike m n h = ap (λ (x : Made). renamed_made (numbering (made_occurrences x)) x) h.is
    ∙ (made-twice (numbering (made_occurrences (renamed_made h.to m))) h.to m
    ∙ made-agrees (after (numbering (made_occurrences (renamed_made h.to m))) h.to) (numbering (made_occurrences m)) m agree)
  where
    f : Variable → Variable
    f = moved h.to

    vs : List Variable
    vs = made_occurrences m

    keeps : (v w : Variable) → Within v vs → Within w vs → f v ≡ f w → v ≡ w
    keeps v w a b e = h.apart v w a b (ap (λ (x : Variable). x.0) e) (ap (λ (x : Variable). x.1) e)

    kept : (v w : Variable) → Within v vs → Within w vs → same_variable (f v) (f w) ≡ same_variable v w
    kept v w a b = same_tests (same_variable (f v) (f w)) (same_variable v w)
        (λ e. subst (λ (x : Variable). same_variable v x ≡ true) (keeps v w a b (same_variable-sound (f v) (f w) e)) (same_variable-refl v))
        (λ e. subst (λ (x : Variable). same_variable (f v) (f x) ≡ true) (same_variable-sound v w e) (same_variable-refl (f v)))

    agree : (v : Variable) → Within v vs → after (numbering (made_occurrences (renamed_made h.to m))) h.to v.0 v.1 ≡ numbering vs v.0 v.1
    agree v a = ap (λ (ws : List Variable). places_in (distinct same_variable ws) (h.to v.0 v.1) v.1) (made-moved h.to m)
        ∙ (ap (λ (ws : List Variable). places_in ws (h.to v.0 v.1) v.1) (distinct-map f vs keeps)
        ∙ place-map f v (distinct same_variable vs) (λ w b. kept v w a (distinct-within w vs b)))
