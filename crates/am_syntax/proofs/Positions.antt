-- The number of a name in a list of names.
use Rattle.std.proofs.Common.{◌≡◌, ℕ, suc, ◌+◌, ◌<◌, Bool, true, false, List, [], ◌∷◌, ◌++◌, length, Option, Some, None, refl, sym, ap, ◌∙◌, arith, subst}
use Rattle.std.specs.Prelude.{option_map, if◌then◌else◌, is_some, slice_get, ◌||◌, Result, Ok, Err, IfOk}
use Rattle.std.specs.Str.{bytes_eq}
use Rattle.std.proofs.lemmas.List.Folds.{list_any-append}
use Rattle.std.proofs.lemmas.Slice.Eq.{bytes_eq-Decides}
use Rattle.am_term.specs.NameLists.{is_among}
use Rattle.am_syntax.specs.Positions.{position_of}

abbrev pub none_of : Option ℕ
none_of = None

abbrev pub at_place : ℕ → Option ℕ
at_place n = Some n

abbrev more : Option ℕ → Option ℕ
more r = option_map (λ k. k + 1) r

one_more : (r : Option ℕ) → more r ≡ none_of → r ≡ none_of
one_more None e = refl
one_more (Some k) e = absurd cc

-- ---- a name that isn't there is found at the end
hit_by : (b : Bool) (q x y : List ℕ) (xs : List (List ℕ)) → bytes_eq q y ≡ b → position_of q (y ∷ xs) ≡ none_of → (position_of q xs ≡ none_of → position_of q (xs ++ x ∷ []) ≡ at_place (length xs)) → position_of q (y ∷ xs ++ x ∷ []) ≡ at_place (length (y ∷ xs))
hit_by true q x y xs e h r = absurd (let k = rw e at h in cc)
hit_by false q x y xs e h r = let k = rw e at h in rw (e, r (one_more (position_of q xs) k)) (ap at_place (omega arith))

hit : (q x : List ℕ) (xs : List (List ℕ)) → bytes_eq q x ≡ true → position_of q xs ≡ none_of → position_of q (xs ++ x ∷ []) ≡ at_place (length xs)
hit q x [] e h = rw e refl
hit q x (y ∷ xs) e h = hit_by (bytes_eq q y) q x y xs refl h (λ k. hit q x xs e k)

miss : (q x : List ℕ) (xs : List (List ℕ)) → bytes_eq q x ≡ false → position_of q (xs ++ x ∷ []) ≡ position_of q xs
miss q x [] e = rw e refl
miss q x (y ∷ xs) e = rw (miss q x xs e) refl

pub same : (q x : List ℕ) → bytes_eq q x ≡ true → q ≡ x
same q x e = grind (arith, bytes_eq-Decides q x)

by_test : (b : Bool) (q x : List ℕ) (xs : List (List ℕ)) → bytes_eq q x ≡ b → position_of x xs ≡ none_of → position_of q (xs ++ x ∷ []) ≡ (if b then at_place (length xs) else position_of q xs)
by_test true q x xs e h = hit q x xs e (subst (λ (y : List ℕ). position_of y xs ≡ none_of) (sym (same q x e)) h)
by_test false q x xs e h = miss q x xs e

pub position_push : (q x : List ℕ) (xs : List (List ℕ)) → position_of x xs ≡ none_of → position_of q (xs ++ x ∷ []) ≡ (if bytes_eq q x then at_place (length xs) else position_of q xs)
position_push q x xs h = by_test (bytes_eq q x) q x xs refl h

-- ---- what is found is there
abbrev a_name : List ℕ → Option (List ℕ)
a_name w = Some w

-- the cases of a name that is found
module _ (P : ℕ → Type 0) (w x : List ℕ) (xs : List (List ℕ)) (here : bytes_eq w x ≡ true → P 0) (behind : (k : ℕ) → position_of w xs ≡ at_place k → P (suc k)) where
  found_behind : (r : Option ℕ) (k : ℕ) → position_of w xs ≡ r → more r ≡ at_place k → P k
  found_behind None k e h = absurd cc
  found_behind (Some j) k e h = subst P (let s : j + 1 ≡ k = cc in omega arith) (behind j e)

  found_by : (b : Bool) (k : ℕ) → bytes_eq w x ≡ b → (if b then at_place 0 else more (position_of w xs)) ≡ at_place k → P k
  found_by true k e h = subst P (cc) (here e)
  found_by false k e h = found_behind (position_of w xs) k refl h

  found_cases : (k : ℕ) → position_of w (x ∷ xs) ≡ at_place k → P k
  found_cases k h = found_by (bytes_eq w x) k refl h

pub position_there : (w : List ℕ) (xs : List (List ℕ)) (k : ℕ) → position_of w xs ≡ at_place k → slice_get xs k ≡ a_name w
position_there w [] k h = absurd cc
position_there w (x ∷ xs) k h = found_cases (λ (j : ℕ). slice_get (x ∷ xs) j ≡ a_name w) w x xs (λ e. ap a_name (sym (same w x e))) (λ j e. position_there w xs j e) k h

pub position_below : (w : List ℕ) (xs : List (List ℕ)) (k : ℕ) → position_of w xs ≡ at_place k → k < length xs
position_below w [] k h = absurd cc
position_below w (x ∷ xs) k h = found_cases (λ (j : ℕ). j < length (x ∷ xs)) w x xs (λ e. omega arith) (λ j e. let i = position_below w xs j e in omega arith) k h

-- ---- and stays there as names are added behind
kept_by : (b : Bool) (w x : List ℕ) (xs ys : List (List ℕ)) (r : Option ℕ) (k : ℕ) → position_of w xs ≡ r → (if b then at_place 0 else more r) ≡ at_place k → ((j : ℕ) → position_of w xs ≡ at_place j → position_of w (xs ++ ys) ≡ at_place j) → (if b then at_place 0 else more (position_of w (xs ++ ys))) ≡ at_place k
kept_by true w x xs ys r k e h kept = h
kept_by false w x xs ys None k e h kept = absurd cc
kept_by false w x xs ys (Some j) k e h kept = ap more (kept j e) ∙ h

pub position_kept : (w : List ℕ) (xs ys : List (List ℕ)) (k : ℕ) → position_of w xs ≡ at_place k → position_of w (xs ++ ys) ≡ at_place k
position_kept w [] ys k h = absurd cc
position_kept w (x ∷ xs) ys k h = kept_by (bytes_eq w x) w x xs ys (position_of w xs) k refl h (λ j e. position_kept w xs ys j e)

-- ---- a name that is there already changes no place
again_by : (b : Bool) (q x : List ℕ) (xs : List (List ℕ)) (k : ℕ) → bytes_eq q x ≡ b → position_of x xs ≡ at_place k → position_of q (xs ++ x ∷ []) ≡ position_of q xs
again_by true q x xs k e h =
    let there : position_of q xs ≡ at_place k = subst (λ (y : List ℕ). position_of y xs ≡ at_place k) (sym (same q x e)) h in
    position_kept q xs (x ∷ []) k there ∙ sym there
again_by false q x xs k e h = miss q x xs e

again_from : (r : Option ℕ) (q x : List ℕ) (xs : List (List ℕ)) → position_of x xs ≡ r → is_some r ≡ true → position_of q (xs ++ x ∷ []) ≡ position_of q xs
again_from None q x xs e h = absurd cc
again_from (Some k) q x xs e h = again_by (bytes_eq q x) q x xs k refl e

pub position_again : (q x : List ℕ) (xs : List (List ℕ)) → is_some (position_of x xs) ≡ true → position_of q (xs ++ x ∷ []) ≡ position_of q xs
position_again q x xs h = again_from (position_of x xs) q x xs refl h

-- ---- what is among the names is found
among_more : (b : Bool) (r : Option ℕ) → is_some (if b then at_place 0 else more r) ≡ (b || is_some r)
among_more true r = refl
among_more false None = refl
among_more false (Some k) = refl

pub position_among : (w : List ℕ) (xs : List (List ℕ)) → is_some (position_of w xs) ≡ is_among w xs
position_among w [] = refl
position_among w (x ∷ xs) = among_more (bytes_eq w x) (position_of w xs) ∙ ap (λ (b : Bool). bytes_eq w x || b) (position_among w xs)

-- a name that is found, and a name that is added, once more
by_name : (b : Bool) (q w : List ℕ) (xs : List (List ℕ)) → bytes_eq q w ≡ b → is_among w xs ≡ true → is_among q xs ≡ (b || is_among q xs)
by_name true q w xs e h = subst (λ (y : List ℕ). is_among y xs ≡ true) (sym (same q w e)) h
by_name false q w xs e h = refl

pub among_there : (q w : List ℕ) (xs : List (List ℕ)) → is_some (position_of w xs) ≡ true → is_among q xs ≡ (bytes_eq q w || is_among q xs)
among_there q w xs h = by_name (bytes_eq q w) q w xs refl (sym (position_among w xs) ∙ h)

turned : (b c : Bool) → (b || (c || false)) ≡ (c || b)
turned true true = refl
turned true false = refl
turned false true = refl
turned false false = refl

pub among_push : (q w : List ℕ) (xs : List (List ℕ)) → is_among q (xs ++ w ∷ []) ≡ (bytes_eq q w || is_among q xs)
among_push q w xs = list_any-append (bytes_eq q) xs (w ∷ []) ∙ turned (is_among q xs) (bytes_eq q w)

pub ok_also : {A E : Type 0} (P Q : A → Type 0) → ((a : A) → P a → Q a) → (r : Result A E) → IfOk r P → IfOk r Q
ok_also P Q f (Ok a) h = f a h
ok_also P Q f (Err e) h = tt

pub ruleset position_laws = (position_among)
