-- What is one has one fingerprint, so it stands at the first place of its fingerprint or behind it.
use Rattle.std.proofs.Common.{◌≡◌, ◌∙◌, ◌==◌, ◌+◌, ◌||◌, ℕ, zero, suc, Bool, true, false, refl, sym, ap, arith, cond, List, [], ◌∷◌, ◌++◌, Option, Some, None, Result, Ok, Err, MatchResult, is_err, length, map, drop, if◌then◌else◌}
use Rattle.std.specs.Option.{option_or}
use Rattle.std.proofs.lemmas.Grind.{common_steps}
use Rattle.std.proofs.lemmas.Bool.Decides.{nat_tests}
use Rattle.am_term.specs.declared.id.SortId.{SortId}
use Rattle.am_term.specs.declared.term.Term.{Term}
use Rattle.am_term.specs.Same.{same_term}
use Rattle.am_term.proofs.Alike.{same_term-sound}
use Rattle.am_term.proofs.Tests.{fails}
use Rattle.am_clause.specs.Distinct.{among}
use Rattle.am_plan.specs.Calls.{PlannedCall, same_call}
use Rattle.am_plan.specs.Names.{Named, name_of_term, output_for}
use Rattle.am_plan.specs.Fingerprints.{fingerprint, call_fingerprint, place_from}
use Rattle.am_plan.proofs.Asking.{same_call-sound}

number-same : (m n : ℕ) → m ≡ n → (m == n) ≡ true
number-same m n e = grind (arith, nat_tests)

abbrev no_name : Option (List ℕ)
no_name = None

never : (b : Bool) → b ≡ true → b ≡ false → ⊥
never true e f = cc
never false e f = cc

-- what holds of a success
pub on_ok : {A E P : Type 0} (failed : E → Type 0) (r : Result A E) → is_err r ≡ false → MatchResult r (λ _. P) failed → P
on_ok failed (Ok a) e h = h
on_ok failed (Err x) e h = absurd (never true refl e)

-- ---- one more
pub place-push : (p k : ℕ) (ps : List ℕ) (q : ℕ) → place_from p k (ps ++ q ∷ []) ≡ option_or (place_from p k ps) (if p == q then Some (k + length ps) else None)
place-push p k [] q = rw (let z : k + 0 ≡ k = omega arith in z) refl
place-push p k (r ∷ ps) q = by_test (p == r) (place-push p (k + 1) ps q ∙ ap (λ j. option_or (place_from p (k + 1) ps) (if p == q then Some j else None)) (let z : k + 1 + length ps ≡ k + suc (length ps) = omega arith in z))
  where
    by_test : (b : Bool) → place_from p (k + 1) (ps ++ q ∷ []) ≡ option_or (place_from p (k + 1) ps) (if p == q then Some (k + suc (length ps)) else None) → cond b (Some k) (place_from p (k + 1) (ps ++ q ∷ [])) ≡ option_or (cond b (Some k) (place_from p (k + 1) ps)) (if p == q then Some (k + suc (length ps)) else None)
    by_test true h = refl
    by_test false h = h

-- ---- what hangs on the members of one fingerprint alone, at any place
module _ {X B : Type 0} (fingerprint_of : X → ℕ) (p : ℕ) (f : ℕ → List X → B) (apart : (i : ℕ) (x : X) (xs : List X) → (p == fingerprint_of x) ≡ false → f i (x ∷ xs) ≡ f (suc i) xs) where
  -- is what it is of nothing, where no member has it
  pub absent : (k i : ℕ) (xs : List X) → place_from p k (map fingerprint_of xs) ≡ None → f i xs ≡ f (i + length xs) []
  absent k i [] h = ap (λ j. f j []) (let z : i ≡ i + 0 = omega arith in z)
  absent k i (x ∷ xs) h = by_test (absent (k + 1) (suc i) xs) (p == fingerprint_of x) refl h
    where
      by_test : (place_from p (k + 1) (map fingerprint_of xs) ≡ None → f (suc i) xs ≡ f (suc i + length xs) []) → (b : Bool) → (p == fingerprint_of x) ≡ b → cond b (Some k) (place_from p (k + 1) (map fingerprint_of xs)) ≡ None → f i (x ∷ xs) ≡ f (i + suc (length xs)) []
      by_test later true is h = absurd cc
      by_test later false is h = apart i x xs is ∙ later h ∙ ap (λ j. f j []) (let z : suc i + length xs ≡ i + suc (length xs) = omega arith in z)

  from-place : (k i : ℕ) (xs : List X) (at : ℕ) → place_from p k (map fingerprint_of xs) ≡ Some at → (j : ℕ) × (at ≡ k + j) × (f (i + j) (drop j xs) ≡ f i xs)
  from-place k i [] at h = absurd cc
  from-place k i (x ∷ xs) at h = by_test (from-place (k + 1) (suc i) xs at) (p == fingerprint_of x) refl h
    where
      by_test : (place_from p (k + 1) (map fingerprint_of xs) ≡ Some at → (j : ℕ) × (at ≡ k + 1 + j) × (f (suc i + j) (drop j xs) ≡ f (suc i) xs)) → (b : Bool) → (p == fingerprint_of x) ≡ b → cond b (Some k) (place_from p (k + 1) (map fingerprint_of xs)) ≡ Some at → (j : ℕ) × (at ≡ k + j) × (f (i + j) (drop j (x ∷ xs)) ≡ f i (x ∷ xs))
      by_test later true is h = let s : k ≡ at = cc in (0, omega arith, ap (λ j. f j (x ∷ xs)) (let z : i + 0 ≡ i = omega arith in z))
      by_test later false is h = let r = later h in (suc r.0, omega arith, ap (λ j. f j (drop r.0 xs)) (let z : i + suc r.0 ≡ suc i + r.0 = omega arith in z) ∙ r.2 ∙ sym (apart i x xs is))

  -- hangs on those from the first place on
  pub behind : (xs : List X) (at : ℕ) → place_from p 0 (map fingerprint_of xs) ≡ Some at → f at (drop at xs) ≡ f 0 xs
  behind xs at h = let r = from-place 0 0 xs at h in ap (λ j. f j (drop j xs)) (let s : at ≡ r.0 = omega arith in s) ∙ ap (λ j. f j (drop r.0 xs)) (let z : r.0 ≡ 0 + r.0 = omega arith in z) ∙ r.2

-- ---- calls
calls-apart : (c e : PlannedCall) (cs : List PlannedCall) → (call_fingerprint c == call_fingerprint e) ≡ false → among same_call c (e ∷ cs) ≡ among same_call c cs
calls-apart c e cs h = ap (λ b. b || among same_call c cs) (fails (same_call c e) (λ s. never (call_fingerprint c == call_fingerprint e) (number-same (call_fingerprint c) (call_fingerprint e) (ap call_fingerprint (same_call-sound c e s))) h))

pub unseen : (c : PlannedCall) (cs : List PlannedCall) → place_from (call_fingerprint c) 0 (map call_fingerprint cs) ≡ None → among same_call c cs ≡ false
unseen c = absent call_fingerprint (call_fingerprint c) (λ i es. among same_call c es) (λ i e es. calls-apart c e es) 0 0

pub seen-behind : (c : PlannedCall) (cs : List PlannedCall) (i : ℕ) → place_from (call_fingerprint c) 0 (map call_fingerprint cs) ≡ Some i → among same_call c (drop i cs) ≡ among same_call c cs
seen-behind c = behind call_fingerprint (call_fingerprint c) (λ i es. among same_call c es) (λ i e es. calls-apart c e es)

-- ---- names of terms
abbrev pub entry_fingerprint : Named → ℕ
entry_fingerprint e = fingerprint e.1

names-apart : (x : Term) (e : Named) (es : List Named) → (fingerprint x == entry_fingerprint e) ≡ false → name_of_term (e ∷ es) x ≡ name_of_term es x
names-apart x e es h = ap (λ b. if b then e.0 else name_of_term es x) (fails (same_term e.1 x) (λ s. never (fingerprint x == fingerprint e.1) (number-same (fingerprint x) (fingerprint e.1) (ap fingerprint (sym (same_term-sound e.1 x s)))) h))

pub unnamed : (x : Term) (es : List Named) → place_from (fingerprint x) 0 (map entry_fingerprint es) ≡ None → name_of_term es x ≡ []
unnamed x = absent entry_fingerprint (fingerprint x) (λ i es. name_of_term es x) (λ i e es. names-apart x e es) 0 0

pub named-behind : (x : Term) (es : List Named) (i : ℕ) → place_from (fingerprint x) 0 (map entry_fingerprint es) ≡ Some i → name_of_term (drop i es) x ≡ name_of_term es x
named-behind x = behind entry_fingerprint (fingerprint x) (λ i es. name_of_term es x) (λ i e es. names-apart x e es)

-- ---- outputs for terms
abbrev Outputs : Type 0
Outputs = List (List ℕ × SortId)

no-answer : (x : Term) (os : Outputs) → output_for x os [] ≡ no_name
no-answer x [] = refl
no-answer x (o ∷ os) = refl

one-further : (i : ℕ) (os : Outputs) → drop 1 (drop i os) ≡ drop (suc i) os
one-further zero os = refl
one-further (suc i) [] = refl
one-further (suc i) (o ∷ os) = one-further i os

answers-apart : (x a : Term) (os : Outputs) (as_ : List Term) → (fingerprint x == fingerprint a) ≡ false → output_for x os (a ∷ as_) ≡ output_for x (drop 1 os) as_
answers-apart x a [] as_ h = refl
answers-apart x a (o ∷ os) as_ h = ap (λ b. if b then Some o.0 else output_for x os as_) (fails (same_term x a) (λ s. never (fingerprint x == fingerprint a) (number-same (fingerprint x) (fingerprint a) (ap fingerprint (same_term-sound x a s))) h))

further-apart : (x : Term) (os : Outputs) (i : ℕ) (a : Term) (as_ : List Term) → (fingerprint x == fingerprint a) ≡ false → output_for x (drop i os) (a ∷ as_) ≡ output_for x (drop (suc i) os) as_
further-apart x os i a as_ h = answers-apart x a (drop i os) as_ h ∙ ap (λ ps. output_for x ps as_) (one-further i os)

pub unanswered : (x : Term) (os : Outputs) (as_ : List Term) → place_from (fingerprint x) 0 (map fingerprint as_) ≡ None → output_for x os as_ ≡ no_name
unanswered x os as_ h = absent fingerprint (fingerprint x) (λ i ys. output_for x (drop i os) ys) (further-apart x os) 0 0 as_ h ∙ no-answer x (drop (0 + length as_) os)

pub answered-behind : (x : Term) (os : Outputs) (as_ : List Term) (i : ℕ) → place_from (fingerprint x) 0 (map fingerprint as_) ≡ Some i → output_for x (drop i os) (drop i as_) ≡ output_for x os as_
answered-behind x os = behind fingerprint (fingerprint x) (λ i ys. output_for x (drop i os) ys) (further-apart x os)

pub ruleset seeing = (common_steps, unseen, seen-behind)

pub ruleset naming = (common_steps, unnamed, named-behind)

pub ruleset answering = (common_steps, unanswered, answered-behind)
