-- The heads of terms are ordered.
use Rattle.std.specs.Prelude.{nat_lt, if◌then◌else◌}
use Rattle.std.specs.Bool.{beq}
use Rattle.std.proofs.Common.{◌≡◌, ◌==◌, ℕ, Bool, true, false, refl, ap, arith}
use Rattle.std.proofs.lemmas.Bool.Decides.{nat_tests}
use Rattle.am_term.specs.declared.id.SymId.{SymId}
use Rattle.am_term.specs.declared.signature.Signature.{Signature}
use Rattle.am_term.specs.declared.term.Term.{Term}
use Rattle.am_term.specs.declared.term.Term.TheOpen.{Term-F}
use Rattle.am_order.specs.Precedence.{computed, above, head_above, same_head}

ranks-irreflexive : (a : Bool) (i : ℕ) → (if beq a a then nat_lt i i else a) ≡ false
ranks-irreflexive true i = grind (arith, nat_tests)
ranks-irreflexive false i = grind (arith, nat_tests)

ranks-trans : (a b c : Bool) (i j k : ℕ) → (if beq a b then nat_lt j i else b) ≡ true → (if beq b c then nat_lt k j else c) ≡ true → (if beq a c then nat_lt k i else c) ≡ true
ranks-trans true true true i j k e d = grind (arith, nat_tests)
ranks-trans true true false i j k e d = absurd cc
ranks-trans true false true i j k e d = absurd cc
ranks-trans true false false i j k e d = absurd cc
ranks-trans false true true i j k e d = refl
ranks-trans false true false i j k e d = absurd cc
ranks-trans false false true i j k e d = refl
ranks-trans false false false i j k e d = grind (arith, nat_tests)

number-is : (n m : ℕ) → (n == m) ≡ true → n ≡ m
number-is n m e = grind (arith, nat_tests)

number-same : (n : ℕ) → (n == n) ≡ true
number-same n = grind (arith, nat_tests)

symbol-is : (f g : SymId) → (f.0 == g.0) ≡ true → f ≡ g
symbol-is f g e = ap (λ (i : ℕ). let r : SymId = record { 0 = i } in r) (number-is f.0 g.0 e)

module _ (sig : Signature) where
  pub head_above-irreflexive : (x : Term-F Term) → head_above sig x x ≡ false
  head_above-irreflexive (Term-F.Var n s) = refl
  head_above-irreflexive (Term-F.In k) = grind (arith, nat_tests)
  head_above-irreflexive (Term-F.App f ts) = ranks-irreflexive (computed sig f) f.0

  pub head_above-trans : (x y z : Term-F Term) → head_above sig x y ≡ true → head_above sig y z ≡ true → head_above sig x z ≡ true
  head_above-trans (Term-F.Var n s) y z e d = absurd cc
  head_above-trans (Term-F.In k) (Term-F.Var n s) z e d = absurd cc
  head_above-trans (Term-F.In k) (Term-F.In j) (Term-F.Var n s) e d = absurd cc
  head_above-trans (Term-F.In k) (Term-F.In j) (Term-F.In i) e d = grind (arith, nat_tests)
  head_above-trans (Term-F.In k) (Term-F.In j) (Term-F.App h vs) e d = absurd cc
  head_above-trans (Term-F.In k) (Term-F.App g us) z e d = absurd cc
  head_above-trans (Term-F.App f ts) (Term-F.Var n s) z e d = absurd cc
  head_above-trans (Term-F.App f ts) (Term-F.In j) (Term-F.Var n s) e d = absurd cc
  head_above-trans (Term-F.App f ts) (Term-F.In j) (Term-F.In i) e d = refl
  head_above-trans (Term-F.App f ts) (Term-F.In j) (Term-F.App h vs) e d = absurd cc
  head_above-trans (Term-F.App f ts) (Term-F.App g us) (Term-F.Var n s) e d = absurd cc
  head_above-trans (Term-F.App f ts) (Term-F.App g us) (Term-F.In i) e d = refl
  head_above-trans (Term-F.App f ts) (Term-F.App g us) (Term-F.App h vs) e d = ranks-trans (computed sig f) (computed sig g) (computed sig h) f.0 g.0 h.0 e d

  -- one head stands above and below the same heads

  pub same_head-above : (x y z : Term-F Term) → same_head x y ≡ true → head_above sig x z ≡ head_above sig y z
  same_head-above (Term-F.Var n s) y z e = absurd cc
  same_head-above (Term-F.In k) (Term-F.Var n s) z e = absurd cc
  same_head-above (Term-F.In k) (Term-F.In j) (Term-F.Var n s) e = refl
  same_head-above (Term-F.In k) (Term-F.In j) (Term-F.In i) e = ap (λ m. nat_lt i m) (number-is k j e)
  same_head-above (Term-F.In k) (Term-F.In j) (Term-F.App h vs) e = refl
  same_head-above (Term-F.In k) (Term-F.App g us) z e = absurd cc
  same_head-above (Term-F.App f ts) (Term-F.Var n s) z e = absurd cc
  same_head-above (Term-F.App f ts) (Term-F.In j) z e = absurd cc
  same_head-above (Term-F.App f ts) (Term-F.App g us) (Term-F.Var n s) e = refl
  same_head-above (Term-F.App f ts) (Term-F.App g us) (Term-F.In i) e = refl
  same_head-above (Term-F.App f ts) (Term-F.App g us) (Term-F.App h vs) e = ap (λ m. above sig m h) (symbol-is f g e)

  pub same_head-below : (x y z : Term-F Term) → same_head x y ≡ true → head_above sig z x ≡ head_above sig z y
  same_head-below x y (Term-F.Var n s) e = refl
  same_head-below (Term-F.Var n s) y (Term-F.In i) e = absurd cc
  same_head-below (Term-F.In k) (Term-F.Var n s) (Term-F.In i) e = absurd cc
  same_head-below (Term-F.In k) (Term-F.In j) (Term-F.In i) e = ap (λ m. nat_lt m i) (number-is k j e)
  same_head-below (Term-F.In k) (Term-F.App g us) (Term-F.In i) e = absurd cc
  same_head-below (Term-F.App f ts) (Term-F.Var n s) (Term-F.In i) e = absurd cc
  same_head-below (Term-F.App f ts) (Term-F.In j) (Term-F.In i) e = absurd cc
  same_head-below (Term-F.App f ts) (Term-F.App g us) (Term-F.In i) e = refl
  same_head-below (Term-F.Var n s) y (Term-F.App h vs) e = absurd cc
  same_head-below (Term-F.In k) (Term-F.Var n s) (Term-F.App h vs) e = absurd cc
  same_head-below (Term-F.In k) (Term-F.In j) (Term-F.App h vs) e = refl
  same_head-below (Term-F.In k) (Term-F.App g us) (Term-F.App h vs) e = absurd cc
  same_head-below (Term-F.App f ts) (Term-F.Var n s) (Term-F.App h vs) e = absurd cc
  same_head-below (Term-F.App f ts) (Term-F.In j) (Term-F.App h vs) e = absurd cc
  same_head-below (Term-F.App f ts) (Term-F.App g us) (Term-F.App h vs) e = ap (λ m. above sig h m) (symbol-is f g e)

pub same_head-trans : (x y z : Term-F Term) → same_head x y ≡ true → same_head y z ≡ true → same_head x z ≡ true
same_head-trans (Term-F.Var n s) y z e d = absurd cc
same_head-trans (Term-F.In k) (Term-F.Var n s) z e d = absurd cc
same_head-trans (Term-F.In k) (Term-F.In j) (Term-F.Var n s) e d = absurd cc
same_head-trans (Term-F.In k) (Term-F.In j) (Term-F.In i) e d = grind (arith, nat_tests)
same_head-trans (Term-F.In k) (Term-F.In j) (Term-F.App h vs) e d = absurd cc
same_head-trans (Term-F.In k) (Term-F.App g us) z e d = absurd cc
same_head-trans (Term-F.App f ts) (Term-F.Var n s) z e d = absurd cc
same_head-trans (Term-F.App f ts) (Term-F.In j) z e d = absurd cc
same_head-trans (Term-F.App f ts) (Term-F.App g us) (Term-F.Var n s) e d = absurd cc
same_head-trans (Term-F.App f ts) (Term-F.App g us) (Term-F.In i) e d = absurd cc
same_head-trans (Term-F.App f ts) (Term-F.App g us) (Term-F.App h vs) e d = grind (arith, nat_tests)
