-- The order at each kind of term.
use Rattle.std.specs.Prelude.{nat_lt}
use Rattle.std.proofs.Common.{◌≡◌, ◌==◌, ◌&&◌, ◌||◌, ◌∙◌, ℕ, Bool, true, false, List, refl}
use Rattle.am_term.specs.declared.id.SortId.{SortId}
use Rattle.am_term.specs.declared.id.SymId.{SymId}
use Rattle.am_term.specs.declared.signature.Signature.{Signature}
use Rattle.am_term.specs.declared.term.Term.{Term}
use Rattle.am_term.specs.declared.term.Term.TheVariants.{Var, In, App, outs-Var, outs-In, outs-App}
use Rattle.am_term.specs.Place.{args_of-Var, args_of-In, args_of-App}
use Rattle.am_term.proofs.Tests.{or_false}
use Rattle.am_order.specs.Precedence.{above}
use Rattle.am_order.proofs.Trans.{greater-ways}
use Rattle.am_order.specs.Order.{greater}
use Rattle.am_order.specs.Cases.{some_reaches, exceeds_all, first_greater}

module _ (sig : Signature) where
  pub greater-Var : (n : ℕ) (s : SortId) (t : Term) → greater sig (Var n s) t ≡ false
  greater-Var n s t = greater-ways sig (Var n s) t ∙ rw (outs-Var, args_of-Var) refl

  pub greater-In-Var : (k n : ℕ) (s : SortId) → greater sig (In k) (Var n s) ≡ false
  greater-In-Var k n s = greater-ways sig (In k) (Var n s) ∙ rw (outs-In, outs-Var, args_of-In) refl

  pub greater-In-In : (k j : ℕ) → greater sig (In k) (In j) ≡ nat_lt j k
  greater-In-In k j = greater-ways sig (In k) (In j) ∙ rw (outs-In, outs-In, args_of-In, args_of-In) (any_inputs (nat_lt j k) (k == j))
    where
      any_inputs : (a b : Bool) → ((a && true) || (b && true && false)) ≡ a
      any_inputs true b = refl
      any_inputs false true = refl
      any_inputs false false = refl

  pub greater-In-App : (k : ℕ) (g : SymId) (us : List Term) → greater sig (In k) (App g us) ≡ false
  greater-In-App k g us = greater-ways sig (In k) (App g us) ∙ rw (outs-In, outs-App, args_of-In) refl

  pub greater-App-Var : (f : SymId) (as_ : List Term) (n : ℕ) (s : SortId) → greater sig (App f as_) (Var n s) ≡ some_reaches sig as_ (Var n s)
  greater-App-Var f as_ n s = greater-ways sig (App f as_) (Var n s) ∙ rw (outs-App, outs-Var, args_of-App) (or_false (some_reaches sig as_ (Var n s) || false) ∙ or_false (some_reaches sig as_ (Var n s)))

  pub greater-App-In : (f : SymId) (as_ : List Term) (k : ℕ) → greater sig (App f as_) (In k) ≡ true
  greater-App-In f as_ k = greater-ways sig (App f as_) (In k) ∙ rw (outs-App, outs-In, args_of-App, args_of-In) (any_input (some_reaches sig as_ (In k)))
    where
      any_input : (a : Bool) → (a || true || false) ≡ true
      any_input true = refl
      any_input false = refl

  pub greater-App-App : (f : SymId) (as_ : List Term) (g : SymId) (us : List Term) →
      greater sig (App f as_) (App g us) ≡ (some_reaches sig as_ (App g us) || (exceeds_all sig (App f as_) us && (above sig f g || (f.0 == g.0 && first_greater sig as_ us))))
  greater-App-App f as_ g us = greater-ways sig (App f as_) (App g us) ∙ rw (outs-App, outs-App, args_of-App, args_of-App) (regrouped (some_reaches sig as_ (App g us)) (above sig f g) (f.0 == g.0) (exceeds_all sig (App f as_) us) (first_greater sig as_ us))
    where
      regrouped : (a b c d e : Bool) → (a || (b && d) || (c && d && e)) ≡ (a || (d && (b || (c && e))))
      regrouped true b c d e = refl
      regrouped false true true true e = refl
      regrouped false true true false e = refl
      regrouped false true false true e = refl
      regrouped false true false false e = refl
      regrouped false false true true e = refl
      regrouped false false true false e = refl
      regrouped false false false true e = refl
      regrouped false false false false e = refl

pub ruleset shapes = (greater-Var, greater-In-Var, greater-In-In, greater-In-App, greater-App-Var, greater-App-In, greater-App-App)
