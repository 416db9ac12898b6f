-- A part of a term replaced by one of the same value.
use Rattle.std.proofs.Common.{◌≡◌, ◌∙◌, ℕ, zero, suc, refl, sym, ap, Some, List, [], ◌∷◌, set, slice_get}
use Rattle.am_term.specs.declared.term.Term.{Term}
use Rattle.am_term.specs.declared.term.Term.TheVariants.{Var, In}
use Rattle.am_term.specs.Induct.{term_cases}
use Rattle.am_term.specs.Place.{member, with_member, args_of, with_arg, place, replaced, args_of-Var, args_of-In, args_of-App, with_arg-App}
use Rattle.am_term.proofs.Parts.{inside, place-step}
use Rattle.am_world.specs.Interpretation.{Interpretation}
use Rattle.am_world.specs.Value.{Assignment, value, values, value-App}

module _ (w : Interpretation) (ins : List ℕ) (a : Assignment) where
  -- a member of the same value
  values-set : (ts : List Term) (i : ℕ) (old now : Term) → slice_get ts i ≡ Some old → value w ins a now ≡ value w ins a old → values w ins a (set ts i now) ≡ values w ins a ts
  values-set [] i old now at e = absurd cc
  values-set (t ∷ ts) zero old now at e = let same : t ≡ old = cc in ap (λ n. n ∷ values w ins a ts) (e ∙ ap (value w ins a) (sym same))
  values-set (t ∷ ts) (suc i) old now at e = ap (λ ns. value w ins a t ∷ ns) (values-set ts i old now at e)

  values-with : (ts : List Term) (k : ℕ) (old now : Term) → member ts k ≡ Some old → value w ins a now ≡ value w ins a old → values w ins a (with_member ts k now) ≡ values w ins a ts
  values-with ts zero old now at e = refl
  values-with ts (suc i) old now at e = values-set ts i old now at e

  -- an argument of the same value
  abbrev Keeps : Term → Type 0
  Keeps t = (k : ℕ) (old now : Term) → member (args_of t) k ≡ Some old → value w ins a now ≡ value w ins a old → value w ins a (with_arg t k now) ≡ value w ins a t

  none_at : (xs : List Term) (k : ℕ) (old : Term) → xs ≡ [] → member xs k ≡ Some old → ⊥
  none_at xs zero old e at = cc
  none_at [] (suc i) old e at = cc
  none_at (x ∷ xs) (suc i) old e at = cc

  value-with_arg : (t : Term) → Keeps t
  value-with_arg = term_cases Keeps
      (λ n s k old now at e. absurd (none_at (args_of (Var n s)) k old (args_of-Var n s) at))
      (λ j k old now at e. absurd (none_at (args_of (In j)) k old (args_of-In j) at))
      (λ f args k old now at e.
      ap (value w ins a) (with_arg-App f args k now) ∙ value-App w ins a f (with_member args k now)
      ∙ ap (w.fun f) (values-with args k old now (ap (λ (ts : List Term). member ts k) (sym (args_of-App f args)) ∙ at) e)
      ∙ sym (value-App w ins a f args))

  some_is : (t u : Term) → Some t ≡ Some u → t ≡ u
  some_is t u e = cc

  pub value-replaced : (new part : Term) → value w ins a new ≡ value w ins a part → (path : List ℕ) (t u : Term) → place path t ≡ Some part → replaced new path t ≡ Some u → value w ins a u ≡ value w ins a t
  value-replaced new part h [] t u is e = ap (value w ins a) (sym (some_is new u e)) ∙ h ∙ ap (value w ins a) (sym (some_is t part is))
  value-replaced new part h (k ∷ path) t u is e =
      let r = inside new k path t u e in
      let below = value-replaced new part h path r.old r.now (sym (place-step k path t r.old r.was) ∙ is) r.inner in
      ap (value w ins a) (sym r.whole) ∙ value-with_arg t k r.old r.now r.was below
