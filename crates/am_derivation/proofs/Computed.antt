-- Terms that a program can compute stay such under bindings by such terms, and closing binds by such terms alone.
use Rattle.std.proofs.Common.{◌≡◌, ◌∙◌, ◌||◌, ◌&&◌, ◌==◌, ℕ, zero, suc, Bool, true, false, not, refl, sym, ap, subst}
use Rattle.std.proofs.Common.{List, [], ◌∷◌, map, length, slice_get, slice_index_or, Option, Some, None, option_map}
use Rattle.std.specs.List.{list_any}
use Rattle.std.specs.Option.{option_or}
use Rattle.am_term.specs.declared.id.SortId.{SortId}
use Rattle.am_term.specs.declared.id.SymId.{SymId}
use Rattle.am_term.specs.declared.signature.Signature.{Signature}
use Rattle.am_term.specs.declared.symbol.Symbol.{Symbol}
use Rattle.am_term.specs.declared.term.Term.{Term}
use Rattle.am_term.specs.declared.term.Term.TheVariants.{Var, In, App}
use Rattle.am_term.specs.Induct.{term_induct}
use Rattle.am_term.specs.Instance.{instance, instances, instance-Var, instance-In, instance-App}
use Rattle.am_term.specs.Sorting.{fits_place}
use Rattle.am_term.specs.Symbols.{is_computable}
use Rattle.am_term.proofs.Tests.{and_left}
use Rattle.am_clause.specs.Bound.{instance_answer}
use Rattle.am_clause.specs.Final.{is_computable_symbol}
use Rattle.am_clause.specs.Variables.{Variable}
use Rattle.am_rules.specs.Closing.{is_constant_for, constant_for, constant_term, input_for, closing_term}
use Rattle.am_rules.proofs.Closings.{position-there}
use Rattle.am_simplify.specs.Reasons.{has_abstract, has_abstract-In, has_abstract-App, is_uncomputed}
use Rattle.am_derivation.proofs.Nestings.{or-false}

neither : (a b : Bool) → a ≡ false → b ≡ false → (a || b) ≡ false
neither true b e f = absurd cc
neither false b e f = f

module _ (sig : Signature) where
  -- a program can compute the term, but for its variables
  abbrev pub IsComputed : Term → Type 0
  IsComputed t = has_abstract sig t ≡ false

  abbrev pub AreComputed : List Term → Type 0
  AreComputed ts = list_any (has_abstract sig) ts ≡ false

  -- ---- bindings

  module _ (xs : List Term) (computed : AreComputed xs) where
    chosen-computed : (ys : List Term) (n : ℕ) (x : Term) → AreComputed ys → IsComputed x → IsComputed (slice_index_or ys n x)
    chosen-computed [] n x c e = e
    chosen-computed (y ∷ ys) zero x c e = (or-false (has_abstract sig y) (list_any (has_abstract sig) ys) c).0
    chosen-computed (y ∷ ys) (suc n) x c e =
        chosen-computed ys n x (or-false (has_abstract sig y) (list_any (has_abstract sig) ys) c).1 e

    abbrev Stays : Term → Type 0
    Stays t = IsComputed t → IsComputed (instance xs t)

    abbrev Stay : List Term → Type 0
    Stay ts = AreComputed ts → AreComputed (instances xs ts)

    stays-Var : (n : ℕ) (s : SortId) → Stays (Var n s)
    stays-Var n s e = subst IsComputed (sym (instance-Var xs n s)) (chosen-computed xs n (Var n s) computed e)

    stays-In : (k : ℕ) → Stays (In k)
    stays-In k e = subst IsComputed (sym (instance-In xs k)) e

    stays-App : (f : SymId) (args : List Term) → Stay args → Stays (App f args)
    stays-App f args h e =
        let b : Bool = not (is_computable_symbol (slice_get sig.symbols f.0)) in
        let parts = or-false b (list_any (has_abstract sig) args) (sym (has_abstract-App sig f args) ∙ e) in
        subst IsComputed (sym (instance-App xs f args))
        (has_abstract-App sig f (instances xs args)
        ∙ neither b (list_any (has_abstract sig) (instances xs args)) parts.0 (h parts.1))

    stay-more : (t : Term) (ts : List Term) → Stays t → Stay ts → Stay (t ∷ ts)
    stay-more t ts h k e =
        let parts = or-false (has_abstract sig t) (list_any (has_abstract sig) ts) e in
        neither (has_abstract sig (instance xs t)) (list_any (has_abstract sig) (instances xs ts)) (h parts.0) (k parts.1)

    instance-computed : (t : Term) → Stays t
    instance-computed = term_induct Stays Stay stays-Var stays-In stays-App (λ e. e) stay-more

    instances-computed : (ts : List Term) → Stay ts
    instances-computed [] e = e
    instances-computed (t ∷ ts) e = stay-more t ts (instance-computed t) (instances-computed ts) e

    pub answer-computed : (o : Option (List Term)) → is_uncomputed sig o ≡ false → is_uncomputed sig (instance_answer xs o) ≡ false
    answer-computed None e = e
    answer-computed (Some ts) e = instances-computed ts e

  -- ---- closing

  computable-there : (o : Option Symbol) (y : Symbol) → o ≡ Some y → is_computable y.kind ≡ true
      → not (is_computable_symbol o) ≡ false
  computable-there o y e h = ap (λ (p : Option Symbol). not (is_computable_symbol p)) e ∙ ap not h

  module _ (ins : List SortId) (s : SortId) where
    constant-computed : (n : ℕ) → constant_for sig s ≡ Some n → IsComputed (constant_term n)
    constant-computed n e =
        let h = position-there (is_constant_for sig s) sig.symbols n e in
        has_abstract-App sig (record { 0 = n }) []
        ∙ neither (not (is_computable_symbol (slice_get sig.symbols n))) false
        (computable-there (slice_get sig.symbols n) h.0 h.1
        (and_left (is_computable h.0.kind) (length h.0.args == 0 && fits_place sig h.0.result s) h.2)) refl

    pub closing-computed : (t : Term) → closing_term sig ins s ≡ Some t → IsComputed t
    closing-computed t e = by (input_for sig ins s) refl (constant_for sig s) refl e
      where
        by : (o : Option ℕ) → input_for sig ins s ≡ o → (u : Option ℕ) → constant_for sig s ≡ u
            → option_or (option_map (λ k. In k) o) (option_map constant_term u) ≡ Some t → IsComputed t
        by (Some k) a u b e = let is : In k ≡ t = cc in subst IsComputed is (has_abstract-In sig k)
        by None a (Some n) b e = let is : constant_term n ≡ t = cc in subst IsComputed is (constant-computed n b)
        by None a None b e = absurd cc

  pub closings-computed : (ins : List SortId) (vs : List Variable) (ts : List Term)
      → map (λ (v : Variable). closing_term sig ins v.1) vs ≡ map (λ (t : Term). Some t) ts → AreComputed ts
  closings-computed ins [] [] e = refl
  closings-computed ins [] (t ∷ ts) e = absurd cc
  closings-computed ins (v ∷ vs) [] e = absurd cc
  closings-computed ins (v ∷ vs) (t ∷ ts) e =
      let one : closing_term sig ins v.1 ≡ Some t = cc in
      let more : map (λ (w : Variable). closing_term sig ins w.1) vs ≡ map (λ (x : Term). Some x) ts = cc in
      neither (has_abstract sig t) (list_any (has_abstract sig) ts) (closing-computed ins v.1 t one)
      (closings-computed ins vs ts more)
