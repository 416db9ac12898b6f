-- Variables of terms and of lists of terms.
use Rattle.std.proofs.Common.{◌≡◌, ◌∙◌, ◌⊎◌, inl, inr, ◌++◌, ℕ, true, false, refl, sym, ap, subst, true≢false, List, [], ◌∷◌, map}
use Rattle.std.proofs.lemmas.List.Folds.{list_any-append}
use Rattle.am_term.specs.declared.id.SortId.{SortId}
use Rattle.am_term.specs.declared.id.SymId.{SymId}
use Rattle.am_term.specs.declared.term.Term.{Term}
use Rattle.am_term.specs.declared.term.Term.TheVariants.{Var, In, App}
use Rattle.am_term.specs.Induct.{term_induct}
use Rattle.am_term.proofs.Tests.{or_cases, or_left}
use Rattle.am_clause.specs.Distinct.{among}
use Rattle.am_clause.specs.Variables.{Variable, same_variable, occurrences, occurrences_all, occurrences-Var, occurrences-In, occurrences-App, occurrences-none, occurrences-more}
use Rattle.am_clause.proofs.Places.{same_variable-refl, same_variable-sound}
use Rattle.am_clause.proofs.Renames.{Within, within-left, within-right}
use Rattle.am_unify.specs.Substitution.{Substitution, apply, applies, apply-Var, apply-App}
use Rattle.am_unify.proofs.Solved.{app-alike}
use Rattle.am_unify.proofs.Renamed.{heads, tails}
use Rattle.am_rules.specs.Row.{in_lists}

pub never : {A : Type 0} → false ≡ true → A
never e = absurd (true≢false (sym e))

pub within-cases : (v : Variable) (vs ws : List Variable) → Within v (vs ++ ws) → Within v vs ⊎ Within v ws
within-cases v vs ws h = or_cases (among same_variable v vs) (among same_variable v ws) (sym (list_any-append (same_variable v) vs ws) ∙ h)

pub within-var : (n : ℕ) (s : SortId) → Within (n, s) (occurrences (Var n s))
within-var n s = let v : Variable = (n, s) in rw occurrences-Var (or_left (same_variable v v) false (same_variable-refl v))

pub only-one : (v w : Variable) → Within v (w ∷ []) → v ≡ w
only-one v w m = elim (or_cases (same_variable v w) false m) [ inl a ↦ same_variable-sound v w a | inr b ↦ never b ]

-- A claim on the variables of a term is one on each variable.
abbrev pub Each : (Variable → Type 0) → List Variable → Type 0
Each P vs = (v : Variable) → Within v vs → P v

module _ (P : Variable → Type 0) where
  pub each-left : (vs ws : List Variable) → Each P (vs ++ ws) → Each P vs
  each-left vs ws h v m = h v (within-left v vs ws m)

  pub each-right : (vs ws : List Variable) → Each P (vs ++ ws) → Each P ws
  each-right vs ws h v m = h v (within-right v vs ws m)

  pub each-both : (vs ws : List Variable) → Each P vs → Each P ws → Each P (vs ++ ws)
  each-both vs ws h k v m = elim (within-cases v vs ws m) [ inl a ↦ h v a | inr b ↦ k v b ]

  -- what holds of a term's variables, by its kinds
  pub each-Var : (n : ℕ) (s : SortId) → Each P (occurrences (Var n s)) → P (n, s)
  each-Var n s h = h (n, s) (within-var n s)

  pub each-App : (f : SymId) (ts : List Term) → Each P (occurrences (App f ts)) → Each P (occurrences_all ts)
  each-App f ts h = rw occurrences-App at h

  pub each-head : (t : Term) (ts : List Term) → Each P (occurrences_all (t ∷ ts)) → Each P (occurrences t)
  each-head t ts h = let g : Each P (occurrences t ++ occurrences_all ts) = rw occurrences-more at h in each-left (occurrences t) (occurrences_all ts) g

  pub each-tail : (t : Term) (ts : List Term) → Each P (occurrences_all (t ∷ ts)) → Each P (occurrences_all ts)
  each-tail t ts h = let g : Each P (occurrences t ++ occurrences_all ts) = rw occurrences-more at h in each-right (occurrences t) (occurrences_all ts) g

  pub each-more : (t : Term) (ts : List Term) → Each P (occurrences t) → Each P (occurrences_all ts) → Each P (occurrences_all (t ∷ ts))
  each-more t ts h k = rw occurrences-more (each-both (occurrences t) (occurrences_all ts) h k)

pub one-var : (P : Variable → Type 0) (n : ℕ) (s : SortId) → P (n, s) → Each P (occurrences (Var n s))
one-var P n s h v m = let o : Within v ((n, s) ∷ []) = rw occurrences-Var at m in subst P (sym (only-one v (n, s) o)) h

-- Two functions that are given by what they do at variables agree where they agree there.
module _ (f g : Term → Term) (P : Variable → Type 0)
    (var : (n : ℕ) (s : SortId) → P (n, s) → f (Var n s) ≡ g (Var n s))
    (inp : (k : ℕ) → f (In k) ≡ g (In k))
    (left : (h : SymId) (ts : List Term) → f (App h ts) ≡ App h (map f ts))
    (right : (h : SymId) (ts : List Term) → g (App h ts) ≡ App h (map g ts)) where
  pub agree : (t : Term) → Each P (occurrences t) → f t ≡ g t
  agree = term_induct
      (λ t. Each P (occurrences t) → f t ≡ g t)
      (λ ts. Each P (occurrences_all ts) → map f ts ≡ map g ts)
      (λ n s h. var n s (each-Var P n s h))
      (λ k h. inp k)
      (λ h ts e k. left h ts ∙ (ap (App h) (e (each-App P h ts k)) ∙ sym (right h ts)))
      (λ h. refl)
      (λ t ts h k e. ap (λ x. x ∷ map f ts) (h (each-head P t ts e)) ∙ ap (λ xs. g t ∷ xs) (k (each-tail P t ts e)))

  pub agrees : (ts : List Term) → Each P (occurrences_all ts) → map f ts ≡ map g ts
  agrees [] h = refl
  agrees (t ∷ ts) e = ap (λ x. x ∷ map f ts) (agree t (each-head P t ts e)) ∙ ap (λ xs. g t ∷ xs) (agrees ts (each-tail P t ts e))

  pub lists-agree : (ws : List (List Term)) → Each P (in_lists ws) → map (map f) ws ≡ map (map g) ws
  lists-agree [] h = refl
  lists-agree (w ∷ ws) e = ap (λ x. x ∷ map (map f) ws) (agrees w (each-left P (occurrences_all w) (in_lists ws) e)) ∙ ap (λ xs. map g w ∷ xs) (lists-agree ws (each-right P (occurrences_all w) (in_lists ws) e))

-- what stays under two substitutions has variables that come back
module _ (η θ : Substitution) where
  abbrev Back : Variable → Type 0
  Back v = apply η (θ v.0 v.1) ≡ Var v.0 v.1

  pub stays : (t : Term) → apply η (apply θ t) ≡ t → Each Back (occurrences t)
  stays = term_induct
      (λ t. apply η (apply θ t) ≡ t → Each Back (occurrences t))
      (λ ts. applies η (applies θ ts) ≡ ts → Each Back (occurrences_all ts))
      (λ n s e v m. let i : (v : Variable) → Within v ((n, s) ∷ []) → v ≡ (n, s) = only n s in
      subst Back (sym (i v (rw occurrences-Var at m))) (sym (ap (apply η) (apply-Var θ n s)) ∙ e))
      (λ k e v m. never (rw occurrences-In at m))
      (λ f ts h e. rw occurrences-App (h ((app-alike f f (applies η (applies θ ts)) ts (sym (apply-App η f (applies θ ts)) ∙ (sym (ap (apply η) (apply-App θ f ts)) ∙ e))).arguments)))
      (λ e v m. never (rw occurrences-none at m))
      (λ t ts h k e. each-more Back t ts (h (heads (apply η (apply θ t)) t (applies η (applies θ ts)) ts e)) (k (tails (apply η (apply θ t)) t (applies η (applies θ ts)) ts e)))
    where
      only : (n : ℕ) (s : SortId) (v : Variable) → Within v ((n, s) ∷ []) → v ≡ (n, s)
      only n s v m = elim (or_cases (same_variable v (n, s)) false m) [ inl a ↦ same_variable-sound v (n, s) a | inr b ↦ never b ]

  pub all-stay : (ts : List Term) → applies η (applies θ ts) ≡ ts → Each Back (occurrences_all ts)
  all-stay [] e = λ v m. never (rw occurrences-none at m)
  all-stay (t ∷ ts) e = each-more Back t ts (stays t (heads (apply η (apply θ t)) t (applies η (applies θ ts)) ts e)) (all-stay ts (tails (apply η (apply θ t)) t (applies η (applies θ ts)) ts e))

  pub lists-stay : (ws : List (List Term)) → map (applies η) (map (applies θ) ws) ≡ ws → Each Back (in_lists ws)
  lists-stay [] e = λ v m. never m
  lists-stay (w ∷ ws) e = each-both Back (occurrences_all w) (in_lists ws)
      (all-stay w (heads (applies η (applies θ w)) w (map (applies η) (map (applies θ) ws)) ws e))
      (lists-stay ws (tails (applies η (applies θ w)) w (map (applies η) (map (applies θ) ws)) ws e))

-- what stands in the term of a variable stands in the instance
module _ (θ : Substitution) (v w : Variable) (inner : Within w (occurrences (θ v.0 v.1))) where
  pub brings : (t : Term) → Within v (occurrences t) → Within w (occurrences (apply θ t))
  brings = term_induct
      (λ t. Within v (occurrences t) → Within w (occurrences (apply θ t)))
      (λ ts. Within v (occurrences_all ts) → Within w (occurrences_all (applies θ ts)))
      (λ n s m. rw apply-Var (subst (λ (x : Variable). Within w (occurrences (θ x.0 x.1))) (only n s (rw occurrences-Var at m)) inner))
      (λ k m. never (rw occurrences-In at m))
      (λ f ts h m. rw (apply-App, occurrences-App f (applies θ ts)) (h (rw occurrences-App at m)))
      (λ m. never (rw occurrences-none at m))
      (λ t ts h k m. rw occurrences-more (elim (within-cases v (occurrences t) (occurrences_all ts) (rw occurrences-more at m)) [
        | inl a ↦ within-left w (occurrences (apply θ t)) (occurrences_all (applies θ ts)) (h a)
        | inr b ↦ within-right w (occurrences (apply θ t)) (occurrences_all (applies θ ts)) (k b)
      ]))
    where
      only : (n : ℕ) (s : SortId) → Within v ((n, s) ∷ []) → v ≡ (n, s)
      only n s m = elim (or_cases (same_variable v (n, s)) false m) [ inl a ↦ same_variable-sound v (n, s) a | inr b ↦ never b ]

  pub all-bring : (ts : List Term) → Within v (occurrences_all ts) → Within w (occurrences_all (applies θ ts))
  all-bring [] m = never (rw occurrences-none at m)
  all-bring (t ∷ ts) m = rw occurrences-more (elim (within-cases v (occurrences t) (occurrences_all ts) (rw occurrences-more at m)) [
    | inl a ↦ within-left w (occurrences (apply θ t)) (occurrences_all (applies θ ts)) (brings t a)
    | inr b ↦ within-right w (occurrences (apply θ t)) (occurrences_all (applies θ ts)) (all-bring ts b)
  ])

  pub lists-bring : (ws : List (List Term)) → Within v (in_lists ws) → Within w (in_lists (map (applies θ) ws))
  lists-bring [] m = never m
  lists-bring (ts ∷ ws) m = elim (within-cases v (occurrences_all ts) (in_lists ws) m) [
    | inl a ↦ within-left w (occurrences_all (applies θ ts)) (in_lists (map (applies θ) ws)) (all-bring ts a)
    | inr b ↦ within-right w (occurrences_all (applies θ ts)) (in_lists (map (applies θ) ws)) (lists-bring ws b)
  ]
