-- Substitutions: a term for each variable, and what terms become under them.
use Rattle.std.specs.Prelude.{◌≡◌, ◌==◌, ◌<◌, ℕ, Option, Some, None, List, [], ◌∷◌, map, nat_lt, if◌then◌else◌}
use Rattle.std.specs.List.{AllByRecursion}
use Rattle.am_term.specs.declared.id.SortId.{SortId}
use Rattle.am_term.specs.declared.id.SymId.{SymId}
use Rattle.am_term.specs.declared.term.Term.{Term}
use Rattle.am_term.specs.declared.term.Term.TheOpen.{Term-F}
use Rattle.am_term.specs.declared.term.Term.TheVariants.{Var, In, App}
use Rattle.am_term.specs.declared.term.Term.TheFolds.{fold-Term}
use Rattle.am_term.specs.Fold.{fold-Var, fold-In, fold-App}

-- a term for each variable, by its number and sort
abbrev pub Substitution : Type 0
Substitution = ℕ → SortId → Term

abbrev pub apply_step : Substitution → Term-F Term → Term
apply_step θ (Term-F.Var n s) = θ n s
apply_step θ (Term-F.In k) = In k
apply_step θ (Term-F.App f args) = App f args

-- each variable becomes the term given for it; all else stays
unfoldable pub apply : Substitution → Term → Term
apply θ = fold-Term Term (apply_step θ)

abbrev pub applies : Substitution → List Term → List Term
applies θ = map (apply θ)

pub apply-Var : (θ : Substitution) (n : ℕ) (s : SortId) → apply θ (Var n s) ≡ θ n s
unfolding apply
apply-Var θ = fold-Var Term (apply_step θ)

pub apply-In : (θ : Substitution) (k : ℕ) → apply θ (In k) ≡ In k
unfolding apply
apply-In θ = fold-In Term (apply_step θ)

pub apply-App : (θ : Substitution) (f : SymId) (args : List Term) → apply θ (App f args) ≡ App f (applies θ args)
unfolding apply
apply-App θ = fold-App Term (apply_step θ)

pub ruleset apply_laws = (apply-Var, apply-In, apply-App)

-- the term that a list of numbers and terms has for a number, or else another
abbrev pub bound_to : List (ℕ × Term) → ℕ → Term → Term
bound_to [] n else_ = else_
bound_to (b ∷ bs) n else_ = if b.0 == n then b.1 else bound_to bs n else_

-- a variable becomes the term listed for its number, if there is one
abbrev pub listed : List (ℕ × Term) → Substitution
listed bs n s = bound_to bs n (Var n s)

-- the numbers rise
abbrev pub IsRising : List (ℕ × Term) → Type 0
IsRising [] = Unit {0}
IsRising (b ∷ bs) = AllByRecursion (λ c. b.0 < c.0) bs × IsRising bs

-- one more binding, before the first whose number isn't smaller
abbrev pub insert_binding : ℕ → Term → List (ℕ × Term) → List (ℕ × Term)
insert_binding n t [] = (n, t) ∷ []
insert_binding n t (b ∷ bs) = if nat_lt b.0 n then b ∷ insert_binding n t bs else (n, t) ∷ b ∷ bs

-- first n becomes t, then all that is listed: one list for both
abbrev pub after_binding : ℕ → Term → Option (List (ℕ × Term)) → Option (List (ℕ × Term))
after_binding n t None = None
after_binding n t (Some bs) = Some (insert_binding n (apply (listed bs) t) bs)

-- variable n becomes t
unfoldable pub replace : ℕ → Term → Term → Term
replace n t = apply (listed ((n, t) ∷ []))

abbrev pub replace_in : ℕ → Term → List (Term × Term) → List (Term × Term)
replace_in n t ps = map (λ p. (replace n t p.0, replace n t p.1)) ps
