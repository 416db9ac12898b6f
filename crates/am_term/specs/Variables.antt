-- Which variables occur in a term. A variable is its number and its sort.
use Rattle.std.specs.Prelude.{◌≡◌, ◌&&◌, ◌||◌, ◌==◌, ℕ, Bool, true, false, List, [], ◌∷◌, map}
use Rattle.std.specs.List.{list_any}
use Rattle.std.proofs.Common.{ap, refl, ◌∙◌}
use Rattle.am_term.specs.declared.id.SortId.{SortId}
use Rattle.am_term.specs.declared.id.SymId.{SymId}
use Rattle.am_term.specs.declared.term.Term.{Term}
use Rattle.am_term.specs.declared.term.Term.TheOpen.{Term-F}
use Rattle.am_term.specs.declared.term.Term.TheViews.{out-Term}
use Rattle.am_term.specs.declared.term.Term.TheVariants.{Var, In, App, outs-Var, outs-In, outs-App}
use Rattle.am_term.specs.declared.term.Term.TheFolds.{fold-Term}
use Rattle.am_term.specs.Fold.{fold-Var, fold-In, fold-App}

abbrev pub is_variable_at : Term-F Term → Bool
is_variable_at (Term-F.Var n s) = true
is_variable_at (Term-F.In k) = false
is_variable_at (Term-F.App f args) = false

-- whether a term is a variable
unfoldable pub is_variable : Term → Bool
is_variable t = is_variable_at (out-Term t)

pub is_variable-Var : (n : ℕ) (s : SortId) → is_variable (Var n s) ≡ true
unfolding is_variable
is_variable-Var n s = ap is_variable_at (outs-Var n s)

pub is_variable-In : (k : ℕ) → is_variable (In k) ≡ false
unfolding is_variable
is_variable-In k = ap is_variable_at (outs-In k)

pub is_variable-App : (f : SymId) (args : List Term) → is_variable (App f args) ≡ false
unfolding is_variable
is_variable-App f args = ap is_variable_at (outs-App f args)

abbrev pub occurs_step : ℕ → SortId → Term-F Bool → Bool
occurs_step n s (Term-F.Var m r) = n == m && s.0 == r.0
occurs_step n s (Term-F.In k) = false
occurs_step n s (Term-F.App f below) = list_any (λ b. b) below

-- whether the variable n of sort s is the term or occurs in an argument
unfoldable pub occurs : ℕ → SortId → Term → Bool
occurs n s = fold-Term Bool (occurs_step n s)

any-map : (test : Term → Bool) (ts : List Term) → list_any (λ b. b) (map test ts) ≡ list_any test ts
any-map test [] = refl
any-map test (t ∷ ts) = ap (λ b. test t || b) (any-map test ts)

pub occurs-Var : (n : ℕ) (s : SortId) (m : ℕ) (r : SortId) → occurs n s (Var m r) ≡ (n == m && s.0 == r.0)
unfolding occurs
occurs-Var n s m r = fold-Var Bool (occurs_step n s) m r

pub occurs-In : (n : ℕ) (s : SortId) (k : ℕ) → occurs n s (In k) ≡ false
unfolding occurs
occurs-In n s k = fold-In Bool (occurs_step n s) k

pub occurs-App : (n : ℕ) (s : SortId) (f : SymId) (args : List Term) → occurs n s (App f args) ≡ list_any (occurs n s) args
unfolding occurs
occurs-App n s f args = fold-App Bool (occurs_step n s) f args ∙ any-map (occurs n s) args

pub ruleset variable_laws = (is_variable-Var, is_variable-In, is_variable-App, occurs-Var, occurs-In, occurs-App)
