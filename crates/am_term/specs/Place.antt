-- Places in a term: a path goes down from it, each step the number of an argument, from 1.
use Rattle.std.specs.Prelude.{◌≡◌, ◌≢◌, ◌++◌, ℕ, zero, suc, List, [], ◌∷◌, Option, Some, None, slice_get, slice_set, option_map, option_and_then}
use Rattle.std.proofs.Common.{ap}
use Rattle.am_term.specs.declared.id.SortId.{SortId}
use Rattle.am_term.specs.declared.id.SymId.{SymId}
use Rattle.am_term.specs.declared.term.Term.{Term}
use Rattle.am_term.specs.declared.term.Term.TheOpen.{Term-F}
use Rattle.am_term.specs.declared.term.Term.TheViews.{out-Term}
use Rattle.am_term.specs.declared.term.Term.TheVariants.{Var, In, App, outs-Var, outs-In, outs-App}

-- a member of a list by its number, from 1
abbrev pub member : {A : Type 0} → List A → ℕ → Option A
member xs zero = None
member xs (suc i) = slice_get xs i

-- the list with another member at that number
abbrev pub with_member : {A : Type 0} → List A → ℕ → A → List A
with_member xs zero x = xs
with_member xs (suc i) x = slice_set xs i x

abbrev pub args_at : Term-F Term → List Term
args_at (Term-F.Var n s) = []
args_at (Term-F.In k) = []
args_at (Term-F.App f args) = args

-- the arguments of a term; a variable and an input have none
unfoldable pub args_of : Term → List Term
args_of t = args_at (out-Term t)

abbrev pub with_arg_at : Term-F Term → ℕ → Term → Term
with_arg_at (Term-F.Var n s) k new = Var n s
with_arg_at (Term-F.In j) k new = In j
with_arg_at (Term-F.App f args) k new = App f (with_member args k new)

-- the term with another argument at a number that it has
unfoldable pub with_arg : Term → ℕ → Term → Term
with_arg t = with_arg_at (out-Term t)

-- the part at a path, and none where the path leaves the term
abbrev pub place : List ℕ → Term → Option Term
place [] t = Some t
place (k ∷ path) t = option_and_then (place path) (member (args_of t) k)

-- the term with another part at a path, and none where the path leaves the term
abbrev pub replaced : Term → List ℕ → Term → Option Term
replaced new [] t = Some new
replaced new (k ∷ path) t = option_map (with_arg t k) (option_and_then (replaced new path) (member (args_of t) k))

-- neither path goes on from the other
abbrev pub AreDisjoint : List ℕ → List ℕ → Type 0
AreDisjoint p q = ((rest : List ℕ) → p ++ rest ≢ q) × ((rest : List ℕ) → q ++ rest ≢ p)

pub args_of-Var : (n : ℕ) (s : SortId) → args_of (Var n s) ≡ []
unfolding args_of
args_of-Var n s = ap args_at (outs-Var n s)

pub args_of-In : (k : ℕ) → args_of (In k) ≡ []
unfolding args_of
args_of-In k = ap args_at (outs-In k)

pub args_of-App : (f : SymId) (args : List Term) → args_of (App f args) ≡ args
unfolding args_of
args_of-App f args = ap args_at (outs-App f args)

pub with_arg-App : (f : SymId) (args : List Term) (k : ℕ) (new : Term) → with_arg (App f args) k new ≡ App f (with_member args k new)
unfolding with_arg
with_arg-App f args k new = ap (λ x. with_arg_at x k new) (outs-App f args)

pub ruleset place_laws = (args_of-Var, args_of-In, args_of-App, with_arg-App)
