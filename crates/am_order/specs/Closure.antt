-- Substitutions of terms for variables, and terms with a hole.
use Rattle.std.specs.Prelude.{◌≡◌, ◌++◌, ℕ, List, [], ◌∷◌, map}
use Rattle.am_term.specs.declared.id.SymId.{SymId}
use Rattle.am_term.specs.declared.term.Term.{Term}
use Rattle.am_term.specs.declared.term.Term.TheVariants.{In, App}

-- A substitution keeps inputs and symbols, and does to each argument what it does to a term; what it
-- makes of variables is free.
pub record IsSubstitution (θ : Term → Term) : Type 0 where
  pub inputs : (k : ℕ) → θ (In k) ≡ In k
  pub symbols : (f : SymId) (args : List Term) → θ (App f args) ≡ App f (map θ args)

-- a symbol with all its arguments but one, which is the hole
pub record Frame : Type 0 where
  pub head : SymId
  pub before : List Term
  pub behind : List Term

-- a term in the hole of a term, whose symbols and arguments on the way to it are listed from the outside
abbrev pub placed : List Frame → Term → Term
placed [] t = t
placed (c ∷ cs) t = App c.head (c.before ++ placed cs t ∷ c.behind)
