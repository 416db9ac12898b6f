-- For the private contracts and the proofs of this crate alone: what stands where in a clause.
use Rattle.std.specs.Prelude.{◌≡◌, ◌++◌, ◌+◌, ℕ, List, [], ◌∷◌, Some}
use Rattle.am_term.specs.Place.{member}
use Rattle.am_term.specs.declared.term.Literal.{Literal}
use Rattle.am_term.specs.declared.term.Term.{Term}
use Rattle.am_clause.specs.Rules.{part_at}
use Rattle.am_clause.specs.declared.clause.Clause.{Clause}

-- the part of literal i at the path is this term
abbrev pub IsPartAt : Clause → ℕ → List ℕ → Term → Type 0
IsPartAt c i path t = part_at path (member c.literals i) ≡ Some t

-- the terms are arguments of what stands at the path, the first one with the number k
abbrev pub AreArguments : Clause → ℕ → List ℕ → ℕ → List Term → Type 0
AreArguments c i path k [] = Prim.Unit {0}
AreArguments c i path k (t ∷ ts) = IsPartAt c i (path ++ k ∷ []) t × AreArguments c i path (k + 1) ts

-- the literals are some of the clause, the first one with the number i
abbrev pub AreLiterals : Clause → ℕ → List Literal → Type 0
AreLiterals c i [] = Prim.Unit {0}
AreLiterals c i (l ∷ ls) = (member c.literals i ≡ Some l) × AreLiterals c (i + 1) ls
