-- The instance of a term, of an atom and of literals under a list of terms: variable n becomes the n-th of them, from 0.
use Rattle.std.specs.Prelude.{◌≡◌, ℕ, List, map, slice_index_or}
use Rattle.am_term.specs.declared.id.SortId.{SortId}
use Rattle.am_term.specs.declared.id.SymId.{SymId}
use Rattle.am_term.specs.declared.term.Term.{Term}
use Rattle.am_term.specs.declared.term.Term.TheOpen.{Term-F}
use Rattle.am_term.specs.declared.term.Term.TheVariants.{Var, In, App}
use Rattle.am_term.specs.declared.term.Term.TheFolds.{fold-Term}
use Rattle.am_term.specs.Fold.{fold-Var, fold-In, fold-App}
use Rattle.am_term.specs.declared.term.Atom.{Atom}
use Rattle.am_term.specs.declared.term.Atom.TheVariants.{Rel, Eq}
use Rattle.am_term.specs.declared.term.Literal.{Literal}

-- the same of one symbol, where the arguments are instances already
abbrev pub instance_step : List Term → Term-F Term → Term
instance_step with (Term-F.Var n s) = slice_index_or with n (Var n s)
instance_step with (Term-F.In k) = In k
instance_step with (Term-F.App f args) = App f args

-- variable n becomes the n-th term of the list, if there are so many; all else stays
unfoldable pub instance : List Term → Term → Term
instance with = fold-Term Term (instance_step with)

-- each term's instance, in order
abbrev pub instances : List Term → List Term → List Term
instances with = map (instance with)

pub instance-Var : (with : List Term) (n : ℕ) (s : SortId) → instance with (Var n s) ≡ slice_index_or with n (Var n s)
unfolding instance
instance-Var with = fold-Var Term (instance_step with)

pub instance-In : (with : List Term) (k : ℕ) → instance with (In k) ≡ In k
unfolding instance
instance-In with = fold-In Term (instance_step with)

pub instance-App : (with : List Term) (f : SymId) (args : List Term) → instance with (App f args) ≡ App f (instances with args)
unfolding instance
instance-App with = fold-App Term (instance_step with)

pub ruleset instance_laws = (instance-Var, instance-In, instance-App)

-- of a relation each argument's instance, of an equation that of both sides
abbrev pub instance_atom : List Term → Atom → Atom
instance_atom with (Rel r args) = Rel r (instances with args)
instance_atom with (Eq left right) = Eq (instance with left) (instance with right)

-- the sign stays
abbrev pub instance_literal : List Term → Literal → Literal
instance_literal with l = record { positive = l.positive; atom = instance_atom with l.atom }

-- each literal's instance, in order; nothing is merged
abbrev pub instance_literals : List Term → List Literal → List Literal
instance_literals with = map (instance_literal with)
