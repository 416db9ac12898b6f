-- Which number a term stands for, and which atoms and literals are true.
use Rattle.std.specs.Prelude.{◌≡◌, ◌==◌, ◌<◌, ℕ, Bool, not, List, map, length, slice_index, slice_index_or, IsTrue, if◌then◌else◌}
use Rattle.am_term.specs.declared.id.SortId.{SortId}
use Rattle.am_term.specs.declared.id.SymId.{SymId}
use Rattle.am_term.specs.declared.signature.Signature.{Signature}
use Rattle.am_term.specs.declared.term.Term.{Term}
use Rattle.am_term.specs.declared.term.Term.TheOpen.{Term-F}
use Rattle.am_term.specs.declared.term.Term.TheVariants.{Var, In, App}
use Rattle.am_term.specs.declared.term.Term.TheFolds.{fold-Term}
use Rattle.am_term.specs.declared.term.Atom.{Atom}
use Rattle.am_term.specs.declared.term.Atom.TheVariants.{Rel, Eq}
use Rattle.am_term.specs.declared.term.Literal.{Literal}
use Rattle.am_term.specs.Fold.{fold-Var, fold-In, fold-App}
use Rattle.am_world.specs.Interpretation.{Interpretation}

-- the number of each variable
abbrev pub Assignment : Type 0
Assignment = ℕ → SortId → ℕ

-- each variable has a member of its sort
abbrev pub IsAssignment : Signature → Interpretation → Assignment → Type 0
IsAssignment sig w a = (n : ℕ) (s : SortId) → s.0 < length sig.sorts → IsTrue (w.dom s (a n s))

abbrev pub value_step : Interpretation → List ℕ → Assignment → Term-F ℕ → ℕ
value_step w ins a (Term-F.Var n s) = a n s
value_step w ins a (Term-F.In k) = slice_index ins k
value_step w ins a (Term-F.App f ns) = w.fun f ns

-- A variable has the number assigned to it, an input the number handed in, and a symbol at arguments
-- what the interpretation gives at their values.
unfoldable pub value : Interpretation → List ℕ → Assignment → Term → ℕ
value w ins a = fold-Term ℕ (value_step w ins a)

abbrev pub values : Interpretation → List ℕ → Assignment → List Term → List ℕ
values w ins a = map (value w ins a)

pub value-Var : (w : Interpretation) (ins : List ℕ) (a : Assignment) (n : ℕ) (s : SortId) → value w ins a (Var n s) ≡ a n s
unfolding value
value-Var w ins a = fold-Var ℕ (value_step w ins a)

pub value-In : (w : Interpretation) (ins : List ℕ) (a : Assignment) (k : ℕ) → value w ins a (In k) ≡ slice_index ins k
unfolding value
value-In w ins a = fold-In ℕ (value_step w ins a)

pub value-App : (w : Interpretation) (ins : List ℕ) (a : Assignment) (f : SymId) (args : List Term) → value w ins a (App f args) ≡ w.fun f (values w ins a args)
unfolding value
value-App w ins a = fold-App ℕ (value_step w ins a)

pub ruleset value_laws = (value-Var, value-In, value-App)

-- the assignment under which each variable has the value of the term listed for it
abbrev pub through : Interpretation → List ℕ → Assignment → List Term → Assignment
through w ins a with n s = value w ins a (slice_index_or with n (Var n s))

-- A relation holds at the values of its arguments; the sides of an equation have one value.
abbrev pub atom_truth : Interpretation → List ℕ → Assignment → Atom → Bool
atom_truth w ins a (Rel r args) = w.rel r (values w ins a args)
atom_truth w ins a (Eq left right) = value w ins a left == value w ins a right

-- a negative literal is true where its atom isn't
abbrev pub literal_truth : Interpretation → List ℕ → Assignment → Literal → Bool
literal_truth w ins a l = if l.positive then atom_truth w ins a l.atom else not (atom_truth w ins a l.atom)
