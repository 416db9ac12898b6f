-- The variables of terms, clauses and formulas: pairs of a number and a sort. Two variables with one
-- number and different sorts are different.
use Rattle.std.specs.Prelude.{◌≡◌, ◌&&◌, ◌==◌, ◌++◌, ℕ, Bool, List, [], ◌∷◌, map, Option, Some, None}
use Rattle.std.specs.List.{flat_map}
use Rattle.std.proofs.Common.{ap, refl, ◌∙◌}
use Rattle.am_term.specs.declared.id.SortId.{SortId}
use Rattle.am_term.specs.declared.id.SymId.{SymId}
use Rattle.am_term.specs.declared.term.Term.{Term}
use Rattle.am_term.specs.declared.term.Term.TheOpen.{Term-F}
use Rattle.am_term.specs.declared.term.Term.TheVariants.{Var, In, App}
use Rattle.am_term.specs.declared.term.Term.TheFolds.{fold-Term}
use Rattle.am_term.specs.declared.term.Atom.{Atom}
use Rattle.am_term.specs.declared.term.Atom.TheVariants.{Rel, Eq}
use Rattle.am_term.specs.declared.term.Literal.{Literal}
use Rattle.am_term.specs.declared.term.Formula.{Formula}
use Rattle.am_term.specs.declared.term.Formula.TheOpen.{Formula-F}
use Rattle.am_term.specs.declared.term.Formula.TheVariants.{Atom as Atomic, Not, And, Or, Implies, Iff}
use Rattle.am_term.specs.declared.term.Formula.TheFolds.{fold-Formula}
use Rattle.am_term.specs.Fold.{fold-Var, fold-In, fold-App}
use Rattle.am_term.specs.FoldFormula.{fold-Atom, fold-Not, fold-And, fold-Or, fold-Implies, fold-Iff}
use Rattle.am_clause.specs.declared.clause.Clause.{Clause}
use Rattle.am_clause.specs.Distinct.{distinct}

abbrev pub Variable : Type 0
Variable = ℕ × SortId

unfoldable pub same_variable : Variable → Variable → Bool
same_variable v w = v.0 == w.0 && v.1.0 == w.1.0

abbrev pub joined_variables : List (List Variable) → List Variable
joined_variables = flat_map (λ vs. vs)

abbrev pub occurrences_step : Term-F (List Variable) → List Variable
occurrences_step (Term-F.Var n s) = (n, s) ∷ []
occurrences_step (Term-F.In k) = []
occurrences_step (Term-F.App f parts) = joined_variables parts

-- the variables of a term in the order of their occurrences, each as often as it occurs
unfoldable pub occurrences : Term → List Variable
occurrences = fold-Term (List Variable) occurrences_step

unfoldable pub occurrences_all : List Term → List Variable
occurrences_all ts = flat_map occurrences ts

abbrev pub in_atom : Atom → List Variable
in_atom (Rel r args) = occurrences_all args
in_atom (Eq left right) = occurrences left ++ occurrences right

abbrev pub in_literals : List Literal → List Variable
in_literals ls = flat_map (λ (l : Literal). in_atom l.atom) ls

abbrev pub in_answer : Option (List Term) → List Variable
in_answer None = []
in_answer (Some ts) = occurrences_all ts

-- those of the literals, and then those of the answer
abbrev pub in_clause : Clause → List Variable
in_clause c = in_literals c.literals ++ in_answer c.answer

abbrev pub in_formula_step : Formula-F (List Variable) → List Variable
in_formula_step (Formula-F.Atom a) = in_atom a
in_formula_step (Formula-F.Not vs) = vs
in_formula_step (Formula-F.And parts) = joined_variables parts
in_formula_step (Formula-F.Or parts) = joined_variables parts
in_formula_step (Formula-F.Implies vs ws) = vs ++ ws
in_formula_step (Formula-F.Iff vs ws) = vs ++ ws

unfoldable pub in_formula : Formula → List Variable
in_formula = fold-Formula (List Variable) in_formula_step

unfoldable pub in_formulas : List Formula → List Variable
in_formulas fs = flat_map in_formula fs

-- the different variables of a clause by their first occurrences, the literals first, then the answer
unfoldable pub variables : Clause → List Variable
variables c = distinct same_variable (in_clause c)

-- the different variables of a formula by their first occurrences
unfoldable pub variables_of : Formula → List Variable
variables_of f = distinct same_variable (in_formula f)

-- joining what was made of each member
pub parts_joined : {X : Type 0} (f : X → List Variable) (xs : List X) → joined_variables (map f xs) ≡ flat_map f xs
parts_joined f [] = refl
parts_joined f (x ∷ xs) = ap (λ vs. f x ++ vs) (parts_joined f xs)

pub occurrences-Var : (n : ℕ) (s : SortId) → occurrences (Var n s) ≡ (n, s) ∷ []
unfolding occurrences
occurrences-Var = fold-Var (List Variable) occurrences_step

pub occurrences-In : (k : ℕ) → occurrences (In k) ≡ []
unfolding occurrences
occurrences-In = fold-In (List Variable) occurrences_step

pub occurrences-App : (f : SymId) (args : List Term) → occurrences (App f args) ≡ occurrences_all args
unfolding occurrences occurrences_all
occurrences-App f args = fold-App (List Variable) occurrences_step f args ∙ parts_joined occurrences args

pub occurrences-none : occurrences_all [] ≡ []
unfolding occurrences_all
occurrences-none = refl

pub occurrences-more : (t : Term) (ts : List Term) → occurrences_all (t ∷ ts) ≡ occurrences t ++ occurrences_all ts
unfolding occurrences_all
occurrences-more t ts = refl

pub ruleset occurrences_laws = (occurrences-Var, occurrences-In, occurrences-App, occurrences-none, occurrences-more)

pub in_formula-Atom : (a : Atom) → in_formula (Atomic a) ≡ in_atom a
unfolding in_formula
in_formula-Atom = fold-Atom (List Variable) in_formula_step

pub in_formula-Not : (f : Formula) → in_formula (Not f) ≡ in_formula f
unfolding in_formula
in_formula-Not = fold-Not (List Variable) in_formula_step

pub in_formula-And : (fs : List Formula) → in_formula (And fs) ≡ in_formulas fs
unfolding in_formula in_formulas
in_formula-And fs = fold-And (List Variable) in_formula_step fs ∙ parts_joined in_formula fs

pub in_formula-Or : (fs : List Formula) → in_formula (Or fs) ≡ in_formulas fs
unfolding in_formula in_formulas
in_formula-Or fs = fold-Or (List Variable) in_formula_step fs ∙ parts_joined in_formula fs

pub in_formula-Implies : (f g : Formula) → in_formula (Implies f g) ≡ in_formula f ++ in_formula g
unfolding in_formula
in_formula-Implies = fold-Implies (List Variable) in_formula_step

pub in_formula-Iff : (f g : Formula) → in_formula (Iff f g) ≡ in_formula f ++ in_formula g
unfolding in_formula
in_formula-Iff = fold-Iff (List Variable) in_formula_step

pub in_formulas-none : in_formulas [] ≡ []
unfolding in_formulas
in_formulas-none = refl

pub in_formulas-more : (f : Formula) (fs : List Formula) → in_formulas (f ∷ fs) ≡ in_formula f ++ in_formulas fs
unfolding in_formulas
in_formulas-more f fs = refl

pub ruleset in_formula_laws = (in_formula-Atom, in_formula-Not, in_formula-And, in_formula-Or, in_formula-Implies, in_formula-Iff, in_formulas-none, in_formulas-more)
