-- The clauses of a formula.
use Rattle.std.specs.Prelude.{◌≡◌, ◌++◌, Bool, true, false, List, [], ◌∷◌, map, None}
use Rattle.std.specs.List.{flat_map, fold}
use Rattle.std.proofs.Common.{ap, refl, ◌∙◌}
use Rattle.std.proofs.lemmas.List.Folds.{flat_map-map}
use Rattle.am_term.specs.declared.term.Atom.{Atom}
use Rattle.am_term.specs.declared.term.Literal.{Literal}
use Rattle.am_term.specs.declared.term.Formula.{Formula}
use Rattle.am_term.specs.declared.term.Formula.TheOpen.{Formula-F}
use Rattle.am_term.specs.declared.term.Formula.TheVariants.{Atom as Atomic, Not, And, Or, Implies, Iff}
use Rattle.am_term.specs.declared.term.Formula.TheFolds.{fold-Formula}
use Rattle.am_term.specs.FoldFormula.{fold-Atom, fold-Not, fold-And, fold-Or, fold-Implies, fold-Iff}
use Rattle.am_clause.specs.declared.clause.Clause.{Clause}
use Rattle.am_clause.specs.Merge.{merged}
use Rattle.am_clause.specs.Renaming.{renumbered}

-- clauses as lists of literals
abbrev pub Lists : Type 0
Lists = List (List Literal)

-- a followed by each of the others
unfoldable pub followed : List Literal → Lists → Lists
followed a bs = map (λ b. a ++ b) bs

-- for each a of the first in order and each b of the second in order, a followed by b
unfoldable pub product : Lists → Lists → Lists
product as_ bs = flat_map (λ a. followed a bs) as_

-- the product of all, and of none the list of the one empty clause
unfoldable pub products : List Lists → Lists
products = fold product ([] ∷ [])

-- the clause of the one literal, with its sign
unfoldable pub unit : Bool → Atom → Lists
unit sign a = (record { positive = sign; atom = a } ∷ []) ∷ []

-- the clauses of a formula, and those of its negation
pub record Columns : Type 0 where
  pub pos : Lists
  pub neg : Lists

abbrev pub columns_step : Formula-F Columns → Columns
columns_step (Formula-F.Atom a) = record { pos = unit true a; neg = unit false a }
columns_step (Formula-F.Not f) = record { pos = f.neg; neg = f.pos }
columns_step (Formula-F.And fs) = record { pos = flat_map (λ f. f.pos) fs; neg = products (map (λ f. f.neg) fs) }
columns_step (Formula-F.Or fs) = record { pos = products (map (λ f. f.pos) fs); neg = flat_map (λ f. f.neg) fs }
columns_step (Formula-F.Implies f g) = record { pos = product f.neg g.pos; neg = f.pos ++ g.neg }
columns_step (Formula-F.Iff f g) = record { pos = product f.neg g.pos ++ product g.neg f.pos; neg = product f.pos g.pos ++ product f.neg g.neg }

-- An `and` gives the clauses of its parts one after another, an `or` their product; a negation exchanges
-- the columns; `f => g` is read as `or (not f) g`, and `f <=> g` as both directions, the one from f first.
unfoldable pub columns : Formula → Columns
columns = fold-Formula Columns columns_step

unfoldable pub pos : Formula → Lists
pos f = (columns f).pos

unfoldable pub neg : Formula → Lists
neg f = (columns f).neg

-- a clause without an answer, equal literals merged
abbrev pub merged_clause : List Literal → Clause
merged_clause ls = record { literals = merged ls; answer = None }

-- the clause form of a formula: the list `pos`, each clause with equal literals merged and then renumbered
unfoldable pub cnf : Formula → List Clause
cnf f = map (λ ls. renumbered (merged_clause ls)) (pos f)

pub maps : {A B C : Type 0} (g : B → C) (f : A → B) (xs : List A) → map g (map f xs) ≡ map (λ x. g (f x)) xs
maps g f [] = refl
maps g f (x ∷ xs) = ap (λ ys. g (f x) ∷ ys) (maps g f xs)

-- the table, one equation an entry

pub pos-Atom : (a : Atom) → pos (Atomic a) ≡ unit true a
unfolding pos columns
pos-Atom a = ap (λ (c : Columns). c.pos) (fold-Atom Columns columns_step a)

pub neg-Atom : (a : Atom) → neg (Atomic a) ≡ unit false a
unfolding neg columns
neg-Atom a = ap (λ (c : Columns). c.neg) (fold-Atom Columns columns_step a)

pub pos-Not : (f : Formula) → pos (Not f) ≡ neg f
unfolding pos neg columns
pos-Not f = ap (λ (c : Columns). c.pos) (fold-Not Columns columns_step f)

pub neg-Not : (f : Formula) → neg (Not f) ≡ pos f
unfolding pos neg columns
neg-Not f = ap (λ (c : Columns). c.neg) (fold-Not Columns columns_step f)

pub pos-And : (fs : List Formula) → pos (And fs) ≡ flat_map pos fs
unfolding pos columns
pos-And fs = ap (λ (c : Columns). c.pos) (fold-And Columns columns_step fs) ∙ flat_map-map (λ (c : Columns). c.pos) columns fs

pub neg-And : (fs : List Formula) → neg (And fs) ≡ products (map neg fs)
unfolding neg columns
neg-And fs = ap (λ (c : Columns). c.neg) (fold-And Columns columns_step fs) ∙ ap products (maps (λ (c : Columns). c.neg) columns fs)

pub pos-Or : (fs : List Formula) → pos (Or fs) ≡ products (map pos fs)
unfolding pos columns
pos-Or fs = ap (λ (c : Columns). c.pos) (fold-Or Columns columns_step fs) ∙ ap products (maps (λ (c : Columns). c.pos) columns fs)

pub neg-Or : (fs : List Formula) → neg (Or fs) ≡ flat_map neg fs
unfolding neg columns
neg-Or fs = ap (λ (c : Columns). c.neg) (fold-Or Columns columns_step fs) ∙ flat_map-map (λ (c : Columns). c.neg) columns fs

pub pos-Implies : (f g : Formula) → pos (Implies f g) ≡ product (neg f) (pos g)
unfolding pos neg columns
pos-Implies f g = ap (λ (c : Columns). c.pos) (fold-Implies Columns columns_step f g)

pub neg-Implies : (f g : Formula) → neg (Implies f g) ≡ pos f ++ neg g
unfolding pos neg columns
neg-Implies f g = ap (λ (c : Columns). c.neg) (fold-Implies Columns columns_step f g)

pub pos-Iff : (f g : Formula) → pos (Iff f g) ≡ product (neg f) (pos g) ++ product (neg g) (pos f)
unfolding pos neg columns
pos-Iff f g = ap (λ (c : Columns). c.pos) (fold-Iff Columns columns_step f g)

pub neg-Iff : (f g : Formula) → neg (Iff f g) ≡ product (pos f) (pos g) ++ product (neg f) (neg g)
unfolding pos neg columns
neg-Iff f g = ap (λ (c : Columns). c.neg) (fold-Iff Columns columns_step f g)
