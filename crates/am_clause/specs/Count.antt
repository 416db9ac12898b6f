-- How many clauses a formula has, found without building them.
use Rattle.std.specs.Prelude.{◌≡◌, ◌+◌, ◌*◌, ℕ, List, map, sum}
use Rattle.std.specs.List.{fold}
use Rattle.std.proofs.Common.{ap, ◌∙◌}
use Rattle.am_term.specs.declared.term.Atom.{Atom}
use Rattle.am_term.specs.declared.term.Formula.{Formula}
use Rattle.am_term.specs.declared.term.Formula.TheOpen.{Formula-F}
use Rattle.am_term.specs.declared.term.Formula.TheVariants.{Atom as Atomic, Not, And, Or, Implies, Iff}
use Rattle.am_term.specs.declared.term.Formula.TheFolds.{fold-Formula}
use Rattle.am_term.specs.FoldFormula.{fold-Atom, fold-Not, fold-And, fold-Or, fold-Implies, fold-Iff}
use Rattle.am_clause.specs.ClauseForm.{maps}

-- all numbers multiplied, and 1 of none
unfoldable pub multiplied : List ℕ → ℕ
multiplied = fold (λ m n. m * n) 1

-- the clauses of a formula counted, and those of its negation
pub record Counts : Type 0 where
  pub pos : ℕ
  pub neg : ℕ

abbrev pub counts_step : Formula-F Counts → Counts
counts_step (Formula-F.Atom a) = record { pos = 1; neg = 1 }
counts_step (Formula-F.Not f) = record { pos = f.neg; neg = f.pos }
counts_step (Formula-F.And fs) = record { pos = sum (map (λ f. f.pos) fs); neg = multiplied (map (λ f. f.neg) fs) }
counts_step (Formula-F.Or fs) = record { pos = multiplied (map (λ f. f.pos) fs); neg = sum (map (λ f. f.neg) fs) }
counts_step (Formula-F.Implies f g) = record { pos = f.neg * g.pos; neg = f.pos + g.neg }
counts_step (Formula-F.Iff f g) = record { pos = f.neg * g.pos + g.neg * f.pos; neg = f.pos * g.pos + f.neg * g.neg }

-- Where clauses are put one after another their numbers are added, and a product has their product.
unfoldable pub counts : Formula → Counts
counts = fold-Formula Counts counts_step

-- the number of the formula's clauses
unfoldable pub count : Formula → ℕ
count f = (counts f).pos

-- the number of the clauses of the formula's negation
unfoldable pub count_negated : Formula → ℕ
count_negated f = (counts f).neg

pub count-Atom : (a : Atom) → count (Atomic a) ≡ 1
unfolding count counts
count-Atom a = ap (λ (c : Counts). c.pos) (fold-Atom Counts counts_step a)

pub negated-Atom : (a : Atom) → count_negated (Atomic a) ≡ 1
unfolding count_negated counts
negated-Atom a = ap (λ (c : Counts). c.neg) (fold-Atom Counts counts_step a)

pub count-Not : (f : Formula) → count (Not f) ≡ count_negated f
unfolding count count_negated counts
count-Not f = ap (λ (c : Counts). c.pos) (fold-Not Counts counts_step f)

pub negated-Not : (f : Formula) → count_negated (Not f) ≡ count f
unfolding count count_negated counts
negated-Not f = ap (λ (c : Counts). c.neg) (fold-Not Counts counts_step f)

pub count-And : (fs : List Formula) → count (And fs) ≡ sum (map count fs)
unfolding count counts
count-And fs = ap (λ (c : Counts). c.pos) (fold-And Counts counts_step fs) ∙ ap sum (maps (λ (c : Counts). c.pos) counts fs)

pub negated-And : (fs : List Formula) → count_negated (And fs) ≡ multiplied (map count_negated fs)
unfolding count_negated counts
negated-And fs = ap (λ (c : Counts). c.neg) (fold-And Counts counts_step fs) ∙ ap multiplied (maps (λ (c : Counts). c.neg) counts fs)

pub count-Or : (fs : List Formula) → count (Or fs) ≡ multiplied (map count fs)
unfolding count counts
count-Or fs = ap (λ (c : Counts). c.pos) (fold-Or Counts counts_step fs) ∙ ap multiplied (maps (λ (c : Counts). c.pos) counts fs)

pub negated-Or : (fs : List Formula) → count_negated (Or fs) ≡ sum (map count_negated fs)
unfolding count_negated counts
negated-Or fs = ap (λ (c : Counts). c.neg) (fold-Or Counts counts_step fs) ∙ ap sum (maps (λ (c : Counts). c.neg) counts fs)

pub count-Implies : (f g : Formula) → count (Implies f g) ≡ count_negated f * count g
unfolding count count_negated counts
count-Implies f g = ap (λ (c : Counts). c.pos) (fold-Implies Counts counts_step f g)

pub negated-Implies : (f g : Formula) → count_negated (Implies f g) ≡ count f + count_negated g
unfolding count count_negated counts
negated-Implies f g = ap (λ (c : Counts). c.neg) (fold-Implies Counts counts_step f g)

pub count-Iff : (f g : Formula) → count (Iff f g) ≡ count_negated f * count g + count_negated g * count f
unfolding count count_negated counts
count-Iff f g = ap (λ (c : Counts). c.pos) (fold-Iff Counts counts_step f g)

pub negated-Iff : (f g : Formula) → count_negated (Iff f g) ≡ count f * count g + count_negated f * count_negated g
unfolding count count_negated counts
negated-Iff f g = ap (λ (c : Counts). c.neg) (fold-Iff Counts counts_step f g)

pub ruleset count_laws = (count-Atom, negated-Atom, count-Not, negated-Not, count-And, negated-And, count-Or, negated-Or, count-Implies, negated-Implies, count-Iff, negated-Iff)
