-- The size of a formula: a measure for going down into it.
use Rattle.std.proofs.Common.{◌≡◌, ◌∙◌, ◌+◌, ℕ, ap, List, sum}
use Rattle.std.specs.List.{sum_by}
use Rattle.std.proofs.lemmas.List.Sums.{sum-map, get_or-le-sum_by}
use Rattle.am_term.specs.declared.term.Formula.{Formula}
use Rattle.am_term.specs.declared.term.Formula.TheOpen.{Formula-F}
use Rattle.am_term.specs.declared.term.Formula.TheVariants.{Not, And, Or, Implies, Iff}
use Rattle.am_term.specs.declared.term.Formula.TheFolds.{fold-Formula}
use Rattle.am_term.specs.FoldFormula.{fold-Not, fold-And, fold-Or, fold-Implies, fold-Iff}

abbrev size_step : Formula-F ℕ → ℕ
size_step (Formula-F.Atom a) = 1
size_step (Formula-F.Not n) = n + 1
size_step (Formula-F.And ns) = sum ns + 1
size_step (Formula-F.Or ns) = sum ns + 1
size_step (Formula-F.Implies n m) = n + m + 1
size_step (Formula-F.Iff n m) = n + m + 1

unfoldable pub size : Formula → ℕ
size = fold-Formula ℕ size_step

pub size-Not : (f : Formula) → size (Not f) ≡ size f + 1
unfolding size
size-Not = fold-Not ℕ size_step

pub size-And : (fs : List Formula) → size (And fs) ≡ sum_by size fs + 1
unfolding size
size-And fs = fold-And ℕ size_step fs ∙ ap (λ n. n + 1) (sum-map size fs)

pub size-Or : (fs : List Formula) → size (Or fs) ≡ sum_by size fs + 1
unfolding size
size-Or fs = fold-Or ℕ size_step fs ∙ ap (λ n. n + 1) (sum-map size fs)

pub size-Implies : (f g : Formula) → size (Implies f g) ≡ size f + size g + 1
unfolding size
size-Implies = fold-Implies ℕ size_step

pub size-Iff : (f g : Formula) → size (Iff f g) ≡ size f + size g + 1
unfolding size
size-Iff = fold-Iff ℕ size_step

pub ruleset sizes = (size-Not, size-And, size-Or, size-Implies, size-Iff, get_or-le-sum_by)
