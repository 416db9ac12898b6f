-- How many terms an instance needs: one more than the greatest number of a variable.
use Rattle.std.specs.Prelude.{◌≡◌, ◌+◌, ℕ, List, [], ◌∷◌, map, max}
use Rattle.std.proofs.Common.{refl}
use Rattle.am_term.specs.declared.id.SortId.{SortId}
use Rattle.am_term.specs.declared.id.SymId.{SymId}
use Rattle.am_term.specs.declared.term.Term.{Term}
use Rattle.am_term.specs.declared.term.Term.TheOpen.{Term-F}
use Rattle.am_term.specs.declared.term.Term.TheVariants.{Var, In, App}
use Rattle.am_term.specs.declared.term.Term.TheFolds.{fold-Term}
use Rattle.am_term.specs.Fold.{fold-Var, fold-In, fold-App}

-- the greatest of some numbers, and 0 of none
abbrev pub greatest : List ℕ → ℕ
greatest [] = 0
greatest (n ∷ ns) = max n (greatest ns)

abbrev pub span_step : Term-F ℕ → ℕ
span_step (Term-F.Var n s) = n + 1
span_step (Term-F.In k) = 0
span_step (Term-F.App f spans) = greatest spans

-- one more than the greatest number of a variable of the term, and 0 where it has none
unfoldable pub span : Term → ℕ
span = fold-Term ℕ span_step

unfoldable pub spans : List Term → ℕ
spans ts = greatest (map span ts)

pub spans-none : spans [] ≡ 0
unfolding spans
spans-none = refl

pub spans-more : (t : Term) (ts : List Term) → spans (t ∷ ts) ≡ max (span t) (spans ts)
unfolding spans
spans-more t ts = refl

pub span-Var : (n : ℕ) (s : SortId) → span (Var n s) ≡ n + 1
unfolding span
span-Var = fold-Var ℕ span_step

pub span-In : (k : ℕ) → span (In k) ≡ 0
unfolding span
span-In = fold-In ℕ span_step

pub span-App : (f : SymId) (args : List Term) → span (App f args) ≡ spans args
unfolding span spans
span-App = fold-App ℕ span_step

pub ruleset span_laws = (spans-none, spans-more, span-Var, span-In, span-App)
