-- The textbook recursion for a most general unifier of a list of pairs: delete, decompose, bind.
use Rattle.std.specs.Prelude.{◌&&◌, ◌==◌, ◌++◌, ℕ, zero, suc, Option, Some, None, List, [], ◌∷◌, length, if◌then◌else◌}
use Rattle.std.specs.List.{zip}
use Rattle.am_term.specs.declared.id.SortId.{SortId}
use Rattle.am_term.specs.declared.id.SymId.{SymId}
use Rattle.am_term.specs.declared.signature.Signature.{Signature}
use Rattle.am_term.specs.declared.term.Term.{Term}
use Rattle.am_term.specs.declared.term.Term.TheOpen.{Term-F}
use Rattle.am_term.specs.declared.term.Term.TheViews.{out-Term}
use Rattle.am_term.specs.declared.term.Term.TheVariants.{Var}
use Rattle.am_term.specs.Same.{same_term}
use Rattle.am_term.specs.Sorts.{fits}
use Rattle.am_term.specs.Sorting.{sort_of, fits_place}
use Rattle.am_unify.specs.Occurrence.{number_occurs, count_of_numbers}
use Rattle.am_unify.specs.Size.{size}
use Rattle.am_unify.specs.Substitution.{after_binding, replace_in}

-- pairs of terms that are to become one, and what is found: bindings of numbers, or none
abbrev pub Solver : Type 0
Solver = List (Term × Term) → Option (List (ℕ × Term))

-- One step, for the first pair p and the others ps. `bound` is the recursion after a binding, `rest`
-- that after a deletion or a decomposition: the law of this recursion has the recursion itself at both.
module _ (sig : Signature) (ins : List SortId) (bound rest : Solver) where
  -- n becomes t everywhere, if it doesn't stand in t
  abbrev pub bind : ℕ → Term → Solver
  bind n t ps = if number_occurs n t then None else after_binding n t (bound (replace_in n t ps))

  -- a variable and another term: the variable becomes the term, if the term's sort fits
  abbrev pub bind_term : ℕ → SortId → Term → Solver
  bind_term n s t ps = if fits_place sig (sort_of sig ins t) s then bind n t ps else None

  -- two variables: that one is bound whose sort the other's fits, the left one if the sorts are equal
  abbrev pub bind_variable : ℕ → SortId → ℕ → SortId → Solver
  bind_variable n s m r ps = if fits sig r s then bind n (Var m r) ps else if fits sig s r then bind m (Var n s) ps else None

  -- two symbols at arguments: if it is one symbol with as many, the arguments are to become one
  abbrev pub decompose : SymId → List Term → SymId → List Term → Solver
  decompose f as_ g bs ps = if f.0 == g.0 && length as_ == length bs then rest (zip as_ bs ++ ps) else None

  -- two terms that aren't one, by what they are
  abbrev pub open_pair : Term → Term → Term-F Term → Term-F Term → Solver
  open_pair t u (Term-F.Var n s) (Term-F.Var m r) ps = bind_variable n s m r ps
  open_pair t u (Term-F.Var n s) (Term-F.In j) ps = bind_term n s u ps
  open_pair t u (Term-F.Var n s) (Term-F.App g bs) ps = bind_term n s u ps
  open_pair t u (Term-F.In k) (Term-F.Var m r) ps = bind_term m r t ps
  open_pair t u (Term-F.In k) (Term-F.In j) ps = None
  open_pair t u (Term-F.In k) (Term-F.App g bs) ps = None
  open_pair t u (Term-F.App f as_) (Term-F.Var m r) ps = bind_term m r t ps
  open_pair t u (Term-F.App f as_) (Term-F.In j) ps = None
  open_pair t u (Term-F.App f as_) (Term-F.App g bs) ps = decompose f as_ g bs ps

  -- a pair of one term twice is deleted
  abbrev pub mgu_step : Term × Term → Solver
  mgu_step p ps = if same_term p.0 p.1 then rest ps else open_pair p.0 p.1 (out-Term p.0) (out-Term p.1) ps

-- The recursion is counted so that it is seen to end: by the bindings that are left, and between two of
-- them by the steps. What is counted is always enough, so that a reader needs the law of `mgu` alone.
abbrev pub mgu_within : Signature → List SortId → Solver → ℕ → Solver
mgu_within sig ins bound m [] = Some []
mgu_within sig ins bound zero (p ∷ ps) = None
mgu_within sig ins bound (suc m) (p ∷ ps) = mgu_step sig ins bound (mgu_within sig ins bound m) p ps

abbrev pub mgu_to : Signature → List SortId → ℕ → Solver
mgu_to sig ins zero ps = None
mgu_to sig ins (suc n) ps = mgu_within sig ins (mgu_to sig ins n) (size ps) ps

-- No pairs have the empty unifier, `mgu sig ins [] ≡ Some []`, and
-- `mgu sig ins (p ∷ ps) ≡ mgu_step sig ins (mgu sig ins) (mgu sig ins) p ps`.
unfoldable pub mgu : Signature → List SortId → Solver
mgu sig ins ps = mgu_to sig ins (suc (count_of_numbers ps)) ps
