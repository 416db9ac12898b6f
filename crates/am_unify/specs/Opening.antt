-- What the first pair asks for, and what is left when the next binding is known.
use Rattle.std.specs.Prelude.{◌≡◌, ◌&&◌, ◌==◌, ◌<◌, ℕ, Bool, false, Some, None, List, [], ◌∷◌, length, nat_lt, if◌then◌else◌}
use Rattle.std.specs.List.{zip}
use Rattle.am_term.specs.declared.id.SortId.{SortId}
use Rattle.am_term.specs.declared.signature.Signature.{Signature}
use Rattle.am_term.specs.declared.term.Term.{Term}
use Rattle.am_term.specs.declared.term.Term.TheOpen.{Term-F}
use Rattle.am_term.specs.declared.term.Term.TheViews.{out-Term}
use Rattle.am_term.specs.declared.term.Term.TheVariants.{Var}
use Rattle.am_term.specs.Same.{same_term}
use Rattle.am_term.specs.Sorts.{fits}
use Rattle.am_term.specs.Sorting.{sort_of, fits_place}
use Rattle.am_unify.specs.declared.opening.Opened.{Opened}
use Rattle.am_unify.specs.declared.opening.Opened.TheVariants.{More, Bind, Clash}
use Rattle.am_unify.specs.declared.solving.Step.{Step}
use Rattle.am_unify.specs.declared.solving.Step.TheVariants.{Done, Stuck, Next}
use Rattle.am_unify.specs.Mgu.{mgu}
use Rattle.am_unify.specs.Occurrence.{number_occurs, count_of_numbers}
use Rattle.am_unify.specs.Substitution.{after_binding, replace_in}

abbrev pub open_bind : ℕ → Term → Opened
open_bind n t = if number_occurs n t then Clash else Bind n t

module _ (sig : Signature) (ins : List SortId) where
  abbrev pub open_term : ℕ → SortId → Term → Opened
  open_term n s t = if fits_place sig (sort_of sig ins t) s then open_bind n t else Clash

  abbrev pub open_variables : ℕ → SortId → ℕ → SortId → Opened
  open_variables n s m r = if fits sig r s then open_bind n (Var m r) else if fits sig s r then open_bind m (Var n s) else Clash

  abbrev pub open_heads : Term → Term → Term-F Term → Term-F Term → Opened
  open_heads t u (Term-F.Var n s) (Term-F.Var m r) = open_variables n s m r
  open_heads t u (Term-F.Var n s) (Term-F.In j) = open_term n s u
  open_heads t u (Term-F.Var n s) (Term-F.App g bs) = open_term n s u
  open_heads t u (Term-F.In k) (Term-F.Var m r) = open_term m r t
  open_heads t u (Term-F.In k) (Term-F.In j) = Clash
  open_heads t u (Term-F.In k) (Term-F.App g bs) = Clash
  open_heads t u (Term-F.App f as_) (Term-F.Var m r) = open_term m r t
  open_heads t u (Term-F.App f as_) (Term-F.In j) = Clash
  open_heads t u (Term-F.App f as_) (Term-F.App g bs) = if f.0 == g.0 && length as_ == length bs then More (zip as_ bs) else Clash

  -- the pairs that take a pair's place, or the binding that it asks for
  unfoldable pub opened : Term → Term → Opened
  opened t u = if same_term t u then More [] else open_heads t u (out-Term t) (out-Term u)

  -- the binding asked for next is the first one of the recursion, and fewer variables are left after it
  pub record IsNext (ps : List (Term × Term)) (n : ℕ) (t : Term) (rest : List (Term × Term)) : Type 0 where
    pub same : mgu sig ins ps ≡ after_binding n t (mgu sig ins (replace_in n t rest))
    pub fewer : count_of_numbers (replace_in n t rest) < count_of_numbers ps

  -- no pairs are left, or there is no unifier, or a binding is asked for
  abbrev pub Reaches : List (Term × Term) → Step → Type 0
  Reaches ps Done = mgu sig ins ps ≡ Some []
  Reaches ps Stuck = mgu sig ins ps ≡ None
  Reaches ps (Next n t rest) = IsNext ps n t rest

-- the first binding has a smaller number
abbrev pub starts_below : List (ℕ × Term) → ℕ → Bool
starts_below [] n = false
starts_below (b ∷ bs) n = nat_lt b.0 n
