-- Matching: which instance of a pattern is a term, whose own variables are constants here.
use Rattle.std.specs.Prelude.{◌≡◌, ◌==◌, ◌&&◌, ℕ, Bool, true, false, Option, Some, None, List, [], ◌∷◌, length, map, IsTrue, if◌then◌else◌}
use Rattle.std.specs.List.{list_any}
use Rattle.std.proofs.Common.{ap}
use Rattle.am_term.specs.declared.id.SortId.{SortId}
use Rattle.am_term.specs.declared.id.SymId.{SymId}
use Rattle.am_term.specs.declared.signature.Signature.{Signature}
use Rattle.am_term.specs.declared.term.Term.{Term}
use Rattle.am_term.specs.declared.term.Term.TheOpen.{Term-F}
use Rattle.am_term.specs.declared.term.Term.TheViews.{out-Term}
use Rattle.am_term.specs.declared.term.Term.TheVariants.{Var, In, App}
use Rattle.am_term.specs.declared.term.Term.TheFolds.{fold-Term}
use Rattle.am_term.specs.Fold.{fold-Var, fold-In, fold-App}
use Rattle.am_term.specs.Same.{is_in, same_term}
use Rattle.am_term.specs.Sorting.{sort_of, fits_place}
use Rattle.am_unify.specs.Occurrence.{number_occurs}
use Rattle.am_unify.specs.Substitution.{Substitution, apply, listed, IsRising, insert_binding}
use Rattle.am_unify.specs.Unifier.{IsFitting}

-- terms that fit the variables' sorts make the pattern the term
pub record IsInstance (sig : Signature) (ins : List SortId) (sorts : ℕ → SortId) (θ : Substitution) (pattern term : Term) : Type 0 where
  pub fitting : IsFitting sig ins sorts θ
  pub equal : apply θ pattern ≡ term

-- a number is bound
abbrev pub is_bound : ℕ → List (ℕ × Term) → Bool
is_bound n bs = list_any (λ b. n == b.0) bs

-- bindings of exactly the pattern's variables, in order of their numbers, and the only ones for them
pub record IsMatch (sig : Signature) (ins : List SortId) (sorts : ℕ → SortId) (bs : List (ℕ × Term)) (pattern term : Term) : Type 0 where
  pub matches : IsInstance sig ins sorts (listed bs) pattern term
  pub rising : IsRising bs
  pub exact : (n : ℕ) → is_bound n bs ≡ number_occurs n pattern
  pub only : (θ : Substitution) → apply θ pattern ≡ term → (n : ℕ) → IsTrue (number_occurs n pattern) → θ n (sorts n) ≡ listed bs n (sorts n)

-- an answer: no instance is the term, or the one
abbrev pub IsMatched : Signature → List SortId → (ℕ → SortId) → Term → Term → Option (List (ℕ × Term)) → Type 0
IsMatched sig ins sorts pattern term None = (θ : Substitution) → IsInstance sig ins sorts θ pattern term → ⊥
IsMatched sig ins sorts pattern term (Some bs) = IsMatch sig ins sorts bs pattern term

-- Matching from left to right, with what is bound so far: a variable that is bound has to meet its term
-- again, and another takes a term whose sort fits.

-- whether the first binding of a number is this term, if there is one
abbrev pub held : List (ℕ × Term) → ℕ → Term → Option Bool
held [] n t = None
held (b ∷ bs) n t = if b.0 == n then Some (same_term b.1 t) else held bs n t

-- what is bound once a pattern is matched with a term, by the term and by what is bound so far
abbrev pub PatternMatch : Type 0
PatternMatch = Term → List (ℕ × Term) → Option (List (ℕ × Term))

abbrev pub and_then : Option (List (ℕ × Term)) → (List (ℕ × Term) → Option (List (ℕ × Term))) → Option (List (ℕ × Term))
and_then None next = None
and_then (Some bs) next = next bs

abbrev pub match_all : List PatternMatch → List Term → List (ℕ × Term) → Option (List (ℕ × Term))
match_all [] [] bs = Some bs
match_all [] (t ∷ ts) bs = None
match_all (m ∷ ms) [] bs = None
match_all (m ∷ ms) (t ∷ ts) bs = and_then (m t bs) (match_all ms ts)

module _ (sig : Signature) (ins : List SortId) where
  abbrev pub bind_held : ℕ → SortId → Term → List (ℕ × Term) → Option Bool → Option (List (ℕ × Term))
  bind_held n s t bs (Some true) = Some bs
  bind_held n s t bs (Some false) = None
  bind_held n s t bs None = if fits_place sig (sort_of sig ins t) s then Some (insert_binding n t bs) else None

  abbrev pub match_app : SymId → List PatternMatch → Term-F Term → List (ℕ × Term) → Option (List (ℕ × Term))
  match_app f ms (Term-F.Var n s) bs = None
  match_app f ms (Term-F.In k) bs = None
  match_app f ms (Term-F.App g ts) bs = if f.0 == g.0 && length ms == length ts then match_all ms ts bs else None

  abbrev pub match_step : Term-F PatternMatch → PatternMatch
  match_step (Term-F.Var n s) t bs = bind_held n s t bs (held bs n t)
  match_step (Term-F.In k) t bs = if is_in k (out-Term t) then Some bs else None
  match_step (Term-F.App f ms) t bs = match_app f ms (out-Term t) bs

  unfoldable pub matched : Term → PatternMatch
  matched = fold-Term PatternMatch match_step

  pub matched-Var : (n : ℕ) (s : SortId) (t : Term) (bs : List (ℕ × Term)) → matched (Var n s) t bs ≡ bind_held n s t bs (held bs n t)
  unfolding matched
  matched-Var n s t bs = ap (λ (m : PatternMatch). m t bs) (fold-Var PatternMatch match_step n s)

  pub matched-In : (k : ℕ) (t : Term) (bs : List (ℕ × Term)) → matched (In k) t bs ≡ (if is_in k (out-Term t) then Some bs else None)
  unfolding matched
  matched-In k t bs = ap (λ (m : PatternMatch). m t bs) (fold-In PatternMatch match_step k)

  pub matched-App : (f : SymId) (args : List Term) (t : Term) (bs : List (ℕ × Term)) → matched (App f args) t bs ≡ match_app f (map matched args) (out-Term t) bs
  unfolding matched
  matched-App f args t bs = ap (λ (m : PatternMatch). m t bs) (fold-App PatternMatch match_step f args)

pub ruleset matched_laws = (matched-Var, matched-In, matched-App)
