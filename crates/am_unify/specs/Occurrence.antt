-- Which numbers the variables of a term have, and whether these variables have the sorts given for their numbers. That a
-- variable occurs, by its number and its sort, is said in am_term, which law_of_occurrence ties to this.
use Rattle.std.specs.Prelude.{◌≡◌, ◌+◌, ◌||◌, ◌&&◌, ◌==◌, ℕ, zero, suc, Bool, true, false, List, [], ◌∷◌, map, max, if◌then◌else◌}
use Rattle.std.specs.List.{list_any, list_all}
use Rattle.std.proofs.Common.{refl, ap, ◌∙◌}
use Rattle.am_term.specs.declared.id.SortId.{SortId}
use Rattle.am_term.specs.declared.id.SymId.{SymId}
use Rattle.am_term.specs.declared.term.Term.{Term}
use Rattle.am_term.specs.declared.term.Term.TheOpen.{Term-F}
use Rattle.am_term.specs.declared.term.Term.TheVariants.{Var, In, App}
use Rattle.am_term.specs.declared.term.Term.TheFolds.{fold-Term}
use Rattle.am_term.specs.Fold.{fold-Var, fold-In, fold-App}
use Rattle.am_term.specs.Sorts.{same_sort}
use Rattle.am_term.specs.Span.{span}

any-map : (f : Term → Bool) (ts : List Term) → list_any (λ b. b) (map f ts) ≡ list_any f ts
any-map f [] = refl
any-map f (t ∷ ts) = ap (λ b. f t || b) (any-map f ts)

all-map : (f : Term → Bool) (ts : List Term) → list_all (λ b. b) (map f ts) ≡ list_all f ts
all-map f [] = refl
all-map f (t ∷ ts) = ap (λ b. f t && b) (all-map f ts)

abbrev pub number_occurs_step : ℕ → Term-F Bool → Bool
number_occurs_step n (Term-F.Var m s) = n == m
number_occurs_step n (Term-F.In k) = false
number_occurs_step n (Term-F.App f tests) = list_any (λ b. b) tests

-- a variable of this number occurs in the term, whatever its sort
unfoldable pub number_occurs : ℕ → Term → Bool
number_occurs n = fold-Term Bool (number_occurs_step n)

pub number_occurs-Var : (n m : ℕ) (s : SortId) → number_occurs n (Var m s) ≡ (n == m)
unfolding number_occurs
number_occurs-Var n = fold-Var Bool (number_occurs_step n)

pub number_occurs-In : (n k : ℕ) → number_occurs n (In k) ≡ false
unfolding number_occurs
number_occurs-In n = fold-In Bool (number_occurs_step n)

pub number_occurs-App : (n : ℕ) (f : SymId) (args : List Term) → number_occurs n (App f args) ≡ list_any (number_occurs n) args
unfolding number_occurs
number_occurs-App n f args = fold-App Bool (number_occurs_step n) f args ∙ any-map (number_occurs n) args

pub ruleset number_occurs_laws = (number_occurs-Var, number_occurs-In, number_occurs-App)

-- it occurs in one side of one of these pairs
abbrev pub number_occurs_in : ℕ → List (Term × Term) → Bool
number_occurs_in n ps = list_any (λ p. number_occurs n p.0 || number_occurs n p.1) ps

-- how many numbers below a bound pass a test
abbrev pub count_below : ℕ → (ℕ → Bool) → ℕ
count_below zero test = 0
count_below (suc n) test = (if test n then 1 else 0) + count_below n test

-- one more than the greatest number of a variable of the pairs
abbrev pub span_of : List (Term × Term) → ℕ
span_of [] = 0
span_of (p ∷ ps) = max (max (span p.0) (span p.1)) (span_of ps)

-- how many different numbers the variables of the pairs have
unfoldable pub count_of_numbers : List (Term × Term) → ℕ
count_of_numbers ps = count_below (span_of ps) (λ n. number_occurs_in n ps)

abbrev pub has_given_sorts_step : (ℕ → SortId) → Term-F Bool → Bool
has_given_sorts_step sorts (Term-F.Var n s) = same_sort s (sorts n)
has_given_sorts_step sorts (Term-F.In k) = true
has_given_sorts_step sorts (Term-F.App f tests) = list_all (λ b. b) tests

-- each variable of the term has the sort that is given for its number
unfoldable pub has_given_sorts : (ℕ → SortId) → Term → Bool
has_given_sorts sorts = fold-Term Bool (has_given_sorts_step sorts)

pub has_given_sorts-Var : (sorts : ℕ → SortId) (n : ℕ) (s : SortId) → has_given_sorts sorts (Var n s) ≡ same_sort s (sorts n)
unfolding has_given_sorts
has_given_sorts-Var sorts = fold-Var Bool (has_given_sorts_step sorts)

pub has_given_sorts-In : (sorts : ℕ → SortId) (k : ℕ) → has_given_sorts sorts (In k) ≡ true
unfolding has_given_sorts
has_given_sorts-In sorts = fold-In Bool (has_given_sorts_step sorts)

pub has_given_sorts-App : (sorts : ℕ → SortId) (f : SymId) (args : List Term) → has_given_sorts sorts (App f args) ≡ list_all (has_given_sorts sorts) args
unfolding has_given_sorts
has_given_sorts-App sorts f args = fold-App Bool (has_given_sorts_step sorts) f args ∙ all-map (has_given_sorts sorts) args

pub ruleset has_given_sorts_laws = (has_given_sorts-Var, has_given_sorts-In, has_given_sorts-App)
