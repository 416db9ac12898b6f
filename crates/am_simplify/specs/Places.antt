-- The places of a literal that aren't variables, as paths in preorder.
use Rattle.std.specs.Prelude.{◌≡◌, ◌⊎◌, ◌++◌, ◌+◌, ℕ, false, List, [], ◌∷◌, map, Some}
use Rattle.std.proofs.Common.{ap}
use Rattle.am_term.specs.Fold.{fold-Var, fold-In, fold-App}
use Rattle.am_term.specs.Parts.{parts_of, place_in}
use Rattle.am_term.specs.Variables.{is_variable}
use Rattle.am_term.specs.declared.id.SortId.{SortId}
use Rattle.am_term.specs.declared.id.SymId.{SymId}
use Rattle.am_term.specs.declared.term.Atom.{Atom}
use Rattle.am_term.specs.declared.term.Term.{Term}
use Rattle.am_term.specs.declared.term.Term.TheFolds.{fold-Term}
use Rattle.am_term.specs.declared.term.Term.TheOpen.{Term-F}
use Rattle.am_term.specs.declared.term.Term.TheVariants.{Var, In, App}

-- the places of something that stands at a path
abbrev pub Placing : Type 0
Placing = List ℕ → List (List ℕ)

-- the places of some neighbours, of which the first has the number k
abbrev pub places_from : ℕ → List Placing → Placing
places_from k [] path = []
places_from k (p ∷ ps) path = p (path ++ k ∷ []) ++ places_from (k + 1) ps path

abbrev pub places_step : Term-F Placing → Placing
places_step (Term-F.Var n s) path = []
places_step (Term-F.In k) path = path ∷ []
places_step (Term-F.App f below) path = path ∷ places_from 1 below path

-- the places of a term that stands at a path: a variable isn't one, and a symbol comes before its arguments
unfoldable pub places : Term → Placing
places = fold-Term Placing places_step

abbrev pub places_all : ℕ → List Term → Placing
places_all k ts = places_from k (map places ts)

pub places-Var : (n : ℕ) (s : SortId) (path : List ℕ) → places (Var n s) path ≡ []
unfolding places
places-Var n s path = ap (λ (p : Placing). p path) (fold-Var Placing places_step n s)

pub places-In : (k : ℕ) (path : List ℕ) → places (In k) path ≡ path ∷ []
unfolding places
places-In k path = ap (λ (p : Placing). p path) (fold-In Placing places_step k)

pub places-App : (f : SymId) (args : List Term) (path : List ℕ) → places (App f args) path ≡ path ∷ places_all 1 args path
unfolding places
places-App f args path = ap (λ (p : Placing). p path) (fold-App Placing places_step f args)

pub ruleset places_laws = (places-Var, places-In, places-App)

-- those of the arguments of a relation, or of the left and the right side of an equation
abbrev pub places_of_atom : Atom → List (List ℕ)
places_of_atom a = places_all 1 (parts_of a) []

-- the path is one of the list
abbrev pub IsListed : List ℕ → List (List ℕ) → Type 0
IsListed path [] = ⊥
IsListed path (p ∷ ps) = (path ≡ p) ⊎ IsListed path ps

-- a part that isn't a variable stands at the path
pub record IsPlace (a : Atom) (path : List ℕ) : Type 0 where
  pub part : Term
  pub stands : place_in path a ≡ Some part
  pub solid : is_variable part ≡ false
