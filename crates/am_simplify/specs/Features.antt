-- Features of a clause: which symbol, relation or input stands where, each told by a bit of a number of 64 bits that
-- hardly any other tells. A clause that subsumes another has no feature that the other lacks.
use Rattle.std.specs.Prelude.{◌≡◌, ◌==◌, ◌+◌, ◌*◌, ◌/◌, ◌%◌, ◌^◌, ℕ, Bool, Option, Some, None, List, [], ◌∷◌, map, bit_or, if◌then◌else◌}
use Rattle.std.proofs.Common.{ap}
use Rattle.am_term.specs.Fold.{fold-Var, fold-In, fold-App}
use Rattle.am_term.specs.declared.id.SortId.{SortId}
use Rattle.am_term.specs.declared.id.SymId.{SymId}
use Rattle.am_term.specs.declared.term.Atom.{Atom}
use Rattle.am_term.specs.declared.term.Atom.TheVariants.{Rel, Eq}
use Rattle.am_term.specs.declared.term.Literal.{Literal}
use Rattle.am_term.specs.declared.term.Term.{Term}
use Rattle.am_term.specs.declared.term.Term.TheFolds.{fold-Term}
use Rattle.am_term.specs.declared.term.Term.TheOpen.{Term-F}
use Rattle.am_term.specs.declared.term.Term.TheVariants.{Var, In, App}
use Rattle.am_clause.specs.declared.clause.Clause.{Clause}

-- a place with one number more on the way to it
unfoldable pub place_with : ℕ → ℕ → ℕ
place_with place n = (place + n) % 2 ^ 64 * 11400714819323198485 % 2 ^ 64

-- one bit for a place
unfoldable pub bit_of : ℕ → ℕ
bit_of place = 1 * 2 ^ (place / 288230376151711744 % 64) % 2 ^ 64

-- features of something, from the place where it stands
abbrev pub Featuring : Type 0
Featuring = ℕ → ℕ

-- those of some neighbours, of which the first stands at the place
abbrev pub joined_features : ℕ → List Featuring → ℕ
joined_features place [] = 0
joined_features place (p ∷ ps) = bit_or (p place) (joined_features (place_with place 3) ps)

-- the place's own, and those of what is below it
abbrev pub headed : ℕ → List Featuring → ℕ
headed place ps = bit_or (bit_of place) (joined_features place ps)

abbrev pub features_step : Term-F Featuring → Featuring
features_step (Term-F.Var n s) place = 0
features_step (Term-F.In k) place = bit_of (place_with (place_with place 1) k)
features_step (Term-F.App f below) place = headed (place_with (place_with place 2) f.0) below

-- the features of a term that stands at a place: a variable has none
unfoldable pub features : Term → Featuring
features = fold-Term Featuring features_step

abbrev pub headed_features : ℕ → List Term → ℕ
headed_features place ts = headed place (map features ts)

pub features-Var : (n : ℕ) (s : SortId) (place : ℕ) → features (Var n s) place ≡ 0
unfolding features
features-Var n s place = ap (λ (p : Featuring). p place) (fold-Var Featuring features_step n s)

pub features-In : (k place : ℕ) → features (In k) place ≡ bit_of (place_with (place_with place 1) k)
unfolding features
features-In k place = ap (λ (p : Featuring). p place) (fold-In Featuring features_step k)

pub features-App : (f : SymId) (args : List Term) (place : ℕ) → features (App f args) place ≡ headed_features (place_with (place_with place 2) f.0) args
unfolding features
features-App f args place = ap (λ (p : Featuring). p place) (fold-App Featuring features_step f args)

pub ruleset features_laws = (features-Var, features-In, features-App)

-- where a literal of a sign stands
abbrev pub sign_place : Bool → ℕ
sign_place positive = if positive then 5 else 7

abbrev pub atom_features : ℕ → Atom → ℕ
atom_features place (Rel r args) = headed_features (place_with (place_with place 4) r.0) args
atom_features place (Eq left right) = headed_features (place_with place 6) (left ∷ right ∷ [])

abbrev pub literal_features : Literal → ℕ
literal_features l = atom_features (sign_place l.positive) l.atom

abbrev pub literals_features : List Literal → ℕ
literals_features [] = 0
literals_features (l ∷ ls) = bit_or (literal_features l) (literals_features ls)

abbrev pub answer_features : Option (List Term) → ℕ
answer_features None = 0
answer_features (Some ts) = headed_features 11 ts

-- those of its answer and of all its literals
abbrev pub clause_features : Clause → ℕ
clause_features c = bit_or (answer_features c.answer) (literals_features c.literals)

-- the second number has each bit that the first one has
abbrev pub are_within : ℕ → ℕ → Bool
are_within m n = bit_or m n == n
