-- Closing: each variable of an answer becomes the first input whose sort fits, else the first computable constant.
use Rattle.std.specs.Prelude.{◌≡◌, ◌&&◌, ◌==◌, ◌⊎◌, ℕ, Bool, List, [], ◌∷◌, map, length, Option, Some, None, option_map, IsTrue, IsFalse}
use Rattle.std.specs.List.{position}
use Rattle.std.specs.Option.{option_or}
use Rattle.am_term.specs.declared.id.SortId.{SortId}
use Rattle.am_term.specs.declared.symbol.Symbol.{Symbol}
use Rattle.am_term.specs.declared.signature.Signature.{Signature}
use Rattle.am_term.specs.declared.term.Term.{Term}
use Rattle.am_term.specs.declared.term.Term.TheVariants.{In, App}
use Rattle.am_term.specs.Sorts.{fits}
use Rattle.am_term.specs.Sorting.{fits_place}
use Rattle.am_term.specs.Symbols.{is_computable}
use Rattle.am_clause.specs.declared.clause.Clause.{Clause}
use Rattle.am_clause.specs.declared.row.Made.{Made}
use Rattle.am_clause.specs.Distinct.{among}
use Rattle.am_clause.specs.Variables.{Variable, same_variable, in_clause, variables}
use Rattle.am_clause.specs.Numbered.{AreNumbered}
use Rattle.am_clause.specs.NumberedMade.{made_occurrences}
use Rattle.am_clause.specs.Rules.{close}
use Rattle.am_clause.specs.Steps.{IsMadeOfOne}

-- the first input whose sort fits
abbrev pub input_for : Signature → List SortId → SortId → Option ℕ
input_for sig ins s = position (λ r. fits sig r s) ins

-- a program can compute it, it takes no arguments, and its result fits
abbrev pub is_constant_for : Signature → SortId → Symbol → Bool
is_constant_for sig s y = is_computable y.kind && (length y.args == 0 && fits_place sig y.result s)

-- the first such symbol, by number
abbrev pub constant_for : Signature → SortId → Option ℕ
constant_for sig s = position (is_constant_for sig s) sig.symbols

abbrev pub constant_term : ℕ → Term
constant_term n = App (record { 0 = n }) []

-- what a variable of this sort becomes, if there is anything
abbrev pub closing_term : Signature → List SortId → SortId → Option Term
closing_term sig ins s = option_or (option_map (λ k. In k) (input_for sig ins s)) (option_map constant_term (constant_for sig s))

-- a step of closing, with these terms for the variables
pub record IsClosing (sig : Signature) (ins : List SortId) (p : Clause) (m : Made) : Type 0 where
  pub first : List Term
  pub bound_by : m.with ≡ first ∷ []
  pub made : IsMadeOfOne sig ins close p first m.clause
  pub chosen : map (λ (v : Variable). closing_term sig ins v.1) (variables p) ≡ map Some first
  pub numbered : AreNumbered (made_occurrences m)

-- a variable of the clause becomes nothing
pub record HasOpen (sig : Signature) (ins : List SortId) (p : Clause) : Type 0 where
  pub variable : Variable
  pub occurs : IsTrue (among same_variable variable (in_clause p))
  pub unbound : closing_term sig ins variable.1 ≡ None

-- a step of closing, and none exactly where the rule doesn't suit the clause or a variable becomes nothing
abbrev pub AnswersClosing : Signature → List SortId → Clause → Option Made → Type 0
AnswersClosing sig ins p None = IsFalse (close.suits p) ⊎ HasOpen sig ins p
AnswersClosing sig ins p (Some m) = IsClosing sig ins p m
