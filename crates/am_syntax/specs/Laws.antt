-- What holds of the flaws, the meaning and the names of all written terms, atoms and formulas.
use Rattle.std.specs.Prelude.{◌≡◌, ◌<◌, ◌++◌, ℕ, true, false, Option, Some, None, List, [], map, length, slice_get, slice_index_or}
use Rattle.am_term.specs.declared.id.SortId.{SortId}
use Rattle.am_term.specs.declared.signature.Signature.{Signature}
use Rattle.am_term.specs.Sorting.{sort_of, is_sorted_atom}
use Rattle.am_term.specs.Variables.{occurs}
use Rattle.am_syntax.specs.declared.scope.Flaw.{Flaw}
use Rattle.am_syntax.specs.declared.scope.Flaw.TheVariants.{UnknownName, Unbound}
use Rattle.am_syntax.specs.declared.scope.Standing.{Standing}
use Rattle.am_syntax.specs.declared.scope.Standing.TheVariants.{Variable, Input}
use Rattle.am_syntax.specs.declared.written.Words.{Words}
use Rattle.am_syntax.specs.declared.written.WrittenTerm.{WrittenTerm}
use Rattle.am_syntax.specs.declared.written.WrittenAtom.{WrittenAtom}
use Rattle.am_syntax.specs.declared.written.WrittenFormula.{WrittenFormula}
use Rattle.am_syntax.specs.Positions.{position_of}
use Rattle.am_syntax.specs.Scopes.{Scope, Profile, profile, standing_of, standing_sort}
use Rattle.am_syntax.specs.Flaws.{has_unknown_name, has_unbound, written_sort, term_has, atom_has, formula_has, has_quantifier}
use Rattle.am_syntax.specs.Forms.{is_spellable, is_spellable_atom, is_spellable_formula}
use Rattle.am_syntax.specs.Meaning.{term_meaning, atom_meaning, formula_meaning}
use Rattle.am_syntax.specs.Naming.{Naming, named_term, named_atom, named_formula}
use Rattle.am_syntax.specs.Occurring.{occurs_in_atom, occurs_in_formula}
use Rattle.am_term.specs.SortedFormula.{is_sorted_formula}

-- ---- what has no flaw is well sorted

-- A scope is that of a signature and of inputs of these sorts: the names, the symbols and the parents
-- are the signature's, each variable has a sort of the signature, and each input the sort listed for it.
pub record MatchesSignature (s : Scope) (sig : Signature) (ins : List SortId) : Type 0 where
  pub names : s.names ≡ map (λ y. y.name) sig.symbols
  pub symbols : s.symbols ≡ map profile sig.symbols
  pub parents : s.parents ≡ sig.parents
  pub variables : (w : List ℕ) (n : ℕ) (sort : SortId) → standing_of w s.bound ≡ Some (Variable n sort) → sort.0 < length sig.sorts
  pub inputs : (w : List ℕ) (k : ℕ) (sort : SortId) → standing_of w s.bound ≡ Some (Input k sort) → slice_get ins k ≡ Some sort

-- a term with none of the four flaws
abbrev pub IsFlawless : Scope → WrittenTerm → Type 0
IsFlawless s t = (flaw : Flaw) → term_has s flaw t ≡ false

-- an atom with none of them
abbrev pub IsFlawlessAtom : Scope → WrittenAtom → Type 0
IsFlawlessAtom s a = (flaw : Flaw) → atom_has s flaw a ≡ false

-- a formula with none of them
abbrev pub IsFlawlessFormula : Scope → WrittenFormula → Type 0
IsFlawlessFormula s f = (flaw : Flaw) → formula_has s flaw f ≡ false

-- a written term has a sort, and what it means has the same sort
pub record IsWellSorted (s : Scope) (sig : Signature) (ins : List SortId) (t : WrittenTerm) : Type 0 where
  pub sort : SortId
  pub written : written_sort s t ≡ Some sort
  pub meant : sort_of sig ins (term_meaning s t) ≡ Some sort

-- a term without a flaw has a sort, and what it means has the same sort
abbrev pub FlawlessTermsAreSorted : Type 0
FlawlessTermsAreSorted = (s : Scope) (sig : Signature) (ins : List SortId) (t : WrittenTerm) → MatchesSignature s sig ins → IsFlawless s t → IsWellSorted s sig ins t

-- what an atom without a flaw means is well sorted
abbrev pub FlawlessAtomsAreSorted : Type 0
FlawlessAtomsAreSorted = (s : Scope) (sig : Signature) (ins : List SortId) (a : WrittenAtom) → MatchesSignature s sig ins → IsFlawlessAtom s a → is_sorted_atom sig ins (atom_meaning s a) ≡ true

-- so is what a formula without a flaw and without a quantifier means
abbrev pub FlawlessFormulasAreSorted : Type 0
FlawlessFormulasAreSorted = (s : Scope) (sig : Signature) (ins : List SortId) (f : WrittenFormula) → MatchesSignature s sig ins → IsFlawlessFormula s f → has_quantifier f ≡ false → is_sorted_formula sig ins (formula_meaning s f) ≡ true

-- ---- what a term stands for is written back

-- the names of a scope are those by which symbols, variables and inputs are written
pub record NamesBack (s : Scope) (n : Naming) : Type 0 where
  pub symbols : (w : List ℕ) (k : ℕ) → position_of w s.names ≡ Some k → slice_index_or n.symbols k [] ≡ w
  pub variables : (w : List ℕ) (k : ℕ) (sort : SortId) → standing_of w s.bound ≡ Some (Variable k sort) → slice_index_or n.variables k [] ≡ w
  pub inputs : (w : List ℕ) (k : ℕ) (sort : SortId) → standing_of w s.bound ≡ Some (Input k sort) → slice_index_or n.inputs k [] ≡ w

-- a term that a form can be, and all of whose names stand for something, is how its meaning is written
abbrev pub TermsAreWrittenBack : Type 0
TermsAreWrittenBack = (s : Scope) (n : Naming) (words : Words) (t : WrittenTerm) → NamesBack s n → is_spellable words t ≡ true → has_unknown_name s t ≡ false → has_unbound s t ≡ false → named_term n (term_meaning s t) ≡ t

-- so is such an atom
abbrev pub AtomsAreWrittenBack : Type 0
AtomsAreWrittenBack = (s : Scope) (n : Naming) (words : Words) (a : WrittenAtom) → NamesBack s n → is_spellable_atom words a ≡ true → atom_has s UnknownName a ≡ false → atom_has s Unbound a ≡ false → named_atom n (atom_meaning s a) ≡ a

-- so is such a formula without a quantifier
abbrev pub FormulasAreWrittenBack : Type 0
FormulasAreWrittenBack = (s : Scope) (n : Naming) (words : Words) (f : WrittenFormula) → NamesBack s n → is_spellable_formula words f ≡ true → formula_has s UnknownName f ≡ false → formula_has s Unbound f ≡ false → has_quantifier f ≡ false → named_formula n (formula_meaning s f) ≡ f

-- ---- in a larger scope nothing changes

-- the sort is one of the scope's
abbrev pub IsSortIn : Scope → Option SortId → Type 0
IsSortIn s None = Unit {0}
IsSortIn s (Some a) = a.0 < length s.parents

-- A scope has what another has: each name has the number that it has there, each number the symbol that
-- it has there, names stand for the same beside symbols, and its sorts are those of the other and perhaps
-- more behind them. The sorts of the smaller scope's symbols and names are among its own.
pub record Extends (s r : Scope) : Type 0 where
  pub names : (w : List ℕ) (k : ℕ) → position_of w s.names ≡ Some k → position_of w r.names ≡ Some k
  pub symbols : (k : ℕ) (y : Profile) → slice_get s.symbols k ≡ Some y → slice_get r.symbols k ≡ Some y
  pub bound : s.bound ≡ r.bound
  pub more : List (Option SortId)
  pub parents : r.parents ≡ s.parents ++ more
  pub results : (k : ℕ) (y : Profile) → slice_get s.symbols k ≡ Some y → IsSortIn s y.result
  pub standings : (w : List ℕ) (o : Standing) → standing_of w s.bound ≡ Some o → IsSortIn s (standing_sort o)

-- a term has the same flaws, sort and meaning in two scopes
pub record IsSameIn (s r : Scope) (t : WrittenTerm) : Type 0 where
  pub flaws : (flaw : Flaw) → term_has r flaw t ≡ term_has s flaw t
  pub sort : written_sort r t ≡ written_sort s t
  pub meaning : term_meaning r t ≡ term_meaning s t

-- an atom has the same flaws and meaning in two scopes
pub record IsSameAtomIn (s r : Scope) (a : WrittenAtom) : Type 0 where
  pub flaws : (flaw : Flaw) → atom_has r flaw a ≡ atom_has s flaw a
  pub meaning : atom_meaning r a ≡ atom_meaning s a

-- a formula has the same flaws and meaning in two scopes
pub record IsSameFormulaIn (s r : Scope) (f : WrittenFormula) : Type 0 where
  pub flaws : (flaw : Flaw) → formula_has r flaw f ≡ formula_has s flaw f
  pub meaning : formula_meaning r f ≡ formula_meaning s f

-- a term all of whose names stand for something is the same in a scope that extends its own
abbrev pub TermsAreKept : Type 0
TermsAreKept = (s r : Scope) (t : WrittenTerm) → Extends s r → has_unknown_name s t ≡ false → has_unbound s t ≡ false → IsSameIn s r t

-- so is such an atom
abbrev pub AtomsAreKept : Type 0
AtomsAreKept = (s r : Scope) (a : WrittenAtom) → Extends s r → atom_has s UnknownName a ≡ false → atom_has s Unbound a ≡ false → IsSameAtomIn s r a

-- so is such a formula
abbrev pub FormulasAreKept : Type 0
FormulasAreKept = (s r : Scope) (f : WrittenFormula) → Extends s r → formula_has s UnknownName f ≡ false → formula_has s Unbound f ≡ false → IsSameFormulaIn s r f

-- ---- the variables of a meaning

-- some name of the scope stands for the variable n of this sort
abbrev pub IsBoundIn : Scope → ℕ → SortId → Type 0
IsBoundIn s n sort = (w : List ℕ) × (standing_of w s.bound ≡ Some (Variable n sort))

-- some name of the scope stands for each variable that occurs in what a term means
abbrev pub TermVariablesAreBound : Type 0
TermVariablesAreBound = (s : Scope) (t : WrittenTerm) (n : ℕ) (sort : SortId) → occurs n sort (term_meaning s t) ≡ true → IsBoundIn s n sort

-- so it is for an atom
abbrev pub AtomVariablesAreBound : Type 0
AtomVariablesAreBound = (s : Scope) (a : WrittenAtom) (n : ℕ) (sort : SortId) → occurs_in_atom n sort (atom_meaning s a) ≡ true → IsBoundIn s n sort

-- so it is for a formula
abbrev pub FormulaVariablesAreBound : Type 0
FormulaVariablesAreBound = (s : Scope) (f : WrittenFormula) (n : ℕ) (sort : SortId) → occurs_in_formula n sort (formula_meaning s f) ≡ true → IsBoundIn s n sort
