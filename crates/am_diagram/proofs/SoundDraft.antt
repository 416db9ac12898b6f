-- What holds of all that a diagram file has declared so far.
use Rattle.std.specs.Prelude.{◌≡◌, ◌+◌, ◌≤◌, ℕ, true, false, List, length, map, IsTrue}
use Rattle.std.specs.List.{AllByRecursion}
use Rattle.am_term.specs.declared.id.SortId.{SortId}
use Rattle.am_term.specs.declared.symbol.Symbol.{Symbol}
use Rattle.am_term.specs.Names.{is_name}
use Rattle.am_term.specs.NameLists.{is_among, are_distinct}
use Rattle.am_syntax.specs.declared.written.WrittenLiteral.{WrittenLiteral}
use Rattle.am_syntax.specs.Laws.{IsFlawlessAtom}
use Rattle.am_theory.specs.declared.theory.Theory.{Theory}
use Rattle.am_theory.specs.Facts.{IsSort, IsConcrete}
use Rattle.am_diagram.specs.declared.draft.Draft.{Draft}
use Rattle.am_diagram.specs.Drafts.{requirement_scope, given_scope}
use Rattle.am_diagram.specs.Facts.{IsFree}
use Rattle.am_diagram.specs.Faults.{used_names}
use Rattle.am_diagram.specs.Limits.{dummy_limit, object_limit, given_limit, requirement_limit}

abbrev pub symbol_names : Theory → List (List ℕ)
symbol_names t = map (λ (y : Symbol). y.name) t.sig.symbols

-- an input or output
pub record DummySound (t : Theory) (e : List ℕ × SortId) : Type 0 where
  pub free : IsFree t e.0
  pub apart : is_among e.0 (symbol_names t) ≡ false
  pub sorted : IsSort t e.1
  pub concrete : IsConcrete t e.1

pub record ObjectSound (t : Theory) (e : List ℕ × SortId) : Type 0 where
  pub named : IsTrue (is_name e.0)
  pub apart : is_among e.0 (symbol_names t) ≡ false
  pub sorted : IsSort t e.1

abbrev pub GivenSound : Theory → Draft → WrittenLiteral → Type 0
GivenSound t d l = IsFlawlessAtom (given_scope t d) l.atom

abbrev pub RequirementSound : Theory → Draft → WrittenLiteral → Type 0
RequirementSound t d l = IsFlawlessAtom (requirement_scope t d) l.atom

pub record Sound (t : Theory) (d : Draft) : Type 0 where
  pub few_dummies : length d.inputs + length d.outputs ≤ dummy_limit
  pub few_objects : length d.objects ≤ object_limit
  pub few_givens : length d.givens ≤ given_limit
  pub few_requirements : length d.required ≤ requirement_limit
  pub named : IsFree t d.name
  pub inputs : AllByRecursion (DummySound t) d.inputs
  pub objects : AllByRecursion (ObjectSound t) d.objects
  pub outputs : AllByRecursion (DummySound t) d.outputs
  pub distinct : are_distinct (used_names d) ≡ true
  pub givens : AllByRecursion (GivenSound t d) d.givens
  pub required : AllByRecursion (RequirementSound t d) d.required
