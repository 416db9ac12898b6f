-- What holds of each diagram that was read with a theory.
use Rattle.std.specs.Prelude.{◌≡◌, ◌+◌, ◌≤◌, ◌++◌, ℕ, true, false, Some, List, ◌∷◌, map, length, slice_get, IsTrue}
use Rattle.std.specs.List.{AllByRecursion}
use Rattle.am_term.specs.declared.id.SortId.{SortId}
use Rattle.am_term.specs.declared.symbol.Symbol.{Symbol}
use Rattle.am_term.specs.declared.term.Term.{Term}
use Rattle.am_term.specs.declared.term.Atom.{Atom}
use Rattle.am_term.specs.declared.term.Atom.TheVariants.{Rel, Eq}
use Rattle.am_term.specs.declared.term.Literal.{Literal}
use Rattle.am_term.specs.Names.{is_fortran_name, is_local_name, is_name}
use Rattle.am_term.specs.NameLists.{is_among, are_distinct}
use Rattle.am_term.specs.Sorting.{is_sorted_literal}
use Rattle.am_term.specs.Variables.{occurs}
use Rattle.am_theory.specs.declared.theory.Theory.{Theory}
use Rattle.am_theory.specs.Facts.{IsSort, IsConcrete}
use Rattle.am_theory.specs.Lookups.{fortran_names}
use Rattle.am_diagram.specs.declared.diagram.Diagram.{Diagram}
use Rattle.am_diagram.specs.Listed.{entry_names, entry_sorts}
use Rattle.am_diagram.specs.Limits.{dummy_limit, object_limit, given_limit, requirement_limit}

-- all names of the diagram
abbrev pub all_names : Diagram → List (List ℕ)
all_names d = d.name ∷ entry_names d.inputs ++ entry_names d.objects ++ entry_names d.outputs

-- a FORTRAN name that no unit gives to a local of its own, and none of the theory's
pub record IsFree (t : Theory) (n : List ℕ) : Type 0 where
  pub fortran : IsTrue (is_fortran_name n)
  pub not_local : is_local_name n ≡ false
  pub not_theory : is_among n (fortran_names t) ≡ false

abbrev pub NoVariable : Term → Type 0
NoVariable x = (n : ℕ) (s : SortId) → occurs n s x ≡ false

abbrev pub NoVariables : Atom → Type 0
NoVariables (Rel r args) = AllByRecursion NoVariable args
NoVariables (Eq left right) = NoVariable left × NoVariable right

-- each variable of an atom has its number and sort among the objects and then the outputs
abbrev pub HasSort : List SortId → Term → Type 0
HasSort sorts x = (n : ℕ) (s : SortId) → occurs n s x ≡ true → slice_get sorts n ≡ Some s

abbrev pub HaveSorts : List SortId → Atom → Type 0
HaveSorts sorts (Rel r args) = AllByRecursion (HasSort sorts) args
HaveSorts sorts (Eq left right) = HasSort sorts left × HasSort sorts right

pub record WellFormed (t : Theory) (d : Diagram) : Type 0 where
  -- counts
  pub few_dummies : length d.inputs + length d.outputs ≤ dummy_limit
  pub few_objects : length d.objects ≤ object_limit
  pub few_givens : length d.givens ≤ given_limit
  pub few_requirements : length d.required ≤ requirement_limit
  pub some_output : 1 ≤ length d.outputs
  pub some_requirement : 1 ≤ length d.required
  -- names: of FORTRAN for the diagram, the inputs and the outputs; all differ, and none is a symbol's, but for the diagram's own
  pub named : IsFree t d.name
  pub inputs_named : AllByRecursion (λ n. IsFree t n) (entry_names d.inputs)
  pub outputs_named : AllByRecursion (λ n. IsFree t n) (entry_names d.outputs)
  pub objects_named : AllByRecursion (λ n. IsTrue (is_name n)) (entry_names d.objects)
  pub distinct : IsTrue (are_distinct (all_names d))
  pub apart : AllByRecursion (λ n. is_among n (map (λ (y : Symbol). y.name) t.sig.symbols) ≡ false) (entry_names d.inputs ++ entry_names d.objects ++ entry_names d.outputs)
  -- sorts
  pub inputs_concrete : AllByRecursion (IsConcrete t) (entry_sorts d.inputs)
  pub outputs_concrete : AllByRecursion (IsConcrete t) (entry_sorts d.outputs)
  pub objects_sorted : AllByRecursion (IsSort t) (entry_sorts d.objects)
  -- literals
  pub givens_sorted : AllByRecursion (λ (l : Literal). IsTrue (is_sorted_literal t.sig (entry_sorts d.inputs) l)) d.givens
  pub givens_closed : AllByRecursion (λ (l : Literal). NoVariables l.atom) d.givens
  pub required_sorted : AllByRecursion (λ (l : Literal). IsTrue (is_sorted_literal t.sig (entry_sorts d.inputs) l)) d.required
  pub required_numbered : AllByRecursion (λ (l : Literal). HaveSorts (entry_sorts (d.objects ++ d.outputs)) l.atom) d.required

-- the diagram is well formed over some theory
pub record IsDrawn (d : Diagram) : Type 0 where
  pub theory : Theory
  pub well : WellFormed theory d

pub drawn : (t : Theory) (d : Diagram) → WellFormed t d → IsDrawn d
drawn t d well = record { theory = t; well = well }
