-- Two declarations, one behind the other, that may as well stand the other way round.
use Rattle.std.proofs.Common.{◌≡◌, ℕ, false, Option, List}
use Rattle.am_term.specs.declared.id.SortId.{SortId}
use Rattle.am_term.specs.NameLists.{is_among}
use Rattle.am_theory.specs.declared.theory.Rep.{Rep}
use Rattle.am_theory.specs.declared.declaration.Declaration.{Declaration}
use Rattle.am_theory.specs.declared.declaration.Declaration.TheVariants as decl
use Rattle.am_theory.specs.Contents.{Contents, with_sort, with_decl}
use Rattle.am_theory.specs.Faults.{called_names}
use Rattle.am_theory.proofs.NoFault.{IsFaultless}
use Rattle.am_canon.proofs.Called.{IsUnlike}

-- e may stand before d, d behind it, and what there is then is the same
pub record IsSwapped (c : Contents) (d e : Declaration) : Type 0 where
  pub before : IsFaultless c e
  pub behind : IsFaultless (with_decl c e) d
  pub same : with_decl (with_decl c d) e ≡ with_decl (with_decl c e) d

-- d stands behind one more sort as it stood before it, and what there is then is the same
pub record StandsBehind (c : Contents) (d : Declaration) (n : List ℕ) (parent : Option SortId) (r : Option Rep) (copy : Option (List ℕ)) : Type 0 where
  pub behind : IsFaultless (with_sort c n parent r copy) d
  pub same : with_sort (with_decl c d) n parent r copy ≡ with_decl (with_sort c n parent r copy) d

-- what is declared leaves the version and the sorts, and what was called is called
pub record LeavesSorts (c b : Contents) : Type 0 where
  pub version : b.version ≡ c.version
  pub sorts : b.sorts ≡ c.sorts
  pub reps : b.reps ≡ c.reps
  pub copies : b.copies ≡ c.copies
  pub called : (w : List ℕ) → is_among w (called_names b) ≡ false → is_among w (called_names c) ≡ false

-- a routine or a listed function has another name than this copy routine
abbrev pub CallsOther : Declaration → Option (List ℕ) → Type 0
CallsOther (decl.Sort n r copy) o = Unit {0}
CallsOther (decl.Subsort n s) o = Unit {0}
CallsOther (decl.Function n args r) o = Unit {0}
CallsOther (decl.Relation n args) o = Unit {0}
CallsOther (decl.Literal n s v) o = Unit {0}
CallsOther (decl.Routine n inputs outputs) o = IsUnlike n o
CallsOther (decl.Value f n args r) o = IsUnlike f o
CallsOther (decl.Axiom vs g) o = Unit {0}

abbrev pub DeclaresSort : Declaration → Type 0
DeclaresSort (decl.Sort n r copy) = Unit {0}
DeclaresSort (decl.Subsort n s) = Unit {0}
DeclaresSort (decl.Function n args r) = ⊥
DeclaresSort (decl.Relation n args) = ⊥
DeclaresSort (decl.Literal n s v) = ⊥
DeclaresSort (decl.Routine n inputs outputs) = ⊥
DeclaresSort (decl.Value f n args r) = ⊥
DeclaresSort (decl.Axiom vs g) = ⊥

abbrev pub DeclaresSymbol : Declaration → Type 0
DeclaresSymbol (decl.Sort n r copy) = ⊥
DeclaresSymbol (decl.Subsort n s) = ⊥
DeclaresSymbol (decl.Function n args r) = Unit {0}
DeclaresSymbol (decl.Relation n args) = Unit {0}
DeclaresSymbol (decl.Literal n s v) = Unit {0}
DeclaresSymbol (decl.Routine n inputs outputs) = Unit {0}
DeclaresSymbol (decl.Value f n args r) = Unit {0}
DeclaresSymbol (decl.Axiom vs g) = ⊥

abbrev pub StatesAxiom : Declaration → Type 0
StatesAxiom (decl.Sort n r copy) = ⊥
StatesAxiom (decl.Subsort n s) = ⊥
StatesAxiom (decl.Function n args r) = ⊥
StatesAxiom (decl.Relation n args) = ⊥
StatesAxiom (decl.Literal n s v) = ⊥
StatesAxiom (decl.Routine n inputs outputs) = ⊥
StatesAxiom (decl.Value f n args r) = ⊥
StatesAxiom (decl.Axiom vs g) = Unit {0}
