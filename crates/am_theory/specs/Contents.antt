-- What a theory has, as data, and what a declaration adds to it.
use Rattle.std.specs.Prelude.{◌+◌, ◌++◌, ℕ, ℤ, pos, negsuc, Option, Some, None, List, [], ◌∷◌, map, length, option_map, slice_get}
use Rattle.am_term.specs.declared.id.SortId.{SortId}
use Rattle.am_term.specs.declared.id.SymId.{SymId}
use Rattle.am_term.specs.declared.kind.SymKind.TheVariants as kind
use Rattle.am_syntax.specs.declared.scope.Bound.{Bound}
use Rattle.am_syntax.specs.declared.scope.Standing.TheVariants.{Variable}
use Rattle.am_syntax.specs.Positions.{position_of}
use Rattle.am_syntax.specs.Scopes.{Profile, profile, Scope}
use Rattle.am_syntax.specs.Meaning.{formula_meaning}
use Rattle.am_theory.specs.declared.theory.Rep.{Rep}
use Rattle.am_theory.specs.declared.theory.Rep.TheVariants as rep
use Rattle.am_theory.specs.declared.theory.Routine.{Routine}
use Rattle.am_theory.specs.declared.theory.FortranFunction.{FortranFunction}
use Rattle.am_theory.specs.declared.theory.LiteralDecl.{LiteralDecl}
use Rattle.am_theory.specs.declared.theory.Axiom.{Axiom}
use Rattle.am_theory.specs.declared.theory.Theory.{Theory}
use Rattle.am_theory.specs.declared.declaration.WrittenRep.{WrittenRep}
use Rattle.am_theory.specs.declared.declaration.WrittenRep.TheVariants as written
use Rattle.am_theory.specs.declared.declaration.Typed.{Typed}
use Rattle.am_theory.specs.declared.declaration.Declaration.{Declaration}
use Rattle.am_theory.specs.declared.declaration.Declaration.TheVariants as decl
use Rattle.am_theory.specs.Lookups.{known}

-- The fields of a theory: the version of its format, and lists by order of declaration: the sorts' names, parents,
-- representations and copy routines, the symbols, the routines, the listed functions, the literals and the axioms.
pub record Contents : Type 0 where
  pub version : ℕ
  pub sorts : List (List ℕ)
  pub parents : List (Option SortId)
  pub reps : List (Option Rep)
  pub copies : List (Option (List ℕ))
  pub symbols : List Profile
  pub routines : List Routine
  pub functions : List FortranFunction
  pub literals : List LiteralDecl
  pub axioms : List Axiom

-- what a theory has
abbrev pub contents : Theory → Contents
contents t = record {
  version = t.version;
  sorts = t.sig.sorts;
  parents = t.sig.parents;
  reps = t.reps;
  copies = t.copies;
  symbols = map profile t.sig.symbols;
  routines = t.routines;
  functions = t.functions;
  literals = t.literals;
  axioms = t.axioms;
}

-- before the first declaration of a file of this version
abbrev pub nothing : ℕ → Contents
nothing v = record { version = v; sorts = []; parents = []; reps = []; copies = []; symbols = []; routines = []; functions = []; literals = []; axioms = [] }

abbrev pub id_of : Option ℕ → SortId
id_of None = record { 0 = 0 }
id_of (Some k) = record { 0 = k }

-- the sort of this name
abbrev pub sort_number : Contents → List ℕ → SortId
sort_number c w = id_of (position_of w c.sorts)

-- what a list by sorts holds for the sort of this name, if there is such a sort
abbrev pub of_sort : {A : Type 0} → List (Option A) → Option ℕ → Option A
of_sort xs None = None
of_sort xs (Some k) = known (slice_get xs k)

-- the representation of the sort of this name, if it is concrete
abbrev pub rep_named : Contents → List ℕ → Option Rep
rep_named c w = of_sort c.reps (position_of w c.sorts)

-- the copy routine of the sort of this name, if it has one
abbrev pub copy_named : Contents → List ℕ → Option (List ℕ)
copy_named c w = of_sort c.copies (position_of w c.sorts)

abbrev pub sort_numbers : Contents → List (List ℕ) → List SortId
sort_numbers c ws = map (sort_number c) ws

abbrev pub symbol_names : Contents → List (List ℕ)
symbol_names c = map (λ (y : Profile). y.name) c.symbols

-- the variables of an axiom, numbered from k
abbrev pub bound_from : Contents → ℕ → List Typed → List Bound
bound_from c k [] = []
bound_from c k (v ∷ vs) = record { name = v.name; standing = Variable k (sort_number c v.sort) } ∷ bound_from c (k + 1) vs

-- what names stand for in an axiom with these variables
abbrev pub axiom_scope : Contents → List Typed → Scope
axiom_scope c vs = record { names = symbol_names c; symbols = c.symbols; parents = c.parents; bound = bound_from c 0 vs }

-- a number as a length or an extent; where it is none, that is a fault
abbrev pub extent : ℤ → ℕ
extent (pos n) = n
extent (negsuc n) = 0

abbrev pub rep_meaning : WrittenRep → Rep
rep_meaning written.Double = rep.Double
rep_meaning written.Integer = rep.Integer
rep_meaning written.Logical = rep.Logical
rep_meaning (written.Char n) = rep.Char (extent n)
rep_meaning (written.DoubleVec m) = rep.DoubleVec (extent m)
rep_meaning (written.DoubleMat m n) = rep.DoubleMat (extent m) (extent n)
rep_meaning (written.IntegerVec m) = rep.IntegerVec (extent m)

-- the number that the next symbol gets
abbrev pub next_symbol : Contents → SymId
next_symbol c = record { 0 = length c.symbols }

abbrev pub with_symbol : Contents → Profile → Contents
with_symbol c y = record c { symbols = c.symbols ++ y ∷ [] }

-- an output of a routine as a symbol
abbrev pub output_profile : Contents → List (List ℕ) → Typed → Profile
output_profile c inputs o = record { name = o.name; args = sort_numbers c inputs; result = Some (sort_number c o.sort); kind = kind.Output }

-- as many numbers of symbols as there are outputs, from k
abbrev pub numbers_from : ℕ → List Typed → List SymId
numbers_from k [] = []
numbers_from k (o ∷ os) = record { 0 = k } ∷ numbers_from (k + 1) os

abbrev pub variable_of : Contents → Typed → List ℕ × SortId
variable_of c v = (v.name, sort_number c v.sort)

-- one more sort
abbrev pub with_sort : Contents → List ℕ → Option SortId → Option Rep → Option (List ℕ) → Contents
with_sort c n parent r copy = record c { sorts = c.sorts ++ n ∷ []; parents = c.parents ++ parent ∷ []; reps = c.reps ++ r ∷ []; copies = c.copies ++ copy ∷ [] }

-- What there is after one more declaration. A sort under another has the other's representation and copy routine. A
-- routine's outputs are the next symbols, one after the other.
unfoldable pub with_decl : Contents → Declaration → Contents
with_decl c (decl.Sort n r copy) = with_sort c n None (option_map rep_meaning r) copy
with_decl c (decl.Subsort n s) = with_sort c n (Some (sort_number c s)) (rep_named c s) (copy_named c s)
with_decl c (decl.Function n args r) = with_symbol c (record { name = n; args = sort_numbers c args; result = Some (sort_number c r); kind = kind.Function })
with_decl c (decl.Relation n args) = with_symbol c (record { name = n; args = sort_numbers c args; result = None; kind = kind.Relation })
with_decl c (decl.Literal n s v) = record (with_symbol c (record { name = n; args = []; result = Some (sort_number c s); kind = kind.Literal })) { literals = c.literals ++ record { symbol = next_symbol c; value = v } ∷ [] }
with_decl c (decl.Routine n inputs outputs) = record c { symbols = c.symbols ++ map (output_profile c inputs) outputs; routines = c.routines ++ record { name = n; inputs = sort_numbers c inputs; outputs = numbers_from (length c.symbols) outputs } ∷ [] }
with_decl c (decl.Value f n args r) = record (with_symbol c (record { name = n; args = sort_numbers c args; result = Some (sort_number c r); kind = kind.Value })) { functions = c.functions ++ record { name = f; symbol = next_symbol c } ∷ [] }
with_decl c (decl.Axiom vs f) = record c { axioms = c.axioms ++ record { vars = map (variable_of c) vs; formula = formula_meaning (axiom_scope c vs) f } ∷ [] }
