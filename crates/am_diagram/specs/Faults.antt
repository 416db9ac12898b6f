-- When a declaration of a diagram has a fault, in the light of the theory and of what the earlier ones declared: each
-- kind is a condition of its own on the declaration's parts. A kind is asked only where no earlier one holds.
use Rattle.std.specs.Prelude.{◌||◌, ◌==◌, ◌+◌, ◌++◌, ℕ, Bool, not, Option, Some, None, List, ◌∷◌, map, length, nat_lt, if◌then◌else◌}
use Rattle.am_term.specs.declared.symbol.Symbol.{Symbol}
use Rattle.am_term.specs.Names.{is_fortran_name, is_local_name}
use Rattle.am_term.specs.NameLists.{is_among}
use Rattle.am_syntax.specs.declared.written.WrittenLiteral.{WrittenLiteral}
use Rattle.am_syntax.specs.declared.scope.Flaw.{Flaw}
use Rattle.am_syntax.specs.declared.scope.Flaw.TheVariants as flaw
use Rattle.am_syntax.specs.Flaws.{atom_has}
use Rattle.am_theory.specs.declared.theory.Theory.{Theory}
use Rattle.am_theory.specs.Contents.{contents}
use Rattle.am_theory.specs.Faults.{any_of, is_unknown_sort, is_abstract}
use Rattle.am_theory.specs.Lookups.{fortran_names}
use Rattle.am_diagram.specs.declared.declaration.Declaration.{Declaration}
use Rattle.am_diagram.specs.declared.draft.Draft.{Draft}
use Rattle.am_diagram.specs.declared.fault.DiagramKind.{DiagramKind}
use Rattle.am_diagram.specs.declared.fault.DiagramKind.TheVariants.{UnknownName, Twice, BadSort, BadArity, NotConcrete, BadFortranName, ReservedName, Unbound, Limit, NoOutput, NoRequire}
use Rattle.am_diagram.specs.Drafts.{requirement_scope, given_scope}
use Rattle.am_diagram.specs.Listed.{entry_names}
use Rattle.am_diagram.specs.Parts.{Dummy, Parts, parts}
use Rattle.am_diagram.specs.Limits.{dummy_limit, object_limit, given_limit, requirement_limit}

-- a literal as a given or as a requirement has a flaw of terms and atoms
abbrev pub given_has : Theory → Draft → Flaw → WrittenLiteral → Bool
given_has t d flaw l = atom_has (given_scope t d) flaw l.atom

abbrev pub requirement_has : Theory → Draft → Flaw → WrittenLiteral → Bool
requirement_has t d flaw l = atom_has (requirement_scope t d) flaw l.atom

-- the flaw is one of what is given or required
abbrev pub flaws : Flaw → Theory → Draft → Parts → List Bool
flaws flaw t d p = map (given_has t d flaw) p.givens ++ map (requirement_has t d flaw) p.requirements

abbrev pub literal_has : Flaw → Theory → Draft → Declaration → Bool
literal_has flaw t d e = any_of (flaws flaw t d (parts e))

-- ---- UnknownName: a sort or the head of a list isn't declared by the theory, or the name alone in a literal's
-- place
unfoldable pub has_unknown_name : Theory → Draft → Declaration → Bool
has_unknown_name t d e =
    let p = parts e in any_of (map (is_unknown_sort (contents t)) p.sorts ++ flaws flaw.UnknownName t d p)

-- ---- Twice: an input, object or output has the name of an earlier one, of the diagram, or of a symbol of the theory
-- the names that the diagram has so far
abbrev pub used_names : Draft → List (List ℕ)
used_names d = d.name ∷ entry_names d.inputs ++ entry_names d.objects ++ entry_names d.outputs

abbrev pub is_taken : Theory → Draft → List ℕ → Bool
is_taken t d n = is_among n (used_names d) || is_among n (map (λ (y : Symbol). y.name) t.sig.symbols)

unfoldable pub is_twice : Theory → Draft → Declaration → Bool
is_twice t d e = any_of (map (is_taken t d) (parts e).names)

-- ---- BadSort, BadArity, Unbound: what a literal may have
unfoldable pub has_bad_sort : Theory → Draft → Declaration → Bool
has_bad_sort = literal_has flaw.BadSort

unfoldable pub has_bad_arity : Theory → Draft → Declaration → Bool
has_bad_arity = literal_has flaw.BadArity

unfoldable pub has_unbound : Theory → Draft → Declaration → Bool
has_unbound = literal_has flaw.Unbound

-- ---- NotConcrete: an input or output has an abstract sort
unfoldable pub is_not_concrete : Theory → Declaration → Bool
is_not_concrete t e = any_of (map (λ (x : Dummy). is_abstract (contents t) x.sort) (parts e).dummies)

-- ---- BadFortranName: the FORTRAN name isn't one to six upper-case letters and digits that begin with a letter
unfoldable pub has_bad_fortran_name : Declaration → Bool
has_bad_fortran_name e = any_of (map (λ (x : Dummy). not (is_fortran_name x.name)) (parts e).dummies)

-- ---- ReservedName: it is `T` and five digits, or the name of a routine, value or copy routine of the theory
abbrev pub is_reserved_in : Theory → List ℕ → Bool
is_reserved_in t n = is_local_name n || is_among n (fortran_names t)

unfoldable pub has_reserved_name : Theory → Declaration → Bool
has_reserved_name t e = any_of (map (λ (x : Dummy). is_reserved_in t x.name) (parts e).dummies)

-- ---- Limit: a count is above its limit; inputs and outputs count together
unfoldable pub is_over_limit : Draft → Declaration → Bool
is_over_limit d e =
    let p = parts e in
    any_of (map (λ (x : Dummy). nat_lt dummy_limit (length d.inputs + length d.outputs + 1)) p.dummies
    ++ map (λ n. nat_lt object_limit (length d.objects + 1)) p.objects
    ++ map (λ l. nat_lt given_limit (length d.givens + 1)) p.givens
    ++ map (λ l. nat_lt requirement_limit (length d.required + 1)) p.requirements)

-- the first kind that holds of a declaration
unfoldable pub first_kind : Theory → Draft → Declaration → Option DiagramKind
first_kind t d e =
    if has_unknown_name t d e then Some UnknownName
    else if is_twice t d e then Some Twice
    else if has_bad_sort t d e then Some BadSort
    else if has_bad_arity t d e then Some BadArity
    else if is_not_concrete t e then Some NotConcrete
    else if has_bad_fortran_name e then Some BadFortranName
    else if has_reserved_name t e then Some ReservedName
    else if has_unbound t d e then Some Unbound
    else if is_over_limit d e then Some Limit
    else None

-- the first kind that holds of the diagram's own name
unfoldable pub head_kind : Theory → List ℕ → Option DiagramKind
head_kind t n =
    if not (is_fortran_name n) then Some BadFortranName
    else if is_reserved_in t n then Some ReservedName
    else None

-- the first kind that holds at the end: no output, no requirement
unfoldable pub end_kind : Draft → Option DiagramKind
end_kind d =
    if length d.outputs == 0 then Some NoOutput
    else if length d.required == 0 then Some NoRequire
    else None
