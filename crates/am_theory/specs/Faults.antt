-- When a declaration has a fault, in the light of what the earlier ones declared: each kind is a condition of its own
-- on the declaration's parts. A kind is asked only where no earlier one holds.
use Rattle.std.specs.Prelude.{◌||◌, ◌&&◌, ◌+◌, ℕ, ℤ, pos, negsuc, Bool, true, false, not, Option, Some, None, List, [], ◌∷◌, ◌++◌, map, length, is_none, is_some, nat_lt, nat_le, if◌then◌else◌}
use Rattle.std.specs.Ordering.{int_eq}
use Rattle.std.specs.List.{list_any, flat_map}
use Rattle.std.specs.Str.{bytes_eq}
use Rattle.am_term.specs.declared.id.SortId.{SortId}
use Rattle.am_term.specs.declared.id.SymId.{SymId}
use Rattle.am_term.specs.declared.term.Formula.{Formula}
use Rattle.am_term.specs.Names.{is_fortran_name, is_local_name}
use Rattle.am_term.specs.NameLists.{is_among, are_distinct}
use Rattle.am_term.specs.Sorts.{akin_in}
use Rattle.am_clause.specs.declared.clause.Clause.{Clause}
use Rattle.am_clause.specs.ClauseForm.{cnf}
use Rattle.am_clause.specs.Count.{count}
use Rattle.am_syntax.specs.declared.written.WrittenFormula.{WrittenFormula}
use Rattle.am_syntax.specs.declared.scope.Flaw.TheVariants as flaw
use Rattle.am_syntax.specs.Scopes.{symbol_at, result_of}
use Rattle.am_syntax.specs.Flaws.{formula_has, has_quantifier}
use Rattle.am_syntax.specs.Meaning.{formula_meaning}
use Rattle.am_theory.specs.declared.theory.Rep.{Rep}
use Rattle.am_theory.specs.declared.theory.Rep.TheVariants as rep
use Rattle.am_theory.specs.declared.theory.LitValue.{LitValue}
use Rattle.am_theory.specs.declared.theory.LitValue.TheVariants as value
use Rattle.am_theory.specs.declared.theory.Routine.{Routine}
use Rattle.am_theory.specs.declared.theory.FortranFunction.{FortranFunction}
use Rattle.am_theory.specs.declared.theory.LiteralDecl.{LiteralDecl}
use Rattle.am_theory.specs.declared.theory.Axiom.{Axiom}
use Rattle.am_theory.specs.declared.declaration.WrittenRep.{WrittenRep}
use Rattle.am_theory.specs.declared.declaration.WrittenRep.TheVariants as written
use Rattle.am_theory.specs.declared.declaration.Typed.{Typed}
use Rattle.am_theory.specs.declared.declaration.Declaration.{Declaration}
use Rattle.am_theory.specs.declared.fault.TheoryKind.{TheoryKind}
use Rattle.am_theory.specs.declared.fault.TheoryKind.TheVariants.{BadHead, UnknownName, Twice, BadSort, BadArity, BadRep, NoCopy, BadFortranName, NameClash, Unbound, Quantifier, Limit}
use Rattle.am_theory.specs.Lookups.{listed_name}
use Rattle.am_theory.specs.Parts.{Sorts, One, Each, Symbols, New, Outputs, Represented, Valued, Stated, Counted, Parts, parts}
use Rattle.am_theory.specs.Contents.{Contents, sort_number, rep_named, symbol_names, axiom_scope}
use Rattle.am_theory.specs.Limits.{sort_limit, symbol_limit, axiom_limit, clause_limit, literal_limit, length_limit, extent_limit, text_limit}

abbrev pub names_in : List Typed → List (List ℕ)
names_in = map (λ (v : Typed). v.name)

-- some of the tests holds; of one test alone it is this one
abbrev pub any_of : List Bool → Bool
any_of [] = false
any_of (b ∷ []) = b
any_of (b ∷ c ∷ bs) = b || any_of (c ∷ bs)

-- a test that some of the sorts passes
abbrev pub some_sort : (List ℕ → Bool) → Sorts → Bool
some_sort test (One s) = test s
some_sort test (Each ss) = list_any test ss

-- a test of the formula and its variables, if there is one
abbrev pub of_stated : (List Typed → WrittenFormula → Bool) → Parts → List Bool
of_stated test p = map (λ (a : Stated). test a.variables a.formula) p.stated

-- ---- BadHead: it may not stand in a file of this version
abbrev pub is_early : ℕ → Declaration → Bool
is_early v d = any_of (map (λ n. nat_lt v n) (parts d).since)

-- ---- UnknownName: a sort, or the head of a list in a formula or term, isn't declared; the name alone in a
-- formula's place isn't declared
abbrev pub is_unknown_sort : Contents → List ℕ → Bool
is_unknown_sort c w = not (is_among w c.sorts)

unfoldable pub has_unknown_name : Contents → Declaration → Bool
has_unknown_name c d =
    let p = parts d in
    any_of (map (some_sort (is_unknown_sort c)) p.sorts
    ++ of_stated (λ vs g. formula_has (axiom_scope c vs) flaw.UnknownName g) p)

-- ---- Twice: a sort's name is a sort already; a symbol's name is a symbol already, is the name of a variable of
-- an earlier axiom, or stands twice in the declaration; a variable's name stands twice or is a symbol; a
-- literal's value is that of an earlier literal whose sort is akin to its own
abbrev pub axiom_names : Axiom → List (List ℕ)
axiom_names a = map (λ (v : List ℕ × SortId). v.0) a.vars

-- the names of the variables of the axioms so far
abbrev pub variable_names : Contents → List (List ℕ)
variable_names c = flat_map axiom_names c.axioms

abbrev pub is_symbol_name : Contents → List ℕ → Bool
is_symbol_name c w = is_among w (symbol_names c)

-- a symbol's name is a symbol already, or a variable of an earlier axiom
abbrev pub is_taken : Contents → List ℕ → Bool
is_taken c w = is_symbol_name c w || is_among w (variable_names c)

-- values compare as what was read: a number and a text are never equal
abbrev pub same_value : LitValue → LitValue → Bool
same_value (value.Int a) (value.Int b) = int_eq a b
same_value (value.Int a) (value.Text t) = false
same_value (value.Text t) (value.Int b) = false
same_value (value.Text t) (value.Text u) = bytes_eq t u

abbrev pub is_akin_to : List (Option SortId) → SortId → Option SortId → Bool
is_akin_to parents s None = false
is_akin_to parents s (Some r) = akin_in parents s r

-- the sort of a symbol, by its number
abbrev pub sort_of_symbol : Contents → SymId → Option SortId
sort_of_symbol c f = result_of (symbol_at c.symbols (Some f.0))

-- the literal has this value, and a sort that is akin to this one
abbrev pub is_literal_of : Contents → SortId → LitValue → LiteralDecl → Bool
is_literal_of c s v l = same_value v l.value && is_akin_to c.parents s (sort_of_symbol c l.symbol)

-- a name is taken, or stands twice
abbrev pub symbols_twice : Contents → Symbols → List Bool
symbols_twice c (New n) = is_taken c n ∷ []
symbols_twice c (Outputs vs) = list_any (is_taken c) (names_in vs) ∷ not (are_distinct (names_in vs)) ∷ []

abbrev pub variables_twice : Contents → Stated → List Bool
variables_twice c a =
    list_any (is_symbol_name c) (names_in a.variables) ∷ not (are_distinct (names_in a.variables)) ∷ []

unfoldable pub is_twice : Contents → Declaration → Bool
is_twice c d =
    let p = parts d in
    any_of (map (λ n. is_among n c.sorts) p.new_sorts ++ flat_map (symbols_twice c) p.new_symbols
    ++ flat_map (variables_twice c) p.stated
    ++ map (λ (v : Valued). list_any (is_literal_of c (sort_number c v.sort) v.value) c.literals) p.values)

-- ---- BadSort, BadArity, Unbound: what a formula may have; Quantifier: `all` inside it, or `exists`
unfoldable pub has_bad_sort : Contents → Declaration → Bool
has_bad_sort c d = any_of (of_stated (λ vs g. formula_has (axiom_scope c vs) flaw.BadSort g) (parts d))

unfoldable pub has_bad_arity : Contents → Declaration → Bool
has_bad_arity c d = any_of (of_stated (λ vs g. formula_has (axiom_scope c vs) flaw.BadArity g) (parts d))

unfoldable pub has_unbound : Contents → Declaration → Bool
has_unbound c d = any_of (of_stated (λ vs g. formula_has (axiom_scope c vs) flaw.Unbound g) (parts d))

unfoldable pub quantifies : Contents → Declaration → Bool
quantifies c d = any_of (of_stated (λ vs g. has_quantifier g) (parts d))

-- ---- BadRep: n of `char` isn't 1 to 1,024; an extent isn't 1 to 1,000; a scalar sort names a copy routine; a
-- literal, routine or value names an abstract sort; a literal's number stands for a sort that isn't `integer`; a
-- literal's text stands for a sort that isn't `char`, is empty, or is longer than 32 or than n; the result of a
-- value isn't `double`, `integer` or `logical`
abbrev pub is_out_of : ℕ → ℤ → Bool
is_out_of most (pos n) = not (nat_le 1 n && nat_le n most)
is_out_of most (negsuc n) = true

abbrev pub is_bad_rep : WrittenRep → Bool
is_bad_rep written.Double = false
is_bad_rep written.Integer = false
is_bad_rep written.Logical = false
is_bad_rep (written.Char n) = is_out_of length_limit n
is_bad_rep (written.DoubleVec m) = is_out_of extent_limit m
is_bad_rep (written.DoubleMat m n) = is_out_of extent_limit m || is_out_of extent_limit n
is_bad_rep (written.IntegerVec m) = is_out_of extent_limit m

-- more than one number
abbrev pub is_array : WrittenRep → Bool
is_array written.Double = false
is_array written.Integer = false
is_array written.Logical = false
is_array (written.Char n) = false
is_array (written.DoubleVec m) = true
is_array (written.DoubleMat m n) = true
is_array (written.IntegerVec m) = true

abbrev pub is_bad_sort_rep : Option WrittenRep → Option (List ℕ) → Bool
is_bad_sort_rep None copy = false
is_bad_sort_rep (Some r) copy = is_bad_rep r || (not (is_array r) && is_some copy)

abbrev pub is_abstract : Contents → List ℕ → Bool
is_abstract c w = is_none (rep_named c w)

-- a literal's value suits the representation of its sort
abbrev pub suits : LitValue → Option Rep → Bool
suits (value.Int z) None = false
suits (value.Int z) (Some rep.Double) = false
suits (value.Int z) (Some rep.Integer) = true
suits (value.Int z) (Some rep.Logical) = false
suits (value.Int z) (Some (rep.Char n)) = false
suits (value.Int z) (Some (rep.DoubleVec m)) = false
suits (value.Int z) (Some (rep.DoubleMat m n)) = false
suits (value.Int z) (Some (rep.IntegerVec m)) = false
suits (value.Text t) None = false
suits (value.Text t) (Some rep.Double) = false
suits (value.Text t) (Some rep.Integer) = false
suits (value.Text t) (Some rep.Logical) = false
suits (value.Text t) (Some (rep.Char n)) = nat_le 1 (length t) && (nat_le (length t) text_limit && nat_le (length t) n)
suits (value.Text t) (Some (rep.DoubleVec m)) = false
suits (value.Text t) (Some (rep.DoubleMat m n)) = false
suits (value.Text t) (Some (rep.IntegerVec m)) = false

-- a FORTRAN function gives a double precision number, a whole number or a truth value
abbrev pub is_returnable : Option Rep → Bool
is_returnable None = false
is_returnable (Some rep.Double) = true
is_returnable (Some rep.Integer) = true
is_returnable (Some rep.Logical) = true
is_returnable (Some (rep.Char n)) = false
is_returnable (Some (rep.DoubleVec m)) = false
is_returnable (Some (rep.DoubleMat m n)) = false
is_returnable (Some (rep.IntegerVec m)) = false

unfoldable pub is_badly_represented : Contents → Declaration → Bool
is_badly_represented c d =
    let p = parts d in
    any_of (map (λ (r : Represented). is_bad_sort_rep r.rep r.copy) p.represented
    ++ map (λ (v : Valued). not (suits v.value (rep_named c v.sort))) p.values
    ++ map (some_sort (is_abstract c)) p.concrete ++ map (λ s. not (is_returnable (rep_named c s))) p.returned)

-- ---- NoCopy: an array sort names no copy routine
abbrev pub is_array_rep : Option WrittenRep → Bool
is_array_rep None = false
is_array_rep (Some r) = is_array r

unfoldable pub lacks_copy : Declaration → Bool
lacks_copy d = any_of (map (λ (r : Represented). is_array_rep r.rep && is_none r.copy) (parts d).represented)

-- ---- BadFortranName: a FORTRAN name isn't one to six upper-case letters and digits that begin with a letter, or
-- is `T` followed by five digits
abbrev pub is_free_name : List ℕ → Bool
is_free_name n = is_fortran_name n && not (is_local_name n)

abbrev pub is_bad_copy_name : Option (List ℕ) → Bool
is_bad_copy_name None = false
is_bad_copy_name (Some n) = not (is_free_name n)

unfoldable pub has_bad_fortran_name : Declaration → Bool
has_bad_fortran_name d =
    let p = parts d in
    any_of (map (λ (r : Represented). is_bad_copy_name r.copy) p.represented
    ++ map (λ n. not (is_free_name n)) p.called)

-- ---- NameClash: the name of a routine or value is that of an earlier routine, value or copy routine; the name of
-- a copy routine is that of an earlier routine or value
abbrev pub called_names : Contents → List (List ℕ)
called_names c = map (λ (r : Routine). r.name) c.routines ++ map (λ (f : FortranFunction). f.name) c.functions

abbrev pub copy_names : Contents → List (List ℕ)
copy_names c = flat_map listed_name c.copies

abbrev pub is_called : Contents → List ℕ → Bool
is_called c w = is_among w (called_names c) || is_among w (copy_names c)

abbrev pub copy_clashes : Contents → Option (List ℕ) → Bool
copy_clashes c None = false
copy_clashes c (Some n) = is_among n (called_names c)

unfoldable pub clashes : Contents → Declaration → Bool
clashes c d =
    let p = parts d in
    any_of (map (λ (r : Represented). copy_clashes c r.copy) p.represented ++ map (is_called c) p.called)

-- ---- Limit: a count is above its limit
abbrev pub is_long_clause : Clause → Bool
is_long_clause k = nat_lt literal_limit (length k.literals)

-- clauses are counted without merging them, literals after equal ones are merged
abbrev pub has_many_clauses : Formula → Bool
has_many_clauses f = nat_lt clause_limit (count f) || list_any is_long_clause (cnf f)

abbrev pub is_past_symbols : Contents → ℕ → Bool
is_past_symbols c more = nat_lt symbol_limit (length c.symbols + more)

-- how many symbols are declared
abbrev pub how_many : Symbols → ℕ
how_many (New n) = 1
how_many (Outputs vs) = length vs

unfoldable pub is_over_limit : Contents → Declaration → Bool
is_over_limit c d =
    let p = parts d in
    any_of (map (λ n. nat_lt sort_limit (length c.sorts + 1)) p.new_sorts
    ++ map (λ ys. is_past_symbols c (how_many ys)) p.new_symbols
    ++ map (λ (a : Stated). nat_lt axiom_limit (length c.axioms + 1)) p.stated
    ++ map (λ (n : Counted). nat_lt n.most n.many) p.counts
    ++ of_stated (λ vs g. has_many_clauses (formula_meaning (axiom_scope c vs) g)) p)

-- the first kind that holds of a declaration
unfoldable pub first_kind : Contents → Declaration → Option TheoryKind
first_kind c d =
    if is_early c.version d then Some BadHead
    else if has_unknown_name c d then Some UnknownName
    else if is_twice c d then Some Twice
    else if has_bad_sort c d then Some BadSort
    else if has_bad_arity c d then Some BadArity
    else if is_badly_represented c d then Some BadRep
    else if lacks_copy d then Some NoCopy
    else if has_bad_fortran_name d then Some BadFortranName
    else if clashes c d then Some NameClash
    else if has_unbound c d then Some Unbound
    else if quantifies c d then Some Quantifier
    else if is_over_limit c d then Some Limit
    else None
