-- What can be wrong with a term, an atom or a formula whose shape is right, in a scope. Each flaw is a
-- condition of its own; in all but the first, a name that is no symbol has no sort and no arguments.
use Rattle.std.specs.Prelude.{◌||◌, ◌==◌, ℕ, Bool, true, false, not, Option, Some, None, List, [], ◌∷◌, map, length, is_none}
use Rattle.std.specs.List.{list_any}
use Rattle.am_term.specs.declared.id.SortId.{SortId}
use Rattle.am_term.specs.Sorts.{fits_in, akin_in}
use Rattle.am_syntax.specs.declared.written.WrittenTerm.{WrittenTerm}
use Rattle.am_syntax.specs.declared.written.WrittenTerm.TheOpen.{WrittenTerm-F}
use Rattle.am_syntax.specs.declared.written.WrittenTerm.TheViews.{out-WrittenTerm}
use Rattle.am_syntax.specs.declared.written.WrittenTerm.TheFolds.{fold-WrittenTerm, para-WrittenTerm}
use Rattle.am_syntax.specs.declared.written.WrittenAtom.{WrittenAtom}
use Rattle.am_syntax.specs.declared.written.WrittenAtom.TheVariants.{Equation, Relation}
use Rattle.am_syntax.specs.declared.written.WrittenFormula.{WrittenFormula}
use Rattle.am_syntax.specs.declared.written.WrittenFormula.TheOpen.{WrittenFormula-F}
use Rattle.am_syntax.specs.declared.written.WrittenFormula.TheFolds.{fold-WrittenFormula}
use Rattle.am_syntax.specs.declared.scope.Flaw.{Flaw}
use Rattle.am_syntax.specs.declared.scope.Flaw.TheVariants.{UnknownName, BadSort, BadArity, Unbound}
use Rattle.am_syntax.specs.declared.scope.Standing.{Standing}
use Rattle.am_syntax.specs.declared.scope.Standing.TheVariants.{Variable, Input, Barred}
use Rattle.am_syntax.specs.Scopes.{Scope, Profile, standing_of, symbol_of, result_of, argument_sorts_of, alone_sort}

abbrev pub any_true : List Bool → Bool
any_true bs = list_any (λ b. b) bs

-- ---- a head that is no symbol
abbrev pub unknown_step : Scope → WrittenTerm-F Bool → Bool
unknown_step s (WrittenTerm-F.Alone w) = false
unknown_step s (WrittenTerm-F.Headed h bs) = is_none (symbol_of s h) || any_true bs

-- the head of a list in the term is no symbol
unfoldable pub has_unknown_name : Scope → WrittenTerm → Bool
has_unknown_name s = fold-WrittenTerm Bool (unknown_step s)

-- ---- sorts
abbrev pub sort_at : Scope → WrittenTerm-F WrittenTerm → Option SortId
sort_at s (WrittenTerm-F.Alone w) = alone_sort s w
sort_at s (WrittenTerm-F.Headed h args) = result_of (symbol_of s h)

-- the sort of a term: that of its name or of its head, whatever its arguments are
unfoldable pub written_sort : Scope → WrittenTerm → Option SortId
written_sort s t = sort_at s (out-WrittenTerm t)

abbrev pub written_sorts : Scope → List WrittenTerm → List (Option SortId)
written_sorts s ts = map (written_sort s) ts

-- a term has a sort, and that doesn't fit its place
abbrev pub misfits : List (Option SortId) → Option SortId → SortId → Bool
misfits parents None place = false
misfits parents (Some s) place = not (fits_in parents s place)

-- some term's sort doesn't fit its place; only the places that both have are compared
abbrev pub some_misfit : List (Option SortId) → List (Option SortId) → List SortId → Bool
some_misfit parents [] places = false
some_misfit parents (s ∷ ss) [] = false
some_misfit parents (s ∷ ss) (p ∷ ps) = misfits parents s p || some_misfit parents ss ps

-- a symbol without a result is a relation
abbrev pub is_relation : Option Profile → Bool
is_relation None = false
is_relation (Some y) = is_none y.result

-- a symbol with a result is a function
abbrev pub is_function : Option Profile → Bool
is_function None = false
is_function (Some y) = not (is_none y.result)

-- a relation's name stands alone as a term
abbrev pub is_lone_relation : Scope → Option Standing → List ℕ → Bool
is_lone_relation s (Some standing) w = false
is_lone_relation s None w = is_relation (symbol_of s w)

abbrev pub parts_terms : List (WrittenTerm × Bool) → List WrittenTerm
parts_terms = map (λ (e : WrittenTerm × Bool). e.0)

abbrev pub parts_flaws : List (WrittenTerm × Bool) → List Bool
parts_flaws = map (λ (e : WrittenTerm × Bool). e.1)

abbrev pub bad_sort_step : Scope → WrittenTerm-F (WrittenTerm × Bool) → Bool
bad_sort_step s (WrittenTerm-F.Alone w) = is_lone_relation s (standing_of w s.bound) w
bad_sort_step s (WrittenTerm-F.Headed h es) = is_relation (symbol_of s h) || (some_misfit s.parents (written_sorts s (parts_terms es)) (argument_sorts_of (symbol_of s h)) || any_true (parts_flaws es))

-- a relation stands as a term in it, or a term's sort doesn't fit its place
unfoldable pub has_bad_sort : Scope → WrittenTerm → Bool
has_bad_sort s = para-WrittenTerm Bool (bad_sort_step s)

-- ---- counts of arguments
-- a symbol is declared with another number of arguments
abbrev pub is_miscounted : Option Profile → ℕ → Bool
is_miscounted None n = false
is_miscounted (Some y) n = not (length y.args == n)

abbrev pub is_lone_function : Scope → Option Standing → List ℕ → Bool
is_lone_function s (Some standing) w = false
is_lone_function s None w = is_miscounted (symbol_of s w) 0

abbrev pub bad_arity_step : Scope → WrittenTerm-F Bool → Bool
bad_arity_step s (WrittenTerm-F.Alone w) = is_lone_function s (standing_of w s.bound) w
bad_arity_step s (WrittenTerm-F.Headed h bs) = is_miscounted (symbol_of s h) (length bs) || any_true bs

-- a symbol in it has another number of arguments than declared: a constant is written as the head of a
-- list, or a function with arguments stands alone, among others
unfoldable pub has_bad_arity : Scope → WrittenTerm → Bool
has_bad_arity s = fold-WrittenTerm Bool (bad_arity_step s)

-- ---- names alone that are nothing
abbrev pub is_unbound : Option Standing → Option Profile → Bool
is_unbound None y = is_none y
is_unbound (Some (Variable n s)) y = false
is_unbound (Some (Input k s)) y = false
is_unbound (Some Barred) y = true

abbrev pub unbound_step : Scope → WrittenTerm-F Bool → Bool
unbound_step s (WrittenTerm-F.Alone w) = is_unbound (standing_of w s.bound) (symbol_of s w)
unbound_step s (WrittenTerm-F.Headed h bs) = any_true bs

-- a name alone in it is neither a symbol nor anything else that may stand there
unfoldable pub has_unbound : Scope → WrittenTerm → Bool
has_unbound s = fold-WrittenTerm Bool (unbound_step s)

-- ---- all four
abbrev pub term_has : Scope → Flaw → WrittenTerm → Bool
term_has s UnknownName t = has_unknown_name s t
term_has s BadSort t = has_bad_sort s t
term_has s BadArity t = has_bad_arity s t
term_has s Unbound t = has_unbound s t

-- both sides have sorts, and these aren't akin
abbrev pub are_apart : List (Option SortId) → Option SortId → Option SortId → Bool
are_apart parents None right = false
are_apart parents (Some s) None = false
are_apart parents (Some s) (Some r) = not (akin_in parents s r)

-- what is wrong with a relation's name and its arguments, beside what is wrong inside them
abbrev pub relation_has : Scope → Flaw → List ℕ → List WrittenTerm → Bool
relation_has s UnknownName n args = is_none (symbol_of s n)
relation_has s BadSort n args = is_function (symbol_of s n) || some_misfit s.parents (written_sorts s args) (argument_sorts_of (symbol_of s n))
relation_has s BadArity n args = is_miscounted (symbol_of s n) (length args)
relation_has s Unbound n args = false

-- what is wrong with an equation, beside what is wrong inside its sides
abbrev pub equation_has : Scope → Flaw → WrittenTerm → WrittenTerm → Bool
equation_has s UnknownName left right = false
equation_has s BadSort left right = are_apart s.parents (written_sort s left) (written_sort s right)
equation_has s BadArity left right = false
equation_has s Unbound left right = false

abbrev pub atom_has : Scope → Flaw → WrittenAtom → Bool
atom_has s flaw (Equation left right) = equation_has s flaw left right || (term_has s flaw left || term_has s flaw right)
atom_has s flaw (Relation n args) = relation_has s flaw n args || list_any (term_has s flaw) args

abbrev pub some_atom_step : (WrittenAtom → Bool) → WrittenFormula-F Bool → Bool
some_atom_step test (WrittenFormula-F.Atom a) = test a
some_atom_step test (WrittenFormula-F.Not b) = b
some_atom_step test (WrittenFormula-F.And bs) = any_true bs
some_atom_step test (WrittenFormula-F.Or bs) = any_true bs
some_atom_step test (WrittenFormula-F.Implies b c) = b || c
some_atom_step test (WrittenFormula-F.Iff b c) = b || c
some_atom_step test WrittenFormula-F.Quantified = false

-- some atom of the formula has the flaw; in a quantifier nothing is tested
unfoldable pub formula_has : Scope → Flaw → WrittenFormula → Bool
formula_has s flaw = fold-WrittenFormula Bool (some_atom_step (atom_has s flaw))

abbrev pub quantifier_step : WrittenFormula-F Bool → Bool
quantifier_step (WrittenFormula-F.Atom a) = false
quantifier_step (WrittenFormula-F.Not b) = b
quantifier_step (WrittenFormula-F.And bs) = any_true bs
quantifier_step (WrittenFormula-F.Or bs) = any_true bs
quantifier_step (WrittenFormula-F.Implies b c) = b || c
quantifier_step (WrittenFormula-F.Iff b c) = b || c
quantifier_step WrittenFormula-F.Quantified = true

-- a quantifier stands inside the formula
unfoldable pub has_quantifier : WrittenFormula → Bool
has_quantifier = fold-WrittenFormula Bool quantifier_step
