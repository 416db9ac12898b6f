-- The canonical text of a theory: its declarations, one a line, one blank between members; the sorts in
-- order, the declarations of symbols in order, the axioms in order.
use Rattle.std.specs.Prelude.{◌+◌, ◌++◌, ◌==◌, ℕ, ℤ, pos, Bool, false, Option, Some, None, List, [], ◌∷◌, map, codes, find, slice_get, slice_index_or}
use Rattle.am_term.specs.declared.id.SortId.{SortId}
use Rattle.am_term.specs.declared.id.SymId.{SymId}
use Rattle.am_term.specs.declared.kind.SymKind.{SymKind}
use Rattle.am_term.specs.declared.kind.SymKind.TheVariants as kind
use Rattle.am_text.specs.declared.form.Form.{Form}
use Rattle.am_text.specs.declared.form.FormNode.TheVariants as node
use Rattle.am_text.specs.Spelling.{lines}
use Rattle.am_syntax.specs.Forms.{word_form, list_form, headed_form, formula_form}
use Rattle.am_syntax.specs.Naming.{Naming, named_formula}
use Rattle.am_syntax.specs.Scopes.{Profile}
use Rattle.am_theory.specs.declared.theory.Rep.{Rep}
use Rattle.am_theory.specs.declared.theory.Rep.TheVariants as rep
use Rattle.am_theory.specs.declared.theory.LitValue.{LitValue}
use Rattle.am_theory.specs.declared.theory.LitValue.TheVariants as value
use Rattle.am_theory.specs.declared.theory.Routine.{Routine}
use Rattle.am_theory.specs.declared.theory.FortranFunction.{FortranFunction}
use Rattle.am_theory.specs.declared.theory.LiteralDecl.{LiteralDecl}
use Rattle.am_theory.specs.declared.theory.Axiom.{Axiom}
use Rattle.am_theory.specs.declared.theory.Theory.{Theory}
use Rattle.am_theory.specs.declared.declaration.WrittenRep.{WrittenRep}
use Rattle.am_theory.specs.declared.declaration.WrittenRep.TheVariants as written
use Rattle.am_theory.specs.declared.declaration.Typed.{Typed}
use Rattle.am_theory.specs.declared.declaration.Declaration.{Declaration}
use Rattle.am_theory.specs.declared.declaration.Declaration.TheVariants as decl
use Rattle.am_theory.specs.Contents.{Contents, contents, symbol_names}

-- ---- which form a declaration is

abbrev pub number_form : ℤ → Form
number_form n = record { place = 0; node = node.Number n }

abbrev pub value_form : LitValue → Form
value_form (value.Int n) = number_form n
value_form (value.Text t) = record { place = 0; node = node.Text t }

abbrev pub names_form : List (List ℕ) → Form
names_form ws = list_form (map word_form ws)

-- `(NAME SORT)`
abbrev pub typed_form : Typed → Form
typed_form v = headed_form v.name (word_form v.sort ∷ [])

abbrev pub rep_form : WrittenRep → Form
rep_form written.Double = word_form (codes "double")
rep_form written.Integer = word_form (codes "integer")
rep_form written.Logical = word_form (codes "logical")
rep_form (written.Char n) = headed_form (codes "char") (number_form n ∷ [])
rep_form (written.DoubleVec m) = headed_form (codes "double") (number_form m ∷ [])
rep_form (written.DoubleMat m n) = headed_form (codes "double") (number_form m ∷ number_form n ∷ [])
rep_form (written.IntegerVec m) = headed_form (codes "integer") (number_form m ∷ [])

-- nothing for an abstract sort; the representation, and the copy routine behind it
abbrev pub rep_forms : Option WrittenRep → Option (List ℕ) → List Form
rep_forms None copy = []
rep_forms (Some r) None = rep_form r ∷ []
rep_forms (Some r) (Some n) = rep_form r ∷ word_form n ∷ []

unfoldable pub decl_form : Declaration → Form
decl_form (decl.Sort n r copy) = headed_form (codes "sort") (word_form n ∷ rep_forms r copy)
decl_form (decl.Subsort n s) = headed_form (codes "subsort") (word_form n ∷ word_form s ∷ [])
decl_form (decl.Function n args r) = headed_form (codes "function") (word_form n ∷ names_form args ∷ word_form r ∷ [])
decl_form (decl.Relation n args) = headed_form (codes "relation") (word_form n ∷ names_form args ∷ [])
decl_form (decl.Literal n s v) = headed_form (codes "literal") (word_form n ∷ word_form s ∷ value_form v ∷ [])
decl_form (decl.Routine n inputs outputs) = headed_form (codes "routine") (word_form n ∷ names_form inputs ∷ map typed_form outputs)
decl_form (decl.Value f n args r) = headed_form (codes "value") (word_form f ∷ word_form n ∷ names_form args ∷ word_form r ∷ [])
decl_form (decl.Axiom [] f) = headed_form (codes "axiom") (formula_form f ∷ [])
decl_form (decl.Axiom (v ∷ vs) f) = headed_form (codes "axiom") (headed_form (codes "all") (list_form (map typed_form (v ∷ vs)) ∷ formula_form f ∷ []) ∷ [])

-- `(theory 1)` or `(theory 2)`
abbrev pub version_form : ℕ → Form
version_form v = headed_form (codes "theory") (number_form (pos v) ∷ [])

-- ---- the declarations of a theory

abbrev pub sort_name : Contents → SortId → List ℕ
sort_name c s = slice_index_or c.sorts s.0 []

abbrev pub sort_names : Contents → List SortId → List (List ℕ)
sort_names c ss = map (sort_name c) ss

-- the name of a result sort; a relation has none
abbrev pub result_name : Contents → Option SortId → List ℕ
result_name c None = []
result_name c (Some s) = sort_name c s

abbrev pub written_rep : Rep → WrittenRep
written_rep rep.Double = written.Double
written_rep rep.Integer = written.Integer
written_rep rep.Logical = written.Logical
written_rep (rep.Char n) = written.Char (pos n)
written_rep (rep.DoubleVec m) = written.DoubleVec (pos m)
written_rep (rep.DoubleMat m n) = written.DoubleMat (pos m) (pos n)
written_rep (rep.IntegerVec m) = written.IntegerVec (pos m)

abbrev pub rep_as_written : Option Rep → Option WrittenRep
rep_as_written None = None
rep_as_written (Some r) = Some (written_rep r)

-- a sort by its name and its representation, or by its name and that of the sort above it
abbrev pub declared_sort : Contents → List ℕ → Option SortId → Option Rep → Option (List ℕ) → Declaration
declared_sort c n None r copy = decl.Sort n (rep_as_written r) copy
declared_sort c n (Some p) r copy = decl.Subsort n (sort_name c p)

-- a declaration for each sort, in order
abbrev pub sort_decls : Contents → List (List ℕ) → List (Option SortId) → List (Option Rep) → List (Option (List ℕ)) → List Declaration
sort_decls c (n ∷ ns) (p ∷ ps) (r ∷ rs) (k ∷ ks) = declared_sort c n p r k ∷ sort_decls c ns ps rs ks
sort_decls c [] ps rs ks = []
sort_decls c (n ∷ ns) [] rs ks = []
sort_decls c (n ∷ ns) (p ∷ ps) [] ks = []
sort_decls c (n ∷ ns) (p ∷ ps) (r ∷ rs) [] = []

abbrev pub typed_at : Contents → Option Profile → Typed
typed_at c None = record { name = []; sort = [] }
typed_at c (Some y) = record { name = y.name; sort = result_name c y.result }

-- an output with its sort
abbrev pub typed_output : Contents → SymId → Typed
typed_output c f = typed_at c (slice_get c.symbols f.0)

abbrev pub is_first : ℕ → List SymId → Bool
is_first k [] = false
is_first k (f ∷ fs) = f.0 == k

-- the routine whose first output is this symbol; a later output has none
abbrev pub declared_routine : Contents → Option Routine → List Declaration
declared_routine c None = []
declared_routine c (Some r) = decl.Routine r.name (sort_names c r.inputs) (map (typed_output c) r.outputs) ∷ []

abbrev pub declared_literal : Contents → Profile → Option LiteralDecl → List Declaration
declared_literal c y None = []
declared_literal c y (Some l) = decl.Literal y.name (result_name c y.result) l.value ∷ []

abbrev pub declared_value : Contents → Profile → Option FortranFunction → List Declaration
declared_value c y None = []
declared_value c y (Some f) = decl.Value f.name y.name (sort_names c y.args) (result_name c y.result) ∷ []

abbrev pub symbol_decl : Contents → ℕ → Profile → SymKind → List Declaration
symbol_decl c k y kind.Function = decl.Function y.name (sort_names c y.args) (result_name c y.result) ∷ []
symbol_decl c k y kind.Relation = decl.Relation y.name (sort_names c y.args) ∷ []
symbol_decl c k y kind.Literal = declared_literal c y (find (λ (l : LiteralDecl). l.symbol.0 == k) c.literals)
symbol_decl c k y kind.Output = declared_routine c (find (λ (r : Routine). is_first k r.outputs) c.routines)
symbol_decl c k y kind.Value = declared_value c y (find (λ (f : FortranFunction). f.symbol.0 == k) c.functions)

-- a declaration for each symbol, in order, from number k on; but one for all outputs of a routine
abbrev pub symbol_decls : Contents → ℕ → List Profile → List Declaration
symbol_decls c k [] = []
symbol_decls c k (y ∷ ys) = symbol_decl c k y y.kind ++ symbol_decls c (k + 1) ys

abbrev pub typed_variable : Contents → List ℕ × SortId → Typed
typed_variable c v = record { name = v.0; sort = sort_name c v.1 }

-- the names in an axiom, by their numbers
abbrev pub axiom_naming : Contents → Axiom → Naming
axiom_naming c a = record { variables = map (λ (v : List ℕ × SortId). v.0) a.vars; inputs = []; symbols = symbol_names c }

abbrev pub written_axiom : Contents → Axiom → Declaration
written_axiom c a = decl.Axiom (map (typed_variable c) a.vars) (named_formula (axiom_naming c a) a.formula)

unfoldable pub declarations : Contents → List Declaration
declarations c = sort_decls c c.sorts c.parents c.reps c.copies ++ symbol_decls c 0 c.symbols ++ map (written_axiom c) c.axioms

-- the first form, and then each declaration, a line each
unfoldable pub canon : Contents → List ℕ
canon c = lines (version_form c.version ∷ map decl_form (declarations c))

abbrev pub canonical_text : Theory → List ℕ
canonical_text t = canon (contents t)
