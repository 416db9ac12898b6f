-- What names may stand for: symbols by their numbers, and further names.
use Rattle.std.specs.Prelude.{ℕ, Option, Some, None, List, [], ◌∷◌, map, slice_get, if◌then◌else◌}
use Rattle.std.specs.Str.{bytes_eq}
use Rattle.am_term.specs.declared.id.SortId.{SortId}
use Rattle.am_term.specs.declared.kind.SymKind.{SymKind}
use Rattle.am_term.specs.declared.symbol.Symbol.{Symbol}
use Rattle.am_syntax.specs.declared.scope.Bound.{Bound}
use Rattle.am_syntax.specs.declared.scope.Standing.{Standing}
use Rattle.am_syntax.specs.declared.scope.Standing.TheVariants.{Variable, Input, Barred}
use Rattle.am_syntax.specs.declared.scope.Scope.{Scope as CodeScope}
use Rattle.am_syntax.specs.Positions.{position_of}

-- a symbol as data: its name, the sorts of its arguments, its result sort and its kind
pub record Profile : Type 0 where
  pub name : List ℕ
  pub args : List SortId
  pub result : Option SortId
  pub kind : SymKind

abbrev pub profile : Symbol → Profile
profile y = record { name = y.name; args = y.args; result = y.result; kind = y.kind }

-- the names of the symbols and the symbols, both by number; the parents of the sorts; and what stands
-- for something else
pub record Scope : Type 0 where
  pub names : List (List ℕ)
  pub symbols : List Profile
  pub parents : List (Option SortId)
  pub bound : List Bound

-- the scope that the code hands on
abbrev pub scope_of : CodeScope → Scope
scope_of s = record { names = s.numbers.now.names; symbols = map profile s.sig.now.symbols; parents = s.sig.now.parents; bound = s.bound.now.entries }

-- what the first of this name stands for
abbrev pub standing_of : List ℕ → List Bound → Option Standing
standing_of w [] = None
standing_of w (b ∷ bs) = if bytes_eq w b.name then Some b.standing else standing_of w bs

abbrev pub symbol_at : List Profile → Option ℕ → Option Profile
symbol_at symbols None = None
symbol_at symbols (Some k) = slice_get symbols k

-- the symbol of this name
abbrev pub symbol_of : Scope → List ℕ → Option Profile
symbol_of s w = symbol_at s.symbols (position_of w s.names)

abbrev pub result_of : Option Profile → Option SortId
result_of None = None
result_of (Some y) = y.result

abbrev pub argument_sorts_of : Option Profile → List SortId
argument_sorts_of None = []
argument_sorts_of (Some y) = y.args

abbrev pub standing_sort : Standing → Option SortId
standing_sort (Variable n s) = Some s
standing_sort (Input k s) = Some s
standing_sort Barred = None

abbrev pub alone_sort_by : Option Standing → Option Profile → Option SortId
alone_sort_by (Some standing) y = standing_sort standing
alone_sort_by None y = result_of y

-- the sort of a name alone: that of the variable or input, else the result sort of the symbol; what may
-- not stand there has none
abbrev pub alone_sort : Scope → List ℕ → Option SortId
alone_sort s w = alone_sort_by (standing_of w s.bound) (symbol_of s w)
