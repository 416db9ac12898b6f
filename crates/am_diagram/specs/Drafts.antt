-- What a diagram file has declared so far, and which diagram that is at its end.
use Rattle.std.specs.Prelude.{◌+◌, ◌++◌, ℕ, List, [], ◌∷◌, map, length}
use Rattle.am_term.specs.declared.id.SortId.{SortId}
use Rattle.am_term.specs.declared.symbol.Symbol.{Symbol}
use Rattle.am_syntax.specs.declared.scope.Bound.{Bound}
use Rattle.am_syntax.specs.declared.scope.Standing.TheVariants.{Variable, Input as InputStanding, Barred}
use Rattle.am_syntax.specs.Scopes.{Scope, profile}
use Rattle.am_syntax.specs.Meaning.{literal_meaning}
use Rattle.am_theory.specs.declared.theory.Theory.{Theory}
use Rattle.am_theory.specs.Contents.{contents, sort_number}
use Rattle.am_diagram.specs.declared.declaration.Declaration.{Declaration}
use Rattle.am_diagram.specs.declared.declaration.Declaration.TheVariants.{Input, Object, Output, Given, Require}
use Rattle.am_diagram.specs.declared.diagram.Diagram.{Diagram}
use Rattle.am_diagram.specs.declared.draft.Draft.{Draft}

-- before the first declaration
abbrev pub started : List ℕ → Draft
started n = record { name = n; inputs = []; objects = []; outputs = []; givens = []; required = [] }

-- a name with the sort of the theory that is written behind it
abbrev pub typed : Theory → List ℕ → List ℕ → List ℕ × SortId
typed t n s = (n, sort_number (contents t) s)

-- what there is after one more declaration
unfoldable pub with_decl : Theory → Draft → Declaration → Draft
with_decl t d (Input n s) = record d { inputs = d.inputs ++ typed t n s ∷ [] }
with_decl t d (Object n s) = record d { objects = d.objects ++ typed t n s ∷ [] }
with_decl t d (Output n s) = record d { outputs = d.outputs ++ typed t n s ∷ [] }
with_decl t d (Given l) = record d { givens = d.givens ++ l ∷ [] }
with_decl t d (Require l) = record d { required = d.required ++ l ∷ [] }

-- the inputs, numbered from k
abbrev pub inputs_from : ℕ → List (List ℕ × SortId) → List Bound
inputs_from k [] = []
inputs_from k (e ∷ es) = record { name = e.0; standing = InputStanding k e.1 } ∷ inputs_from (k + 1) es

-- the variables of objects or outputs, numbered from n
abbrev pub bound_variables_from : ℕ → List (List ℕ × SortId) → List Bound
bound_variables_from n [] = []
bound_variables_from n (e ∷ es) = record { name = e.0; standing = Variable n e.1 } ∷ bound_variables_from (n + 1) es

-- names that are declared and may not stand there
abbrev pub barred : List (List ℕ × SortId) → List Bound
barred es = map (λ (e : List ℕ × SortId). record { name = e.0; standing = Barred }) es

abbrev pub scope_with : Theory → List Bound → Scope
scope_with t bound = record { names = map (λ (y : Symbol). y.name) t.sig.symbols; symbols = map profile t.sig.symbols; parents = t.sig.parents; bound = bound }

-- what names stand for in a requirement, beside symbols: variable n is object n, and the outputs follow the objects
abbrev pub requirement_bound : Draft → List Bound
requirement_bound d = inputs_from 0 d.inputs ++ bound_variables_from 0 d.objects ++ bound_variables_from (length d.objects) d.outputs

abbrev pub requirement_scope : Theory → Draft → Scope
requirement_scope t d = scope_with t (requirement_bound d)

-- what names stand for in a given, beside symbols: inputs alone; objects and outputs may not stand there
abbrev pub given_bound : Draft → List Bound
given_bound d = inputs_from 0 d.inputs ++ barred d.objects ++ barred d.outputs

abbrev pub given_scope : Theory → Draft → Scope
given_scope t d = scope_with t (given_bound d)

-- the diagram of all declarations: the literals by what the names stand for at the end
unfoldable pub diagram_of : Theory → Draft → Diagram
diagram_of t d = record {
  name = d.name;
  inputs = d.inputs;
  objects = d.objects;
  outputs = d.outputs;
  givens = map (literal_meaning (given_scope t d)) d.givens;
  required = map (literal_meaning (requirement_scope t d)) d.required;
}
