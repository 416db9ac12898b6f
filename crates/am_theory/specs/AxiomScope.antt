-- The variables of a declaration, and what names stand for in its formula.
use Rattle.std.specs.Prelude.{List, []}
use Rattle.am_syntax.specs.Scopes.{Scope}
use Rattle.am_theory.specs.declared.declaration.Typed.{Typed}
use Rattle.am_theory.specs.declared.declaration.Declaration.{Declaration}
use Rattle.am_theory.specs.declared.declaration.Declaration.TheVariants as decl
use Rattle.am_theory.specs.Contents.{Contents, axiom_scope}

-- the variables of an axiom; nothing else has any
abbrev pub variables_in : Declaration → List Typed
variables_in (decl.Sort n r copy) = []
variables_in (decl.Subsort n s) = []
variables_in (decl.Function n args r) = []
variables_in (decl.Relation n args) = []
variables_in (decl.Literal n s v) = []
variables_in (decl.Routine n inputs outputs) = []
variables_in (decl.Value f n args r) = []
variables_in (decl.Axiom vs g) = vs

-- what names stand for in an axiom with these variables
abbrev pub scope_in : Contents → Declaration → Scope
scope_in c d = axiom_scope c (variables_in d)
