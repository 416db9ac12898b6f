-- What the kind of a symbol says.
use Rattle.std.specs.Prelude.{Bool, true, false}
use Rattle.am_term.specs.declared.kind.SymKind.{SymKind}
use Rattle.am_term.specs.declared.kind.SymKind.TheVariants.{Function, Relation, Literal, Output, Value}

-- all but relations have a result
abbrev pub has_result : SymKind → Bool
has_result Function = true
has_result Relation = false
has_result Literal = true
has_result Output = true
has_result Value = true

-- a program can compute literals, outputs of routines and listed functions
abbrev pub is_computable : SymKind → Bool
is_computable Function = false
is_computable Relation = false
is_computable Literal = true
is_computable Output = true
is_computable Value = true
