-- Final clauses: nothing is left to show, and a program can compute the answer.
use Rattle.std.specs.Prelude.{◌&&◌, ◌==◌, Bool, true, false, List, length, slice_get, Option, Some, None}
use Rattle.std.specs.List.{list_all}
use Rattle.am_term.specs.declared.symbol.Symbol.{Symbol}
use Rattle.am_term.specs.declared.signature.Signature.{Signature}
use Rattle.am_term.specs.declared.term.Term.{Term}
use Rattle.am_term.specs.declared.term.Term.TheOpen.{Term-F}
use Rattle.am_term.specs.declared.term.Term.TheFolds.{fold-Term}
use Rattle.am_term.specs.Symbols.{is_computable}
use Rattle.am_clause.specs.declared.clause.Clause.{Clause}

-- the symbol is there, and a program can compute it
abbrev pub is_computable_symbol : Option Symbol → Bool
is_computable_symbol None = false
is_computable_symbol (Some y) = is_computable y.kind

-- the same of a term, where it is known of its arguments
abbrev pub computable_step : Signature → Term-F Bool → Bool
computable_step sig (Term-F.Var n s) = false
computable_step sig (Term-F.In k) = true
computable_step sig (Term-F.App f parts) = is_computable_symbol (slice_get sig.symbols f.0) && list_all (λ b. b) parts

-- the term has no variables, and a program can compute each of its symbols
unfoldable pub is_computable_term : Signature → Term → Bool
is_computable_term sig = fold-Term Bool (computable_step sig)

-- there is an answer, and each of its terms is such
abbrev pub is_computable_answer : Signature → Option (List Term) → Bool
is_computable_answer sig None = false
is_computable_answer sig (Some ts) = list_all (is_computable_term sig) ts

-- no literals, and such an answer
abbrev pub is_final_clause : Signature → Clause → Bool
is_final_clause sig c = length c.literals == 0 && is_computable_answer sig c.answer
