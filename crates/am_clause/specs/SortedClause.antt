-- Which clauses are well sorted, and which lists of terms bind the variables of a clause.
use Rattle.std.specs.Prelude.{◌&&◌, Bool, true, List, Option, Some, None, is_some}
use Rattle.std.specs.List.{list_all}
use Rattle.am_term.specs.declared.id.SortId.{SortId}
use Rattle.am_term.specs.declared.signature.Signature.{Signature}
use Rattle.am_term.specs.declared.term.Term.{Term}
use Rattle.am_term.specs.Sorting.{sort_of, sorts_of, fit_places, is_sorted_literal}
use Rattle.am_clause.specs.declared.clause.Clause.{Clause}
use Rattle.am_clause.specs.Numbered.{sorts_in}

-- each term of the answer has a sort, where there is an answer
abbrev pub is_sorted_answer : Signature → List SortId → Option (List Term) → Bool
is_sorted_answer sig ins None = true
is_sorted_answer sig ins (Some ts) = list_all (λ t. is_some (sort_of sig ins t)) ts

-- each literal is well sorted, and each term of the answer has a sort
abbrev pub is_sorted_clause : Signature → List SortId → Clause → Bool
is_sorted_clause sig ins c = list_all (is_sorted_literal sig ins) c.literals && is_sorted_answer sig ins c.answer

-- one term for each variable of the clause, in order, each with a sort that fits the variable's
abbrev pub are_bindings : Signature → List SortId → List Term → Clause → Bool
are_bindings sig ins with c = fit_places sig (sorts_of sig ins with) (sorts_in c)
