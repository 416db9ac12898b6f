-- For the private contracts and the proofs of this crate alone: the variables of a conclusion with its lists of terms.
use Rattle.std.specs.Prelude.{List, map}
use Rattle.std.specs.List.{flat_map}
use Rattle.am_term.specs.declared.term.Term.{Term}
use Rattle.am_clause.specs.declared.clause.Clause.{Clause}
use Rattle.am_clause.specs.declared.row.Made.{Made}
use Rattle.am_clause.specs.Distinct.{distinct}
use Rattle.am_clause.specs.Variables.{Variable, same_variable, occurrences_all}
use Rattle.am_clause.specs.Renaming.{Numbers, renamed_all}
use Rattle.am_clause.specs.NumberedMade.{made_occurrences}

-- the variables of some lists of terms, each as often as it occurs
abbrev pub in_lists : List (List Term) → List Variable
in_lists ws = flat_map occurrences_all ws

-- a clause with lists of terms
abbrev pub row : Clause → List (List Term) → Made
row c ws = record { clause = c; with = ws }

-- the different variables of a conclusion with its lists, by their first occurrences
abbrev pub variables_of_made : Made → List Variable
variables_of_made m = distinct same_variable (made_occurrences m)

abbrev pub renamed_lists : Numbers → List (List Term) → List (List Term)
renamed_lists to = map (renamed_all to)
