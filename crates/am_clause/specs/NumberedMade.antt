-- Numbering of a conclusion with its lists of terms: one bijection for the clause and the lists.
use Rattle.std.specs.Prelude.{◌≡◌, List, [], map, IsTrue}
use Rattle.am_clause.specs.declared.clause.Clause.{Clause}
use Rattle.am_clause.specs.declared.row.Made.{Made}
use Rattle.am_clause.specs.Distinct.{distinct, among}
use Rattle.am_clause.specs.Variables.{Variable, same_variable}
use Rattle.am_clause.specs.Renaming.{Numbers, renamed_all, renamed_clause, places_in}
use Rattle.am_clause.specs.Numbered.{in_made}

-- each variable has the place of its first occurrence among those of the different variables, from 0
abbrev pub numbering : List Variable → Numbers
numbering vs = places_in (distinct same_variable vs)

-- the occurrences of variables in a conclusion with its lists, in order
abbrev pub made_occurrences : Made → List Variable
made_occurrences m = in_made m.with m.clause

-- other numbers for the variables of the clause and of each list
abbrev pub renamed_made : Numbers → Made → Made
renamed_made to m = record { clause = renamed_clause to m.clause; with = map (renamed_all to) m.with }

-- numbered by first occurrence: the literals, the answer, then the lists
unfoldable pub numbered_made : Made → Made
numbered_made m = renamed_made (numbering (made_occurrences m)) m

-- a clause that no row was bound to
abbrev pub without_lists : Clause → Made
without_lists c = record { clause = c; with = [] }

-- the second is the first but for a bijection of variables that keeps sorts
pub record AreAlikeMade (m n : Made) : Type 0 where
  pub to : Numbers
  pub apart : (v w : Variable) → IsTrue (among same_variable v (made_occurrences m)) → IsTrue (among same_variable w (made_occurrences m)) → to v.0 v.1 ≡ to w.0 w.1 → v.1 ≡ w.1 → v ≡ w
  pub is : n ≡ renamed_made to m
