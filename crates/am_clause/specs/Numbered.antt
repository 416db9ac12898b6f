-- What numbering by first occurrence is: words of its laws.
use Rattle.std.specs.Prelude.{◌≡◌, ◌<◌, ℕ, List, map, Some, IsTrue, slice_get, ◌++◌}
use Rattle.am_term.specs.declared.id.SortId.{SortId}
use Rattle.am_clause.specs.declared.clause.Clause.{Clause}
use Rattle.am_clause.specs.Distinct.{among, distinct}
use Rattle.am_clause.specs.Variables.{Variable, same_variable, in_clause, variables, occurrences_all}
use Rattle.am_clause.specs.Renaming.{Numbers, renamed_clause}
use Rattle.std.specs.List.{flat_map}
use Rattle.am_term.specs.declared.term.Term.{Term}
use Rattle.am_clause.specs.declared.row.Row.{Row}

-- the variable occurs in the clause, in a literal or in the answer
abbrev pub Occurs : Variable → Clause → Type 0
Occurs v c = IsTrue (among same_variable v (in_clause c))

-- The numbers are a bijection of the clause's variables onto the numbers below the count.
pub record IsBijection (c : Clause) (to : Numbers) (count : ℕ) : Type 0 where
  pub below : (v : Variable) → Occurs v c → to v.0 v.1 < count
  pub apart : (v w : Variable) → Occurs v c → Occurs w c → to v.0 v.1 ≡ to w.0 w.1 → v ≡ w
  pub every : (k : ℕ) → k < count → (v : Variable) × Occurs v c × (to v.0 v.1 ≡ k)

-- the k-th different variable, by first occurrences and from 0, has the number k
abbrev pub IsNumbered : Clause → Type 0
IsNumbered c = (k : ℕ) (v : Variable) → slice_get (variables c) k ≡ Some v → v.0 ≡ k

-- The second clause is the first but for a bijection of variables that keeps sorts: each variable has
-- another number and its old sort, and no two different variables become one.
pub record AreAlike (c d : Clause) : Type 0 where
  pub to : Numbers
  pub apart : (v w : Variable) → Occurs v c → Occurs w c → to v.0 v.1 ≡ to w.0 w.1 → v.1 ≡ w.1 → v ≡ w
  pub is : d ≡ renamed_clause to c

-- the sorts of the different variables, in order
abbrev pub sorts_in : Clause → List SortId
sorts_in c = map (λ (v : Variable). v.1) (variables c)

-- the same of a list of occurrences
abbrev pub AreNumbered : List Variable → Type 0
AreNumbered vs = (k : ℕ) (v : Variable) → slice_get (distinct same_variable vs) k ≡ Some v → v.0 ≡ k

-- the variables of a clause with lists of terms: those of the literals, of the answer, then of the lists
abbrev pub in_made : List (List Term) → Clause → List Variable
in_made with c = in_clause c ++ flat_map occurrences_all with

-- through the clause of the row and then its lists of terms
abbrev pub IsNumberedRow : Row → Type 0
IsNumberedRow r = AreNumbered (in_made r.with r.clause)
