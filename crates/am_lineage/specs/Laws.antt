-- Laws of the rows that a row of a proof rests on.
use Rattle.std.specs.Prelude.{◌≡◌, ℕ, List, [], length, Some}
use Rattle.am_term.specs.declared.id.SortId.{SortId}
use Rattle.am_term.specs.declared.signature.Signature.{Signature}
use Rattle.am_term.specs.Place.{member}
use Rattle.am_clause.specs.declared.clause.Clause.{Clause}
use Rattle.am_clause.specs.declared.row.Row.{Row}
use Rattle.am_clause.specs.Ancestors.{count_to, with_parents, AreOrdered, AreAncestors}
use Rattle.am_clause.specs.Steps.{Sources, AreSteps, clause_at}

-- The row is one of those rows with other numbers for its parents: its clause and its lists of terms are the same.
pub record IsRowOf (rows : List Row) (to : ℕ → ℕ) (row : Row) : Type 0 where
  pub number : ℕ
  pub old : Row
  pub there : member rows number ≡ Some old
  pub clause : row.clause ≡ old.clause
  pub with : row.with ≡ old.with
  pub rule : row.rule ≡ with_parents to old.rule

-- The ancestors of a row of a proof are a proof.
abbrev pub AncestorsAreSteps : Type 0
AncestorsAreSteps =
    (sig : Signature) (ins : List SortId) (sources : Sources) (rows : List Row) (last : ℕ) (made : List Row)
    → AreSteps sig ins sources [] rows → AreAncestors rows last made → AreSteps sig ins sources [] made

-- Their last row has the clause of that row; so where the row is there, they aren't empty.
abbrev pub AncestorsEndWithClause : Type 0
AncestorsEndWithClause =
    (sig : Signature) (ins : List SortId) (sources : Sources) (rows : List Row) (last : ℕ) (made : List Row)
    (c : Clause) → AreSteps sig ins sources [] rows → AreAncestors rows last made
    → clause_at rows last ≡ Some c → clause_at made (length made) ≡ Some c

-- Each of them is one of the rows. A parent's new number is the count of the rows up to it that stay.
abbrev pub AncestorsAreRows : Type 0
AncestorsAreRows =
    (rows : List Row) (last : ℕ) (made : List Row) (a : AreAncestors rows last made) (n : ℕ) (r : Row)
    → member made n ≡ Some r → IsRowOf rows (count_to a.stays) r

-- In a proof each parent of a row is an earlier row.
abbrev pub StepsAreOrdered : Type 0
StepsAreOrdered =
    (sig : Signature) (ins : List SortId) (sources : Sources) (rows : List Row)
    → AreSteps sig ins sources [] rows → AreOrdered rows

-- A row has one list of ancestors.
abbrev pub AncestorsAreOne : Type 0
AncestorsAreOne = (rows : List Row) (last : ℕ) (made other : List Row) → AreAncestors rows last made → AreAncestors rows last other → made ≡ other
