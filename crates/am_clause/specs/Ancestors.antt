-- The rows that a row rests on, and the log of these alone.
use Rattle.std.specs.Prelude.{◌≡◌, ◌↔◌, ◌==◌, ◌<◌, ℕ, zero, suc, Bool, true, List, [], ◌∷◌, Some, IsTrue, if◌then◌else◌}
use Rattle.std.specs.List.{list_any, AllByRecursion}
use Rattle.am_term.specs.Place.{member}
use Rattle.am_clause.specs.declared.row.Rule.{Rule}
use Rattle.am_clause.specs.declared.row.Rule.TheVariants.{Axiom, Goal, Given, Factor, Reflex, Resolve, Para, Rewrite, Close}
use Rattle.am_clause.specs.declared.row.Row.{Row}

-- the numbers of a rule's parents
abbrev pub parents_of : Rule → List ℕ
parents_of (Axiom k c) = []
parents_of Goal = []
parents_of (Given k) = []
parents_of (Factor p i j) = p ∷ []
parents_of (Reflex p i) = p ∷ []
parents_of (Resolve p i q j) = p ∷ q ∷ []
parents_of (Para p j side q i path) = p ∷ q ∷ []
parents_of (Rewrite p j side q i path) = p ∷ q ∷ []
parents_of (Close p) = p ∷ []

-- each parent of a row is an earlier row; rows are numbered from 1
abbrev pub AreOrdered : List Row → Type 0
AreOrdered rows = (n : ℕ) (r : Row) → member rows n ≡ Some r → AllByRecursion (λ p. (0 < p) × (p < n)) (parents_of r.rule)

-- row p is a parent of the row
abbrev pub has_parent : Row → ℕ → Bool
has_parent r p = list_any (λ q. q == p) (parents_of r.rule)

-- row m rests on row n: it is that row, or some parent of it rests on that row
pub data RestsOn (rows : List Row) : ℕ → ℕ → Type 0 where
  Itself : (n : ℕ) → RestsOn rows n n
  ByParent : (m p n : ℕ) (r : Row) → member rows m ≡ Some r → has_parent r p ≡ true → RestsOn rows p n → RestsOn rows m n

-- how many of the first n rows stay
abbrev pub count_to : (ℕ → Bool) → ℕ → ℕ
count_to stays zero = 0
count_to stays (suc n) = if stays (suc n) then suc (count_to stays n) else count_to stays n

-- the rule with other numbers for its parents
abbrev pub with_parents : (ℕ → ℕ) → Rule → Rule
with_parents to (Axiom k c) = Axiom k c
with_parents to Goal = Goal
with_parents to (Given k) = Given k
with_parents to (Factor p i j) = Factor (to p) i j
with_parents to (Reflex p i) = Reflex (to p) i
with_parents to (Resolve p i q j) = Resolve (to p) i (to q) j
with_parents to (Para p j side q i path) = Para (to p) j side (to q) i path
with_parents to (Rewrite p j side q i path) = Rewrite (to p) j side (to q) i path
with_parents to (Close p) = Close (to p)

-- the row with other numbers for its parents
abbrev pub renumbered_row : (ℕ → ℕ) → Row → Row
renumbered_row to r = record { rule = with_parents to r.rule; with = r.with; clause = r.clause }

-- of rows that are numbered from n on those that stay, in order, with other numbers for their parents
abbrev pub kept_from : (ℕ → Bool) → (ℕ → ℕ) → ℕ → List Row → List Row
kept_from stays to n [] = []
kept_from stays to n (r ∷ rs) = if stays n then renumbered_row to r ∷ kept_from stays to (suc n) rs else kept_from stays to (suc n) rs

-- Exactly the rows stay that the last one rests on. A parent's new number is its place among them.
pub record AreAncestors (rows : List Row) (last : ℕ) (made : List Row) : Type 0 where
  pub stays : ℕ → Bool
  pub those : (n : ℕ) → IsTrue (stays n) ↔ RestsOn rows last n
  pub is : made ≡ kept_from stays (count_to stays) 1 rows
