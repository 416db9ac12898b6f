-- Each inferred row is what the call of its rule answers for earlier rows.
use Rattle.std.specs.Prelude.{Option, None, Some, List, ◌≡◌, ℕ, [], ◌<◌, ◌≤◌, ◌-◌, Bool, true, false, ◌==◌}
use Rattle.std.specs.List.{AllByRecursion}
use Rattle.am_clause.specs.Ancestors.{parents_of}
use Rattle.am_clause.specs.declared.clause.Clause.{Clause}
use Rattle.am_clause.specs.declared.row.Made.{Made}
use Rattle.am_clause.specs.declared.row.Row.{Row}
use Rattle.am_clause.specs.declared.row.Rule.{Rule}
use Rattle.am_rules.specs.Conclusions.{factored, resolved, paramodulated, reflexed, rewritten, closed_off}
use Rattle.am_search.specs.Members.{row_at, Member, numbered_rows}
use Rattle.am_search.specs.Plain.{History, Start, Then, Choose, Infer, rows, EachIsDue}
use Rattle.am_search.specs.Rules.{rules_of}
use Rattle.am_term.specs.declared.id.SortId.{SortId}
use Rattle.am_term.specs.declared.signature.Signature.{Signature}
use Rattle.am_clause.specs.declared.row.Rule.TheVariants as R

abbrev pub on : Option Row → (Clause → Option Made) → Option Made
on None f = None
on (Some row) f = f row.clause

abbrev pub on_both : Option Row → Option Row → (Clause → Clause → Option Made) → Option Made
on_both None q f = None
on_both (Some p) q f = on q (f p.clause)

-- this, if the test holds
abbrev pub only_if : Bool → Option Made → Option Made
only_if true o = o
only_if false o = None

-- what the call of a rule answers for the rows that it names; a rewrite is by the first literal of its unit
abbrev pub replay : Signature → List SortId → List Row → Rule → Option Made
replay sig ins rs (R.Axiom a k) = None
replay sig ins rs R.Goal = None
replay sig ins rs (R.Given k) = None
replay sig ins rs (R.Factor p i j) = on (row_at rs p) (λ g. factored sig ins g i j)
replay sig ins rs (R.Reflex p i) = on (row_at rs p) (λ g. reflexed sig ins g i)
replay sig ins rs (R.Resolve p i q j) = on_both (row_at rs p) (row_at rs q) (λ g d. resolved sig ins g i d j)
replay sig ins rs (R.Para p j side q i path) = on_both (row_at rs p) (row_at rs q) (λ g d. paramodulated sig ins g j side d i path)
replay sig ins rs (R.Rewrite p j side q i path) = only_if (j == 1) (on_both (row_at rs p) (row_at rs q) (λ g d. rewritten sig ins g side d i path))
replay sig ins rs (R.Close p) = on (row_at rs p) (λ g. closed_off sig ins g)

abbrev pub IsReplayed : Signature → List SortId → List Row → Row → Type 0
IsReplayed sig ins rs row = replay sig ins rs row.rule ≡ Some (record { clause = row.clause; with = row.with })

-- each inferred row is a step from the rows before it
abbrev pub Logged : Signature → List SortId → List Row → History → Type 0
Logged sig ins start Start = Unit {0}
Logged sig ins start (Then h (Choose n)) = Logged sig ins start h
Logged sig ins start (Then h (Infer row)) = IsReplayed sig ins (rows start h) row × Logged sig ins start h

abbrev pub StepsLaw : Type 0
StepsLaw = (sig : Signature) (ins : List SortId) (most axioms starting : ℕ) (start : List Row) (h : History) → EachIsDue (rules_of sig ins most axioms starting) start h → Logged sig ins start h

-- a number of one of the first so many rows
pub record IsBelow (most n : ℕ) : Type 0 where
  pub some : 0 < n
  pub low : n ≤ most

-- the rows that a row names are earlier
abbrev pub IsRooted : Member → Type 0
IsRooted m = AllByRecursion (IsBelow (m.number - 1)) (parents_of m.row.rule)

abbrev pub HasNoParents : Row → Type 0
HasNoParents row = parents_of row.rule ≡ []

-- each row names earlier rows alone
abbrev pub ParentsLaw : Type 0
ParentsLaw = (sig : Signature) (ins : List SortId) (most axioms starting : ℕ) (start : List Row) (h : History)
    → AllByRecursion HasNoParents start → EachIsDue (rules_of sig ins most axioms starting) start h → AllByRecursion IsRooted (numbered_rows 1 (rows start h))
