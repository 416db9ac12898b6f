-- Laws of the plain search.
use Rattle.std.specs.Prelude.{List, ℕ, ◌≡◌, [], ◌++◌, ◌∷◌, length, ◌+◌, Some, Bool, map}
use Rattle.std.specs.List.{filter}
use Rattle.am_clause.specs.Size.{clause_weight}
use Rattle.am_clause.specs.declared.row.Row.{Row}
use Rattle.am_search.specs.Members.{row_at, Member, is_waiting, numbered_rows}
use Rattle.am_search.specs.Plain.{Pick, History, Plain, Picked, Event, Choose, rest, Then, Infer, Start, judged, EachIsDue, Judged, fate_of, rows, choices, entries, wait_list}
use Rattle.am_search.specs.Rules.{Rules, rules_of}
use Rattle.am_agenda.specs.declared.wait_row.WaitRow.{WaitRow}
use Rattle.am_search.specs.declared.fate.End.{End}
use Rattle.am_search.specs.declared.fate.Entry.{Entry}
use Rattle.am_search.specs.declared.fate.Fate.{Fate}
use Rattle.am_search.specs.declared.fate.Fate.TheVariants.{Last}
use Rattle.am_search.specs.declared.fate.Prepared.{Prepared}
use Rattle.am_search.specs.declared.fate.Stage.{Stage}
use Rattle.am_search.specs.declared.fate.Stage.TheVariants.{Quiet, Makes, Closes, Ended}
use Rattle.am_term.specs.declared.id.SortId.{SortId}
use Rattle.am_term.specs.declared.signature.Signature.{Signature}

-- there is one history, and one end
abbrev pub OneHistory : Type 0
OneHistory = (c : Rules) (start : List Row) (limit : ℕ) (pick : Pick) (h k : History) (end fin : End)
    → Plain c start limit h end → Picked pick c start h → Plain c start limit k fin → Picked pick c start k → (h ≡ k) × (end ≡ fin)

abbrev pub turn_after : Rules → List Row → History → Event → List Row → List Row
turn_after c start h (Choose n) before = rest c start (Then h (Choose n))
turn_after c start h (Infer row) before = before

-- the turn of the last choice
abbrev pub whole_turn : Rules → List Row → History → List Row
whole_turn c start Start = []
whole_turn c start (Then h e) = turn_after c start h e (whole_turn c start h)

abbrev pub made_then : Stage → List Row → Row → List Row
made_then Quiet made row = made ++ row ∷ []
made_then (Makes r) made row = made
made_then (Closes r) made row = made
made_then (Ended b) made row = made

-- the inferences since the last choice, but for normal steps and close rows
abbrev pub made_of_turn : Rules → List Row → History → List Row
made_of_turn c start Start = []
made_of_turn c start (Then h (Choose n)) = []
made_of_turn c start (Then h (Infer row)) = made_then (judged c start h).stage (made_of_turn c start h) row

-- a turn is made in order
abbrev pub TurnInOrder : Type 0
TurnInOrder = (c : Rules) (start : List Row) (h : History) → EachIsDue c start h → made_of_turn c start h ++ rest c start h ≡ whole_turn c start h

-- the fate of an inferred row: that of a prepared row, or Last for a close row
abbrev pub fate_then : Rules → List Row → List ℕ → ℕ → Row → Stage → Judged → Fate
fate_then c rs ns n row Quiet j = (fate_of c rs ns j.fates n row).0
fate_then c rs ns n row (Makes r) j = (fate_of c rs ns j.fates n row).0
fate_then c rs ns n row (Closes r) j = Last
fate_then c rs ns n row (Ended b) j = Last

-- one for each inference, with its rule and its row's fate
abbrev pub entries_made : Rules → List Row → History → List Entry
entries_made c start Start = []
entries_made c start (Then h (Choose n)) = entries_made c start h
entries_made c start (Then h (Infer row)) = entries_made c start h ++ (record { rule = row.rule; fate = fate_then c (rows start h ++ row ∷ []) (choices h) (length (rows start h) + 1) row (judged c start h).stage (judged c start h) }) ∷ []

-- the entries that a search answers are these
abbrev pub EntriesLaw : Type 0
EntriesLaw = (c : Rules) (start : List Row) (h : History) → c.starting ≡ length start → EachIsDue c start h → entries c start h ≡ entries_made c start h

-- the row that got its fate last is Last
pub record EndsWithLast (rs : List Row) (fates : List Prepared) : Type 0 where
  pub earlier : List Prepared
  pub number : ℕ
  pub row : Row
  pub fates_are : fates ≡ earlier ++ (record { number = number; fate = Last }) ∷ []
  pub stands : row_at rs number ≡ Some row

-- where the search is at its end by a row, that row is the one that got its fate last
abbrev pub LastLaw : Type 0
LastLaw = (c : Rules) (start : List Row) (h : History) (answer : Bool) → (judged c start h).stage ≡ Ended answer → EndsWithLast (rows start h) (judged c start h).fates

-- a member by its number and the weight of its clause
abbrev pub weighed : Member → WaitRow
weighed m = record { number = m.number; weight = clause_weight m.row.clause }

-- a chooser is shown the weights of the clauses
abbrev pub WeightLaw : Type 0
WeightLaw = (sig : Signature) (ins : List SortId) (most axioms starting : ℕ) (start : List Row) (h : History)
    → wait_list (rules_of sig ins most axioms starting) start h
    ≡ map weighed (filter (is_waiting (judged (rules_of sig ins most axioms starting) start h).fates (choices h)) (numbered_rows 1 (rows start h)))
