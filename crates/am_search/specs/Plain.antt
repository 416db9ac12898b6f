-- The plain search: what follows from which rows are inferred and chosen, as one list of events.
use Rattle.std.specs.Prelude.{ℕ, List, [], ◌++◌, ◌∷◌, ◌+◌, Option, Some, None, Bool, true, false, ◌-◌, zero, suc, length, ◌≡◌, nat_lt, ◌≤◌, option_map, slice_get, if◌then◌else◌}
use Rattle.std.specs.List.{filter_map, filter}
use Rattle.am_clause.specs.declared.row.Row.{Row}
use Rattle.am_search.specs.Members.{kept_rows, processed, row_at, Member, waiting}
use Rattle.am_search.specs.Rules.{Rules}
use Rattle.am_agenda.specs.declared.wait_row.WaitRow.{WaitRow}
use Rattle.am_search.specs.declared.fate.End.{End}
use Rattle.am_search.specs.declared.fate.End.TheVariants.{Exhausted, Found, Contradiction, Spent}
use Rattle.am_search.specs.declared.fate.Entry.{Entry}
use Rattle.am_search.specs.declared.fate.Fate.{Fate}
use Rattle.am_search.specs.declared.fate.Fate.TheVariants.{Closed, Kept, Last, Dropped, Rewritten}
use Rattle.am_search.specs.declared.fate.Prepared.{Prepared}
use Rattle.am_simplify.specs.declared.reason.Reason.{Reason}
use Rattle.am_search.specs.declared.fate.Stage.{Stage}
use Rattle.am_search.specs.declared.fate.Stage.TheVariants.{Closes, Quiet, Ended, Makes}
use Rattle.am_term.specs.Place.{place}

pub data Event : Type 0 where
  Choose : (n : ℕ) → Event
  Infer : (row : Row) → Event

-- a list of events, the latest last
pub data History : Type 0 where
  Start : History
  Then : (before : History) → (event : Event) → History

abbrev pub choices : History → List ℕ
choices Start = []
choices (Then h (Choose n)) = choices h ++ n ∷ []
choices (Then h (Infer row)) = choices h

-- the starting rows, and then the inferred ones in order
abbrev pub rows : List Row → History → List Row
rows start Start = start
rows start (Then h (Choose n)) = rows start h
rows start (Then h (Infer row)) = rows start h ++ row ∷ []

abbrev pub inferences : History → ℕ
inferences Start = 0
inferences (Then h (Choose n)) = inferences h
inferences (Then h (Infer row)) = inferences h + 1

-- what became of the rows
pub record Judged : Type 0 where
  pub fates : List Prepared  -- the rows that have a fate, in the order in which they got it
  pub left : ℕ  -- how many of the goal and the givens aren't prepared
  pub stage : Stage  -- what the row asks for that got its fate last

-- the fate of the row of a number, and what it asks for: the first that fits
abbrev pub kept_or_closed : ℕ → Option Row → Fate × Stage
kept_or_closed n (Some closed) = (Closed, Closes closed)
kept_or_closed n None = (Kept n, Quiet)

abbrev pub last_or : Rules → ℕ → Row → Bool → Fate × Stage
last_or c n row true = (Last, Ended (c.has_answer row))
last_or c n row false = kept_or_closed n (c.close_of n row)

abbrev pub dropped_or : Rules → ℕ → Row → Option Reason → Fate × Stage
dropped_or c n row (Some reason) = (Dropped reason, Quiet)
dropped_or c n row None = last_or c n row (c.is_last row)

abbrev pub rewritten_or : Rules → List Row → List Prepared → ℕ → Row → Option Row → Fate × Stage
rewritten_or c rs fates n row (Some made) = (Rewritten, Makes made)
rewritten_or c rs fates n row None = dropped_or c n row (c.reason (kept_rows c.axioms rs fates) row)

abbrev pub big_or : Rules → List Row → List ℕ → List Prepared → ℕ → Row → Option Reason → Fate × Stage
big_or c rs ns fates n row (Some reason) = (Dropped reason, Quiet)
big_or c rs ns fates n row None = rewritten_or c rs fates n row (c.step_of (processed c.axioms rs ns) n row)

abbrev pub fate_of : Rules → List Row → List ℕ → List Prepared → ℕ → Row → Fate × Stage
fate_of c rs ns fates n row = big_or c rs ns fates n row (c.too_big row)

abbrev pub fated : ℕ → Fate × Stage → Judged → Judged
fated n f j = record j { fates = j.fates ++ (record { number = n; fate = f.0 }) ∷ []; stage = f.1 }

-- the row of a number is prepared
abbrev pub prepare : Rules → List Row → List ℕ → ℕ → Option Row → Judged → Judged
prepare c rs ns n None j = j
prepare c rs ns n (Some row) j = fated n (fate_of c rs ns j.fates n row) j

-- the first where nothing is asked for, else the second
abbrev pub when_quiet : Stage → Judged → Judged → Judged
when_quiet Quiet j k = j
when_quiet (Makes row) j k = k
when_quiet (Closes row) j k = k
when_quiet (Ended answer) j k = k

-- the number of the next of the goal and the givens, of which so many are left
abbrev pub next_start : Rules → ℕ → ℕ
next_start c left = (c.starting - left) + 1

-- it is prepared, which leaves so many
abbrev pub start_prepared : Rules → List Row → List ℕ → ℕ → Judged → Judged
start_prepared c rs ns left j = prepare c rs ns (next_start c j.left) (row_at rs (next_start c j.left)) (record j { left = left })

-- the goal and then each given are prepared, in order, once all that was prepared before is settled
abbrev pub begun : Rules → List Row → List ℕ → ℕ → Judged → Judged
begun c rs ns zero j = j
begun c rs ns (suc left) j = when_quiet j.stage (begun c rs ns left (start_prepared c rs ns left j)) j

-- a row is prepared right after it was inferred; a close row isn't prepared, its fate is Last
abbrev pub row_judged : Rules → List Row → List ℕ → ℕ → Row → Stage → Judged → Judged
row_judged c rs ns n row Quiet j = prepare c rs ns n (Some row) j
row_judged c rs ns n row (Makes r) j = prepare c rs ns n (Some row) j
row_judged c rs ns n row (Closes r) j = fated n (Last, Ended true) j
row_judged c rs ns n row (Ended b) j = j

abbrev pub settled : Rules → List Row → List ℕ → ℕ → Row → Judged → Judged
settled c rs ns n row j = let k = row_judged c rs ns n row j.stage j in begun c rs ns k.left k

-- before anything is prepared
abbrev pub at_first : Rules → Judged
at_first c = record { fates = []; left = c.starting - c.axioms; stage = Quiet }

abbrev pub judged : Rules → List Row → History → Judged
judged c start Start = begun c start [] (c.starting - c.axioms) (at_first c)
judged c start (Then h (Choose n)) = judged c start h
judged c start (Then h (Infer row)) = settled c (rows start h ++ row ∷ []) (choices h) (length (rows start h) + 1) row (judged c start h)

-- the turn of the row of a number
abbrev pub turn_at : Rules → List Member → ℕ → Option Row → List Row
turn_at c ps n None = []
turn_at c ps n (Some row) = c.turn ps n row

-- without the first
abbrev pub behind : List Row → List Row
behind [] = []
behind (r ∷ rs) = rs

-- what is left of a turn after an inference: its first is made where nothing else was asked for
abbrev pub rest_after : Stage → List Row → List Row
rest_after Quiet rs = behind rs
rest_after (Makes row) rs = rs
rest_after (Closes row) rs = rs
rest_after (Ended answer) rs = rs

-- the rules of the last chosen row's turn that weren't made since that choice
abbrev pub rest : Rules → List Row → History → List Row
rest c start Start = []
rest c start (Then h (Choose n)) = turn_at c (processed c.axioms (rows start h) (choices h ++ n ∷ [])) n (row_at (rows start h) n)
rest c start (Then h (Infer row)) = rest_after (judged c start h).stage (rest c start h)

pub record Reading : Type 0 where
  pub rows : List Row
  pub choices : List ℕ
  pub judged : Judged
  pub rest : List Row

abbrev pub reading_at : Rules → List Row → History → Reading
reading_at c start h =
    record { rows = rows start h; choices = choices h; judged = judged c start h; rest = rest c start h }

-- the reading after an event
abbrev pub after : Rules → Event → Reading → Reading
after c (Choose n) v = record { rows = v.rows; choices = v.choices ++ n ∷ []; judged = v.judged; rest = turn_at c (processed c.axioms v.rows (v.choices ++ n ∷ [])) n (row_at v.rows n) }
after c (Infer row) v = record { rows = v.rows ++ row ∷ []; choices = v.choices; judged = settled c (v.rows ++ row ∷ []) v.choices (length v.rows + 1) row v.judged; rest = rest_after v.judged.stage v.rest }

-- the one event that may follow
pub data Due : Type 0 where
  Infers : (row : Row) → Due
  Chooses : Due
  Ends : (end : End) → Due

abbrev pub wait_of : Rules → Reading → List WaitRow
wait_of c v = waiting c.most v.rows v.judged.fates v.choices

abbrev pub due_choice : List WaitRow → Due
due_choice [] = Ends Exhausted
due_choice (r ∷ rs) = Chooses

abbrev pub due_turn : List WaitRow → List Row → Due
due_turn waits (row ∷ rs) = Infers row
due_turn waits [] = due_choice waits

abbrev pub due_at : List WaitRow → List Row → Stage → Due
due_at waits rest (Ended answer) = Ends (if answer then Found else Contradiction)
due_at waits rest (Makes row) = Infers row
due_at waits rest (Closes row) = Infers row
due_at waits rest Quiet = due_turn waits rest

abbrev pub due_of : Rules → Reading → Due
due_of c v = due_at (wait_of c v) v.rest v.judged.stage

abbrev pub due : Rules → List Row → History → Due
due c start h = due_of c (reading_at c start h)

-- each event is due after those before it
abbrev pub EachIsDue : Rules → List Row → History → Type 0
EachIsDue c start Start = Unit {0}
EachIsDue c start (Then h (Infer row)) = (due c start h ≡ Infers row) × EachIsDue c start h
EachIsDue c start (Then h (Choose n)) = (due c start h ≡ Chooses) × EachIsDue c start h

abbrev pub end_by : ℕ → ℕ → Due → Option End
end_by limit made (Infers row) = if nat_lt made limit then None else Some Spent
end_by limit made Chooses = None
end_by limit made (Ends end) = Some end

pub record Plain (c : Rules) (start : List Row) (limit : ℕ) (h : History) (end : End) : Type 0 where
  pub follows : EachIsDue c start h
  pub few : inferences h ≤ limit
  pub ends : end_by limit (inferences h) (due c start h) ≡ Some end

-- a chooser's meaning: the place that it answers for a list, after it was asked others
abbrev pub Pick : Type 0
Pick = List (List WaitRow) → List WaitRow → ℕ

abbrev pub wait_list : Rules → List Row → History → List WaitRow
wait_list c start h = wait_of c (reading_at c start h)

-- the waiting lists of the choices, in order
abbrev pub lists_shown : Rules → List Row → History → List (List WaitRow)
lists_shown c start Start = []
lists_shown c start (Then h (Infer row)) = lists_shown c start h
lists_shown c start (Then h (Choose n)) = lists_shown c start h ++ wait_list c start h ∷ []

-- the number of the member at a place, if there is one
abbrev pub picked_at : List WaitRow → ℕ → Option ℕ
picked_at list place = option_map (λ (w : WaitRow). w.number) (slice_get list place)

abbrev pub Picked : Pick → Rules → List Row → History → Type 0
Picked pick c start Start = Unit {0}
Picked pick c start (Then h (Infer row)) = Picked pick c start h
Picked pick c start (Then h (Choose n)) = (picked_at (wait_list c start h) (pick (lists_shown c start h) (wait_list c start h)) ≡ Some n) × Picked pick c start h

-- an inferred row's rule, with its fate
abbrev pub entry_of : List Row → Prepared → Option Entry
entry_of rs p = option_map (λ (row : Row). record { rule = row.rule; fate = p.fate }) (row_at rs p.number)

abbrev pub is_inferred : ℕ → Prepared → Bool
is_inferred starting p = nat_lt starting p.number

-- the rules and the fates of the inferred rows
abbrev pub entries_of : Rules → List Row → List Prepared → List Entry
entries_of c rs fates = filter_map (entry_of rs) (filter (is_inferred c.starting) fates)

abbrev pub entries : Rules → List Row → History → List Entry
entries c start h = entries_of c (rows start h) (judged c start h).fates
