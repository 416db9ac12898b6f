-- What a search answers, and what its state stands for.
use Rattle.std.specs.Prelude.{List, [], ◌∷◌, ℕ, ◌≡◌, ◌≤◌, ◌++◌}
use Rattle.am_clause.specs.declared.row.Row.{Row}
use Rattle.am_search.specs.Plain.{Due, Infers, Chooses, Ends, Reading, after, Infer, due_of, Pick, History, Plain, Picked, rows, entries, choices, reading_at, EachIsDue, inferences, lists_shown, judged}
use Rattle.am_search.specs.Rules.{Rules}
use Rattle.am_agenda.specs.declared.wait_row.WaitRow.{WaitRow}
use Rattle.am_search.specs.declared.fate.End.{End}
use Rattle.am_search.specs.declared.fate.Entry.{Entry}
use Rattle.am_search.specs.declared.fate.Kind.{Kind}
use Rattle.am_search.specs.declared.fate.Prepared.{Prepared}
use Rattle.am_search.specs.declared.fate.Kind.TheVariants.{Inferring, Choosing, Ending}

-- the kind of what is due
abbrev pub due_kind : Due → Kind
due_kind (Infers row) = Inferring
due_kind Chooses = Choosing
due_kind (Ends end) = Ending end

-- what the inference that is due leads to
abbrev pub advance_by : Rules → Reading → Due → Reading
advance_by c v (Infers row) = after c (Infer row) v
advance_by c v Chooses = v
advance_by c v (Ends end) = v

abbrev pub advanced : Rules → Reading → Reading
advanced c v = advance_by c v (due_of c v)

-- the number of the last of some fates, or another where there is none
abbrev pub last_from : ℕ → List Prepared → ℕ
last_from n [] = n
last_from n (p ∷ ps) = last_from p.number ps

abbrev pub last_number : List Prepared → ℕ
last_number fates = last_from 0 fates

-- the outcome of the one history
pub record Outcomes (c : Rules) (start : List Row) (limit : ℕ) (pick : Pick) (end : End) (all : List Row) (made : List Entry) (chosen : List ℕ) (last : ℕ) : Type 0 where
  pub history : History
  pub plain : Plain c start limit history end
  pub picked : Picked pick c start history
  pub rows_are : rows start history ≡ all
  pub entries_are : entries c start history ≡ made
  pub choices_are : choices history ≡ chosen
  pub last_is : last_number (judged c start history).fates ≡ last

-- a reading stands for a history; a chooser that picked by first at its first choice picks by now at the next
pub record StandsFor (c : Rules) (start : List Row) (limit : ℕ) (first : Pick) (v : Reading) (made : ℕ) (now : Pick) : Type 0 where
  pub history : History
  pub reads : reading_at c start history ≡ v
  pub follows : EachIsDue c start history
  pub picked : Picked first c start history
  pub counts : inferences history ≡ made
  pub few : made ≤ limit
  pub next : (past : List (List WaitRow)) (list : List WaitRow) → now past list ≡ first (lists_shown c start history ++ past) list
