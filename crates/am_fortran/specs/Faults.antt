-- Where the text of a unit is first at fault, and of which kind the fault is.
use Rattle.std.specs.Prelude.{◌≡◌, ◌<◌, ◌≤◌, ◌⊎◌, ℕ, Bool, true, false, List, [], length, slice_index_or}
use Rattle.am_fortran.specs.Lines.{Line, lines_of, groups, is_whole, first_line}
use Rattle.am_fortran.specs.Items.{Spells, is_end, is_past_declarations}
use Rattle.am_fortran.specs.declared.item.Item.{Item}
use Rattle.am_fortran.specs.declared.item.Item.TheVariants.{Head, Declaration, Executable, End}
use Rattle.am_fortran.specs.declared.fault.UnitKind.{UnitKind}
use Rattle.am_fortran.specs.declared.fault.UnitKind.TheVariants.{Cut, BadStatement, Order, NoMemory}

abbrev pub group_at : List (List Line) → ℕ → List Line
group_at gs k = slice_index_or gs k []

-- some group before this place spells an item of this sort
pub record StandsBefore (gs : List (List Line)) (k : ℕ) (sort : Item → Bool) : Type 0 where
  pub place : ℕ
  pub item : Item
  pub before : place < k
  pub spelled : Spells (group_at gs place) item
  pub of_sort : sort item ≡ true

-- The item can't stand at this place: a head stands first and nowhere else, a declaration stands
-- behind no executable statement, and nothing stands behind the end.
abbrev pub IsMisplaced : List (List Line) → ℕ → Item → Type 0
IsMisplaced gs k (Head name dummies) = 0 < k
IsMisplaced gs k (Declaration d) = (k ≡ 0) ⊎ StandsBefore gs k is_past_declarations
IsMisplaced gs k (Executable s) = (k ≡ 0) ⊎ StandsBefore gs k is_end
IsMisplaced gs k End = (k ≡ 0) ⊎ StandsBefore gs k is_end

-- The kind holds at this place. `Cut`: the group isn't ended, or the place is the one behind the
-- last group and no group spells the end. `BadStatement`: the group is the text of no item. `Order`:
-- it is the text of an item that can't stand there.
abbrev pub Holds : List (List Line) → ℕ → UnitKind → Type 0
Holds gs k Cut = ((k < length gs) × (is_whole (group_at gs k) ≡ false)) ⊎ ((k ≡ length gs) × (StandsBefore gs k is_end → ⊥))
Holds gs k BadStatement = (k < length gs) × ((item : Item) → Spells (group_at gs k) item → ⊥)
Holds gs k Order = (k < length gs) × (item : Item) × Spells (group_at gs k) item × IsMisplaced gs k item
Holds gs k NoMemory = ⊥

-- the order in which kinds are looked for at one place
abbrev pub rank : UnitKind → ℕ
rank Cut = 1
rank BadStatement = 2
rank Order = 3
rank NoMemory = 4

-- The kind holds at this place; whatever else holds does so at a later place, or is a later kind.
pub record IsFirst (gs : List (List Line)) (k : ℕ) (kind : UnitKind) : Type 0 where
  pub holds : Holds gs k kind
  pub first : (j : ℕ) (other : UnitKind) → Holds gs j other → (k < j) ⊎ ((k ≡ j) × (rank kind ≤ rank other))

-- the first fault of the text is of this kind, and stands at the group that begins with this line
pub record IsFault (bytes : List ℕ) (line : ℕ) (kind : UnitKind) : Type 0 where
  pub place : ℕ
  pub at : IsFirst (groups (lines_of bytes)) place kind
  pub begins : line ≡ first_line (groups (lines_of bytes)) place
