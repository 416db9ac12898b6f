-- How far a text was read: what stands at its front, and the items so far.
use Rattle.std.specs.Prelude.{◌≡◌, ◌<◌, ◌≤◌, ◌+◌, ◌==◌, ◌||◌, ◌++◌, ℕ, Bool, true, false, not, List, [], ◌∷◌, length, take, drop, map, if◌then◌else◌}
use Rattle.std.specs.List.{flat_map, list_all, sum_by}
use Rattle.am_fortran.specs.Lines.{Line, lines_of, groups}
use Rattle.am_fortran.specs.Items.{is_item, item_text}
use Rattle.am_fortran.specs.Faults.{IsFault}
use Rattle.am_fortran.specs.declared.draft.Draft.{Draft}
use Rattle.am_fortran.specs.declared.draft.Found.{Found}
use Rattle.am_fortran.specs.declared.draft.Progress.{Progress}
use Rattle.am_fortran.specs.declared.fault.ReadError.{ReadError}
use Rattle.am_fortran.specs.declared.fault.ReadError.TheVariants.{Memory, Fault}
use Rattle.am_fortran.specs.declared.fault.UnitKind.{UnitKind}
use Rattle.am_fortran.specs.declared.fault.UnitKind.TheVariants.{Cut, BadStatement, Order, NoMemory}
use Rattle.am_fortran.specs.declared.item.Item.{Item}
use Rattle.am_fortran.specs.declared.item.Item.TheVariants.{Head, Declaration, Executable, End}
use Rattle.am_fortran.specs.declared.statement.Decl.{Decl}
use Rattle.am_fortran.specs.declared.statement.Statement.{Statement}

-- whether the last byte ends a line
abbrev pub is_ended : List ℕ → Bool
is_ended [] = true
is_ended (b ∷ []) = b == 10
is_ended (b ∷ c ∷ cs) = is_ended (c ∷ cs)

-- that many bytes are one line, which is ended unless they are all
pub record IsLineFront (bytes : List ℕ) (end : ℕ) : Type 0 where
  pub some : 0 < end
  pub within : end ≤ length bytes
  pub one : length (lines_of (take end bytes)) ≡ 1
  pub ended : end < length bytes → is_ended (take end bytes) ≡ true

-- that many bytes are the first group, of that many lines
pub record IsGroupFront (bytes : List ℕ) (end count : ℕ) : Type 0 where
  pub some : 0 < end
  pub within : end ≤ length bytes
  pub group : groups (lines_of bytes) ≡ lines_of (take end bytes) ∷ groups (lines_of (drop end bytes))
  pub counted : count ≡ length (lines_of (take end bytes))
  pub few : count ≤ end

-- the items of a draft, in order
unfoldable pub draft_items : Draft → List Item
draft_items d = Head d.name d.dummies ∷ map Declaration d.declarations ++ map Executable d.statements ++ (if d.ended then End ∷ [] else [])

-- items, for clauses
abbrev pub declaration_item : Decl → Item
declaration_item d = Declaration d

abbrev pub executable_item : Statement → Item
executable_item s = Executable s

abbrev pub end_item : Item
end_item = End

abbrev pub no_statements : List Statement → Bool
no_statements [] = true
no_statements (s ∷ ss) = false

-- whether the item can't stand behind those of the draft
abbrev pub is_out : Draft → Item → Bool
is_out d (Head name dummies) = true
is_out d (Declaration declaration) = d.ended || not (no_statements d.statements)
is_out d (Executable s) = d.ended
is_out d End = d.ended

-- the bytes are the text of no item
abbrev pub SpellsNone : List ℕ → Type 0
SpellsNone bytes = (item : Item) → is_item item ≡ true → bytes ≡ item_text item → ⊥

abbrev pub is_head : Item → Bool
is_head (Head name dummies) = true
is_head (Declaration d) = false
is_head (Executable s) = false
is_head End = false

-- the first group of these bytes, the item that it spells, and its lines
pub record IsFirstItem (bytes : List ℕ) (f : Found) : Type 0 where
  pub front : IsGroupFront bytes f.end f.lines
  pub kept : is_item f.item ≡ true
  pub spelled : take f.end bytes ≡ item_text f.item

-- the first group isn't ended, or spells no item
pub record IsCutShort (bytes : List ℕ) : Type 0 where
  pub end : ℕ
  pub count : ℕ
  pub front : IsGroupFront bytes end count
  pub cut : is_ended (take end bytes) ≡ false

pub record IsBad (bytes : List ℕ) : Type 0 where
  pub end : ℕ
  pub count : ℕ
  pub front : IsGroupFront bytes end count
  pub ended : is_ended (take end bytes) ≡ true
  pub none : SpellsNone (take end bytes)

abbrev pub HasNoItem : List ℕ → UnitKind → Type 0
HasNoItem bytes Cut = IsCutShort bytes
HasNoItem bytes BadStatement = IsBad bytes
HasNoItem bytes Order = ⊥
HasNoItem bytes NoMemory = ⊥

-- why no item was read of the group that begins with this line
abbrev pub Unread : List ℕ → ℕ → ReadError → Type 0
Unread bytes line Memory = Unit {0}
Unread bytes line (Fault f) = (f.line ≡ line) × HasNoItem bytes f.kind

abbrev pub items_groups : List Item → List (List Line)
items_groups items = map (λ i. lines_of (item_text i)) items

-- How far a text was read: before the place stand the texts of the draft's items, whose groups are
-- the first groups of the text, and the line is that of the next group.
pub record ReadsTo (bytes : List ℕ) (p : Progress) : Type 0 where
  pub within : p.at ≤ length bytes
  pub text : take p.at bytes ≡ flat_map item_text (draft_items p.draft)
  pub kept : list_all is_item (draft_items p.draft) ≡ true
  pub found : groups (lines_of bytes) ≡ items_groups (draft_items p.draft) ++ groups (lines_of (drop p.at bytes))
  pub begins : p.line ≡ 1 + sum_by length (items_groups (draft_items p.draft))
  pub low : p.line ≤ 1 + p.at

-- the fault is the first of the text, unless memory ran out
abbrev pub TellsFault : List ℕ → ReadError → Type 0
TellsFault bytes Memory = Unit {0}
TellsFault bytes (Fault f) = IsFault bytes f.line f.kind
