-- Where the text of a log is first at fault, and of which kind the fault is.
use Rattle.std.specs.Prelude.{◌≡◌, ◌≢◌, ◌<◌, ◌≤◌, ◌+◌, ◌⊎◌, ◌==◌, ℕ, zero, suc, true, false, List, [], ◌∷◌, length, take, codes, slice_index_or, if◌then◌else◌}
use Rattle.std.specs.List.{sum_by, take_while}
use Rattle.am_term.specs.declared.id.SortId.{SortId}
use Rattle.am_term.specs.declared.signature.Signature.{Signature}
use Rattle.am_theory.specs.declared.theory.Theory.{Theory}
use Rattle.am_diagram.specs.declared.diagram.Diagram.{Diagram}
use Rattle.am_diagram.specs.Listed.{entry_sorts}
use Rattle.am_log.specs.declared.fault.LogKind.{LogKind}
use Rattle.am_log.specs.declared.fault.LogKind.TheVariants.{NotProof, BadWrap, BadRow, BadNumber, UnknownName, BadSort, NoMemory}
use Rattle.am_log.specs.declared.named.NamedRow.{NamedRow}
use Rattle.am_log.specs.Groups.{groups, is_inside, Wraps, WrapsNothing}
use Rattle.am_log.specs.Spelled.{Spells, SpellsNothing}
use Rattle.am_log.specs.Naming.{Names, known_names, has_unknown_row, resolved_row}
use Rattle.am_log.specs.Text.{is_sorted_row}

-- ---- the first group, which is to be the line `C (proof 1)`
-- the bytes in front of the first end of a line
abbrev pub head_line : List ℕ → List ℕ
head_line g = take_while is_inside g

-- The kind holds of the first group. Not a proof: its first line is another one; no bytes at all have an empty one. Bad
-- line: a line isn't ended, or the pieces aren't those of the text that they join to. Bad row: they are, but the text isn't
-- `(proof 1)` alone, as lines that begin with `C+` stand behind that line.
abbrev pub HoldsOfHead : List ℕ → LogKind → Type 0
HoldsOfHead g NotProof = head_line g ≢ codes "C (proof 1)"
HoldsOfHead g BadWrap = WrapsNothing g
HoldsOfHead g BadRow = (t : List ℕ) × Wraps g t × (t ≢ codes "(proof 1)")
HoldsOfHead g BadNumber = ⊥
HoldsOfHead g UnknownName = ⊥
HoldsOfHead g BadSort = ⊥
HoldsOfHead g NoMemory = ⊥

-- ---- the other groups, which are to be the rows by their numbers
-- the group is the lines of a text that is spelled as this row by names
pub record ReadsRow (g : List ℕ) (r : NamedRow) : Type 0 where
  pub text : List ℕ
  pub wraps : Wraps g text
  pub spells : Spells text r

-- bad line: the first line doesn't begin with `C `, a line isn't ended, or the pieces aren't those of the text that they
-- join to; so the group is the lines of no text
abbrev pub HasBadWrap : List ℕ → Type 0
HasBadWrap g = WrapsNothing g

-- bad row: the group's text isn't spelled as a row, whatever the names, or nests too deep, or a number doesn't fit 32 bits
abbrev pub HasBadRow : List ℕ → Type 0
HasBadRow g = (t : List ℕ) × Wraps g t × SpellsNothing t

-- bad row number: the group is spelled as a row, and its number isn't the next
abbrev pub HasBadNumber : ℕ → List ℕ → Type 0
HasBadNumber k g = (r : NamedRow) × ReadsRow g r × (r.number ≢ k)

-- unknown name: the name before a `?` is no sort; the head of a list, or a name alone in an atom's place, is no symbol; a
-- name alone in a term's place is neither an input nor a symbol
abbrev pub HasUnknownName : Names → List ℕ → Type 0
HasUnknownName n g = (r : NamedRow) × ReadsRow g r × (has_unknown_row n r ≡ true)

-- bad sort: a term or an atom isn't well sorted
abbrev pub HasBadSort : Names → Signature → List SortId → List ℕ → Type 0
HasBadSort n sig ins g = (r : NamedRow) × ReadsRow g r × (is_sorted_row sig ins (resolved_row n r) ≡ false)

-- the kind holds of the group that is to be the row of this number
abbrev pub HoldsOfRow : Names → Signature → List SortId → ℕ → List ℕ → LogKind → Type 0
HoldsOfRow n sig ins k g NotProof = ⊥
HoldsOfRow n sig ins k g BadWrap = HasBadWrap g
HoldsOfRow n sig ins k g BadRow = HasBadRow g
HoldsOfRow n sig ins k g BadNumber = HasBadNumber k g
HoldsOfRow n sig ins k g UnknownName = HasUnknownName n g
HoldsOfRow n sig ins k g BadSort = HasBadSort n sig ins g
HoldsOfRow n sig ins k g NoMemory = ⊥

-- ---- all groups
abbrev pub group_at : List (List ℕ) → ℕ → List ℕ
group_at gs k = slice_index_or gs k []

-- the kind holds of the group at this place, which is that of its row's number; the first stands at 0, even where there is
-- none
abbrev pub Holds : Names → Signature → List SortId → List (List ℕ) → ℕ → LogKind → Type 0
Holds n sig ins gs zero kind = HoldsOfHead (group_at gs 0) kind
Holds n sig ins gs (suc k) kind = (suc k < length gs) × HoldsOfRow n sig ins (suc k) (group_at gs (suc k)) kind

-- the order in which kinds are looked for at one group
abbrev pub rank : LogKind → ℕ
rank NotProof = 1
rank BadWrap = 2
rank BadRow = 3
rank BadNumber = 4
rank UnknownName = 5
rank BadSort = 6
rank NoMemory = 7

-- the kind holds at this place; whatever else holds does so at a later place, or is a later kind
pub record IsFirst (n : Names) (sig : Signature) (ins : List SortId) (gs : List (List ℕ)) (k : ℕ) (kind : LogKind) : Type 0 where
  pub holds : Holds n sig ins gs k kind
  pub first : (j : ℕ) (other : LogKind) → Holds n sig ins gs j other → (k < j) ⊎ ((k ≡ j) × (rank kind ≤ rank other))

-- how many lines a group ends
abbrev pub lines_in : List ℕ → ℕ
lines_in [] = 0
lines_in (b ∷ bs) = if b == 10 then suc (lines_in bs) else lines_in bs

-- the number of the first line of the group at this place, from 1
abbrev pub line_at : List (List ℕ) → ℕ → ℕ
line_at gs k = 1 + sum_by lines_in (take k gs)

-- the first fault of the text is of this kind, and stands at the group that begins with this line
pub record IsFault (t : Theory) (d : Diagram) (bytes : List ℕ) (line : ℕ) (kind : LogKind) : Type 0 where
  pub place : ℕ
  pub at : IsFirst (known_names t d) t.sig (entry_sorts d.inputs) (groups bytes) place kind
  pub begins : line ≡ line_at (groups bytes) place
