-- For private contracts: what each group of a proof's bytes is, or its first fault, as the code tells it.
use Rattle.std.specs.Prelude.{◌+◌, ◌==◌, ◌&&◌, ℕ, Bool, Option, Some, None, List, [], ◌∷◌, Result, Ok, Err, if◌then◌else◌, codes}
use Rattle.std.specs.Str.{bytes_eq}
use Rattle.am_term.specs.declared.id.SortId.{SortId}
use Rattle.am_term.specs.declared.signature.Signature.{Signature}
use Rattle.am_clause.specs.declared.row.Row.{Row}
use Rattle.am_log.specs.declared.fault.LogKind.{LogKind}
use Rattle.am_log.specs.declared.fault.LogKind.TheVariants.{NotProof, BadWrap, BadRow, BadNumber, UnknownName, BadSort}
use Rattle.am_log.specs.declared.named.NamedRow.{NamedRow}
use Rattle.am_log.specs.Spelled.{is_named_row, row_text}
use Rattle.am_log.specs.Naming.{Names, has_unknown_row, resolved_row}
use Rattle.am_log.specs.Text.{is_sorted_row, proof_line}
use Rattle.am_log.specs.Groups.{groups}
use Rattle.am_log.specs.Unwrapped.{unwrapped_text}
use Rattle.am_log.specs.Guess.{guess_text}
use Rattle.am_log.specs.Faults.{head_line, lines_in}

abbrev pub if_spelled : List ℕ → Option NamedRow → Option NamedRow
if_spelled t None = None
if_spelled t (Some r) = if is_named_row r && bytes_eq (row_text r) t then Some r else None

-- the row by names that the text spells
unfoldable pub row_named : List ℕ → Option NamedRow
row_named t = if_spelled t (guess_text t)

-- the row of this number, by the row by names
abbrev pub row_of_named : Names → Signature → List SortId → ℕ → NamedRow → Result Row LogKind
row_of_named n sig ins k r =
    if r.number == k
    then (if has_unknown_row n r then Err UnknownName else (if is_sorted_row sig ins (resolved_row n r) then Ok (resolved_row n r) else Err BadSort))
    else Err BadNumber

abbrev pub row_or_bad : Names → Signature → List SortId → ℕ → Option NamedRow → Result Row LogKind
row_or_bad n sig ins k None = Err BadRow
row_or_bad n sig ins k (Some r) = row_of_named n sig ins k r

abbrev pub row_in_text : Names → Signature → List SortId → ℕ → Option (List ℕ) → Result Row LogKind
row_in_text n sig ins k None = Err BadWrap
row_in_text n sig ins k (Some t) = row_or_bad n sig ins k (row_named t)

-- the row of this number that a group is, or the first kind of fault that holds of it
unfoldable pub group_row : Names → Signature → List SortId → ℕ → List ℕ → Result Row LogKind
group_row n sig ins k g = row_in_text n sig ins k (unwrapped_text g)

-- a fault at the group that begins with this line
abbrev pub at : {A : Type 0} → ℕ → LogKind → Result A (ℕ × LogKind)
at l kind = Err (l, kind)

abbrev pub row_before : ℕ → Result Row LogKind → Result (List Row) (ℕ × LogKind) → Result (List Row) (ℕ × LogKind)
row_before l (Err kind) rest = at l kind
row_before l (Ok r) (Err e) = Err e
row_before l (Ok r) (Ok rs) = Ok (r ∷ rs)

-- the rows numbered from k, of which the first begins with line l, or the first fault
abbrev pub rows_in : Names → Signature → List SortId → ℕ → ℕ → List (List ℕ) → Result (List Row) (ℕ × LogKind)
rows_in n sig ins k l [] = Ok []
rows_in n sig ins k l (g ∷ gs) = row_before l (group_row n sig ins k g) (rows_in n sig ins (k + 1) (l + lines_in g) gs)

-- the first line is that of a proof
abbrev pub begins_proof : List ℕ → Bool
begins_proof g = bytes_eq (head_line g) (codes "C (proof 1)")

abbrev pub wrong_head : Option (List ℕ) → LogKind
wrong_head None = BadWrap
wrong_head (Some t) = BadRow

-- the first group: its first line is that of a proof, and there is no further one
abbrev pub head_fault : List ℕ → LogKind
head_fault g = if begins_proof g then wrong_head (unwrapped_text g) else NotProof

abbrev pub rows_behind : Names → Signature → List SortId → List (List ℕ) → Result (List Row) (ℕ × LogKind)
rows_behind n sig ins [] = at 1 NotProof
rows_behind n sig ins (g ∷ gs) = if bytes_eq g proof_line then rows_in n sig ins 1 2 gs else at 1 (head_fault g)

-- the rows that the bytes are the text of, or the first line of the first bad group and the first kind that holds there
unfoldable pub log_answer : Names → Signature → List SortId → List ℕ → Result (List Row) (ℕ × LogKind)
log_answer n sig ins bytes = rows_behind n sig ins (groups bytes)
