-- The laws of the text of logs, of its cut into pieces, and of its place in front of a unit's text.
use Rattle.std.specs.Prelude.{◌≡◌, ◌≤◌, ◌⊎◌, ℕ, true, List, ◌++◌, length}
use Rattle.am_clause.specs.declared.row.Row.{Row}
use Rattle.am_clause.specs.declared.row.Log.{Log}
use Rattle.am_theory.specs.declared.theory.Theory.{Theory}
use Rattle.am_theory.specs.Facts.{WellFormed}
use Rattle.am_diagram.specs.declared.diagram.Diagram.{Diagram}
use Rattle.am_diagram.specs.Facts.{WellFormed as WellDrawn}
use Rattle.am_log.specs.declared.fault.LogKind.{LogKind}
use Rattle.am_log.specs.Cut.{cut, width, pieced_together, wrapped, IsCut}
use Rattle.am_log.specs.Faults.{IsFault}
use Rattle.am_log.specs.Groups.{Wraps}
use Rattle.am_log.specs.Naming.{known_names, named_row}
use Rattle.am_log.specs.Spelled.{row_text}
use Rattle.am_log.specs.Split.{begin_without_c, IsSplit}
use Rattle.am_log.specs.Text.{byte_limit, log_text, HasText, IsWritable}

-- no two logs have one text
abbrev pub OneText : Type 0
OneText = (t : Theory) (d : Diagram) (log other : Log) → WellFormed t → WellDrawn t d → HasText t d log → HasText t d other → log_text t d log ≡ log_text t d other → log ≡ other

-- a text no longer than may be is that of a log or has a first fault, and not both
pub record IsLogOrFault (t : Theory) (d : Diagram) (bytes : List ℕ) : Type 0 where
  pub either : ((log : Log) × HasText t d log × (bytes ≡ log_text t d log)) ⊎ ((line : ℕ) × (kind : LogKind) × IsFault t d bytes line kind)
  pub not_both : (log : Log) → HasText t d log → bytes ≡ log_text t d log → (line : ℕ) (kind : LogKind) → IsFault t d bytes line kind → ⊥

abbrev pub EachIsLogOrFault : Type 0
EachIsLogOrFault = (t : Theory) (d : Diagram) (bytes : List ℕ) → WellFormed t → WellDrawn t d → length bytes ≤ byte_limit → IsLogOrFault t d bytes

-- The pieces of the cut, where they join to the text, keep the rule; no other pieces keep it; and pieces that keep it
-- join to the text.
pub record IsTheCut (w : ℕ) (t : List ℕ) : Type 0 where
  pub keeps : pieced_together (cut w t) ≡ t → IsCut w t (cut w t)
  pub only : (ps : List (List ℕ)) → IsCut w t ps → ps ≡ cut w t
  pub joins : (ps : List (List ℕ)) → IsCut w t ps → pieced_together ps ≡ t

abbrev pub CutKeepsTheRule : Type 0
CutKeepsTheRule = (w : ℕ) (t : List ℕ) → IsTheCut w t

-- the text of each row that may be written has pieces that keep the rule, on one line in front of the cut
abbrev pub RowsAreCut : Type 0
RowsAreCut = (t : Theory) (d : Diagram) (k : ℕ) (r : Row) → WellFormed t → WellDrawn t d → IsWritable t d k r →
    IsCut width (row_text (named_row (known_names t d) k r)) (cut width (row_text (named_row (known_names t d) k r))) × Wraps (wrapped (row_text (named_row (known_names t d) k r))) (row_text (named_row (known_names t d) k r))

-- a text has one proof part and one unit part
abbrev pub OneSplit : Type 0
OneSplit = (text p u q v : List ℕ) → IsSplit text p u → IsSplit text q v → (p ≡ q) × (u ≡ v)

-- the text of a log, in front of a text none of whose lines begins with `C`, is the proof part
abbrev pub LogIsTheProofPart : Type 0
LogIsTheProofPart = (t : Theory) (d : Diagram) (log : Log) (unit : List ℕ) → WellFormed t → WellDrawn t d → HasText t d log → begin_without_c unit ≡ true → IsSplit (log_text t d log ++ unit) (log_text t d log) unit

-- so a text is in at most one way the text of a log in front of such a text
abbrev pub OneWay : Type 0
OneWay = (t : Theory) (d : Diagram) (log other : Log) (u v : List ℕ) → WellFormed t → WellDrawn t d → HasText t d log → HasText t d other → begin_without_c u ≡ true → begin_without_c v ≡ true → log_text t d log ++ u ≡ log_text t d other ++ v → (log ≡ other) × (u ≡ v)
