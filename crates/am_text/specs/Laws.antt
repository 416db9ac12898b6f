-- What holds of all readings and spellings.
use Rattle.std.specs.Prelude.{◌≡◌, ◌≤◌, ℕ, List, [], ◌∷◌, length, Ok, Err, true}
use Rattle.std.specs.List.{list_all, All}
use Rattle.am_text.specs.declared.fault.TextFault.{TextFault}
use Rattle.am_text.specs.declared.form.Form.{Form}
use Rattle.am_text.specs.Grammar.{Reads, ReadsWithin, height, highest}
use Rattle.am_text.specs.Scan.{read}
use Rattle.am_text.specs.Spelling.{written, lines, is_writable, ReadsAs}

-- what the scan reads is in the grammar, and keeps the limits
abbrev pub ReadIsInGrammar : Type 0
ReadIsInGrammar = (limit depth : ℕ) (bytes : List ℕ) (forms : List Form) → read limit depth bytes ≡ Ok forms → ReadsWithin limit depth bytes forms

-- what is in the grammar and keeps the limits, the scan reads
abbrev pub GrammarIsRead : Type 0
GrammarIsRead = (limit depth : ℕ) (bytes : List ℕ) (forms : List Form) → ReadsWithin limit depth bytes forms → read limit depth bytes ≡ Ok forms

-- a fault comes only where the bytes, within the limits, are no forms
abbrev pub FaultsHaveNoReading : Type 0
FaultsHaveNoReading = (limit depth : ℕ) (bytes : List ℕ) (fault : TextFault) (forms : List Form) → read limit depth bytes ≡ Err fault → ReadsWithin limit depth bytes forms → ⊥

-- bytes are no two lists of forms
abbrev pub OneReading : Type 0
OneReading = (bytes : List ℕ) (forms others : List Form) → Reads true 0 bytes forms → Reads true 0 bytes others → forms ≡ others

-- what was read can be written
abbrev pub ReadCanBeWritten : Type 0
ReadCanBeWritten = (limit depth : ℕ) (bytes : List ℕ) (forms : List Form) → read limit depth bytes ≡ Ok forms → list_all is_writable forms ≡ true

-- a form that can be written, is no higher than the depth limit and no longer than the byte limit, is read from its
-- spelling as the same form, places aside
abbrev pub WrittenIsRead : Type 0
WrittenIsRead = (limit depth : ℕ) (form : Form) → is_writable form ≡ true → height form ≤ depth → length (written form) ≤ limit → ReadsAs limit depth (written form) (form ∷ [])

-- so are forms that are written a line each
abbrev pub LinesAreRead : Type 0
LinesAreRead = (limit depth : ℕ) (forms : List Form) → list_all is_writable forms ≡ true → highest forms ≤ depth → length (lines forms) ≤ limit → ReadsAs limit depth (lines forms) forms

-- each form that was read is read again from its spelling as the same form, places aside, where the byte limit is at
-- least the spelling's length and the depth limit at least that with which it was read
abbrev pub RoundTrip : Type 0
RoundTrip = (limit depth : ℕ) (bytes : List ℕ) (forms : List Form) → read limit depth bytes ≡ Ok forms →
    All (λ form. (l d : ℕ) → length (written form) ≤ l → depth ≤ d → ReadsAs l d (written form) (form ∷ [])) forms
