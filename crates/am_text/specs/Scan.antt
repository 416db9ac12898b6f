-- The scan from the first byte to the last, and the first fault that it meets.
use Rattle.std.specs.Prelude.{ℕ, List, [], ◌∷◌, ◌++◌, length, reverse, Option, Some, None, Result, Ok, Err, nat_lt, ◌==◌, ◌+◌, if◌then◌else◌}
use Rattle.am_text.specs.declared.fault.TextFault.{TextFault}
use Rattle.am_text.specs.declared.fault.TextKind.{TextKind}
use Rattle.am_text.specs.declared.fault.TextKind.TheVariants.{BadByte, Unclosed, Unopened, TooDeep, BadAtom, TooLong}
use Rattle.am_text.specs.declared.form.Form.{Form}
use Rattle.am_text.specs.declared.form.FormNode.{FormNode}
use Rattle.am_text.specs.declared.form.FormNode.TheVariants as node
use Rattle.am_text.specs.declared.scan.Scan.{Scan}
use Rattle.am_text.specs.declared.scan.Open.{Open}
use Rattle.am_text.specs.declared.scan.Lists.{Lists}
use Rattle.am_text.specs.declared.scan.Mode.{Mode}
use Rattle.am_text.specs.declared.scan.Mode.TheVariants.{Between, Word, Text, Comment}
use Rattle.am_text.specs.Bytes.{is_blank, is_word_byte, is_text_byte}
use Rattle.am_text.specs.Atoms.{node_spelled}
use Rattle.am_text.specs.Answers.{◌>>=◌}

-- the open lists, the innermost first, and the forms of the innermost
pub record Held : Type 0 where
  pub outer : List Open
  pub forms : List Form

-- these, and what the next byte continues: nothing, a word, a text or a comment
pub record State : Type 0 where
  pub mode : Mode
  pub held : Held

abbrev pub lists_held : Lists → Held
lists_held l = record { outer = reverse l.outer; forms = l.forms }

abbrev pub state : Scan → State
state s = record { mode = s.mode; held = lists_held s.lists }

abbrev pub in_mode : Mode → Held → State
in_mode m h = record { mode = m; held = h }

abbrev pub fault : {A : Type 0} → ℕ → TextKind → Result A TextFault
fault p k = Err (record { place = p; kind = k })

-- one more form, at q
abbrev pub with_form : ℕ → FormNode → Held → Held
with_form q n h = record { outer = h.outer; forms = h.forms ++ record { place = q; node = n } ∷ [] }

-- a ( at p opens a list, unless as many lists are open as may be
unfoldable pub list_opened : ℕ → ℕ → Held → Result State TextFault
list_opened depth p h =
    if nat_lt (length h.outer) depth
    then Ok (in_mode Between (record { outer = record { place = p; before = h.forms } ∷ h.outer; forms = [] }))
    else fault p TooDeep

-- a ) at p closes the innermost list, which is a form of the list around it; with no list open it is Unopened
abbrev pub closed_in : ℕ → List Open → List Form → Result State TextFault
closed_in p [] forms = fault p Unopened
closed_in p (o ∷ outer) forms = Ok (in_mode Between (with_form o.place (node.List forms) (record { outer = outer; forms = o.before })))

unfoldable pub closed : ℕ → Held → Result State TextFault
closed p h = closed_in p h.outer h.forms

-- A byte at p that continues neither a word nor a text nor a comment: a blank, a ; that begins a comment, a (,
-- a ), a " that begins a text, a word's byte that begins a word; any other is BadByte.
unfoldable pub between : ℕ → ℕ → ℕ → Held → Result State TextFault
between depth p b h =
    if is_blank b then Ok (in_mode Between h)
    else if b == 59 then Ok (in_mode Comment h)
    else if b == 40 then list_opened depth p h
    else if b == 41 then closed p h
    else if b == 34 then Ok (in_mode (Text p []) h)
    else if is_word_byte b then Ok (in_mode (Word p (b ∷ [])) h)
    else fault p BadByte

-- the end of a word that began at q: a number that doesn't fit is a BadAtom there
abbrev pub ended_by : ℕ → Option FormNode → Held → Result Held TextFault
ended_by q (Some n) h = Ok (with_form q n h)
ended_by q None h = fault q BadAtom

unfoldable pub ended_word : ℕ → List ℕ → Held → Result Held TextFault
ended_word q word h = ended_by q (node_spelled word) h

-- A byte behind a word that began at q: one more of its bytes, but a 49th makes it a BadAtom at q; else the word ends
-- before this byte.
unfoldable pub in_word : ℕ → ℕ → List ℕ → ℕ → ℕ → Held → Result State TextFault
in_word depth q word p b h =
    if is_word_byte b
    then (if length word == 48 then fault q BadAtom else Ok (in_mode (Word q (word ++ b ∷ [])) h))
    else ended_word q word h >>= between depth p b

-- A byte inside a text that began at q: the " that ends it, or one more of its bytes, but a 256th makes it a BadAtom
-- at q; any other is BadByte.
unfoldable pub in_text : ℕ → List ℕ → ℕ → ℕ → Held → Result State TextFault
in_text q text p b h =
    if b == 34 then Ok (in_mode Between (with_form q (node.Text text) h))
    else if is_text_byte b
    then (if length text == 255 then fault q BadAtom else Ok (in_mode (Text q (text ++ b ∷ [])) h))
    else fault p BadByte

-- a comment goes on up to a line feed
abbrev pub step_in : ℕ → ℕ → ℕ → Mode → Held → Result State TextFault
step_in depth p b Between h = between depth p b h
step_in depth p b (Word q word) h = in_word depth q word p b h
step_in depth p b (Text q text) h = in_text q text p b h
step_in depth p b Comment h = Ok (in_mode (if b == 10 then Between else Comment) h)

-- the byte b at p
unfoldable pub step : ℕ → ℕ → ℕ → State → Result State TextFault
step depth p b s = step_in depth p b s.mode s.held

-- the bytes from p on, one after the other
unfoldable pub run : ℕ → ℕ → List ℕ → State → Result State TextFault
run depth p [] s = Ok s
run depth p (b ∷ bs) s = step depth p b s >>= run depth (p + 1) bs

-- the end, at p: with a list or a text open it is Unclosed; a word and a comment end there
abbrev pub ended : ℕ → Held → Result (List Form) TextFault
ended p h = if length h.outer == 0 then Ok h.forms else fault p Unclosed

abbrev pub finished_in : ℕ → Mode → Held → Result (List Form) TextFault
finished_in p Between h = ended p h
finished_in p (Word q word) h = ended_word q word h >>= ended p
finished_in p (Text q text) h = fault p Unclosed
finished_in p Comment h = ended p h

unfoldable pub finished : ℕ → State → Result (List Form) TextFault
finished p s = finished_in p s.mode s.held

abbrev pub start : State
start = in_mode Between (record { outer = []; forms = [] })

-- The forms of the bytes, or the first fault, where there may be at most `limit` bytes and at most `depth` lists open.
unfoldable pub read : ℕ → ℕ → List ℕ → Result (List Form) TextFault
read limit depth bytes =
    if nat_lt limit (length bytes) then fault limit TooLong
    else run depth 0 bytes start >>= finished (length bytes)
