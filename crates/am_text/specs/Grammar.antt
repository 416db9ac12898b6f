-- Which forms some bytes are: a grammar with places, apart from any scan.
use Rattle.std.specs.Prelude.{◌≡◌, ℕ, ◌+◌, ◌<◌, ◌≤◌, Bool, true, false, List, [], ◌∷◌, ◌++◌, length, map, max, Some}
use Rattle.std.specs.List.{list_all}
use Rattle.am_term.specs.Span.{greatest}
use Rattle.am_text.specs.declared.form.Form.{Form}
use Rattle.am_text.specs.declared.form.FormNode.{FormNode}
use Rattle.am_text.specs.declared.form.FormNode.TheVariants as node
use Rattle.am_text.specs.declared.form.FormNode.TheFolds.{fold-Form, fold-FormNode}
use Rattle.am_text.specs.declared.form.FormNode.TheOpen.{FormNode-F, Form-F}
use Rattle.am_text.specs.Bytes.{is_blank, is_word_byte, is_text_byte, is_line_byte}
use Rattle.am_text.specs.Atoms.{node_spelled}

abbrev pub form : ℕ → FormNode → Form
form p n = record { place = p; node = n }

-- what stands behind a word: nothing, or a byte that is none of a word
abbrev pub EndsWord : List ℕ → Type 0
EndsWord [] = Unit {0}
EndsWord (b ∷ bs) = is_word_byte b ≡ false

-- what stands behind a comment: a line feed, or the end of the text. The end of a list's members is no end of the text.
abbrev pub EndsLine : Bool → List ℕ → Type 0
EndsLine true [] = Unit {0}
EndsLine false [] = ⊥
EndsLine last (b ∷ bs) = b ≡ 10

-- The bytes, of which the first is at p, are these forms; `last` says that the text ends behind them. They are nothing;
-- or a blank and then forms; or a comment; or a list, its members between parentheses; or a word or a number of one to
-- 48 bytes; or a text of at most 255 bytes between quotation marks.
pub data Reads : Bool → ℕ → List ℕ → List Form → Type 0 where
  End : (last : Bool) (p : ℕ) → Reads last p [] []
  Blank : (last : Bool) (p b : ℕ) (bs : List ℕ) (fs : List Form) → is_blank b ≡ true → Reads last (p + 1) bs fs → Reads last p (b ∷ bs) fs
  Comment : (last : Bool) (p : ℕ) (text bs : List ℕ) (fs : List Form) → list_all is_line_byte text ≡ true → EndsLine last bs → Reads last (p + 1 + length text) bs fs → Reads last p (59 ∷ text ++ bs) fs
  Nest : (last : Bool) (p : ℕ) (bs cs : List ℕ) (fs gs : List Form) → Reads false (p + 1) bs fs → Reads last (p + 1 + length bs + 1) cs gs → Reads last p (40 ∷ bs ++ 41 ∷ cs) (form p (node.List fs) ∷ gs)
  Atom : (last : Bool) (p b : ℕ) (w bs : List ℕ) (n : FormNode) (fs : List Form) → is_word_byte b ≡ true → list_all is_word_byte w ≡ true → length w < 48 → EndsWord bs → node_spelled (b ∷ w) ≡ Some n → Reads last (p + 1 + length w) bs fs → Reads last p (b ∷ w ++ bs) (form p n ∷ fs)
  Quoted : (last : Bool) (p : ℕ) (t bs : List ℕ) (fs : List Form) → list_all is_text_byte t ≡ true → length t ≤ 255 → Reads last (p + 1 + length t + 1) bs fs → Reads last p (34 ∷ t ++ 34 ∷ bs) (form p (node.Text t) ∷ fs)

-- ---- how many lists are open at once in a form
abbrev pub height_step : FormNode-F ℕ ℕ → ℕ
height_step (FormNode-F.Word w) = 0
height_step (FormNode-F.Number n) = 0
height_step (FormNode-F.Text t) = 0
height_step (FormNode-F.List hs) = 1 + greatest hs

abbrev pub form_height : Form-F ℕ ℕ → ℕ
form_height f = f.node

-- none in a word, a number or a text; in a list one more than in its highest member
unfoldable pub height : Form → ℕ
height = fold-Form ℕ ℕ height_step form_height

unfoldable pub node_height : FormNode → ℕ
node_height = fold-FormNode ℕ ℕ height_step form_height

abbrev pub highest : List Form → ℕ
highest fs = greatest (map height fs)

-- the bytes are these forms, are no more than `limit`, and open no more than `depth` lists at once
abbrev pub ReadsWithin : ℕ → ℕ → List ℕ → List Form → Type 0
ReadsWithin limit depth bytes fs = Reads true 0 bytes fs × (highest fs ≤ depth) × (length bytes ≤ limit)
