-- How a form is written, which forms can be written, and when two forms differ in their places alone.
use Rattle.std.specs.Prelude.{◌≡◌, ℕ, ℤ, pos, negsuc, List, [], ◌∷◌, ◌++◌, ◌&&◌, not, Bool, length, map, Ok, nat_lt, nat_le, ◌^◌}
use Rattle.std.specs.List.{list_all, join_with_byte}
use Rattle.std.specs.Fmt.{signed_decimal}
use Rattle.am_text.specs.declared.form.Form.{Form}
use Rattle.am_text.specs.declared.form.FormNode.{FormNode}
use Rattle.am_text.specs.declared.form.FormNode.TheVariants as node
use Rattle.am_text.specs.declared.form.FormNode.TheFolds.{fold-Form, fold-FormNode}
use Rattle.am_text.specs.declared.form.FormNode.TheOpen.{FormNode-F, Form-F}
use Rattle.am_text.specs.Bytes.{is_word_byte, is_text_byte}
use Rattle.am_text.specs.Atoms.{is_number}
use Rattle.am_text.specs.Scan.{read}

-- ---- the spelling: a word as it is, a number in decimal, a text between quotation marks, a list's members between
-- parentheses with one blank between each two
abbrev pub text_step : FormNode-F (List ℕ) (List ℕ) → List ℕ
text_step (FormNode-F.Word w) = w
text_step (FormNode-F.Number n) = signed_decimal n
text_step (FormNode-F.Text t) = 34 ∷ t ++ 34 ∷ []
text_step (FormNode-F.List ts) = 40 ∷ join_with_byte 32 ts ++ 41 ∷ []

abbrev pub form_text : Form-F (List ℕ) (List ℕ) → List ℕ
form_text f = f.node

unfoldable pub written : Form → List ℕ
written = fold-Form (List ℕ) (List ℕ) text_step form_text

unfoldable pub node_written : FormNode → List ℕ
node_written = fold-FormNode (List ℕ) (List ℕ) text_step form_text

-- each form on a line of its own
abbrev pub lines : List Form → List ℕ
lines [] = []
lines (f ∷ fs) = written f ++ 10 ∷ lines fs

-- ---- forms that can be written: the words are words and no numbers, the numbers fit 64 bits, the texts are allowed
abbrev pub is_word : List ℕ → Bool
is_word w = nat_lt 0 (length w) && (nat_le (length w) 48 && (list_all is_word_byte w && not (is_number w)))

abbrev pub is_text : List ℕ → Bool
is_text t = nat_le (length t) 255 && list_all is_text_byte t

abbrev pub fits_word : ℤ → Bool
fits_word (pos n) = nat_lt n (2 ^ 63)
fits_word (negsuc n) = nat_lt n (2 ^ 63)

abbrev pub writable_step : FormNode-F Bool Bool → Bool
writable_step (FormNode-F.Word w) = is_word w
writable_step (FormNode-F.Number n) = fits_word n
writable_step (FormNode-F.Text t) = is_text t
writable_step (FormNode-F.List bs) = list_all (λ b. b) bs

abbrev pub form_writable : Form-F Bool Bool → Bool
form_writable f = f.node

unfoldable pub is_writable : Form → Bool
is_writable = fold-Form Bool Bool writable_step form_writable

unfoldable pub node_writable : FormNode → Bool
node_writable = fold-FormNode Bool Bool writable_step form_writable

-- ---- a form with all places 0
abbrev pub bare_step : FormNode-F FormNode Form → FormNode
bare_step (FormNode-F.Word w) = node.Word w
bare_step (FormNode-F.Number n) = node.Number n
bare_step (FormNode-F.Text t) = node.Text t
bare_step (FormNode-F.List fs) = node.List fs

abbrev pub form_bare : Form-F FormNode Form → Form
form_bare f = record { place = 0; node = f.node }

unfoldable pub bare : Form → Form
bare = fold-Form FormNode Form bare_step form_bare

unfoldable pub node_bare : FormNode → FormNode
node_bare = fold-FormNode FormNode Form bare_step form_bare

-- the bytes are read, within these limits, as these forms, places aside
abbrev pub ReadsAs : ℕ → ℕ → List ℕ → List Form → Type 0
ReadsAs limit depth bytes forms = (others : List Form) × (read limit depth bytes ≡ Ok others) × (map bare others ≡ map bare forms)
