-- The equations of the folds over forms.
use Rattle.std.proofs.Common.{◌≡◌, ℕ, ◌+◌, Bool, List, [], ◌∷◌, ◌++◌, map, sym, ap, ◌∙◌}
use Rattle.std.specs.Prelude.{ℤ}
use Rattle.std.specs.List.{list_all, join_with_byte}
use Rattle.std.specs.Fmt.{signed_decimal}
use Rattle.am_term.specs.Span.{greatest}
use Rattle.am_text.specs.declared.form.Form.{Form}
use Rattle.am_text.specs.declared.form.FormNode.{FormNode}
use Rattle.am_text.specs.declared.form.FormNode.TheVariants as node
use Rattle.am_text.specs.declared.form.FormNode.TheVariants.{rolls-Word, rolls-Number, rolls-Text, rolls-List}
use Rattle.am_text.specs.declared.form.FormNode.TheFolds.{fold-Form, fold-FormNode, fold-roll-Form, fold-roll-FormNode}
use Rattle.am_text.specs.declared.form.FormNode.TheOpen.{FormNode-F, Form-F}
use Rattle.am_text.specs.Grammar.{height_step, form_height, height, node_height}
use Rattle.am_text.specs.Spelling.{text_step, form_text, written, node_written, is_word, is_text, fits_word, writable_step, form_writable, is_writable, node_writable, bare_step, form_bare, bare, node_bare}

module _ (A A' : Type 0) (step : FormNode-F A A' → A) (form_step : Form-F A A' → A') where
  on-Word : (w : List ℕ) → fold-FormNode A A' step form_step (node.Word w) ≡ step (FormNode-F.Word w)
  on-Word w = ap (fold-FormNode A A' step form_step) (sym (rolls-Word w)) ∙ fold-roll-FormNode A A' step form_step (FormNode-F.Word w)

  on-Number : (n : ℤ) → fold-FormNode A A' step form_step (node.Number n) ≡ step (FormNode-F.Number n)
  on-Number n = ap (fold-FormNode A A' step form_step) (sym (rolls-Number n)) ∙ fold-roll-FormNode A A' step form_step (FormNode-F.Number n)

  on-Text : (t : List ℕ) → fold-FormNode A A' step form_step (node.Text t) ≡ step (FormNode-F.Text t)
  on-Text t = ap (fold-FormNode A A' step form_step) (sym (rolls-Text t)) ∙ fold-roll-FormNode A A' step form_step (FormNode-F.Text t)

  on-List : (fs : List Form) → fold-FormNode A A' step form_step (node.List fs) ≡ step (FormNode-F.List (map (fold-Form A A' step form_step) fs))
  on-List fs = ap (fold-FormNode A A' step form_step) (sym (rolls-List fs)) ∙ fold-roll-FormNode A A' step form_step (FormNode-F.List fs)

  on-form : (p : ℕ) (n : FormNode) → fold-Form A A' step form_step (record { place = p; node = n }) ≡ form_step (record { place = p; node = fold-FormNode A A' step form_step n })
  on-form p n = fold-roll-Form A A' step form_step (record { place = p; node = n })

-- ---- height
pub height-Word : (w : List ℕ) → node_height (node.Word w) ≡ 0
unfolding node_height
height-Word w = on-Word ℕ ℕ height_step form_height w

pub height-Number : (n : ℤ) → node_height (node.Number n) ≡ 0
unfolding node_height
height-Number n = on-Number ℕ ℕ height_step form_height n

pub height-Text : (t : List ℕ) → node_height (node.Text t) ≡ 0
unfolding node_height
height-Text t = on-Text ℕ ℕ height_step form_height t

pub height-List : (fs : List Form) → node_height (node.List fs) ≡ 1 + greatest (map height fs)
unfolding node_height height
height-List fs = on-List ℕ ℕ height_step form_height fs

pub height-form : (p : ℕ) (n : FormNode) → height (record { place = p; node = n }) ≡ node_height n
unfolding node_height height
height-form p n = on-form ℕ ℕ height_step form_height p n

-- ---- the spelling
pub written-Word : (w : List ℕ) → node_written (node.Word w) ≡ w
unfolding node_written
written-Word w = on-Word (List ℕ) (List ℕ) text_step form_text w

pub written-Number : (n : ℤ) → node_written (node.Number n) ≡ signed_decimal n
unfolding node_written
written-Number n = on-Number (List ℕ) (List ℕ) text_step form_text n

pub written-Text : (t : List ℕ) → node_written (node.Text t) ≡ 34 ∷ t ++ 34 ∷ []
unfolding node_written
written-Text t = on-Text (List ℕ) (List ℕ) text_step form_text t

pub written-List : (fs : List Form) → node_written (node.List fs) ≡ 40 ∷ join_with_byte 32 (map written fs) ++ 41 ∷ []
unfolding node_written written
written-List fs = on-List (List ℕ) (List ℕ) text_step form_text fs

pub written-form : (p : ℕ) (n : FormNode) → written (record { place = p; node = n }) ≡ node_written n
unfolding node_written written
written-form p n = on-form (List ℕ) (List ℕ) text_step form_text p n

-- ---- what can be written
pub writable-Word : (w : List ℕ) → node_writable (node.Word w) ≡ is_word w
unfolding node_writable
writable-Word w = on-Word Bool Bool writable_step form_writable w

pub writable-Number : (n : ℤ) → node_writable (node.Number n) ≡ fits_word n
unfolding node_writable
writable-Number n = on-Number Bool Bool writable_step form_writable n

pub writable-Text : (t : List ℕ) → node_writable (node.Text t) ≡ is_text t
unfolding node_writable
writable-Text t = on-Text Bool Bool writable_step form_writable t

pub writable-List : (fs : List Form) → node_writable (node.List fs) ≡ list_all (λ b. b) (map is_writable fs)
unfolding node_writable is_writable
writable-List fs = on-List Bool Bool writable_step form_writable fs

pub writable-form : (p : ℕ) (n : FormNode) → is_writable (record { place = p; node = n }) ≡ node_writable n
unfolding node_writable is_writable
writable-form p n = on-form Bool Bool writable_step form_writable p n

-- ---- without places
pub bare-Word : (w : List ℕ) → node_bare (node.Word w) ≡ node.Word w
unfolding node_bare
bare-Word w = on-Word FormNode Form bare_step form_bare w

pub bare-Number : (n : ℤ) → node_bare (node.Number n) ≡ node.Number n
unfolding node_bare
bare-Number n = on-Number FormNode Form bare_step form_bare n

pub bare-Text : (t : List ℕ) → node_bare (node.Text t) ≡ node.Text t
unfolding node_bare
bare-Text t = on-Text FormNode Form bare_step form_bare t

pub bare-List : (fs : List Form) → node_bare (node.List fs) ≡ node.List (map bare fs)
unfolding node_bare bare
bare-List fs = on-List FormNode Form bare_step form_bare fs

pub bare-form : (p : ℕ) (n : FormNode) → bare (record { place = p; node = n }) ≡ record { place = 0; node = node_bare n }
unfolding node_bare bare
bare-form p n = on-form FormNode Form bare_step form_bare p n
