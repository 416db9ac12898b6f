-- What holds of all forms, terms and formulas.
use Rattle.std.specs.Prelude.{◌≡◌, ◌≤◌, true, false, Some}
use Rattle.am_text.specs.declared.form.Form.{Form}
use Rattle.am_text.specs.Grammar.{height}
use Rattle.am_text.specs.Spelling.{bare, is_writable}
use Rattle.am_syntax.specs.declared.written.Words.{Words}
use Rattle.am_syntax.specs.declared.written.Words.TheVariants.{Names}
use Rattle.am_syntax.specs.declared.written.WrittenTerm.{WrittenTerm}
use Rattle.am_syntax.specs.declared.written.WrittenFormula.{WrittenFormula}
use Rattle.am_syntax.specs.Shapes.{term_of, formula_of}
use Rattle.am_syntax.specs.Forms.{term_form, formula_form, is_spellable, is_spellable_formula}
use Rattle.am_syntax.specs.Flaws.{has_quantifier}

-- forms that differ in their places alone are the same term and the same formula
abbrev pub PlacesAside : Type 0
PlacesAside = (words : Words) (f g : Form) → bare f ≡ bare g → (term_of words f ≡ term_of words g) × (formula_of words f ≡ formula_of words g)

-- a term that can be a form is read from its form
abbrev pub SpelledTermIsRead : Type 0
SpelledTermIsRead = (words : Words) (t : WrittenTerm) → is_spellable words t ≡ true → term_of words (term_form t) ≡ Some t

-- so is a formula, where no quantifier stands inside
abbrev pub SpelledFormulaIsRead : Type 0
SpelledFormulaIsRead = (words : Words) (f : WrittenFormula) → is_spellable_formula words f ≡ true → has_quantifier f ≡ false → formula_of words (formula_form f) ≡ Some f

-- a term that was read can be a form
abbrev pub ReadTermIsSpellable : Type 0
ReadTermIsSpellable = (words : Words) (f : Form) (t : WrittenTerm) → term_of words f ≡ Some t → is_spellable words t ≡ true

-- so can a formula that was read
abbrev pub ReadFormulaIsSpellable : Type 0
ReadFormulaIsSpellable = (words : Words) (f : Form) (g : WrittenFormula) → formula_of words f ≡ Some g → is_spellable_formula words g ≡ true

-- the form of a term that was read is the form that it was read from, places aside
abbrev pub ReadTermIsItsForm : Type 0
ReadTermIsItsForm = (words : Words) (f : Form) (t : WrittenTerm) → term_of words f ≡ Some t → term_form t ≡ bare f

-- the form of a term that was read opens no more lists than the form that it was read from
abbrev pub ReadTermIsNoHigher : Type 0
ReadTermIsNoHigher = (words : Words) (f : Form) (t : WrittenTerm) → term_of words f ≡ Some t → height (term_form t) ≤ height f

-- so does that of a formula
abbrev pub ReadFormulaIsNoHigher : Type 0
ReadFormulaIsNoHigher = (words : Words) (f : Form) (g : WrittenFormula) → formula_of words f ≡ Some g → height (formula_form g) ≤ height f

-- the form of a term whose words are names can be written
abbrev pub SpelledTermCanBeWritten : Type 0
SpelledTermCanBeWritten = (t : WrittenTerm) → is_spellable Names t ≡ true → is_writable (term_form t) ≡ true

-- so can that of a formula
abbrev pub SpelledFormulaCanBeWritten : Type 0
SpelledFormulaCanBeWritten = (f : WrittenFormula) → is_spellable_formula Names f ≡ true → is_writable (formula_form f) ≡ true

-- the form of a term that was read from a form that can be written, can be written
abbrev pub ReadTermCanBeWritten : Type 0
ReadTermCanBeWritten = (words : Words) (f : Form) (t : WrittenTerm) → term_of words f ≡ Some t → is_writable f ≡ true → is_writable (term_form t) ≡ true

-- so can that of a formula
abbrev pub ReadFormulaCanBeWritten : Type 0
ReadFormulaCanBeWritten = (words : Words) (f : Form) (g : WrittenFormula) → formula_of words f ≡ Some g → is_writable f ≡ true → is_writable (formula_form g) ≡ true
