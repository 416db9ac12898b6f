-- What holds of all declarations and their forms.
use Rattle.std.specs.Prelude.{◌≡◌, ◌≤◌, true, false, Some}
use Rattle.am_text.specs.declared.form.Form.{Form}
use Rattle.am_text.specs.Grammar.{height}
use Rattle.am_text.specs.Spelling.{bare, is_writable}
use Rattle.am_theory.specs.declared.declaration.Declaration.{Declaration}
use Rattle.am_canon.specs.CanonicalText.{decl_form}
use Rattle.am_theory.specs.Contents.{Contents}
use Rattle.am_theory.specs.Declarations.{decl_of, version_of}
use Rattle.am_theory.specs.Faults.{quantifies}
use Rattle.am_canon.specs.Spellable.{is_spellable_declaration}
use Rattle.am_theory.specs.Traces.{IsOfForm}

-- forms that differ in their places alone are the same declaration, and name the same version
abbrev pub PlacesAside : Type 0
PlacesAside = (f g : Form) → bare f ≡ bare g → (decl_of f ≡ decl_of g) × (version_of f ≡ version_of g)

-- a declaration that can be a form is read from its form
abbrev pub SpelledDeclarationIsRead : Type 0
SpelledDeclarationIsRead = (d : Declaration) → is_spellable_declaration d ≡ true → decl_of (decl_form d) ≡ Some d

-- its form can be written
abbrev pub SpelledDeclarationCanBeWritten : Type 0
SpelledDeclarationCanBeWritten = (d : Declaration) → is_spellable_declaration d ≡ true → is_writable (decl_form d) ≡ true

-- a declaration that stood in a file can be a form, where no quantifier stands inside its formula
abbrev pub ReadDeclarationIsSpellable : Type 0
ReadDeclarationIsSpellable = (c : Contents) (d : Declaration) → IsOfForm d → quantifies c d ≡ false → is_spellable_declaration d ≡ true

-- the form of a declaration that was read opens no more lists than the form that it was read from
abbrev pub ReadDeclarationIsNoHigher : Type 0
ReadDeclarationIsNoHigher = (f : Form) (d : Declaration) → decl_of f ≡ Some d → height (decl_form d) ≤ height f
