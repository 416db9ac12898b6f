-- Which form a written term or formula is, with all places 0.
use Rattle.std.specs.Prelude.{◌&&◌, ℕ, Bool, true, false, List, [], ◌∷◌, map, codes}
use Rattle.std.specs.List.{list_all}
use Rattle.am_term.specs.Names.{is_name}
use Rattle.am_text.specs.declared.form.Form.{Form}
use Rattle.am_text.specs.declared.form.FormNode.TheVariants as node
use Rattle.am_syntax.specs.declared.written.Words.{Words}
use Rattle.am_syntax.specs.declared.written.WrittenTerm.{WrittenTerm}
use Rattle.am_syntax.specs.declared.written.WrittenTerm.TheOpen.{WrittenTerm-F}
use Rattle.am_syntax.specs.declared.written.WrittenTerm.TheFolds.{fold-WrittenTerm}
use Rattle.am_syntax.specs.declared.written.WrittenAtom.{WrittenAtom}
use Rattle.am_syntax.specs.declared.written.WrittenAtom.TheVariants.{Equation, Relation}
use Rattle.am_syntax.specs.declared.written.WrittenFormula.{WrittenFormula}
use Rattle.am_syntax.specs.declared.written.WrittenFormula.TheOpen.{WrittenFormula-F}
use Rattle.am_syntax.specs.declared.written.WrittenFormula.TheFolds.{fold-WrittenFormula}
use Rattle.am_syntax.specs.Shapes.{may_stand}

-- a word, and a list, at no place
abbrev pub word_form : List ℕ → Form
word_form w = record { place = 0; node = node.Word w }

abbrev pub list_form : List Form → Form
list_form fs = record { place = 0; node = node.List fs }

-- a list whose head is a word
abbrev pub headed_form : List ℕ → List Form → Form
headed_form h fs = list_form (word_form h ∷ fs)

abbrev pub term_form_step : WrittenTerm-F Form → Form
term_form_step (WrittenTerm-F.Alone w) = word_form w
term_form_step (WrittenTerm-F.Headed h fs) = headed_form h fs

-- a word alone, or its head and its arguments in a list
unfoldable pub term_form : WrittenTerm → Form
term_form = fold-WrittenTerm Form term_form_step

abbrev pub relation_form : List ℕ → List Form → Form
relation_form n [] = word_form n
relation_form n (f ∷ fs) = headed_form n (f ∷ fs)

abbrev pub atom_form : WrittenAtom → Form
atom_form (Equation left right) = headed_form (codes "=") (term_form left ∷ term_form right ∷ [])
atom_form (Relation n args) = relation_form n (map term_form args)

abbrev pub formula_form_step : WrittenFormula-F Form → Form
formula_form_step (WrittenFormula-F.Atom a) = atom_form a
formula_form_step (WrittenFormula-F.Not f) = headed_form (codes "not") (f ∷ [])
formula_form_step (WrittenFormula-F.And fs) = headed_form (codes "and") fs
formula_form_step (WrittenFormula-F.Or fs) = headed_form (codes "or") fs
formula_form_step (WrittenFormula-F.Implies f g) = headed_form (codes "=>") (f ∷ g ∷ [])
formula_form_step (WrittenFormula-F.Iff f g) = headed_form (codes "<=>") (f ∷ g ∷ [])
formula_form_step WrittenFormula-F.Quantified = headed_form (codes "all") []

unfoldable pub formula_form : WrittenFormula → Form
formula_form = fold-WrittenFormula Form formula_form_step

-- ---- which written terms and formulas a form can be

abbrev pub is_some_list : {A : Type 0} → List A → Bool
is_some_list [] = false
is_some_list (x ∷ xs) = true

abbrev pub all_true : List Bool → Bool
all_true bs = list_all (λ b. b) bs

abbrev pub spellable_step : Words → WrittenTerm-F Bool → Bool
spellable_step words (WrittenTerm-F.Alone w) = may_stand words w
spellable_step words (WrittenTerm-F.Headed h bs) = is_name h && (is_some_list bs && all_true bs)

-- each word alone may stand so, and each head is a name with one or more arguments
unfoldable pub is_spellable : Words → WrittenTerm → Bool
is_spellable words = fold-WrittenTerm Bool (spellable_step words)

abbrev pub is_spellable_atom : Words → WrittenAtom → Bool
is_spellable_atom words (Equation left right) = is_spellable words left && is_spellable words right
is_spellable_atom words (Relation n args) = is_name n && list_all (is_spellable words) args

abbrev pub spellable_formula_step : Words → WrittenFormula-F Bool → Bool
spellable_formula_step words (WrittenFormula-F.Atom a) = is_spellable_atom words a
spellable_formula_step words (WrittenFormula-F.Not b) = b
spellable_formula_step words (WrittenFormula-F.And bs) = is_some_list bs && all_true bs
spellable_formula_step words (WrittenFormula-F.Or bs) = is_some_list bs && all_true bs
spellable_formula_step words (WrittenFormula-F.Implies b c) = b && c
spellable_formula_step words (WrittenFormula-F.Iff b c) = b && c
spellable_formula_step words WrittenFormula-F.Quantified = true

-- so are the terms of its atoms, and each `and` and `or` has one or more members
unfoldable pub is_spellable_formula : Words → WrittenFormula → Bool
is_spellable_formula words = fold-WrittenFormula Bool (spellable_formula_step words)
