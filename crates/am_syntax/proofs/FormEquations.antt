-- Which form a term and a formula is, and which can be one, by their kinds.
use Rattle.std.proofs.Common.{◌≡◌, ℕ, Bool, true, List, [], ◌∷◌, map}
use Rattle.std.specs.Prelude.{◌&&◌, ◌||◌, codes}
use Rattle.std.proofs.lemmas.List.{map_more}
use Rattle.std.proofs.lemmas.Grind.{common_steps}
use Rattle.am_term.specs.Names.{is_name}
use Rattle.am_text.specs.declared.form.Form.{Form}
use Rattle.am_syntax.specs.declared.written.Words.{Words}
use Rattle.am_syntax.specs.declared.written.WrittenTerm.{WrittenTerm}
use Rattle.am_syntax.specs.declared.written.WrittenTerm.TheViews.{the_lemmas}
use Rattle.am_syntax.specs.declared.written.WrittenTerm.TheVariants.{Alone, Headed}
use Rattle.am_syntax.specs.declared.written.WrittenAtom.{WrittenAtom}
use Rattle.am_syntax.specs.declared.written.WrittenFormula.{WrittenFormula}
use Rattle.am_syntax.specs.declared.written.WrittenFormula.TheViews.{the_lemmas as formula_lemmas}
use Rattle.am_syntax.specs.declared.written.WrittenFormula.TheVariants as made
use Rattle.am_syntax.specs.Fold.{fold-Alone, fold-Headed}
use Rattle.am_syntax.specs.FoldFormula.{fold-Atom, fold-Not, fold-And, fold-Or, fold-Implies, fold-Iff, fold-Quantified}
use Rattle.am_syntax.specs.Shapes.{may_stand}
use Rattle.am_syntax.specs.Forms.{word_form, headed_form, term_form, term_form_step, atom_form, formula_form, formula_form_step, is_some_list, all_true, is_spellable, spellable_step, is_spellable_atom, is_spellable_formula, spellable_formula_step}
use Rattle.am_syntax.specs.Flaws.{any_true, has_quantifier, quantifier_step}

-- ---- the form of a term
pub form-Alone : (w : List ℕ) → term_form (Alone w) ≡ word_form w
unfolding term_form
form-Alone w = fold-Alone Form term_form_step w

pub form-Headed : (h : List ℕ) (args : List WrittenTerm) → term_form (Headed h args) ≡ headed_form h (map term_form args)
unfolding term_form
form-Headed h args = fold-Headed Form term_form_step h args

-- ---- the form of a formula
pub form-Atom : (a : WrittenAtom) → formula_form (made.Atom a) ≡ atom_form a
unfolding formula_form
form-Atom a = fold-Atom Form formula_form_step a

pub form-Not : (f : WrittenFormula) → formula_form (made.Not f) ≡ headed_form (codes "not") (formula_form f ∷ [])
unfolding formula_form
form-Not f = fold-Not Form formula_form_step f

pub form-And : (fs : List WrittenFormula) → formula_form (made.And fs) ≡ headed_form (codes "and") (map formula_form fs)
unfolding formula_form
form-And fs = fold-And Form formula_form_step fs

pub form-Or : (fs : List WrittenFormula) → formula_form (made.Or fs) ≡ headed_form (codes "or") (map formula_form fs)
unfolding formula_form
form-Or fs = fold-Or Form formula_form_step fs

pub form-Implies : (f g : WrittenFormula) → formula_form (made.Implies f g) ≡ headed_form (codes "=>") (formula_form f ∷ formula_form g ∷ [])
unfolding formula_form
form-Implies f g = fold-Implies Form formula_form_step f g

pub form-Iff : (f g : WrittenFormula) → formula_form (made.Iff f g) ≡ headed_form (codes "<=>") (formula_form f ∷ formula_form g ∷ [])
unfolding formula_form
form-Iff f g = fold-Iff Form formula_form_step f g

pub form-Quantified : formula_form made.Quantified ≡ headed_form (codes "all") []
unfolding formula_form
form-Quantified = fold-Quantified Form formula_form_step

-- ---- which terms can be a form
pub spellable-Alone : (words : Words) (w : List ℕ) → is_spellable words (Alone w) ≡ may_stand words w
unfolding is_spellable
spellable-Alone words w = fold-Alone Bool (spellable_step words) w

pub spellable-Headed : (words : Words) (h : List ℕ) (args : List WrittenTerm) → is_spellable words (Headed h args) ≡ (is_name h && (is_some_list (map (is_spellable words) args) && all_true (map (is_spellable words) args)))
unfolding is_spellable
spellable-Headed words h args = fold-Headed Bool (spellable_step words) h args

-- ---- which formulas can be a form
pub spellable-Atom : (words : Words) (a : WrittenAtom) → is_spellable_formula words (made.Atom a) ≡ is_spellable_atom words a
unfolding is_spellable_formula
spellable-Atom words a = fold-Atom Bool (spellable_formula_step words) a

pub spellable-Not : (words : Words) (f : WrittenFormula) → is_spellable_formula words (made.Not f) ≡ is_spellable_formula words f
unfolding is_spellable_formula
spellable-Not words f = fold-Not Bool (spellable_formula_step words) f

pub spellable-And : (words : Words) (fs : List WrittenFormula) → is_spellable_formula words (made.And fs) ≡ (is_some_list (map (is_spellable_formula words) fs) && all_true (map (is_spellable_formula words) fs))
unfolding is_spellable_formula
spellable-And words fs = fold-And Bool (spellable_formula_step words) fs

pub spellable-Or : (words : Words) (fs : List WrittenFormula) → is_spellable_formula words (made.Or fs) ≡ (is_some_list (map (is_spellable_formula words) fs) && all_true (map (is_spellable_formula words) fs))
unfolding is_spellable_formula
spellable-Or words fs = fold-Or Bool (spellable_formula_step words) fs

pub spellable-Implies : (words : Words) (f g : WrittenFormula) → is_spellable_formula words (made.Implies f g) ≡ (is_spellable_formula words f && is_spellable_formula words g)
unfolding is_spellable_formula
spellable-Implies words f g = fold-Implies Bool (spellable_formula_step words) f g

pub spellable-Iff : (words : Words) (f g : WrittenFormula) → is_spellable_formula words (made.Iff f g) ≡ (is_spellable_formula words f && is_spellable_formula words g)
unfolding is_spellable_formula
spellable-Iff words f g = fold-Iff Bool (spellable_formula_step words) f g

pub spellable-Quantified : (words : Words) → is_spellable_formula words made.Quantified ≡ true
unfolding is_spellable_formula
spellable-Quantified words = fold-Quantified Bool (spellable_formula_step words)

-- ---- where a quantifier stands inside
pub quantifier-Not : (f : WrittenFormula) → has_quantifier (made.Not f) ≡ has_quantifier f
unfolding has_quantifier
quantifier-Not f = fold-Not Bool quantifier_step f

pub quantifier-And : (fs : List WrittenFormula) → has_quantifier (made.And fs) ≡ any_true (map has_quantifier fs)
unfolding has_quantifier
quantifier-And fs = fold-And Bool quantifier_step fs

pub quantifier-Or : (fs : List WrittenFormula) → has_quantifier (made.Or fs) ≡ any_true (map has_quantifier fs)
unfolding has_quantifier
quantifier-Or fs = fold-Or Bool quantifier_step fs

pub quantifier-Implies : (f g : WrittenFormula) → has_quantifier (made.Implies f g) ≡ (has_quantifier f || has_quantifier g)
unfolding has_quantifier
quantifier-Implies f g = fold-Implies Bool quantifier_step f g

pub quantifier-Iff : (f g : WrittenFormula) → has_quantifier (made.Iff f g) ≡ (has_quantifier f || has_quantifier g)
unfolding has_quantifier
quantifier-Iff f g = fold-Iff Bool quantifier_step f g

pub quantifier-Quantified : has_quantifier made.Quantified ≡ true
unfolding has_quantifier
quantifier-Quantified = fold-Quantified Bool quantifier_step

pub ruleset term_form_laws = (common_steps, the_lemmas, map_more, form-Alone, form-Headed)

pub ruleset formula_form_laws = (common_steps, formula_lemmas, map_more, form-Atom, form-Not, form-And, form-Or, form-Implies, form-Iff, form-Quantified)
