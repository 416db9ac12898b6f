use Rattle.std.proofs.Common.{◌≡◌, ◌∷◌, map, take}
use Rattle.am_syntax.specs.Forms.{word_form, formula_form}
use Rattle.am_syntax.proofs.forms.+formula_forms.Given as goal

-- the head, and the forms of the formulas so far
abbrev pub invariant-joined_form-loop-formula : goal.invariant-joined_form-loop-formula
invariant-joined_form-loop-formula l = l.forms ≡ word_form l.head ∷ map formula_form (take l.formula-index l.formulas)
