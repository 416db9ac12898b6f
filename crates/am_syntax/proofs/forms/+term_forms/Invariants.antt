use Rattle.std.proofs.Common.{◌≡◌, ◌∷◌, map, take}
use Rattle.am_syntax.specs.Forms.{word_form, term_form}
use Rattle.am_syntax.proofs.forms.+term_forms.Given as goal

-- the head, and the forms of the terms so far
abbrev pub invariant-headed_form-loop-term : goal.invariant-headed_form-loop-term
invariant-headed_form-loop-term l = l.forms ≡ word_form l.head ∷ map term_form (take l.term-index l.terms)
