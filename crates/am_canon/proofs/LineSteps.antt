-- Steps of writing lines.
use Rattle.std.proofs.Common.{◌≡◌, ℕ, ◌+◌, ◌<◌, List, [], ◌∷◌, ◌++◌, length, map, take, get_or, refl, sym, ap, ◌∙◌, append_assoc}
use Rattle.std.proofs.lemmas.List.{map_more}
use Rattle.std.proofs.lemmas.Grind.{common_steps}
use Rattle.am_text.specs.declared.form.Form.{Form}
use Rattle.am_text.specs.Spelling.{written, lines}
use Rattle.am_theory.specs.declared.declaration.Declaration.{Declaration}
use Rattle.am_canon.specs.CanonicalText.{decl_form}

lines-append : (fs gs : List Form) → lines (fs ++ gs) ≡ lines fs ++ lines gs
lines-append [] gs = refl
lines-append (f ∷ fs) gs = ap (λ (x : List ℕ). written f ++ 10 ∷ x) (lines-append fs gs) ∙ sym (append_assoc (written f) (10 ∷ lines fs) (lines gs))

pub lines_more : (out : List ℕ) (ds : List Declaration) (i : ℕ) (d : Declaration) → i < length ds → out ++ lines (map decl_form (take (i + 1) ds)) ≡ out ++ lines (map decl_form (take i ds)) ++ (written (decl_form (get_or ds i d)) ++ 10 ∷ [])
lines_more out ds i d lt = ap (λ (x : List ℕ). out ++ x) (ap lines (map_more decl_form ds i d lt) ∙ lines-append (map decl_form (take i ds)) (decl_form (get_or ds i d) ∷ [])) ∙ sym (append_assoc out (lines (map decl_form (take i ds))) (written (decl_form (get_or ds i d)) ++ 10 ∷ []))

pub line-first : (x ys : List ℕ) → (x ++ 10 ∷ []) ++ ys ≡ x ++ 10 ∷ ys
line-first x ys = append_assoc x (10 ∷ []) ys

pub ruleset line_steps = (common_steps, lines_more, line-first)
