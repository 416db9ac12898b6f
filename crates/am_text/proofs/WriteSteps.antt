-- Steps of writing a form.
use Rattle.std.proofs.Common.{◌≡◌, ℕ, ◌+◌, ◌<◌, List, [], ◌∷◌, ◌++◌, map, take, length, get_or, refl, sym, ap, ◌∙◌, arith, append_assoc}
use Rattle.std.specs.List.{join_with_byte}
use Rattle.std.proofs.lemmas.List.{map_more, length-map, length-take-le}
use Rattle.std.proofs.lemmas.Grind.{common_steps}
use Rattle.am_text.specs.declared.form.Form.{Form}
use Rattle.am_text.specs.Spelling.{written, node_written}
use Rattle.am_text.proofs.Folds.{written-Word, written-Number, written-Text, written-List, written-form}

pub written-at : (f : Form) → written f ≡ node_written f.node
written-at f = written-form f.place f.node

join_push : (ts : List (List ℕ)) (t : List ℕ) → 0 < length ts → join_with_byte 32 (ts ++ t ∷ []) ≡ join_with_byte 32 ts ++ 32 ∷ t
join_push [] t lt = absurd (omega arith)
join_push (x ∷ []) t lt = refl
join_push (x ∷ y ∷ ts) t lt = ap (λ (z : List ℕ). x ++ 32 ∷ z) (join_push (y ∷ ts) t (omega arith)) ∙ sym (append_assoc x (32 ∷ join_with_byte 32 (y ∷ ts)) (32 ∷ t))

-- the first member, and each one after it
pub joined_first : (fs : List Form) (i : ℕ) (d : Form) → i < length fs → i ≡ 0 → join_with_byte 32 (map written (take (i + 1) fs)) ≡ join_with_byte 32 (map written (take i fs)) ++ written (get_or fs i d)
joined_first fs i d lt e = rw (map_more written fs i d lt, e) refl

pub joined_next : (fs : List Form) (i : ℕ) (d : Form) → i < length fs → 0 < i → join_with_byte 32 (map written (take (i + 1) fs)) ≡ join_with_byte 32 (map written (take i fs)) ++ 32 ∷ written (get_or fs i d)
joined_next fs i d lt some = rw (map_more written fs i d lt) (join_push (map written (take i fs)) (written (get_or fs i d)) (omega (arith, length-map (take i fs) written, length-take-le i fs (omega arith))))

pub ruleset write_laws = (common_steps, written-Word, written-Number, written-Text, written-List, written-at, joined_first, joined_next)
