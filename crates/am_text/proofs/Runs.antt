-- Runs of the scan over a blank, a word, a text, a comment, the ends of a list.
use Rattle.std.proofs.Common.{◌≡◌, ℕ, ◌+◌, ◌<◌, ◌≤◌, Bool, true, false, List, [], ◌∷◌, ◌++◌, length, Ok, Some, refl, ap, ◌∙◌, arith, append_assoc}
use Rattle.std.specs.Prelude.{◌&&◌, not, ◌==◌}
use Rattle.std.specs.List.{list_all}
use Rattle.std.proofs.lemmas.Bool.{lt-ltb}
use Rattle.std.proofs.lemmas.Bool.Decides.{nat_tests}
use Rattle.std.proofs.lemmas.List.{append-nil, length-append}
use Rattle.am_text.specs.declared.form.Form.{Form}
use Rattle.am_text.specs.declared.form.FormNode.{FormNode}
use Rattle.am_text.specs.declared.form.FormNode.TheVariants as node
use Rattle.am_text.specs.declared.scan.Mode.TheVariants.{Between, Word, Text, Comment}
use Rattle.am_text.specs.Bytes.{is_blank, is_word_byte, is_text_byte, is_line_byte}
use Rattle.am_text.specs.Atoms.{node_spelled}
use Rattle.am_text.specs.Scan.{Held, State, in_mode, with_form, between, list_opened, closed, in_word, in_text, ended_word, step, run}

-- ---- one step
pub step_on : (depth p b : ℕ) (bs : List ℕ) (s t : State) → step depth p b s ≡ Ok t → run depth p (b ∷ bs) s ≡ run depth (p + 1) bs t
unfolding run
step_on depth p b bs s t e = rw e refl

not_blank : (b : ℕ) → is_word_byte b ≡ true → (is_blank b ≡ false) × ((b == 59) ≡ false) × ((b == 40) ≡ false) × ((b == 41) ≡ false) × ((b == 34) ≡ false)
not_blank b h = (grind (arith, nat_tests), grind (arith, nat_tests), grind (arith, nat_tests), grind (arith, nat_tests), grind (arith, nat_tests))

pub word_begins : (depth p b : ℕ) (h : Held) → is_word_byte b ≡ true → step depth p b (in_mode Between h) ≡ Ok (in_mode (Word p (b ∷ [])) h)
unfolding step between
word_begins depth p b h e = let n = not_blank b e in rw (n.0, n.1, n.2, n.3, n.4, e) refl

word_step : (depth p q b : ℕ) (w : List ℕ) (h : Held) → is_word_byte b ≡ true → length w < 48 → step depth p b (in_mode (Word q w) h) ≡ Ok (in_mode (Word q (w ++ b ∷ [])) h)
unfolding step in_word
word_step depth p q b w h e lt = let k : (length w == 48) ≡ false = grind (arith, nat_tests) in rw (e, k) refl

pub both : (a b : Bool) → (a && b) ≡ true → (a ≡ true) × (b ≡ true)
both true b e = (refl, e)
both false b e = absurd cc

pub word_on : (depth p q : ℕ) (bs w rest : List ℕ) (h : Held) → list_all is_word_byte bs ≡ true → length w + length bs ≤ 48 → run depth p (bs ++ rest) (in_mode (Word q w) h) ≡ run depth (p + length bs) rest (in_mode (Word q (w ++ bs)) h)
word_on depth p q [] w rest h e le = rw (append-nil w) (ap (λ (k : ℕ). run depth k rest (in_mode (Word q w) h)) (omega arith))
word_on depth p q (b ∷ bs) w rest h e le =
    let t = both (is_word_byte b) (list_all is_word_byte bs) e in
    let one = step_on depth p b (bs ++ rest) (in_mode (Word q w) h) (in_mode (Word q (w ++ b ∷ [])) h) (word_step depth p q b w h t.0 (omega arith)) in
    let two = word_on depth (p + 1) q bs (w ++ b ∷ []) rest h t.1 (omega (arith, length-append w (b ∷ []))) in
    let three : in_mode (Word q ((w ++ b ∷ []) ++ bs)) h ≡ in_mode (Word q (w ++ b ∷ bs)) h = ap (λ (x : List ℕ). in_mode (Word q x) h) (append_assoc w (b ∷ []) bs) in
    one ∙ two ∙ ap (λ (x : State). run depth (p + 1 + length bs) rest x) three ∙ ap (λ (k : ℕ). run depth k rest (in_mode (Word q (w ++ b ∷ bs)) h)) (omega arith)

pub word_ends : (depth p q b : ℕ) (w rest : List ℕ) (n : FormNode) (h : Held) → is_word_byte b ≡ false → node_spelled w ≡ Some n → run depth p (b ∷ rest) (in_mode (Word q w) h) ≡ run depth p (b ∷ rest) (in_mode Between (with_form q n h))
unfolding run step in_word ended_word
word_ends depth p q b w rest n h e a = rw (e, a) refl

-- ---- a text
text_step : (depth p q b : ℕ) (t : List ℕ) (h : Held) → is_text_byte b ≡ true → length t < 255 → step depth p b (in_mode (Text q t) h) ≡ Ok (in_mode (Text q (t ++ b ∷ [])) h)
unfolding step in_text
text_step depth p q b t h e lt = let k : (length t == 255) ≡ false = grind (arith, nat_tests) in let m : (b == 34) ≡ false = grind (arith, nat_tests) in rw (e, m, k) refl

pub text_on : (depth p q : ℕ) (bs t rest : List ℕ) (h : Held) → list_all is_text_byte bs ≡ true → length t + length bs ≤ 255 → run depth p (bs ++ 34 ∷ rest) (in_mode (Text q t) h) ≡ run depth (p + length bs + 1) rest (in_mode Between (with_form q (node.Text (t ++ bs)) h))
unfolding step in_text
text_on depth p q [] t rest h e le = rw (append-nil t) (step_on depth p 34 rest (in_mode (Text q t) h) (in_mode Between (with_form q (node.Text t) h)) refl ∙ ap (λ (k : ℕ). run depth k rest (in_mode Between (with_form q (node.Text t) h))) (omega arith))
text_on depth p q (b ∷ bs) t rest h e le =
    let g = both (is_text_byte b) (list_all is_text_byte bs) e in
    let one = step_on depth p b (bs ++ 34 ∷ rest) (in_mode (Text q t) h) (in_mode (Text q (t ++ b ∷ [])) h) (text_step depth p q b t h g.0 (omega arith)) in
    let two = text_on depth (p + 1) q bs (t ++ b ∷ []) rest h g.1 (omega (arith, length-append t (b ∷ []))) in
    let three : in_mode Between (with_form q (node.Text ((t ++ b ∷ []) ++ bs)) h) ≡ in_mode Between (with_form q (node.Text (t ++ b ∷ bs)) h) = ap (λ (x : List ℕ). in_mode Between (with_form q (node.Text x) h)) (append_assoc t (b ∷ []) bs) in
    one ∙ two ∙ ap (λ (x : State). run depth (p + 1 + length bs + 1) rest x) three ∙ ap (λ (k : ℕ). run depth k rest (in_mode Between (with_form q (node.Text (t ++ b ∷ bs)) h))) (omega arith)

pub quote_begins : (depth p : ℕ) (h : Held) → step depth p 34 (in_mode Between h) ≡ Ok (in_mode (Text p []) h)
unfolding step between
quote_begins depth p h = refl

-- ---- a blank
pub blank_goes : (depth q b : ℕ) (h : Held) → is_blank b ≡ true → step depth q b (in_mode Between h) ≡ Ok (in_mode Between h)
unfolding step between
blank_goes depth q b h e = rw e refl

-- ---- a comment
pub comment_begins : (depth p : ℕ) (h : Held) → step depth p 59 (in_mode Between h) ≡ Ok (in_mode Comment h)
unfolding step between
comment_begins depth p h = refl

no_line_feed : (b : ℕ) → is_line_byte b ≡ true → (b == 10) ≡ false
no_line_feed b e = flip (b == 10) e
  where
    flip : (t : Bool) → not t ≡ true → t ≡ false
    flip true e = absurd cc
    flip false e = refl

comment_step : (depth q b : ℕ) (h : Held) → is_line_byte b ≡ true → step depth q b (in_mode Comment h) ≡ Ok (in_mode Comment h)
unfolding step
comment_step depth q b h e = rw (no_line_feed b e) refl

pub comment_on : (depth p : ℕ) (text rest : List ℕ) (h : Held) → list_all is_line_byte text ≡ true → run depth p (text ++ rest) (in_mode Comment h) ≡ run depth (p + length text) rest (in_mode Comment h)
comment_on depth p [] rest h e = ap (λ (k : ℕ). run depth k rest (in_mode Comment h)) (omega arith)
comment_on depth p (b ∷ bs) rest h e =
    let g = both (is_line_byte b) (list_all is_line_byte bs) e in
    step_on depth p b (bs ++ rest) (in_mode Comment h) (in_mode Comment h) (comment_step depth p b h g.0)
    ∙ comment_on depth (p + 1) bs rest h g.1
    ∙ ap (λ (k : ℕ). run depth k rest (in_mode Comment h)) (omega arith)

pub comment_ends : (depth p b : ℕ) (rest : List ℕ) (h : Held) → b ≡ 10 → run depth p (b ∷ rest) (in_mode Comment h) ≡ run depth p (b ∷ rest) (in_mode Between h)
unfolding run step between
comment_ends depth p b rest h e = rw e refl

-- ---- a list
abbrev pub inner : ℕ → Held → Held
inner p h = record { outer = record { place = p; before = h.forms } ∷ h.outer; forms = [] }

-- more forms
abbrev pub after : Held → List Form → Held
after h fs = record { outer = h.outer; forms = h.forms ++ fs }

pub opens : (depth p : ℕ) (h : Held) → length h.outer < depth → step depth p 40 (in_mode Between h) ≡ Ok (in_mode Between (inner p h))
unfolding step between list_opened
opens depth p h lt = rw (lt-ltb (length h.outer) depth lt) refl

pub closes : (depth p q : ℕ) (h : Held) (fs : List Form) → step depth q 41 (in_mode Between (after (inner p h) fs)) ≡ Ok (in_mode Between (with_form p (node.List fs) h))
unfolding step between closed
closes depth p q h fs = refl
