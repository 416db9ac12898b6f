-- What is read is in the grammar, and no higher than the limit.
use Rattle.std.proofs.Common.{◌≡◌, ℕ, ◌+◌, ◌<◌, ◌≤◌, Bool, true, false, cond, List, [], ◌∷◌, ◌++◌, length, Result, Ok, Option, Some, None, refl, sym, ap, subst, ◌∙◌, arith, append_assoc}
use Rattle.std.specs.Prelude.{◌==◌, nat_lt, if◌then◌else◌}
use Rattle.std.proofs.lemmas.List.{append-nil, length-append}
use Rattle.std.specs.List.{list_all}
use Rattle.std.proofs.lemmas.Bool.{eqb-true}
use Rattle.std.proofs.lemmas.Bool.Decides.{nat_tests}
use Rattle.am_text.specs.declared.fault.TextFault.{TextFault}
use Rattle.am_text.specs.declared.form.Form.{Form}
use Rattle.am_text.specs.declared.form.FormNode.{FormNode}
use Rattle.am_text.specs.declared.form.FormNode.TheVariants as node
use Rattle.am_text.specs.declared.scan.Open.{Open}
use Rattle.am_text.specs.declared.scan.Mode.TheVariants.{Between, Word, Text, Comment}
use Rattle.am_text.specs.Bytes.{is_blank, is_word_byte, is_text_byte, is_line_byte}
use Rattle.am_text.specs.Atoms.{node_spelled}
use Rattle.am_text.specs.Answers.{◌>>=◌}
use Rattle.am_text.specs.Scan.{Held, State, in_mode, with_form, between, list_opened as opened_list, closed, in_word, in_text, ended_word, ended_by, step, run, finished, ended, read}
use Rattle.am_text.specs.Grammar.{Reads, End, Blank, Nest, Atom, Quoted, EndsWord, EndsLine, ReadsWithin, form, highest}
use Rattle.am_text.specs.Grammar.{Comment as Remark}
use Rattle.am_text.proofs.Folds.{height-Text, height-List, height-form}
use Rattle.am_text.proofs.AtomKinds.{atom_height}

abbrev ok : {A : Type 0} → A → Result A TextFault
ok x = Ok x

-- what the rest is, where these lists are open and these forms stand before it in the innermost
abbrev pub Rest : ℕ → List Open → List Form → ℕ → List ℕ → List Form → Type 0
Rest depth [] before p bs fs = (gs : List Form) × Reads true p bs gs × (fs ≡ before ++ gs) × (highest gs ≤ depth)
Rest depth (o ∷ outer) before p bs fs = (inner : List ℕ) × (tail : List ℕ) × (gs : List Form) × (bs ≡ inner ++ 41 ∷ tail) × Reads false p inner gs × Rest depth outer (o.before ++ form o.place (node.List (before ++ gs)) ∷ []) (p + length inner + 1) tail fs × (length outer + 1 + highest gs ≤ depth)

-- forms before others are no higher than the higher of both
low_append : (k depth : ℕ) (ms gs : List Form) → k + highest ms ≤ depth → k + highest gs ≤ depth → k + highest (ms ++ gs) ≤ depth
low_append k depth [] gs a b = b
low_append k depth (m ∷ ms) gs a b = let r = low_append k depth ms gs (omega arith) b in omega arith

text_low : (k depth p : ℕ) (t : List ℕ) → k ≤ depth → k + highest (form p (node.Text t) ∷ []) ≤ depth
text_low k depth p t le = rw (height-form p (node.Text t), height-Text t) (omega arith)

atom_low : (k depth p : ℕ) (w : List ℕ) (n : FormNode) → node_spelled w ≡ Some n → k ≤ depth → k + highest (form p n ∷ []) ≤ depth
atom_low k depth p w n a le = rw (height-form p n, atom_height w n a) (omega arith)

list_low : (k depth p : ℕ) (gs : List Form) → k + 1 + highest gs ≤ depth → k + highest (form p (node.List gs) ∷ []) ≤ depth
list_low k depth p gs le = rw (height-form p (node.List gs), height-List gs) (omega arith)

-- a front x of the bytes that makes the forms ms, whatever stands after it that has C
pub record Front (C : Bool → List ℕ → Type 0) (x : List ℕ) (p q : ℕ) (ms : List Form) : Type 0 where
  pub reads : (last : Bool) (bs : List ℕ) (gs : List Form) → C last bs → Reads last q bs gs → Reads last p (x ++ bs) (ms ++ gs)
  pub len : q ≡ p + length x
  pub keeps : (a t : List ℕ) → C true (a ++ 41 ∷ t) → C false a

front_rest : (depth : ℕ) (C : Bool → List ℕ → Type 0) (outer : List Open) (before ms : List Form) (x : List ℕ) (p q : ℕ) (bs : List ℕ) (fs : List Form) → length outer + highest ms ≤ depth → Front C x p q ms → C true bs → Rest depth outer (before ++ ms) q bs fs → Rest depth outer before p (x ++ bs) fs
front_rest depth C [] before ms x p q bs fs low front has r = (ms ++ r.0, front.reads true bs r.0 has r.1, r.2 ∙ append_assoc before ms r.0, subst (λ (k : ℕ). k ≤ depth) (omega arith) (low_append 0 depth ms r.0 (omega arith) (omega (arith, r.3))))
front_rest depth C (o ∷ outer) before ms x p q bs fs low front has r = (
  x ++ r.0,
  r.1,
  ms ++ r.2,
  ap (λ (y : List ℕ). x ++ y) r.3 ∙ sym (append_assoc x r.0 (41 ∷ r.1)),
  front.reads false r.0 r.2 (front.keeps r.0 r.1 (subst (C true) r.3 has)) r.4,
  subst (λ (k : ℕ). Rest depth outer (o.before ++ form o.place (node.List (before ++ (ms ++ r.2))) ∷ []) k r.1 fs) (omega (arith, front.len, length-append x r.0))
      (subst (λ (y : List Form). Rest depth outer (o.before ++ form o.place (node.List y) ∷ []) (q + length r.0 + 1) r.1 fs) (append_assoc before ms r.2) r.5),
  low_append (length outer + 1) depth ms r.2 (omega arith) r.6,
)

abbrev pub Always : Bool → List ℕ → Type 0
Always last bs = Unit {0}

blank_front : (b p : ℕ) → is_blank b ≡ true → Front Always (b ∷ []) p (p + 1) []
blank_front b p e = record { reads = λ l bs gs c r. Blank l p b bs gs e r; len = refl; keeps = λ a t c. tt }

pub nest_front : (p : ℕ) (inner : List ℕ) (gs : List Form) → Reads false (p + 1) inner gs → Front Always (40 ∷ inner ++ 41 ∷ []) p (p + 1 + length inner + 1) (form p (node.List gs) ∷ [])
nest_front p inner gs r = record { reads = λ l bs hs c t. subst (λ (x : List ℕ). Reads l p (40 ∷ x) (form p (node.List gs) ∷ hs)) (sym (append_assoc inner (41 ∷ []) bs)) (Nest l p inner bs gs hs r t); len = omega (arith, length-append inner (41 ∷ [])); keeps = λ a t c. tt }

pub text_front : (p : ℕ) (t : List ℕ) → list_all is_text_byte t ≡ true → length t ≤ 255 → Front Always (34 ∷ t ++ 34 ∷ []) p (p + 1 + length t + 1) (form p (node.Text t) ∷ [])
text_front p t e le = record { reads = λ l bs hs c r. subst (λ (x : List ℕ). Reads l p (34 ∷ x) (form p (node.Text t) ∷ hs)) (sym (append_assoc t (34 ∷ []) bs)) (Quoted l p t bs hs e le r); len = omega (arith, length-append t (34 ∷ [])); keeps = λ a t c. tt }

ends_word_keeps : (a t : List ℕ) → EndsWord (a ++ 41 ∷ t) → EndsWord a
ends_word_keeps [] t c = tt
ends_word_keeps (x ∷ a) t c = c

ends_line_keeps : (a t : List ℕ) → EndsLine true (a ++ 41 ∷ t) → EndsLine false a
ends_line_keeps [] t c = absurd (omega arith)
ends_line_keeps (x ∷ a) t c = c

pub atom_front : (p b : ℕ) (w : List ℕ) (n : FormNode) → is_word_byte b ≡ true → list_all is_word_byte w ≡ true → length w < 48 → node_spelled (b ∷ w) ≡ Some n → Front (λ l. EndsWord) (b ∷ w) p (p + 1 + length w) (form p n ∷ [])
atom_front p b w n e es le a = record { reads = λ l bs gs c r. Atom l p b w bs n gs e es le c a r; len = omega arith; keeps = ends_word_keeps }

line_front : (p : ℕ) (cs : List ℕ) → list_all is_line_byte cs ≡ true → Front EndsLine (59 ∷ cs) p (p + 1 + length cs) []
line_front p cs e = record { reads = λ l bs gs c r. Remark l p cs bs gs e c r; len = omega arith; keeps = ends_line_keeps }

opened : (depth : ℕ) (outer : List Open) (before : List Form) (p : ℕ) (bs : List ℕ) (fs : List Form) → Rest depth (record { place = p; before = before } ∷ outer) [] (p + 1) bs fs → Rest depth outer before p (40 ∷ bs) fs
opened depth outer before p bs fs r =
    let step_back = front_rest depth Always outer before (form p (node.List r.2) ∷ []) (40 ∷ r.0 ++ 41 ∷ []) p (p + 1 + length r.0 + 1) r.1 fs (list_low (length outer) depth p r.2 r.6) (nest_front p r.0 r.2 r.4) tt r.5 in
    subst (λ (x : List ℕ). Rest depth outer before p (40 ∷ x) fs) (append_assoc r.0 (41 ∷ []) r.1 ∙ sym r.3) step_back

shut : (depth : ℕ) (o : Open) (outer : List Open) (before : List Form) (p : ℕ) (bs : List ℕ) (fs : List Form) → length (o ∷ outer) ≤ depth → Rest depth outer (o.before ++ form o.place (node.List before) ∷ []) (p + 1) bs fs → Rest depth (o ∷ outer) before p (41 ∷ bs) fs
shut depth o outer before p bs fs le r = (
  [],
  bs,
  [],
  refl,
  End false p,
  subst (λ (k : ℕ). Rest depth outer (o.before ++ form o.place (node.List (before ++ [])) ∷ []) k bs fs) (omega arith)
      (subst (λ (y : List Form). Rest depth outer (o.before ++ form o.place (node.List y) ∷ []) (p + 1) bs fs) (sym (append-nil before)) r),
  omega arith,
)

-- ---- one byte between forms
by_if : {A : Type 0} (t : Bool) (x y : Result A TextFault) (K : Result A TextFault → Result (List Form) TextFault) (fs : List Form) (G : Type 0) → K (cond t x y) ≡ ok fs → (t ≡ true → K x ≡ ok fs → G) → (t ≡ false → K y ≡ ok fs → G) → G
by_if true x y K fs G e f g = f refl e
by_if false x y K fs G e f g = g refl e

module _ (depth last : ℕ) where
  abbrev then_run : ℕ → List ℕ → Result State TextFault → Result (List Form) TextFault
  then_run p bs r = r >>= run depth p bs >>= finished last

  abbrev Word_rest : ℕ → List ℕ → Held → ℕ → List ℕ → List Form → Type 0
  Word_rest q w h p bs fs = (ws : List ℕ) × (rest : List ℕ) × (n : FormNode) × (bs ≡ ws ++ rest) × (list_all is_word_byte ws ≡ true) × (length w + length ws ≤ 48) × EndsWord rest × (node_spelled (w ++ ws) ≡ Some n) × Rest depth h.outer (h.forms ++ form q n ∷ []) (p + length ws) rest fs

  abbrev Text_rest : ℕ → List ℕ → Held → ℕ → List ℕ → List Form → Type 0
  Text_rest q t h p bs fs = (ts : List ℕ) × (rest : List ℕ) × (bs ≡ ts ++ 34 ∷ rest) × (list_all is_text_byte ts ≡ true) × (length t + length ts ≤ 255) × Rest depth h.outer (h.forms ++ form q (node.Text (t ++ ts)) ∷ []) (p + length ts + 1) rest fs

  abbrev Line_rest : Held → ℕ → List ℕ → List Form → Type 0
  Line_rest h p bs fs = (cs : List ℕ) × (rest : List ℕ) × (bs ≡ cs ++ rest) × (list_all is_line_byte cs ≡ true) × EndsLine true rest × Rest depth h.outer h.forms (p + length cs) rest fs

  pub record Claims (bs : List ℕ) : Type 0 where
    pub plain : (p : ℕ) (h : Held) (fs : List Form) → length h.outer ≤ depth → then_run p bs (Ok (in_mode Between h)) ≡ ok fs → Rest depth h.outer h.forms p bs fs
    pub word : (p q : ℕ) (w : List ℕ) (h : Held) (fs : List Form) → length h.outer ≤ depth → length w ≤ 48 → then_run p bs (Ok (in_mode (Word q w) h)) ≡ ok fs → Word_rest q w h p bs fs
    pub text : (p q : ℕ) (t : List ℕ) (h : Held) (fs : List Form) → length h.outer ≤ depth → length t ≤ 255 → then_run p bs (Ok (in_mode (Text q t) h)) ≡ ok fs → Text_rest q t h p bs fs
    pub line : (p : ℕ) (h : Held) (fs : List Form) → length h.outer ≤ depth → then_run p bs (Ok (in_mode Comment h)) ≡ ok fs → Line_rest h p bs fs

  closed_more : (outer : List Open) (before : List Form) (p : ℕ) (bs : List ℕ) (fs : List Form) → length outer ≤ depth → Claims bs → then_run (p + 1) bs (closed p (record { outer = outer; forms = before })) ≡ ok fs → Rest depth outer before p (41 ∷ bs) fs
  unfolding closed
  closed_more [] before p bs fs low claims e = absurd cc
  closed_more (o ∷ outer) before p bs fs low claims e = shut depth o outer before p bs fs low (claims.plain (p + 1) (record { outer = outer; forms = o.before ++ form o.place (node.List before) ∷ [] }) fs (omega arith) e)

  -- a byte at p between forms, where the claims hold of the bytes after it
  between_more : (p b : ℕ) (bs : List ℕ) (h : Held) (fs : List Form) → length h.outer ≤ depth → Claims bs → then_run (p + 1) bs (between depth p b h) ≡ ok fs → Rest depth h.outer h.forms p (b ∷ bs) fs
  unfolding between opened_list
  between_more p b bs h fs low claims e =
      by_if (is_blank b) _ _ (then_run (p + 1) bs) fs (Rest depth h.outer h.forms p (b ∷ bs) fs) e
      (λ t k. front_rest depth Always h.outer h.forms [] (b ∷ []) p (p + 1) bs fs (omega arith) (blank_front b p t) tt (rw (append-nil h.forms) (claims.plain (p + 1) h fs low k)))
      (λ _ e1. by_if (b == 59) _ _ (then_run (p + 1) bs) fs (Rest depth h.outer h.forms p (b ∷ bs) fs) e1
      (λ t k. let r = claims.line (p + 1) h fs low k in
      subst (λ (x : ℕ). Rest depth h.outer h.forms p (x ∷ bs) fs) (sym (eqb-true b 59 t))
      (subst (λ (x : List ℕ). Rest depth h.outer h.forms p (59 ∷ x) fs) (sym r.2)
      (front_rest depth EndsLine h.outer h.forms [] (59 ∷ r.0) p (p + 1 + length r.0) r.1 fs (omega arith) (line_front p r.0 r.3) r.4 (rw (append-nil h.forms) r.5))))
      (λ _ e2. by_if (b == 40) _ _ (then_run (p + 1) bs) fs (Rest depth h.outer h.forms p (b ∷ bs) fs) e2
      (λ t k. by_if (nat_lt (length h.outer) depth) _ _ (then_run (p + 1) bs) fs (Rest depth h.outer h.forms p (b ∷ bs) fs) k
      (λ lt k2. let under : length h.outer < depth = grind (arith, nat_tests) in
      subst (λ (x : ℕ). Rest depth h.outer h.forms p (x ∷ bs) fs) (sym (eqb-true b 40 t)) (opened depth h.outer h.forms p bs fs (claims.plain (p + 1) (record { outer = record { place = p; before = h.forms } ∷ h.outer; forms = [] }) fs (omega arith) k2)))
      (λ _ k2. absurd cc))
      (λ _ e3. by_if (b == 41) _ _ (then_run (p + 1) bs) fs (Rest depth h.outer h.forms p (b ∷ bs) fs) e3
      (λ t k. subst (λ (x : ℕ). Rest depth h.outer h.forms p (x ∷ bs) fs) (sym (eqb-true b 41 t)) (closed_more h.outer h.forms p bs fs low claims k))
      (λ _ e4. by_if (b == 34) _ _ (then_run (p + 1) bs) fs (Rest depth h.outer h.forms p (b ∷ bs) fs) e4
      (λ t k. let r = claims.text (p + 1) p [] h fs low (omega arith) k in
      subst (λ (x : ℕ). Rest depth h.outer h.forms p (x ∷ bs) fs) (sym (eqb-true b 34 t))
      (subst (λ (x : List ℕ). Rest depth h.outer h.forms p (34 ∷ x) fs) (append_assoc r.0 (34 ∷ []) r.1 ∙ sym r.2)
      (front_rest depth Always h.outer h.forms (form p (node.Text r.0) ∷ []) (34 ∷ r.0 ++ 34 ∷ []) p (p + 1 + length r.0 + 1) r.1 fs (text_low (length h.outer) depth p r.0 low) (text_front p r.0 r.3 (omega (arith, r.4))) tt r.5)))
      (λ _ e5. by_if (is_word_byte b) _ _ (then_run (p + 1) bs) fs (Rest depth h.outer h.forms p (b ∷ bs) fs) e5
      (λ t k. let r = claims.word (p + 1) p (b ∷ []) h fs low (omega arith) k in
      subst (λ (x : List ℕ). Rest depth h.outer h.forms p (b ∷ x) fs) (sym r.3)
      (front_rest depth (λ l. EndsWord) h.outer h.forms (form p r.2 ∷ []) (b ∷ r.0) p (p + 1 + length r.0) r.1 fs (atom_low (length h.outer) depth p (b ∷ r.0) r.2 r.7 low) (atom_front p b r.0 r.2 t r.4 (omega (arith, r.5)) r.7) r.6 r.8))
      (λ _ k. absurd cc))))))

  ended_more : (o : Option FormNode) (q p b : ℕ) (w bs : List ℕ) (h : Held) (fs : List Form) → length h.outer ≤ depth → Claims bs → is_word_byte b ≡ false → length w ≤ 48 → node_spelled w ≡ o → then_run (p + 1) bs (ended_by q o h >>= between depth p b) ≡ ok fs → Word_rest q w h p (b ∷ bs) fs
  ended_more None q p b w bs h fs low claims other le a e = absurd cc
  ended_more (Some n) q p b w bs h fs low claims other le a e = (
    [],
    b ∷ bs,
    n,
    refl,
    refl,
    omega arith,
    other,
    rw (append-nil w) a,
    subst (λ (k : ℕ). Rest depth h.outer (h.forms ++ form q n ∷ []) k (b ∷ bs) fs) (omega arith) (between_more p b bs (with_form q n h) fs low claims e),
  )

  -- one more byte of a word, of a text
  longer_word : (p q b : ℕ) (w bs : List ℕ) (h : Held) (fs : List Form) → is_word_byte b ≡ true → Word_rest q (w ++ b ∷ []) h (p + 1) bs fs → Word_rest q w h p (b ∷ bs) fs
  longer_word p q b w bs h fs t r = (
    b ∷ r.0,
    r.1,
    r.2,
    ap (λ (x : List ℕ). b ∷ x) r.3,
    rw (t, r.4) refl,
    omega (arith, r.5, length-append w (b ∷ [])),
    r.6,
    ap node_spelled (sym (append_assoc w (b ∷ []) r.0)) ∙ r.7,
    subst (λ (k : ℕ). Rest depth h.outer (h.forms ++ form q r.2 ∷ []) k r.1 fs) (omega arith) r.8,
  )

  longer_text : (p q b : ℕ) (t bs : List ℕ) (h : Held) (fs : List Form) → is_text_byte b ≡ true → Text_rest q (t ++ b ∷ []) h (p + 1) bs fs → Text_rest q t h p (b ∷ bs) fs
  longer_text p q b t bs h fs g r = (
    b ∷ r.0,
    r.1,
    ap (λ (x : List ℕ). b ∷ x) r.2,
    rw (g, r.3) refl,
    omega (arith, r.4, length-append t (b ∷ [])),
    subst (λ (x : List ℕ). Rest depth h.outer (h.forms ++ form q (node.Text x) ∷ []) (p + length (b ∷ r.0) + 1) r.1 fs) (append_assoc t (b ∷ []) r.0)
        (subst (λ (j : ℕ). Rest depth h.outer (h.forms ++ form q (node.Text ((t ++ b ∷ []) ++ r.0)) ∷ []) j r.1 fs) (omega arith) r.5),
  )

  word_more : (p q b : ℕ) (w bs : List ℕ) (h : Held) (fs : List Form) → length h.outer ≤ depth → Claims bs → length w ≤ 48 → then_run (p + 1) bs (in_word depth q w p b h) ≡ ok fs → Word_rest q w h p (b ∷ bs) fs
  unfolding in_word ended_word
  word_more p q b w bs h fs low claims le e =
      by_if (is_word_byte b) _ _ (then_run (p + 1) bs) fs (Word_rest q w h p (b ∷ bs) fs) e
      (λ t k. by_if (length w == 48) _ _ (then_run (p + 1) bs) fs (Word_rest q w h p (b ∷ bs) fs) k
      (λ _ k2. absurd cc)
      (λ f k2. let short : length w < 48 = grind (arith, nat_tests) in
      longer_word p q b w bs h fs t (claims.word (p + 1) q (w ++ b ∷ []) h fs low (omega (arith, length-append w (b ∷ []))) k2)))
      (λ f k. ended_more (node_spelled w) q p b w bs h fs low claims f le refl k)

  text_more : (p q b : ℕ) (t bs : List ℕ) (h : Held) (fs : List Form) → length h.outer ≤ depth → Claims bs → length t ≤ 255 → then_run (p + 1) bs (in_text q t p b h) ≡ ok fs → Text_rest q t h p (b ∷ bs) fs
  unfolding in_text
  text_more p q b t bs h fs low claims le e =
      by_if (b == 34) _ _ (then_run (p + 1) bs) fs (Text_rest q t h p (b ∷ bs) fs) e
      (λ g k. (
        [],
        bs,
        ap (λ (x : ℕ). x ∷ bs) (eqb-true b 34 g),
        refl,
        omega arith,
        subst (λ (x : List ℕ). Rest depth h.outer (h.forms ++ form q (node.Text x) ∷ []) (p + 0 + 1) bs fs) (sym (append-nil t))
            (subst (λ (j : ℕ). Rest depth h.outer (h.forms ++ form q (node.Text t) ∷ []) j bs fs) (omega arith) (claims.plain (p + 1) (with_form q (node.Text t) h) fs low k)),
      ))
      (λ _ e1. by_if (is_text_byte b) _ _ (then_run (p + 1) bs) fs (Text_rest q t h p (b ∷ bs) fs) e1
      (λ g k. by_if (length t == 255) _ _ (then_run (p + 1) bs) fs (Text_rest q t h p (b ∷ bs) fs) k
      (λ _ k2. absurd cc)
      (λ f k2. let short : length t < 255 = grind (arith, nat_tests) in
      longer_text p q b t bs h fs g (claims.text (p + 1) q (t ++ b ∷ []) h fs low (omega (arith, length-append t (b ∷ []))) k2)))
      (λ _ k. absurd cc))

  line_by : (x : Bool) (p b : ℕ) (bs : List ℕ) (h : Held) (fs : List Form) → length h.outer ≤ depth → (b == 10) ≡ x → Claims bs → then_run (p + 1) bs (Ok (in_mode (if x then Between else Comment) h)) ≡ ok fs → Line_rest h p (b ∷ bs) fs
  line_by true p b bs h fs low t claims e = (
    [],
    b ∷ bs,
    refl,
    refl,
    eqb-true b 10 t,
    subst (λ (j : ℕ). Rest depth h.outer h.forms j (b ∷ bs) fs) (omega arith) (front_rest depth Always h.outer h.forms [] (b ∷ []) p (p + 1) bs fs (omega arith) (blank_front b p (is_newline b t)) tt (rw (append-nil h.forms) (claims.plain (p + 1) h fs low e))),
  )
    where
      is_newline : (b : ℕ) → (b == 10) ≡ true → is_blank b ≡ true
      is_newline b t = rw (eqb-true b 10 t) refl
  line_by false p b bs h fs low t claims e =
      let r = claims.line (p + 1) h fs low e in
      (b ∷ r.0, r.1, ap (λ (x : List ℕ). b ∷ x) r.2, rw (t, r.3) refl, r.4, subst (λ (j : ℕ). Rest depth h.outer h.forms j r.1 fs) (omega arith) r.5)

  claims_more : (b : ℕ) (bs : List ℕ) → Claims bs → Claims (b ∷ bs)
  unfolding run step
  claims_more b bs claims = record {
    plain = λ p h fs low e. between_more p b bs h fs low claims e;
    word = λ p q w h fs low le e. word_more p q b w bs h fs low claims le e;
    text = λ p q t h fs low le e. text_more p q b t bs h fs low claims le e;
    line = λ p h fs low e. line_by (b == 10) p b bs h fs low refl claims e;
  }

  end_plain : (outer : List Open) (before : List Form) (p : ℕ) (fs : List Form) → length outer ≤ depth → ended last (record { outer = outer; forms = before }) ≡ ok fs → Rest depth outer before p [] fs
  end_plain [] before p fs low e = ([], End true p, sym (same before fs e) ∙ sym (append-nil before), omega arith)
    where
      same : (x y : List Form) → ok x ≡ ok y → x ≡ y
      same x y e = cc
  end_plain (o ∷ outer) before p fs low e = absurd (let k : (length (o ∷ outer) == 0) ≡ false = grind (arith, nat_tests) in let f = rw k at e in cc)

  end_word : (o : Option FormNode) (p q : ℕ) (w : List ℕ) (h : Held) (fs : List Form) → length h.outer ≤ depth → length w ≤ 48 → node_spelled w ≡ o → (ended_by q o h >>= ended last) ≡ ok fs → Word_rest q w h p [] fs
  end_word None p q w h fs low le a e = absurd cc
  end_word (Some n) p q w h fs low le a e = ([], [], n, refl, refl, omega arith, tt, rw (append-nil w) a, end_plain h.outer (h.forms ++ form q n ∷ []) (p + 0) fs low e)

  claims_none : Claims []
  unfolding run finished ended_word
  claims_none = record {
    plain = λ p h fs low e. end_plain h.outer h.forms p fs low e;
    word = λ p q w h fs low le e. end_word (node_spelled w) p q w h fs low le refl e;
    text = λ p q t h fs low le e. absurd cc;
    line = λ p h fs low e. ([], [], refl, refl, tt, end_plain h.outer h.forms (p + 0) fs low e);
  }

  pub claims_all : (bs : List ℕ) → Claims bs
  claims_all [] = claims_none
  claims_all (b ∷ bs) = claims_more b bs (claims_all bs)

pub read_found : (limit depth : ℕ) (bytes : List ℕ) (fs : List Form) → read limit depth bytes ≡ ok fs → ReadsWithin limit depth bytes fs
unfolding read
read_found limit depth bytes fs e =
    by_if (nat_lt limit (length bytes)) _ _ (λ (r : Result (List Form) TextFault). r) fs (ReadsWithin limit depth bytes fs) e
    (λ _ k. absurd cc)
    (λ f k. let r = (claims_all depth (length bytes) bytes).plain 0 (record { outer = []; forms = [] }) fs (omega arith) k in
    (subst (Reads true 0 bytes) (sym r.2) r.1, subst (λ (gs : List Form). highest gs ≤ depth) (sym r.2) r.3, grind (arith, nat_tests)))
