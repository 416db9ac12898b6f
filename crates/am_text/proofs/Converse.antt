-- What is in the grammar, no deeper than the limit and no longer, is read.
use Rattle.std.proofs.Common.{◌≡◌, ℕ, ◌+◌, ◌≤◌, Bool, true, false, max, List, [], ◌∷◌, ◌++◌, length, Result, Ok, Err, Some, refl, sym, ap, subst, ◌∙◌, arith, append_assoc}
use Rattle.std.proofs.lemmas.Bool.{le-ltb}
use Rattle.std.proofs.lemmas.List.{append-nil, length-append}
use Rattle.am_text.specs.declared.fault.TextFault.{TextFault}
use Rattle.am_text.specs.declared.form.Form.{Form}
use Rattle.am_text.specs.declared.form.FormNode.{FormNode}
use Rattle.am_text.specs.declared.form.FormNode.TheVariants as node
use Rattle.am_text.specs.declared.scan.Mode.TheVariants.{Between, Word, Text, Comment}
use Rattle.am_text.specs.Atoms.{node_spelled}
use Rattle.am_text.specs.Answers.{◌>>=◌}
use Rattle.am_text.specs.Scan.{Held, State, in_mode, with_form, ended_word, step, run, finished, start, read}
use Rattle.am_text.specs.Grammar.{Reads, End, Blank, Nest, Atom, Quoted, EndsWord, EndsLine, ReadsWithin, form, height, highest}
use Rattle.am_text.specs.Grammar.{Comment as Remark}
use Rattle.am_text.proofs.Folds.{height-List, height-form}
use Rattle.am_text.proofs.Runs.{step_on, word_begins, word_on, word_ends, quote_begins, text_on, blank_goes, comment_begins, comment_on, comment_ends, inner, after, opens, closes}

-- what stands behind the forms: nothing where the text ends there, else the end of the list around them
abbrev Follows : Bool → List ℕ → Type 0
Follows true cs = cs ≡ []
Follows false cs = (tail : List ℕ) × (cs ≡ 41 ∷ tail)

abbrev forms_read : List Form → Result (List Form) TextFault
forms_read fs = Ok fs

-- a word may end before what stands behind the forms behind it
ends_word_before : (last : Bool) (bs cs : List ℕ) → EndsWord bs → Follows last cs → EndsWord (bs ++ cs)
ends_word_before last (b ∷ bs) cs e f = e
ends_word_before true [] cs e f = subst EndsWord (sym f) tt
ends_word_before false [] cs e f = subst EndsWord (sym f.1) refl

module _ (depth total : ℕ) where
  abbrev to_end : ℕ → List ℕ → State → Result (List Form) TextFault
  to_end p bs s = run depth p bs s >>= finished total

  finish_run : (r t : Result State TextFault) → r ≡ t → (r >>= finished total) ≡ (t >>= finished total)
  finish_run r t e = ap (λ (x : Result State TextFault). x >>= finished total) e

  place_is : (p q : ℕ) (bs : List ℕ) (s : State) → p ≡ q → to_end p bs s ≡ to_end q bs s
  place_is p q bs s e = ap (λ (k : ℕ). to_end k bs s) e

  bytes_are : (p : ℕ) (bs cs : List ℕ) (s : State) → bs ≡ cs → to_end p bs s ≡ to_end p cs s
  bytes_are p bs cs s e = ap (λ (x : List ℕ). to_end p x s) e

  forms_are : (p : ℕ) (bs : List ℕ) (h : Held) (fs gs : List Form) → fs ≡ gs → to_end p bs (in_mode Between (record { outer = h.outer; forms = fs })) ≡ to_end p bs (in_mode Between (record { outer = h.outer; forms = gs }))
  forms_are p bs h fs gs e = ap (λ (x : List Form). to_end p bs (in_mode Between (record { outer = h.outer; forms = x }))) e

  one : (p b : ℕ) (bs : List ℕ) (s t : State) → step depth p b s ≡ Ok t → to_end p (b ∷ bs) s ≡ to_end (p + 1) bs t
  one p b bs s t e = finish_run (run depth p (b ∷ bs) s) (run depth (p + 1) bs t) (step_on depth p b bs s t e)

  -- the end of a word, before what may stand behind it
  word_over : (p q : ℕ) (w bs : List ℕ) (n : FormNode) (h : Held) → EndsWord bs → node_spelled w ≡ Some n → to_end p bs (in_mode (Word q w) h) ≡ to_end p bs (in_mode Between (with_form q n h))
  unfolding run finished ended_word
  word_over p q w [] n h e a = rw a refl
  word_over p q w (b ∷ bs) n h e a = finish_run (run depth p (b ∷ bs) (in_mode (Word q w) h)) (run depth p (b ∷ bs) (in_mode Between (with_form q n h))) (word_ends depth p q b w bs n h e a)

  -- the end of a comment
  line_at_end : (p : ℕ) (h : Held) → to_end p [] (in_mode Comment h) ≡ to_end p [] (in_mode Between h)
  unfolding run finished
  line_at_end p h = refl

  line_over : (last : Bool) (p : ℕ) (bs cs : List ℕ) (h : Held) → EndsLine last bs → Follows last cs → to_end p (bs ++ cs) (in_mode Comment h) ≡ to_end p (bs ++ cs) (in_mode Between h)
  line_over last p (b ∷ bs) cs h e f = finish_run (run depth p (b ∷ bs ++ cs) (in_mode Comment h)) (run depth p (b ∷ bs ++ cs) (in_mode Between h)) (comment_ends depth p b (bs ++ cs) h e)
  line_over true p [] cs h e f = subst (λ (x : List ℕ). to_end p x (in_mode Comment h) ≡ to_end p x (in_mode Between h)) (sym f) (line_at_end p h)
  line_over false p [] cs h e f = absurd e

  -- forms, read with these lists open, before what may stand behind them
  again : (last : Bool) (p : ℕ) (bs : List ℕ) (fs : List Form) (r : Reads last p bs fs) (h : Held) (cs : List ℕ) → Follows last cs → length h.outer + highest fs ≤ depth → to_end p (bs ++ cs) (in_mode Between h) ≡ to_end (p + length bs) cs (in_mode Between (after h fs))
  again last p bs fs (End last' p') h cs f low =
      place_is p (p + 0) cs (in_mode Between h) (omega arith) ∙ forms_are (p + 0) cs h h.forms (h.forms ++ []) (sym (append-nil h.forms))
  again last p bs fs (Blank last' p' b bs' fs' e r) h cs f low =
      one p b (bs' ++ cs) (in_mode Between h) (in_mode Between h) (blank_goes depth p b h e)
      ∙ again last (p + 1) bs' fs r h cs f low
      ∙ place_is (p + 1 + length bs') (p + length (b ∷ bs')) cs (in_mode Between (after h fs)) (omega arith)
  again last p bs fs (Remark last' p' text bs' fs' e ends r) h cs f low =
      let q = p + 1 + length text in
      bytes_are p ((59 ∷ text ++ bs') ++ cs) (59 ∷ text ++ (bs' ++ cs)) (in_mode Between h) (ap (λ (x : List ℕ). 59 ∷ x) (append_assoc text bs' cs))
      ∙ one p 59 (text ++ (bs' ++ cs)) (in_mode Between h) (in_mode Comment h) (comment_begins depth p h)
      ∙ finish_run (run depth (p + 1) (text ++ (bs' ++ cs)) (in_mode Comment h)) (run depth q (bs' ++ cs) (in_mode Comment h)) (comment_on depth (p + 1) text (bs' ++ cs) h e)
      ∙ line_over last q bs' cs h ends f
      ∙ again last q bs' fs r h cs f low
      ∙ place_is (q + length bs') (p + length (59 ∷ text ++ bs')) cs (in_mode Between (after h fs)) (omega (arith, length-append text bs'))
  again last p bs fs (Nest last' p' bs' cs' fs' gs' r t) h cs f low =
      let n = node.List fs' in
      let q = p + 1 + length bs' in
      let high : height (form p n) ≡ 1 + highest fs' = height-form p n ∙ height-List fs' in
      bytes_are p ((40 ∷ bs' ++ 41 ∷ cs') ++ cs) (40 ∷ bs' ++ 41 ∷ (cs' ++ cs)) (in_mode Between h) (ap (λ (x : List ℕ). 40 ∷ x) (append_assoc bs' (41 ∷ cs') cs))
      ∙ one p 40 (bs' ++ 41 ∷ (cs' ++ cs)) (in_mode Between h) (in_mode Between (inner p h)) (opens depth p h (omega (arith, high)))
      ∙ again false (p + 1) bs' fs' r (inner p h) (41 ∷ (cs' ++ cs)) (cs' ++ cs, refl) (omega (arith, high))
      ∙ one q 41 (cs' ++ cs) (in_mode Between (after (inner p h) fs')) (in_mode Between (with_form p n h)) (closes depth p q h fs')
      ∙ again last (q + 1) cs' gs' t (with_form p n h) cs f (omega arith)
      ∙ forms_are (q + 1 + length cs') cs h ((h.forms ++ form p n ∷ []) ++ gs') (h.forms ++ form p n ∷ gs') (append_assoc h.forms (form p n ∷ []) gs')
      ∙ place_is (q + 1 + length cs') (p + length (40 ∷ bs' ++ 41 ∷ cs')) cs (in_mode Between (after h fs)) (omega (arith, length-append bs' (41 ∷ cs')))
  again last p bs fs (Atom last' p' b w bs' n fs' e es lt ends a r) h cs f low =
      let q = p + 1 + length w in
      bytes_are p ((b ∷ w ++ bs') ++ cs) (b ∷ w ++ (bs' ++ cs)) (in_mode Between h) (ap (λ (x : List ℕ). b ∷ x) (append_assoc w bs' cs))
      ∙ one p b (w ++ (bs' ++ cs)) (in_mode Between h) (in_mode (Word p (b ∷ [])) h) (word_begins depth p b h e)
      ∙ finish_run (run depth (p + 1) (w ++ (bs' ++ cs)) (in_mode (Word p (b ∷ [])) h)) (run depth q (bs' ++ cs) (in_mode (Word p (b ∷ w)) h)) (word_on depth (p + 1) p w (b ∷ []) (bs' ++ cs) h es (omega arith))
      ∙ word_over q p (b ∷ w) (bs' ++ cs) n h (ends_word_before last bs' cs ends f) a
      ∙ again last q bs' fs' r (with_form p n h) cs f (omega arith)
      ∙ forms_are (q + length bs') cs h ((h.forms ++ form p n ∷ []) ++ fs') (h.forms ++ form p n ∷ fs') (append_assoc h.forms (form p n ∷ []) fs')
      ∙ place_is (q + length bs') (p + length (b ∷ w ++ bs')) cs (in_mode Between (after h fs)) (omega (arith, length-append w bs'))
  again last p bs fs (Quoted last' p' t bs' fs' e le r) h cs f low =
      let n = node.Text t in
      let q = p + 1 + length t + 1 in
      bytes_are p ((34 ∷ t ++ 34 ∷ bs') ++ cs) (34 ∷ t ++ 34 ∷ (bs' ++ cs)) (in_mode Between h) (ap (λ (x : List ℕ). 34 ∷ x) (append_assoc t (34 ∷ bs') cs))
      ∙ one p 34 (t ++ 34 ∷ (bs' ++ cs)) (in_mode Between h) (in_mode (Text p []) h) (quote_begins depth p h)
      ∙ finish_run (run depth (p + 1) (t ++ 34 ∷ (bs' ++ cs)) (in_mode (Text p []) h)) (run depth q (bs' ++ cs) (in_mode Between (with_form p n h))) (text_on depth (p + 1) p t [] (bs' ++ cs) h e (omega arith))
      ∙ again last q bs' fs' r (with_form p n h) cs f (omega arith)
      ∙ forms_are (q + length bs') cs h ((h.forms ++ form p n ∷ []) ++ fs') (h.forms ++ form p n ∷ fs') (append_assoc h.forms (form p n ∷ []) fs')
      ∙ place_is (q + length bs') (p + length (34 ∷ t ++ 34 ∷ bs')) cs (in_mode Between (after h fs)) (omega (arith, length-append t (34 ∷ bs')))

  all_read : (p : ℕ) (fs : List Form) → to_end p [] (in_mode Between (record { outer = []; forms = fs })) ≡ forms_read fs
  unfolding run finished
  all_read p fs = refl

pub read_again : (limit depth : ℕ) (bytes : List ℕ) (fs : List Form) → ReadsWithin limit depth bytes fs → read limit depth bytes ≡ forms_read fs
unfolding read
read_again limit depth bytes fs r =
    let whole = again depth (length bytes) true 0 bytes fs r.0 (record { outer = []; forms = [] }) [] refl (omega (arith, r.1)) in
    rw (le-ltb limit (length bytes) r.2)
    (bytes_are depth (length bytes) 0 bytes (bytes ++ []) start (sym (append-nil bytes)) ∙ whole ∙ all_read depth (length bytes) (0 + length bytes) fs)

-- a fault comes only where there is no reading
pub fault_means_none : (limit depth : ℕ) (bytes : List ℕ) (f : TextFault) (fs : List Form) → read limit depth bytes ≡ Err f → ReadsWithin limit depth bytes fs → ⊥
fault_means_none limit depth bytes f fs e r = absurd (let k : forms_read fs ≡ Err f = sym (read_again limit depth bytes fs r) ∙ e in cc)

-- no bytes have two readings
pub one_reading_is : (bytes : List ℕ) (fs gs : List Form) → Reads true 0 bytes fs → Reads true 0 bytes gs → fs ≡ gs
one_reading_is bytes fs gs r t =
    let one = read_again (length bytes) (max (highest fs) (highest gs)) bytes fs (r, omega arith, omega arith) in
    let two = read_again (length bytes) (max (highest fs) (highest gs)) bytes gs (t, omega arith, omega arith) in
    same (sym one ∙ two)
  where
    same : forms_read fs ≡ forms_read gs → fs ≡ gs
    same e = cc
