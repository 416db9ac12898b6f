-- Which bytes are the text of which log.
use Rattle.std.proofs.Common.{◌≡◌, ◌<◌, ◌≤◌, ◌+◌, ℕ, Bool, true, false, Option, Some, None, List, [], ◌∷◌, ◌++◌, length, length-append, Result, Ok, Err, refl, sym, ap, ◌∙◌, arith, subst}
use Rattle.std.specs.Prelude.{◌&&◌, ◌==◌, codes, if◌then◌else◌}
use Rattle.std.specs.List.{starts_with}
use Rattle.std.specs.Str.{bytes_eq}
use Rattle.std.proofs.lemmas.Bool.{eqb-true}
use Rattle.std.proofs.lemmas.Bool.Decides.{nat_tests}
use Rattle.std.proofs.lemmas.Slice.Eq.{bytes_eq-Decides}
use Rattle.am_term.specs.declared.id.SortId.{SortId}
use Rattle.std.proofs.lemmas.List.{append-nil}
use Rattle.am_text.specs.Grammar.{Reads, End, height}
use Rattle.am_text.specs.Spelling.{bare}
use Rattle.am_text.proofs.Written.{form_law}
use Rattle.am_text.proofs.Converse.{one_reading_is}
use Rattle.am_log.specs.Guess.{guess_row, guess_text}
use Rattle.am_log.proofs.Again.{row_again}
use Rattle.am_log.proofs.Bare.{row_bare}
use Rattle.am_log.proofs.Writable.{row_writable}
use Rattle.am_clause.specs.declared.row.Row.{Row}
use Rattle.am_theory.specs.declared.theory.Theory.{Theory}
use Rattle.am_diagram.specs.declared.diagram.Diagram.{Diagram}
use Rattle.am_diagram.specs.Listed.{entry_sorts}
use Rattle.am_log.specs.declared.fault.LogKind.{LogKind}
use Rattle.am_log.specs.declared.fault.LogKind.TheVariants.{BadNumber, UnknownName, BadSort}
use Rattle.am_log.specs.declared.named.NamedRow.{NamedRow}
use Rattle.am_log.specs.Cut.{width, cut, pieced_together, further_lines, piece_lines, wrapped}
use Rattle.am_log.specs.Groups.{groups, onto_first, ends_group, Wraps}
use Rattle.am_log.specs.Unwrapped.{unwrapped_text}
use Rattle.am_log.specs.Spelled.{Spells, is_named_row, row_form, row_text, row_depth_limit}
use Rattle.am_log.specs.Naming.{Names, known_names, named_row, has_unknown_row, resolved_row}
use Rattle.am_log.specs.Text.{proof_line, rows_text, is_sorted_row, byte_limit}
use Rattle.am_log.proofs.Spellable.{IsSpellable, AreSpellable}
use Rattle.am_log.specs.Answers.{if_spelled, row_named, row_or_bad, row_in_text, group_row, at, row_before, rows_in, head_fault, rows_behind, log_answer}
use Rattle.am_log.specs.Faults.{lines_in}
use Rattle.am_log.proofs.Tidy.{tidy, tidy_joined, tidy_inside}
use Rattle.am_log.proofs.Neat.{row_neat}
use Rattle.am_log.proofs.Lines.{text_found, text_again, wrapped_group, line_ends}
use Rattle.am_log.proofs.Known.{Apart, row_back, row_ahead}
use Rattle.am_log.proofs.Spelling.{a_row, guess_again, row_spelled}

equal_bytes : (a b : List ℕ) → bytes_eq a b ≡ true → a ≡ b
equal_bytes a b e = grind (arith, bytes_eq-Decides a b)

same_bytes : (a b : List ℕ) → a ≡ b → bytes_eq a b ≡ true
same_bytes a b e = grind (arith, bytes_eq-Decides a b)

-- ---- the groups of bytes are these bytes
onto_joined : (b : ℕ) (gs : List (List ℕ)) → pieced_together (onto_first b gs) ≡ b ∷ pieced_together gs
onto_joined b [] = refl
onto_joined b (g ∷ gs) = refl

joined_step : (t : Bool) (b : ℕ) (gs : List (List ℕ)) (bs : List ℕ) → pieced_together gs ≡ bs → pieced_together (if t then (b ∷ []) ∷ gs else onto_first b gs) ≡ b ∷ bs
joined_step true b gs bs h = ap (λ (z : List ℕ). b ∷ z) h
joined_step false b gs bs h = onto_joined b gs ∙ ap (λ (z : List ℕ). b ∷ z) h

pub groups_joined : (bs : List ℕ) → pieced_together (groups bs) ≡ bs
unfolding groups
groups_joined [] = refl
groups_joined (b ∷ bs) = joined_step (ends_group b bs) b (groups bs) bs (groups_joined bs)

-- ---- no two rows by names have one text
pub one_text : (r q : NamedRow) → is_named_row r ≡ true → is_named_row q ≡ true → row_text r ≡ row_text q → r ≡ q
one_text r q e f h =
    let a = form_law (row_form r) (row_writable r e) 0 in
    let b = form_law (row_form q) (row_writable q f) 0 in
    let first : Reads true 0 (row_text r) (a.0 ∷ []) = subst (λ (x : List ℕ). Reads true 0 x (a.0 ∷ [])) (append-nil (row_text r)) (a.3 true [] [] tt (End true (0 + length (row_text r)))) in
    let second : Reads true 0 (row_text q) (b.0 ∷ []) = subst (λ (x : List ℕ). Reads true 0 x (b.0 ∷ [])) (append-nil (row_text q)) (b.3 true [] [] tt (End true (0 + length (row_text q)))) in
    let both : a.0 ∷ [] ≡ b.0 ∷ [] = one_reading_is (row_text q) (a.0 ∷ []) (b.0 ∷ []) (subst (λ (x : List ℕ). Reads true 0 x (a.0 ∷ [])) h first) second in
    let same : a.0 ≡ b.0 = cc in
    let forms : bare (row_form r) ≡ bare (row_form q) = sym a.1 ∙ ap bare same ∙ b.1 in
    sym (row_again r e) ∙ sym (row_bare (row_form r)) ∙ ap guess_row forms ∙ row_bare (row_form q) ∙ row_again q f

-- ---- the row by names of a text
named_by : (t : List ℕ) (q r : NamedRow) (b : Bool) → a_row q ≡ guess_text t → (is_named_row q && bytes_eq (row_text q) t) ≡ b → (if b then Some q else None) ≡ a_row r → Spells t r
named_by t q r true g e h = let k : q ≡ r = cc in subst (Spells t) k (row_spelled t q g e)
named_by t q r false g e h = absurd cc

named_from : (t : List ℕ) (r : NamedRow) (o : Option NamedRow) → o ≡ guess_text t → if_spelled t o ≡ a_row r → Spells t r
named_from t r None g e = absurd cc
named_from t r (Some q) g e = named_by t q r (is_named_row q && bytes_eq (row_text q) t) g refl e

pub named_found : (t : List ℕ) (r : NamedRow) → row_named t ≡ a_row r → Spells t r
unfolding row_named
named_found t r e = named_from t r (guess_text t) refl e

pub named_again : (t : List ℕ) (r : NamedRow) → length t ≤ byte_limit → Spells t r → row_named t ≡ a_row r
unfolding row_named
named_again t r l s =
    let n = s.named in
    let b : bytes_eq (row_text r) t ≡ true = same_bytes (row_text r) t (sym s.text_is) in
    ap (if_spelled t) (guess_again t r s l) ∙ rw (n, b) refl

-- ---- a row's text is cut into lines and joined again
pub row_wraps : (r : NamedRow) → is_named_row r ≡ true → Wraps (wrapped (row_text r)) (row_text r)
row_wraps r e =
    let t = row_neat r e in
    record { inside = tidy_inside (row_text r) true t; whole = tidy_joined 68 (row_text r) t; lines_are = refl }

tidy_some : (t : List ℕ) → tidy true t ≡ true → 0 < length t
tidy_some [] e = absurd cc
tidy_some (b ∷ bs) e = omega arith

-- ---- one group
abbrev a_good : Row → Result Row LogKind
a_good r = Ok r

module _ (t : Theory) (d : Diagram) where
  abbrev n : Names
  n = known_names t d

  abbrev ins : List SortId
  ins = entry_sorts d.inputs

  good_by : (q r : Row) → q ≡ r → is_sorted_row t.sig ins r ≡ true → (if is_sorted_row t.sig ins q then Ok q else Err BadSort) ≡ a_good r
  good_by q r e h = let z : is_sorted_row t.sig ins q ≡ true = ap (is_sorted_row t.sig ins) e ∙ h in ap (λ (b : Bool). if b then Ok q else Err BadSort) z ∙ ap a_good e

  pub group_again : (k : ℕ) (r : Row) → Apart n → IsSpellable t d k r → length (row_text (named_row n k r)) ≤ byte_limit → group_row n t.sig ins k (wrapped (row_text (named_row n k r))) ≡ a_good r
  unfolding group_row
  group_again k r a w l =
      let text = text_again (wrapped (row_text (named_row n k r))) (row_text (named_row n k r)) (row_wraps (named_row n k r) w.named) in
      let s : Spells (row_text (named_row n k r)) (named_row n k r) = record { named = w.named; low = w.low; text_is = refl } in
      let q = row_ahead t d a k r w.sorted in
      let same : (k == k) ≡ true = grind (arith, nat_tests) in
      ap (row_in_text n t.sig ins k) text
      ∙ ap (row_or_bad n t.sig ins k) (named_again (row_text (named_row n k r)) (named_row n k r) l s)
      ∙ rw (same, q.1) (good_by (resolved_row n (named_row n k r)) r q.0 w.sorted)

  -- the group is the lines of the row of this number
  pub record IsGroupOf (k : ℕ) (g : List ℕ) (r : Row) : Type 0 where
    pub lines_are : g ≡ wrapped (row_text (named_row n k r))
    pub writable : IsSpellable t d k r

  sorted_by : (k : ℕ) (g : List ℕ) (text : List ℕ) (r : NamedRow) (row : Row) (b : Bool) → Wraps g text → Spells text r → r.number ≡ k → has_unknown_row n r ≡ false → is_sorted_row t.sig ins (resolved_row n r) ≡ b → (if b then Ok (resolved_row n r) else Err BadSort) ≡ a_good row → IsGroupOf k g row
  sorted_by k g text r row false w s e u h i = absurd cc
  sorted_by k g text r row true w s e u h i =
      let back : named_row n k (resolved_row n r) ≡ r = ap (λ (j : ℕ). named_row n j (resolved_row n r)) (sym e) ∙ row_back n r s.named u in
      let is : resolved_row n r ≡ row = cc in
      subst (IsGroupOf k g) is (record {
        lines_are = w.lines_are ∙ ap wrapped (s.text_is ∙ ap row_text (sym back));
        writable = record { named = ap is_named_row back ∙ s.named; sorted = h; low = subst (λ (x : NamedRow). height (row_form x) ≤ row_depth_limit) (sym back) s.low };
      })

  known_by : (k : ℕ) (g : List ℕ) (text : List ℕ) (r : NamedRow) (row : Row) (b : Bool) → Wraps g text → Spells text r → r.number ≡ k → has_unknown_row n r ≡ b → (if b then Err UnknownName else (if is_sorted_row t.sig ins (resolved_row n r) then Ok (resolved_row n r) else Err BadSort)) ≡ a_good row → IsGroupOf k g row
  known_by k g text r row true w s e u i = absurd cc
  known_by k g text r row false w s e u i = sorted_by k g text r row (is_sorted_row t.sig ins (resolved_row n r)) w s e u refl i

  numbered_by : (k : ℕ) (g : List ℕ) (text : List ℕ) (r : NamedRow) (row : Row) (b : Bool) → Wraps g text → Spells text r → (r.number == k) ≡ b → (if b then (if has_unknown_row n r then Err UnknownName else (if is_sorted_row t.sig ins (resolved_row n r) then Ok (resolved_row n r) else Err BadSort)) else Err BadNumber) ≡ a_good row → IsGroupOf k g row
  numbered_by k g text r row false w s e i = absurd cc
  numbered_by k g text r row true w s e i = known_by k g text r row (has_unknown_row n r) w s (eqb-true r.number k e) refl i

  row_by : (k : ℕ) (g : List ℕ) (text : List ℕ) (o : Option NamedRow) (row : Row) → Wraps g text → row_named text ≡ o → row_or_bad n t.sig ins k o ≡ a_good row → IsGroupOf k g row
  row_by k g text None row w e i = absurd cc
  row_by k g text (Some r) row w e i = numbered_by k g text r row (r.number == k) w (named_found text r e) refl i

  text_by : (k : ℕ) (g : List ℕ) (o : Option (List ℕ)) (row : Row) → unwrapped_text g ≡ o → row_in_text n t.sig ins k o ≡ a_good row → IsGroupOf k g row
  text_by k g None row e i = absurd cc
  text_by k g (Some text) row e i = row_by k g text (row_named text) row (text_found g text e) refl i

  pub group_found : (k : ℕ) (g : List ℕ) (row : Row) → group_row n t.sig ins k g ≡ a_good row → IsGroupOf k g row
  unfolding group_row
  group_found k g row e = text_by k g (unwrapped_text g) row refl e

  -- ---- all groups
  abbrev some_rows : List Row → Result (List Row) (ℕ × LogKind)
  some_rows rs = Ok rs

  abbrev rows_lines : ℕ → List Row → List (List ℕ)
  rows_lines k [] = []
  rows_lines k (r ∷ rs) = wrapped (row_text (named_row n k r)) ∷ rows_lines (k + 1) rs

  abbrev Short : ℕ → List Row → Type 0
  Short k [] = Unit {0}
  Short k (r ∷ rs) = (length (row_text (named_row n k r)) ≤ byte_limit) × Short (k + 1) rs

  rows_again : (k j : ℕ) (rs : List Row) → Apart n → AreSpellable t d k rs → Short k rs → rows_in n t.sig ins k j (rows_lines k rs) ≡ some_rows rs
  rows_again k j [] a w l = refl
  rows_again k j (r ∷ rs) a w l = rw (group_again k r a w.0 l.0, rows_again (k + 1) (j + lines_in (wrapped (row_text (named_row n k r)))) rs a w.1 l.1) refl

  -- the groups are the lines of these rows
  record AreRows (k : ℕ) (gs : List (List ℕ)) (rs : List Row) : Type 0 where
    pub text : pieced_together gs ≡ rows_text n k rs
    pub writable : AreSpellable t d k rs

  found_more : (k j : ℕ) (g : List ℕ) (gs : List (List ℕ)) (x : Result Row LogKind) (y : Result (List Row) (ℕ × LogKind)) (rs : List Row) → group_row n t.sig ins k g ≡ x → rows_in n t.sig ins (k + 1) (j + lines_in g) gs ≡ y → ((qs : List Row) → rows_in n t.sig ins (k + 1) (j + lines_in g) gs ≡ some_rows qs → AreRows (k + 1) gs qs) → row_before j x y ≡ some_rows rs → AreRows k (g ∷ gs) rs
  found_more k j g gs (Err kind) y rs e f law h = absurd cc
  found_more k j g gs (Ok r) (Err z) rs e f law h = absurd cc
  found_more k j g gs (Ok r) (Ok qs) rs e f law h =
      let p = group_found k g r e in
      let q = law qs f in
      let is : r ∷ qs ≡ rs = cc in
      subst (AreRows k (g ∷ gs)) is (record { text = ap (λ (z : List ℕ). z ++ pieced_together gs) p.lines_are ∙ ap (λ (z : List ℕ). wrapped (row_text (named_row n k r)) ++ z) q.text; writable = (p.writable, q.writable) })

  rows_found : (k j : ℕ) (gs : List (List ℕ)) (rs : List Row) → rows_in n t.sig ins k j gs ≡ some_rows rs → AreRows k gs rs
  rows_found k j [] rs e = let is : [] ≡ rs = cc in subst (AreRows k []) is (record { text = refl; writable = tt })
  rows_found k j (g ∷ gs) rs e = found_more k j g gs (group_row n t.sig ins k g) (rows_in n t.sig ins (k + 1) (j + lines_in g) gs) rs refl refl (λ qs h. rows_found (k + 1) (j + lines_in g) gs qs h) e

  -- ---- the groups of a text
  lead : (t : List ℕ) (rest : List ℕ) → 0 < length t → pieced_together (cut width t) ≡ t → starts_with ◌==◌ (wrapped t ++ rest) (codes "C+") ≡ false
  lead t rest l e = lead_by (cut width t) t rest l e
    where
      lead_by : (ps : List (List ℕ)) (t rest : List ℕ) → 0 < length t → pieced_together ps ≡ t → starts_with ◌==◌ (piece_lines ps ++ rest) (codes "C+") ≡ false
      lead_by [] t rest l e = absurd (let y = ap length e in omega (arith, y, l))
      lead_by (p ∷ ps) t rest l e = refl

  rows_lead : (k : ℕ) (rs : List Row) → AreSpellable t d k rs → starts_with ◌==◌ (rows_text n k rs) (codes "C+") ≡ false
  rows_lead k [] w = refl
  rows_lead k (r ∷ rs) w = let f = row_wraps (named_row n k r) w.0.named in lead (row_text (named_row n k r)) (rows_text n (k + 1) rs) (tidy_some (row_text (named_row n k r)) (row_neat (named_row n k r) w.0.named)) f.whole

  none_groups : groups [] ≡ []
  unfolding groups
  none_groups = refl

  rows_groups : (k : ℕ) (rs : List Row) → AreSpellable t d k rs → groups (rows_text n k rs) ≡ rows_lines k rs
  rows_groups k [] w = none_groups
  rows_groups k (r ∷ rs) w =
      let f = row_wraps (named_row n k r) w.0.named in
      wrapped_group (row_text (named_row n k r)) (rows_text n (k + 1) rs) (tidy_some (row_text (named_row n k r)) (row_neat (named_row n k r) w.0.named)) f.inside f.whole (rows_lead (k + 1) rs w.1)
      ∙ ap (λ (gs : List (List ℕ)). wrapped (row_text (named_row n k r)) ∷ gs) (rows_groups (k + 1) rs w.1)

  abbrev whole_text : List Row → List ℕ
  whole_text rs = proof_line ++ rows_text n 1 rs

  pub text_groups : (rs : List Row) → AreSpellable t d 1 rs → groups (whole_text rs) ≡ proof_line ∷ rows_lines 1 rs
  text_groups rs w = line_ends (codes "C (proof 1)") (rows_text n 1 rs) refl (rows_lead 1 rs w) ∙ ap (λ (gs : List (List ℕ)). proof_line ∷ gs) (rows_groups 1 rs w)

  -- the bytes of a text are answered by its rows
  pub log_again : (bytes : List ℕ) (rs : List Row) → Apart n → AreSpellable t d 1 rs → Short 1 rs → bytes ≡ whole_text rs → log_answer n t.sig ins bytes ≡ some_rows rs
  unfolding log_answer
  log_again bytes rs a w l e = ap (λ (b : List ℕ). rows_behind n t.sig ins (groups b)) e ∙ ap (rows_behind n t.sig ins) (text_groups rs w) ∙ rows_again 1 2 rs a w l

  -- what is answered by rows is their text
  pub record IsText (bytes : List ℕ) (rs : List Row) : Type 0 where
    pub text : bytes ≡ whole_text rs
    pub writable : AreSpellable t d 1 rs

  behind_by : (g : List ℕ) (gs : List (List ℕ)) (rs : List Row) (b : Bool) → bytes_eq g proof_line ≡ b → (if b then rows_in n t.sig ins 1 2 gs else at 1 (head_fault g)) ≡ some_rows rs → (pieced_together (g ∷ gs) ≡ whole_text rs) × AreSpellable t d 1 rs
  behind_by g gs rs false e h = absurd cc
  behind_by g gs rs true e h =
      let r = rows_found 1 2 gs rs h in
      (ap (λ (z : List ℕ). z ++ pieced_together gs) (equal_bytes g proof_line e) ∙ ap (λ (z : List ℕ). proof_line ++ z) r.text, r.writable)

  behind_found : (gs : List (List ℕ)) (rs : List Row) → rows_behind n t.sig ins gs ≡ some_rows rs → (pieced_together gs ≡ whole_text rs) × AreSpellable t d 1 rs
  behind_found [] rs h = absurd cc
  behind_found (g ∷ gs) rs h = behind_by g gs rs (bytes_eq g proof_line) refl h

  pub log_found : (bytes : List ℕ) (rs : List Row) → log_answer n t.sig ins bytes ≡ some_rows rs → IsText bytes rs
  unfolding log_answer
  log_found bytes rs h = let r = behind_found (groups bytes) rs h in record { text = sym (groups_joined bytes) ∙ r.0; writable = r.1 }

  -- ---- no two logs have one text
  wrapped_one : (r q : NamedRow) → is_named_row r ≡ true → is_named_row q ≡ true → wrapped (row_text r) ≡ wrapped (row_text q) → r ≡ q
  wrapped_one r q e f h =
      let a = text_again (wrapped (row_text r)) (row_text r) (row_wraps r e) in
      let b = text_again (wrapped (row_text q)) (row_text q) (row_wraps q f) in
      let c : unwrapped_text (wrapped (row_text r)) ≡ unwrapped_text (wrapped (row_text q)) = ap unwrapped_text h in
      let same : row_text r ≡ row_text q = cc in
      one_text r q e f same

  rows_one : (k : ℕ) (rs qs : List Row) → Apart n → AreSpellable t d k rs → AreSpellable t d k qs → rows_lines k rs ≡ rows_lines k qs → rs ≡ qs
  rows_one k [] [] a v w e = refl
  rows_one k [] (q ∷ qs) a v w e = absurd cc
  rows_one k (r ∷ rs) [] a v w e = absurd cc
  rows_one k (r ∷ rs) (q ∷ qs) a v w e =
      let first : wrapped (row_text (named_row n k r)) ≡ wrapped (row_text (named_row n k q)) = cc in
      let behind : rows_lines (k + 1) rs ≡ rows_lines (k + 1) qs = cc in
      let names : named_row n k r ≡ named_row n k q = wrapped_one (named_row n k r) (named_row n k q) v.0.named w.0.named first in
      let one : r ≡ q = sym (row_ahead t d a k r v.0.sorted).0 ∙ ap (resolved_row n) names ∙ (row_ahead t d a k q w.0.sorted).0 in
      let more : rs ≡ qs = rows_one (k + 1) rs qs a v.1 w.1 behind in
      rw (one, more) refl

  pub logs_one : (rs qs : List Row) → Apart n → AreSpellable t d 1 rs → AreSpellable t d 1 qs → whole_text rs ≡ whole_text qs → rs ≡ qs
  logs_one rs qs a v w e =
      let g : proof_line ∷ rows_lines 1 rs ≡ proof_line ∷ rows_lines 1 qs = sym (text_groups rs v) ∙ ap groups e ∙ text_groups qs w in
      let h : rows_lines 1 rs ≡ rows_lines 1 qs = cc in
      rows_one 1 rs qs a v w h

  -- ---- a text is as long as its rows at least
  further_length : (ps : List (List ℕ)) → length (pieced_together ps) ≤ length (further_lines ps)
  further_length [] = omega arith
  further_length (p ∷ ps) = let h = further_length ps in omega (arith, h, length-append p (pieced_together ps), length-append p (10 ∷ further_lines ps))

  piece_length : (ps : List (List ℕ)) → length (pieced_together ps) ≤ length (piece_lines ps)
  piece_length [] = omega arith
  piece_length (p ∷ ps) = let h = further_length ps in omega (arith, h, length-append p (pieced_together ps), length-append p (10 ∷ further_lines ps))

  rows_short : (k : ℕ) (rs : List Row) → AreSpellable t d k rs → length (rows_text n k rs) ≤ byte_limit → Short k rs
  rows_short k [] w l = tt
  rows_short k (r ∷ rs) w l =
      let f = row_wraps (named_row n k r) w.0.named in
      let g = piece_length (cut width (row_text (named_row n k r))) in
      let e : length (pieced_together (cut width (row_text (named_row n k r)))) ≡ length (row_text (named_row n k r)) = ap length f.whole in
      let s : length (wrapped (row_text (named_row n k r)) ++ rows_text n (k + 1) rs) ≡ length (wrapped (row_text (named_row n k r))) + length (rows_text n (k + 1) rs) = length-append (wrapped (row_text (named_row n k r))) (rows_text n (k + 1) rs) in
      (omega (arith, g, e, s, l), rows_short (k + 1) rs w.1 (omega (arith, s, l)))

  pub text_again_in : (bytes : List ℕ) (rs : List Row) → Apart n → AreSpellable t d 1 rs → length bytes ≤ byte_limit → bytes ≡ whole_text rs → log_answer n t.sig ins bytes ≡ some_rows rs
  text_again_in bytes rs a w l e =
      let s : length (proof_line ++ rows_text n 1 rs) ≡ length proof_line + length (rows_text n 1 rs) = length-append proof_line (rows_text n 1 rs) in
      let z : length bytes ≡ length (proof_line ++ rows_text n 1 rs) = ap length e in
      log_again bytes rs a w (rows_short 1 rs w (omega (arith, s, z, l))) e
