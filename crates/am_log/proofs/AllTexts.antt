-- What holds of the texts of all logs.
use Rattle.std.proofs.Common.{◌≡◌, ◌+◌, ℕ, Bool, true, false, List, [], ◌∷◌, ◌++◌, refl, sym, ap, ◌∙◌, arith, subst, append_assoc}
use Rattle.std.specs.Prelude.{◌||◌, ◌==◌}
use Rattle.std.specs.List.{list_all}
use Rattle.std.proofs.lemmas.Bool.{and_parts, not-true}
use Rattle.std.proofs.lemmas.Bool.Decides.{nat_tests}
use Rattle.am_clause.specs.declared.row.Row.{Row}
use Rattle.am_clause.specs.declared.row.Log.{Log}
use Rattle.am_theory.specs.declared.theory.Theory.{Theory}
use Rattle.am_diagram.specs.declared.diagram.Diagram.{Diagram}
use Rattle.am_log.specs.Cut.{cut, width, further_lines, piece_lines, wrapped}
use Rattle.am_log.specs.Groups.{is_inside}
use Rattle.am_log.specs.Laws.{OneText, RowsAreCut, LogIsTheProofPart, OneWay}
use Rattle.am_log.specs.Naming.{Names, known_names, named_row}
use Rattle.am_log.specs.Spelled.{row_text}
use Rattle.am_log.specs.Split.{is_c, is_no_c, lines_begin, begin_with_c, begin_without_c, ends_line, no_bytes, starts_with_c, IsSplit}
use Rattle.am_log.specs.Text.{rows_text, log_text}
use Rattle.am_log.proofs.Conditions.{spellable_from, rows_spellable}
use Rattle.am_log.proofs.Distinct.{apart}
use Rattle.am_log.proofs.Lines.{AllInside, cut_inside}
use Rattle.am_log.proofs.Parts.{one_split}
use Rattle.am_log.proofs.Pieces.{the_cut}
use Rattle.am_log.proofs.Spellable.{AreSpellable}
use Rattle.am_log.proofs.Whole.{row_wraps, logs_one}

-- ---- no two logs have one text
pub one_log : OneText
unfolding log_text
one_log = λ t d log other h g v w e. let is = logs_one t d log.rows other.rows (apart t d h g) (rows_spellable t d h g 1 log.rows v) (rows_spellable t d h g 1 other.rows w) e in ap (λ (rs : List Row). let l : Log = record { rows = rs } in l) is

-- ---- the text of a row is cut
pub rows_cut : RowsAreCut
rows_cut = λ t d k r h g w.
    let f = row_wraps (named_row (known_names t d) k r) (spellable_from t d h g k r w).named in
    ((the_cut width (row_text (named_row (known_names t d) k r))).keeps f.whole, f)

-- ---- each line begins with a C
line_on : (p rest : List ℕ) → list_all is_inside p ≡ true → lines_begin is_c false (p ++ 10 ∷ rest) ≡ lines_begin is_c true rest
line_on [] rest h = refl
line_on (b ∷ bs) rest h =
    let s = and_parts (is_inside b) (list_all is_inside bs) h in
    let k : (b == 10) ≡ false = grind (arith, nat_tests, s.0) in
    ap (λ (t : Bool). lines_begin is_c t (bs ++ 10 ∷ rest)) k ∙ line_on bs rest s.1

further_on : (ps : List (List ℕ)) (rest : List ℕ) → AllInside ps → lines_begin is_c true (further_lines ps ++ rest) ≡ lines_begin is_c true rest
further_on [] rest h = refl
further_on (p ∷ ps) rest h =
    let s = and_parts (list_all is_inside p) (list_all (list_all is_inside) ps) h in
    ap (lines_begin is_c false) (append_assoc p (10 ∷ further_lines ps) rest) ∙ line_on p (further_lines ps ++ rest) s.0 ∙ further_on ps rest s.1

pieces_on : (ps : List (List ℕ)) (rest : List ℕ) → AllInside ps → lines_begin is_c true (piece_lines ps ++ rest) ≡ lines_begin is_c true rest
pieces_on [] rest h = refl
pieces_on (p ∷ ps) rest h =
    let s = and_parts (list_all is_inside p) (list_all (list_all is_inside) ps) h in
    ap (lines_begin is_c false) (append_assoc p (10 ∷ further_lines ps) rest) ∙ line_on p (further_lines ps ++ rest) s.0 ∙ further_on ps rest s.1

rows_on : (t : Theory) (d : Diagram) (k : ℕ) (rs : List Row) → AreSpellable t d k rs → begin_with_c (rows_text (known_names t d) k rs) ≡ true
rows_on t d k [] w = refl
rows_on t d k (r ∷ rs) w =
    let f = row_wraps (named_row (known_names t d) k r) w.0.named in
    pieces_on (cut width (row_text (named_row (known_names t d) k r))) (rows_text (known_names t d) (k + 1) rs) (cut_inside width (row_text (named_row (known_names t d) k r)) f.inside) ∙ rows_on t d (k + 1) rs w.1

-- ---- and is ended
ends_append : (start : Bool) (p q : List ℕ) → ends_line start (p ++ q) ≡ ends_line (ends_line start p) q
ends_append start [] q = refl
ends_append start (b ∷ bs) q = ends_append (b == 10) bs q

further_end : (ps : List (List ℕ)) → ends_line true (further_lines ps) ≡ true
further_end [] = refl
further_end (p ∷ ps) = ends_append false p (10 ∷ further_lines ps) ∙ further_end ps

pieces_end : (ps : List (List ℕ)) → ends_line true (piece_lines ps) ≡ true
pieces_end [] = refl
pieces_end (p ∷ ps) = ends_append false p (10 ∷ further_lines ps) ∙ further_end ps

rows_end : (n : Names) (k : ℕ) (rs : List Row) → ends_line true (rows_text n k rs) ≡ true
rows_end n k [] = refl
rows_end n k (r ∷ rs) =
    ends_append true (wrapped (row_text (named_row n k r))) (rows_text n (k + 1) rs)
    ∙ ap (λ (b : Bool). ends_line b (rows_text n (k + 1) rs)) (pieces_end (cut width (row_text (named_row n k r))))
    ∙ rows_end n (k + 1) rs

-- ---- a text of a log in front of a text none of whose lines begins so
or_last : (a b : Bool) → b ≡ true → (a || b) ≡ true
or_last true b e = refl
or_last false b e = e

no_start : (u : List ℕ) → begin_without_c u ≡ true → starts_with_c u ≡ false
no_start [] h = refl
no_start (b ∷ bs) h = not-true (is_c b) (and_parts (is_no_c b) (lines_begin is_no_c (b == 10) bs) h).0

pub log_split : LogIsTheProofPart
unfolding log_text
log_split = λ t d log unit h g w e. record {
  all = refl;
  lines = rows_on t d 1 log.rows (rows_spellable t d h g 1 log.rows w);
  ended = or_last (no_bytes unit) _ (rows_end (known_names t d) 1 log.rows);
  behind = no_start unit e;
}

pub one_way : OneWay
one_way = λ t d log other u v h g l m e f k.
    let first : IsSplit (log_text t d log ++ u) (log_text t d log) u = log_split t d log u h g l e in
    let second : IsSplit (log_text t d log ++ u) (log_text t d other) v = subst (λ (x : List ℕ). IsSplit x (log_text t d other) v) (sym k) (log_split t d other v h g m f) in
    let same = one_split (log_text t d log ++ u) (log_text t d log) u (log_text t d other) v first second in
    (one_log t d log other h g l m same.0, same.1)
