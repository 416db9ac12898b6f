-- The entries of a search: one for each inference, with its rule and its row's fate.
use Rattle.std.specs.Prelude.{ℕ, List, nat_lt, ◌≡◌, false, ◌++◌, ◌∷◌, [], Bool, true, Option, None, Some, ◌≤◌, suc, ◌-◌, ◌+◌, zero, length, slice_get, option_map, if◌then◌else◌}
use Rattle.std.proofs.Common.{◌∙◌, ap, append-nil, refl, arith, append_assoc, sym}
use Rattle.std.proofs.lemmas.Bool.Decides.{nat_tests}
use Rattle.std.proofs.lemmas.List.{length-append}
use Rattle.std.proofs.lemmas.List.Elements.{filter-append, filter_map-append}
use Rattle.std.specs.List.{filter, filter_map, cons_option}
use Rattle.am_clause.specs.declared.row.Row.{Row}
use Rattle.am_search.proofs.Partners.{row_at-after}
use Rattle.am_search.specs.Laws.{fate_then, entries_made, EntriesLaw}
use Rattle.am_search.specs.Members.{row_at}
use Rattle.am_search.specs.Plain.{is_inferred, Judged, prepare, fate_of, when_quiet, begun, start_prepared, next_start, row_judged, due_at, Infers, due, settled, History, judged, Start, at_first, Then, Choose, Infer, rows, choices, entry_of, EachIsDue, wait_list, rest}
use Rattle.am_search.specs.Rules.{Rules}
use Rattle.am_agenda.specs.declared.wait_row.WaitRow.{WaitRow}
use Rattle.am_search.specs.declared.fate.Fate.TheVariants.{Last}
use Rattle.am_search.specs.declared.fate.Prepared.{Prepared}
use Rattle.am_search.specs.declared.fate.Stage.{Stage}
use Rattle.am_search.specs.declared.fate.Stage.TheVariants.{Quiet, Makes, Closes, Ended}

abbrev late : ℕ → List Prepared → List Prepared
late starting fates = filter (is_inferred starting) fates

-- a fate more, of a starting row or of an inferred one
kept_out : (starting : ℕ) (fates : List Prepared) (p : Prepared) → nat_lt starting p.number ≡ false → late starting (fates ++ p ∷ []) ≡ late starting fates
kept_out starting fates p isnt =
    filter-append (is_inferred starting) fates (p ∷ []) ∙ ap (λ (b : Bool). late starting fates ++ (if b then p ∷ [] else [])) isnt ∙ append-nil (late starting fates)

let_in : (starting : ℕ) (fates : List Prepared) (p : Prepared) → nat_lt starting p.number ≡ true → late starting (fates ++ p ∷ []) ≡ late starting fates ++ p ∷ []
let_in starting fates p is = filter-append (is_inferred starting) fates (p ∷ []) ∙ ap (λ (b : Bool). late starting fates ++ (if b then p ∷ [] else [])) is

module _ (c : Rules) (rs : List Row) (ns : List ℕ) where
  prepare_same : (n : ℕ) (o : Option Row) (j : Judged) → nat_lt c.starting n ≡ false → late c.starting (prepare c rs ns n o j).fates ≡ late c.starting j.fates
  prepare_same n None j isnt = refl
  prepare_same n (Some row) j isnt = kept_out c.starting j.fates (record { number = n; fate = (fate_of c rs ns j.fates n row).0 }) isnt

  pub prepare_left : (n : ℕ) (o : Option Row) (j : Judged) → (prepare c rs ns n o j).left ≡ j.left
  prepare_left n None j = refl
  prepare_left n (Some row) j = refl

  when_late : (s : Stage) (j k : Judged) (fs : List Prepared) → late c.starting j.fates ≡ fs → late c.starting k.fates ≡ fs → late c.starting (when_quiet s j k).fates ≡ fs
  when_late Quiet j k fs a b = a
  when_late (Makes row) j k fs a b = b
  when_late (Closes row) j k fs a b = b
  when_late (Ended e) j k fs a b = b

  when_left : (s : Stage) (j k : Judged) (most : ℕ) → j.left ≤ most → k.left ≤ most → (when_quiet s j k).left ≤ most
  when_left Quiet j k most a b = a
  when_left (Makes row) j k most a b = b
  when_left (Closes row) j k most a b = b
  when_left (Ended e) j k most a b = b

  early : (n left : ℕ) → n ≡ suc left → suc left ≤ c.starting → nat_lt c.starting ((c.starting - n) + 1) ≡ false
  early n left is few = grind (arith, nat_tests)

  -- what is prepared of the goal and the givens enters nothing
  begun_same : (left : ℕ) (j : Judged) → left ≤ c.starting → j.left ≡ left → late c.starting (begun c rs ns left j).fates ≡ late c.starting j.fates
  begun_same zero j few is = refl
  begun_same (suc left) j few is =
      when_late j.stage (begun c rs ns left (start_prepared c rs ns left j)) j (late c.starting j.fates)
      (begun_same left (start_prepared c rs ns left j) (omega arith) (prepare_left (next_start c j.left) (row_at rs (next_start c j.left)) (record j { left = left }))
      ∙ prepare_same (next_start c j.left) (row_at rs (next_start c j.left)) (record j { left = left }) (early j.left left is few))
      refl

  begun_left : (left : ℕ) (j : Judged) → j.left ≡ left → (begun c rs ns left j).left ≤ left
  begun_left zero j is = omega arith
  begun_left (suc left) j is =
      let less : (begun c rs ns left (start_prepared c rs ns left j)).left ≤ left =
      begun_left left (start_prepared c rs ns left j) (prepare_left (next_start c j.left) (row_at rs (next_start c j.left)) (record j { left = left })) in
      when_left j.stage (begun c rs ns left (start_prepared c rs ns left j)) j (suc left) (omega arith) (omega arith)

  joined_left : (n : ℕ) (row : Row) (s : Stage) (j : Judged) → (row_judged c rs ns n row s j).left ≡ j.left
  joined_left n row Quiet j = refl
  joined_left n row (Makes r) j = refl
  joined_left n row (Closes r) j = refl
  joined_left n row (Ended b) j = refl

  joined_late : (n : ℕ) (row : Row) (s : Stage) (j : Judged) (waits : List WaitRow) (left_rows : List Row) → due_at waits left_rows s ≡ Infers row → nat_lt c.starting n ≡ true
      → late c.starting (row_judged c rs ns n row s j).fates ≡ late c.starting j.fates ++ (record { number = n; fate = fate_then c rs ns n row s j }) ∷ []
  joined_late n row Quiet j waits left_rows due is = let_in c.starting j.fates (record { number = n; fate = (fate_of c rs ns j.fates n row).0 }) is
  joined_late n row (Makes r) j waits left_rows due is = let_in c.starting j.fates (record { number = n; fate = (fate_of c rs ns j.fates n row).0 }) is
  joined_late n row (Closes r) j waits left_rows due is = let_in c.starting j.fates (record { number = n; fate = Last }) is
  joined_late n row (Ended b) j waits left_rows due is = absurd (cc)

  settled_late : (n : ℕ) (row : Row) (j : Judged) (waits : List WaitRow) (left_rows : List Row) → due_at waits left_rows j.stage ≡ Infers row → nat_lt c.starting n ≡ true → j.left ≤ c.starting
      → late c.starting (settled c rs ns n row j).fates ≡ late c.starting j.fates ++ (record { number = n; fate = fate_then c rs ns n row j.stage j }) ∷ []
  settled_late n row j waits left_rows due is few =
      let same : (row_judged c rs ns n row j.stage j).left ≡ j.left = joined_left n row j.stage j in
      let less : (row_judged c rs ns n row j.stage j).left ≤ c.starting = omega arith in
      begun_same (row_judged c rs ns n row j.stage j).left (row_judged c rs ns n row j.stage j) less refl ∙ joined_late n row j.stage j waits left_rows due is

  settled_left : (n : ℕ) (row : Row) (j : Judged) (most : ℕ) → j.left ≤ most → (settled c rs ns n row j).left ≤ most
  settled_left n row j most few =
      let same : (row_judged c rs ns n row j.stage j).left ≡ j.left = joined_left n row j.stage j in
      let less : (settled c rs ns n row j).left ≤ (row_judged c rs ns n row j.stage j).left = begun_left (row_judged c rs ns n row j.stage j).left (row_judged c rs ns n row j.stage j) refl in
      omega arith

left_few : (c : Rules) (start : List Row) (h : History) → (judged c start h).left ≤ c.starting
left_few c start Start =
    let less : (judged c start Start).left ≤ c.starting - c.axioms = begun_left c start [] (c.starting - c.axioms) (at_first c) refl in omega arith
left_few c start (Then h (Choose n)) = left_few c start h
left_few c start (Then h (Infer row)) = settled_left c (rows start h ++ row ∷ []) (choices h) (length (rows start h) + 1) row (judged c start h) c.starting (left_few c start h)

-- the row that was put behind others
row_behind : (rs : List Row) (row : Row) (more : List Row) → slice_get (rs ++ row ∷ more) (length rs) ≡ Some row
row_behind [] row more = refl
row_behind (r ∷ rs) row more = row_behind rs row more

pub row_found : (rs : List Row) (row : Row) (more : List Row) → row_at (rs ++ row ∷ more) (length rs + 1) ≡ Some row
row_found rs row more = row_at-after (rs ++ row ∷ more) (length rs) ∙ row_behind rs row more

entered : (rs : List Row) (p : Prepared) (row : Row) → row_at rs p.number ≡ Some row → filter_map (entry_of rs) (p ∷ []) ≡ (record { rule = row.rule; fate = p.fate }) ∷ []
entered rs p row is = ap (λ (o : Option Row). cons_option (option_map (λ (r : Row). record { rule = r.rule; fate = p.fate }) o) []) is

rows_many : (start : List Row) (h : History) → length start ≤ length (rows start h)
rows_many start Start = omega arith
rows_many start (Then h (Choose n)) = rows_many start h
rows_many start (Then h (Infer row)) =
    let less : length start ≤ length (rows start h) = rows_many start h in
    let more : length (rows start h ++ row ∷ []) ≡ length (rows start h) + 1 = length-append (rows start h) (row ∷ []) in
    omega arith

-- more rows don't change an entry
entries_with : (c : Rules) (start : List Row) (h : History) → c.starting ≡ length start → EachIsDue c start h
    → (more : List Row) → filter_map (entry_of (rows start h ++ more)) (late c.starting (judged c start h).fates) ≡ entries_made c start h
entries_with c start Start is f more = ap (filter_map (entry_of (start ++ more))) (begun_same c start [] (c.starting - c.axioms) (at_first c) (omega arith) refl)
entries_with c start (Then h (Choose n)) is f more = entries_with c start h is f.1 more
entries_with c start (Then h (Infer row)) is f more =
    let rs : List Row = rows start h in
    let n : ℕ = length rs + 1 in
    let many : length start ≤ length rs = rows_many start h in
    let less : nat_lt c.starting n ≡ true = grind (arith, nat_tests) in
    let p : Prepared = record { number = n; fate = fate_then c (rs ++ row ∷ []) (choices h) n row (judged c start h).stage (judged c start h) } in
    ap (filter_map (entry_of ((rs ++ row ∷ []) ++ more)))
    (settled_late c (rs ++ row ∷ []) (choices h) n row (judged c start h) (wait_list c start h) (rest c start h) f.0 less (left_few c start h))
    ∙ ap (λ (xs : List Row). filter_map (entry_of xs) (late c.starting (judged c start h).fates ++ p ∷ [])) (append_assoc rs (row ∷ []) more)
    ∙ filter_map-append (entry_of (rs ++ row ∷ more)) (late c.starting (judged c start h).fates) (p ∷ [])
    ∙ ap (λ es. es ++ filter_map (entry_of (rs ++ row ∷ more)) (p ∷ [])) (entries_with c start h is f.1 (row ∷ more))
    ∙ ap (λ es. entries_made c start h ++ es) (entered (rs ++ row ∷ more) p row (row_found rs row more))

pub entries_law : EntriesLaw
entries_law c start h is f = ap (λ (xs : List Row). filter_map (entry_of xs) (late c.starting (judged c start h).fates)) (sym (append-nil (rows start h))) ∙ entries_with c start h is f []
