-- Where the search is at its end by a row, that row got its fate last.
use Rattle.std.specs.Prelude.{ℕ, Option, Bool, ◌≡◌, Some, None, List, true, false, ◌++◌, ◌∷◌, [], zero, suc, ◌-◌, length, ◌+◌}
use Rattle.std.proofs.Common.{refl, ap, ◌∙◌}
use Rattle.am_clause.specs.declared.row.Row.{Row}
use Rattle.am_search.proofs.Entered.{row_found}
use Rattle.am_search.proofs.Replayed.{at_more}
use Rattle.am_search.specs.Laws.{EndsWithLast, LastLaw}
use Rattle.am_search.specs.Members.{kept_rows, processed, row_at}
use Rattle.am_search.specs.Plain.{kept_or_closed, last_or, dropped_or, rewritten_or, big_or, Judged, fated, prepare, fate_of, when_quiet, begun, start_prepared, next_start, row_judged, Start, at_first, Then, Choose, Infer, rows, judged, choices}
use Rattle.am_search.specs.Rules.{Rules}
use Rattle.am_search.specs.declared.fate.Fate.{Fate}
use Rattle.am_search.specs.declared.fate.Fate.TheVariants.{Last}
use Rattle.am_search.specs.declared.fate.Prepared.{Prepared}
use Rattle.am_simplify.specs.declared.reason.Reason.{Reason}
use Rattle.am_search.specs.declared.fate.Stage.{Stage}
use Rattle.am_search.specs.declared.fate.Stage.TheVariants.{Ended, Quiet, Makes, Closes}

closed_last : (n : ℕ) (o : Option Row) (b : Bool) → (kept_or_closed n o).1 ≡ Ended b → (kept_or_closed n o).0 ≡ Last
closed_last n (Some x) b is = absurd (cc)
closed_last n None b is = absurd (cc)

module _ (c : Rules) (rs : List Row) (ns : List ℕ) where
  last_last : (n : ℕ) (row : Row) (d b : Bool) → (last_or c n row d).1 ≡ Ended b → (last_or c n row d).0 ≡ Last
  last_last n row true b is = refl
  last_last n row false b is = closed_last n (c.close_of n row) b is

  dropped_last : (n : ℕ) (row : Row) (o : Option Reason) (b : Bool) → (dropped_or c n row o).1 ≡ Ended b → (dropped_or c n row o).0 ≡ Last
  dropped_last n row (Some r) b is = absurd (cc)
  dropped_last n row None b is = last_last n row (c.is_last row) b is

  rewritten_last : (fates : List Prepared) (n : ℕ) (row : Row) (o : Option Row) (b : Bool) → (rewritten_or c rs fates n row o).1 ≡ Ended b → (rewritten_or c rs fates n row o).0 ≡ Last
  rewritten_last fates n row (Some x) b is = absurd (cc)
  rewritten_last fates n row None b is = dropped_last n row (c.reason (kept_rows c.axioms rs fates) row) b is

  big_last : (fates : List Prepared) (n : ℕ) (row : Row) (o : Option Reason) (b : Bool) → (big_or c rs ns fates n row o).1 ≡ Ended b → (big_or c rs ns fates n row o).0 ≡ Last
  big_last fates n row (Some r) b is = absurd (cc)
  big_last fates n row None b is = rewritten_last fates n row (c.step_of (processed c.axioms rs ns) n row) b is

  abbrev Ends_so : Judged → Type 0
  Ends_so j = (b : Bool) → j.stage ≡ Ended b → EndsWithLast rs j.fates

  fated_ends : (n : ℕ) (row : Row) (f : Fate × Stage) (j : Judged) → row_at rs n ≡ Some row → ((b : Bool) → f.1 ≡ Ended b → f.0 ≡ Last) → Ends_so (fated n f j)
  fated_ends n row f j at_ last b is = record {
    earlier = j.fates;
    number = n;
    row = row;
    fates_are = ap (λ (x : Fate). j.fates ++ (record { number = n; fate = x }) ∷ []) (last b is);
    stands = at_;
  }

  prepare_ends : (n : ℕ) (o : Option Row) (j : Judged) → ((row : Row) → o ≡ Some row → row_at rs n ≡ Some row) → Ends_so j → Ends_so (prepare c rs ns n o j)
  prepare_ends n None j at_ e = e
  prepare_ends n (Some row) j at_ e = fated_ends n row (fate_of c rs ns j.fates n row) j (at_ row refl) (big_last j.fates n row (c.too_big row))

  when_ends : (s : Stage) (j k : Judged) → Ends_so j → Ends_so k → Ends_so (when_quiet s j k)
  when_ends Quiet j k a b = a
  when_ends (Makes row) j k a b = b
  when_ends (Closes row) j k a b = b
  when_ends (Ended e) j k a b = b

  begun_ends : (left : ℕ) (j : Judged) → Ends_so j → Ends_so (begun c rs ns left j)
  begun_ends zero j e = e
  begun_ends (suc left) j e =
      when_ends j.stage (begun c rs ns left (start_prepared c rs ns left j)) j
      (begun_ends left (start_prepared c rs ns left j) (prepare_ends (next_start c j.left) (row_at rs (next_start c j.left)) (record j { left = left }) (λ row x. x) e)) e

  joined_ends : (n : ℕ) (row : Row) (s : Stage) (j : Judged) → row_at rs n ≡ Some row → Ends_so j → Ends_so (row_judged c rs ns n row s j)
  joined_ends n row Quiet j at_ e = prepare_ends n (Some row) j (λ r x. at_ ∙ x) e
  joined_ends n row (Makes r) j at_ e = prepare_ends n (Some row) j (λ r x. at_ ∙ x) e
  joined_ends n row (Closes r) j at_ e = fated_ends n row (Last, Ended true) j at_ (λ b is. refl)
  joined_ends n row (Ended b) j at_ e = e

ends_more : (rs more : List Row) (fates : List Prepared) → EndsWithLast rs fates → EndsWithLast (rs ++ more) fates
ends_more rs more fates e = record { earlier = e.earlier; number = e.number; row = e.row; fates_are = e.fates_are; stands = at_more rs more e.number e.row e.stands }

pub last_law : LastLaw
last_law c start Start answer is = begun_ends c start [] (c.starting - c.axioms) (at_first c) (λ b e. absurd (cc)) answer is
last_law c start (Then h (Choose n)) answer is = last_law c start h answer is
last_law c start (Then h (Infer row)) answer is =
    let rs : List Row = rows start h ++ row ∷ [] in
    let j : Judged = judged c start h in
    let n : ℕ = length (rows start h) + 1 in
    let k : Judged = row_judged c rs (choices h) n row j.stage j in
    begun_ends c rs (choices h) k.left k
    (joined_ends c rs (choices h) n row j.stage j (row_found (rows start h) row []) (λ b e. ends_more (rows start h) (row ∷ []) j.fates (last_law c start h b e))) answer is
