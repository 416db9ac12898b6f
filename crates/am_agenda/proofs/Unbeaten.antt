-- What is picked is the best.
use Rattle.std.specs.Prelude.{◌≢◌, ◌≡◌, Bool, true, false, ℕ, List, [], ◌∷◌, ◌++◌, ◌+◌, length, Some, slice_get, if◌then◌else◌}
use Rattle.std.proofs.lemmas.Bool.Decides.{nat_tests}
use Rattle.std.proofs.lemmas.List.{append-nil}
use Rattle.std.specs.List.{AllByRecursion}
use Rattle.std.proofs.Common.{refl, arith, ap, sym, subst, ◌∙◌, append_assoc}
use Rattle.am_agenda.specs.Picks.{best_from, best_place, is_lighter, is_older}
use Rattle.am_agenda.specs.Laws.{IsBest, PicksAreBest}
use Rattle.am_agenda.specs.declared.wait_row.WaitRow.{WaitRow}

-- none is better than itself; and who isn't better than one is not better than one that is better still
pub record IsOrder (is_better : WaitRow → WaitRow → Bool) : Type 0 where
  pub itself : (r : WaitRow) → is_better r r ≡ false
  pub still : (r s b : WaitRow) → is_better s b ≡ false → is_better r b ≡ true → is_better s r ≡ false

stays_unbeaten : (is_better : WaitRow → WaitRow → Bool) → IsOrder is_better → (r b : WaitRow) → is_better r b ≡ true → (rs : List WaitRow)
    → AllByRecursion (λ s. is_better s b ≡ false) rs → AllByRecursion (λ s. is_better s r ≡ false) rs
stays_unbeaten is_better o r b better [] all = all
stays_unbeaten is_better o r b better (s ∷ rs) all = (o.still r s b all.0 better, stays_unbeaten is_better o r b better rs all.1)

one_more : (P : WaitRow → Type 0) (rs : List WaitRow) (r : WaitRow) → AllByRecursion P rs → P r → AllByRecursion P (rs ++ r ∷ [])
one_more P [] r all this = (this, all)
one_more P (s ∷ rs) r all this = (all.0, one_more P rs r all.1 this)

at_end : (rs : List WaitRow) (r : WaitRow) (more : List WaitRow) → slice_get (rs ++ r ∷ more) (length rs) ≡ Some r
at_end [] r more = refl
at_end (s ∷ rs) r more = at_end rs r more

length_more : (rs : List WaitRow) (r : WaitRow) → length (rs ++ r ∷ []) ≡ length rs + 1
length_more [] r = refl
length_more (s ∷ rs) r = let h = length_more rs r in omega arith

module _ (is_better : WaitRow → WaitRow → Bool) (o : IsOrder is_better) where
  -- with the rows before, of which the best stands at a place
  mutual_step : (b : Bool) (before : List WaitRow) (place : ℕ) (best r : WaitRow) (rs : List WaitRow) → is_better r best ≡ b
      → ((before : List WaitRow) (place at : ℕ) (best : WaitRow) → at ≡ length before → slice_get (before ++ rs) place ≡ Some best → AllByRecursion (λ s. is_better s best ≡ false) before → IsBest is_better (before ++ rs) (best_from is_better place best at rs))
      → slice_get (before ++ r ∷ rs) place ≡ Some best → AllByRecursion (λ s. is_better s best ≡ false) before
      → IsBest is_better (before ++ r ∷ rs) (if b then best_from is_better (length before) r (length before + 1) rs else best_from is_better place best (length before + 1) rs)
  mutual_step true before place best r rs is more there all =
      subst (λ xs. IsBest is_better xs (best_from is_better (length before) r (length before + 1) rs)) (append_assoc before (r ∷ []) rs)
      (more (before ++ r ∷ []) (length before) (length before + 1) r (sym (length_more before r)) (ap (λ xs. slice_get xs (length before)) (append_assoc before (r ∷ []) rs) ∙ at_end before r rs)
      (one_more (λ s. is_better s r ≡ false) before r (stays_unbeaten is_better o r best is before all) (o.itself r)))
  mutual_step false before place best r rs is more there all =
      subst (λ xs. IsBest is_better xs (best_from is_better place best (length before + 1) rs)) (append_assoc before (r ∷ []) rs)
      (more (before ++ r ∷ []) place (length before + 1) best (sym (length_more before r)) (ap (λ xs. slice_get xs place) (append_assoc before (r ∷ []) rs) ∙ there)
      (one_more (λ s. is_better s best ≡ false) before r all is))

  best_after : (rs before : List WaitRow) (place at : ℕ) (best : WaitRow) → at ≡ length before → slice_get (before ++ rs) place ≡ Some best
      → AllByRecursion (λ s. is_better s best ≡ false) before → IsBest is_better (before ++ rs) (best_from is_better place best at rs)
  best_after [] before place at best is there all = record { row = best; there = there; unbeaten = subst (λ xs. AllByRecursion (λ s. is_better s best ≡ false) xs) (sym (append-nil before)) all }
  best_after (r ∷ rs) before place at best is there all =
      subst (λ n. IsBest is_better (before ++ r ∷ rs) (if is_better r best then best_from is_better n r (n + 1) rs else best_from is_better place best (n + 1) rs)) (sym is)
      (mutual_step (is_better r best) before place best r rs refl (best_after rs) there all)

  pub best_is_best : (list : List WaitRow) → list ≢ [] → IsBest is_better list (best_place is_better list)
  best_is_best [] some = absurd (some refl)
  best_is_best (r ∷ rs) some = best_after rs (r ∷ []) 0 1 r refl refl (o.itself r, tt)

pub lighter_order : IsOrder is_lighter
lighter_order = record {
  itself = λ r. grind (arith, nat_tests);
  still = λ r s b first second. grind (arith, nat_tests);
}

pub older_order : IsOrder is_older
older_order = record {
  itself = λ r. grind (arith, nat_tests);
  still = λ r s b first second. grind (arith, nat_tests);
}

pub picks_are_best : PicksAreBest
picks_are_best list some = record {
  lightest = best_is_best is_lighter lighter_order list some;
  oldest = best_is_best is_older older_order list some;
}
