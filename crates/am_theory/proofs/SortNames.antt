-- The sorts that declared names stand for.
use Rattle.std.proofs.Common.{◌≡◌, ◌∙◌, ◌<◌, ℕ, true, false, Option, Some, None, List, [], ◌∷◌, length, refl, sym, ap, slice_get, true≢false}
use Rattle.std.specs.Prelude.{is_some, is_none}
use Rattle.std.specs.List.{AllByRecursion, list_any}
use Rattle.am_term.specs.NameLists.{is_among}
use Rattle.am_term.proofs.Tests.{false_not}
use Rattle.am_syntax.specs.Positions.{position_of}
use Rattle.am_syntax.proofs.Among.{none_left, none_right}
use Rattle.am_syntax.proofs.Positions.{position_below, position_among}
use Rattle.am_theory.specs.Lookups.{known}
use Rattle.am_theory.specs.Contents.{Contents, id_of, sort_number, of_sort, rep_named, copy_named, sort_numbers}
use Rattle.am_theory.specs.Faults.{is_unknown_sort, is_abstract}
use Rattle.am_theory.proofs.Sound.{IsSortOf, IsConcreteIn, sort_rep, sort_copy}

pub some_not_none : {A : Type 0} (o : Option A) → is_none o ≡ false → is_some o ≡ true
some_not_none None e = absurd (true≢false e)
some_not_none (Some x) e = refl

module _ (c : Contents) where
  number_by : (w : List ℕ) (o : Option ℕ) → position_of w c.sorts ≡ o → is_some o ≡ true → (id_of o).0 < length c.sorts
  number_by w None e h = absurd cc
  number_by w (Some k) e h = position_below w c.sorts k e

  found : (w : List ℕ) → is_unknown_sort c w ≡ false → is_some (position_of w c.sorts) ≡ true
  found w e = position_among w c.sorts ∙ false_not (is_among w c.sorts) e

  pub sort-there : (w : List ℕ) → is_unknown_sort c w ≡ false → IsSortOf (length c.sorts) (sort_number c w)
  sort-there w e = number_by w (position_of w c.sorts) refl (found w e)

  of_by : {A : Type 0} (xs : List (Option A)) (o : Option ℕ) → is_some o ≡ true → of_sort xs o ≡ known (slice_get xs (id_of o).0)
  of_by xs None h = absurd cc
  of_by xs (Some k) h = refl

  pub rep-there : (w : List ℕ) → is_unknown_sort c w ≡ false → rep_named c w ≡ sort_rep c.reps (sort_number c w)
  rep-there w e = of_by c.reps (position_of w c.sorts) (found w e)

  pub copy-there : (w : List ℕ) → is_unknown_sort c w ≡ false → copy_named c w ≡ sort_copy c.copies (sort_number c w)
  copy-there w e = of_by c.copies (position_of w c.sorts) (found w e)

  pub concrete-there : (w : List ℕ) → is_unknown_sort c w ≡ false → is_abstract c w ≡ false → IsConcreteIn c.reps (sort_number c w)
  concrete-there w e f = ap is_some (sym (rep-there w e)) ∙ some_not_none (rep_named c w) f

  pub sorts-there : (ws : List (List ℕ)) → list_any (is_unknown_sort c) ws ≡ false → AllByRecursion (IsSortOf (length c.sorts)) (sort_numbers c ws)
  sorts-there [] e = tt
  sorts-there (w ∷ ws) e = (sort-there w (none_left (is_unknown_sort c w) (list_any (is_unknown_sort c) ws) e), sorts-there ws (none_right (is_unknown_sort c w) (list_any (is_unknown_sort c) ws) e))

  pub concretes-there : (ws : List (List ℕ)) → list_any (is_unknown_sort c) ws ≡ false → list_any (is_abstract c) ws ≡ false → AllByRecursion (IsConcreteIn c.reps) (sort_numbers c ws)
  concretes-there [] e f = tt
  concretes-there (w ∷ ws) e f = (
    concrete-there w (none_left (is_unknown_sort c w) (list_any (is_unknown_sort c) ws) e) (none_left (is_abstract c w) (list_any (is_abstract c) ws) f),
    concretes-there ws (none_right (is_unknown_sort c w) (list_any (is_unknown_sort c) ws) e) (none_right (is_abstract c w) (list_any (is_abstract c) ws) f),
  )
