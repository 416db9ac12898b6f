-- A sort that is known has a place, and the name at that place is its name.
use Rattle.std.proofs.Common.{◌≡◌, ◌∙◌, ℕ, true, false, Option, Some, None, List, [], ◌∷◌, refl, sym, ap, true≢false}
use Rattle.std.specs.Prelude.{is_some}
use Rattle.std.specs.List.{list_any}
use Rattle.std.proofs.lemmas.Option.{get_or_from_slice_get}
use Rattle.am_term.specs.NameLists.{is_among}
use Rattle.am_term.proofs.Tests.{false_not}
use Rattle.am_syntax.specs.Positions.{position_of}
use Rattle.am_syntax.proofs.Among.{none_left, none_right}
use Rattle.am_theory.specs.Contents.{Contents, id_of, sort_number, sort_numbers}
use Rattle.am_theory.specs.Faults.{is_unknown_sort}
use Rattle.am_canon.specs.CanonicalText.{sort_name, sort_names}
use Rattle.am_syntax.proofs.Positions.{position_among, position_there}

pub record IsPlaced (w : List ℕ) (ws : List (List ℕ)) : Type 0 where
  pub place : ℕ
  pub found : position_of w ws ≡ Some place

module _ (w : List ℕ) (ws : List (List ℕ)) where
  placed_by : (o : Option ℕ) → position_of w ws ≡ o → is_some o ≡ true → IsPlaced w ws
  placed_by None p e = absurd (true≢false (sym e))
  placed_by (Some k) p e = record { place = k; found = p }

  pub placed_among : is_among w ws ≡ true → IsPlaced w ws
  placed_among e = placed_by (position_of w ws) refl (position_among w ws ∙ e)

module _ (c : Contents) where
  pub placed : (w : List ℕ) → is_unknown_sort c w ≡ false → IsPlaced w c.sorts
  placed w e = placed_among w c.sorts (false_not (is_among w c.sorts) e)

  name-back_at : (w : List ℕ) (p : IsPlaced w c.sorts) → sort_name c (sort_number c w) ≡ w
  name-back_at w p =
      ap (λ o. sort_name c (id_of o)) p.found
      ∙ get_or_from_slice_get c.sorts p.place w [] (position_there w c.sorts p.place p.found)

  -- the name of the sort of a name
  pub name-back : (w : List ℕ) → is_unknown_sort c w ≡ false → sort_name c (sort_number c w) ≡ w
  name-back w e = name-back_at w (placed w e)

  pub names-back : (ws : List (List ℕ)) → list_any (is_unknown_sort c) ws ≡ false → sort_names c (sort_numbers c ws) ≡ ws
  names-back [] e = refl
  names-back (w ∷ ws) e =
      ap (λ x. x ∷ sort_names c (sort_numbers c ws)) (name-back w (none_left (is_unknown_sort c w) (list_any (is_unknown_sort c) ws) e))
      ∙ ap (λ xs. w ∷ xs) (names-back ws (none_right (is_unknown_sort c w) (list_any (is_unknown_sort c) ws) e))
