-- One more sort: the sorts that were known stand for what they stood for.
use Rattle.std.proofs.Common.{◌≡◌, ◌∙◌, ◌<◌, ◌&&◌, ℕ, true, false, Option, Some, None, List, [], ◌∷◌, ◌++◌, length, refl, sym, ap, true≢false}
use Rattle.std.specs.Prelude.{slice_get, is_none}
use Rattle.std.specs.List.{list_any}
use Rattle.std.proofs.lemmas.List.Folds.{list_any-append}
use Rattle.am_term.specs.declared.id.SortId.{SortId}
use Rattle.am_term.specs.NameLists.{is_among}
use Rattle.am_term.proofs.Older.{akin-older}
use Rattle.am_term.proofs.Tests.{false_not, or_left, not_true}
use Rattle.am_syntax.specs.Positions.{position_of}
use Rattle.am_syntax.proofs.Among.{none_left, none_right}
use Rattle.am_theory.specs.declared.theory.Rep.{Rep}
use Rattle.am_theory.specs.declared.theory.LitValue.{LitValue}
use Rattle.am_theory.specs.declared.theory.LitValue.TheVariants as value
use Rattle.am_theory.specs.declared.theory.LiteralDecl.{LiteralDecl}
use Rattle.am_theory.specs.Lookups.{known}
use Rattle.am_theory.specs.Contents.{Contents, id_of, sort_number, sort_numbers, of_sort, rep_named, with_sort}
use Rattle.am_theory.specs.Faults.{is_unknown_sort, is_abstract, suits, is_returnable, same_value, is_akin_to, sort_of_symbol, is_literal_of}
use Rattle.am_syntax.proofs.Positions.{position_kept}
use Rattle.am_theory.proofs.Appends.{get-left}
use Rattle.am_theory.proofs.Sound.{HasResultOf, Sound}
use Rattle.am_canon.proofs.Joined.{any-same, none-also}
use Rattle.am_canon.proofs.KnownSorts.{IsPlaced, placed}
use Rattle.am_canon.proofs.SoundSorts.{number-there, result-there}

-- a literal's value suits no abstract sort, and a FORTRAN function returns none
pub suited_concrete : (v : LitValue) (o : Option Rep) → suits v o ≡ true → is_none o ≡ false
suited_concrete (value.Int z) None e = absurd (true≢false (sym e))
suited_concrete (value.Text t) None e = absurd (true≢false (sym e))
suited_concrete v (Some r) e = refl

pub returned_concrete : (o : Option Rep) → is_returnable o ≡ true → is_none o ≡ false
returned_concrete None e = absurd (true≢false (sym e))
returned_concrete (Some r) e = refl

module _ (c : Contents) (n : List ℕ) (parent : Option SortId) (r : Option Rep) (copy : Option (List ℕ)) where
  abbrev pub wide : Contents
  wide = with_sort c n parent r copy

  -- ---- names of sorts
  pub sort-known : (w : List ℕ) → is_unknown_sort c w ≡ false → is_unknown_sort wide w ≡ false
  sort-known w e = not_true (is_among w (c.sorts ++ n ∷ [])) (list_any-append _ c.sorts (n ∷ []) ∙ or_left (is_among w c.sorts) (is_among w (n ∷ [])) (false_not (is_among w c.sorts) e))

  pub sorts-known : (ws : List (List ℕ)) → list_any (is_unknown_sort c) ws ≡ false → list_any (is_unknown_sort wide) ws ≡ false
  sorts-known = none-also (is_unknown_sort c) (is_unknown_sort wide) sort-known

  number-kept_at : (w : List ℕ) → IsPlaced w c.sorts → sort_number wide w ≡ sort_number c w
  number-kept_at w p = ap id_of (position_kept w c.sorts (n ∷ []) p.place p.found ∙ sym p.found)

  pub number-kept : (w : List ℕ) → is_unknown_sort c w ≡ false → sort_number wide w ≡ sort_number c w
  number-kept w e = number-kept_at w (placed c w e)

  pub numbers-kept : (ws : List (List ℕ)) → list_any (is_unknown_sort c) ws ≡ false → sort_numbers wide ws ≡ sort_numbers c ws
  numbers-kept [] e = refl
  numbers-kept (w ∷ ws) e =
      ap (λ s. s ∷ sort_numbers wide ws) (number-kept w (none_left (is_unknown_sort c w) (list_any (is_unknown_sort c) ws) e))
      ∙ ap (λ ss. sort_number c w ∷ ss) (numbers-kept ws (none_right (is_unknown_sort c w) (list_any (is_unknown_sort c) ws) e))

  -- ---- representations
  rep-there : (k : ℕ) (o : Option (Option Rep)) → slice_get c.reps k ≡ o → is_none (known o) ≡ false → known (slice_get (c.reps ++ r ∷ []) k) ≡ known o
  rep-there k None p e = absurd (true≢false e)
  rep-there k (Some x) p e = ap known (get-left c.reps (r ∷ []) k x p)

  rep-placed : (w : List ℕ) (o : Option ℕ) → position_of w c.sorts ≡ o → is_none (of_sort c.reps o) ≡ false → rep_named wide w ≡ of_sort c.reps o
  rep-placed w None p e = absurd (true≢false e)
  rep-placed w (Some k) p e = ap (of_sort (c.reps ++ r ∷ [])) (position_kept w c.sorts (n ∷ []) k p) ∙ rep-there k (slice_get c.reps k) refl e

  pub rep-kept : (w : List ℕ) → is_abstract c w ≡ false → rep_named wide w ≡ rep_named c w
  rep-kept w e = rep-placed w (position_of w c.sorts) refl e

  pub concrete-kept : (ws : List (List ℕ)) → list_any (is_abstract c) ws ≡ false → list_any (is_abstract wide) ws ≡ false
  concrete-kept = none-also (is_abstract c) (is_abstract wide) (λ w e. ap is_none (rep-kept w e) ∙ e)

  pub suited-kept : (v : LitValue) (w : List ℕ) → suits v (rep_named c w) ≡ true → suits v (rep_named wide w) ≡ true
  suited-kept v w e = ap (suits v) (rep-kept w (suited_concrete v (rep_named c w) e)) ∙ e

  pub returned-kept : (w : List ℕ) → is_returnable (rep_named c w) ≡ true → is_returnable (rep_named wide w) ≡ true
  returned-kept w e = ap is_returnable (rep-kept w (returned_concrete (rep_named c w) e)) ∙ e

  -- ---- literals
  akin-kept : (s : SortId) (o : Option SortId) → s.0 < length c.parents → HasResultOf (length c.parents) o → is_akin_to wide.parents s o ≡ is_akin_to c.parents s o
  akin-kept s None h k = refl
  akin-kept s (Some t) h k = akin-older c.parents (parent ∷ []) s t h k

  pub literals-kept : Sound c → (w : List ℕ) (v : LitValue) → is_unknown_sort c w ≡ false → (ls : List LiteralDecl) → list_any (is_literal_of wide (sort_number c w) v) ls ≡ list_any (is_literal_of c (sort_number c w) v) ls
  literals-kept sound w v e =
      any-same (is_literal_of wide (sort_number c w) v) (is_literal_of c (sort_number c w) v)
      (λ l. ap (λ b. same_value v l.value && b) (akin-kept (sort_number c w) (sort_of_symbol c l.symbol) (number-there c sound w e) (result-there c sound l.symbol.0 (slice_get c.symbols l.symbol.0) refl)))
