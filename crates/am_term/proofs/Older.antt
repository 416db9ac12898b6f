-- Where more sorts stand behind others, the others fit and are akin as before.
use Rattle.std.proofs.Common.{◌≡◌, ◌∙◌, ◌<◌, ◌||◌, ◌++◌, ℕ, zero, suc, false, Option, Some, None, List, [], ◌∷◌, length, refl, ap, arith, slice_get}
use Rattle.am_term.specs.declared.id.SortId.{SortId}
use Rattle.am_term.specs.Sorts.{same_sort, below, parent_in, at_parent, fits_within, fits_in, root_within, root_in, akin_in}
use Rattle.am_term.proofs.Forest.{below-lower, at_parent-same}

-- a member that is there stays at its place
pub get-older : {A : Type 0} (xs ys : List A) (k : ℕ) → k < length xs → slice_get (xs ++ ys) k ≡ slice_get xs k
get-older [] ys k h = absurd (omega arith)
get-older (x ∷ xs) ys zero h = refl
get-older (x ∷ xs) ys (suc k) h = get-older xs ys k (omega arith)

abbrev Parents : Type 0
Parents = List (Option SortId)

module _ (parents more : Parents) where
  parent-older : (s : SortId) → s.0 < length parents → parent_in (parents ++ more) s ≡ parent_in parents s
  parent-older s h = ap (below s) (get-older parents more s.0 h)

  fits_within-older : (n : ℕ) (s t : SortId) → s.0 < length parents → fits_within (parents ++ more) n s t ≡ fits_within parents n s t
  fits_within-older zero s t h = refl
  fits_within-older (suc n) s t h =
      ap (λ o. same_sort s t || at_parent o (λ p. fits_within (parents ++ more) n p t) false) (parent-older s h)
      ∙ ap (λ b. same_sort s t || b) (at_parent-same (parent_in parents s) (λ p. fits_within (parents ++ more) n p t) (λ p. fits_within parents n p t) false
      (λ p e. let l = below-lower (slice_get parents s.0) s p e in fits_within-older n p t (omega arith)))

  pub fits-older : (s t : SortId) → s.0 < length parents → fits_in (parents ++ more) s t ≡ fits_in parents s t
  unfolding fits_in
  fits-older s t h = fits_within-older s.0 s t h

  root_within-older : (n : ℕ) (s : SortId) → s.0 < length parents → root_within (parents ++ more) n s ≡ root_within parents n s
  root_within-older zero s h = refl
  root_within-older (suc n) s h =
      ap (λ o. at_parent o (root_within (parents ++ more) n) s) (parent-older s h)
      ∙ at_parent-same (parent_in parents s) (root_within (parents ++ more) n) (root_within parents n) s
      (λ p e. let l = below-lower (slice_get parents s.0) s p e in root_within-older n p (omega arith))

  pub root-older : (s : SortId) → s.0 < length parents → root_in (parents ++ more) s ≡ root_in parents s
  unfolding root_in
  root-older s h = root_within-older s.0 s h

  pub akin-older : (s t : SortId) → s.0 < length parents → t.0 < length parents → akin_in (parents ++ more) s t ≡ akin_in parents s t
  unfolding akin_in
  akin-older s t h k =
      ap (λ a. same_sort a (root_in (parents ++ more) t)) (root-older s h)
      ∙ ap (same_sort (root_in parents s)) (root-older t k)
