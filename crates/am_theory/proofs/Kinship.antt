-- Akin sorts share what each sort shares with its parent, so their representation and copy routine.
use Rattle.std.proofs.Common.{◌≡◌, ◌∙◌, ℕ, zero, suc, Bool, true, false, Option, Some, None, List, [], ◌∷◌, refl, sym, ap, arith, slice_get, nat_lt, if◌then◌else◌}
use Rattle.std.specs.List.{AllZip}
use Rattle.std.proofs.lemmas.Bool.Decides.{nat_tests}
use Rattle.am_term.specs.declared.id.SortId.{SortId}
use Rattle.am_term.specs.Sorts.{same_sort, below, parent_in, at_parent, root_within, root_in, akin_in}
use Rattle.am_term.proofs.Forest.{same_sort-is, same_sort-same}
use Rattle.am_theory.specs.declared.theory.Rep.{Rep}
use Rattle.am_theory.specs.Lookups.{known}
use Rattle.am_theory.proofs.Sound.{Suits, AreUnder, sort_rep, sort_copy}

abbrev one : SortId → Option SortId
one s = Some s

abbrev listed : Option SortId → Option (Option SortId)
listed o = Some o

-- a parent is what the list says
below-by : (b : Bool) (q p : SortId) → (if b then Some q else None) ≡ one p → q ≡ p
below-by true q p e = cc
below-by false q p e = absurd cc

pub below-is : (o : Option (Option SortId)) (s p : SortId) → below s o ≡ one p → o ≡ listed (one p)
below-is None s p e = absurd cc
below-is (Some None) s p e = absurd cc
below-is (Some (Some q)) s p e = ap (λ (x : SortId). listed (one x)) (below-by (nat_lt q.0 s.0) q p e)

same-turned : (s t : SortId) → same_sort s t ≡ same_sort t s
same-turned s t = grind (arith, nat_tests)

module _ (parents : List (Option SortId)) where
  pub akin-itself : (s : SortId) → akin_in parents s s ≡ true
  unfolding akin_in
  akin-itself s = same_sort-same (root_in parents s)

  pub akin-turned : (s t : SortId) → akin_in parents s t ≡ akin_in parents t s
  unfolding akin_in
  akin-turned s t = same-turned (root_in parents s) (root_in parents t)

  -- what a sort shares with its parent
  module _ {A : Type 0} (f : SortId → A) (shared : (s p : SortId) → parent_in parents s ≡ one p → f s ≡ f p) where
    by_parent : (g : SortId → SortId) → ((p : SortId) → f (g p) ≡ f p) → (s : SortId) (o : Option SortId) → parent_in parents s ≡ o → f (at_parent o g s) ≡ f s
    by_parent g h s None e = refl
    by_parent g h s (Some p) e = h p ∙ sym (shared s p e)

    at_root : (n : ℕ) (s : SortId) → f (root_within parents n s) ≡ f s
    at_root zero s = refl
    at_root (suc n) s = by_parent (root_within parents n) (at_root n) s (parent_in parents s) refl

    pub akin-shared : (s t : SortId) → akin_in parents s t ≡ true → f s ≡ f t
    unfolding akin_in root_in
    akin-shared s t e = sym (at_root s.0 s) ∙ ap f (same_sort-is (root_within parents s.0 s) (root_within parents t.0 t) e) ∙ at_root t.0 t

-- akin sorts have one representation and one copy routine
pub akin-alike : (parents : List (Option SortId)) (reps : List (Option Rep)) (copies : List (Option (List ℕ))) → AreUnder parents reps copies → (s t : SortId) → akin_in parents s t ≡ true → (sort_rep reps s ≡ sort_rep reps t) × (sort_copy copies s ≡ sort_copy copies t)
akin-alike parents reps copies under s t e = (
  akin-shared parents (sort_rep reps) (λ a p k. let u = under a p (below-is (slice_get parents a.0) a p k) in u.rep) s t e,
  akin-shared parents (sort_copy copies) (λ a p k. let u = under a p (below-is (slice_get parents a.0) a p k) in u.copy) s t e,
)

-- the representation and the copy routine of one sort
pub zip-at : (rs : List (Option Rep)) (cs : List (Option (List ℕ))) (k : ℕ) → AllZip Suits rs cs → Suits (known (slice_get rs k)) (known (slice_get cs k))
zip-at [] [] k h = refl
zip-at [] (c ∷ cs) k h = absurd h
zip-at (r ∷ rs) [] k h = absurd h
zip-at (r ∷ rs) (c ∷ cs) zero h = h.0
zip-at (r ∷ rs) (c ∷ cs) (suc k) h = zip-at rs cs k h.1
