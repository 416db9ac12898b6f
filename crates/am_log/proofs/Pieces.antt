-- The cut is the one list of pieces that keeps the rule.
use Rattle.std.proofs.Common.{◌≡◌, ◌<◌, ◌≤◌, ℕ, zero, suc, Bool, true, false, List, [], ◌∷◌, ◌++◌, length, length-drop, take, drop, refl, sym, ap, ◌∙◌, arith, subst, inl, inr}
use Rattle.std.specs.Prelude.{◌==◌, if◌then◌else◌}
use Rattle.std.proofs.lemmas.Bool.{cases_lt}
use Rattle.std.proofs.lemmas.List.{take-append-drop}
use Rattle.am_log.specs.Cut.{reach, longest, cut, pieced_together, ends_with_blank, IsPrefix, IsPiece, IsCut}
use Rattle.am_log.specs.Laws.{CutKeepsTheRule}
use Rattle.am_log.proofs.Cutting.{longest_within, longest_narrow, cut_stops, cut_goes_on}

-- ---- the longest prefix doesn't end with a blank
solid_none : (b : ℕ) (bs : List ℕ) → ends_with_blank false (take (reach b 0) (b ∷ bs)) ≡ false
solid_none b bs = by (b == 32) refl
  where
    by : (t : Bool) → (b == 32) ≡ t → ends_with_blank false (take (if t then 0 else 1) (b ∷ bs)) ≡ false
    by true e = refl
    by false e = e

over_some : (n : ℕ) (blank : Bool) (bs : List ℕ) → suc n ≤ length bs → ends_with_blank blank (take (suc n) bs) ≡ ends_with_blank false (take (suc n) bs)
over_some n blank [] l = absurd (omega (arith, l))
over_some n blank (b ∷ bs) l = refl

solid_step : (b n : ℕ) (bs : List ℕ) → n ≤ length bs → ends_with_blank false (take n bs) ≡ false → ends_with_blank false (take (reach b n) (b ∷ bs)) ≡ false
solid_step b zero bs l h = solid_none b bs
solid_step b (suc n) bs l h = over_some n (b == 32) bs l ∙ h

solid_longest : (w : ℕ) (t : List ℕ) → ends_with_blank false (take (longest w t) t) ≡ false
unfolding longest
solid_longest zero t = refl
solid_longest (suc w) [] = refl
solid_longest (suc w) (b ∷ bs) = solid_step b (longest w bs) bs (longest_within w bs) (solid_longest w bs)

-- ---- and no such prefix is longer
reach_above : (b n m : ℕ) → 0 < n → n ≤ m → suc n ≤ reach b m
reach_above b n zero l h = absurd (omega (arith, l, h))
reach_above b n (suc m) l h = omega (arith, h)

reach_first : (b m : ℕ) → (b == 32) ≡ false → 1 ≤ reach b m
reach_first b zero e = rw e (omega arith)
reach_first b (suc m) e = omega arith

above : (w : ℕ) (q behind : List ℕ) → length q ≤ w → ends_with_blank false q ≡ false → length q ≤ longest w (q ++ behind)
unfolding longest
above w [] behind l e = omega arith
above zero (b ∷ q) behind l e = absurd (omega (arith, l))
above (suc w) (b ∷ []) behind l e = reach_first b (longest w behind) e
above (suc w) (b ∷ c ∷ q) behind l e = reach_above b (length (c ∷ q)) (longest w (c ∷ q ++ behind)) (omega arith) (above w (c ∷ q) behind (omega (arith, l)) e)

no_longer : (w : ℕ) (t q : List ℕ) → IsPrefix w t q → length q ≤ longest w t
no_longer w t q p = subst (λ (x : List ℕ). length q ≤ longest w x) (sym p.front) (above w q p.behind p.short p.solid)

length_take : (n : ℕ) (t : List ℕ) → n ≤ length t → length (take n t) ≡ n
length_take zero t l = refl
length_take (suc n) [] l = absurd (omega (arith, l))
length_take (suc n) (b ∷ bs) l = ap (λ (k : ℕ). suc k) (length_take n bs (omega (arith, l)))

longest_prefix : (w : ℕ) (t : List ℕ) → IsPrefix w t (take (longest w t) t)
longest_prefix w t =
    let e = length_take (longest w t) t (longest_within w t) in
    let n = longest_narrow w t in
    record { behind = drop (longest w t) t; front = sym (take-append-drop (longest w t) t); short = omega (arith, e, n); solid = solid_longest w t }

longest_piece : (w : ℕ) (t : List ℕ) → 0 < longest w t → IsPiece w t (take (longest w t) t)
longest_piece w t s =
    let e = length_take (longest w t) t (longest_within w t) in
    record { prefix = longest_prefix w t; some = omega (arith, e, s); most = λ q p. let h = no_longer w t q p in omega (arith, e, h) }

-- ---- the pieces of the cut keep the rule
rest_joined : (n : ℕ) (t x : List ℕ) → n ≤ length t → take n t ++ x ≡ t → x ≡ drop n t
rest_joined zero t x l e = e
rest_joined (suc n) [] x l e = absurd (omega (arith, l))
rest_joined (suc n) (b ∷ bs) x l e = let h : take n bs ++ x ≡ bs = cc in rest_joined n bs x (omega (arith, l)) h

none_left : (w : ℕ) (t : List ℕ) → longest w t ≡ 0 → pieced_together (cut w t) ≡ t → IsCut w t (cut w t)
none_left w t z e =
    let none : cut w t ≡ [] = cut_stops w t z in
    let empty : t ≡ [] = sym e ∙ ap pieced_together none in
    subst (λ (ps : List (List ℕ)). IsCut w t ps) (sym none) empty

keeps_more : (w : ℕ) (t : List ℕ) → 0 < longest w t → pieced_together (cut w t) ≡ t → (pieced_together (cut w (drop (longest w t) t)) ≡ drop (longest w t) t → IsCut w (drop (longest w t) t) (cut w (drop (longest w t) t))) → IsCut w t (cut w t)
keeps_more w t s e law =
    let some : cut w t ≡ take (longest w t) t ∷ cut w (drop (longest w t) t) = cut_goes_on w t s in
    let rest : pieced_together (cut w (drop (longest w t) t)) ≡ drop (longest w t) t = rest_joined (longest w t) t (pieced_together (cut w (drop (longest w t) t))) (longest_within w t) (sym (ap pieced_together some) ∙ e) in
    let size = length_take (longest w t) t (longest_within w t) in
    let more : IsCut w (drop (length (take (longest w t) t)) t) (cut w (drop (longest w t) t)) = subst (λ (k : ℕ). IsCut w (drop k t) (cut w (drop (longest w t) t))) (sym size) (law rest) in
    subst (λ (ps : List (List ℕ)). IsCut w t ps) (sym some) (longest_piece w t s, more)

keeps_within : (w m : ℕ) (t : List ℕ) → length t ≤ m → pieced_together (cut w t) ≡ t → IsCut w t (cut w t)
keeps_within w zero t l e = let k = longest_within w t in none_left w t (omega (arith, k, l)) e
keeps_within w (suc m) t l e = elim (cases_lt 0 (longest w t)) [
  | inl s ↦ keeps_more w t s e (λ h. keeps_within w m (drop (longest w t) t) (omega (arith, length-drop (longest w t) t, l, s)) h)
  | inr z ↦ none_left w t (omega (arith, z)) e
]

-- ---- and no other pieces do
front_taken : (p behind : List ℕ) → take (length p) (p ++ behind) ≡ p
front_taken [] behind = refl
front_taken (b ∷ p) behind = ap (λ (z : List ℕ). b ∷ z) (front_taken p behind)

front_dropped : (p behind : List ℕ) → drop (length p) (p ++ behind) ≡ behind
front_dropped [] behind = refl
front_dropped (b ∷ p) behind = front_dropped p behind

piece_length : (w : ℕ) (t p : List ℕ) → IsPiece w t p → length p ≡ longest w t
piece_length w t p k =
    let below = no_longer w t p k.prefix in
    let over = k.most (take (longest w t) t) (longest_prefix w t) in
    let size = length_take (longest w t) t (longest_within w t) in
    omega (arith, below, over, size)

only_cut : (w : ℕ) (t : List ℕ) (ps : List (List ℕ)) → IsCut w t ps → ps ≡ cut w t
only_cut w t [] k = let l = longest_within w t in let e = ap length k in sym (cut_stops w t (omega (arith, l, e)))
only_cut w t (p ∷ ps) k =
    let size : length p ≡ longest w t = piece_length w t p k.0 in
    let front : take (length p) t ≡ p = ap (take (length p)) k.0.prefix.front ∙ front_taken p k.0.prefix.behind in
    let first : p ≡ take (longest w t) t = sym front ∙ ap (λ (n : ℕ). take n t) size in
    let more : ps ≡ cut w (drop (longest w t) t) = only_cut w (drop (length p) t) ps k.1 ∙ ap (λ (n : ℕ). cut w (drop n t)) size in
    let some = k.0.some in
    ap (λ (z : List ℕ). z ∷ ps) first ∙ ap (λ (zs : List (List ℕ)). take (longest w t) t ∷ zs) more ∙ sym (cut_goes_on w t (omega (arith, size, some)))

joins_cut : (w : ℕ) (t : List ℕ) (ps : List (List ℕ)) → IsCut w t ps → pieced_together ps ≡ t
joins_cut w t [] k = sym k
joins_cut w t (p ∷ ps) k =
    let rest : drop (length p) t ≡ k.0.prefix.behind = ap (drop (length p)) k.0.prefix.front ∙ front_dropped p k.0.prefix.behind in
    ap (λ (z : List ℕ). p ++ z) (joins_cut w (drop (length p) t) ps k.1 ∙ rest) ∙ sym k.0.prefix.front

pub the_cut : CutKeepsTheRule
the_cut = λ w t. record { keeps = keeps_within w (length t) t (omega arith); only = only_cut w t; joins = joins_cut w t }
