-- The ancestors of a row are one list.
use Rattle.std.proofs.Common.{◌≡◌, ◌∙◌, ℕ, zero, suc, Bool, true, false, refl, sym, ap, List, [], ◌∷◌, if◌then◌else◌, true≢false}
use Rattle.std.specs.Prelude.{IsTrue}
use Rattle.am_clause.specs.declared.row.Row.{Row}
use Rattle.am_clause.specs.declared.row.Rule.{Rule}
use Rattle.am_clause.specs.declared.row.Rule.TheVariants.{Axiom, Goal, Given, Factor, Reflex, Resolve, Para, Rewrite, Close}
use Rattle.am_clause.specs.Ancestors.{RestsOn, AreAncestors, count_to, with_parents, renumbered_row, kept_from}

same_test : (a b : Bool) → (IsTrue a → IsTrue b) → (IsTrue b → IsTrue a) → a ≡ b
same_test true true f g = refl
same_test true false f g = absurd (true≢false (sym (f refl)))
same_test false true f g = absurd (true≢false (sym (g refl)))
same_test false false f g = refl

module _ (stays others : ℕ → Bool) (same : (n : ℕ) → stays n ≡ others n) where
  count_next : (n : ℕ) → count_to stays n ≡ count_to others n → (if stays (suc n) then suc (count_to stays n) else count_to stays n) ≡ (if others (suc n) then suc (count_to others n) else count_to others n)
  count_next n e = ap (λ (b : Bool). if b then suc (count_to stays n) else count_to stays n) (same (suc n)) ∙ ap (λ (k : ℕ). if others (suc n) then suc k else k) e

  same_count : (n : ℕ) → count_to stays n ≡ count_to others n
  same_count zero = refl
  same_count (suc n) = count_next n (same_count n)

  module _ (to too : ℕ → ℕ) (alike : (n : ℕ) → to n ≡ too n) where
    same_rule : (r : Rule) → with_parents to r ≡ with_parents too r
    same_rule (Axiom k c) = refl
    same_rule Goal = refl
    same_rule (Given k) = refl
    same_rule (Factor p i j) = ap (λ (x : ℕ). Factor x i j) (alike p)
    same_rule (Reflex p i) = ap (λ (x : ℕ). Reflex x i) (alike p)
    same_rule (Resolve p i q j) = ap (λ (x : ℕ). Resolve x i (to q) j) (alike p) ∙ ap (λ (x : ℕ). Resolve (too p) i x j) (alike q)
    same_rule (Para p j side q i path) = ap (λ (x : ℕ). Para x j side (to q) i path) (alike p) ∙ ap (λ (x : ℕ). Para (too p) j side x i path) (alike q)
    same_rule (Rewrite p j side q i path) = ap (λ (x : ℕ). Rewrite x j side (to q) i path) (alike p) ∙ ap (λ (x : ℕ). Rewrite (too p) j side x i path) (alike q)
    same_rule (Close p) = ap (λ (x : ℕ). Close x) (alike p)

    abbrev by_rule : Row → Rule → Row
    by_rule r rule = record { rule = rule; with = r.with; clause = r.clause }

    same_row : (r : Row) → renumbered_row to r ≡ renumbered_row too r
    same_row r = ap (by_rule r) (same_rule r.rule)

    kept_next : (n : ℕ) (r : Row) (rows : List Row) → kept_from stays to (suc n) rows ≡ kept_from others too (suc n) rows
        → kept_from stays to n (r ∷ rows) ≡ kept_from others too n (r ∷ rows)
    kept_next n r rows e =
        ap (λ (b : Bool). if b then renumbered_row to r ∷ kept_from stays to (suc n) rows else kept_from stays to (suc n) rows) (same n)
        ∙ ap (λ (x : Row). if others n then x ∷ kept_from stays to (suc n) rows else kept_from stays to (suc n) rows) (same_row r)
        ∙ ap (λ (xs : List Row). if others n then renumbered_row too r ∷ xs else xs) e

    same_kept : (n : ℕ) (rows : List Row) → kept_from stays to n rows ≡ kept_from others too n rows
    same_kept n [] = refl
    same_kept n (r ∷ rows) = kept_next n r rows (same_kept (suc n) rows)

-- the same rows stay, so their numbers and the whole lists are the same
pub one-ancestry : (rows : List Row) (last : ℕ) (made other : List Row) → AreAncestors rows last made → AreAncestors rows last other → made ≡ other
one-ancestry rows last made other a b =
    let same : (n : ℕ) → a.stays n ≡ b.stays n = λ n. same_test (a.stays n) (b.stays n) (λ h. (b.those n).1 ((a.those n).0 h)) (λ h. (a.those n).1 ((b.those n).0 h)) in
    a.is ∙ same_kept a.stays b.stays same (count_to a.stays) (count_to b.stays) (same_count a.stays b.stays same) 1 rows ∙ sym b.is
