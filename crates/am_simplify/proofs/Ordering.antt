-- Units as rows are put in by number.
use Rattle.std.proofs.Common.{◌≡◌, ◌∙◌, ◌++◌, ◌<◌, ℕ, Bool, true, false, true≢false, refl, sym, ap, arith, List, [], ◌∷◌, Option, Some, None, is_some, nat_lt, if◌then◌else◌}
use Rattle.std.specs.List.{AllByRecursion, filter}
use Rattle.std.proofs.lemmas.Bool.Decides.{nat_tests}
use Rattle.am_term.specs.declared.signature.Signature.{Signature}
use Rattle.am_clause.specs.declared.row.Side.{Side}
use Rattle.am_simplify.specs.Reasons.{NumberedClause}
use Rattle.am_simplify.specs.Units.{AreRising, is_unit, unit_of, unit_side, unit_with, units, with_row, with_unit, with_units}
use Rattle.am_simplify.specs.declared.step.Unit.{Unit}

-- rows that are no units may be left out
pub units-alone : (sig : Signature) (rows : List NumberedClause) → units sig (filter (is_unit sig) rows) ≡ units sig rows
units-alone sig [] = refl
units-alone sig (row ∷ rows) = by (unit_side sig row.1) refl (units-alone sig rows)
  where
    by : (o : Option Side) → unit_side sig row.1 ≡ o → units sig (filter (is_unit sig) rows) ≡ units sig rows → units sig (if is_some o then row ∷ filter (is_unit sig) rows else filter (is_unit sig) rows) ≡ unit_with row.0 row.1 o ++ units sig rows
    by None is e = e
    by (Some side) is e = ap (λ us. unit_with row.0 row.1 (unit_side sig row.1) ++ us) e ∙ ap (λ o. unit_with row.0 row.1 o ++ units sig rows) is

module _ (sig : Signature) where
  no-unit : (row : NumberedClause) → unit_side sig row.1 ≡ None → (rows : List NumberedClause) → units sig (with_row row rows) ≡ units sig rows
  no-unit row none [] = ap (λ o. unit_with row.0 row.1 o ++ []) none
  no-unit row none (r ∷ rows) = by (nat_lt r.0 row.0) (no-unit row none rows)
    where
      by : (b : Bool) → units sig (with_row row rows) ≡ units sig rows → units sig (if b then r ∷ with_row row rows else row ∷ r ∷ rows) ≡ units sig (r ∷ rows)
      by true e = ap (λ us. unit_of sig r ++ us) e
      by false e = ap (λ o. unit_with row.0 row.1 o ++ units sig (r ∷ rows)) none

  module _ (u : Unit) where
    -- all behind a number that isn't smaller stand behind
    in-front : (n : ℕ) → nat_lt n u.row ≡ false → (rows : List NumberedClause) → AllByRecursion (λ (x : NumberedClause). n < x.0) rows → with_unit u (units sig rows) ≡ u ∷ units sig rows
    in-front n less [] h = refl
    in-front n less (r ∷ rows) h = by (unit_side sig r.1) (in-front n less rows h.1)
      where
        behind : nat_lt r.0 u.row ≡ false
        behind = let more : n < r.0 = h.0 in grind (arith, nat_tests)

        by : (o : Option Side) → with_unit u (units sig rows) ≡ u ∷ units sig rows → with_unit u (unit_with r.0 r.1 o ++ units sig rows) ≡ u ∷ (unit_with r.0 r.1 o ++ units sig rows)
        by None e = e
        by (Some side) e = ap (λ b. if b then unit_with r.0 r.1 (Some side) ++ with_unit u (units sig rows) else u ∷ (unit_with r.0 r.1 (Some side) ++ units sig rows)) behind

    past : (r : NumberedClause) → nat_lt r.0 u.row ≡ true → (us : List Unit) (o : Option Side) → unit_with r.0 r.1 o ++ with_unit u us ≡ with_unit u (unit_with r.0 r.1 o ++ us)
    past r less us None = refl
    past r less us (Some side) = sym (ap (λ b. if b then unit_with r.0 r.1 (Some side) ++ with_unit u us else u ∷ (unit_with r.0 r.1 (Some side) ++ us)) less)

  one-unit : (row : NumberedClause) (side : Side) → unit_side sig row.1 ≡ Some side → (rows : List NumberedClause) → AreRising rows → units sig (with_row row rows) ≡ with_units (unit_with row.0 row.1 (Some side)) (units sig rows)
  one-unit row side is [] h = ap (λ o. unit_with row.0 row.1 o ++ []) is
  one-unit row side is (r ∷ rows) h = by (nat_lt r.0 row.0) refl (one-unit row side is rows h.1)
    where
      u : Unit
      u = record { row = row.0; side = side; clause = row.1 }

      by : (b : Bool) → nat_lt r.0 row.0 ≡ b → units sig (with_row row rows) ≡ with_unit u (units sig rows) → units sig (if b then r ∷ with_row row rows else row ∷ r ∷ rows) ≡ with_unit u (units sig (r ∷ rows))
      by true less e = ap (λ us. unit_of sig r ++ us) e ∙ past u r less (units sig rows) (unit_side sig r.1)
      by false less e = ap (λ o. unit_with row.0 row.1 o ++ units sig (r ∷ rows)) is ∙ here (unit_side sig r.1)
        where
          here : (o : Option Side) → u ∷ (unit_with r.0 r.1 o ++ units sig rows) ≡ with_unit u (unit_with r.0 r.1 o ++ units sig rows)
          here None = sym (in-front u r.0 less rows h.0)
          here (Some other) = sym (ap (λ b. if b then unit_with r.0 r.1 (Some other) ++ with_unit u (units sig rows) else u ∷ (unit_with r.0 r.1 (Some other) ++ units sig rows)) less)

  pub units-added : (row : NumberedClause) (rows : List NumberedClause) → AreRising rows → units sig (with_row row rows) ≡ with_units (unit_of sig row) (units sig rows)
  units-added row rows h = by (unit_side sig row.1) refl
    where
      by : (o : Option Side) → unit_side sig row.1 ≡ o → units sig (with_row row rows) ≡ with_units (unit_with row.0 row.1 o) (units sig rows)
      by None is = no-unit row is rows
      by (Some side) is = one-unit row side is rows h

-- rows that are picked in order, and one more

in-front-row : (row : NumberedClause) (rows : List NumberedClause) → AllByRecursion (λ (r : NumberedClause). row.0 < r.0) rows → with_row row rows ≡ row ∷ rows
in-front-row row [] h = refl
in-front-row row (r ∷ rows) h = let less : row.0 < r.0 = h.0 in let test : nat_lt r.0 row.0 ≡ false = grind (arith, nat_tests) in ap (λ b. if b then r ∷ with_row row rows else row ∷ r ∷ rows) test

all-picked : (P : NumberedClause → Type 0) (p : NumberedClause → Bool) (rows : List NumberedClause) → AllByRecursion P rows → AllByRecursion P (filter p rows)
all-picked P p [] h = tt
all-picked P p (r ∷ rows) h = by (p r) (all-picked P p rows h.1)
  where
    by : (b : Bool) → AllByRecursion P (filter p rows) → AllByRecursion P (if b then r ∷ filter p rows else filter p rows)
    by true k = (h.0, k)
    by false k = k

same-picked : (p q : NumberedClause → Bool) (rows : List NumberedClause) → AllByRecursion (λ r. q r ≡ p r) rows → filter q rows ≡ filter p rows
same-picked p q [] h = refl
same-picked p q (r ∷ rows) h = ap (λ b. if b then r ∷ filter q rows else filter q rows) h.0 ∙ ap (λ xs. if p r then r ∷ xs else xs) (same-picked p q rows h.1)

before-it : (P : NumberedClause → Type 0) (row : NumberedClause) (before behind : List NumberedClause) → AllByRecursion P (before ++ row ∷ behind) → P row
before-it P row [] behind h = h.0
before-it P row (r ∷ before) behind h = before-it P row before behind h.1

pub picked-more : (p q : NumberedClause → Bool) (row : NumberedClause) (before behind : List NumberedClause) → AreRising (before ++ row ∷ behind) → AllByRecursion (λ r. q r ≡ p r) (before ++ behind) → p row ≡ false → q row ≡ true
    → filter q (before ++ row ∷ behind) ≡ with_row row (filter p (before ++ row ∷ behind))
picked-more p q row [] behind h same lacks holds =
    ap (λ b. if b then row ∷ filter q behind else filter q behind) holds
    ∙ (ap (λ xs. row ∷ xs) (same-picked p q behind same)
    ∙ (sym (in-front-row row (filter p behind) (all-picked (λ (r : NumberedClause). row.0 < r.0) p behind h.0))
    ∙ sym (ap (λ b. with_row row (if b then row ∷ filter p behind else filter p behind)) lacks)))
picked-more p q row (r ∷ before) behind h same lacks holds = by (p r) (q r) same.0 (picked-more p q row before behind h.1 same.1 lacks holds)
  where
    less : nat_lt r.0 row.0 ≡ true
    less = let l : r.0 < row.0 = before-it (λ (x : NumberedClause). r.0 < x.0) row before behind h.0 in grind (arith, nat_tests)

    by : (b c : Bool) → c ≡ b → filter q (before ++ row ∷ behind) ≡ with_row row (filter p (before ++ row ∷ behind))
        → (if c then r ∷ filter q (before ++ row ∷ behind) else filter q (before ++ row ∷ behind)) ≡ with_row row (if b then r ∷ filter p (before ++ row ∷ behind) else filter p (before ++ row ∷ behind))
    by true true e k = ap (λ xs. r ∷ xs) k ∙ sym (ap (λ b. if b then r ∷ with_row row (filter p (before ++ row ∷ behind)) else row ∷ r ∷ filter p (before ++ row ∷ behind)) less)
    by true false e k = absurd (true≢false (sym e))
    by false true e k = absurd (true≢false e)
    by false false e k = k
