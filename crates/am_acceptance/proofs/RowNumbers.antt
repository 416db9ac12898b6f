-- The numbers of a proof's rows fit 32 bits, where the rows' text is no longer than a text may be.
use Rattle.std.proofs.Common.{◌≡◌, ◌≤◌, ◌+◌, ◌&&◌, ◌==◌, ℕ, zero, suc, arith, refl, subst, true, false, List, [], ◌∷◌}
use Rattle.std.proofs.Common.{Option, Some, None, is_none, length, length-append, slice_get, option_map}
use Rattle.std.specs.List.{list_all}
use Rattle.std.proofs.lemmas.Bool.{and_parts}
use Rattle.am_term.specs.declared.term.Term.{Term}
use Rattle.am_term.specs.Place.{member}
use Rattle.am_term.proofs.Tests.{and_both}
use Rattle.am_clause.specs.declared.clause.Clause.{Clause}
use Rattle.am_clause.specs.declared.row.Row.{Row}
use Rattle.am_clause.specs.declared.row.Rule.{Rule}
use Rattle.am_clause.specs.declared.row.Rule.TheVariants as R
use Rattle.am_clause.specs.Rules.{is_equation_of, has_place}
use Rattle.am_clause.specs.Steps.{clause_at, Follows}
use Rattle.am_theory.specs.declared.theory.Theory.{Theory}
use Rattle.am_theory.specs.Facts.{WellFormed}
use Rattle.am_diagram.specs.declared.diagram.Diagram.{Diagram}
use Rattle.am_diagram.specs.Facts.{WellFormed as WellDrawn}
use Rattle.am_diagram.specs.Listed.{entry_sorts}
use Rattle.am_diagram.specs.Steps.{sources, IsProof}
use Rattle.am_log.specs.Cut.{wrapped}
use Rattle.am_log.specs.Naming.{Names, known_names, named_row}
use Rattle.am_log.specs.Spelled.{row_text, is_u32, fits_rule}
use Rattle.am_log.specs.Text.{byte_limit, rows_text, row_fits, numbers_fit, literal_fits, answer_fits}
use Rattle.am_acceptance.specs.Rows.{NumbersOfStepsFit}
use Rattle.am_acceptance.proofs.SortedSteps.{AreSortedRows, rows-sorted, IsAfter, step-at}
use Rattle.am_acceptance.proofs.TextSizes.{row_size}
use Rattle.am_acceptance.proofs.TidyRows.{lines_long}
use Rattle.am_acceptance.proofs.VariableNumbers.{terms-small}
use Rattle.am_acceptance.proofs.PlaceNumbers.{count, fits, one-sign, equation-there, opposites-there, AreShort}
use Rattle.am_acceptance.proofs.PlaceNumbers.{literal-fits, place-fits, axiom-fits, given-fits}

module _ (t : Theory) (d : Diagram) (h : WellFormed t) (g : WellDrawn t d) where
  abbrev n : Names
  n = known_names t d

  abbrev AreSorted : List Row → Type 0
  AreSorted = AreSortedRows t.sig (entry_sorts d.inputs) (sources t d)

  -- a row's text is part of all
  text-at : (j : ℕ) (rows : List Row) → AreSorted rows → (i k : ℕ) (row : Row) → k ≡ j + i → slice_get rows i ≡ Some row
      → length (row_text (named_row n k row)) ≤ length (rows_text n j rows)
  text-at j [] s i k row e at = absurd cc
  text-at j (r ∷ rows) s zero k row e at =
      let same : r ≡ row = cc in
      let own : length (row_text (named_row n j r)) ≤ length (wrapped (row_text (named_row n j r))) =
      lines_long t d h g j r s.0 in
      let long : length (row_text (named_row n j r)) ≤ length (rows_text n j (r ∷ rows)) =
      omega (arith, own, length-append (wrapped (row_text (named_row n j r))) (rows_text n (j + 1) rows)) in
      let here : j ≡ k = omega (arith, e) in
      subst (λ (m : ℕ). length (row_text (named_row n m row)) ≤ length (rows_text n j (r ∷ rows))) here
      (subst (λ (x : Row). length (row_text (named_row n j x)) ≤ length (rows_text n j (r ∷ rows))) same long)
  text-at j (r ∷ rows) s (suc i) k row e at =
      let more = text-at (j + 1) rows s.1 i k row (omega (arith, e)) at in
      omega (arith, more, length-append (wrapped (row_text (named_row n j r))) (rows_text n (j + 1) rows))

  -- each row has a byte or more
  rows-count : (j : ℕ) (rows : List Row) → AreSorted rows → length rows ≤ length (rows_text n j rows)
  rows-count j [] s = omega arith
  rows-count j (r ∷ rows) s =
      let own = lines_long t d h g j r s.0 in
      let long = (row_size n j r).some in
      let more = rows-count (j + 1) rows s.1 in
      omega (arith, own, long, more, length-append (wrapped (row_text (named_row n j r))) (rows_text n (j + 1) rows))

  module _ (rows : List Row) (proof : IsProof t d rows) (short : length (rows_text n 1 rows) ≤ byte_limit) where
    all-sorted : AreSorted rows
    all-sorted = rows-sorted t.sig (entry_sorts d.inputs) (sources t d) [] rows proof

    row-short : (k : ℕ) (row : Row) → member rows k ≡ Some row → length (row_text (named_row n k row)) ≤ byte_limit
    row-short zero row e = absurd cc
    row-short (suc i) row e =
        let part = text-at 1 rows all-sorted i (suc i) row (omega arith) e in
        omega (arith, part, short)

    number-fits : (k : ℕ) (row : Row) → member rows k ≡ Some row → is_u32 k ≡ true
    number-fits k row e =
        let few = count rows k row e in
        let most = rows-count 1 rows all-sorted in
        fits k (omega (arith, few, most, short))

    -- the number of an earlier row fits, and its literals are short
    record IsParent (m : ℕ) (p : Clause) : Type 0 where
      pub number : is_u32 m ≡ true
      pub literals : AreShort n p.literals

    parent-row : (m : ℕ) (r : Row) → member rows m ≡ Some r → IsParent m r.clause
    parent-row m r e =
        let long = (row_size n m r).literals in
        let most = row-short m r e in
        record { number = number-fits m r e; literals = omega (arith, long, most) }

    module _ (earlier : List Row) (kept : (m : ℕ) (p : Row) → member earlier m ≡ Some p → member rows m ≡ Some p) where
      parent : (m : ℕ) (p : Clause) → clause_at earlier m ≡ Some p → IsParent m p
      parent m p e = by (member earlier m) refl e
        where
          by : (o : Option Row) → member earlier m ≡ o → option_map (λ (r : Row). r.clause) o ≡ Some p → IsParent m p
          by None k f = absurd cc
          by (Some r) k f = let same : r.clause ≡ p = cc in subst (IsParent m) same (parent-row m r (kept m r k))

      replacing-fits : (m j q i : ℕ) (path : List ℕ) (a b : Clause) → IsParent m a → IsParent q b
          → (is_equation_of true (member a.literals j) && has_place path (member b.literals i)) ≡ true
          → (is_u32 m && (is_u32 j && (is_u32 q && (is_u32 i && list_all is_u32 path)))) ≡ true
      replacing-fits m j q i path a b first second e =
          let s = and_parts (is_equation_of true (member a.literals j)) (has_place path (member b.literals i)) e in
          let at = literal-fits n a.literals j first.literals (equation-there true (member a.literals j) s.0) in
          let down = place-fits n b.literals i path second.literals s.1 in
          and_both (is_u32 m) (is_u32 j && (is_u32 q && (is_u32 i && list_all is_u32 path))) first.number
          (and_both (is_u32 j) (is_u32 q && (is_u32 i && list_all is_u32 path)) at
          (and_both (is_u32 q) (is_u32 i && list_all is_u32 path) second.number down))

      rule-fits : (rule : Rule) (with : List (List Term)) (c : Clause)
          → Follows t.sig (entry_sorts d.inputs) (sources t d) earlier rule with c → fits_rule rule ≡ true
      rule-fits (R.Axiom k m) with c f = axiom-fits t h k m c f.is
      rule-fits R.Goal with c f = refl
      rule-fits (R.Given k) with c f = given-fits t d g k c f.is
      rule-fits (R.Factor m i j) with c f =
          let own = parent m f.p f.there in
          let s = one-sign (member f.p.literals i) (member f.p.literals j) f.made.suits in
          and_both (is_u32 m) (is_u32 i && is_u32 j) own.number
          (and_both (is_u32 i) (is_u32 j) (literal-fits n f.p.literals i own.literals s.0)
          (literal-fits n f.p.literals j own.literals s.1))
      rule-fits (R.Reflex m i) with c f =
          let own = parent m f.p f.there in
          and_both (is_u32 m) (is_u32 i) own.number
          (literal-fits n f.p.literals i own.literals (equation-there false (member f.p.literals i) f.made.suits))
      rule-fits (R.Resolve m i q j) with c f =
          let first = parent m f.p f.there in
          let second = parent q f.q f.there_too in
          let s = opposites-there (member f.p.literals i) (member f.q.literals j) f.made.suits in
          and_both (is_u32 m) (is_u32 i && (is_u32 q && is_u32 j)) first.number
          (and_both (is_u32 i) (is_u32 q && is_u32 j) (literal-fits n f.p.literals i first.literals s.0)
          (and_both (is_u32 q) (is_u32 j) second.number (literal-fits n f.q.literals j second.literals s.1)))
      rule-fits (R.Para m j side q i path) with c f =
          replacing-fits m j q i path f.p f.q (parent m f.p f.there) (parent q f.q f.there_too) f.made.suits
      rule-fits (R.Rewrite m j side q i path) with c f =
          let places = is_equation_of true (member f.p.literals j) && has_place path (member f.q.literals i) in
          let a = and_parts (length f.p.literals == 1) (is_none f.p.answer && places) f.made.suits in
          let b = and_parts (is_none f.p.answer) places a.1 in
          replacing-fits m j q i path f.p f.q (parent m f.p f.there) (parent q f.q f.there_too) b.1
      rule-fits (R.Close m) with c f = (parent m f.p f.there).number

    row-fits : (k : ℕ) (row : Row) → member rows k ≡ Some row
        → IsAfter t.sig (entry_sorts d.inputs) (sources t d) rows row → row_fits k row ≡ true
    row-fits k row e a =
        let rule = rule-fits a.earlier a.kept row.rule row.with row.clause a.step.follows in
        let few = (row_size n k row).occurring in
        let most = row-short k row e in
        let s = terms-small row a.step.numbered (omega (arith, few, most)) in
        let lists = list_all (list_all numbers_fit) row.with in
        let literals = list_all literal_fits row.clause.literals in
        let last = answer_fits row.clause.answer in
        and_both (is_u32 k) (fits_rule row.rule && (lists && (literals && last))) (number-fits k row e)
        (and_both (fits_rule row.rule) (lists && (literals && last)) rule
        (and_both lists (literals && last) s.lists (and_both literals last s.literals s.answer)))

    member-fits : (k : ℕ) (row : Row) → member rows k ≡ Some row → row_fits k row ≡ true
    member-fits zero row e = absurd cc
    member-fits (suc i) row e =
        row-fits (suc i) row e (step-at t.sig (entry_sorts d.inputs) (sources t d) [] rows proof i row e)

pub numbers-fit : NumbersOfStepsFit
numbers-fit t d h g rows proof short k row e = member-fits t d h g rows proof short k row e
