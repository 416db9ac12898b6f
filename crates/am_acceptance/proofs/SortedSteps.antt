-- Each row of a proof is a step after earlier ones, and is well sorted with its lists of terms.
use Rattle.std.proofs.Common.{◌≡◌, ◌++◌, ◌&&◌, ℕ, zero, suc, true, refl, sym, subst, List, [], ◌∷◌, Option, Some}
use Rattle.std.proofs.Common.{slice_get, append_assoc, IsTrue}
use Rattle.std.specs.List.{list_all, AllByRecursion}
use Rattle.am_term.specs.declared.id.SortId.{SortId}
use Rattle.am_term.specs.declared.signature.Signature.{Signature}
use Rattle.am_term.specs.declared.term.Term.{Term}
use Rattle.am_term.specs.Place.{member}
use Rattle.am_term.proofs.Tests.{and_both}
use Rattle.am_clause.specs.declared.clause.Clause.{Clause}
use Rattle.am_clause.specs.declared.row.Row.{Row}
use Rattle.am_clause.specs.declared.row.Rule.{Rule}
use Rattle.am_clause.specs.declared.row.Rule.TheVariants as R
use Rattle.am_clause.specs.Numbered.{sorts_in}
use Rattle.am_clause.specs.Rules.{OneParent, TwoParents, factor, reflex, close, resolve, para, rewrite}
use Rattle.am_clause.specs.SortedClause.{are_bindings, is_sorted_clause}
use Rattle.am_clause.specs.Steps.{Sources, IsStart, FromOne, FromTwo, Follows, IsStep, AreSteps}
use Rattle.am_log.specs.Text.{has_sort, is_sorted_row}
use Rattle.am_log.proofs.Known.{all_sorted}
use Rattle.am_acceptance.specs.Rows.{StepsAreSorted}

module _ (sig : Signature) (ins : List SortId) (from : Sources) where
  -- ---- sorts

  abbrev HaveSorts : List (List Term) → Type 0
  HaveSorts with = list_all (list_all (has_sort sig ins)) with ≡ true

  bindings-sorted : (ts : List Term) (p : Clause) → IsTrue (are_bindings sig ins ts p)
      → list_all (has_sort sig ins) ts ≡ true
  bindings-sorted ts p e = all_sorted sig ins ts (sorts_in p) e

  start-sorted : (o : Option Clause) (with : List (List Term)) (d : Clause) → IsStart o with d → HaveSorts with
  start-sorted o with d s = subst HaveSorts (sym s.unbound) refl

  one-sorted : (rows : List Row) (rule : OneParent) (m : ℕ) (with : List (List Term)) (d : Clause)
      → FromOne sig ins rows rule m with d → HaveSorts with
  one-sorted rows rule m with d s =
      let first = bindings-sorted s.first s.p s.made.binds in
      subst HaveSorts (sym s.bound_by) (and_both (list_all (has_sort sig ins) s.first) true first refl)

  two-sorted : (rows : List Row) (rule : TwoParents) (m n : ℕ) (with : List (List Term)) (d : Clause)
      → FromTwo sig ins rows rule m n with d → HaveSorts with
  two-sorted rows rule m n with d s =
      let first = bindings-sorted s.first s.p s.made.binds in
      let second = bindings-sorted s.second s.q s.made.binds_other in
      subst HaveSorts (sym s.bound_by)
      (and_both (list_all (has_sort sig ins) s.first) (list_all (has_sort sig ins) s.second && true) first
      (and_both (list_all (has_sort sig ins) s.second) true second refl))

  lists-sorted : (rows : List Row) (rule : Rule) (with : List (List Term)) (d : Clause)
      → Follows sig ins from rows rule with d → HaveSorts with
  lists-sorted rows (R.Axiom k c) with d f = start-sorted (from.axioms k c) with d f
  lists-sorted rows R.Goal with d f = start-sorted (Some from.goal) with d f
  lists-sorted rows (R.Given k) with d f = start-sorted (from.givens k) with d f
  lists-sorted rows (R.Factor m i j) with d f = one-sorted rows (factor i j) m with d f
  lists-sorted rows (R.Reflex m i) with d f = one-sorted rows (reflex i) m with d f
  lists-sorted rows (R.Resolve m i n j) with d f = two-sorted rows (resolve i j) m n with d f
  lists-sorted rows (R.Para m j side n i path) with d f = two-sorted rows (para j side i path) m n with d f
  lists-sorted rows (R.Rewrite m j side n i path) with d f = two-sorted rows (rewrite j side i path) m n with d f
  lists-sorted rows (R.Close m) with d f = one-sorted rows close m with d f

  step-sorted : (rows : List Row) (row : Row) → IsStep sig ins from rows row → is_sorted_row sig ins row ≡ true
  step-sorted rows row s =
      and_both (list_all (list_all (has_sort sig ins)) row.with) (is_sorted_clause sig ins row.clause)
      (lists-sorted rows row.rule row.with row.clause s.follows) s.sorted

  abbrev pub AreSortedRows : List Row → Type 0
  AreSortedRows rows = AllByRecursion (λ (r : Row). is_sorted_row sig ins r ≡ true) rows

  pub rows-sorted : (before rows : List Row) → AreSteps sig ins from before rows → AreSortedRows rows
  rows-sorted before [] s = tt
  rows-sorted before (r ∷ rows) s = (step-sorted before r s.0, rows-sorted (before ++ r ∷ []) rows s.1)

  -- ---- steps

  -- the row is a step after rows that stand among these
  pub record IsAfter (rows : List Row) (row : Row) : Type 0 where
    pub earlier : List Row
    pub step : IsStep sig ins from earlier row
    pub kept : (m : ℕ) (p : Row) → member earlier m ≡ Some p → member rows m ≡ Some p

  get-first : (xs ys : List Row) (i : ℕ) (p : Row) → slice_get xs i ≡ Some p → slice_get (xs ++ ys) i ≡ Some p
  get-first [] ys i p e = absurd cc
  get-first (x ∷ xs) ys zero p e = e
  get-first (x ∷ xs) ys (suc i) p e = get-first xs ys i p e

  member-first : (xs ys : List Row) (m : ℕ) (p : Row) → member xs m ≡ Some p → member (xs ++ ys) m ≡ Some p
  member-first xs ys zero p e = absurd cc
  member-first xs ys (suc i) p e = get-first xs ys i p e

  pub step-at : (before rows : List Row) → AreSteps sig ins from before rows → (i : ℕ) (row : Row)
      → slice_get rows i ≡ Some row → IsAfter (before ++ rows) row
  step-at before [] s i row e = absurd cc
  step-at before (r ∷ rows) s zero row e =
      let one : r ≡ row = cc in
      record {
        earlier = before;
        step = subst (IsStep sig ins from before) one s.0;
        kept = member-first before (r ∷ rows);
      }
  step-at before (r ∷ rows) s (suc i) row e =
      subst (λ (z : List Row). IsAfter z row) (append_assoc before (r ∷ []) rows)
      (step-at (before ++ r ∷ []) rows s.1 i row e)

  -- by its number
  pub row-step : (rows : List Row) → AreSteps sig ins from [] rows → (n : ℕ) (row : Row) → member rows n ≡ Some row
      → IsAfter rows row
  row-step rows s zero row e = absurd cc
  row-step rows s (suc i) row e = step-at [] rows s i row e

pub steps-sorted : StepsAreSorted
steps-sorted sig ins sources rows row s = step-sorted sig ins sources rows row s
