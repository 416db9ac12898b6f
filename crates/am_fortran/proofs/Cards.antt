-- The text of a unit keeps the columns of the fixed form.
use Rattle.std.proofs.Common.{◌≡◌, ◌++◌, ◌≤◌, ◌+◌, ℕ, zero, suc, true, List, [], ◌∷◌, length, get_or, map, Some, refl, sym, subst, arith}
use Rattle.std.specs.Prelude.{slice_get}
use Rattle.std.specs.List.{flat_map, list_all, All, AllByRecursion}
use Rattle.std.proofs.lemmas.Bool.{and_parts}
use Rattle.std.proofs.lemmas.List.{length-map}
use Rattle.am_fortran.specs.Columns.{KeepsColumns, FitsCard}
use Rattle.am_fortran.specs.Items.{is_item, item_text}
use Rattle.am_fortran.specs.Lines.{Line, lines_of, groups}
use Rattle.am_fortran.specs.Text.{unit_text}
use Rattle.am_fortran.specs.Units.{IsUnit, unit_items}
use Rattle.am_fortran.specs.declared.item.Item.{Item}
use Rattle.am_fortran.specs.declared.unit.Unit.{Unit as Subroutine}
use Rattle.am_fortran.proofs.Grouping.{whole}
use Rattle.am_fortran.proofs.Rows.{Row, Rows, IsStatement, item_statement}
use Rattle.am_fortran.proofs.Parts.{item_group, statement_lines, statement_split, unit_items_text, unit_items_well, unit_groups}

all_at : {X : Type 0} (P : X → Type 0) (xs : List X) → AllByRecursion P xs → All P xs
all_at P [] h k d l = absurd (omega arith)
all_at P (x ∷ xs) h zero d l = h.0
all_at P (x ∷ xs) h (suc k) d l = all_at P xs h.1 k d (omega arith)

pub all_append : {X : Type 0} (P : X → Type 0) (xs ys : List X) → AllByRecursion P xs → AllByRecursion P ys → AllByRecursion P (xs ++ ys)
all_append P [] ys h k = k
all_append P (x ∷ xs) ys h k = (h.0, all_append P xs ys h.1 k)

no_comment : (l : List ℕ) → get_or l 0 0 ≡ 32 → slice_get l 0 ≡ Some 67 → ⊥
no_comment [] h e = cc
no_comment (b ∷ bs) h e = let k : b ≡ 67 = cc in omega (arith, h, k)

row_keeps : (l : List ℕ) → Row l → KeepsColumns (whole l)
row_keeps l r = record { ended = refl; short = r.short; no_comment = no_comment l r.blank }

rows_keep : (ls : List (List ℕ)) → Rows ls → AllByRecursion KeepsColumns (map whole ls)
rows_keep [] r = tt
rows_keep (l ∷ ls) r = (row_keeps l r.0, rows_keep ls r.1)

group_keeps : (t : List ℕ) → IsStatement t → AllByRecursion KeepsColumns (lines_of t)
group_keeps t s = subst (λ (ls : List Line). AllByRecursion KeepsColumns ls) (sym (statement_lines t s)) (rows_keep (s.first ∷ s.more) (s.row, s.rows))

items_keep : (is : List Item) → list_all is_item is ≡ true → AllByRecursion KeepsColumns (lines_of (flat_map item_text is))
unfolding lines_of
items_keep [] h = tt
items_keep (i ∷ is) h =
    let p = and_parts (is_item i) (list_all is_item is) h in
    let s = item_statement i p.0 in
    subst (λ (ls : List Line). AllByRecursion KeepsColumns ls) (sym (statement_split (item_text i) (flat_map item_text is) s))
    (all_append KeepsColumns (lines_of (item_text i)) (lines_of (flat_map item_text is)) (group_keeps (item_text i) s) (items_keep is p.1))

group_short : (t : List ℕ) → IsStatement t → length (lines_of t) ≤ 18 + 1
group_short t s = rw (statement_lines t s, length-map (s.first ∷ s.more) whole) (omega (arith, s.few))

items_short : (is : List Item) → list_all is_item is ≡ true → AllByRecursion (λ (g : List Line). length g ≤ 18 + 1) (map item_group is)
items_short [] h = tt
items_short (i ∷ is) h =
    let p = and_parts (is_item i) (list_all is_item is) h in
    (group_short (item_text i) (item_statement i p.0), items_short is p.1)

pub fits_card : (u : Subroutine) → IsUnit u → FitsCard u
fits_card u h = record {
  columns = all_at KeepsColumns (lines_of (unit_text u)) (subst (λ (t : List ℕ). AllByRecursion KeepsColumns (lines_of t)) (sym (unit_items_text u)) (items_keep (unit_items u) (unit_items_well u h)));
  continuations = all_at (λ (g : List Line). length g ≤ 18 + 1) (groups (lines_of (unit_text u)))
      (subst (λ (gs : List (List Line)). AllByRecursion (λ (g : List Line). length g ≤ 18 + 1) gs) (sym (unit_groups u h)) (items_short (unit_items u) (unit_items_well u h)));
}
