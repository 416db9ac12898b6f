-- How the reading of a text goes on, and how it fails.
use Rattle.std.proofs.Common.{◌≡◌, ◌++◌, ◌<◌, ◌≤◌, ◌+◌, ◌-◌, ℕ, true, false, List, [], ◌∷◌, length, length-drop, take, drop, refl, sym, ap, subst, ◌∙◌, arith, inl, inr}
use Rattle.std.specs.List.{flat_map, list_all, list_any, sum_by}
use Rattle.std.proofs.lemmas.List.{drop-drop, drop_all, take_all, map-append}
use Rattle.std.proofs.lemmas.List.Concat.{flat_map-append}
use Rattle.std.proofs.lemmas.List.Folds.{list_all-append}
use Rattle.std.proofs.lemmas.List.Sums.{sum_by-append}
use mathlib.Core.List.{append_assoc, append-nil}
use Rattle.am_fortran.specs.Items.{is_item, item_text, is_end}
use Rattle.am_fortran.specs.Lines.{Line, lines_of, groups, is_whole, first_line}
use Rattle.am_fortran.specs.Drafts.{draft_items, SpellsNone, IsFirstItem, HasNoItem, Unread, items_groups, ReadsTo, TellsFault}
use Rattle.am_fortran.specs.Faults.{StandsBefore, IsMisplaced, Holds, rank, IsFirst, IsFault}
use Rattle.am_fortran.specs.Text.{unit_text}
use Rattle.am_fortran.specs.Units.{IsUnit, unit_items}
use Rattle.am_fortran.specs.declared.draft.Draft.{Draft}
use Rattle.am_fortran.specs.declared.draft.Found.{Found}
use Rattle.am_fortran.specs.declared.draft.Progress.{Progress}
use Rattle.am_fortran.specs.declared.fault.ReadError.{ReadError}
use Rattle.am_fortran.specs.declared.fault.ReadError.TheVariants.{Memory, Fault}
use Rattle.am_fortran.specs.declared.fault.UnitKind.{UnitKind}
use Rattle.am_fortran.specs.declared.fault.UnitKind.TheVariants.{Cut, BadStatement, Order, NoMemory}
use Rattle.am_fortran.specs.declared.item.Item.{Item}
use Rattle.am_fortran.specs.declared.unit.Unit.{Unit as Subroutine}
use Rattle.am_fortran.proofs.Firsts.{InOrder, draft_order, none_order, nothing_among, cut_here, bad_here, order_here, end_here, not_ended, line_of, size_of, stands, ended_any, item_whole}
use Rattle.am_fortran.proofs.Grouping.{text_lines, whole_lines, take_two}
use Rattle.am_fortran.proofs.Parts.{item_group, unit_groups, unit_items_well, unit_items_text}

-- the text is read up to a rest: these items stand before it
pub record Ready (bytes rest : List ℕ) (is : List Item) (line : ℕ) : Type 0 where
  pub kept : list_all is_item is ≡ true
  pub order : InOrder is
  pub found : groups (lines_of bytes) ≡ items_groups is ++ groups (lines_of rest)
  pub begins : line ≡ 1 + sum_by length (items_groups is)

pub ready_start : (bytes : List ℕ) → Ready bytes bytes [] 1
ready_start bytes = record { kept = refl; order = none_order; found = refl; begins = refl }

pub ready_reads : (bytes : List ℕ) (p : Progress) → ReadsTo bytes p → Ready bytes (drop p.at bytes) (draft_items p.draft) p.line
ready_reads bytes p r = record { kept = r.kept; order = draft_order p.draft; found = r.found; begins = r.begins }

-- a first fault behind the items
fault_from : (bytes rest : List ℕ) (is : List Item) (line : ℕ) (kind : UnitKind) (more : List (List Line)) → Ready bytes rest is line → groups (lines_of rest) ≡ more → IsFirst (items_groups is ++ more) (length is) kind → IsFault bytes line kind
fault_from bytes rest is line kind more r g f =
    let e : groups (lines_of bytes) ≡ items_groups is ++ more = r.found ∙ ap (λ (z : List (List Line)). items_groups is ++ z) g in
    record {
      place = length is;
      at = subst (λ (gs : List (List Line)). IsFirst gs (length is) kind) (sym e) f;
      begins = r.begins ∙ sym (line_of is more) ∙ ap (λ (gs : List (List Line)). first_line gs (length is)) (sym e);
    }

unread_kind : (bytes rest : List ℕ) (is : List Item) (line : ℕ) (kind : UnitKind) → Ready bytes rest is line → HasNoItem rest kind → IsFault bytes line kind
unread_kind bytes rest is line Cut r u = fault_from bytes rest is line Cut _ r u.front.group
    (cut_here is (lines_of (take u.end rest)) (groups (lines_of (drop u.end rest))) r.kept r.order (whole_lines (take u.end rest) ∙ u.cut))
unread_kind bytes rest is line BadStatement r u = fault_from bytes rest is line BadStatement _ r u.front.group
    (bad_here is (lines_of (take u.end rest)) (groups (lines_of (drop u.end rest))) r.kept r.order (whole_lines (take u.end rest) ∙ u.ended)
    (subst SpellsNone (sym (text_lines (take u.end rest))) u.none))
unread_kind bytes rest is line Order r u = absurd u
unread_kind bytes rest is line NoMemory r u = absurd u

pub unread_fails : (bytes rest : List ℕ) (is : List Item) (line : ℕ) (e : ReadError) → Ready bytes rest is line → Unread rest line e → TellsFault bytes e
unread_fails bytes rest is line Memory r u = tt
unread_fails bytes rest is line (Fault f) r u = subst (λ (l : ℕ). IsFault bytes l f.kind) (sym u.0) (unread_kind bytes rest is line f.kind r u.1)

-- the text of an item is ended
item_ended : (i : Item) → is_item i ≡ true → is_whole (lines_of (item_text i)) ≡ true
item_ended i k = item_whole i k

pub order_fails : (bytes rest : List ℕ) (is : List Item) (line : ℕ) (f : Found) → Ready bytes rest is line → IsFirstItem rest f → IsMisplaced (items_groups is ++ lines_of (take f.end rest) ∷ groups (lines_of (drop f.end rest))) (length is) f.item → IsFault bytes line Order
order_fails bytes rest is line f r u m = fault_from bytes rest is line Order _ r u.front.group
    (order_here is (lines_of (take f.end rest)) (groups (lines_of (drop f.end rest))) f.item r.kept r.order
    (ap (λ (t : List ℕ). is_whole (lines_of t)) u.spelled ∙ item_ended f.item u.kept)
    (record { exists = u.kept; text = text_lines (take f.end rest) ∙ u.spelled })
    m)

pub end_fails : (bytes : List ℕ) (p : Progress) → ReadsTo bytes p → (p.at < length bytes → ⊥) → p.draft.ended ≡ false → IsFault bytes p.line Cut
unfolding lines_of groups
end_fails bytes p r n e =
    let rest : drop p.at bytes ≡ [] = drop_all p.at bytes (omega (arith, n)) in
    fault_from bytes (drop p.at bytes) (draft_items p.draft) p.line Cut [] (ready_reads bytes p r) (ap (λ (t : List ℕ). groups (lines_of t)) rest)
    (end_here (draft_items p.draft) r.kept (draft_order p.draft) (not_ended p.draft e))

pub empty_fails : (bytes : List ℕ) → length bytes ≡ 0 → IsFault bytes 1 Cut
unfolding lines_of groups
empty_fails [] h = fault_from [] [] [] 1 Cut [] (ready_start []) refl (end_here [] refl none_order refl)
empty_fails (b ∷ bs) h = absurd (omega (arith, h))

-- the reading goes on

one_count : (m n : ℕ) → m ≡ n → 1 + m ≡ 1 + (0 + n)
one_count m n e = omega (arith, e)

pub started : (bytes : List ℕ) (f : Found) (d : Draft) → IsFirstItem bytes f → draft_items d ≡ f.item ∷ [] → ReadsTo bytes (record { draft = d; at = f.end; line = 1 + f.lines })
started bytes f d u e = record {
  within = u.front.within;
  text = rw e (u.spelled ∙ sym (append-nil (item_text f.item)));
  kept = rw (e, u.kept) refl;
  found = rw e (u.front.group ∙ ap (λ (t : List ℕ). lines_of t ∷ groups (lines_of (drop f.end bytes))) u.spelled);
  begins = rw e (one_count f.lines (length (lines_of (item_text f.item))) (u.front.counted ∙ ap (λ (t : List ℕ). length (lines_of t)) u.spelled));
  low = omega (arith, u.front.few);
}

pub reached : (bytes : List ℕ) (p : Progress) (f : Found) (d : Draft) → ReadsTo bytes p → IsFirstItem (drop p.at bytes) f → draft_items d ≡ draft_items p.draft ++ f.item ∷ [] → ReadsTo bytes (record { draft = d; at = p.at + f.end; line = p.line + f.lines })
reached bytes p f d r u e =
    let is = draft_items p.draft in
    let rest = drop p.at bytes in
    let size : length rest ≡ length bytes - p.at = length-drop p.at bytes in
    let new : items_groups (is ++ f.item ∷ []) ≡ items_groups is ++ lines_of (item_text f.item) ∷ [] = map-append item_group is (f.item ∷ []) in
    let count : f.lines ≡ length (lines_of (item_text f.item)) = u.front.counted ∙ ap (λ (t : List ℕ). length (lines_of t)) u.spelled in
    record {
      within = omega (arith, u.front.within, size, r.within);
      text = rw e (take_two bytes p.at f.end r.within ∙ ap (λ (z : List ℕ). z ++ take f.end rest) r.text
          ∙ ap (λ (z : List ℕ). flat_map item_text is ++ z) (u.spelled ∙ sym (append-nil (item_text f.item)))
          ∙ sym (flat_map-append item_text is (f.item ∷ [])));
      kept = rw (e, list_all-append is_item is (f.item ∷ []), r.kept, u.kept) refl;
      found = rw (e, new) (r.found ∙ ap (λ (z : List (List Line)). items_groups is ++ z) (u.front.group ∙ ap (λ (t : List ℕ). lines_of t ∷ groups (lines_of (drop f.end rest))) u.spelled ∙ ap (λ (t : List ℕ). lines_of (item_text f.item) ∷ groups (lines_of t)) (drop-drop f.end p.at bytes))
          ∙ sym (append_assoc (items_groups is) (lines_of (item_text f.item) ∷ []) (groups (lines_of (drop (p.at + f.end) bytes)))));
      begins = rw (e, new, sum_by-append length (items_groups is) (lines_of (item_text f.item) ∷ [])) (omega (arith, r.begins, count));
      low = omega (arith, r.low, u.front.few);
    }

-- a unit whose items are all of the text's
pub read_whole : (bytes : List ℕ) (p : Progress) (u : Subroutine) → ReadsTo bytes p → (p.at < length bytes → ⊥) → unit_items u ≡ draft_items p.draft → bytes ≡ unit_text u
read_whole bytes p u r n e =
    let all : take p.at bytes ≡ bytes = take_all p.at bytes (omega (arith, n)) in
    sym all ∙ r.text ∙ ap (flat_map item_text) (sym e) ∙ sym (unit_items_text u)

-- the text of a unit has no fault

draft_of : Subroutine → Draft
draft_of u = record { name = u.name; dummies = u.dummies; declarations = u.declarations; statements = u.statements; ended = true }

items_of_unit : (u : Subroutine) → draft_items (draft_of u) ≡ unit_items u
unfolding draft_items unit_items draft_of
items_of_unit u = refl

no_kind : (is : List Item) (k : ℕ) (kind : UnitKind) → list_all is_item is ≡ true → InOrder is → list_any is_end is ≡ true → Holds (items_groups is ++ []) k kind → ⊥
no_kind is k Cut w o a h = elim h [
  | inl c ↦ nothing_among is [] k Cut w o (omega (arith, c.0, size_of is [])) (inl c)
  | inr c ↦ c.1 (subst (λ (z : ℕ). StandsBefore (items_groups is ++ []) z is_end) (omega (arith, c.0, size_of is [])) (stands is [] is_end w a))
]
no_kind is k BadStatement w o a h = nothing_among is [] k BadStatement w o (omega (arith, h.0, size_of is [])) h
no_kind is k Order w o a h = nothing_among is [] k Order w o (omega (arith, h.0, size_of is [])) h
no_kind is k NoMemory w o a h = h

pub no_fault : (u : Subroutine) → IsUnit u → (bytes : List ℕ) → bytes ≡ unit_text u → (line : ℕ) (kind : UnitKind) → IsFault bytes line kind → ⊥
unfolding draft_of
no_fault u h bytes e line kind f =
    let gs : groups (lines_of bytes) ≡ items_groups (unit_items u) ++ [] = ap (λ (t : List ℕ). groups (lines_of t)) e ∙ unit_groups u h ∙ sym (append-nil (items_groups (unit_items u))) in
    no_kind (unit_items u) f.place kind (unit_items_well u h) (subst InOrder (items_of_unit u) (draft_order (draft_of u))) (ap (list_any is_end) (sym (items_of_unit u)) ∙ ended_any is_end (draft_of u) refl refl)
    (subst (λ (z : List (List Line)). Holds z f.place kind) gs f.at.holds)

-- there is one first fault

same_rank : (k l : UnitKind) → rank k ≤ rank l → rank l ≤ rank k → k ≡ l
same_rank Cut Cut a b = refl
same_rank Cut BadStatement a b = absurd (omega arith)
same_rank Cut Order a b = absurd (omega arith)
same_rank Cut NoMemory a b = absurd (omega arith)
same_rank BadStatement Cut a b = absurd (omega arith)
same_rank BadStatement BadStatement a b = refl
same_rank BadStatement Order a b = absurd (omega arith)
same_rank BadStatement NoMemory a b = absurd (omega arith)
same_rank Order Cut a b = absurd (omega arith)
same_rank Order BadStatement a b = absurd (omega arith)
same_rank Order Order a b = refl
same_rank Order NoMemory a b = absurd (omega arith)
same_rank NoMemory Cut a b = absurd (omega arith)
same_rank NoMemory BadStatement a b = absurd (omega arith)
same_rank NoMemory Order a b = absurd (omega arith)
same_rank NoMemory NoMemory a b = refl

pub one_first : (gs : List (List Line)) (p q : ℕ) (k l : UnitKind) → IsFirst gs p k → IsFirst gs q l → (p ≡ q) × (k ≡ l)
one_first gs p q k l f g = elim (f.first q l g.holds) [
  | inl lt ↦ elim (g.first p k f.holds) [ inl gt ↦ absurd (omega arith) | inr e ↦ absurd (omega (arith, e.0)) ]
  | inr d ↦ elim (g.first p k f.holds) [ inl gt ↦ absurd (omega (arith, d.0)) | inr e ↦ (d.0, same_rank k l d.1 e.1) ]
]

pub one_fault : (bytes : List ℕ) (m n : ℕ) (k l : UnitKind) → IsFault bytes m k → IsFault bytes n l → (m ≡ n) × (k ≡ l)
one_fault bytes m n k l f g =
    let r = one_first (groups (lines_of bytes)) f.place g.place k l f.at g.at in
    (f.begins ∙ ap (first_line (groups (lines_of bytes))) r.0 ∙ sym g.begins, r.1)
