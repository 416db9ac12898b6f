-- Where the first fault of a text stands, by the items that were read before it.
use Rattle.std.proofs.Common.{◌≡◌, ◌++◌, ◌<◌, ◌≤◌, ◌+◌, ℕ, zero, suc, Bool, true, false, List, [], ◌∷◌, length, length-append, take, get_or, map, refl, sym, ap, subst, ◌∙◌, arith, inl, inr}
use Rattle.std.specs.Prelude.{◌||◌, not, if◌then◌else◌}
use Rattle.std.specs.List.{list_all, list_any, sum_by, AllByRecursion}
use Rattle.std.proofs.lemmas.Bool.{and_parts, or_cases, both_ways, cases_order, not-true}
use Rattle.std.proofs.lemmas.List.{length-map}
use Rattle.std.proofs.lemmas.List.Folds.{list_any-append}
use Rattle.am_fortran.specs.Items.{is_item, item_text, Spells, is_end, is_past_declarations}
use Rattle.am_fortran.specs.Lines.{Line, group_text, is_whole, first_line}
use Rattle.am_fortran.specs.Drafts.{draft_items, no_statements, is_head, is_out, SpellsNone}
use Rattle.am_fortran.specs.Faults.{group_at, StandsBefore, IsMisplaced, Holds, rank, IsFirst}
use Rattle.am_fortran.specs.declared.draft.Draft.{Draft}
use Rattle.am_fortran.specs.declared.fault.UnitKind.{UnitKind}
use Rattle.am_fortran.specs.declared.fault.UnitKind.TheVariants.{Cut, BadStatement, Order, NoMemory}
use Rattle.am_fortran.specs.declared.item.Item.{Item}
use Rattle.am_fortran.specs.declared.item.Item.TheVariants.{Head, Declaration, Executable, End}
use Rattle.am_fortran.specs.declared.statement.Statement.{Statement}
use Rattle.am_fortran.proofs.Again.{item_injective}
use Rattle.am_fortran.proofs.Cards.{all_append}
use Rattle.am_fortran.proofs.Grouping.{whole, text_lines}
use Rattle.am_fortran.proofs.Parts.{item_group, statement_lines}
use Rattle.am_fortran.proofs.Rows.{item_statement}

-- the items' groups by their places

abbrev pub at : List Item → ℕ → Item
at is j = get_or is j End

at_front : (is : List Item) (more : List (List Line)) (j : ℕ) → j < length is → group_at (map item_group is ++ more) j ≡ item_group (at is j)
at_front [] more j h = absurd (omega arith)
at_front (i ∷ is) more zero h = refl
at_front (i ∷ is) more (suc j) h = at_front is more j (omega arith)

at_end : (is : List Item) (g : List Line) (more : List (List Line)) → group_at (map item_group is ++ g ∷ more) (length is) ≡ g
at_end [] g more = refl
at_end (i ∷ is) g more = at_end is g more

take_front : (is : List Item) (more : List (List Line)) → take (length is) (map item_group is ++ more) ≡ map item_group is
take_front [] more = refl
take_front (i ∷ is) more = ap (λ (z : List (List Line)). item_group i ∷ z) (take_front is more)

pub size_of : (is : List Item) (more : List (List Line)) → length (map item_group is ++ more) ≡ length is + length more
size_of is more = length-append (map item_group is) more ∙ ap (λ (k : ℕ). k + length more) (length-map is item_group)

pub line_of : (is : List Item) (more : List (List Line)) → first_line (map item_group is ++ more) (length is) ≡ 1 + sum_by length (map item_group is)
line_of is more = ap (λ (z : List (List Line)). 1 + sum_by length z) (take_front is more)

kept_at : (is : List Item) (j : ℕ) → list_all is_item is ≡ true → j < length is → is_item (at is j) ≡ true
kept_at [] j k h = absurd (omega arith)
kept_at (i ∷ is) zero k h = (and_parts (is_item i) (list_all is_item is) k).0
kept_at (i ∷ is) (suc j) k h = kept_at is j (and_parts (is_item i) (list_all is_item is) k).1 (omega arith)

all_whole : (ls : List (List ℕ)) → is_whole (map whole ls) ≡ true
all_whole [] = refl
all_whole (l ∷ ls) = all_whole ls

pub item_whole : (i : Item) → is_item i ≡ true → is_whole (item_group i) ≡ true
item_whole i k = let s = item_statement i k in ap is_whole (statement_lines (item_text i) s) ∙ all_whole (s.first ∷ s.more)

spells_it : (g : List Line) (i : Item) → is_item i ≡ true → g ≡ item_group i → Spells g i
spells_it g i k e = record { exists = k; text = ap group_text e ∙ text_lines (item_text i) }

spelled_is : (g : List Line) (i x : Item) → is_item i ≡ true → g ≡ item_group i → Spells g x → x ≡ i
spelled_is g i x k e s = item_injective x i s.exists k (sym s.text ∙ ap group_text e ∙ text_lines (item_text i))

-- items in order

pub stage : Item → ℕ
stage (Head n ds) = 0
stage (Declaration d) = 1
stage (Executable s) = 2
stage End = 3

pub record Before (x y : Item) : Type 0 where
  pub no_later : stage x ≤ stage y
  pub no_end : stage x < 3
  pub no_head : 0 < stage y

abbrev pub Sorted : List Item → Type 0
Sorted [] = Unit {0}
Sorted (x ∷ xs) = AllByRecursion (Before x) xs × Sorted xs

all_get : (P : Item → Type 0) (xs : List Item) (j : ℕ) → AllByRecursion P xs → j < length xs → P (at xs j)
all_get P [] j a h = absurd (omega arith)
all_get P (x ∷ xs) zero a h = a.0
all_get P (x ∷ xs) (suc j) a h = all_get P xs j a.1 (omega arith)

pair : (is : List Item) (a b : ℕ) → Sorted is → a < b → b < length is → Before (at is a) (at is b)
pair [] a b s h k = absurd (omega arith)
pair (i ∷ is) a zero s h k = absurd (omega arith)
pair (i ∷ is) zero (suc b) s h k = all_get (Before i) is b s.0 (omega arith)
pair (i ∷ is) (suc a) (suc b) s h k = pair is a b s.1 (omega arith) (omega arith)

sorted_append : (xs ys : List Item) → Sorted xs → Sorted ys → AllByRecursion (λ x. AllByRecursion (Before x) ys) xs → Sorted (xs ++ ys)
sorted_append [] ys s t c = t
sorted_append (x ∷ xs) ys s t c = (all_append (Before x) xs ys s.0 c.0, sorted_append xs ys s.1 t c.1)

all_map : {X : Type 0} (P : Item → Type 0) (f : X → Item) → ((x : X) → P (f x)) → (xs : List X) → AllByRecursion P (map f xs)
all_map P f h [] = tt
all_map P f h (x ∷ xs) = (h x, all_map P f h xs)

sorted_map : {X : Type 0} (f : X → Item) → ((x y : X) → Before (f x) (f y)) → (xs : List X) → Sorted (map f xs)
sorted_map f h [] = tt
sorted_map f h (x ∷ xs) = (all_map (Before (f x)) f (h x) xs, sorted_map f h xs)

abbrev ending : Bool → List Item
ending e = if e then End ∷ [] else []

all_ending : (P : Item → Type 0) (e : Bool) → P End → AllByRecursion P (ending e)
all_ending P true h = (h, tt)
all_ending P false h = tt

sorted_ending : (e : Bool) → Sorted (ending e)
sorted_ending true = (tt, tt)
sorted_ending false = tt

before : (x y : Item) (m n : ℕ) → stage x ≡ m → stage y ≡ n → m ≤ n → m < 3 → 0 < n → Before x y
before x y m n p q a b c = record { no_later = omega (arith, p, q); no_end = omega (arith, p); no_head = omega (arith, q) }

pub draft_sorted : (d : Draft) → Sorted (draft_items d)
unfolding draft_items stage
draft_sorted d =
    let head = Head d.name d.dummies in
    let ds = map Declaration d.declarations in
    let ss = map Executable d.statements in
    let inner : Sorted (ds ++ ss) = sorted_append ds ss
    (sorted_map Declaration (λ x y. before (Declaration x) (Declaration y) 1 1 refl refl (omega arith) (omega arith) (omega arith)) d.declarations)
    (sorted_map Executable (λ x y. before (Executable x) (Executable y) 2 2 refl refl (omega arith) (omega arith) (omega arith)) d.statements)
    (all_map (λ x. AllByRecursion (Before x) ss) Declaration (λ x. all_map (Before (Declaration x)) Executable (λ y. before (Declaration x) (Executable y) 1 2 refl refl (omega arith) (omega arith) (omega arith)) d.statements) d.declarations) in
    let outer : Sorted ((ds ++ ss) ++ ending d.ended) = sorted_append (ds ++ ss) (ending d.ended) inner (sorted_ending d.ended)
    (all_append (λ x. AllByRecursion (Before x) (ending d.ended)) ds ss
    (all_map (λ x. AllByRecursion (Before x) (ending d.ended)) Declaration (λ x. all_ending (Before (Declaration x)) d.ended (before (Declaration x) End 1 3 refl refl (omega arith) (omega arith) (omega arith))) d.declarations)
    (all_map (λ x. AllByRecursion (Before x) (ending d.ended)) Executable (λ x. all_ending (Before (Executable x)) d.ended (before (Executable x) End 2 3 refl refl (omega arith) (omega arith) (omega arith))) d.statements)) in (
      all_append (Before head) (ds ++ ss) (ending d.ended)
          (all_append (Before head) ds ss
          (all_map (Before head) Declaration (λ x. before head (Declaration x) 0 1 refl refl (omega arith) (omega arith) (omega arith)) d.declarations)
          (all_map (Before head) Executable (λ x. before head (Executable x) 0 2 refl refl (omega arith) (omega arith) (omega arith)) d.statements))
          (all_ending (Before head) d.ended (before head End 0 3 refl refl (omega arith) (omega arith) (omega arith))),
      outer,
    )

-- the head stands first, the rest in order
pub record InOrder (is : List Item) : Type 0 where
  pub sorted : Sorted is
  pub head_first : 0 < length is → stage (at is 0) ≡ 0

pub draft_order : (d : Draft) → InOrder (draft_items d)
unfolding draft_items stage
draft_order d = record { sorted = draft_sorted d; head_first = λ _. refl }

pub none_order : InOrder []
none_order = record { sorted = tt; head_first = λ h. absurd (omega arith) }

-- nothing is at fault among the items

past_stage : (x : Item) → is_past_declarations x ≡ true → 2 ≤ stage x
unfolding stage
past_stage (Head n ds) h = absurd cc
past_stage (Declaration d) h = absurd cc
past_stage (Executable s) h = omega arith
past_stage End h = omega arith

end_stage : (x : Item) → is_end x ≡ true → stage x ≡ 3
unfolding stage
end_stage (Head n ds) h = absurd cc
end_stage (Declaration d) h = absurd cc
end_stage (Executable s) h = absurd cc
end_stage End h = refl

-- an item that a group before this place spells, among the items
pub record Among (is : List Item) (j : ℕ) (sort : Item → Bool) : Type 0 where
  pub place : ℕ
  pub before_it : place < j
  pub of_sort : sort (at is place) ≡ true

among : (is : List Item) (more : List (List Line)) (j : ℕ) (sort : Item → Bool) → list_all is_item is ≡ true → j ≤ length is → StandsBefore (map item_group is ++ more) j sort → Among is j sort
among is more j sort k l b =
    let here : b.place < length is = omega (arith, b.before, l) in
    let same : b.item ≡ at is b.place = spelled_is (group_at (map item_group is ++ more) b.place) (at is b.place) b.item (kept_at is b.place k here) (at_front is more b.place here) b.spelled in
    record { place = b.place; before_it = b.before; of_sort = sym (ap sort same) ∙ b.of_sort }

end_between : (is : List Item) (more : List (List Line)) (j : ℕ) → list_all is_item is ≡ true → Sorted is → j < length is → StandsBefore (map item_group is ++ more) j is_end → ⊥
end_between is more j k s l b =
    let a = among is more j is_end k (omega arith) b in
    let p = pair is a.place j s a.before_it l in
    omega (arith, p.no_end, end_stage (at is a.place) a.of_sort)

past_between : (is : List Item) (more : List (List Line)) (j : ℕ) → list_all is_item is ≡ true → Sorted is → j < length is → stage (at is j) ≡ 1 → StandsBefore (map item_group is ++ more) j is_past_declarations → ⊥
past_between is more j k s l e b =
    let a = among is more j is_past_declarations k (omega arith) b in
    let p = pair is a.place j s a.before_it l in
    omega (arith, p.no_later, e, past_stage (at is a.place) a.of_sort)

first_is : (is : List Item) (j : ℕ) → InOrder is → j < length is → j ≡ 0 → stage (at is j) ≡ 0
first_is is j o l e = ap (λ (z : ℕ). stage (at is z)) e ∙ o.head_first (omega arith)

placed : (is : List Item) (more : List (List Line)) (j : ℕ) (x : Item) → list_all is_item is ≡ true → InOrder is → j < length is → x ≡ at is j → IsMisplaced (map item_group is ++ more) j x → ⊥
unfolding stage
placed is more j (Head n ds) k o l e m =
    let p = pair is 0 j o.sorted m l in
    let q : stage (at is j) ≡ 0 = sym (ap stage e) in
    omega (arith, p.no_head, q)
placed is more j (Declaration d) k o l e m =
    let q : stage (at is j) ≡ 1 = sym (ap stage e) in
    elim m [ inl z ↦ omega (arith, q, first_is is j o l z) | inr b ↦ past_between is more j k o.sorted l q b ]
placed is more j (Executable s) k o l e m =
    let q : stage (at is j) ≡ 2 = sym (ap stage e) in
    elim m [ inl z ↦ omega (arith, q, first_is is j o l z) | inr b ↦ end_between is more j k o.sorted l b ]
placed is more j End k o l e m =
    let q : stage (at is j) ≡ 3 = sym (ap stage e) in
    elim m [ inl z ↦ omega (arith, q, first_is is j o l z) | inr b ↦ end_between is more j k o.sorted l b ]

pub nothing_among : (is : List Item) (more : List (List Line)) (j : ℕ) (other : UnitKind) → list_all is_item is ≡ true → InOrder is → j < length is → Holds (map item_group is ++ more) j other → ⊥
nothing_among is more j Cut k o l h = elim h [
  | inl c ↦ both_ways (is_whole (group_at (map item_group is ++ more) j)) c.1 (ap is_whole (at_front is more j l) ∙ item_whole (at is j) (kept_at is j k l))
  | inr c ↦ omega (arith, c.0, size_of is more, l)
]
nothing_among is more j BadStatement k o l h = h.1 (at is j) (spells_it (group_at (map item_group is ++ more) j) (at is j) (kept_at is j k l) (at_front is more j l))
nothing_among is more j Order k o l h =
    let same = spelled_is (group_at (map item_group is ++ more) j) (at is j) h.1 (kept_at is j k l) (at_front is more j l) h.2 in
    placed is more j h.1 k o l same h.3
nothing_among is more j NoMemory k o l h = h

-- the first fault behind the items

first_behind : (is : List Item) (more : List (List Line)) (kind : UnitKind) → list_all is_item is ≡ true → InOrder is → Holds (map item_group is ++ more) (length is) kind
    → ((other : UnitKind) → Holds (map item_group is ++ more) (length is) other → rank kind ≤ rank other) → IsFirst (map item_group is ++ more) (length is) kind
first_behind is more kind k o h r = record {
  holds = h;
  first = λ j other g. elim (cases_order j (length is)) [
    | inl e ↦ inr (sym e, r other (subst (λ (z : ℕ). Holds (map item_group is ++ more) z other) e g))
    | inr c ↦ elim c [ inl lt ↦ absurd (nothing_among is more j other k o lt g) | inr gt ↦ inl gt ]
  ];
}

at_least_one : (other : UnitKind) → rank Cut ≤ rank other
at_least_one Cut = omega arith
at_least_one BadStatement = omega arith
at_least_one Order = omega arith
at_least_one NoMemory = omega arith

here_size : (is : List Item) (g : List Line) (more : List (List Line)) → length is < length (map item_group is ++ g ∷ more)
here_size is g more = omega (arith, size_of is (g ∷ more))

pub cut_here : (is : List Item) (g : List Line) (more : List (List Line)) → list_all is_item is ≡ true → InOrder is → is_whole g ≡ false → IsFirst (map item_group is ++ g ∷ more) (length is) Cut
cut_here is g more k o w = first_behind is (g ∷ more) Cut k o (inl (here_size is g more, ap is_whole (at_end is g more) ∙ w)) (λ other h. at_least_one other)

no_cut : (is : List Item) (g : List Line) (more : List (List Line)) → is_whole g ≡ true → Holds (map item_group is ++ g ∷ more) (length is) Cut → ⊥
no_cut is g more w h = elim h [
  | inl c ↦ both_ways (is_whole (group_at (map item_group is ++ g ∷ more) (length is))) c.1 (ap is_whole (at_end is g more) ∙ w)
  | inr c ↦ omega (arith, c.0, here_size is g more)
]

bad_rank : (is : List Item) (g : List Line) (more : List (List Line)) → is_whole g ≡ true → (other : UnitKind) → Holds (map item_group is ++ g ∷ more) (length is) other → rank BadStatement ≤ rank other
bad_rank is g more w Cut h = absurd (no_cut is g more w h)
bad_rank is g more w BadStatement h = omega arith
bad_rank is g more w Order h = omega arith
bad_rank is g more w NoMemory h = omega arith

pub bad_here : (is : List Item) (g : List Line) (more : List (List Line)) → list_all is_item is ≡ true → InOrder is → is_whole g ≡ true → SpellsNone (group_text g) → IsFirst (map item_group is ++ g ∷ more) (length is) BadStatement
bad_here is g more k o w n = first_behind is (g ∷ more) BadStatement k o
    (here_size is g more, λ item s. n item s.exists (sym (ap group_text (at_end is g more)) ∙ s.text))
    (bad_rank is g more w)

order_rank : (is : List Item) (g : List Line) (more : List (List Line)) (i : Item) → is_whole g ≡ true → Spells g i → (other : UnitKind) → Holds (map item_group is ++ g ∷ more) (length is) other → rank Order ≤ rank other
order_rank is g more i w s Cut h = absurd (no_cut is g more w h)
order_rank is g more i w s BadStatement h = absurd (h.1 i (subst (λ (z : List Line). Spells z i) (sym (at_end is g more)) s))
order_rank is g more i w s Order h = omega arith
order_rank is g more i w s NoMemory h = omega arith

pub order_here : (is : List Item) (g : List Line) (more : List (List Line)) (i : Item) → list_all is_item is ≡ true → InOrder is → is_whole g ≡ true → Spells g i → IsMisplaced (map item_group is ++ g ∷ more) (length is) i → IsFirst (map item_group is ++ g ∷ more) (length is) Order
order_here is g more i k o w s m = first_behind is (g ∷ more) Order k o
    (here_size is g more, i, subst (λ (z : List Line). Spells z i) (sym (at_end is g more)) s, m)
    (order_rank is g more i w s)

or_parts : (x y : Bool) → (x || y) ≡ false → (x ≡ false) × (y ≡ false)
or_parts true y h = absurd cc
or_parts false y h = (refl, h)

none_place : (sort : Item → Bool) (is : List Item) (j : ℕ) → list_any sort is ≡ false → j < length is → sort (at is j) ≡ false
none_place sort [] j h l = absurd (omega arith)
none_place sort (i ∷ is) zero h l = (or_parts (sort i) (list_any sort is) h).0
none_place sort (i ∷ is) (suc j) h l = none_place sort is j (or_parts (sort i) (list_any sort is) h).1 (omega arith)

pub end_here : (is : List Item) → list_all is_item is ≡ true → InOrder is → list_any is_end is ≡ false → IsFirst (map item_group is ++ []) (length is) Cut
end_here is k o n = first_behind is [] Cut k o
    (inr (omega (arith, size_of is []), λ b. let a = among is [] (length is) is_end k (omega arith) b in both_ways (is_end (at is a.place)) (none_place is_end is a.place n a.before_it) a.of_sort))
    (λ other h. at_least_one other)

-- where an item can't stand

any_place : (sort : Item → Bool) (is : List Item) → list_any sort is ≡ true → (a : ℕ) × (a < length is) × (sort (at is a) ≡ true)
any_place sort [] h = absurd cc
any_place sort (i ∷ is) h = elim (or_cases (sort i) (list_any sort is) h) [
  | inl p ↦ (0, omega arith, p)
  | inr q ↦ let r = any_place sort is q in (suc r.0, omega (arith, r.1), r.2)
]

pub stands : (is : List Item) (more : List (List Line)) (sort : Item → Bool) → list_all is_item is ≡ true → list_any sort is ≡ true → StandsBefore (map item_group is ++ more) (length is) sort
stands is more sort k h = let r = any_place sort is h in record {
  place = r.0;
  item = at is r.0;
  before = r.1;
  spelled = spells_it (group_at (map item_group is ++ more) r.0) (at is r.0) (kept_at is r.0 k r.1) (at_front is more r.0 r.1);
  of_sort = r.2;
}

any_map : {X : Type 0} (sort : Item → Bool) (f : X → Item) → ((x : X) → sort (f x) ≡ false) → (xs : List X) → list_any sort (map f xs) ≡ false
any_map sort f h [] = refl
any_map sort f h (x ∷ xs) = rw (h x, any_map sort f h xs) refl

any_left : (sort : Item → Bool) (xs ys : List Item) → list_any sort xs ≡ true → list_any sort (xs ++ ys) ≡ true
any_left sort xs ys h = list_any-append sort xs ys ∙ rw h refl

or_right : (x y : Bool) → y ≡ true → (x || y) ≡ true
or_right true y h = refl
or_right false y h = h

any_right : (sort : Item → Bool) (xs ys : List Item) → list_any sort ys ≡ true → list_any sort (xs ++ ys) ≡ true
any_right sort xs ys h = list_any-append sort xs ys ∙ or_right (list_any sort xs) (list_any sort ys) h

pub ended_any : (sort : Item → Bool) (d : Draft) → sort End ≡ true → d.ended ≡ true → list_any sort (draft_items d) ≡ true
unfolding draft_items
ended_any sort d s h = rw h (any_right sort (Head d.name d.dummies ∷ map Declaration d.declarations ++ map Executable d.statements) (End ∷ []) (rw s refl))

some_past : (ss : List Statement) → no_statements ss ≡ false → list_any is_past_declarations (map Executable ss) ≡ true
some_past [] h = absurd cc
some_past (s ∷ ss) h = refl

past_any : (d : Draft) → no_statements d.statements ≡ false → list_any is_past_declarations (draft_items d) ≡ true
unfolding draft_items
past_any d h =
    let front = Head d.name d.dummies ∷ map Declaration d.declarations in
    any_left is_past_declarations (front ++ map Executable d.statements) (ending d.ended) (any_right is_past_declarations front (map Executable d.statements) (some_past d.statements h))

pub not_ended : (d : Draft) → d.ended ≡ false → list_any is_end (draft_items d) ≡ false
unfolding draft_items
not_ended d h =
    let front = Head d.name d.dummies ∷ map Declaration d.declarations in
    let a : list_any is_end (map Declaration d.declarations) ≡ false = any_map is_end Declaration (λ x. refl) d.declarations in
    let b : list_any is_end (map Executable d.statements) ≡ false = any_map is_end Executable (λ x. refl) d.statements in
    list_any-append is_end (front ++ map Executable d.statements) (ending d.ended)
    ∙ rw (list_any-append is_end front (map Executable d.statements), h, a, b) refl

some_items : (d : Draft) → 0 < length (draft_items d)
unfolding draft_items
some_items d = omega arith

pub out_misplaced : (d : Draft) (more : List (List Line)) (i : Item) → list_all is_item (draft_items d) ≡ true → is_out d i ≡ true → IsMisplaced (map item_group (draft_items d) ++ more) (length (draft_items d)) i
out_misplaced d more (Head n ds) k h = some_items d
out_misplaced d more (Declaration x) k h = elim (or_cases d.ended (not (no_statements d.statements)) h) [
  | inl e ↦ inr (stands (draft_items d) more is_past_declarations k (ended_any is_past_declarations d refl e))
  | inr n ↦ inr (stands (draft_items d) more is_past_declarations k (past_any d (not-true (no_statements d.statements) n)))
]
out_misplaced d more (Executable s) k h = inr (stands (draft_items d) more is_end k (ended_any is_end d refl h))
out_misplaced d more End k h = inr (stands (draft_items d) more is_end k (ended_any is_end d refl h))

pub first_misplaced : (gs : List (List Line)) (i : Item) → is_head i ≡ false → IsMisplaced gs 0 i
first_misplaced gs (Head n ds) h = absurd cc
first_misplaced gs (Declaration d) h = inl refl
first_misplaced gs (Executable s) h = inl refl
first_misplaced gs End h = inl refl
