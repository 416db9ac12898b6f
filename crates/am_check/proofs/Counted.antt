-- The lines in front of a group, counted byte by byte.
use Rattle.std.proofs.Common.{◌≡◌, ◌+◌, ◌-◌, ◌<◌, ◌≤◌, ◌==◌, ◌∙◌, ℕ, zero, suc, Bool, true, false, List, [], ◌∷◌, length, take, codes, refl, sym, ap, arith}
use Rattle.std.specs.Prelude.{if◌then◌else◌}
use Rattle.std.specs.List.{sum_by, starts_with}
use Rattle.std.proofs.lemmas.List.Sums.{sum_by-cons}
use Rattle.std.proofs.lemmas.Grind.{common_steps}
use Rattle.std.proofs.lemmas.Bool.Decides.{nat_tests}
use Rattle.am_log.specs.Faults.{lines_in}
use Rattle.am_log.specs.Groups.{groups as row_groups, onto_first as onto_row}
use Rattle.am_fortran.specs.Lines.{Line, lines_of, onto_first, goes_on, onto_group, groups}
use Rattle.am_fortran.proofs.Grouping.{goes_on_lines}
use Rattle.am_check.specs.FirstFault.{row_line}
use Rattle.am_check.specs.Phases.{line_of_group}

-- ---- groups of a proof

-- how many lines stand before the group at a place
unfoldable pub rows_before : ℕ → List ℕ → ℕ
rows_before left bs = sum_by lines_in (take left (row_groups bs))

pub rows_none : (left : ℕ) → rows_before left [] ≡ 0
unfolding rows_before row_groups
rows_none zero = refl
rows_none (suc left) = refl

pub rows_zero : (bs : List ℕ) → rows_before 0 bs ≡ 0
unfolding rows_before
rows_zero bs = refl

pub rows_start : (number : ℕ) (proof : List ℕ) → row_line proof number ≡ 1 + rows_before number proof
unfolding rows_before
rows_start number proof = refl

take_none : {A : Type 0} (f : A → ℕ) (left : ℕ) → sum_by f (take left []) ≡ 0
take_none f zero = refl
take_none f (suc left) = refl

plus_none : (n : ℕ) → 0 + n ≡ n
plus_none n = omega arith

-- 1 for the byte that ends a line
abbrev mark : ℕ → ℕ
mark b = if b == 10 then 1 else 0

line_more : (b : ℕ) (g : List ℕ) → lines_in (b ∷ g) ≡ mark b + lines_in g
line_more b g = elim (b == 10) as (λ t. (if t then suc (lines_in g) else lines_in g) ≡ (if t then 1 else 0) + lines_in g) [ true ↦ omega arith | false ↦ omega arith ]

ends_one : (b : ℕ) → (b == 10) ≡ true → mark b ≡ 1
ends_one b e = rw e refl

ends_none : (b : ℕ) → (b == 10) ≡ false → mark b ≡ 0
ends_none b e = rw e refl

sums : (n a g s : ℕ) → n ≡ a + g → n + s ≡ a + (g + s)
sums n a g s e = omega (arith, e)

row_onto : (left b : ℕ) (gs : List (List ℕ)) → sum_by lines_in (take (suc left) (onto_row b gs)) ≡ mark b + sum_by lines_in (take (suc left) gs)
row_onto left b [] = sum_by-cons lines_in (b ∷ []) (take left []) ∙ ap (λ (n : ℕ). lines_in (b ∷ []) + n) (take_none lines_in left) ∙ ap (λ (n : ℕ). n + 0) (line_more b [] ∙ plus_last (mark b))
  where
    plus_last : (n : ℕ) → n + 0 ≡ n
    plus_last n = omega arith
row_onto left b (g ∷ gs) =
    sum_by-cons lines_in (b ∷ g) (take left gs)
    ∙ sums (lines_in (b ∷ g)) (mark b) (lines_in g) (sum_by lines_in (take left gs)) (line_more b g)
    ∙ ap (λ (n : ℕ). mark b + n) (sym (sum_by-cons lines_in g (take left gs)))

pub rows_inside : (left b : ℕ) (bs : List ℕ) → 0 < left → (b == 10) ≡ false → rows_before left (b ∷ bs) ≡ rows_before left bs
unfolding rows_before row_groups
rows_inside zero b bs h e = absurd (omega arith)
rows_inside (suc left) b bs h e =
    let f : row_groups (b ∷ bs) ≡ onto_row b (row_groups bs) = rw e refl in
    let n = sum_by lines_in (take (suc left) (row_groups bs)) in
    ap (λ (z : List (List ℕ)). sum_by lines_in (take (suc left) z)) f ∙ row_onto left b (row_groups bs) ∙ ap (λ (k : ℕ). k + n) (ends_none b e) ∙ plus_none n

pub rows_more : (left b : ℕ) (bs : List ℕ) → 0 < left → (b == 10) ≡ true → starts_with ◌==◌ bs (codes "C+") ≡ true → rows_before left (b ∷ bs) ≡ 1 + rows_before left bs
unfolding rows_before row_groups
rows_more zero b bs h e s = absurd (omega arith)
rows_more (suc left) b bs h e s =
    let f : row_groups (b ∷ bs) ≡ onto_row b (row_groups bs) = rw (e, s) refl in
    let n = sum_by lines_in (take (suc left) (row_groups bs)) in
    ap (λ (z : List (List ℕ)). sum_by lines_in (take (suc left) z)) f ∙ row_onto left b (row_groups bs) ∙ ap (λ (k : ℕ). k + n) (ends_one b e)

pub rows_next : (left b : ℕ) (bs : List ℕ) → 0 < left → (b == 10) ≡ true → starts_with ◌==◌ bs (codes "C+") ≡ false → rows_before left (b ∷ bs) ≡ 1 + rows_before (left - 1) bs
unfolding rows_before row_groups
rows_next zero b bs h e s = absurd (omega arith)
rows_next (suc left) b bs h e s =
    let f : row_groups (b ∷ bs) ≡ (b ∷ []) ∷ row_groups bs = rw (e, s) refl in
    let g : suc left - 1 ≡ left = omega arith in
    let l : lines_in (b ∷ []) ≡ 1 = rw e refl in
    ap (λ (z : List (List ℕ)). sum_by lines_in (take (suc left) z)) f
    ∙ sum_by-cons lines_in (b ∷ []) (take left (row_groups bs))
    ∙ ap (λ (k : ℕ). k + sum_by lines_in (take left (row_groups bs))) l
    ∙ ap (λ (k : ℕ). 1 + sum_by lines_in (take k (row_groups bs))) (sym g)

pub ruleset rows_counted = (common_steps, nat_tests, rows_start, rows_none, rows_zero, rows_inside, rows_more, rows_next)

-- ---- groups of a unit

-- how many lines stand before the group at a place
unfoldable pub groups_before : ℕ → List ℕ → ℕ
groups_before left bs = sum_by length (take left (groups (lines_of bs)))

pub groups_start : (place : ℕ) (unit : List ℕ) → line_of_group unit place ≡ 1 + groups_before place unit
unfolding groups_before
groups_start place unit = refl

pub groups_none : (left : ℕ) → groups_before left [] ≡ 0
unfolding groups_before lines_of groups
groups_none zero = refl
groups_none (suc left) = refl

pub groups_zero : (bs : List ℕ) → groups_before 0 bs ≡ 0
unfolding groups_before
groups_zero bs = refl

group_onto : (left : ℕ) (l : Line) (gs : List (List Line)) → sum_by length (take (suc left) (onto_group l gs)) ≡ 1 + sum_by length (take (suc left) gs)
unfolding onto_group
group_onto left l [] = sum_by-cons length (l ∷ []) (take left []) ∙ ap (λ (n : ℕ). 1 + n) (take_none length left)
group_onto left l (g ∷ gs) =
    sum_by-cons length (l ∷ g) (take left gs)
    ∙ sums (length (l ∷ g)) 1 (length g) (sum_by length (take left gs)) (omega arith)
    ∙ ap (λ (n : ℕ). 1 + n) (sym (sum_by-cons length g (take left gs)))

group_alone : (left : ℕ) (l : Line) (gs : List (List Line)) → sum_by length (take (suc left) ((l ∷ []) ∷ gs)) ≡ 1 + sum_by length (take left gs)
group_alone left l gs = sum_by-cons length (l ∷ []) (take left gs)

-- the first line's text doesn't tell groups apart
group_line : (left : ℕ) (l m : Line) (ls : List Line) → sum_by length (take (suc left) (groups (l ∷ ls))) ≡ sum_by length (take (suc left) (groups (m ∷ ls)))
unfolding groups
group_line left l m ls = elim (goes_on ls) as (λ t. sum_by length (take (suc left) (if t then onto_group l (groups ls) else (l ∷ []) ∷ groups ls)) ≡ sum_by length (take (suc left) (if t then onto_group m (groups ls) else (m ∷ []) ∷ groups ls))) [
  | true ↦ group_onto left l (groups ls) ∙ sym (group_onto left m (groups ls))
  | false ↦ group_alone left l (groups ls) ∙ sym (group_alone left m (groups ls))
]

group_inside : (left b : ℕ) (ls : List Line) → 0 < length ls → sum_by length (take (suc left) (groups (onto_first b ls))) ≡ sum_by length (take (suc left) (groups ls))
unfolding onto_first
group_inside left b [] h = absurd (omega arith)
group_inside left b (l ∷ ls) h = group_line left _ l ls

some_onto : (b : ℕ) (ls : List Line) → 0 < length (onto_first b ls)
unfolding onto_first
some_onto b [] = omega arith
some_onto b (l ∷ ls) = omega arith

some_lines : (bs : List ℕ) → 0 < length bs → 0 < length (lines_of bs)
unfolding lines_of
some_lines [] h = absurd (omega arith)
some_lines (b ∷ bs) h = elim (b == 10) as (λ t. 0 < length (if t then record { text = []; ended = true } ∷ lines_of bs else onto_first b (lines_of bs))) [ true ↦ omega arith | false ↦ some_onto b (lines_of bs) ]

pub groups_inside : (left b : ℕ) (bs : List ℕ) → 0 < left → (b == 10) ≡ false → 0 < length bs → groups_before left (b ∷ bs) ≡ groups_before left bs
unfolding groups_before lines_of
groups_inside zero b bs h e s = absurd (omega arith)
groups_inside (suc left) b bs h e s =
    let f : lines_of (b ∷ bs) ≡ onto_first b (lines_of bs) = rw e refl in
    ap (λ (z : List Line). sum_by length (take (suc left) (groups z))) f ∙ group_inside left b (lines_of bs) (some_lines bs s)

pub groups_last : (left b : ℕ) (bs : List ℕ) → 0 < left → (b == 10) ≡ false → length bs ≡ 0 → groups_before left (b ∷ bs) ≡ 1 + groups_before left bs
unfolding groups_before lines_of groups onto_first
groups_last zero b bs h e s = absurd (omega arith)
groups_last (suc left) b [] h e s =
    let f : lines_of (b ∷ []) ≡ record { text = b ∷ []; ended = false } ∷ [] = rw e refl in
    ap (λ (z : List Line). sum_by length (take (suc left) (groups z))) f ∙ group_alone left (record { text = b ∷ []; ended = false }) [] ∙ ap (λ (n : ℕ). 1 + n) (take_none length left)
groups_last (suc left) b (d ∷ bs) h e s = absurd (omega (arith, s))

ended_line : (b : ℕ) (bs : List ℕ) → (b == 10) ≡ true → lines_of (b ∷ bs) ≡ record { text = []; ended = true } ∷ lines_of bs
unfolding lines_of
ended_line b bs e = rw e refl

group_with : (l : Line) (ls : List Line) (t : Bool) → goes_on ls ≡ t → groups (l ∷ ls) ≡ (if t then onto_group l (groups ls) else (l ∷ []) ∷ groups ls)
unfolding groups
group_with l ls t e = rw e refl

pub groups_more : (left b : ℕ) (bs : List ℕ) → 0 < left → (b == 10) ≡ true → starts_with ◌==◌ bs (codes "     .") ≡ true → groups_before left (b ∷ bs) ≡ 1 + groups_before left bs
unfolding groups_before
groups_more zero b bs h e s = absurd (omega arith)
groups_more (suc left) b bs h e s =
    ap (λ (z : List Line). sum_by length (take (suc left) (groups z))) (ended_line b bs e)
    ∙ ap (λ (z : List (List Line)). sum_by length (take (suc left) z)) (group_with (record { text = []; ended = true }) (lines_of bs) true (goes_on_lines bs ∙ s))
    ∙ group_onto left (record { text = []; ended = true }) (groups (lines_of bs))

pub groups_next : (left b : ℕ) (bs : List ℕ) → 0 < left → (b == 10) ≡ true → starts_with ◌==◌ bs (codes "     .") ≡ false → groups_before left (b ∷ bs) ≡ 1 + groups_before (left - 1) bs
unfolding groups_before
groups_next zero b bs h e s = absurd (omega arith)
groups_next (suc left) b bs h e s =
    let g : suc left - 1 ≡ left = omega arith in
    ap (λ (z : List Line). sum_by length (take (suc left) (groups z))) (ended_line b bs e)
    ∙ ap (λ (z : List (List Line)). sum_by length (take (suc left) z)) (group_with (record { text = []; ended = true }) (lines_of bs) false (goes_on_lines bs ∙ s))
    ∙ group_alone left (record { text = []; ended = true }) (groups (lines_of bs))
    ∙ ap (λ (k : ℕ). 1 + sum_by length (take k (groups (lines_of bs)))) (sym g)

pub ruleset groups_counted = (common_steps, nat_tests, groups_start, groups_none, groups_zero, groups_inside, groups_last, groups_more, groups_next)

-- no group stands behind more lines than there are bytes
pub groups_few : (left : ℕ) (bs : List ℕ) → groups_before left bs ≤ length bs
groups_few zero bs = let e = groups_zero bs in omega (arith, e)
groups_few (suc left) [] = let e = groups_none (suc left) in omega (arith, e)
groups_few (suc left) (b ∷ bs) = few_step left b bs (b == 10) refl (starts_with ◌==◌ bs (codes "     .")) refl (groups_few (suc left) bs) (groups_few left bs)
  where
    few_step : (left b : ℕ) (bs : List ℕ) (t : Bool) → (b == 10) ≡ t → (s : Bool) → starts_with ◌==◌ bs (codes "     .") ≡ s → groups_before (suc left) bs ≤ length bs → groups_before left bs ≤ length bs → groups_before (suc left) (b ∷ bs) ≤ length (b ∷ bs)
    few_step left b bs true e true s h k = let f = groups_more (suc left) b bs (omega arith) e s in let l : length (b ∷ bs) ≡ suc (length bs) = refl in omega (arith, f, h, l)
    few_step left b bs true e false s h k = let f = groups_next (suc left) b bs (omega arith) e s in let g : groups_before (suc left - 1) bs ≡ groups_before left bs = ap (λ (z : ℕ). groups_before z bs) (omega arith) in let l : length (b ∷ bs) ≡ suc (length bs) = refl in omega (arith, f, k, g, l)
    few_step left b [] false e q s h k = let f = groups_last (suc left) b [] (omega arith) e refl in omega (arith, f, h)
    few_step left b (d ∷ bs) false e q s h k = let f = groups_inside (suc left) b (d ∷ bs) (omega arith) e (omega arith) in omega (arith, f, h)
