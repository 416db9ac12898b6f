-- The groups of a unit's text are the texts of its items.
use Rattle.std.proofs.Common.{◌≡◌, ◌++◌, ◌≤◌, ℕ, Bool, true, false, List, [], ◌∷◌, length, codes, map, refl, sym, ap, subst, ◌∙◌}
use Rattle.std.specs.List.{flat_map, list_all}
use Rattle.std.specs.Prelude.{◌&&◌}
use Rattle.std.proofs.lemmas.Bool.{and_parts, le-leb}
use Rattle.std.proofs.lemmas.List.Concat.{flat_map-append}
use Rattle.std.proofs.lemmas.List.Folds.{list_all-append, list_all-map, flat_map-map}
use mathlib.Core.List.{append_assoc, append-nil}
use Rattle.std.proofs.Props.{props}
use Rattle.am_term.specs.Names.{is_fortran_name}
use Rattle.am_fortran.specs.Text.{line, declaration_text, statement_text, head_text, unit_text}
use Rattle.am_fortran.specs.Well.{is_declaration, is_statement, fits_statement}
use Rattle.am_fortran.specs.Items.{is_item, item_text}
use Rattle.am_fortran.specs.Lines.{Line, lines_of, goes_on, groups, group_text}
use Rattle.am_fortran.specs.Units.{IsUnit, unit_items}
use Rattle.am_fortran.specs.declared.item.Item.{Item}
use Rattle.am_fortran.specs.declared.item.Item.TheVariants.{Head, Declaration, Executable, End}
use Rattle.am_fortran.specs.declared.statement.Decl.{Decl}
use Rattle.am_fortran.specs.declared.statement.Statement.{Statement}
use Rattle.am_fortran.specs.declared.unit.Unit.{Unit as Subroutine}
use Rattle.am_fortran.proofs.Again.{item_injective}
use Rattle.am_fortran.proofs.Grouping.{whole, lines_over, group_first, text_lines}
use Rattle.am_fortran.proofs.Rows.{Rows, made, IsStatement, item_statement}

lines_made : (ls : List (List ℕ)) → Rows ls → (rest : List ℕ) → lines_of (made ls ++ rest) ≡ map whole ls ++ lines_of rest
lines_made [] r rest = refl
lines_made (l ∷ ls) r rest =
    ap lines_of (append_assoc (l ++ 10 ∷ []) (made ls) rest ∙ append_assoc l (10 ∷ []) (made ls ++ rest))
    ∙ lines_over l (made ls ++ rest) r.0.inside
    ∙ ap (λ (z : List Line). whole l ∷ z) (lines_made ls r.1 rest)

pub statement_lines : (t : List ℕ) (s : IsStatement t) → lines_of t ≡ map whole (s.first ∷ s.more)
unfolding lines_of
statement_lines t s = ap lines_of (s.is ∙ sym (append-nil (made (s.first ∷ s.more)))) ∙ lines_made (s.first ∷ s.more) (s.row, s.rows) [] ∙ append-nil (map whole (s.first ∷ s.more))

more_lines : (t rest : List ℕ) (s : IsStatement t) → lines_of (t ++ rest) ≡ map whole (s.first ∷ s.more) ++ lines_of rest
more_lines t rest s = ap (λ (z : List ℕ). lines_of (z ++ rest)) s.is ∙ lines_made (s.first ∷ s.more) (s.row, s.rows) rest

pub statement_split : (t rest : List ℕ) → IsStatement t → lines_of (t ++ rest) ≡ lines_of t ++ lines_of rest
statement_split t rest s = more_lines t rest s ∙ ap (λ (z : List Line). z ++ lines_of rest) (sym (statement_lines t s))

begins_group : (t rest : List ℕ) → IsStatement t → goes_on (lines_of (t ++ rest)) ≡ false
begins_group t rest s = ap goes_on (more_lines t rest s) ∙ s.begins

pub statement_group : (t rest : List ℕ) → IsStatement t → goes_on (lines_of rest) ≡ false → groups (lines_of (t ++ rest)) ≡ lines_of t ∷ groups (lines_of rest)
statement_group t rest s g =
    ap groups (more_lines t rest s)
    ∙ group_first (map whole (s.first ∷ s.more)) (lines_of rest) s.goes g
    ∙ ap (λ (z : List Line). z ∷ groups (lines_of rest)) (sym (statement_lines t s))

-- the group of an item
abbrev pub item_group : Item → List Line
item_group i = lines_of (item_text i)

pub items_begin : (is : List Item) (rest : List ℕ) → list_all is_item is ≡ true → goes_on (lines_of rest) ≡ false → goes_on (lines_of (flat_map item_text is ++ rest)) ≡ false
items_begin [] rest h g = g
items_begin (i ∷ is) rest h g =
    let p = and_parts (is_item i) (list_all is_item is) h in
    ap (λ (z : List ℕ). goes_on (lines_of z)) (append_assoc (item_text i) (flat_map item_text is) rest)
    ∙ begins_group (item_text i) (flat_map item_text is ++ rest) (item_statement i p.0)

pub items_groups : (is : List Item) (rest : List ℕ) → list_all is_item is ≡ true → goes_on (lines_of rest) ≡ false → groups (lines_of (flat_map item_text is ++ rest)) ≡ map item_group is ++ groups (lines_of rest)
items_groups [] rest h g = refl
items_groups (i ∷ is) rest h g =
    let p = and_parts (is_item i) (list_all is_item is) h in
    ap (λ (z : List ℕ). groups (lines_of z)) (append_assoc (item_text i) (flat_map item_text is) rest)
    ∙ statement_group (item_text i) (flat_map item_text is ++ rest) (item_statement i p.0) (items_begin is rest p.1 g)
    ∙ ap (λ (z : List (List Line)). item_group i ∷ z) (items_groups is rest p.1 g)

-- a unit's items

pub unit_items_text : (u : Subroutine) → unit_text u ≡ flat_map item_text (unit_items u)
unfolding unit_text unit_items item_text
unit_items_text u =
    let front = Head u.name u.dummies ∷ map Declaration u.declarations in
    let head = head_text u.name u.dummies in
    let last = line (codes "END") in
    sym (
    flat_map-append item_text (front ++ map Executable u.statements) (End ∷ [])
    ∙ ap (λ (z : List ℕ). z ++ (last ++ [])) (flat_map-append item_text front (map Executable u.statements))
    ∙ ap (λ (z : List ℕ). ((head ++ z) ++ flat_map item_text (map Executable u.statements)) ++ (last ++ [])) (flat_map-map item_text Declaration u.declarations)
    ∙ ap (λ (z : List ℕ). ((head ++ flat_map declaration_text u.declarations) ++ z) ++ (last ++ [])) (flat_map-map item_text Executable u.statements)
    ∙ ap (λ (z : List ℕ). ((head ++ flat_map declaration_text u.declarations) ++ flat_map statement_text u.statements) ++ z) (append-nil last))

all_both : {X : Type 0} (p q : X → Bool) (xs : List X) → list_all p xs ≡ true → list_all q xs ≡ true → list_all (λ x. p x && q x) xs ≡ true
all_both p q [] h k = refl
all_both p q (x ∷ xs) h k =
    let a = and_parts (p x) (list_all p xs) h in
    let b = and_parts (q x) (list_all q xs) k in
    rw (a.0, b.0, all_both p q xs a.1 b.1) refl

pub head_well : (n : List ℕ) (ds : List (List ℕ)) → is_fortran_name n ≡ true → list_all is_fortran_name ds ≡ true → 1 ≤ length ds → length ds ≤ 18 → is_item (Head n ds) ≡ true
unfolding is_item
head_well n ds h k a b = rw (h, k, le-leb 1 (length ds) a, le-leb (length ds) 18 b) refl

pub unit_items_well : (u : Subroutine) → IsUnit u → list_all is_item (unit_items u) ≡ true
unfolding unit_items is_item
unit_items_well u h =
    let front = Head u.name u.dummies ∷ map Declaration u.declarations in
    let head = head_well u.name u.dummies u.named u.dummies_named u.some_dummy u.few_dummies in
    let middle : list_all is_item (map Declaration u.declarations) ≡ true = list_all-map is_item Declaration u.declarations ∙ u.declared in
    let back : list_all is_item (map Executable u.statements) ≡ true = list_all-map is_item Executable u.statements ∙ all_both is_statement fits_statement u.statements u.stated h.fits in
    list_all-append is_item (front ++ map Executable u.statements) (End ∷ [])
    ∙ ap (λ (z : Bool). z && true) (list_all-append is_item front (map Executable u.statements))
    ∙ rw (head, middle, back) refl

pub unit_groups : (u : Subroutine) → IsUnit u → groups (lines_of (unit_text u)) ≡ map item_group (unit_items u)
unfolding lines_of groups
unit_groups u h =
    ap (λ (z : List ℕ). groups (lines_of z)) (unit_items_text u ∙ sym (append-nil (flat_map item_text (unit_items u))))
    ∙ items_groups (unit_items u) [] (unit_items_well u h) refl
    ∙ append-nil (map item_group (unit_items u))

groups_injective : (is js : List Item) → list_all is_item is ≡ true → list_all is_item js ≡ true → map item_group is ≡ map item_group js → is ≡ js
groups_injective [] [] h k e = refl
groups_injective [] (j ∷ js) h k e = absurd cc
groups_injective (i ∷ is) [] h k e = absurd cc
groups_injective (i ∷ is) (j ∷ js) h k e =
    let p = and_parts (is_item i) (list_all is_item is) h in
    let q = and_parts (is_item j) (list_all is_item js) k in
    let g : item_group i ≡ item_group j = cc in
    let r : map item_group is ≡ map item_group js = cc in
    let t : item_text i ≡ item_text j = sym (text_lines (item_text i)) ∙ ap group_text g ∙ text_lines (item_text j) in
    let x = item_injective i j p.0 q.0 t in
    let y = groups_injective is js p.1 q.1 r in
    cc

-- the items tell the unit

abbrev Four : Type 0
Four = List ℕ × List (List ℕ) × List Decl × List Statement

pub record Kept (x : Four) : Type 0 where
  pub named : is_fortran_name x.0 ≡ true
  pub dummies_named : list_all is_fortran_name x.1 ≡ true
  pub some_dummy : 1 ≤ length x.1
  pub few_dummies : length x.1 ≤ 18
  pub declared : list_all is_declaration x.2 ≡ true
  pub stated : list_all is_statement x.3 ≡ true

kept_once : (x : Four) → IsProp (Kept x)
kept_once x = hlevel props

build : (x : Four) → Kept x → Subroutine
build x k = record { name = x.0; dummies = x.1; declarations = x.2; statements = x.3; named = k.named; dummies_named = k.dummies_named; some_dummy = k.some_dummy; few_dummies = k.few_dummies; declared = k.declared; stated = k.stated }

build_same : (x y : Four) → x ≡ y → (k : Kept x) (l : Kept y) → build x k ≡ build y l
build_same x y e = subst (λ (z : Four). (k : Kept x) (l : Kept z) → build x k ≡ build z l) e (λ k l. ap (build x) (kept_once x k l))

same_unit : (u v : Subroutine) → u.name ≡ v.name → u.dummies ≡ v.dummies → u.declarations ≡ v.declarations → u.statements ≡ v.statements → u ≡ v
unfolding build
same_unit u v a b c d =
    let x : Four = (u.name, u.dummies, u.declarations, u.statements) in
    let y : Four = (v.name, v.dummies, v.declarations, v.statements) in
    let k : Kept x = record { named = u.named; dummies_named = u.dummies_named; some_dummy = u.some_dummy; few_dummies = u.few_dummies; declared = u.declared; stated = u.stated } in
    let l : Kept y = record { named = v.named; dummies_named = v.dummies_named; some_dummy = v.some_dummy; few_dummies = v.few_dummies; declared = v.declared; stated = v.stated } in
    let e : x ≡ y = cc in
    build_same x y e k l

-- declarations and statements apart
same_tail : (ss ts : List Statement) → map Executable ss ++ End ∷ [] ≡ map Executable ts ++ End ∷ [] → ss ≡ ts
same_tail [] [] e = refl
same_tail [] (t ∷ ts) e = absurd cc
same_tail (s ∷ ss) [] e = absurd cc
same_tail (s ∷ ss) (t ∷ ts) e =
    let p : s ≡ t = cc in
    let q : map Executable ss ++ End ∷ [] ≡ map Executable ts ++ End ∷ [] = cc in
    let r = same_tail ss ts q in
    cc

abbrev tail_of : List Decl → List Statement → List Item
tail_of ds ss = map Declaration ds ++ (map Executable ss ++ End ∷ [])

same_lists : (ds es : List Decl) (ss ts : List Statement) → tail_of ds ss ≡ tail_of es ts → (ds ≡ es) × (ss ≡ ts)
same_lists [] [] ss ts e = (refl, same_tail ss ts e)
same_lists [] (d ∷ es) [] ts e = absurd cc
same_lists [] (d ∷ es) (s ∷ ss) ts e = absurd cc
same_lists (d ∷ ds) [] ss [] e = absurd cc
same_lists (d ∷ ds) [] ss (t ∷ ts) e = absurd cc
same_lists (d ∷ ds) (c ∷ es) ss ts e =
    let p : d ≡ c = cc in
    let q : tail_of ds ss ≡ tail_of es ts = cc in
    let r = same_lists ds es ss ts q in
    let x : d ∷ ds ≡ c ∷ es = cc (p, r.0) in
    (x, r.1)

items_tell : (u v : Subroutine) → unit_items u ≡ unit_items v → u ≡ v
unfolding unit_items
items_tell u v e =
    let a = append_assoc (Head u.name u.dummies ∷ map Declaration u.declarations) (map Executable u.statements) (End ∷ []) in
    let b = append_assoc (Head v.name v.dummies ∷ map Declaration v.declarations) (map Executable v.statements) (End ∷ []) in
    let f : Head u.name u.dummies ∷ tail_of u.declarations u.statements ≡ Head v.name v.dummies ∷ tail_of v.declarations v.statements = sym a ∙ e ∙ b in
    let n : u.name ≡ v.name = cc f in
    let d : u.dummies ≡ v.dummies = cc f in
    let t : tail_of u.declarations u.statements ≡ tail_of v.declarations v.statements = cc f in
    let r = same_lists u.declarations v.declarations u.statements v.statements t in
    same_unit u v n d r.0 r.1

-- no two units have one text
pub unit_injective : (u v : Subroutine) → IsUnit u → IsUnit v → unit_text u ≡ unit_text v → u ≡ v
unit_injective u v h k e =
    items_tell u v (groups_injective (unit_items u) (unit_items v) (unit_items_well u h) (unit_items_well v k)
    (sym (unit_groups u h) ∙ ap (λ (t : List ℕ). groups (lines_of t)) e ∙ unit_groups v k))
