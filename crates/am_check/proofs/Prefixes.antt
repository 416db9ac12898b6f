-- What is left of an accepted text without a part at its end isn't accepted: the line of a unit's end stands last.
use Rattle.std.proofs.Common.{◌≡◌, ◌≢◌, ◌∙◌, ◌+◌, ◌++◌, ℕ, true, false, refl, sym, ap, subst, arith, List, [], ◌∷◌, length, get_or, codes, map}
use Rattle.std.specs.Prelude.{◌&&◌, ◌==◌, nat_le, if◌then◌else◌}
use Rattle.std.specs.List.{flat_map, list_all, AllByRecursion}
use Rattle.std.proofs.lemmas.Bool.{and_parts}
use Rattle.std.proofs.lemmas.List.Concat.{flat_map-append}
use mathlib.Core.List.{append_assoc, append-nil}
use Rattle.am_term.specs.Names.{is_fortran_name, is_fortran_byte, is_upper}
use Rattle.am_log.specs.Laws.{OneSplit, LogIsTheProofPart}
use Rattle.am_log.specs.Split.{IsSplit}
use Rattle.am_log.specs.Text.{log_text}
use Rattle.am_fortran.specs.Items.{is_item, item_text}
use Rattle.am_fortran.specs.Lines.{Line, lines_of, onto_first, is_continuation}
use Rattle.am_fortran.specs.Text.{line, with_commas, continued, with_list, type_text, extents_text, operand_text, declaration_text, statement_text, head_text, unit_text}
use Rattle.am_fortran.specs.Units.{IsUnit, unit_items}
use Rattle.am_fortran.specs.Well.{is_statement}
use Rattle.am_fortran.specs.declared.item.Item.{Item}
use Rattle.am_fortran.specs.declared.item.Item.TheVariants.{Head, Declaration, Executable, End}
use Rattle.am_fortran.specs.declared.statement.FortranType.{FortranType}
use Rattle.am_fortran.specs.declared.statement.FortranType.TheVariants.{Double, Integer, Logical, Char, CharAny, DoubleVec, DoubleMat, IntegerVec}
use Rattle.am_fortran.specs.declared.statement.Statement.{Statement}
use Rattle.am_fortran.specs.declared.statement.Statement.TheVariants.{Call, Assign, Apply}
use Rattle.am_fortran.specs.declared.unit.Unit.{Unit as Subroutine}
use Rattle.am_fortran.proofs.Grouping.{whole}
use Rattle.am_fortran.proofs.Parts.{item_group, statement_lines, statement_split, unit_items_text, unit_items_well}
use Rattle.am_fortran.proofs.Rows.{made, item_statement}
use Rattle.am_check.specs.Laws.{NoPrefix}
use Rattle.am_check.proofs.Outcomes.{unit-without}

-- ---- texts that begin with the line of the end

pub record EndsAt (z : List ℕ) : Type 0 where
  pub rest : List ℕ
  pub is : z ≡ codes "      END" ++ 10 ∷ rest

-- a text with another byte at one of the places of that line
other-byte : (z : List ℕ) (k b : ℕ) → EndsAt z → get_or z k 0 ≡ b → ((rest : List ℕ) → b ≡ get_or (codes "      END" ++ 10 ∷ rest) k 0 → ⊥) → ⊥
other-byte z k b e g n = n e.rest (sym g ∙ ap (λ (x : List ℕ). get_or x k 0) e.is)

pub with-either : (P : List ℕ → Type 0) (front : List ℕ) (ms : List (List ℕ)) → P (line (front ++ with_commas ms ++ codes ")")) → P (line front ++ continued ms) → P (with_list front ms)
unfolding with_list
with-either P front ms a b = elim (nat_le (6 + length (front ++ with_commas ms ++ codes ")")) 72) as (λ t. P (if t then line (front ++ with_commas ms ++ codes ")") else line front ++ continued ms)) [ true ↦ a | false ↦ b ]

-- the first byte behind the blanks is another
not-head : (n : List ℕ) (ds : List (List ℕ)) → EndsAt (head_text n ds) → ⊥
unfolding head_text line
not-head n ds = with-either (λ z. EndsAt z → ⊥) (codes "SUBROUTINE " ++ n ++ codes "(") ds
    (λ e. other-byte _ 6 83 e refl (λ r f. absurd (omega (arith, f)))) (λ e. other-byte _ 6 83 e refl (λ r f. absurd (omega (arith, f))))

not-call : (r : List ℕ) (ms : List (List ℕ)) → EndsAt (with_list (codes "CALL " ++ r ++ codes "(") ms) → ⊥
unfolding line
not-call n ms = with-either (λ z. EndsAt z → ⊥) (codes "CALL " ++ n ++ codes "(") ms
    (λ e. other-byte _ 6 67 e refl (λ r f. absurd (omega (arith, f)))) (λ e. other-byte _ 6 67 e refl (λ r f. absurd (omega (arith, f))))

not-declared : (ty : FortranType) (n : List ℕ) → EndsAt (line (type_text ty ++ n ++ extents_text ty)) → ⊥
unfolding line
not-declared Double n e = other-byte _ 6 68 e refl (λ r f. absurd (omega (arith, f)))
not-declared Integer n e = other-byte _ 6 73 e refl (λ r f. absurd (omega (arith, f)))
not-declared Logical n e = other-byte _ 6 76 e refl (λ r f. absurd (omega (arith, f)))
not-declared (Char k) n e = other-byte _ 6 67 e refl (λ r f. absurd (omega (arith, f)))
not-declared CharAny n e = other-byte _ 6 67 e refl (λ r f. absurd (omega (arith, f)))
not-declared (DoubleVec m) n e = other-byte _ 6 68 e refl (λ r f. absurd (omega (arith, f)))
not-declared (DoubleMat m k) n e = other-byte _ 6 68 e refl (λ r f. absurd (omega (arith, f)))
not-declared (IntegerVec m) n e = other-byte _ 6 73 e refl (λ r f. absurd (omega (arith, f)))

-- a name and a blank
not-named : (t tail : List ℕ) → is_fortran_name t ≡ true → EndsAt (codes "      " ++ (t ++ 32 ∷ tail)) → ⊥
unfolding is_fortran_name
not-named [] tail h e = absurd cc
not-named (a ∷ []) tail h e = other-byte _ 7 32 e refl (λ r f. absurd (omega (arith, f)))
not-named (a ∷ b ∷ []) tail h e = other-byte _ 8 32 e refl (λ r f. absurd (omega (arith, f)))
not-named (a ∷ b ∷ c ∷ []) tail h e = other-byte _ 9 32 e refl (λ r f. absurd (omega (arith, f)))
not-named (a ∷ b ∷ c ∷ x ∷ xs) tail h e = other-byte _ 9 x e refl (λ r f.
    let p = and_parts (is_upper a) (list_all is_fortran_byte (b ∷ c ∷ x ∷ xs) && nat_le (length (b ∷ c ∷ x ∷ xs)) 5) h in
    let q = and_parts (list_all is_fortran_byte (b ∷ c ∷ x ∷ xs)) (nat_le (length (b ∷ c ∷ x ∷ xs)) 5) p.1 in
    let s = and_parts (is_fortran_byte b) (list_all is_fortran_byte (c ∷ x ∷ xs)) q.0 in
    let u = and_parts (is_fortran_byte c) (list_all is_fortran_byte (x ∷ xs)) s.1 in
    let v = and_parts (is_fortran_byte x) (list_all is_fortran_byte xs) u.1 in
    let w : is_fortran_byte 10 ≡ true = ap is_fortran_byte (sym f) ∙ v.0 in absurd cc)

two : (t e f n : List ℕ) → ((t ++ e) ++ f) ++ n ≡ t ++ (e ++ (f ++ n))
two t e f n = append_assoc (t ++ e) f n ∙ append_assoc t e (f ++ n)

four : (t e f p l : List ℕ) → ((((t ++ e) ++ f) ++ p) ++ l) ≡ t ++ (e ++ (f ++ (p ++ l)))
four t e f p l = append_assoc ((t ++ e) ++ f) p l ∙ two t e f (p ++ l)

not-assign : (t from : List ℕ) → is_fortran_name t ≡ true → EndsAt (line (t ++ codes " = " ++ from)) → ⊥
unfolding line
not-assign t from h e = not-named t _ h (subst EndsAt (ap (λ (z : List ℕ). codes "      " ++ z) (two t (codes " = ") from (10 ∷ []))) e)

not-apply : (t f : List ℕ) (ms : List (List ℕ)) → is_fortran_name t ≡ true → EndsAt (with_list (t ++ codes " = " ++ f ++ codes "(") ms) → ⊥
unfolding line
not-apply t f ms h = with-either (λ z. EndsAt z → ⊥) (t ++ codes " = " ++ f ++ codes "(") ms
    (λ e. not-named t _ h (subst EndsAt (ap (λ (z : List ℕ). codes "      " ++ z) (ap (λ (z : List ℕ). z ++ 10 ∷ []) (append_assoc (t ++ codes " = " ++ f ++ codes "(") (with_commas ms) (codes ")")) ∙ append_assoc (t ++ codes " = " ++ f ++ codes "(") (with_commas ms ++ codes ")") (10 ∷ []) ∙ four t (codes " = ") f (codes "(") ((with_commas ms ++ codes ")") ++ 10 ∷ []))) e))
    (λ e. not-named t _ h (subst EndsAt (ap (λ (z : List ℕ). codes "      " ++ z) (append_assoc (t ++ codes " = " ++ f ++ codes "(") (10 ∷ []) (continued ms) ∙ four t (codes " = ") f (codes "(") (10 ∷ [] ++ continued ms))) e))

not-stated : (s : Statement) → is_statement s ≡ true → EndsAt (statement_text s) → ⊥
unfolding statement_text is_statement
not-stated (Call r args) h = not-call r (map operand_text args)
not-stated (Assign t from) h = not-assign t (operand_text from) (and_parts (is_fortran_name t) _ h).0
not-stated (Apply t f args) h = not-apply t f (map operand_text args) (and_parts (is_fortran_name t) _ h).0

-- an item in front of the end
abbrev Inner : Item → Type 0
Inner (Head n ds) = Unit {0}
Inner (Declaration d) = Unit {0}
Inner (Executable s) = Unit {0}
Inner End = ⊥

not-inner : (i : Item) → Inner i → is_item i ≡ true → EndsAt (item_text i) → ⊥
unfolding item_text is_item declaration_text
not-inner (Head n ds) q h = not-head n ds
not-inner (Declaration d) q h = not-declared d.ty d.name
not-inner (Executable s) q h = not-stated s (and_parts (is_statement s) _ h).0
not-inner End q h = absurd q

-- ---- lines

abbrev pub end_of_unit : Line
end_of_unit = whole (codes "      END")

abbrev pub Other : Line → Type 0
Other l = l ≡ end_of_unit → ⊥

others-on : (ms : List (List ℕ)) → list_all is_continuation (map whole ms) ≡ true → AllByRecursion Other (map whole ms)
others-on [] h = tt
others-on (m ∷ ms) h =
    let p = and_parts (is_continuation (whole m)) (list_all is_continuation (map whole ms)) h in
    (λ e. let f : is_continuation (whole (codes "      END")) ≡ true = ap is_continuation (sym e) ∙ p.0 in absurd cc, others-on ms p.1)

group-other : (i : Item) → Inner i → is_item i ≡ true → AllByRecursion Other (item_group i)
group-other i q h =
    let s = item_statement i h in
    subst (AllByRecursion Other) (sym (statement_lines (item_text i) s))
    (λ e. not-inner i q h (record { rest = made s.more; is = s.is ∙ ap (λ (z : List ℕ). made (z ∷ s.more)) (ap (λ (l : Line). l.text) e) }), others-on s.more s.goes)

all-append : {X : Type 0} (P : X → Type 0) (xs ys : List X) → AllByRecursion P xs → AllByRecursion P ys → AllByRecursion P (xs ++ ys)
all-append P [] ys h k = k
all-append P (x ∷ xs) ys h k = (h.0, all-append P xs ys h.1 k)

items-lines : (is : List Item) (rest : List ℕ) → list_all is_item is ≡ true → lines_of (flat_map item_text is ++ rest) ≡ flat_map item_group is ++ lines_of rest
items-lines [] rest h = refl
items-lines (i ∷ is) rest h =
    let p = and_parts (is_item i) (list_all is_item is) h in
    ap lines_of (append_assoc (item_text i) (flat_map item_text is) rest)
    ∙ statement_split (item_text i) (flat_map item_text is ++ rest) (item_statement i p.0)
    ∙ ap (λ (z : List Line). item_group i ++ z) (items-lines is rest p.1)
    ∙ sym (append_assoc (item_group i) (flat_map item_group is) (lines_of rest))

items-other : (is : List Item) → AllByRecursion Inner is → list_all is_item is ≡ true → AllByRecursion Other (flat_map item_group is)
items-other [] q h = tt
items-other (i ∷ is) q h =
    let p = and_parts (is_item i) (list_all is_item is) h in
    all-append Other (item_group i) (flat_map item_group is) (group-other i q.0 p.0) (items-other is q.1 p.1)

-- ---- a unit's text: other lines, and the end

front-of : Subroutine → List Item
front-of u = Head u.name u.dummies ∷ map Declaration u.declarations ++ map Executable u.statements

all-map : {A B : Type 0} (P : B → Type 0) (f : A → B) → ((x : A) → P (f x)) → (xs : List A) → AllByRecursion P (map f xs)
all-map P f h [] = tt
all-map P f h (x ∷ xs) = (h x, all-map P f h xs)

front-inner : (u : Subroutine) → AllByRecursion Inner (front-of u)
unfolding front-of
front-inner u = (tt, all-append Inner (map Declaration u.declarations) (map Executable u.statements) (all-map Inner Declaration (λ d. tt) u.declarations) (all-map Inner Executable (λ s. tt) u.statements))

items-front : (u : Subroutine) → unit_items u ≡ front-of u ++ End ∷ []
unfolding front-of unit_items
items-front u = refl

all-front : (is js : List Item) → list_all is_item (is ++ js) ≡ true → list_all is_item is ≡ true
all-front [] js h = refl
all-front (i ∷ is) js h = let p = and_parts (is_item i) (list_all is_item (is ++ js)) h in rw (p.0, all-front is js p.1) refl

pub record UnitLines (u : Subroutine) (more : List ℕ) : Type 0 where
  pub front : List Line
  pub others : AllByRecursion Other front
  pub are : lines_of (unit_text u ++ more) ≡ front ++ end_of_unit ∷ lines_of more

end-lines : (more : List ℕ) → lines_of (item_text End ++ more) ≡ end_of_unit ∷ lines_of more
unfolding item_text line lines_of onto_first
end-lines more = refl

unit-lines : (u : Subroutine) → IsUnit u → (more : List ℕ) → UnitLines u more
unit-lines u h more =
    let well = all-front (front-of u) (End ∷ []) (ap (list_all is_item) (sym (items-front u)) ∙ unit_items_well u h) in
    let text : unit_text u ++ more ≡ flat_map item_text (front-of u) ++ (item_text End ++ more) =
    ap (λ (z : List ℕ). z ++ more) (unit_items_text u ∙ ap (flat_map item_text) (items-front u) ∙ flat_map-append item_text (front-of u) (End ∷ []) ∙ ap (λ (z : List ℕ). flat_map item_text (front-of u) ++ z) (append-nil (item_text End)))
    ∙ append_assoc (flat_map item_text (front-of u)) (item_text End) more in
    record {
      front = flat_map item_group (front-of u);
      others = items-other (front-of u) (front-inner u) well;
      are = ap lines_of text ∙ items-lines (front-of u) (item_text End ++ more) well ∙ ap (λ (z : List Line). flat_map item_group (front-of u) ++ z) (end-lines more);
    }

first-end : (ks bs : List Line) (zs : List Line) → AllByRecursion Other ks → ks ++ end_of_unit ∷ [] ≡ bs ++ end_of_unit ∷ zs → zs ≡ []
first-end [] [] zs h e = let f : [] ≡ zs = cc in sym f
first-end [] (b ∷ []) zs h e = absurd cc
first-end [] (b ∷ c ∷ bs) zs h e = absurd cc
first-end (a ∷ ks) [] zs h e = let f : a ≡ end_of_unit = cc in absurd (h.0 f)
first-end (a ∷ ks) (b ∷ bs) zs h e = let f : ks ++ end_of_unit ∷ [] ≡ bs ++ end_of_unit ∷ zs = cc in first-end ks bs zs h.1 f

not-onto : (b : ℕ) (ls : List Line) → onto_first b ls ≡ [] → ⊥
unfolding onto_first
not-onto b [] e = absurd cc
not-onto b (l ∷ ls) e = absurd cc

some-onto : (b : ℕ) (bs : List ℕ) → lines_of (b ∷ bs) ≢ []
unfolding lines_of
some-onto b bs = elim (b == 10) as (λ t. (if t then record { text = []; ended = true } ∷ lines_of bs else onto_first b (lines_of bs)) ≡ [] → ⊥) [ true ↦ λ e. absurd cc | false ↦ not-onto b (lines_of bs) ]

none-lines : lines_of [] ≡ []
unfolding lines_of
none-lines = refl

no-lines : (bs : List ℕ) → lines_of bs ≡ [] → bs ≡ []
no-lines [] e = refl
no-lines (b ∷ bs) e = absurd (some-onto b bs e)

pub unit-prefix : (u v : Subroutine) → IsUnit u → IsUnit v → (more : List ℕ) → unit_text u ≡ unit_text v ++ more → more ≡ []
unit-prefix u v h k more e =
    let a = unit-lines u h [] in
    let b = unit-lines v k more in
    let same : a.front ++ end_of_unit ∷ lines_of [] ≡ b.front ++ end_of_unit ∷ lines_of more = sym a.are ∙ ap lines_of (append-nil (unit_text u) ∙ e) ∙ b.are in
    no-lines more (first-end a.front b.front (lines_of more) a.others (ap (λ (z : List Line). a.front ++ end_of_unit ∷ z) (sym none-lines) ∙ same))

-- ---- the text

not-empty : {A : Type 0} (xs : List A) (y : A) (ys : List A) → xs ++ y ∷ ys ≡ [] → ⊥
not-empty [] y ys e = absurd cc
not-empty (x ∷ xs) y ys e = absurd cc

unit-some : (u : Subroutine) → IsUnit u → unit_text u ≢ []
unit-some u h e =
    let a = unit-lines u h [] in
    let n : a.front ++ end_of_unit ∷ lines_of [] ≡ lines_of [] = sym a.are ∙ ap (λ (z : List ℕ). lines_of (z ++ [])) e in
    not-empty a.front end_of_unit (lines_of []) (n ∙ none-lines)

split-longer : (text proof unit more : List ℕ) → unit ≢ [] → IsSplit text proof unit → IsSplit (text ++ more) proof (unit ++ more)
split-longer text proof [] more n s = absurd (n refl)
split-longer text proof (b ∷ unit) more n s = record { all = ap (λ (z : List ℕ). z ++ more) s.all ∙ append_assoc proof (b ∷ unit) more; lines = s.lines; ended = s.ended; behind = s.behind }

pub no-prefix : LogIsTheProofPart → OneSplit → NoPrefix
no-prefix part splits t d text more wt wd a b =
    let long : IsSplit (text ++ more) (log_text t d a.log) (unit_text a.unit) = subst (λ (z : List ℕ). IsSplit z (log_text t d a.log) (unit_text a.unit)) (sym a.is) (part t d a.log (unit_text a.unit) wt wd a.logged (unit-without a.unit a.lawful)) in
    let short : IsSplit text (log_text t d b.log) (unit_text b.unit) = subst (λ (z : List ℕ). IsSplit z (log_text t d b.log) (unit_text b.unit)) (sym b.is) (part t d b.log (unit_text b.unit) wt wd b.logged (unit-without b.unit b.lawful)) in
    let same = splits (text ++ more) _ _ _ _ long (split-longer text (log_text t d b.log) (unit_text b.unit) more (unit-some b.unit b.lawful) short) in
    unit-prefix a.unit b.unit a.lawful b.lawful more same.1
