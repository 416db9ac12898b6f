-- What was read as a declaration: its form is no higher, and it can be a form but for quantifiers.
use Rattle.std.proofs.Common.{◌≡◌, ℕ, ◌+◌, ◌≤◌, Bool, true, false, List, [], ◌∷◌, map, Option, Some, None, refl, sym, ap, subst, ◌∙◌, arith}
use Rattle.std.specs.Prelude.{ℤ, max, codes, if◌then◌else◌}
use Rattle.std.specs.Str.{bytes_eq}
use Rattle.std.proofs.lemmas.Option.{same_Some}
use Rattle.am_text.specs.declared.form.Form.{Form}
use Rattle.am_text.specs.declared.form.FormNode.{FormNode}
use Rattle.am_text.specs.declared.form.FormNode.TheVariants as node
use Rattle.am_text.specs.Grammar.{height, node_height, highest}
use Rattle.am_text.proofs.Folds.{height-Word, height-Number, height-Text, height-List, height-form}
use Rattle.am_text.proofs.FormInduct.{node_induct}
use Rattle.am_syntax.specs.declared.written.Words.TheVariants.{Names}
use Rattle.am_syntax.specs.declared.written.WrittenFormula.{WrittenFormula}
use Rattle.am_syntax.specs.Forms.{word_form, list_form, headed_form, formula_form, is_spellable_formula}
use Rattle.am_syntax.specs.Shapes.{with_first, all_of, some_of, formula_of}
use Rattle.am_syntax.proofs.FormAgain.{read_formula_is_no_higher}
use Rattle.am_syntax.proofs.ReadSpelled.{read_formula_is_spellable}
use Rattle.am_theory.specs.declared.theory.LitValue.{LitValue}
use Rattle.am_theory.specs.declared.theory.LitValue.TheVariants as value
use Rattle.am_theory.specs.declared.declaration.WrittenRep.{WrittenRep}
use Rattle.am_theory.specs.declared.declaration.WrittenRep.TheVariants as written
use Rattle.am_theory.specs.declared.declaration.Typed.{Typed}
use Rattle.am_theory.specs.declared.declaration.Declaration.{Declaration}
use Rattle.am_theory.specs.declared.declaration.Declaration.TheVariants.{Sort, Subsort, Function, Relation, Literal, Routine, Value, Axiom}
use Rattle.am_canon.specs.CanonicalText.{number_form, value_form, names_form, typed_form, rep_form, decl_form}
use Rattle.am_theory.specs.Contents.{Contents}
use Rattle.am_theory.specs.Declarations.{◌>>=◌, word_of, value_of, list_of, name_of, names_of, typed_in, typed_of, rep_named, rep_in, rep_by, written_rep_of, sort_decl, subsort_decl, function_decl, relation_decl, literal_decl, routine_decl, value_decl, quantified_axiom, plain_axiom, head_in, tail_of, is_all, axiom_by, axiom_decl, decl_headed, decl_in, decl_of}
use Rattle.am_theory.specs.Faults.{quantifies}
use Rattle.am_canon.specs.Spellable.{is_spellable_declaration}
use Rattle.am_theory.specs.Traces.{IsOfForm, IsWritten}
use Rattle.am_theory.proofs.FormParts.{no_forms, node_list, list-at, list-Word, list-Number, list-Text, list-List}
use Rattle.am_theory.proofs.OfForm.{First, first_of_two, of_form}

abbrev some : {A : Type 0} → A → Option A
some x = Some x

by_if : {A : Type 0} (b : Bool) (x y : Option A) (z : A) (G : Type 0) → (if b then x else y) ≡ some z → (x ≡ some z → G) → (y ≡ some z → G) → G
by_if true x y z G e f g = f e
by_if false x y z G e f g = g e

-- ---- heights of parts
height_word : (w : List ℕ) → height (word_form w) ≡ 0
height_word w = height-form 0 (node.Word w) ∙ height-Word w

height_number : (n : ℤ) → height (number_form n) ≡ 0
height_number n = height-form 0 (node.Number n) ∙ height-Number n

height_value : (v : LitValue) → height (value_form v) ≡ 0
height_value (value.Int n) = height_number n
height_value (value.Text t) = height-form 0 (node.Text t) ∙ height-Text t

height_list : (fs : List Form) → height (list_form fs) ≡ 1 + highest fs
height_list fs = height-form 0 (node.List fs) ∙ height-List fs

height_headed : (h : List ℕ) (fs : List Form) → height (headed_form h fs) ≡ 1 + highest fs
height_headed h fs = let a = height_list (word_form h ∷ fs) in let b = height_word h in omega arith

listed_height : (n : FormNode) (fs : List Form) → node_list n ≡ some fs → node_height n ≡ 1 + highest fs
listed_height = node_induct (λ n. (fs : List Form) → node_list n ≡ some fs → node_height n ≡ 1 + highest fs) (λ f. Unit {0}) (λ fs. Unit {0})
    (λ w fs e. absurd (let k : no_forms ≡ some fs = sym (list-Word w) ∙ e in cc))
    (λ n fs e. absurd (let k : no_forms ≡ some fs = sym (list-Number n) ∙ e in cc))
    (λ t fs e. absurd (let k : no_forms ≡ some fs = sym (list-Text t) ∙ e in cc))
    (λ gs h fs e. height-List gs ∙ ap (λ (ms : List Form). 1 + highest ms) (same_Some gs fs (sym (list-List gs) ∙ e)))
    (λ p n h. tt) tt (λ f fs h k. tt)

-- a list is one higher than its members
height_of_list : (f : Form) (fs : List Form) → list_of f ≡ some fs → height f ≡ 1 + highest fs
height_of_list f fs e = height-form f.place f.node ∙ listed_height f.node fs (sym (list-at f) ∙ e)

words_low : (ns : List (List ℕ)) → highest (map word_form ns) ≡ 0
words_low [] = refl
words_low (n ∷ ns) = let a = height_word n in let b = words_low ns in omega arith

names_low : (f : Form) (ns : List (List ℕ)) → names_of f ≡ some ns → height (names_form ns) ≤ height f
unfolding names_of
names_low f ns e =
    let a = first_of_two (list_of f) (λ (fs : List Form). all_of (map name_of fs)) ns e in
    let b = height_of_list f a.value a.there in
    let c = height_list (map word_form ns) in
    let d = words_low ns in
    omega arith

height_typed : (v : Typed) → height (typed_form v) ≡ 1
height_typed v = let a = height_headed v.name (word_form v.sort ∷ []) in let b = height_word v.sort in omega arith

typed_low : (f : Form) (v : Typed) → typed_of f ≡ some v → height (typed_form v) ≤ height f
unfolding typed_of
typed_low f v e =
    let a = first_of_two (list_of f) typed_in v e in
    let b = height_of_list f a.value a.there in
    let c = height_typed v in
    omega arith

record FirstOfAll (x : Option Typed) (r : Option (List Typed)) (ys : List Typed) : Type 0 where
  head : Typed
  tail : List Typed
  is_head : x ≡ some head
  is_tail : r ≡ some tail
  all : head ∷ tail ≡ ys

split_first : (x : Option Typed) (r : Option (List Typed)) (ys : List Typed) → with_first x r ≡ some ys → FirstOfAll x r ys
split_first None r ys e = absurd cc
split_first (Some x) None ys e = absurd cc
split_first (Some x) (Some xs) ys e = record { head = x; tail = xs; is_head = refl; is_tail = refl; all = same_Some (x ∷ xs) ys e }

all_low : (fs : List Form) (vs : List Typed) → all_of (map typed_of fs) ≡ some vs → highest (map typed_form vs) ≤ highest fs
all_low [] vs e = let a : 0 ≡ highest (map typed_form vs) = ap (λ (ws : List Typed). highest (map typed_form ws)) (same_Some [] vs e) in omega arith
all_low (f ∷ fs) vs e =
    let s = split_first (typed_of f) (all_of (map typed_of fs)) vs e in
    let a = typed_low f s.head s.is_head in
    let b = all_low fs s.tail s.is_tail in
    let c : max (height (typed_form s.head)) (highest (map typed_form s.tail)) ≡ highest (map typed_form vs) = ap (λ (ws : List Typed). highest (map typed_form ws)) s.all in
    omega arith

some_low : (fs : List Form) (vs : List Typed) → some_of (map typed_of fs) ≡ some vs → highest (map typed_form vs) ≤ highest fs
some_low [] vs e = absurd cc
some_low (f ∷ fs) vs e = all_low (f ∷ fs) vs e

rep_at_most : (r : WrittenRep) → height (rep_form r) ≤ 1
rep_at_most written.Double = let a = height_word (codes "double") in omega arith
rep_at_most written.Integer = let a = height_word (codes "integer") in omega arith
rep_at_most written.Logical = let a = height_word (codes "logical") in omega arith
rep_at_most (written.Char n) = let a = height_headed (codes "char") (number_form n ∷ []) in let b = height_number n in omega arith
rep_at_most (written.DoubleVec m) = let a = height_headed (codes "double") (number_form m ∷ []) in let b = height_number m in omega arith
rep_at_most (written.DoubleMat m n) = let a = height_headed (codes "double") (number_form m ∷ number_form n ∷ []) in let b = height_number m in let c = height_number n in omega arith
rep_at_most (written.IntegerVec m) = let a = height_headed (codes "integer") (number_form m ∷ []) in let b = height_number m in omega arith

word_rep : (c : WrittenRep) (r : WrittenRep) → height (rep_form c) ≡ 0 → some c ≡ some r → height (rep_form r) ≡ 0
word_rep c r h e = subst (λ (x : WrittenRep). height (rep_form x) ≡ 0) (same_Some c r e) h

named_rep : (w : List ℕ) (r : WrittenRep) → rep_named w ≡ some r → height (rep_form r) ≡ 0
named_rep w r e =
    by_if (bytes_eq w (codes "double")) _ _ r (height (rep_form r) ≡ 0) e (word_rep written.Double r (height_word (codes "double")))
    (λ e1. by_if (bytes_eq w (codes "integer")) _ _ r (height (rep_form r) ≡ 0) e1 (word_rep written.Integer r (height_word (codes "integer")))
    (λ e2. by_if (bytes_eq w (codes "logical")) _ _ r (height (rep_form r) ≡ 0) e2 (word_rep written.Logical r (height_word (codes "logical"))) (λ k. absurd cc)))

rep_low_by : (o : Option (List ℕ)) (f : Form) (r : WrittenRep) → rep_by o f ≡ some r → height (rep_form r) ≤ height f
rep_low_by None f r e =
    let a = first_of_two (list_of f) rep_in r e in
    let b = height_of_list f a.value a.there in
    let c = rep_at_most r in
    omega arith
rep_low_by (Some w) f r e = let a = named_rep w r e in omega arith

rep_low : (f : Form) (r : WrittenRep) → written_rep_of f ≡ some r → height (rep_form r) ≤ height f
unfolding written_rep_of
rep_low f r e = rep_low_by (word_of f) f r e

-- ---- what is kept of the members behind the first word
abbrev formula_passes : Declaration → Bool
formula_passes (Sort n r copy) = true
formula_passes (Subsort n s) = true
formula_passes (Function n args r) = true
formula_passes (Relation n args) = true
formula_passes (Literal n s v) = true
formula_passes (Routine n inputs outputs) = true
formula_passes (Value f n args r) = true
formula_passes (Axiom vs g) = is_spellable_formula Names g

record Kept (fs : List Form) (d : Declaration) : Type 0 where
  head : List ℕ
  members : List Form
  made : decl_form d ≡ headed_form head members
  low : highest members ≤ highest fs
  spelled : formula_passes d ≡ true

moved : (fs : List Form) (c d : Declaration) → some c ≡ some d → Kept fs c → Kept fs d
moved fs c d e h = subst (Kept fs) (same_Some c d e) h

sort_kept : (fs : List Form) (d : Declaration) → sort_decl fs ≡ some d → Kept fs d
unfolding decl_form
sort_kept [] d e = absurd cc
sort_kept (f ∷ []) d e =
    let a = first_of_two (name_of f) (λ (n : List ℕ). Some (Sort n None None)) d e in
    let p = height_word a.value in
    moved (f ∷ []) (Sort a.value None None) d a.gives (record { head = codes "sort"; members = word_form a.value ∷ []; made = refl; low = omega arith; spelled = refl })
sort_kept (f ∷ g ∷ []) d e =
    let a = first_of_two (name_of f) (λ (n : List ℕ). written_rep_of g >>= λ (r : WrittenRep). Some (Sort n (Some r) None)) d e in
    let b = first_of_two (written_rep_of g) (λ (r : WrittenRep). Some (Sort a.value (Some r) None)) d a.gives in
    let p = height_word a.value in
    let q = rep_low g b.value b.there in
    moved (f ∷ g ∷ []) (Sort a.value (Some b.value) None) d b.gives (record { head = codes "sort"; members = word_form a.value ∷ rep_form b.value ∷ []; made = refl; low = omega arith; spelled = refl })
sort_kept (f ∷ g ∷ c ∷ []) d e =
    let a = first_of_two (name_of f) (λ (n : List ℕ). written_rep_of g >>= λ (r : WrittenRep). word_of c >>= λ (w : List ℕ). Some (Sort n (Some r) (Some w))) d e in
    let b = first_of_two (written_rep_of g) (λ (r : WrittenRep). word_of c >>= λ (w : List ℕ). Some (Sort a.value (Some r) (Some w))) d a.gives in
    let k = first_of_two (word_of c) (λ (w : List ℕ). Some (Sort a.value (Some b.value) (Some w))) d b.gives in
    let p = height_word a.value in
    let q = rep_low g b.value b.there in
    let s = height_word k.value in
    moved (f ∷ g ∷ c ∷ []) (Sort a.value (Some b.value) (Some k.value)) d k.gives (record { head = codes "sort"; members = word_form a.value ∷ rep_form b.value ∷ word_form k.value ∷ []; made = refl; low = omega arith; spelled = refl })
sort_kept (f ∷ g ∷ c ∷ x ∷ xs) d e = absurd cc

subsort_kept : (fs : List Form) (d : Declaration) → subsort_decl fs ≡ some d → Kept fs d
unfolding decl_form
subsort_kept [] d e = absurd cc
subsort_kept (f ∷ []) d e = absurd cc
subsort_kept (f ∷ g ∷ []) d e =
    let a = first_of_two (name_of f) (λ (n : List ℕ). name_of g >>= λ (s : List ℕ). Some (Subsort n s)) d e in
    let b = first_of_two (name_of g) (λ (s : List ℕ). Some (Subsort a.value s)) d a.gives in
    let p = height_word a.value in
    let q = height_word b.value in
    moved (f ∷ g ∷ []) (Subsort a.value b.value) d b.gives (record { head = codes "subsort"; members = word_form a.value ∷ word_form b.value ∷ []; made = refl; low = omega arith; spelled = refl })
subsort_kept (f ∷ g ∷ x ∷ xs) d e = absurd cc

function_kept : (fs : List Form) (d : Declaration) → function_decl fs ≡ some d → Kept fs d
unfolding decl_form
function_kept [] d e = absurd cc
function_kept (f ∷ []) d e = absurd cc
function_kept (f ∷ g ∷ []) d e = absurd cc
function_kept (f ∷ g ∷ r ∷ []) d e =
    let a = first_of_two (name_of f) (λ (n : List ℕ). names_of g >>= λ (ss : List (List ℕ)). name_of r >>= λ (s : List ℕ). Some (Function n ss s)) d e in
    let b = first_of_two (names_of g) (λ (ss : List (List ℕ)). name_of r >>= λ (s : List ℕ). Some (Function a.value ss s)) d a.gives in
    let k = first_of_two (name_of r) (λ (s : List ℕ). Some (Function a.value b.value s)) d b.gives in
    let p = height_word a.value in
    let q = names_low g b.value b.there in
    let s = height_word k.value in
    moved (f ∷ g ∷ r ∷ []) (Function a.value b.value k.value) d k.gives (record { head = codes "function"; members = word_form a.value ∷ names_form b.value ∷ word_form k.value ∷ []; made = refl; low = omega arith; spelled = refl })
function_kept (f ∷ g ∷ r ∷ x ∷ xs) d e = absurd cc

relation_kept : (fs : List Form) (d : Declaration) → relation_decl fs ≡ some d → Kept fs d
unfolding decl_form
relation_kept [] d e = absurd cc
relation_kept (f ∷ []) d e = absurd cc
relation_kept (f ∷ g ∷ []) d e =
    let a = first_of_two (name_of f) (λ (n : List ℕ). names_of g >>= λ (ss : List (List ℕ)). Some (Relation n ss)) d e in
    let b = first_of_two (names_of g) (λ (ss : List (List ℕ)). Some (Relation a.value ss)) d a.gives in
    let p = height_word a.value in
    let q = names_low g b.value b.there in
    moved (f ∷ g ∷ []) (Relation a.value b.value) d b.gives (record { head = codes "relation"; members = word_form a.value ∷ names_form b.value ∷ []; made = refl; low = omega arith; spelled = refl })
relation_kept (f ∷ g ∷ x ∷ xs) d e = absurd cc

literal_kept : (fs : List Form) (d : Declaration) → literal_decl fs ≡ some d → Kept fs d
unfolding decl_form
literal_kept [] d e = absurd cc
literal_kept (f ∷ []) d e = absurd cc
literal_kept (f ∷ g ∷ []) d e = absurd cc
literal_kept (f ∷ g ∷ v ∷ []) d e =
    let a = first_of_two (name_of f) (λ (n : List ℕ). name_of g >>= λ (s : List ℕ). value_of v >>= λ (x : LitValue). Some (Literal n s x)) d e in
    let b = first_of_two (name_of g) (λ (s : List ℕ). value_of v >>= λ (x : LitValue). Some (Literal a.value s x)) d a.gives in
    let k = first_of_two (value_of v) (λ (x : LitValue). Some (Literal a.value b.value x)) d b.gives in
    let p = height_word a.value in
    let q = height_word b.value in
    let s = height_value k.value in
    moved (f ∷ g ∷ v ∷ []) (Literal a.value b.value k.value) d k.gives (record { head = codes "literal"; members = word_form a.value ∷ word_form b.value ∷ value_form k.value ∷ []; made = refl; low = omega arith; spelled = refl })
literal_kept (f ∷ g ∷ v ∷ x ∷ xs) d e = absurd cc

routine_kept : (fs : List Form) (d : Declaration) → routine_decl fs ≡ some d → Kept fs d
unfolding decl_form
routine_kept [] d e = absurd cc
routine_kept (f ∷ []) d e = absurd cc
routine_kept (f ∷ g ∷ outs) d e =
    let a = first_of_two (word_of f) (λ (n : List ℕ). names_of g >>= λ (ss : List (List ℕ)). some_of (map typed_of outs) >>= λ (os : List Typed). Some (Routine n ss os)) d e in
    let b = first_of_two (names_of g) (λ (ss : List (List ℕ)). some_of (map typed_of outs) >>= λ (os : List Typed). Some (Routine a.value ss os)) d a.gives in
    let k = first_of_two (some_of (map typed_of outs)) (λ (os : List Typed). Some (Routine a.value b.value os)) d b.gives in
    let p = height_word a.value in
    let q = names_low g b.value b.there in
    let s = some_low outs k.value k.there in
    moved (f ∷ g ∷ outs) (Routine a.value b.value k.value) d k.gives (record { head = codes "routine"; members = word_form a.value ∷ names_form b.value ∷ map typed_form k.value; made = refl; low = omega arith; spelled = refl })

value_kept : (fs : List Form) (d : Declaration) → value_decl fs ≡ some d → Kept fs d
unfolding decl_form
value_kept [] d e = absurd cc
value_kept (f ∷ []) d e = absurd cc
value_kept (f ∷ g ∷ []) d e = absurd cc
value_kept (f ∷ g ∷ p ∷ []) d e = absurd cc
value_kept (f ∷ g ∷ p ∷ r ∷ []) d e =
    let a = first_of_two (word_of f) (λ (w : List ℕ). name_of g >>= λ (n : List ℕ). names_of p >>= λ (ss : List (List ℕ)). name_of r >>= λ (s : List ℕ). Some (Value w n ss s)) d e in
    let b = first_of_two (name_of g) (λ (n : List ℕ). names_of p >>= λ (ss : List (List ℕ)). name_of r >>= λ (s : List ℕ). Some (Value a.value n ss s)) d a.gives in
    let j = first_of_two (names_of p) (λ (ss : List (List ℕ)). name_of r >>= λ (s : List ℕ). Some (Value a.value b.value ss s)) d b.gives in
    let k = first_of_two (name_of r) (λ (s : List ℕ). Some (Value a.value b.value j.value s)) d j.gives in
    let h1 = height_word a.value in
    let h2 = height_word b.value in
    let h3 = names_low p j.value j.there in
    let h4 = height_word k.value in
    moved (f ∷ g ∷ p ∷ r ∷ []) (Value a.value b.value j.value k.value) d k.gives (record { head = codes "value"; members = word_form a.value ∷ word_form b.value ∷ names_form j.value ∷ word_form k.value ∷ []; made = refl; low = omega arith; spelled = refl })
value_kept (f ∷ g ∷ p ∷ r ∷ x ∷ xs) d e = absurd cc

-- ---- axioms
axiom_kept : (f : Form) (vs : List Typed) (g : WrittenFormula) → is_spellable_formula Names g ≡ true → height (formula_form g) ≤ height f → 1 + max (1 + highest (map typed_form vs)) (height (formula_form g)) ≤ height f → Kept (f ∷ []) (Axiom vs g)
unfolding decl_form
axiom_kept f [] g ok low more = record { head = codes "axiom"; members = formula_form g ∷ []; made = refl; low = omega arith; spelled = ok }
axiom_kept f (v ∷ vs) g ok low more =
    let all : List Form = list_form (map typed_form (v ∷ vs)) ∷ formula_form g ∷ [] in
    let p = height_headed (codes "all") all in
    let q = height_list (map typed_form (v ∷ vs)) in
    record { head = codes "axiom"; members = headed_form (codes "all") all ∷ []; made = refl; low = omega arith; spelled = ok }

plain_kept : (f : Form) (o : Option WrittenFormula) (d : Declaration) → formula_of Names f ≡ o → plain_axiom f ≡ some d → Kept (f ∷ []) d
unfolding decl_form
plain_kept f None d is e = absurd (let k = rw is at e in cc)
plain_kept f (Some g) d is e =
    let k = rw is at e in
    let low = read_formula_is_no_higher Names f g is in
    moved (f ∷ []) (Axiom [] g) d k (record { head = codes "axiom"; members = formula_form g ∷ []; made = refl; low = omega arith; spelled = read_formula_is_spellable Names f g is })

quantified_kept : (f h : Form) (fs : List Form) (d : Declaration) → height f ≡ 1 + highest (h ∷ fs) → quantified_axiom fs ≡ some d → Kept (f ∷ []) d
quantified_kept f h [] d high e = absurd cc
quantified_kept f h (v ∷ []) d high e = absurd cc
quantified_kept f h (v ∷ g ∷ []) d high e =
    let a = first_of_two (list_of v) (λ (fs : List Form). some_of (map typed_of fs) >>= λ (vs : List Typed). formula_of Names g >>= λ (x : WrittenFormula). Some (Axiom vs x)) d e in
    let b = first_of_two (some_of (map typed_of a.value)) (λ (vs : List Typed). formula_of Names g >>= λ (x : WrittenFormula). Some (Axiom vs x)) d a.gives in
    let k = first_of_two (formula_of Names g) (λ (x : WrittenFormula). Some (Axiom b.value x)) d b.gives in
    let p = height_of_list v a.value a.there in
    let q = some_low a.value b.value b.there in
    let s = read_formula_is_no_higher Names g k.value k.there in
    moved (f ∷ []) (Axiom b.value k.value) d k.gives (axiom_kept f b.value k.value (read_formula_is_spellable Names g k.value k.there) (omega arith) (omega arith))
quantified_kept f h (v ∷ g ∷ x ∷ xs) d high e = absurd cc

behind_kept : (f : Form) (fs : List Form) (d : Declaration) → height f ≡ 1 + highest fs → quantified_axiom (tail_of fs) ≡ some d → Kept (f ∷ []) d
behind_kept f [] d high e = absurd cc
behind_kept f (h ∷ fs) d high e = quantified_kept f h fs d high e

axiom_by_kept : (f : Form) (o : Option (List Form)) (d : Declaration) → list_of f ≡ o → axiom_by f o ≡ some d → Kept (f ∷ []) d
axiom_by_kept f None d is e = plain_kept f (formula_of Names f) d refl e
axiom_by_kept f (Some fs) d is e =
    by_if (is_all (head_in fs)) _ _ d (Kept (f ∷ []) d) e (λ k. behind_kept f fs d (height_of_list f fs is) k) (λ k. plain_kept f (formula_of Names f) d refl k)

axioms_kept : (fs : List Form) (d : Declaration) → axiom_decl fs ≡ some d → Kept fs d
axioms_kept [] d e = absurd cc
axioms_kept (f ∷ []) d e = axiom_by_kept f (list_of f) d refl e
axioms_kept (f ∷ g ∷ fs) d e = absurd cc

-- ---- all shapes
headed_kept : (w : List ℕ) (fs : List Form) (d : Declaration) → decl_headed w fs ≡ some d → Kept fs d
headed_kept w fs d e =
    by_if (bytes_eq w (codes "sort")) _ _ d (Kept fs d) e (sort_kept fs d)
    (λ e1. by_if (bytes_eq w (codes "subsort")) _ _ d (Kept fs d) e1 (subsort_kept fs d)
    (λ e2. by_if (bytes_eq w (codes "function")) _ _ d (Kept fs d) e2 (function_kept fs d)
    (λ e3. by_if (bytes_eq w (codes "relation")) _ _ d (Kept fs d) e3 (relation_kept fs d)
    (λ e4. by_if (bytes_eq w (codes "literal")) _ _ d (Kept fs d) e4 (literal_kept fs d)
    (λ e5. by_if (bytes_eq w (codes "routine")) _ _ d (Kept fs d) e5 (routine_kept fs d)
    (λ e6. by_if (bytes_eq w (codes "value")) _ _ d (Kept fs d) e6 (value_kept fs d)
    (λ e7. by_if (bytes_eq w (codes "axiom")) _ _ d (Kept fs d) e7 (axioms_kept fs d) (λ k. absurd cc))))))))

record Behind (fs : List Form) (d : Declaration) : Type 0 where
  kept : Kept (tail_of fs) d
  low : highest (tail_of fs) ≤ highest fs

listed_kept : (fs : List Form) (d : Declaration) → decl_in fs ≡ some d → Behind fs d
listed_kept [] d e = absurd cc
listed_kept (h ∷ fs) d e =
    let a = first_of_two (word_of h) (λ (w : List ℕ). decl_headed w fs) d e in
    record { kept = headed_kept a.value fs d a.gives; low = omega arith }

-- the form of what was read opens no more lists than the form that it was read from
pub declaration_no_higher : (f : Form) (d : Declaration) → decl_of f ≡ Some d → height (decl_form d) ≤ height f
unfolding decl_of
declaration_no_higher f d e =
    let a : First (list_of f) decl_in d = first_of_two (list_of f) decl_in d e in
    let b = listed_kept a.value d a.gives in
    let p = height_of_list f a.value a.there in
    let q = ap height b.kept.made ∙ height_headed b.kept.head b.kept.members in
    let r = b.kept.low in
    let s = b.low in
    omega arith

formula_spelled : (f : Form) (d : Declaration) → decl_of f ≡ Some d → formula_passes d ≡ true
unfolding decl_of
formula_spelled f d e =
    let a : First (list_of f) decl_in d = first_of_two (list_of f) decl_in d e in
    (listed_kept a.value d a.gives).kept.spelled

-- what was read from a form that can stand in a file can be a form again, where no quantifier stands inside
by_parts : (c : Contents) (d : Declaration) → IsWritten d → formula_passes d ≡ true → quantifies c d ≡ false → is_spellable_declaration d ≡ true
unfolding quantifies
by_parts c (Sort n r copy) w ok free = rw (w.0, w.1) refl
by_parts c (Subsort n s) w ok free = rw (w.0, w.1) refl
by_parts c (Function n args r) w ok free = rw (w.0, w.1, w.2) refl
by_parts c (Relation n args) w ok free = rw (w.0, w.1) refl
by_parts c (Literal n s v) w ok free = rw (w.0, w.1, w.2) refl
by_parts c (Routine n inputs outputs) w ok free = rw (w.0, w.1, w.2, w.3) refl
by_parts c (Value f n args r) w ok free = rw (w.0, w.1, w.2, w.3) refl
by_parts c (Axiom vs g) w ok free = rw (w, ok, free) refl

pub read_declaration_is_spellable : (c : Contents) (d : Declaration) → IsOfForm d → quantifies c d ≡ false → is_spellable_declaration d ≡ true
read_declaration_is_spellable c d o free = by_parts c d (of_form d o) (formula_spelled o.form d o.read) free
