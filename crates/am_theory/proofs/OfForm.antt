-- What holds of the declaration of a form that can stand in a file.
use Rattle.std.proofs.Common.{◌≡◌, ◌∙◌, ℕ, Bool, true, false, List, [], ◌∷◌, map, Option, Some, None, refl, sym, ap, subst}
use Rattle.std.specs.Prelude.{ℤ, codes, if◌then◌else◌}
use Rattle.std.specs.List.{list_all}
use Rattle.std.specs.Str.{bytes_eq}
use Rattle.std.proofs.lemmas.Option.{same_Some}
use Rattle.std.proofs.lemmas.List.Folds.{list_all-map}
use Rattle.am_term.specs.Names.{is_name}
use Rattle.am_term.proofs.Tests.{and_left, and_right, and_both}
use Rattle.am_text.specs.declared.form.Form.{Form}
use Rattle.am_text.specs.declared.form.FormNode.{FormNode}
use Rattle.am_text.specs.declared.form.FormNode.TheVariants.{outs-Word, outs-Number, outs-Text, outs-List}
use Rattle.am_text.specs.declared.form.FormNode.TheOpen.{FormNode-F}
use Rattle.am_text.specs.declared.form.FormNode.TheViews.{out-FormNode}
use Rattle.am_text.specs.Spelling.{is_word, is_text, fits_word, is_writable, node_writable}
use Rattle.am_text.proofs.Folds.{writable-Word, writable-Number, writable-Text, writable-List, writable-form}
use Rattle.am_text.proofs.FormInduct.{node_induct}
use Rattle.am_syntax.specs.declared.written.WrittenFormula.{WrittenFormula}
use Rattle.am_syntax.specs.declared.written.Words.TheVariants.{Names}
use Rattle.am_syntax.specs.Shapes.{with_first, all_of, some_of, formula_of}
use Rattle.am_syntax.specs.Forms.{is_some_list}
use Rattle.am_syntax.specs.Heads.{word_at}
use Rattle.am_theory.specs.declared.theory.LitValue.{LitValue}
use Rattle.am_theory.specs.declared.theory.LitValue.TheVariants as value
use Rattle.am_theory.specs.declared.declaration.WrittenRep.{WrittenRep}
use Rattle.am_theory.specs.declared.declaration.WrittenRep.TheVariants as written
use Rattle.am_theory.specs.declared.declaration.Typed.{Typed}
use Rattle.am_theory.specs.declared.declaration.Declaration.{Declaration}
use Rattle.am_theory.specs.declared.declaration.Declaration.TheVariants.{Sort, Subsort, Function, Relation, Literal, Routine, Value, Axiom}
use Rattle.am_theory.specs.Declarations.{◌>>=◌, number_at, value_at, list_at, word_of, number_of, value_of, list_of, if_name, name_of, names_of, typed_in, typed_of, rep_named, rep_of_one, rep_of_two, rep_in, rep_by, written_rep_of, sort_decl, subsort_decl, function_decl, relation_decl, literal_decl, routine_decl, value_decl, quantified_axiom, plain_axiom, head_in, tail_of, is_all, axiom_by, axiom_decl, decl_headed, decl_in, decl_of}
use Rattle.am_theory.specs.Traces.{IsOfForm, IsWritten, is_typed, fits_rep, is_written_value}

-- ---- what a node that can be written holds
abbrev open_writable : FormNode-F FormNode Form → Bool
open_writable (FormNode-F.Word w) = is_word w
open_writable (FormNode-F.Number n) = fits_word n
open_writable (FormNode-F.Text t) = is_text t
open_writable (FormNode-F.List fs) = list_all is_writable fs

node-opens : (n : FormNode) → node_writable n ≡ open_writable (out-FormNode n)
node-opens = node_induct (λ n. node_writable n ≡ open_writable (out-FormNode n)) (λ f. Unit {0}) (λ fs. Unit {0})
    (λ w. writable-Word w ∙ sym (ap open_writable (outs-Word w)))
    (λ n. writable-Number n ∙ sym (ap open_writable (outs-Number n)))
    (λ t. writable-Text t ∙ sym (ap open_writable (outs-Text t)))
    (λ fs h. writable-List fs ∙ list_all-map (λ (b : Bool). b) is_writable fs ∙ sym (ap open_writable (outs-List fs)))
    (λ p n h. tt) tt (λ f fs h k. tt)

opens : (f : Form) → is_writable f ≡ true → open_writable (out-FormNode f.node) ≡ true
opens f w = sym (node-opens f.node) ∙ sym (writable-form f.place f.node) ∙ w

abbrev some : {A : Type 0} → A → Option A
some x = Some x

word-at : (x : FormNode-F FormNode Form) (w : List ℕ) → open_writable x ≡ true → word_at x ≡ some w → is_word w ≡ true
word-at (FormNode-F.Word v) w h e = subst (λ (u : List ℕ). is_word u ≡ true) (same_Some v w e) h
word-at (FormNode-F.Number n) w h e = absurd cc
word-at (FormNode-F.Text t) w h e = absurd cc
word-at (FormNode-F.List fs) w h e = absurd cc

number-at : (x : FormNode-F FormNode Form) (n : ℤ) → open_writable x ≡ true → number_at x ≡ some n → fits_word n ≡ true
number-at (FormNode-F.Word v) n h e = absurd cc
number-at (FormNode-F.Number m) n h e = subst (λ (k : ℤ). fits_word k ≡ true) (same_Some m n e) h
number-at (FormNode-F.Text t) n h e = absurd cc
number-at (FormNode-F.List fs) n h e = absurd cc

value-at : (x : FormNode-F FormNode Form) (v : LitValue) → open_writable x ≡ true → value_at x ≡ some v → is_written_value v ≡ true
value-at (FormNode-F.Word w) v h e = absurd cc
value-at (FormNode-F.Number n) v h e = subst (λ (u : LitValue). is_written_value u ≡ true) (same_Some (value.Int n) v e) h
value-at (FormNode-F.Text t) v h e = subst (λ (u : LitValue). is_written_value u ≡ true) (same_Some (value.Text t) v e) h
value-at (FormNode-F.List fs) v h e = absurd cc

list-at : (x : FormNode-F FormNode Form) (fs : List Form) → open_writable x ≡ true → list_at x ≡ some fs → list_all is_writable fs ≡ true
list-at (FormNode-F.Word w) fs h e = absurd cc
list-at (FormNode-F.Number n) fs h e = absurd cc
list-at (FormNode-F.Text t) fs h e = absurd cc
list-at (FormNode-F.List gs) fs h e = subst (λ (ms : List Form). list_all is_writable ms ≡ true) (same_Some gs fs e) h

pub word-is : (f : Form) (w : List ℕ) → is_writable f ≡ true → word_of f ≡ some w → is_word w ≡ true
unfolding word_of
word-is f w h e = word-at (out-FormNode f.node) w (opens f h) e

pub number-fits : (f : Form) (n : ℤ) → is_writable f ≡ true → number_of f ≡ some n → fits_word n ≡ true
unfolding number_of
number-fits f n h e = number-at (out-FormNode f.node) n (opens f h) e

pub value-is : (f : Form) (v : LitValue) → is_writable f ≡ true → value_of f ≡ some v → is_written_value v ≡ true
unfolding value_of
value-is f v h e = value-at (out-FormNode f.node) v (opens f h) e

pub list-writable : (f : Form) (fs : List Form) → is_writable f ≡ true → list_of f ≡ some fs → list_all is_writable fs ≡ true
unfolding list_of
list-writable f fs h e = list-at (out-FormNode f.node) fs (opens f h) e

-- ---- one thing after another
pub record First {A B : Type 0} (o : Option A) (k : A → Option B) (y : B) : Type 0 where
  pub value : A
  pub there : o ≡ some value
  pub gives : k value ≡ some y

pub first_of_two : {A B : Type 0} (o : Option A) (k : A → Option B) (y : B) → (o >>= k) ≡ some y → First o k y
first_of_two None k y e = absurd cc
first_of_two (Some x) k y e = record { value = x; there = refl; gives = e }

by_if : {A : Type 0} (b : Bool) (x y : Option A) (z : A) (G : Type 0) → (if b then x else y) ≡ some z → (x ≡ some z → G) → (y ≡ some z → G) → G
by_if true x y z G e f g = f e
by_if false x y z G e f g = g e

-- ---- names
if_name-is : (b : Bool) (w n : List ℕ) → is_name w ≡ b → (if b then Some w else None) ≡ some n → is_name n ≡ true
if_name-is true w n is e = subst (λ (u : List ℕ). is_name u ≡ true) (same_Some w n e) is
if_name-is false w n is e = absurd cc

pub name-is : (f : Form) (n : List ℕ) → name_of f ≡ some n → is_name n ≡ true
unfolding name_of
name-is f n e =
    let a : First (word_of f) if_name n = first_of_two (word_of f) if_name n e in
    if_name-is (is_name a.value) a.value n refl a.gives

-- ---- all members
module _ {A B : Type 0} (f : A → Option B) (test : B → Bool) (each : (x : A) (y : B) → f x ≡ some y → test y ≡ true) where
  all_more : (o : Option B) (p : Option (List B)) (ys : List B) → ((y : B) → o ≡ some y → test y ≡ true) → ((zs : List B) → p ≡ some zs → list_all test zs ≡ true) → with_first o p ≡ some ys → list_all test ys ≡ true
  all_more None p ys h k e = absurd cc
  all_more (Some y) None ys h k e = absurd cc
  all_more (Some y) (Some zs) ys h k e = subst (λ (us : List B). list_all test us ≡ true) (same_Some (y ∷ zs) ys e) (and_both (test y) (list_all test zs) (h y refl) (k zs refl))

  pub all_pass : (xs : List A) (ys : List B) → all_of (map f xs) ≡ some ys → list_all test ys ≡ true
  all_pass [] ys e = subst (λ (us : List B). list_all test us ≡ true) (same_Some [] ys e) refl
  all_pass (x ∷ xs) ys e = all_more (f x) (all_of (map f xs)) ys (λ y. each x y) (λ zs k. all_pass xs zs k) e

  pub some_pass : (xs : List A) (ys : List B) → some_of (map f xs) ≡ some ys → list_all test ys ≡ true
  some_pass [] ys e = absurd cc
  some_pass (x ∷ xs) ys e = all_pass (x ∷ xs) ys e

  more_there : (o : Option B) (p : Option (List B)) (ys : List B) → with_first o p ≡ some ys → is_some_list ys ≡ true
  more_there None p ys e = absurd cc
  more_there (Some y) None ys e = absurd cc
  more_there (Some y) (Some zs) ys e = subst (λ (us : List B). is_some_list us ≡ true) (same_Some (y ∷ zs) ys e) refl

  pub some_there : (xs : List A) (ys : List B) → some_of (map f xs) ≡ some ys → is_some_list ys ≡ true
  some_there [] ys e = absurd cc
  some_there (x ∷ xs) ys e = more_there (f x) (all_of (map f xs)) ys e

pub names-are : (f : Form) (ns : List (List ℕ)) → names_of f ≡ some ns → list_all is_name ns ≡ true
unfolding names_of
names-are f ns e =
    let a : First (list_of f) (λ fs. all_of (map name_of fs)) ns = first_of_two (list_of f) (λ fs. all_of (map name_of fs)) ns e in
    all_pass name_of is_name name-is a.value ns a.gives

typed-in : (fs : List Form) (v : Typed) → typed_in fs ≡ some v → is_typed v ≡ true
typed-in [] v e = absurd cc
typed-in (n ∷ []) v e = absurd cc
typed-in (n ∷ s ∷ f ∷ fs) v e = absurd cc
typed-in (n ∷ s ∷ []) v e =
    let a = first_of_two (name_of n) (λ (x : List ℕ). name_of s >>= λ (y : List ℕ). Some (record { name = x; sort = y })) v e in
    let b = first_of_two (name_of s) (λ (y : List ℕ). Some (record { name = a.value; sort = y })) v a.gives in
    subst (λ (u : Typed). is_typed u ≡ true) (same_Some (record { name = a.value; sort = b.value }) v b.gives)
    (and_both (is_name a.value) (is_name b.value) (name-is n a.value a.there) (name-is s b.value b.there))

pub typed-is : (f : Form) (v : Typed) → typed_of f ≡ some v → is_typed v ≡ true
unfolding typed_of
typed-is f v e =
    let a : First (list_of f) typed_in v = first_of_two (list_of f) typed_in v e in
    typed-in a.value v a.gives

-- ---- representations
rep-made : (q r : WrittenRep) → some q ≡ some r → fits_rep q ≡ true → fits_rep r ≡ true
rep-made q r e h = subst (λ (u : WrittenRep). fits_rep u ≡ true) (same_Some q r e) h

rep-named : (w : List ℕ) (r : WrittenRep) → rep_named w ≡ some r → fits_rep r ≡ true
rep-named w r e =
    by_if (bytes_eq w (codes "double")) _ _ r (fits_rep r ≡ true) e (λ k. rep-made written.Double r k refl)
    (λ e1. by_if (bytes_eq w (codes "integer")) _ _ r (fits_rep r ≡ true) e1 (λ k. rep-made written.Integer r k refl)
    (λ e2. by_if (bytes_eq w (codes "logical")) _ _ r (fits_rep r ≡ true) e2 (λ k. rep-made written.Logical r k refl) (λ k. absurd cc)))

rep-one : (w : List ℕ) (n : ℤ) (r : WrittenRep) → fits_word n ≡ true → rep_of_one w n ≡ some r → fits_rep r ≡ true
rep-one w n r h e =
    by_if (bytes_eq w (codes "char")) _ _ r (fits_rep r ≡ true) e (λ k. rep-made (written.Char n) r k h)
    (λ e1. by_if (bytes_eq w (codes "double")) _ _ r (fits_rep r ≡ true) e1 (λ k. rep-made (written.DoubleVec n) r k h)
    (λ e2. by_if (bytes_eq w (codes "integer")) _ _ r (fits_rep r ≡ true) e2 (λ k. rep-made (written.IntegerVec n) r k h) (λ k. absurd cc)))

rep-two : (w : List ℕ) (m n : ℤ) (r : WrittenRep) → fits_word m ≡ true → fits_word n ≡ true → rep_of_two w m n ≡ some r → fits_rep r ≡ true
rep-two w m n r h k e = by_if (bytes_eq w (codes "double")) _ _ r (fits_rep r ≡ true) e (λ j. rep-made (written.DoubleMat m n) r j (and_both (fits_word m) (fits_word n) h k)) (λ j. absurd cc)

first_writable : (f : Form) (fs : List Form) → list_all is_writable (f ∷ fs) ≡ true → is_writable f ≡ true
first_writable f fs h = and_left (is_writable f) (list_all is_writable fs) h

rest_writable : (f : Form) (fs : List Form) → list_all is_writable (f ∷ fs) ≡ true → list_all is_writable fs ≡ true
rest_writable f fs h = and_right (is_writable f) (list_all is_writable fs) h

rep-in : (fs : List Form) (r : WrittenRep) → list_all is_writable fs ≡ true → rep_in fs ≡ some r → fits_rep r ≡ true
rep-in [] r h e = absurd cc
rep-in (f ∷ []) r h e = absurd cc
rep-in (f ∷ m ∷ []) r h e =
    let a = first_of_two (word_of f) (λ (w : List ℕ). number_of m >>= λ (n : ℤ). rep_of_one w n) r e in
    let b = first_of_two (number_of m) (λ (n : ℤ). rep_of_one a.value n) r a.gives in
    rep-one a.value b.value r (number-fits m b.value (first_writable m [] (rest_writable f (m ∷ []) h)) b.there) b.gives
rep-in (f ∷ m ∷ n ∷ []) r h e =
    let a = first_of_two (word_of f) (λ (w : List ℕ). number_of m >>= λ (i : ℤ). number_of n >>= λ (j : ℤ). rep_of_two w i j) r e in
    let b = first_of_two (number_of m) (λ (i : ℤ). number_of n >>= λ (j : ℤ). rep_of_two a.value i j) r a.gives in
    let c = first_of_two (number_of n) (λ (j : ℤ). rep_of_two a.value b.value j) r b.gives in
    let mn = rest_writable f (m ∷ n ∷ []) h in
    rep-two a.value b.value c.value r (number-fits m b.value (first_writable m (n ∷ []) mn) b.there) (number-fits n c.value (first_writable n [] (rest_writable m (n ∷ []) mn)) c.there) c.gives
rep-in (f ∷ m ∷ n ∷ g ∷ gs) r h e = absurd cc

rep-by : (o : Option (List ℕ)) (f : Form) (r : WrittenRep) → is_writable f ≡ true → rep_by o f ≡ some r → fits_rep r ≡ true
rep-by (Some w) f r h e = rep-named w r e
rep-by None f r h e =
    let a : First (list_of f) rep_in r = first_of_two (list_of f) rep_in r e in
    rep-in a.value r (list-writable f a.value h a.there) a.gives

pub rep-fits : (f : Form) (r : WrittenRep) → is_writable f ≡ true → written_rep_of f ≡ some r → fits_rep r ≡ true
unfolding written_rep_of
rep-fits f r h e = rep-by (word_of f) f r h e

-- ---- declarations
made : (c d : Declaration) → some c ≡ some d → IsWritten c → IsWritten d
made c d e h = subst IsWritten (same_Some c d e) h

sort-written : (fs : List Form) (d : Declaration) → list_all is_writable fs ≡ true → sort_decl fs ≡ some d → IsWritten d
sort-written [] d h e = absurd cc
sort-written (f ∷ []) d h e =
    let a = first_of_two (name_of f) (λ (n : List ℕ). Some (Sort n None None)) d e in
    made (Sort a.value None None) d a.gives (name-is f a.value a.there, refl)
sort-written (f ∷ g ∷ []) d h e =
    let a = first_of_two (name_of f) (λ (n : List ℕ). written_rep_of g >>= λ (r : WrittenRep). Some (Sort n (Some r) None)) d e in
    let b = first_of_two (written_rep_of g) (λ (r : WrittenRep). Some (Sort a.value (Some r) None)) d a.gives in
    made (Sort a.value (Some b.value) None) d b.gives (name-is f a.value a.there, rep-fits g b.value (first_writable g [] (rest_writable f (g ∷ []) h)) b.there)
sort-written (f ∷ g ∷ c ∷ []) d h e =
    let a = first_of_two (name_of f) (λ (n : List ℕ). written_rep_of g >>= λ (r : WrittenRep). word_of c >>= λ (w : List ℕ). Some (Sort n (Some r) (Some w))) d e in
    let b = first_of_two (written_rep_of g) (λ (r : WrittenRep). word_of c >>= λ (w : List ℕ). Some (Sort a.value (Some r) (Some w))) d a.gives in
    let k = first_of_two (word_of c) (λ (w : List ℕ). Some (Sort a.value (Some b.value) (Some w))) d b.gives in
    let gc = rest_writable f (g ∷ c ∷ []) h in
    made (Sort a.value (Some b.value) (Some k.value)) d k.gives
    (name-is f a.value a.there, and_both (fits_rep b.value) (is_word k.value) (rep-fits g b.value (first_writable g (c ∷ []) gc) b.there) (word-is c k.value (first_writable c [] (rest_writable g (c ∷ []) gc)) k.there))
sort-written (f ∷ g ∷ c ∷ x ∷ xs) d h e = absurd cc

subsort-written : (fs : List Form) (d : Declaration) → subsort_decl fs ≡ some d → IsWritten d
subsort-written [] d e = absurd cc
subsort-written (f ∷ []) d e = absurd cc
subsort-written (f ∷ g ∷ []) d e =
    let a = first_of_two (name_of f) (λ (n : List ℕ). name_of g >>= λ (s : List ℕ). Some (Subsort n s)) d e in
    let b = first_of_two (name_of g) (λ (s : List ℕ). Some (Subsort a.value s)) d a.gives in
    made (Subsort a.value b.value) d b.gives (name-is f a.value a.there, name-is g b.value b.there)
subsort-written (f ∷ g ∷ x ∷ xs) d e = absurd cc

function-written : (fs : List Form) (d : Declaration) → function_decl fs ≡ some d → IsWritten d
function-written [] d e = absurd cc
function-written (f ∷ []) d e = absurd cc
function-written (f ∷ g ∷ []) d e = absurd cc
function-written (f ∷ g ∷ r ∷ []) d e =
    let a = first_of_two (name_of f) (λ (n : List ℕ). names_of g >>= λ (ss : List (List ℕ)). name_of r >>= λ (s : List ℕ). Some (Function n ss s)) d e in
    let b = first_of_two (names_of g) (λ (ss : List (List ℕ)). name_of r >>= λ (s : List ℕ). Some (Function a.value ss s)) d a.gives in
    let k = first_of_two (name_of r) (λ (s : List ℕ). Some (Function a.value b.value s)) d b.gives in
    made (Function a.value b.value k.value) d k.gives (name-is f a.value a.there, names-are g b.value b.there, name-is r k.value k.there)
function-written (f ∷ g ∷ r ∷ x ∷ xs) d e = absurd cc

relation-written : (fs : List Form) (d : Declaration) → relation_decl fs ≡ some d → IsWritten d
relation-written [] d e = absurd cc
relation-written (f ∷ []) d e = absurd cc
relation-written (f ∷ g ∷ []) d e =
    let a = first_of_two (name_of f) (λ (n : List ℕ). names_of g >>= λ (ss : List (List ℕ)). Some (Relation n ss)) d e in
    let b = first_of_two (names_of g) (λ (ss : List (List ℕ)). Some (Relation a.value ss)) d a.gives in
    made (Relation a.value b.value) d b.gives (name-is f a.value a.there, names-are g b.value b.there)
relation-written (f ∷ g ∷ x ∷ xs) d e = absurd cc

literal-written : (fs : List Form) (d : Declaration) → list_all is_writable fs ≡ true → literal_decl fs ≡ some d → IsWritten d
literal-written [] d h e = absurd cc
literal-written (f ∷ []) d h e = absurd cc
literal-written (f ∷ g ∷ []) d h e = absurd cc
literal-written (f ∷ g ∷ v ∷ []) d h e =
    let a = first_of_two (name_of f) (λ (n : List ℕ). name_of g >>= λ (s : List ℕ). value_of v >>= λ (x : LitValue). Some (Literal n s x)) d e in
    let b = first_of_two (name_of g) (λ (s : List ℕ). value_of v >>= λ (x : LitValue). Some (Literal a.value s x)) d a.gives in
    let k = first_of_two (value_of v) (λ (x : LitValue). Some (Literal a.value b.value x)) d b.gives in
    made (Literal a.value b.value k.value) d k.gives
    (name-is f a.value a.there, name-is g b.value b.there, value-is v k.value (first_writable v [] (rest_writable g (v ∷ []) (rest_writable f (g ∷ v ∷ []) h))) k.there)
literal-written (f ∷ g ∷ v ∷ x ∷ xs) d h e = absurd cc

routine-written : (fs : List Form) (d : Declaration) → list_all is_writable fs ≡ true → routine_decl fs ≡ some d → IsWritten d
routine-written [] d h e = absurd cc
routine-written (f ∷ []) d h e = absurd cc
routine-written (f ∷ g ∷ outs) d h e =
    let a = first_of_two (word_of f) (λ (n : List ℕ). names_of g >>= λ (ss : List (List ℕ)). some_of (map typed_of outs) >>= λ (os : List Typed). Some (Routine n ss os)) d e in
    let b = first_of_two (names_of g) (λ (ss : List (List ℕ)). some_of (map typed_of outs) >>= λ (os : List Typed). Some (Routine a.value ss os)) d a.gives in
    let k = first_of_two (some_of (map typed_of outs)) (λ (os : List Typed). Some (Routine a.value b.value os)) d b.gives in
    made (Routine a.value b.value k.value) d k.gives
    (word-is f a.value (first_writable f (g ∷ outs) h) a.there, names-are g b.value b.there, some_pass typed_of is_typed typed-is outs k.value k.there, some_there typed_of is_typed typed-is outs k.value k.there)

value-written : (fs : List Form) (d : Declaration) → list_all is_writable fs ≡ true → value_decl fs ≡ some d → IsWritten d
value-written [] d h e = absurd cc
value-written (f ∷ []) d h e = absurd cc
value-written (f ∷ g ∷ []) d h e = absurd cc
value-written (f ∷ g ∷ p ∷ []) d h e = absurd cc
value-written (f ∷ g ∷ p ∷ r ∷ []) d h e =
    let a = first_of_two (word_of f) (λ (w : List ℕ). name_of g >>= λ (n : List ℕ). names_of p >>= λ (ss : List (List ℕ)). name_of r >>= λ (s : List ℕ). Some (Value w n ss s)) d e in
    let b = first_of_two (name_of g) (λ (n : List ℕ). names_of p >>= λ (ss : List (List ℕ)). name_of r >>= λ (s : List ℕ). Some (Value a.value n ss s)) d a.gives in
    let j = first_of_two (names_of p) (λ (ss : List (List ℕ)). name_of r >>= λ (s : List ℕ). Some (Value a.value b.value ss s)) d b.gives in
    let k = first_of_two (name_of r) (λ (s : List ℕ). Some (Value a.value b.value j.value s)) d j.gives in
    made (Value a.value b.value j.value k.value) d k.gives
    (word-is f a.value (first_writable f (g ∷ p ∷ r ∷ []) h) a.there, name-is g b.value b.there, names-are p j.value j.there, name-is r k.value k.there)
value-written (f ∷ g ∷ p ∷ r ∷ x ∷ xs) d h e = absurd cc

quantified-written : (fs : List Form) (d : Declaration) → quantified_axiom fs ≡ some d → IsWritten d
quantified-written [] d e = absurd cc
quantified-written (f ∷ []) d e = absurd cc
quantified-written (f ∷ g ∷ []) d e =
    let a = first_of_two (list_of f) (λ (fs : List Form). some_of (map typed_of fs) >>= λ (vs : List Typed). formula_of Names g >>= λ (x : WrittenFormula). Some (Axiom vs x)) d e in
    let b = first_of_two (some_of (map typed_of a.value)) (λ (vs : List Typed). formula_of Names g >>= λ (x : WrittenFormula). Some (Axiom vs x)) d a.gives in
    let k = first_of_two (formula_of Names g) (λ (x : WrittenFormula). Some (Axiom b.value x)) d b.gives in
    made (Axiom b.value k.value) d k.gives (some_pass typed_of is_typed typed-is a.value b.value b.there)
quantified-written (f ∷ g ∷ x ∷ xs) d e = absurd cc

plain-mapped : (f : Form) (o : Option WrittenFormula) (d : Declaration) → formula_of Names f ≡ o → plain_axiom f ≡ some d → IsWritten d
plain-mapped f None d is e = absurd (let k = rw is at e in cc)
plain-mapped f (Some g) d is e = let k = rw is at e in made (Axiom [] g) d k refl

axiom-by : (f : Form) (o : Option (List Form)) (d : Declaration) → axiom_by f o ≡ some d → IsWritten d
axiom-by f None d e = plain-mapped f (formula_of Names f) d refl e
axiom-by f (Some fs) d e = by_if (is_all (head_in fs)) _ _ d (IsWritten d) e (λ k. quantified-written (tail_of fs) d k) (λ k. plain-mapped f (formula_of Names f) d refl k)

axiom-written : (fs : List Form) (d : Declaration) → axiom_decl fs ≡ some d → IsWritten d
axiom-written [] d e = absurd cc
axiom-written (f ∷ []) d e = axiom-by f (list_of f) d e
axiom-written (f ∷ g ∷ fs) d e = absurd cc

headed-written : (w : List ℕ) (fs : List Form) (d : Declaration) → list_all is_writable fs ≡ true → decl_headed w fs ≡ some d → IsWritten d
headed-written w fs d h e =
    by_if (bytes_eq w (codes "sort")) _ _ d (IsWritten d) e (λ k. sort-written fs d h k)
    (λ e1. by_if (bytes_eq w (codes "subsort")) _ _ d (IsWritten d) e1 (λ k. subsort-written fs d k)
    (λ e2. by_if (bytes_eq w (codes "function")) _ _ d (IsWritten d) e2 (λ k. function-written fs d k)
    (λ e3. by_if (bytes_eq w (codes "relation")) _ _ d (IsWritten d) e3 (λ k. relation-written fs d k)
    (λ e4. by_if (bytes_eq w (codes "literal")) _ _ d (IsWritten d) e4 (λ k. literal-written fs d h k)
    (λ e5. by_if (bytes_eq w (codes "routine")) _ _ d (IsWritten d) e5 (λ k. routine-written fs d h k)
    (λ e6. by_if (bytes_eq w (codes "value")) _ _ d (IsWritten d) e6 (λ k. value-written fs d h k)
    (λ e7. by_if (bytes_eq w (codes "axiom")) _ _ d (IsWritten d) e7 (λ k. axiom-written fs d k) (λ k. absurd cc))))))))

list-written : (fs : List Form) (d : Declaration) → list_all is_writable fs ≡ true → decl_in fs ≡ some d → IsWritten d
list-written [] d h e = absurd cc
list-written (f ∷ fs) d h e =
    let a = first_of_two (word_of f) (λ (w : List ℕ). decl_headed w fs) d e in
    headed-written a.value fs d (rest_writable f fs h) a.gives

-- the declaration of a form has names, words, numbers and texts as they are written
pub of_form : (d : Declaration) → IsOfForm d → IsWritten d
unfolding decl_of
of_form d o =
    let a : First (list_of o.form) decl_in d = first_of_two (list_of o.form) decl_in d o.read in
    list-written a.value d (list-writable o.form a.value o.writable a.there) a.gives
