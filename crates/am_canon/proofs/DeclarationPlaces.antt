-- Which declaration a form is does not hang on its places.
use Rattle.std.proofs.Common.{◌≡◌, ℕ, List, [], ◌∷◌, map, Option, Some, None, refl, sym, ap, ◌∙◌}
use Rattle.std.specs.Prelude.{option_map}
use Rattle.am_text.specs.declared.form.Form.{Form}
use Rattle.am_text.specs.declared.form.FormNode.{FormNode}
use Rattle.am_text.specs.Spelling.{bare, node_bare}
use Rattle.am_text.proofs.Folds.{bare-Word, bare-Number, bare-Text, bare-List, bare-form}
use Rattle.am_text.proofs.FormInduct.{node_induct}
use Rattle.am_syntax.specs.declared.written.Words.TheVariants.{Names}
use Rattle.am_syntax.specs.declared.written.WrittenFormula.{WrittenFormula}
use Rattle.am_syntax.specs.Shapes.{Shape, all_of, some_of, formula_of}
use Rattle.am_syntax.proofs.PlacesAside.{shape-bare}
use Rattle.am_theory.specs.declared.declaration.Typed.{Typed}
use Rattle.am_theory.specs.declared.declaration.Declaration.TheVariants.{Axiom}
use Rattle.am_theory.specs.Declarations.{◌>>=◌, word_of, number_of, value_of, list_of, if_name, name_of, names_of, typed_in, typed_of, rep_in, rep_by, written_rep_of, sort_decl, subsort_decl, function_decl, relation_decl, literal_decl, routine_decl, value_decl, quantified_axiom, plain_axiom, head_in, tail_of, axiom_by, axiom_decl, decl_headed, decl_in, decl_of, version_in, version_of}
use Rattle.am_theory.proofs.FormParts.{node_word, word-at, word-List, node_number, number-at, number-List, node_value, value-at, value-List, node_list, list-at, list-Word, list-Number, list-Text, list-List}

pub bare-at : (f : Form) → bare f ≡ record { place = 0; node = node_bare f.node }
bare-at f = bare-form f.place f.node

-- ---- words, numbers, values and lists
word_of_node : (n : FormNode) → node_word (node_bare n) ≡ node_word n
word_of_node = node_induct (λ n. node_word (node_bare n) ≡ node_word n) (λ f. Unit {0}) (λ fs. Unit {0})
    (λ w. ap node_word (bare-Word w)) (λ n. ap node_word (bare-Number n)) (λ t. ap node_word (bare-Text t))
    (λ fs h. ap node_word (bare-List fs) ∙ word-List (map bare fs) ∙ sym (word-List fs))
    (λ p n h. tt) tt (λ f fs h k. tt)

pub word-bare : (f : Form) → word_of (bare f) ≡ word_of f
word-bare f = word-at (bare f) ∙ ap (λ (g : Form). node_word g.node) (bare-at f) ∙ word_of_node f.node ∙ sym (word-at f)

number_of_node : (n : FormNode) → node_number (node_bare n) ≡ node_number n
number_of_node = node_induct (λ n. node_number (node_bare n) ≡ node_number n) (λ f. Unit {0}) (λ fs. Unit {0})
    (λ w. ap node_number (bare-Word w)) (λ n. ap node_number (bare-Number n)) (λ t. ap node_number (bare-Text t))
    (λ fs h. ap node_number (bare-List fs) ∙ number-List (map bare fs) ∙ sym (number-List fs))
    (λ p n h. tt) tt (λ f fs h k. tt)

pub number-bare : (f : Form) → number_of (bare f) ≡ number_of f
number-bare f = number-at (bare f) ∙ ap (λ (g : Form). node_number g.node) (bare-at f) ∙ number_of_node f.node ∙ sym (number-at f)

value_of_node : (n : FormNode) → node_value (node_bare n) ≡ node_value n
value_of_node = node_induct (λ n. node_value (node_bare n) ≡ node_value n) (λ f. Unit {0}) (λ fs. Unit {0})
    (λ w. ap node_value (bare-Word w)) (λ n. ap node_value (bare-Number n)) (λ t. ap node_value (bare-Text t))
    (λ fs h. ap node_value (bare-List fs) ∙ value-List (map bare fs) ∙ sym (value-List fs))
    (λ p n h. tt) tt (λ f fs h k. tt)

pub value-bare : (f : Form) → value_of (bare f) ≡ value_of f
value-bare f = value-at (bare f) ∙ ap (λ (g : Form). node_value g.node) (bare-at f) ∙ value_of_node f.node ∙ sym (value-at f)

abbrev bared : Option (List Form) → Option (List Form)
bared o = option_map (map bare) o

list_of_node : (n : FormNode) → node_list (node_bare n) ≡ bared (node_list n)
list_of_node = node_induct (λ n. node_list (node_bare n) ≡ bared (node_list n)) (λ f. Unit {0}) (λ fs. Unit {0})
    (λ w. ap node_list (bare-Word w) ∙ list-Word w ∙ sym (ap bared (list-Word w)))
    (λ n. ap node_list (bare-Number n) ∙ list-Number n ∙ sym (ap bared (list-Number n)))
    (λ t. ap node_list (bare-Text t) ∙ list-Text t ∙ sym (ap bared (list-Text t)))
    (λ fs h. ap node_list (bare-List fs) ∙ list-List (map bare fs) ∙ sym (ap bared (list-List fs)))
    (λ p n h. tt) tt (λ f fs h k. tt)

pub list-bare : (f : Form) → list_of (bare f) ≡ option_map (map bare) (list_of f)
list-bare f = list-at (bare f) ∙ ap (λ (g : Form). node_list g.node) (bare-at f) ∙ list_of_node f.node ∙ sym (ap bared (list-at f))

mapped : {B : Type 0} (k : List Form → Option B) → ((fs : List Form) → k (map bare fs) ≡ k fs) → (o : Option (List Form)) → (bared o >>= k) ≡ (o >>= k)
mapped k e None = refl
mapped k e (Some fs) = e fs

list_then : {B : Type 0} (k : List Form → Option B) → ((fs : List Form) → k (map bare fs) ≡ k fs) → (f : Form) → (list_of (bare f) >>= k) ≡ (list_of f >>= k)
list_then k e f = ap (λ (o : Option (List Form)). o >>= k) (list-bare f) ∙ mapped k e (list_of f)

each_bare : {A : Type 0} (h : Form → A) → ((f : Form) → h (bare f) ≡ h f) → (fs : List Form) → map h (map bare fs) ≡ map h fs
each_bare h e [] = refl
each_bare h e (f ∷ fs) = ap (λ x. x ∷ map h (map bare fs)) (e f) ∙ ap (λ xs. h f ∷ xs) (each_bare h e fs)

-- ---- names and pairs
pub name-bare : (f : Form) → name_of (bare f) ≡ name_of f
unfolding name_of
name-bare f = ap (λ (o : Option (List ℕ)). o >>= if_name) (word-bare f)

pub names-bare : (f : Form) → names_of (bare f) ≡ names_of f
unfolding names_of
names-bare f = list_then (λ (fs : List Form). all_of (map name_of fs)) (λ fs. ap all_of (each_bare name_of name-bare fs)) f

pair_bare : (fs : List Form) → typed_in (map bare fs) ≡ typed_in fs
pair_bare [] = refl
pair_bare (n ∷ []) = refl
pair_bare (n ∷ s ∷ []) = rw (name-bare n, name-bare s) refl
pair_bare (n ∷ s ∷ f ∷ fs) = refl

pub typed-bare : (f : Form) → typed_of (bare f) ≡ typed_of f
unfolding typed_of
typed-bare f = list_then typed_in pair_bare f

-- ---- representations
listed_rep : (fs : List Form) → rep_in (map bare fs) ≡ rep_in fs
listed_rep [] = refl
listed_rep (h ∷ []) = refl
listed_rep (h ∷ m ∷ []) = rw (word-bare h, number-bare m) refl
listed_rep (h ∷ m ∷ n ∷ []) = rw (word-bare h, number-bare m, number-bare n) refl
listed_rep (h ∷ m ∷ n ∷ f ∷ fs) = refl

rep_of : (o : Option (List ℕ)) (f : Form) → rep_by o (bare f) ≡ rep_by o f
rep_of None f = list_then rep_in listed_rep f
rep_of (Some w) f = refl

pub rep-bare : (f : Form) → written_rep_of (bare f) ≡ written_rep_of f
unfolding written_rep_of
rep-bare f = ap (λ (o : Option (List ℕ)). rep_by o (bare f)) (word-bare f) ∙ rep_of (word_of f) f

-- ---- declarations
sort_bare : (fs : List Form) → sort_decl (map bare fs) ≡ sort_decl fs
sort_bare [] = refl
sort_bare (n ∷ []) = rw (name-bare n) refl
sort_bare (n ∷ r ∷ []) = rw (name-bare n, rep-bare r) refl
sort_bare (n ∷ r ∷ c ∷ []) = rw (name-bare n, rep-bare r, word-bare c) refl
sort_bare (n ∷ r ∷ c ∷ f ∷ fs) = refl

subsort_bare : (fs : List Form) → subsort_decl (map bare fs) ≡ subsort_decl fs
subsort_bare [] = refl
subsort_bare (n ∷ []) = refl
subsort_bare (n ∷ s ∷ []) = rw (name-bare n, name-bare s) refl
subsort_bare (n ∷ s ∷ f ∷ fs) = refl

function_bare : (fs : List Form) → function_decl (map bare fs) ≡ function_decl fs
function_bare [] = refl
function_bare (n ∷ []) = refl
function_bare (n ∷ s ∷ []) = refl
function_bare (n ∷ s ∷ r ∷ []) = rw (name-bare n, names-bare s, name-bare r) refl
function_bare (n ∷ s ∷ r ∷ f ∷ fs) = refl

relation_bare : (fs : List Form) → relation_decl (map bare fs) ≡ relation_decl fs
relation_bare [] = refl
relation_bare (n ∷ []) = refl
relation_bare (n ∷ s ∷ []) = rw (name-bare n, names-bare s) refl
relation_bare (n ∷ s ∷ f ∷ fs) = refl

literal_bare : (fs : List Form) → literal_decl (map bare fs) ≡ literal_decl fs
literal_bare [] = refl
literal_bare (n ∷ []) = refl
literal_bare (n ∷ s ∷ []) = refl
literal_bare (n ∷ s ∷ v ∷ []) = rw (name-bare n, name-bare s, value-bare v) refl
literal_bare (n ∷ s ∷ v ∷ f ∷ fs) = refl

routine_bare : (fs : List Form) → routine_decl (map bare fs) ≡ routine_decl fs
routine_bare [] = refl
routine_bare (n ∷ []) = refl
routine_bare (n ∷ s ∷ os) = rw (word-bare n, names-bare s, each_bare typed_of typed-bare os) refl

value_bare : (fs : List Form) → value_decl (map bare fs) ≡ value_decl fs
value_bare [] = refl
value_bare (w ∷ []) = refl
value_bare (w ∷ n ∷ []) = refl
value_bare (w ∷ n ∷ s ∷ []) = refl
value_bare (w ∷ n ∷ s ∷ r ∷ []) = rw (word-bare w, name-bare n, names-bare s, name-bare r) refl
value_bare (w ∷ n ∷ s ∷ r ∷ f ∷ fs) = refl

pub formula-bare : (f : Form) → formula_of Names (bare f) ≡ formula_of Names f
unfolding formula_of
formula-bare f = ap (λ (s : Shape). s.formula) (shape-bare Names f)

quantified_bare : (fs : List Form) → quantified_axiom (map bare fs) ≡ quantified_axiom fs
quantified_bare [] = refl
quantified_bare (v ∷ []) = refl
quantified_bare (v ∷ g ∷ []) =
    rw (formula-bare g) (list_then (λ (fs : List Form). some_of (map typed_of fs) >>= λ (vs : List Typed). formula_of Names g >>= λ (x : WrittenFormula). Some (Axiom vs x))
    (λ fs. ap (λ (ts : List (Option Typed)). some_of ts >>= λ (vs : List Typed). formula_of Names g >>= λ (x : WrittenFormula). Some (Axiom vs x)) (each_bare typed_of typed-bare fs)) v)
quantified_bare (v ∷ g ∷ f ∷ fs) = refl

plain_bare : (f : Form) → plain_axiom (bare f) ≡ plain_axiom f
plain_bare f = rw (formula-bare f) refl

head_bare : (fs : List Form) → head_in (map bare fs) ≡ head_in fs
head_bare [] = refl
head_bare (f ∷ fs) = word-bare f

behind_bare : (fs : List Form) → quantified_axiom (tail_of (map bare fs)) ≡ quantified_axiom (tail_of fs)
behind_bare [] = refl
behind_bare (f ∷ fs) = quantified_bare fs

axiom_by_bare : (f : Form) (o : Option (List Form)) → axiom_by (bare f) (bared o) ≡ axiom_by f o
axiom_by_bare f None = plain_bare f
axiom_by_bare f (Some fs) = rw (head_bare fs, behind_bare fs, plain_bare f) refl

axiom_bare : (fs : List Form) → axiom_decl (map bare fs) ≡ axiom_decl fs
axiom_bare [] = refl
axiom_bare (f ∷ []) = ap (axiom_by (bare f)) (list-bare f) ∙ axiom_by_bare f (list_of f)
axiom_bare (f ∷ g ∷ fs) = refl

headed_bare : (w : List ℕ) (fs : List Form) → decl_headed w (map bare fs) ≡ decl_headed w fs
headed_bare w fs = rw (sort_bare fs, subsort_bare fs, function_bare fs, relation_bare fs, literal_bare fs, routine_bare fs, value_bare fs, axiom_bare fs) refl

listed_bare : (fs : List Form) → decl_in (map bare fs) ≡ decl_in fs
listed_bare [] = refl
listed_bare (h ∷ fs) = rw (word-bare h) (by (word_of h))
  where
    by : (o : Option (List ℕ)) → (o >>= λ w. decl_headed w (map bare fs)) ≡ (o >>= λ w. decl_headed w fs)
    by None = refl
    by (Some w) = headed_bare w fs

pub decl-bare : (f : Form) → decl_of (bare f) ≡ decl_of f
unfolding decl_of
decl-bare f = list_then decl_in listed_bare f

-- forms that differ in their places alone are the same declaration
pub same_declaration : (f g : Form) → bare f ≡ bare g → decl_of f ≡ decl_of g
same_declaration f g e = sym (decl-bare f) ∙ ap decl_of e ∙ decl-bare g

-- ---- the first form
version_bare : (fs : List Form) → version_in (map bare fs) ≡ version_in fs
version_bare [] = refl
version_bare (h ∷ []) = refl
version_bare (h ∷ n ∷ []) = rw (word-bare h, number-bare n) refl
version_bare (h ∷ n ∷ f ∷ fs) = refl

pub version-bare : (f : Form) → version_of (bare f) ≡ version_of f
unfolding version_of
version-bare f = list_then version_in version_bare f

-- and of the same version
pub same_version : (f g : Form) → bare f ≡ bare g → version_of f ≡ version_of g
same_version f g e = sym (version-bare f) ∙ ap version_of e ∙ version-bare g
