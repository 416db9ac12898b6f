-- What a form is, by its node.
use Rattle.std.proofs.Common.{◌≡◌, ℕ, zero, suc, ◌+◌, ◌<◌, List, [], ◌∷◌, ◌++◌, length, map, take, get_or, Option, Some, None, refl, ap, ◌∙◌, arith}
use Rattle.std.specs.Prelude.{ℤ}
use Rattle.std.proofs.lemmas.List.{map_more}
use Rattle.std.proofs.lemmas.Grind.{common_steps}
use Rattle.am_text.specs.declared.form.Form.{Form}
use Rattle.am_text.specs.declared.form.FormNode.{FormNode}
use Rattle.am_text.specs.declared.form.FormNode.TheVariants as node
use Rattle.am_text.specs.declared.form.FormNode.TheVariants.{outs-Word, outs-Number, outs-Text, outs-List}
use Rattle.am_text.specs.declared.form.FormNode.TheViews.{out-FormNode, the_lemmas}
use Rattle.am_syntax.specs.Shapes.{with_first, all_of}
use Rattle.am_syntax.specs.Heads.{word_at}
use Rattle.am_theory.specs.declared.theory.LitValue.{LitValue}
use Rattle.am_theory.specs.declared.theory.LitValue.TheVariants as value
use Rattle.am_theory.specs.Declarations.{number_at, value_at, list_at, word_of, number_of, value_of, list_of}

abbrev pub no_word : Option (List ℕ)
no_word = None

abbrev pub no_number : Option ℤ
no_number = None

abbrev pub no_value : Option LitValue
no_value = None

abbrev pub no_forms : Option (List Form)
no_forms = None

-- ---- a word
pub node_word : FormNode → Option (List ℕ)
node_word n = word_at (out-FormNode n)

pub word-at : (f : Form) → word_of f ≡ node_word f.node
unfolding word_of node_word
word-at f = refl

pub word-Word : (w : List ℕ) → node_word (node.Word w) ≡ Some w
unfolding node_word
word-Word w = ap word_at (outs-Word w)

pub word-Number : (n : ℤ) → node_word (node.Number n) ≡ no_word
unfolding node_word
word-Number n = ap word_at (outs-Number n)

pub word-Text : (t : List ℕ) → node_word (node.Text t) ≡ no_word
unfolding node_word
word-Text t = ap word_at (outs-Text t)

pub word-List : (fs : List Form) → node_word (node.List fs) ≡ no_word
unfolding node_word
word-List fs = ap word_at (outs-List fs)

-- ---- a number
pub node_number : FormNode → Option ℤ
node_number n = number_at (out-FormNode n)

pub number-at : (f : Form) → number_of f ≡ node_number f.node
unfolding number_of node_number
number-at f = refl

pub number-Word : (w : List ℕ) → node_number (node.Word w) ≡ no_number
unfolding node_number
number-Word w = ap number_at (outs-Word w)

pub number-Number : (n : ℤ) → node_number (node.Number n) ≡ Some n
unfolding node_number
number-Number n = ap number_at (outs-Number n)

pub number-Text : (t : List ℕ) → node_number (node.Text t) ≡ no_number
unfolding node_number
number-Text t = ap number_at (outs-Text t)

pub number-List : (fs : List Form) → node_number (node.List fs) ≡ no_number
unfolding node_number
number-List fs = ap number_at (outs-List fs)

-- ---- a value
pub node_value : FormNode → Option LitValue
node_value n = value_at (out-FormNode n)

pub value-at : (f : Form) → value_of f ≡ node_value f.node
unfolding value_of node_value
value-at f = refl

pub value-Word : (w : List ℕ) → node_value (node.Word w) ≡ no_value
unfolding node_value
value-Word w = ap value_at (outs-Word w)

pub value-Number : (n : ℤ) → node_value (node.Number n) ≡ Some (value.Int n)
unfolding node_value
value-Number n = ap value_at (outs-Number n)

pub value-Text : (t : List ℕ) → node_value (node.Text t) ≡ Some (value.Text t)
unfolding node_value
value-Text t = ap value_at (outs-Text t)

pub value-List : (fs : List Form) → node_value (node.List fs) ≡ no_value
unfolding node_value
value-List fs = ap value_at (outs-List fs)

-- ---- a list
pub node_list : FormNode → Option (List Form)
node_list n = list_at (out-FormNode n)

pub list-at : (f : Form) → list_of f ≡ node_list f.node
unfolding list_of node_list
list-at f = refl

pub list-Word : (w : List ℕ) → node_list (node.Word w) ≡ no_forms
unfolding node_list
list-Word w = ap list_at (outs-Word w)

pub list-Number : (n : ℤ) → node_list (node.Number n) ≡ no_forms
unfolding node_list
list-Number n = ap list_at (outs-Number n)

pub list-Text : (t : List ℕ) → node_list (node.Text t) ≡ no_forms
unfolding node_list
list-Text t = ap list_at (outs-Text t)

pub list-List : (fs : List Form) → node_list (node.List fs) ≡ Some fs
unfolding node_list
list-List fs = ap list_at (outs-List fs)

pub ruleset form_laws = (common_steps, the_lemmas, word-at, word-Word, word-Number, word-Text, word-List, number-at, number-Word, number-Number, number-Text, number-List, value-at, value-Word, value-Number, value-Text, value-List, list-at, list-Word, list-Number, list-Text, list-List)

-- ---- all members
abbrev pub all_are : {A : Type 0} → List A → Option (List A)
all_are ys = Some ys

abbrev pub no_list : {A : Type 0} → Option (List A)
no_list = None

push_on : {A : Type 0} (x y : A) (r q : Option (List A)) (ys : List A) → ((zs : List A) → r ≡ all_are zs → q ≡ all_are (zs ++ y ∷ [])) → with_first (Some x) r ≡ all_are ys → with_first (Some x) q ≡ all_are (ys ++ y ∷ [])
push_on x y None q ys more e = absurd cc
push_on x y (Some zs) q ys more e = ap (with_first (Some x)) (more zs refl) ∙ ap (λ us. all_are (us ++ y ∷ [])) (let g : x ∷ zs ≡ ys = cc in g)

all_push : {A : Type 0} (xs : List (Option A)) (ys : List A) (y : A) → all_of xs ≡ all_are ys → all_of (xs ++ Some y ∷ []) ≡ all_are (ys ++ y ∷ [])
all_push [] ys y e = ap (λ zs. all_are (zs ++ y ∷ [])) (let g : [] ≡ ys = cc in g)
all_push (None ∷ xs) ys y e = absurd cc
all_push (Some x ∷ xs) ys y e = push_on x y (all_of xs) (all_of (xs ++ Some y ∷ [])) ys (λ zs f. all_push xs zs y f) e

pub all_more : {A B : Type 0} (f : A → Option B) (xs : List A) (i : ℕ) (d : A) (ys : List B) (y : B) → i < length xs → all_of (map f (take i xs)) ≡ all_are ys → f (get_or xs i d) ≡ Some y → all_of (map f (take (i + 1) xs)) ≡ all_are (ys ++ y ∷ [])
all_more f xs i d ys y lt e is = ap all_of (map_more f xs i d lt ∙ ap (λ z. map f (take i xs) ++ z ∷ []) is) ∙ all_push (map f (take i xs)) ys y e

fails_after : {A : Type 0} (x : Option A) → with_first x no_list ≡ no_list
fails_after None = refl
fails_after (Some x) = refl

pub all_fails : {A B : Type 0} (f : A → Option B) (xs : List A) (i : ℕ) (d : A) → i < length xs → f (get_or xs i d) ≡ None → all_of (map f xs) ≡ no_list
all_fails f [] i d lt e = absurd (omega arith)
all_fails f (x ∷ xs) zero d lt e = rw e refl
all_fails f (x ∷ xs) (suc i) d lt e = ap (with_first (f x)) (all_fails f xs i d (omega arith) e) ∙ fails_after (f x)

pub ruleset list_laws = (common_steps, all_more, all_fails)
