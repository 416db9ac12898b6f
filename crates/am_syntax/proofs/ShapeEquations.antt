-- Which term and which formula a form is, by its node.
use Rattle.std.proofs.Common.{◌≡◌, ℕ, zero, suc, ◌+◌, ◌<◌, Bool, true, false, List, [], ◌∷◌, ◌++◌, length, map, take, get_or, Option, Some, None, refl, sym, ap, ◌∙◌, arith}
use Rattle.std.specs.Prelude.{ℤ, option_map, if◌then◌else◌}
use Rattle.std.proofs.lemmas.List.{map_more}
use Rattle.std.proofs.lemmas.Grind.{common_steps}
use Rattle.am_term.specs.Names.{is_name}
use Rattle.am_text.specs.declared.form.Form.{Form}
use Rattle.am_text.specs.declared.form.FormNode.{FormNode}
use Rattle.am_text.specs.declared.form.FormNode.TheVariants as node
use Rattle.am_text.specs.declared.form.FormNode.TheVariants.{rolls-Word, rolls-Number, rolls-Text, rolls-List, outs-Word, outs-Number, outs-Text, outs-List}
use Rattle.am_text.specs.declared.form.FormNode.TheFolds.{fold-FormNode, fold-roll-Form, fold-roll-FormNode}
use Rattle.am_text.specs.declared.form.FormNode.TheOpen.{FormNode-F}
use Rattle.am_text.specs.declared.form.FormNode.TheViews.{the_lemmas, roll-FormNode}
use Rattle.am_text.proofs.FormInduct.{node_induct}
use Rattle.am_syntax.specs.declared.written.Words.{Words}
use Rattle.am_syntax.specs.declared.written.WrittenTerm.{WrittenTerm}
use Rattle.am_syntax.specs.declared.written.WrittenTerm.TheVariants.{Headed}
use Rattle.am_syntax.specs.declared.written.WrittenFormula.{WrittenFormula}
use Rattle.am_syntax.specs.Shapes.{Shape, shape, node_shape, shape_step, form_shape, shapeless, word_shape, list_shape, headed_by, term_of, formula_of, terms_in, formulas_in, with_first, all_of, some_of}
use Rattle.am_syntax.specs.Heads.{word_of, word_at, list_as_term, list_as_formula, word_as_term, word_as_formula, term_by, formula_by, name_of, some_in}

-- ---- the shapes of nodes
pub shape-Word : (words : Words) (w : List ℕ) → node_shape words (node.Word w) ≡ word_shape words w
unfolding node_shape
shape-Word words w = ap (fold-FormNode Shape Shape (shape_step words) form_shape) (sym (rolls-Word w)) ∙ fold-roll-FormNode Shape Shape (shape_step words) form_shape (FormNode-F.Word w)

pub shape-Number : (words : Words) (n : ℤ) → node_shape words (node.Number n) ≡ shapeless
unfolding node_shape
shape-Number words n = ap (fold-FormNode Shape Shape (shape_step words) form_shape) (sym (rolls-Number n)) ∙ fold-roll-FormNode Shape Shape (shape_step words) form_shape (FormNode-F.Number n)

pub shape-Text : (words : Words) (t : List ℕ) → node_shape words (node.Text t) ≡ shapeless
unfolding node_shape
shape-Text words t = ap (fold-FormNode Shape Shape (shape_step words) form_shape) (sym (rolls-Text t)) ∙ fold-roll-FormNode Shape Shape (shape_step words) form_shape (FormNode-F.Text t)

pub shape-List : (words : Words) (fs : List Form) → node_shape words (node.List fs) ≡ list_shape (map (shape words) fs)
unfolding node_shape shape
shape-List words fs = ap (fold-FormNode Shape Shape (shape_step words) form_shape) (sym (rolls-List fs)) ∙ fold-roll-FormNode Shape Shape (shape_step words) form_shape (FormNode-F.List fs)

pub shape-form : (words : Words) (p : ℕ) (n : FormNode) → shape words (record { place = p; node = n }) ≡ node_shape words n
unfolding node_shape shape
shape-form words p n = fold-roll-Form Shape Shape (shape_step words) form_shape (record { place = p; node = n })

pub shape-at : (words : Words) (f : Form) → shape words f ≡ node_shape words f.node
shape-at words f = shape-form words f.place f.node

-- ---- the word of a node
pub word-Word : (w : List ℕ) → word_of (node.Word w) ≡ Some w
unfolding word_of
word-Word w = ap word_at (outs-Word w)

abbrev pub no_word : Option (List ℕ)
no_word = None

pub word-Number : (n : ℤ) → word_of (node.Number n) ≡ no_word
unfolding word_of
word-Number n = ap word_at (outs-Number n)

pub word-Text : (t : List ℕ) → word_of (node.Text t) ≡ no_word
unfolding word_of
word-Text t = ap word_at (outs-Text t)

pub word-List : (fs : List Form) → word_of (node.List fs) ≡ no_word
unfolding word_of
word-List fs = ap word_at (outs-List fs)

list_word : (ss : List Shape) → (list_shape ss).word ≡ no_word
list_word [] = refl
list_word (s ∷ ss) = by s.word
  where
    by : (w : Option (List ℕ)) → (headed_by w ss).word ≡ no_word
    by None = refl
    by (Some h) = refl

pub shape-word : (words : Words) (n : FormNode) → (node_shape words n).word ≡ word_of n
shape-word words = node_induct (λ n. (node_shape words n).word ≡ word_of n) (λ f. Unit {0}) (λ fs. Unit {0})
    (λ w. ap (λ (s : Shape). s.word) (shape-Word words w) ∙ sym (word-Word w))
    (λ n. ap (λ (s : Shape). s.word) (shape-Number words n) ∙ sym (word-Number n))
    (λ t. ap (λ (s : Shape). s.word) (shape-Text words t) ∙ sym (word-Text t))
    (λ fs h. ap (λ (s : Shape). s.word) (shape-List words fs) ∙ list_word (map (shape words) fs) ∙ sym (word-List fs))
    (λ p n h. tt) tt (λ f fs h k. tt)

-- ---- the term
abbrev pub no_term : Option WrittenTerm
no_term = None

abbrev pub node_term : Words → FormNode → Option WrittenTerm
node_term words n = (node_shape words n).term

pub term-at : (words : Words) (f : Form) → term_of words f ≡ node_term words f.node
unfolding term_of
term-at words f = ap (λ (s : Shape). s.term) (shape-at words f)

pub term-Word : (words : Words) (w : List ℕ) → node_term words (node.Word w) ≡ word_as_term words w
term-Word words w = ap (λ (s : Shape). s.term) (shape-Word words w)

pub term-Number : (words : Words) (n : ℤ) → node_term words (node.Number n) ≡ no_term
term-Number words n = ap (λ (s : Shape). s.term) (shape-Number words n)

pub term-Text : (words : Words) (t : List ℕ) → node_term words (node.Text t) ≡ no_term
term-Text words t = ap (λ (s : Shape). s.term) (shape-Text words t)

pub term-nil : (words : Words) → node_term words (node.List []) ≡ no_term
term-nil words = ap (λ (s : Shape). s.term) (shape-List words [])

terms_are : (words : Words) (fs : List Form) → terms_in (map (shape words) fs) ≡ map (term_of words) fs
unfolding term_of
terms_are words [] = refl
terms_are words (f ∷ fs) = ap (λ (ts : List (Option WrittenTerm)). (shape words f).term ∷ ts) (terms_are words fs)

by_term : (w : Option (List ℕ)) (ss : List Shape) → (headed_by w ss).term ≡ term_by w (terms_in ss)
by_term None ss = refl
by_term (Some h) ss = refl

pub term-cons : (words : Words) (h : Form) (fs : List Form) → node_term words (node.List (h ∷ fs)) ≡ list_as_term words h.node fs
term-cons words h fs =
    ap (λ (s : Shape). s.term) (shape-List words (h ∷ fs)) ∙ by_term (shape words h).word (map (shape words) fs)
    ∙ ap (λ (w : Option (List ℕ)). term_by w (terms_in (map (shape words) fs))) (ap (λ (s : Shape). s.word) (shape-at words h) ∙ shape-word words h.node)
    ∙ ap (term_by (word_of h.node)) (terms_are words fs)

-- ---- the formula
abbrev pub no_formula : Option WrittenFormula
no_formula = None

abbrev pub node_formula : Words → FormNode → Option WrittenFormula
node_formula words n = (node_shape words n).formula

pub formula-at : (words : Words) (f : Form) → formula_of words f ≡ node_formula words f.node
unfolding formula_of
formula-at words f = ap (λ (s : Shape). s.formula) (shape-at words f)

pub formula-Word : (words : Words) (w : List ℕ) → node_formula words (node.Word w) ≡ word_as_formula w
formula-Word words w = ap (λ (s : Shape). s.formula) (shape-Word words w)

pub formula-Number : (words : Words) (n : ℤ) → node_formula words (node.Number n) ≡ no_formula
formula-Number words n = ap (λ (s : Shape). s.formula) (shape-Number words n)

pub formula-Text : (words : Words) (t : List ℕ) → node_formula words (node.Text t) ≡ no_formula
formula-Text words t = ap (λ (s : Shape). s.formula) (shape-Text words t)

pub formula-nil : (words : Words) → node_formula words (node.List []) ≡ no_formula
formula-nil words = ap (λ (s : Shape). s.formula) (shape-List words [])

formulas_are : (words : Words) (fs : List Form) → formulas_in (map (shape words) fs) ≡ map (formula_of words) fs
unfolding formula_of
formulas_are words [] = refl
formulas_are words (f ∷ fs) = ap (λ (ts : List (Option WrittenFormula)). (shape words f).formula ∷ ts) (formulas_are words fs)

by_formula : (w : Option (List ℕ)) (ss : List Shape) → (headed_by w ss).formula ≡ formula_by w (terms_in ss) (formulas_in ss)
by_formula None ss = refl
by_formula (Some h) ss = refl

pub formula-cons : (words : Words) (h : Form) (fs : List Form) → node_formula words (node.List (h ∷ fs)) ≡ list_as_formula words h.node fs
formula-cons words h fs =
    ap (λ (s : Shape). s.formula) (shape-List words (h ∷ fs)) ∙ by_formula (shape words h).word (map (shape words) fs)
    ∙ ap (λ (w : Option (List ℕ)). formula_by w (terms_in (map (shape words) fs)) (formulas_in (map (shape words) fs))) (ap (λ (s : Shape). s.word) (shape-at words h) ∙ shape-word words h.node)
    ∙ ap (λ (ts : List (Option WrittenTerm)). formula_by (word_of h.node) ts (formulas_in (map (shape words) fs))) (terms_are words fs)
    ∙ ap (formula_by (word_of h.node) (map (term_of words) fs)) (formulas_are words fs)

-- ---- all members
abbrev pub all_are : {A : Type 0} → List A → Option (List A)
all_are ys = Some ys

abbrev pub no_list : {A : Type 0} → Option (List A)
no_list = None

push_on : {A : Type 0} (x y : A) (r q : Option (List A)) (ys : List A) → ((zs : List A) → r ≡ all_are zs → q ≡ all_are (zs ++ y ∷ [])) → with_first (Some x) r ≡ all_are ys → with_first (Some x) q ≡ all_are (ys ++ y ∷ [])
push_on x y None q ys more e = absurd cc
push_on x y (Some zs) q ys more e = ap (with_first (Some x)) (more zs refl) ∙ ap (λ us. all_are (us ++ y ∷ [])) (let g : x ∷ zs ≡ ys = cc in g)

all_push : {A : Type 0} (xs : List (Option A)) (ys : List A) (y : A) → all_of xs ≡ all_are ys → all_of (xs ++ Some y ∷ []) ≡ all_are (ys ++ y ∷ [])
all_push [] ys y e = ap (λ zs. all_are (zs ++ y ∷ [])) (let g : [] ≡ ys = cc in g)
all_push (None ∷ xs) ys y e = absurd cc
all_push (Some x ∷ xs) ys y e = push_on x y (all_of xs) (all_of (xs ++ Some y ∷ [])) ys (λ zs f. all_push xs zs y f) e

pub all_more : {A B : Type 0} (f : A → Option B) (xs : List A) (i : ℕ) (d : A) (ys : List B) (y : B) → i < length xs → all_of (map f (take i xs)) ≡ all_are ys → f (get_or xs i d) ≡ Some y → all_of (map f (take (i + 1) xs)) ≡ all_are (ys ++ y ∷ [])
all_more f xs i d ys y lt e is = ap all_of (map_more f xs i d lt ∙ ap (λ z. map f (take i xs) ++ z ∷ []) is) ∙ all_push (map f (take i xs)) ys y e

fails_after : {A : Type 0} (x : Option A) → with_first x no_list ≡ no_list
fails_after None = refl
fails_after (Some x) = refl

pub all_fails : {A B : Type 0} (f : A → Option B) (xs : List A) (i : ℕ) (d : A) → i < length xs → f (get_or xs i d) ≡ None → all_of (map f xs) ≡ no_list
all_fails f [] i d lt e = absurd (omega arith)
all_fails f (x ∷ xs) zero d lt e = rw e refl
all_fails f (x ∷ xs) (suc i) d lt e = ap (with_first (f x)) (all_fails f xs i d (omega arith) e) ∙ fails_after (f x)

some_all : {A : Type 0} (x : Option A) (r : Option (List A)) → some_in (with_first x r) ≡ with_first x r
some_all None r = refl
some_all (Some x) None = refl
some_all (Some x) (Some ys) = refl

pub some_is : {A : Type 0} (xs : List (Option A)) → some_of xs ≡ some_in (all_of xs)
some_is [] = refl
some_is (x ∷ xs) = sym (some_all x (all_of xs))

named_by : (b : Bool) (h n : List ℕ) (terms : List (Option WrittenTerm)) → (if b then Some h else no_word) ≡ Some n → (if b then option_map (Headed h) (some_of terms) else no_term) ≡ option_map (Headed n) (some_in (all_of terms))
named_by true h n terms e = rw (some_is terms) (ap (λ (m : List ℕ). option_map (Headed m) (some_in (all_of terms))) (let g : h ≡ n = cc in g))
named_by false h n terms e = absurd cc

pub term_named : (w : Option (List ℕ)) (n : List ℕ) (terms : List (Option WrittenTerm)) → name_of w ≡ Some n → term_by w terms ≡ option_map (Headed n) (some_in (all_of terms))
term_named None n terms e = absurd cc
term_named (Some h) n terms e = named_by (is_name h) h n terms e

unnamed_by : (b : Bool) (h : List ℕ) (terms : List (Option WrittenTerm)) → (if b then Some h else no_word) ≡ None → (if b then option_map (Headed h) (some_of terms) else no_term) ≡ no_term
unnamed_by true h terms e = absurd cc
unnamed_by false h terms e = refl

pub term_unnamed : (w : Option (List ℕ)) (terms : List (Option WrittenTerm)) → name_of w ≡ None → term_by w terms ≡ no_term
term_unnamed None terms e = refl
term_unnamed (Some h) terms e = unnamed_by (is_name h) h terms e

pub ruleset term_laws = (common_steps, the_lemmas, term-at, term-Word, term-Number, term-Text, term-nil, term-cons, word-Word, word-Number, word-Text, word-List, term_named, term_unnamed, all_more, all_fails)
