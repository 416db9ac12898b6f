-- What a form is, by its node, and the term that it may spell.
use Rattle.std.proofs.Common.{◌≡◌, ℕ, List, [], ◌∷◌, map, refl, sym, ap, ◌∙◌}
use Rattle.std.proofs.Common.{◌<◌, length, arith}
use Rattle.std.specs.Prelude.{ℤ}
use Rattle.std.specs.List.{before_first, after_first, position_or_len}
use Rattle.std.proofs.lemmas.Bool.{lt-ltb, le-ltb}
use Rattle.am_log.specs.Guess.{number_in_word, is_mark, word_or_empty, small_number_at, members_at, small_value, word_in, number_in, members_in, word_guess, Guessed, no_guess, guessed_terms, list_guess, guess_step, form_guess, guess_of, node_guess_of, guess_term}
use Rattle.std.proofs.lemmas.List.{map_more, map_push}
use Rattle.std.proofs.lemmas.Grind.{common_steps}
use Rattle.am_text.specs.declared.form.Form.{Form}
use Rattle.am_text.specs.declared.form.FormNode.{FormNode}
use Rattle.am_text.specs.declared.form.FormNode.TheVariants as node
use Rattle.am_text.specs.declared.form.FormNode.TheVariants.{rolls-Word, rolls-Number, rolls-Text, rolls-List, outs-Word, outs-Number, outs-Text, outs-List}
use Rattle.am_text.specs.declared.form.FormNode.TheFolds.{fold-FormNode, fold-roll-Form, fold-roll-FormNode}
use Rattle.am_text.specs.declared.form.FormNode.TheOpen.{FormNode-F}
use Rattle.am_text.specs.declared.form.FormNode.TheViews.{the_lemmas, out-FormNode}
use Rattle.am_text.proofs.FormInduct.{node_induct}
use Rattle.am_log.specs.declared.named.NamedTerm.{NamedTerm}
use Rattle.am_log.specs.declared.named.NamedTerm.TheVariants.{Variable, Alone, Headed}

-- ---- the word, the number and the members of a node
pub node_word : FormNode → List ℕ
node_word n = word_or_empty (out-FormNode n)

pub word-at : (f : Form) → word_in f ≡ node_word f.node
unfolding word_in node_word
word-at f = refl

pub word-Word : (w : List ℕ) → node_word (node.Word w) ≡ w
unfolding node_word
word-Word w = ap word_or_empty (outs-Word w)

pub word-Number : (n : ℤ) → node_word (node.Number n) ≡ []
unfolding node_word
word-Number n = ap word_or_empty (outs-Number n)

pub word-Text : (t : List ℕ) → node_word (node.Text t) ≡ []
unfolding node_word
word-Text t = ap word_or_empty (outs-Text t)

pub word-List : (fs : List Form) → node_word (node.List fs) ≡ []
unfolding node_word
word-List fs = ap word_or_empty (outs-List fs)

pub node_number : FormNode → ℕ
node_number n = small_number_at (out-FormNode n)

pub number-at : (f : Form) → number_in f ≡ node_number f.node
unfolding number_in node_number
number-at f = refl

pub number-Word : (w : List ℕ) → node_number (node.Word w) ≡ 0
unfolding node_number
number-Word w = ap small_number_at (outs-Word w)

pub number-Number : (n : ℤ) → node_number (node.Number n) ≡ small_value n
unfolding node_number
number-Number n = ap small_number_at (outs-Number n)

pub number-Text : (t : List ℕ) → node_number (node.Text t) ≡ 0
unfolding node_number
number-Text t = ap small_number_at (outs-Text t)

pub number-List : (fs : List Form) → node_number (node.List fs) ≡ 0
unfolding node_number
number-List fs = ap small_number_at (outs-List fs)

pub node_members : FormNode → List Form
node_members n = members_at (out-FormNode n)

pub members-at : (f : Form) → members_in f ≡ node_members f.node
unfolding members_in node_members
members-at f = refl

pub members-Word : (w : List ℕ) → node_members (node.Word w) ≡ []
unfolding node_members
members-Word w = ap members_at (outs-Word w)

pub members-Number : (n : ℤ) → node_members (node.Number n) ≡ []
unfolding node_members
members-Number n = ap members_at (outs-Number n)

pub members-Text : (t : List ℕ) → node_members (node.Text t) ≡ []
unfolding node_members
members-Text t = ap members_at (outs-Text t)

pub members-List : (fs : List Form) → node_members (node.List fs) ≡ fs
unfolding node_members
members-List fs = ap members_at (outs-List fs)

pub ruleset form_laws = (common_steps, the_lemmas, word-at, word-Word, word-Number, word-Text, word-List, number-at, number-Word, number-Number, number-Text, number-List, members-at, members-Word, members-Number, members-Text, members-List)

-- ---- the guess at a node
pub guess-Word : (w : List ℕ) → node_guess_of (node.Word w) ≡ record { word = w; term = word_guess w }
unfolding node_guess_of
guess-Word w = ap (fold-FormNode Guessed Guessed guess_step form_guess) (sym (rolls-Word w)) ∙ fold-roll-FormNode Guessed Guessed guess_step form_guess (FormNode-F.Word w)

pub guess-Number : (n : ℤ) → node_guess_of (node.Number n) ≡ no_guess
unfolding node_guess_of
guess-Number n = ap (fold-FormNode Guessed Guessed guess_step form_guess) (sym (rolls-Number n)) ∙ fold-roll-FormNode Guessed Guessed guess_step form_guess (FormNode-F.Number n)

pub guess-Text : (t : List ℕ) → node_guess_of (node.Text t) ≡ no_guess
unfolding node_guess_of
guess-Text t = ap (fold-FormNode Guessed Guessed guess_step form_guess) (sym (rolls-Text t)) ∙ fold-roll-FormNode Guessed Guessed guess_step form_guess (FormNode-F.Text t)

pub guess-List : (fs : List Form) → node_guess_of (node.List fs) ≡ list_guess (map guess_of fs)
unfolding node_guess_of guess_of
guess-List fs = ap (fold-FormNode Guessed Guessed guess_step form_guess) (sym (rolls-List fs)) ∙ fold-roll-FormNode Guessed Guessed guess_step form_guess (FormNode-F.List fs)

pub guess-form : (p : ℕ) (n : FormNode) → guess_of (record { place = p; node = n }) ≡ node_guess_of n
unfolding node_guess_of guess_of
guess-form p n = fold-roll-Form Guessed Guessed guess_step form_guess (record { place = p; node = n })

list_no_word : (gs : List Guessed) → (list_guess gs).word ≡ []
list_no_word [] = refl
list_no_word (g ∷ gs) = refl

node_guess_word : (n : FormNode) → (node_guess_of n).word ≡ node_word n
node_guess_word = node_induct (λ n. (node_guess_of n).word ≡ node_word n) (λ f. Unit {0}) (λ fs. Unit {0})
    (λ w. ap (λ (g : Guessed). g.word) (guess-Word w) ∙ sym (word-Word w))
    (λ n. ap (λ (g : Guessed). g.word) (guess-Number n) ∙ sym (word-Number n))
    (λ t. ap (λ (g : Guessed). g.word) (guess-Text t) ∙ sym (word-Text t))
    (λ fs h. ap (λ (g : Guessed). g.word) (guess-List fs) ∙ list_no_word (map guess_of fs) ∙ sym (word-List fs))
    (λ p n h. tt) tt (λ f fs h k. tt)

pub guess_word_is : (f : Form) → (guess_of f).word ≡ word_in f
guess_word_is f = ap (λ (g : Guessed). g.word) (guess-form f.place f.node) ∙ node_guess_word f.node ∙ sym (word-at f)

pub node_term : FormNode → NamedTerm
node_term n = (node_guess_of n).term

pub term-at : (f : Form) → guess_term f ≡ node_term f.node
unfolding guess_term node_term
term-at f = ap (λ (g : Guessed). g.term) (guess-form f.place f.node)

pub term-Word : (w : List ℕ) → node_term (node.Word w) ≡ word_guess w
unfolding node_term
term-Word w = ap (λ (g : Guessed). g.term) (guess-Word w)

pub term-Number : (n : ℤ) → node_term (node.Number n) ≡ Alone []
unfolding node_term
term-Number n = ap (λ (g : Guessed). g.term) (guess-Number n)

pub term-Text : (t : List ℕ) → node_term (node.Text t) ≡ Alone []
unfolding node_term
term-Text t = ap (λ (g : Guessed). g.term) (guess-Text t)

pub term-nil : node_term (node.List []) ≡ Alone []
unfolding node_term
term-nil = ap (λ (g : Guessed). g.term) (guess-List [])

terms_are : (fs : List Form) → guessed_terms (map guess_of fs) ≡ map guess_term fs
unfolding guess_term
terms_are [] = refl
terms_are (f ∷ fs) = ap (λ (ts : List NamedTerm). (guess_of f).term ∷ ts) (terms_are fs)

pub term-cons : (h : Form) (fs : List Form) → node_term (node.List (h ∷ fs)) ≡ Headed (word_in h) (map guess_term fs)
unfolding node_term
term-cons h fs = ap (λ (g : Guessed). g.term) (guess-List (h ∷ fs)) ∙ ap (λ (w : List ℕ). Headed w (guessed_terms (map guess_of fs))) (guess_word_is h) ∙ ap (Headed (word_in h)) (terms_are fs)

pub ruleset guess_laws = (common_steps, the_lemmas, map_more, map_push, term-at, term-Word, term-Number, term-Text, term-nil, term-cons)

-- ---- a word with a mark, and one without
pub marked_word : (w s d : List ℕ) (n : ℕ) → position_or_len is_mark w < length w → s ≡ before_first is_mark w → d ≡ after_first is_mark w → n ≡ number_in_word d → Variable s n ≡ word_guess w
unfolding word_guess
marked_word w s d n l e f g = rw (lt-ltb (position_or_len is_mark w) (length w) l, e, g, f) refl

pub unmarked_word : (w : List ℕ) → position_or_len is_mark w ≡ length w → Alone w ≡ word_guess w
unfolding word_guess
unmarked_word w e = rw (e, le-ltb (length w) (length w) (omega arith)) refl
