-- Which form is which term and which formula, by its shape alone. The places of forms don't count.
use Rattle.std.specs.Prelude.{◌||◌, ℕ, Bool, true, false, Option, Some, None, List, [], ◌∷◌, map, codes, option_map, if◌then◌else◌}
use Rattle.std.specs.Str.{bytes_eq}
use Rattle.am_term.specs.Names.{is_name}
use Rattle.am_text.specs.declared.form.Form.{Form}
use Rattle.am_text.specs.declared.form.FormNode.{FormNode}
use Rattle.am_text.specs.declared.form.FormNode.TheOpen.{FormNode-F, Form-F}
use Rattle.am_text.specs.declared.form.FormNode.TheFolds.{fold-Form, fold-FormNode}
use Rattle.am_syntax.specs.declared.written.Words.{Words}
use Rattle.am_syntax.specs.declared.written.Words.TheVariants.{Names, Any}
use Rattle.am_syntax.specs.declared.written.WrittenTerm.{WrittenTerm}
use Rattle.am_syntax.specs.declared.written.WrittenTerm.TheVariants.{Alone, Headed}
use Rattle.am_syntax.specs.declared.written.WrittenAtom.{WrittenAtom}
use Rattle.am_syntax.specs.declared.written.WrittenAtom.TheVariants.{Equation, Relation}
use Rattle.am_syntax.specs.declared.written.WrittenLiteral.{WrittenLiteral}
use Rattle.am_syntax.specs.declared.written.WrittenFormula.{WrittenFormula}
use Rattle.am_syntax.specs.declared.written.WrittenFormula.TheOpen.{WrittenFormula-F}
use Rattle.am_syntax.specs.declared.written.WrittenFormula.TheViews.{out-WrittenFormula}
use Rattle.am_syntax.specs.declared.written.WrittenFormula.TheVariants.{Atom as Atomic, Not, And, Or, Implies, Iff, Quantified}

-- a word may stand alone in a term
abbrev pub may_stand : Words → List ℕ → Bool
may_stand Names w = is_name w
may_stand Any w = true

-- what a form is: a word, a term, a formula, or more than one of these
pub record Shape : Type 0 where
  pub word : Option (List ℕ)
  pub term : Option WrittenTerm
  pub formula : Option WrittenFormula

abbrev pub shapeless : Shape
shapeless = record { word = None; term = None; formula = None }

abbrev pub with_first : {A : Type 0} → Option A → Option (List A) → Option (List A)
with_first None xs = None
with_first (Some x) None = None
with_first (Some x) (Some xs) = Some (x ∷ xs)

-- all members, where each is there
abbrev pub all_of : {A : Type 0} → List (Option A) → Option (List A)
all_of [] = Some []
all_of (x ∷ xs) = with_first x (all_of xs)

-- all members, where there is one and each is there
abbrev pub some_of : {A : Type 0} → List (Option A) → Option (List A)
some_of [] = None
some_of (x ∷ xs) = all_of (x ∷ xs)

abbrev pub pair_of : {A B : Type 0} → (A → A → B) → Option A → Option A → Option B
pair_of f None y = None
pair_of f (Some x) None = None
pair_of f (Some x) (Some y) = Some (f x y)

-- the one member
abbrev pub one_of : {A B : Type 0} → (A → B) → List (Option A) → Option B
one_of f [] = None
one_of f (x ∷ []) = option_map f x
one_of f (x ∷ y ∷ ys) = None

-- the two members
abbrev pub two_of : {A B : Type 0} → (A → A → B) → List (Option A) → Option B
two_of f [] = None
two_of f (x ∷ []) = None
two_of f (x ∷ y ∷ []) = pair_of f x y
two_of f (x ∷ y ∷ z ∷ zs) = None

abbrev pub terms_in : List Shape → List (Option WrittenTerm)
terms_in = map (λ (s : Shape). s.term)

abbrev pub formulas_in : List Shape → List (Option WrittenFormula)
formulas_in = map (λ (s : Shape). s.formula)

-- a word alone: a term where it may stand so, and a relation without arguments where it is a name
abbrev pub word_shape : Words → List ℕ → Shape
word_shape words w = record {
  word = Some w;
  term = if may_stand words w then Some (Alone w) else None;
  formula = if is_name w then Some (Atomic (Relation w [])) else None;
}

-- `(NAME TERM ..)`, with at least one term
abbrev pub headed_term : List ℕ → List (Option WrittenTerm) → Option WrittenTerm
headed_term h terms = if is_name h then option_map (Headed h) (some_of terms) else None

-- `(NAME TERM ..)` as an atom
abbrev pub headed_atom : List ℕ → List (Option WrittenTerm) → Option WrittenFormula
headed_atom h terms = if is_name h then option_map (λ ts. Atomic (Relation h ts)) (some_of terms) else None

abbrev pub is_quantifier : List ℕ → Bool
is_quantifier h = bytes_eq h (codes "all") || bytes_eq h (codes "exists")

-- `(not F)`, `(and F ..)` and `(or F ..)` with at least one member, `(=> F G)`, `(<=> F G)`,
-- `(= TERM TERM)`, a quantifier whatever stands behind it, `(NAME TERM ..)`
abbrev pub headed_formula : List ℕ → List (Option WrittenTerm) → List (Option WrittenFormula) → Option WrittenFormula
headed_formula h terms formulas =
    if bytes_eq h (codes "not") then one_of Not formulas
    else if bytes_eq h (codes "and") then option_map And (some_of formulas)
    else if bytes_eq h (codes "or") then option_map Or (some_of formulas)
    else if bytes_eq h (codes "=>") then two_of Implies formulas
    else if bytes_eq h (codes "<=>") then two_of Iff formulas
    else if bytes_eq h (codes "=") then two_of (λ left right. Atomic (Equation left right)) terms
    else if is_quantifier h then Some Quantified
    else headed_atom h terms

-- a list whose head is a word
abbrev pub headed_by : Option (List ℕ) → List Shape → Shape
headed_by None rest = shapeless
headed_by (Some h) rest = record { word = None; term = headed_term h (terms_in rest); formula = headed_formula h (terms_in rest) (formulas_in rest) }

abbrev pub list_shape : List Shape → Shape
list_shape [] = shapeless
list_shape (s ∷ ss) = headed_by s.word ss

abbrev pub shape_step : Words → FormNode-F Shape Shape → Shape
shape_step words (FormNode-F.Word w) = word_shape words w
shape_step words (FormNode-F.Number n) = shapeless
shape_step words (FormNode-F.Text t) = shapeless
shape_step words (FormNode-F.List ss) = list_shape ss

abbrev pub form_shape : Form-F Shape Shape → Shape
form_shape f = f.node

-- A term is a word alone, or a list of a name and one or more terms. A formula is as in the table above.
unfoldable pub shape : Words → Form → Shape
shape words = fold-Form Shape Shape (shape_step words) form_shape

unfoldable pub node_shape : Words → FormNode → Shape
node_shape words = fold-FormNode Shape Shape (shape_step words) form_shape

-- the term that a form is
unfoldable pub term_of : Words → Form → Option WrittenTerm
term_of words f = (shape words f).term

-- the formula that a form is
unfoldable pub formula_of : Words → Form → Option WrittenFormula
formula_of words f = (shape words f).formula

abbrev pub with_sign : Bool → Option WrittenAtom → Option WrittenLiteral
with_sign sign None = None
with_sign sign (Some a) = Some (record { positive = sign; atom = a })

abbrev pub atom_at : WrittenFormula-F WrittenFormula → Option WrittenAtom
atom_at (WrittenFormula-F.Atom a) = Some a
atom_at (WrittenFormula-F.Not f) = None
atom_at (WrittenFormula-F.And fs) = None
atom_at (WrittenFormula-F.Or fs) = None
atom_at (WrittenFormula-F.Implies f g) = None
atom_at (WrittenFormula-F.Iff f g) = None
atom_at WrittenFormula-F.Quantified = None

abbrev pub literal_at : WrittenFormula-F WrittenFormula → Option WrittenLiteral
literal_at (WrittenFormula-F.Atom a) = Some (record { positive = true; atom = a })
literal_at (WrittenFormula-F.Not f) = with_sign false (atom_at (out-WrittenFormula f))
literal_at (WrittenFormula-F.And fs) = None
literal_at (WrittenFormula-F.Or fs) = None
literal_at (WrittenFormula-F.Implies f g) = None
literal_at (WrittenFormula-F.Iff f g) = None
literal_at WrittenFormula-F.Quantified = None

abbrev pub as_literal : Option WrittenFormula → Option WrittenLiteral
as_literal None = None
as_literal (Some f) = literal_at (out-WrittenFormula f)

-- the literal that a form is: an atom, or `(not A)`
unfoldable pub literal_of : Words → Form → Option WrittenLiteral
literal_of words f = as_literal (formula_of words f)
