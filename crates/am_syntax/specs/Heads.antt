-- What a word and a list are, by the node of the list's head.
use Rattle.std.specs.Prelude.{ℕ, Option, Some, None, List, [], ◌∷◌, map, codes, option_map, if◌then◌else◌}
use Rattle.std.specs.Str.{bytes_eq}
use Rattle.am_term.specs.Names.{is_name}
use Rattle.am_text.specs.declared.form.Form.{Form}
use Rattle.am_text.specs.declared.form.FormNode.{FormNode}
use Rattle.am_text.specs.declared.form.FormNode.TheOpen.{FormNode-F}
use Rattle.am_text.specs.declared.form.FormNode.TheViews.{out-FormNode}
use Rattle.am_syntax.specs.declared.written.Words.{Words}
use Rattle.am_syntax.specs.declared.written.WrittenTerm.{WrittenTerm}
use Rattle.am_syntax.specs.declared.written.WrittenTerm.TheVariants.{Alone}
use Rattle.am_syntax.specs.declared.written.WrittenAtom.TheVariants.{Equation, Relation}
use Rattle.am_syntax.specs.declared.written.WrittenFormula.{WrittenFormula}
use Rattle.am_syntax.specs.declared.written.WrittenFormula.TheVariants as made
use Rattle.am_syntax.specs.declared.written.WrittenFormula.TheVariants.{Atom as Atomic, Quantified}
use Rattle.am_syntax.specs.declared.shapes.Connective.{Connective}
use Rattle.am_syntax.specs.declared.shapes.Connective.TheVariants.{Not, And, Or, Implies, Iff}
use Rattle.am_syntax.specs.declared.shapes.Head.{Head}
use Rattle.am_syntax.specs.declared.shapes.Head.TheVariants.{Joined, Equals, Quantifier, Related, Other}
use Rattle.am_syntax.specs.Shapes.{may_stand, headed_term, headed_formula, term_of, formula_of, all_of, is_quantifier}

abbrev pub word_at : FormNode-F FormNode Form → Option (List ℕ)
word_at (FormNode-F.Word w) = Some w
word_at (FormNode-F.Number n) = None
word_at (FormNode-F.Text t) = None
word_at (FormNode-F.List fs) = None

-- the word that a node is
unfoldable pub word_of : FormNode → Option (List ℕ)
word_of n = word_at (out-FormNode n)

abbrev pub term_by : Option (List ℕ) → List (Option WrittenTerm) → Option WrittenTerm
term_by None terms = None
term_by (Some h) terms = headed_term h terms

-- the term that a list is, of a head and further members
abbrev pub list_as_term : Words → FormNode → List Form → Option WrittenTerm
list_as_term words head rest = term_by (word_of head) (map (term_of words) rest)

abbrev pub formula_by : Option (List ℕ) → List (Option WrittenTerm) → List (Option WrittenFormula) → Option WrittenFormula
formula_by None terms formulas = None
formula_by (Some h) terms formulas = headed_formula h terms formulas

-- the formula that a list is, of a head and further members
abbrev pub list_as_formula : Words → FormNode → List Form → Option WrittenFormula
list_as_formula words head rest = formula_by (word_of head) (map (term_of words) rest) (map (formula_of words) rest)

-- the term and the formula that a word is
abbrev pub word_as_term : Words → List ℕ → Option WrittenTerm
word_as_term words w = if may_stand words w then Some (Alone w) else None

abbrev pub word_as_formula : List ℕ → Option WrittenFormula
word_as_formula w = if is_name w then Some (Atomic (Relation w [])) else None

-- the word, where it is a name
abbrev pub name_of : Option (List ℕ) → Option (List ℕ)
name_of None = None
name_of (Some h) = if is_name h then Some h else None

-- the members, where there are any
abbrev pub some_in : {A : Type 0} → Option (List A) → Option (List A)
some_in None = None
some_in (Some []) = None
some_in (Some (x ∷ xs)) = Some (x ∷ xs)

-- ---- what the head of a list says of the formula

abbrev pub kind_of : List ℕ → Head
kind_of h =
    if bytes_eq h (codes "not") then Joined Not
    else if bytes_eq h (codes "and") then Joined And
    else if bytes_eq h (codes "or") then Joined Or
    else if bytes_eq h (codes "=>") then Joined Implies
    else if bytes_eq h (codes "<=>") then Joined Iff
    else if bytes_eq h (codes "=") then Equals
    else if is_quantifier h then Quantifier
    else if is_name h then Related
    else Other

abbrev pub head_of : Option (List ℕ) → Head
head_of None = Other
head_of (Some h) = kind_of h

abbrev pub only_in : {A : Type 0} → List A → Option A
only_in [] = None
only_in (x ∷ []) = Some x
only_in (x ∷ y ∷ ys) = None

abbrev pub two_in : {A : Type 0} → List A → Option (A × A)
two_in [] = None
two_in (x ∷ []) = None
two_in (x ∷ y ∷ []) = Some (x, y)
two_in (x ∷ y ∷ z ∷ zs) = None

-- the formula that a connective makes of these members
abbrev pub joined : Connective → Option (List WrittenFormula) → Option WrittenFormula
joined c None = None
joined Not (Some fs) = option_map made.Not (only_in fs)
joined And (Some fs) = option_map made.And (some_in (Some fs))
joined Or (Some fs) = option_map made.Or (some_in (Some fs))
joined Implies (Some fs) = option_map (λ p. made.Implies p.0 p.1) (two_in fs)
joined Iff (Some fs) = option_map (λ p. made.Iff p.0 p.1) (two_in fs)

-- the equation of these terms
abbrev pub equation_from : Option (List WrittenTerm) → Option WrittenFormula
equation_from None = None
equation_from (Some ts) = option_map (λ p. made.Atom (Equation p.0 p.1)) (two_in ts)

-- the atom with this name and these arguments
abbrev pub relation_from : Option (List ℕ) → Option (List WrittenTerm) → Option WrittenFormula
relation_from None ts = None
relation_from (Some n) ts = option_map (λ args. made.Atom (Relation n args)) (some_in ts)

-- the formula that a list with this head is, which is this name if it is one, of its further members
abbrev pub formula_of_head : Head → Option (List ℕ) → List (Option WrittenTerm) → List (Option WrittenFormula) → Option WrittenFormula
formula_of_head (Joined c) n terms formulas = joined c (all_of formulas)
formula_of_head Equals n terms formulas = equation_from (all_of terms)
formula_of_head Quantifier n terms formulas = Some Quantified
formula_of_head Related n terms formulas = relation_from n (all_of terms)
formula_of_head Other n terms formulas = None
