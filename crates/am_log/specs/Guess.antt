-- For private contracts: the row by names that a form or a text may spell. Whether it does shows when its text is
-- written and compared, so what is out of place is taken as it comes.
use Rattle.std.specs.Prelude.{◌==◌, ◌&&◌, ◌^◌, Result, Ok, Err, ℕ, ℤ, pos, negsuc, Bool, true, false, Option, Some, None, List, [], ◌∷◌, map, codes, length, nat_lt, drop, slice_get, if◌then◌else◌}
use Rattle.std.specs.Char.{is_ascii_digit}
use Rattle.std.specs.List.{before_first, after_first, list_all, position_or_len}
use Rattle.std.specs.Str.{bytes_eq}
use Rattle.am_text.specs.declared.fault.TextFault.{TextFault}
use Rattle.am_text.specs.declared.form.Form.{Form}
use Rattle.am_text.specs.declared.form.FormNode.{FormNode}
use Rattle.am_text.specs.declared.form.FormNode.TheOpen.{FormNode-F, Form-F}
use Rattle.am_text.specs.declared.form.FormNode.TheFolds.{fold-Form, fold-FormNode}
use Rattle.am_text.specs.declared.form.FormNode.TheViews.{out-FormNode}
use Rattle.am_text.specs.Scan.{read}
use Rattle.am_text.specs.Atoms.{read_on}
use Rattle.am_clause.specs.declared.row.Rule.{Rule}
use Rattle.am_clause.specs.declared.row.Rule.TheVariants as rule
use Rattle.am_clause.specs.declared.row.Side.{Side}
use Rattle.am_clause.specs.declared.row.Side.TheVariants.{Left, Right}
use Rattle.am_log.specs.declared.named.NamedTerm.{NamedTerm}
use Rattle.am_log.specs.declared.named.NamedTerm.TheVariants.{Variable, Alone, Headed}
use Rattle.am_log.specs.declared.named.NamedAtom.{NamedAtom}
use Rattle.am_log.specs.declared.named.NamedAtom.TheVariants.{Equation, Relation}
use Rattle.am_log.specs.declared.named.NamedLiteral.{NamedLiteral}
use Rattle.am_log.specs.declared.named.NamedRow.{NamedRow}
use Rattle.am_log.specs.Spelled.{row_depth_limit}
use Rattle.am_log.specs.Text.{byte_limit}

-- ---- numbers
-- digits below 2 ^ 32
unfoldable pub number_in_word : List ℕ → ℕ
number_in_word word = if list_all is_ascii_digit word && nat_lt (read_on 0 word) (2 ^ 32) then read_on 0 word else 0

-- ---- what a form is: the empty word, the number 0, the empty list where it is something else
abbrev pub word_or_empty : FormNode-F FormNode Form → List ℕ
word_or_empty (FormNode-F.Word w) = w
word_or_empty (FormNode-F.Number n) = []
word_or_empty (FormNode-F.Text t) = []
word_or_empty (FormNode-F.List fs) = []

-- a number below 2 ^ 32
abbrev pub small_value : ℤ → ℕ
small_value (pos n) = if nat_lt n (2 ^ 32) then n else 0
small_value (negsuc n) = 0

abbrev pub small_number_at : FormNode-F FormNode Form → ℕ
small_number_at (FormNode-F.Word w) = 0
small_number_at (FormNode-F.Number n) = small_value n
small_number_at (FormNode-F.Text t) = 0
small_number_at (FormNode-F.List fs) = 0

abbrev pub members_at : FormNode-F FormNode Form → List Form
members_at (FormNode-F.Word w) = []
members_at (FormNode-F.Number n) = []
members_at (FormNode-F.Text t) = []
members_at (FormNode-F.List fs) = fs

unfoldable pub word_in : Form → List ℕ
word_in f = word_or_empty (out-FormNode f.node)

unfoldable pub number_in : Form → ℕ
number_in f = small_number_at (out-FormNode f.node)

unfoldable pub members_in : Form → List Form
members_in f = members_at (out-FormNode f.node)

-- ---- terms
abbrev pub is_mark : ℕ → Bool
is_mark b = b == 63

-- a word with a `?` is a variable
unfoldable pub word_guess : List ℕ → NamedTerm
word_guess w =
    if nat_lt (position_or_len is_mark w) (length w)
    then Variable (before_first is_mark w) (number_in_word (after_first is_mark w))
    else Alone w

-- the word of a form, and the term
pub record Guessed : Type 0 where
  pub word : List ℕ
  pub term : NamedTerm

abbrev pub no_guess : Guessed
no_guess = record { word = []; term = Alone [] }

abbrev pub guessed_terms : List Guessed → List NamedTerm
guessed_terms = map (λ (g : Guessed). g.term)

abbrev pub list_guess : List Guessed → Guessed
list_guess [] = no_guess
list_guess (g ∷ gs) = record { word = []; term = Headed g.word (guessed_terms gs) }

abbrev pub guess_step : FormNode-F Guessed Guessed → Guessed
guess_step (FormNode-F.Word w) = record { word = w; term = word_guess w }
guess_step (FormNode-F.Number n) = no_guess
guess_step (FormNode-F.Text t) = no_guess
guess_step (FormNode-F.List gs) = list_guess gs

abbrev pub form_guess : Form-F Guessed Guessed → Guessed
form_guess f = f.node

unfoldable pub guess_of : Form → Guessed
guess_of = fold-Form Guessed Guessed guess_step form_guess

unfoldable pub node_guess_of : FormNode → Guessed
node_guess_of = fold-FormNode Guessed Guessed guess_step form_guess

unfoldable pub guess_term : Form → NamedTerm
guess_term f = (guess_of f).term

-- ---- atoms and literals
abbrev pub equation_guess : List Form → NamedAtom
equation_guess [] = Relation [] []
equation_guess (l ∷ []) = Relation [] []
equation_guess (l ∷ r ∷ more) = Equation (guess_term l) (guess_term r)

abbrev pub atom_from : List ℕ → List Form → NamedAtom
atom_from w [] = Relation w []
atom_from w (h ∷ fs) = if bytes_eq (word_in h) (codes "=") then equation_guess fs else Relation (word_in h) (map guess_term fs)

unfoldable pub guess_atom : Form → NamedAtom
guess_atom f = atom_from (word_in f) (members_in f)

abbrev pub signed_literal : Bool → NamedAtom → NamedLiteral
signed_literal sign a = record { positive = sign; atom = a }

abbrev pub literal_from : Form → List Form → NamedLiteral
literal_from f [] = signed_literal true (guess_atom f)
literal_from f (h ∷ []) = signed_literal true (guess_atom f)
literal_from f (h ∷ a ∷ more) = if bytes_eq (word_in h) (codes "not") then signed_literal false (guess_atom a) else signed_literal true (guess_atom f)

unfoldable pub guess_literal : Form → NamedLiteral
guess_literal f = literal_from f (members_in f)

-- ---- rules
abbrev pub number_of_form : Option Form → ℕ
number_of_form None = 0
number_of_form (Some f) = number_in f

abbrev pub members_of_form : Option Form → List Form
members_of_form None = []
members_of_form (Some f) = members_in f

abbrev pub word_of_form : Option Form → List ℕ
word_of_form None = []
word_of_form (Some f) = word_in f

-- the number, the members and the word of a member
unfoldable pub number_nth : List Form → ℕ → ℕ
number_nth fs k = number_of_form (slice_get fs k)

unfoldable pub members_nth : List Form → ℕ → List Form
members_nth fs k = members_of_form (slice_get fs k)

unfoldable pub word_nth : List Form → ℕ → List ℕ
word_nth fs k = word_of_form (slice_get fs k)

abbrev pub side_guess : List ℕ → Side
side_guess w = if bytes_eq w (codes "left") then Left else Right

unfoldable pub path_guess : List Form → List ℕ
path_guess fs = map number_in fs

-- a rule that replaces a part, or one of the last two
abbrev pub replacing_guess : List ℕ → List Form → Rule
replacing_guess h fs =
    if bytes_eq h (codes "para") then rule.Para (number_nth fs 0) (number_nth fs 1) (side_guess (word_nth fs 2)) (number_nth fs 3) (number_nth fs 4) (path_guess (members_nth fs 5))
    else if bytes_eq h (codes "rewrite") then rule.Rewrite (number_nth fs 0) (number_nth fs 1) (side_guess (word_nth fs 2)) (number_nth fs 3) (number_nth fs 4) (path_guess (members_nth fs 5))
    else if bytes_eq h (codes "close") then rule.Close (number_nth fs 0)
    else rule.Goal

-- a rule by its word and what stands behind that
unfoldable pub rule_guess : List ℕ → List Form → Rule
rule_guess h fs =
    if bytes_eq h (codes "axiom") then rule.Axiom (number_nth fs 0) (number_nth fs 1)
    else if bytes_eq h (codes "given") then rule.Given (number_nth fs 0)
    else if bytes_eq h (codes "factor") then rule.Factor (number_nth fs 0) (number_nth fs 1) (number_nth fs 2)
    else if bytes_eq h (codes "reflex") then rule.Reflex (number_nth fs 0) (number_nth fs 1)
    else if bytes_eq h (codes "resolve") then rule.Resolve (number_nth fs 0) (number_nth fs 1) (number_nth fs 2) (number_nth fs 3)
    else replacing_guess h fs

-- how many members of its own a rule has behind its word
abbrev pub own_members : Rule → ℕ
own_members (rule.Axiom a c) = 2
own_members rule.Goal = 0
own_members (rule.Given k) = 1
own_members (rule.Factor p i j) = 3
own_members (rule.Reflex p i) = 2
own_members (rule.Resolve p i q j) = 4
own_members (rule.Para p j side q i path) = 6
own_members (rule.Rewrite p j side q i path) = 6
own_members (rule.Close p) = 1

-- ---- rows
-- the terms behind the head of a list
unfoldable pub guess_terms : Form → List NamedTerm
guess_terms f = map guess_term (drop 1 (members_in f))

abbrev pub guess_answer : Option Form → Option (List NamedTerm)
guess_answer None = None
guess_answer (Some f) = Some (guess_terms f)

-- a row by its number, its rule's word, what stands behind that, its literals and what may be its answer
unfoldable pub row_from : ℕ → Rule → List Form → List Form → Option Form → NamedRow
row_from number r fs literals answer = record { number = number; rule = r; with = map guess_terms (drop (own_members r) fs); literals = map guess_literal literals; answer = guess_answer answer }

abbrev pub row_by : List Form → List Form → NamedRow
row_by fs rs = row_from (number_nth fs 0) (rule_guess (word_nth rs 0) (drop 1 rs)) (drop 1 rs) (drop 1 (members_nth fs 2)) (slice_get fs 3)

abbrev pub row_in : List Form → NamedRow
row_in fs = row_by fs (members_nth fs 1)

unfoldable pub guess_row : Form → NamedRow
guess_row f = row_in (members_in f)

-- ---- texts
abbrev pub one_form : List Form → Option NamedRow
one_form [] = None
one_form (f ∷ []) = Some (guess_row f)
one_form (f ∷ g ∷ fs) = None

abbrev pub guess_from : Result (List Form) TextFault → Option NamedRow
guess_from (Ok fs) = one_form fs
guess_from (Err e) = None

-- the guess of the one form that the text is
unfoldable pub guess_text : List ℕ → Option NamedRow
guess_text t = guess_from (read byte_limit row_depth_limit t)
