-- Rows by names, as forms, and which of them can be spelled.
use Rattle.std.specs.Prelude.{◌≡◌, ◌&&◌, ◌||◌, ◌==◌, ◌≤◌, ◌^◌, ℕ, pos, Bool, true, false, Option, Some, None, List, [], ◌∷◌, ◌++◌, map, codes, length, nat_lt}
use Rattle.std.specs.List.{list_all}
use Rattle.std.specs.Fmt.{decimal}
use Rattle.am_term.specs.Names.{is_name, is_fortran_name}
use Rattle.am_text.specs.declared.form.Form.{Form}
use Rattle.am_text.specs.declared.form.FormNode.TheVariants as node
use Rattle.am_text.specs.Grammar.{height}
use Rattle.am_text.specs.Spelling.{written}
use Rattle.am_clause.specs.declared.row.Rule.{Rule}
use Rattle.am_clause.specs.declared.row.Rule.TheVariants as rule
use Rattle.am_clause.specs.declared.row.Side.{Side}
use Rattle.am_clause.specs.declared.row.Side.TheVariants.{Left, Right}
use Rattle.am_syntax.specs.Forms.{word_form, list_form, headed_form, relation_form, is_some_list, all_true}
use Rattle.am_log.specs.declared.named.NamedTerm.{NamedTerm}
use Rattle.am_log.specs.declared.named.NamedTerm.TheOpen.{NamedTerm-F}
use Rattle.am_log.specs.declared.named.NamedTerm.TheFolds.{fold-NamedTerm}
use Rattle.am_log.specs.declared.named.NamedTerm.TheVariants.{Variable, Alone, Headed}
use Rattle.am_log.specs.declared.named.NamedAtom.{NamedAtom}
use Rattle.am_log.specs.declared.named.NamedAtom.TheVariants.{Equation, Relation}
use Rattle.am_log.specs.declared.named.NamedLiteral.{NamedLiteral}
use Rattle.am_log.specs.declared.named.NamedRow.{NamedRow}
use Rattle.am_log.specs.Fold.{fold-Variable, fold-Alone, fold-Headed}

-- ---- forms
-- a variable is its sort's name, `?` and its number
abbrev pub variable_word : List ℕ → ℕ → List ℕ
variable_word s n = s ++ 63 ∷ decimal n

abbrev pub number_form : ℕ → Form
number_form n = record { place = 0; node = node.Number (pos n) }

abbrev pub term_form_step : NamedTerm-F Form → Form
term_form_step (NamedTerm-F.Variable s n) = word_form (variable_word s n)
term_form_step (NamedTerm-F.Alone w) = word_form w
term_form_step (NamedTerm-F.Headed h fs) = headed_form h fs

-- a variable's word, a name alone, or a name and its arguments in a list
unfoldable pub term_form : NamedTerm → Form
term_form = fold-NamedTerm Form term_form_step

pub form-Variable : (s : List ℕ) (n : ℕ) → term_form (Variable s n) ≡ word_form (variable_word s n)
unfolding term_form
form-Variable s n = fold-Variable Form term_form_step s n

pub form-Alone : (w : List ℕ) → term_form (Alone w) ≡ word_form w
unfolding term_form
form-Alone w = fold-Alone Form term_form_step w

pub form-Headed : (h : List ℕ) (args : List NamedTerm) → term_form (Headed h args) ≡ headed_form h (map term_form args)
unfolding term_form
form-Headed h args = fold-Headed Form term_form_step h args

-- `(= s t)`, `(r t1 t2)` with all arguments, or `r`
abbrev pub atom_form : NamedAtom → Form
atom_form (Equation left right) = headed_form (codes "=") (term_form left ∷ term_form right ∷ [])
atom_form (Relation n args) = relation_form n (map term_form args)

abbrev pub signed_form : Bool → Form → Form
signed_form true f = f
signed_form false f = headed_form (codes "not") (f ∷ [])

-- an atom, or `(not A)`
abbrev pub literal_form : NamedLiteral → Form
literal_form l = signed_form l.positive (atom_form l.atom)

-- `(with` and each term after a blank, `)`
abbrev pub bindings_form : List NamedTerm → Form
bindings_form ts = headed_form (codes "with") (map term_form ts)

abbrev pub side_form : Side → Form
side_form Left = word_form (codes "left")
side_form Right = word_form (codes "right")

abbrev pub path_form : List ℕ → Form
path_form path = list_form (map number_form path)

-- the word of a rule
abbrev pub rule_word : Rule → List ℕ
rule_word (rule.Axiom a c) = codes "axiom"
rule_word rule.Goal = codes "goal"
rule_word (rule.Given k) = codes "given"
rule_word (rule.Factor p i j) = codes "factor"
rule_word (rule.Reflex p i) = codes "reflex"
rule_word (rule.Resolve p i q j) = codes "resolve"
rule_word (rule.Para p j side q i path) = codes "para"
rule_word (rule.Rewrite p j side q i path) = codes "rewrite"
rule_word (rule.Close p) = codes "close"

-- its numbers, its side and its path
abbrev pub rule_members : Rule → List Form
rule_members (rule.Axiom a c) = number_form a ∷ number_form c ∷ []
rule_members rule.Goal = []
rule_members (rule.Given k) = number_form k ∷ []
rule_members (rule.Factor p i j) = number_form p ∷ number_form i ∷ number_form j ∷ []
rule_members (rule.Reflex p i) = number_form p ∷ number_form i ∷ []
rule_members (rule.Resolve p i q j) = number_form p ∷ number_form i ∷ number_form q ∷ number_form j ∷ []
rule_members (rule.Para p j side q i path) = number_form p ∷ number_form j ∷ side_form side ∷ number_form q ∷ number_form i ∷ path_form path ∷ []
rule_members (rule.Rewrite p j side q i path) = number_form p ∷ number_form j ∷ side_form side ∷ number_form q ∷ number_form i ∷ path_form path ∷ []
rule_members (rule.Close p) = number_form p ∷ []

-- how many `with` lists stand behind these
abbrev pub rows_bound : Rule → ℕ
rows_bound (rule.Axiom a c) = 0
rows_bound rule.Goal = 0
rows_bound (rule.Given k) = 0
rows_bound (rule.Factor p i j) = 1
rows_bound (rule.Reflex p i) = 1
rows_bound (rule.Resolve p i q j) = 2
rows_bound (rule.Para p j side q i path) = 2
rows_bound (rule.Rewrite p j side q i path) = 2
rows_bound (rule.Close p) = 1

abbrev pub rule_form : Rule → List (List NamedTerm) → Form
rule_form r withs = headed_form (rule_word r) (rule_members r ++ map bindings_form withs)

abbrev pub clause_form : List NamedLiteral → Form
clause_form ls = headed_form (codes "or") (map literal_form ls)

abbrev pub answer_forms : Option (List NamedTerm) → List Form
answer_forms None = []
answer_forms (Some ts) = headed_form (codes "answer") (map term_form ts) ∷ []

-- `(` number ` ` rule ` ` clause `)`
abbrev pub row_form : NamedRow → Form
row_form r = list_form (number_form r.number ∷ rule_form r.rule r.with ∷ clause_form r.literals ∷ answer_forms r.answer)

-- one blank between members, numbers in decimal
abbrev pub row_text : NamedRow → List ℕ
row_text r = written (row_form r)

-- ---- which rows by names are spelled
-- any name of a file, or any one to six upper-case letters and digits that begin with a letter
abbrev pub is_row_name : List ℕ → Bool
is_row_name w = is_name w || is_fortran_name w

-- a number fits 32 bits
abbrev pub is_u32 : ℕ → Bool
is_u32 n = nat_lt n (2 ^ 32)

abbrev pub named_step : NamedTerm-F Bool → Bool
named_step (NamedTerm-F.Variable s n) = is_row_name s && is_u32 n
named_step (NamedTerm-F.Alone w) = is_row_name w
named_step (NamedTerm-F.Headed h bs) = is_row_name h && (is_some_list bs && all_true bs)

-- each name is one, each number fits, each list has one or more arguments
unfoldable pub is_named : NamedTerm → Bool
is_named = fold-NamedTerm Bool named_step

pub named-Variable : (s : List ℕ) (n : ℕ) → is_named (Variable s n) ≡ (is_row_name s && is_u32 n)
unfolding is_named
named-Variable s n = fold-Variable Bool named_step s n

pub named-Alone : (w : List ℕ) → is_named (Alone w) ≡ is_row_name w
unfolding is_named
named-Alone w = fold-Alone Bool named_step w

pub named-Headed : (h : List ℕ) (args : List NamedTerm) → is_named (Headed h args) ≡ (is_row_name h && (is_some_list (map is_named args) && all_true (map is_named args)))
unfolding is_named
named-Headed h args = fold-Headed Bool named_step h args

abbrev pub is_named_atom : NamedAtom → Bool
is_named_atom (Equation left right) = is_named left && is_named right
is_named_atom (Relation n args) = is_row_name n && list_all is_named args

abbrev pub is_named_literal : NamedLiteral → Bool
is_named_literal l = is_named_atom l.atom

abbrev pub fits_rule : Rule → Bool
fits_rule (rule.Axiom a c) = is_u32 a && is_u32 c
fits_rule rule.Goal = true
fits_rule (rule.Given k) = is_u32 k
fits_rule (rule.Factor p i j) = is_u32 p && (is_u32 i && is_u32 j)
fits_rule (rule.Reflex p i) = is_u32 p && is_u32 i
fits_rule (rule.Resolve p i q j) = is_u32 p && (is_u32 i && (is_u32 q && is_u32 j))
fits_rule (rule.Para p j side q i path) = is_u32 p && (is_u32 j && (is_u32 q && (is_u32 i && list_all is_u32 path)))
fits_rule (rule.Rewrite p j side q i path) = is_u32 p && (is_u32 j && (is_u32 q && (is_u32 i && list_all is_u32 path)))
fits_rule (rule.Close p) = is_u32 p

abbrev pub is_named_answer : Option (List NamedTerm) → Bool
is_named_answer None = true
is_named_answer (Some ts) = list_all is_named ts

abbrev pub is_named_row : NamedRow → Bool
is_named_row r =
    is_u32 r.number && (fits_rule r.rule && (length r.with == rows_bound r.rule && (list_all (list_all is_named) r.with && (list_all is_named_literal r.literals && is_named_answer r.answer))))

abbrev pub row_depth_limit : ℕ
row_depth_limit = 512

-- the text is spelled as this row by names
pub record Spells (text : List ℕ) (r : NamedRow) : Type 0 where
  pub named : is_named_row r ≡ true
  pub low : height (row_form r) ≤ row_depth_limit
  pub text_is : text ≡ row_text r

-- the text is spelled as no row by names
abbrev pub SpellsNothing : List ℕ → Type 0
SpellsNothing t = (r : NamedRow) → Spells t r → ⊥
