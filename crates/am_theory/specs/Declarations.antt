-- Which form is which declaration, by its shape alone. The places of forms don't count.
use Rattle.std.specs.Prelude.{ℕ, ℤ, Bool, false, Option, Some, None, List, [], ◌∷◌, map, codes, option_map, if◌then◌else◌}
use Rattle.std.specs.Str.{bytes_eq}
use Rattle.am_term.specs.Names.{is_name}
use Rattle.am_text.specs.declared.form.Form.{Form}
use Rattle.am_text.specs.declared.form.FormNode.{FormNode}
use Rattle.am_text.specs.declared.form.FormNode.TheOpen.{FormNode-F}
use Rattle.am_text.specs.declared.form.FormNode.TheViews.{out-FormNode}
use Rattle.am_syntax.specs.declared.written.Words.TheVariants.{Names}
use Rattle.am_syntax.specs.Shapes.{all_of, some_of, formula_of}
use Rattle.am_syntax.specs.Heads.{word_at}
use Rattle.am_theory.specs.declared.theory.LitValue.{LitValue}
use Rattle.am_theory.specs.declared.theory.LitValue.TheVariants as value
use Rattle.am_theory.specs.declared.declaration.WrittenRep.{WrittenRep}
use Rattle.am_theory.specs.declared.declaration.WrittenRep.TheVariants as written
use Rattle.am_theory.specs.declared.declaration.Typed.{Typed}
use Rattle.am_theory.specs.declared.declaration.Declaration.{Declaration}
use Rattle.am_theory.specs.declared.declaration.Declaration.TheVariants.{Sort, Subsort, Function, Relation, Literal, Routine, Value, Axiom}

-- first one thing, and with what it gives another
infixl 10 ◌>>=◌
abbrev pub ◌>>=◌ : {A B : Type 0} → Option A → (A → Option B) → Option B
(Some x) >>= f = f x
None >>= f = None

-- ---- what a form is
abbrev pub number_at : FormNode-F FormNode Form → Option ℤ
number_at (FormNode-F.Word w) = None
number_at (FormNode-F.Number n) = Some n
number_at (FormNode-F.Text t) = None
number_at (FormNode-F.List fs) = None

abbrev pub value_at : FormNode-F FormNode Form → Option LitValue
value_at (FormNode-F.Word w) = None
value_at (FormNode-F.Number n) = Some (value.Int n)
value_at (FormNode-F.Text t) = Some (value.Text t)
value_at (FormNode-F.List fs) = None

abbrev pub list_at : FormNode-F FormNode Form → Option (List Form)
list_at (FormNode-F.Word w) = None
list_at (FormNode-F.Number n) = None
list_at (FormNode-F.Text t) = None
list_at (FormNode-F.List fs) = Some fs

-- any word that isn't a number
unfoldable pub word_of : Form → Option (List ℕ)
word_of f = word_at (out-FormNode f.node)

unfoldable pub number_of : Form → Option ℤ
number_of f = number_at (out-FormNode f.node)

-- a number or a text
unfoldable pub value_of : Form → Option LitValue
value_of f = value_at (out-FormNode f.node)

unfoldable pub list_of : Form → Option (List Form)
list_of f = list_at (out-FormNode f.node)

abbrev pub if_name : List ℕ → Option (List ℕ)
if_name w = if is_name w then Some w else None

-- a word that is a name
unfoldable pub name_of : Form → Option (List ℕ)
name_of f = word_of f >>= if_name

-- a list of names, perhaps of none
unfoldable pub names_of : Form → Option (List (List ℕ))
names_of f = list_of f >>= λ fs. all_of (map name_of fs)

abbrev pub typed_in : List Form → Option Typed
typed_in [] = None
typed_in (name ∷ []) = None
typed_in (name ∷ sort ∷ []) = name_of name >>= λ n. name_of sort >>= λ s. Some (record { name = n; sort = s })
typed_in (name ∷ sort ∷ f ∷ fs) = None

-- `(NAME SORT)`
unfoldable pub typed_of : Form → Option Typed
typed_of f = list_of f >>= typed_in

-- ---- representations
abbrev pub rep_named : List ℕ → Option WrittenRep
rep_named w =
    if bytes_eq w (codes "double") then Some written.Double
    else if bytes_eq w (codes "integer") then Some written.Integer
    else if bytes_eq w (codes "logical") then Some written.Logical
    else None

abbrev pub rep_of_one : List ℕ → ℤ → Option WrittenRep
rep_of_one h n =
    if bytes_eq h (codes "char") then Some (written.Char n)
    else if bytes_eq h (codes "double") then Some (written.DoubleVec n)
    else if bytes_eq h (codes "integer") then Some (written.IntegerVec n)
    else None

abbrev pub rep_of_two : List ℕ → ℤ → ℤ → Option WrittenRep
rep_of_two h m n = if bytes_eq h (codes "double") then Some (written.DoubleMat m n) else None

abbrev pub rep_in : List Form → Option WrittenRep
rep_in [] = None
rep_in (h ∷ []) = None
rep_in (h ∷ m ∷ []) = word_of h >>= λ w. number_of m >>= λ n. rep_of_one w n
rep_in (h ∷ m ∷ n ∷ []) = word_of h >>= λ w. number_of m >>= λ a. number_of n >>= λ b. rep_of_two w a b
rep_in (h ∷ m ∷ n ∷ f ∷ fs) = None

abbrev pub rep_by : Option (List ℕ) → Form → Option WrittenRep
rep_by (Some w) f = rep_named w
rep_by None f = list_of f >>= rep_in

-- `double`, `integer`, `logical`, `(char n)`, `(double m)`, `(double m n)` or `(integer m)`
unfoldable pub written_rep_of : Form → Option WrittenRep
written_rep_of f = rep_by (word_of f) f

-- ---- declarations, by what stands behind their first word
abbrev pub sort_decl : List Form → Option Declaration
sort_decl [] = None
sort_decl (name ∷ []) = name_of name >>= λ n. Some (Sort n None None)
sort_decl (name ∷ rep ∷ []) = name_of name >>= λ n. written_rep_of rep >>= λ r. Some (Sort n (Some r) None)
sort_decl (name ∷ rep ∷ copy ∷ []) = name_of name >>= λ n. written_rep_of rep >>= λ r. word_of copy >>= λ c. Some (Sort n (Some r) (Some c))
sort_decl (name ∷ rep ∷ copy ∷ f ∷ fs) = None

abbrev pub subsort_decl : List Form → Option Declaration
subsort_decl [] = None
subsort_decl (name ∷ []) = None
subsort_decl (name ∷ sort ∷ []) = name_of name >>= λ n. name_of sort >>= λ s. Some (Subsort n s)
subsort_decl (name ∷ sort ∷ f ∷ fs) = None

abbrev pub function_decl : List Form → Option Declaration
function_decl [] = None
function_decl (name ∷ []) = None
function_decl (name ∷ args ∷ []) = None
function_decl (name ∷ args ∷ result ∷ []) = name_of name >>= λ n. names_of args >>= λ ss. name_of result >>= λ r. Some (Function n ss r)
function_decl (name ∷ args ∷ result ∷ f ∷ fs) = None

abbrev pub relation_decl : List Form → Option Declaration
relation_decl [] = None
relation_decl (name ∷ []) = None
relation_decl (name ∷ args ∷ []) = name_of name >>= λ n. names_of args >>= λ ss. Some (Relation n ss)
relation_decl (name ∷ args ∷ f ∷ fs) = None

abbrev pub literal_decl : List Form → Option Declaration
literal_decl [] = None
literal_decl (name ∷ []) = None
literal_decl (name ∷ sort ∷ []) = None
literal_decl (name ∷ sort ∷ v ∷ []) = name_of name >>= λ n. name_of sort >>= λ s. value_of v >>= λ x. Some (Literal n s x)
literal_decl (name ∷ sort ∷ v ∷ f ∷ fs) = None

abbrev pub routine_decl : List Form → Option Declaration
routine_decl [] = None
routine_decl (name ∷ []) = None
routine_decl (name ∷ inputs ∷ outputs) = word_of name >>= λ n. names_of inputs >>= λ ss. some_of (map typed_of outputs) >>= λ os. Some (Routine n ss os)

abbrev pub value_decl : List Form → Option Declaration
value_decl [] = None
value_decl (function ∷ []) = None
value_decl (function ∷ name ∷ []) = None
value_decl (function ∷ name ∷ args ∷ []) = None
value_decl (function ∷ name ∷ args ∷ result ∷ []) = word_of function >>= λ w. name_of name >>= λ n. names_of args >>= λ ss. name_of result >>= λ r. Some (Value w n ss r)
value_decl (function ∷ name ∷ args ∷ result ∷ f ∷ fs) = None

-- `((NAME SORT) ..) FORMULA` behind `all`, with at least one variable
abbrev pub quantified_axiom : List Form → Option Declaration
quantified_axiom [] = None
quantified_axiom (variables ∷ []) = None
quantified_axiom (variables ∷ formula ∷ []) = list_of variables >>= λ fs. some_of (map typed_of fs) >>= λ vs. formula_of Names formula >>= λ g. Some (Axiom vs g)
quantified_axiom (variables ∷ formula ∷ f ∷ fs) = None

abbrev pub plain_axiom : Form → Option Declaration
plain_axiom formula = option_map (λ g. Axiom [] g) (formula_of Names formula)

-- the first word of a list
abbrev pub head_in : List Form → Option (List ℕ)
head_in [] = None
head_in (h ∷ rest) = word_of h

abbrev pub tail_of : {A : Type 0} → List A → List A
tail_of [] = []
tail_of (x ∷ xs) = xs

abbrev pub is_all : Option (List ℕ) → Bool
is_all None = false
is_all (Some h) = bytes_eq h (codes "all")

abbrev pub axiom_by : Form → Option (List Form) → Option Declaration
axiom_by formula None = plain_axiom formula
axiom_by formula (Some fs) = if is_all (head_in fs) then quantified_axiom (tail_of fs) else plain_axiom formula

abbrev pub axiom_decl : List Form → Option Declaration
axiom_decl [] = None
axiom_decl (formula ∷ []) = axiom_by formula (list_of formula)
axiom_decl (formula ∷ f ∷ fs) = None

abbrev pub decl_headed : List ℕ → List Form → Option Declaration
decl_headed h rest =
    if bytes_eq h (codes "sort") then sort_decl rest
    else if bytes_eq h (codes "subsort") then subsort_decl rest
    else if bytes_eq h (codes "function") then function_decl rest
    else if bytes_eq h (codes "relation") then relation_decl rest
    else if bytes_eq h (codes "literal") then literal_decl rest
    else if bytes_eq h (codes "routine") then routine_decl rest
    else if bytes_eq h (codes "value") then value_decl rest
    else if bytes_eq h (codes "axiom") then axiom_decl rest
    else None

abbrev pub decl_in : List Form → Option Declaration
decl_in [] = None
decl_in (h ∷ rest) = word_of h >>= λ w. decl_headed w rest

-- the declaration that a form is, if it has one of the shapes
unfoldable pub decl_of : Form → Option Declaration
decl_of f = list_of f >>= decl_in

abbrev pub version_in : List Form → Option ℤ
version_in [] = None
version_in (h ∷ []) = None
version_in (h ∷ n ∷ []) = word_of h >>= λ w. if bytes_eq w (codes "theory") then number_of n else None
version_in (h ∷ n ∷ f ∷ fs) = None

-- the number in `(theory n)`
unfoldable pub version_of : Form → Option ℤ
version_of f = list_of f >>= version_in
