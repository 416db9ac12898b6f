-- Which form is which declaration of a diagram, by its shape alone. The places of forms don't count.
use Rattle.std.specs.Prelude.{ℕ, Option, Some, None, List, [], ◌∷◌, codes, option_map, if◌then◌else◌}
use Rattle.std.specs.Str.{bytes_eq}
use Rattle.am_text.specs.declared.form.Form.{Form}
use Rattle.am_syntax.specs.declared.written.Words.TheVariants.{Any}
use Rattle.am_syntax.specs.Shapes.{literal_of}
use Rattle.am_theory.specs.Declarations.{◌>>=◌, word_of, name_of, list_of}
use Rattle.am_diagram.specs.declared.declaration.Declaration.{Declaration}
use Rattle.am_diagram.specs.declared.declaration.Declaration.TheVariants.{Input, Object, Output, Given, Require}

-- `FNAME SORT`, of an input or an output: any word that isn't a number, and a name
abbrev pub variable_decl : (List ℕ → List ℕ → Declaration) → List Form → Option Declaration
variable_decl make [] = None
variable_decl make (name ∷ []) = None
variable_decl make (name ∷ sort ∷ []) = word_of name >>= λ n. name_of sort >>= λ s. Some (make n s)
variable_decl make (name ∷ sort ∷ f ∷ fs) = None

-- `NAME SORT`, of an object
abbrev pub object_decl : List Form → Option Declaration
object_decl [] = None
object_decl (name ∷ []) = None
object_decl (name ∷ sort ∷ []) = name_of name >>= λ n. name_of sort >>= λ s. Some (Object n s)
object_decl (name ∷ sort ∷ f ∷ fs) = None

-- `LITERAL`, in whose terms any word may stand alone
abbrev pub given_decl : List Form → Option Declaration
given_decl [] = None
given_decl (literal ∷ []) = option_map Given (literal_of Any literal)
given_decl (literal ∷ f ∷ fs) = None

abbrev pub require_decl : List Form → Option Declaration
require_decl [] = None
require_decl (literal ∷ []) = option_map Require (literal_of Any literal)
require_decl (literal ∷ f ∷ fs) = None

abbrev pub decl_headed : List ℕ → List Form → Option Declaration
decl_headed h rest =
    if bytes_eq h (codes "input") then variable_decl Input rest
    else if bytes_eq h (codes "object") then object_decl rest
    else if bytes_eq h (codes "output") then variable_decl Output rest
    else if bytes_eq h (codes "given") then given_decl rest
    else if bytes_eq h (codes "require") then require_decl rest
    else None

abbrev pub decl_in : List Form → Option Declaration
decl_in [] = None
decl_in (h ∷ rest) = word_of h >>= λ w. decl_headed w rest

-- the declaration that a form is, if it has one of the shapes
unfoldable pub decl_of : Form → Option Declaration
decl_of f = list_of f >>= decl_in

abbrev pub diagram_name_in : List Form → Option (List ℕ)
diagram_name_in [] = None
diagram_name_in (h ∷ []) = None
diagram_name_in (h ∷ name ∷ []) = word_of h >>= λ w. if bytes_eq w (codes "diagram") then word_of name else None
diagram_name_in (h ∷ name ∷ f ∷ fs) = None

-- the name in `(diagram FNAME)`
unfoldable pub diagram_name_of : Form → Option (List ℕ)
diagram_name_of f = list_of f >>= diagram_name_in
