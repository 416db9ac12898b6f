-- The items of a unit's text: the head, the declarations, the executable statements and the end.
use Rattle.std.specs.Prelude.{◌&&◌, ◌≡◌, ℕ, Bool, true, false, List, length, codes}
use Rattle.std.specs.List.{list_all}
use Rattle.am_term.specs.Names.{is_fortran_name}
use Rattle.am_fortran.specs.Lines.{Line, group_text}
use Rattle.am_fortran.specs.Text.{line, head_text, declaration_text, statement_text}
use Rattle.am_fortran.specs.Well.{is_between, is_declaration, is_statement, fits_statement}
use Rattle.am_fortran.specs.declared.item.Item.{Item}
use Rattle.am_fortran.specs.declared.item.Item.TheVariants.{Head, Declaration, Executable, End}

-- which items there are: those of which a unit is made
unfoldable pub is_item : Item → Bool
is_item (Head name dummies) = is_fortran_name name && (list_all is_fortran_name dummies && is_between 1 18 (length dummies))
is_item (Declaration d) = is_declaration d
is_item (Executable s) = is_statement s && fits_statement s
is_item End = true

unfoldable pub item_text : Item → List ℕ
item_text (Head name dummies) = head_text name dummies
item_text (Declaration d) = declaration_text d
item_text (Executable s) = statement_text s
item_text End = line (codes "END")

-- the group is the text of the item
pub record Spells (group : List Line) (item : Item) : Type 0 where
  pub exists : is_item item ≡ true
  pub text : group_text group ≡ item_text item

abbrev pub is_end : Item → Bool
is_end (Head name dummies) = false
is_end (Declaration d) = false
is_end (Executable s) = false
is_end End = true

-- an executable statement or the end
abbrev pub is_past_declarations : Item → Bool
is_past_declarations (Head name dummies) = false
is_past_declarations (Declaration d) = false
is_past_declarations (Executable s) = true
is_past_declarations End = true
