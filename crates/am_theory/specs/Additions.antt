-- New names, and one more member of each list of a theory.
use Rattle.std.specs.Prelude.{◌&&◌, ℕ, Bool, not, Option, List, [], ◌∷◌, ◌++◌}
use Rattle.std.specs.List.{list_any}
use Rattle.am_term.specs.declared.id.SortId.{SortId}
use Rattle.am_term.specs.NameLists.{is_among, are_distinct}
use Rattle.am_theory.specs.declared.declaration.Typed.{Typed}
use Rattle.am_theory.specs.declared.theory.Routine.{Routine}
use Rattle.am_theory.specs.declared.theory.FortranFunction.{FortranFunction}
use Rattle.am_theory.specs.declared.theory.Axiom.{Axiom}
use Rattle.am_theory.specs.Contents.{Contents, with_symbol, output_profile}
use Rattle.am_theory.specs.Faults.{names_in}

-- some name is among those seen
abbrev pub any_among : List (List ℕ) → List (List ℕ) → Bool
any_among seen names = list_any (λ n. is_among n seen) names

-- none of the names is among those seen, and none stands twice
abbrev pub are_new : List (List ℕ) → List Typed → Bool
are_new seen vs = not (any_among seen (names_in vs)) && are_distinct (names_in vs)

-- the outputs of a routine added one after the other as symbols
abbrev pub with_outputs : Contents → List (List ℕ) → List Typed → Contents
with_outputs c inputs [] = c
with_outputs c inputs (o ∷ os) = with_outputs (with_symbol c (output_profile c inputs o)) inputs os

-- a sort's name more, with its parent
abbrev pub with_named_sort : Contents → List ℕ → Option SortId → Contents
with_named_sort c n parent = record c { sorts = c.sorts ++ n ∷ []; parents = c.parents ++ parent ∷ [] }

-- a copy routine more, or none for a sort that has none
abbrev pub with_copy : Contents → Option (List ℕ) → Contents
with_copy c copy = record c { copies = c.copies ++ copy ∷ [] }

-- a listed function more
abbrev pub with_listed : Contents → FortranFunction → Contents
with_listed c f = record c { functions = c.functions ++ f ∷ [] }

-- a routine more
abbrev pub with_called : Contents → Routine → Contents
with_called c r = record c { routines = c.routines ++ r ∷ [] }

-- an axiom more
abbrev pub with_law : Contents → Axiom → Contents
with_law c a = record c { axioms = c.axioms ++ a ∷ [] }
