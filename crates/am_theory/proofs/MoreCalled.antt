-- One more routine or listed function with a name of its own.
use Rattle.std.proofs.Common.{◌≡◌, ◌∙◌, ℕ, false, List, [], ◌∷◌, ◌++◌, map, Option, refl, sym, ap, subst, append_assoc}
use Rattle.std.specs.List.{AllByRecursion}
use Rattle.std.proofs.lemmas.List.{map-append}
use Rattle.am_term.specs.NameLists.{is_among, are_distinct}
use Rattle.am_syntax.proofs.Among.{none_left, none_right}
use Rattle.am_theory.specs.declared.theory.Routine.{Routine}
use Rattle.am_theory.specs.declared.theory.FortranFunction.{FortranFunction}
use Rattle.am_theory.specs.Contents.{Contents}
use Rattle.am_theory.specs.Faults.{is_called}
use Rattle.am_theory.proofs.Appends.{all-append, all-push, all-front, all-back, distinct-append, distinct-insert}
use Rattle.am_theory.proofs.Sound.{CalledSound, called, listed}

abbrev IsUncopied : List (Option (List ℕ)) → List ℕ → Type 0
IsUncopied copies n = is_among n (listed copies) ≡ false

abbrev routine_names : List Routine → List (List ℕ)
routine_names = map (λ (r : Routine). r.name)

abbrev function_names : List FortranFunction → List (List ℕ)
function_names = map (λ (f : FortranFunction). f.name)

module _ (c : Contents) (h : CalledSound c.routines c.functions c.copies) where
  pub function-called : (f : FortranFunction) → is_called c f.name ≡ false → CalledSound c.routines (c.functions ++ f ∷ []) c.copies
  function-called f e =
      let free : is_among f.name (called c.routines c.functions) ≡ false = none_left (is_among f.name (called c.routines c.functions)) (is_among f.name (listed c.copies)) e in
      let whole : called c.routines (c.functions ++ f ∷ []) ≡ called c.routines c.functions ++ f.name ∷ [] =
      ap (λ ns. routine_names c.routines ++ ns) (map-append (λ (g : FortranFunction). g.name) c.functions (f ∷ [])) ∙ sym (append_assoc (routine_names c.routines) (function_names c.functions) (f.name ∷ [])) in
      record {
        distinct = ap are_distinct whole ∙ distinct-append (called c.routines c.functions) (f.name ∷ []) h.distinct refl (free, tt);
        apart = subst (AllByRecursion (IsUncopied c.copies)) (sym whole)
            (all-push (IsUncopied c.copies) (called c.routines c.functions) f.name h.apart (none_right (is_among f.name (called c.routines c.functions)) (is_among f.name (listed c.copies)) e));
      }

  pub routine-called : (r : Routine) → is_called c r.name ≡ false → CalledSound (c.routines ++ r ∷ []) c.functions c.copies
  routine-called r e =
      let free : is_among r.name (called c.routines c.functions) ≡ false = none_left (is_among r.name (called c.routines c.functions)) (is_among r.name (listed c.copies)) e in
      let whole : called (c.routines ++ r ∷ []) c.functions ≡ (routine_names c.routines ++ r.name ∷ []) ++ function_names c.functions =
      ap (λ ns. ns ++ function_names c.functions) (map-append (λ (q : Routine). q.name) c.routines (r ∷ [])) in
      record {
        distinct = ap are_distinct whole ∙ distinct-insert (routine_names c.routines) (function_names c.functions) r.name h.distinct free;
        apart = subst (AllByRecursion (IsUncopied c.copies)) (sym whole)
            (all-append (IsUncopied c.copies) (routine_names c.routines ++ r.name ∷ []) (function_names c.functions)
            (all-push (IsUncopied c.copies) (routine_names c.routines) r.name (all-front (IsUncopied c.copies) (routine_names c.routines) (function_names c.functions) h.apart) (none_right (is_among r.name (called c.routines c.functions)) (is_among r.name (listed c.copies)) e))
            (all-back (IsUncopied c.copies) (routine_names c.routines) (function_names c.functions) h.apart));
      }
