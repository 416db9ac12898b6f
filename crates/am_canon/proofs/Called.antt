-- Names of what is called: one more routine, one more listed function, one more copy routine.
use Rattle.std.proofs.Common.{◌≡◌, ◌∙◌, ℕ, zero, suc, false, Option, Some, None, List, [], ◌∷◌, ◌++◌, map, refl, sym, ap}
use Rattle.std.specs.Prelude.{slice_get}
use Rattle.std.specs.List.{flat_map}
use Rattle.std.specs.Str.{bytes_eq}
use Rattle.std.proofs.lemmas.List.{map-append}
use Rattle.std.proofs.lemmas.Grind.{flat_map-append}
use Rattle.am_term.specs.NameLists.{is_among}
use Rattle.am_syntax.proofs.Among.{none_left}
use Rattle.am_theory.specs.declared.theory.Routine.{Routine}
use Rattle.am_theory.specs.declared.theory.FortranFunction.{FortranFunction}
use Rattle.am_theory.specs.Contents.{of_sort}
use Rattle.am_theory.specs.Lookups.{known, listed_name}
use Rattle.am_theory.proofs.Appends.{none_both, names-turned}
use Rattle.am_canon.proofs.Joined.{none-front, none-behind, none-joined}

abbrev routine_names : List Routine → List (List ℕ)
routine_names rs = map (λ (r : Routine). r.name) rs

abbrev function_names : List FortranFunction → List (List ℕ)
function_names fs = map (λ (f : FortranFunction). f.name) fs

module _ (w : List ℕ) (rs : List Routine) (fs : List FortranFunction) where
  module _ (r : Routine) (e : is_among w (routine_names (rs ++ r ∷ []) ++ function_names fs) ≡ false) where
    parted_routines : is_among w (routine_names rs ++ (r.name ∷ [])) ≡ false
    parted_routines = ap (is_among w) (sym (map-append _ rs (r ∷ []))) ∙ none-front (bytes_eq w) (routine_names (rs ++ r ∷ [])) (function_names fs) e

    -- a name that isn't called with one more routine is not called before
    pub uncalled-routine : is_among w (routine_names rs ++ function_names fs) ≡ false
    uncalled-routine =
        none-joined (bytes_eq w) (routine_names rs) (function_names fs)
        (none-front (bytes_eq w) (routine_names rs) (r.name ∷ []) parted_routines)
        (none-behind (bytes_eq w) (routine_names (rs ++ r ∷ [])) (function_names fs) e)

    -- and is not that of the routine
    pub unlike-routine : bytes_eq r.name w ≡ false
    unlike-routine = names-turned r.name w ∙ none_left (bytes_eq w r.name) false (none-behind (bytes_eq w) (routine_names rs) (r.name ∷ []) parted_routines)

  module _ (f : FortranFunction) (e : is_among w (routine_names rs ++ function_names (fs ++ f ∷ [])) ≡ false) where
    parted_functions : is_among w (function_names fs ++ (f.name ∷ [])) ≡ false
    parted_functions = ap (is_among w) (sym (map-append _ fs (f ∷ []))) ∙ none-behind (bytes_eq w) (routine_names rs) (function_names (fs ++ f ∷ [])) e

    -- a name that isn't called with one more listed function is not called before
    pub uncalled-function : is_among w (routine_names rs ++ function_names fs) ≡ false
    uncalled-function =
        none-joined (bytes_eq w) (routine_names rs) (function_names fs)
        (none-front (bytes_eq w) (routine_names rs) (function_names (fs ++ f ∷ [])) e)
        (none-front (bytes_eq w) (function_names fs) (f.name ∷ []) parted_functions)

    -- and is not that of the function
    pub unlike-function : bytes_eq f.name w ≡ false
    unlike-function = names-turned f.name w ∙ none_left (bytes_eq w f.name) false (none-behind (bytes_eq w) (function_names fs) (f.name ∷ []) parted_functions)

-- a name is not that of a copy routine
abbrev pub IsUnlike : List ℕ → Option (List ℕ) → Type 0
IsUnlike n None = Unit {0}
IsUnlike n (Some w) = bytes_eq n w ≡ false

unlisted : (n : List ℕ) (copy : Option (List ℕ)) → IsUnlike n copy → is_among n (listed_name copy ++ []) ≡ false
unlisted n None h = refl
unlisted n (Some w) h = none_both (bytes_eq n w) false h refl

-- a name that is no copy routine's is none with one more copy routine that has another name
pub uncopied : (n : List ℕ) (copies : List (Option (List ℕ))) (copy : Option (List ℕ)) → is_among n (flat_map listed_name copies) ≡ false → IsUnlike n copy → is_among n (flat_map listed_name (copies ++ copy ∷ [])) ≡ false
uncopied n copies copy e h =
    ap (is_among n) (flat_map-append listed_name copies (copy ∷ []))
    ∙ none-joined (bytes_eq n) (flat_map listed_name copies) (listed_name copy ++ []) e (unlisted n copy h)

unlike-at : (n : List ℕ) (copies : List (Option (List ℕ))) (k : ℕ) → is_among n (flat_map listed_name copies) ≡ false → IsUnlike n (known (slice_get copies k))
unlike-at n [] zero e = tt
unlike-at n [] (suc k) e = tt
unlike-at n (None ∷ copies) zero e = tt
unlike-at n (Some w ∷ copies) zero e = none_left (bytes_eq n w) (is_among n (flat_map listed_name copies)) e
unlike-at n (copy ∷ copies) (suc k) e = unlike-at n copies k (none-behind (bytes_eq n) (listed_name copy) (flat_map listed_name copies) e)

-- a name that is no copy routine's is not that of one of the sorts' copy routines
pub unlike-copy : (n : List ℕ) (copies : List (Option (List ℕ))) (o : Option ℕ) → is_among n (flat_map listed_name copies) ≡ false → IsUnlike n (of_sort copies o)
unlike-copy n copies None e = tt
unlike-copy n copies (Some k) e = unlike-at n copies k e
