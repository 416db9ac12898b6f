-- Steps of the tests of names and of counts.
use Rattle.std.proofs.Common.{◌≡◌, ◌∙◌, ℕ, Bool, List, [], ◌∷◌, ◌++◌, refl, ap}
use Rattle.std.specs.Prelude.{◌||◌}
use Rattle.std.specs.List.{list_any}
use Rattle.std.specs.Str.{bytes_eq}
use Rattle.std.proofs.lemmas.Grind.{common_steps}
use Rattle.std.proofs.lemmas.Bool.Decides.{nat_tests}
use Rattle.std.proofs.lemmas.List.Folds.{list_any-append}
use Rattle.am_term.specs.declared.id.SortId.{SortId}
use Rattle.am_term.specs.NameLists.{is_among}
use Rattle.am_diagram.specs.declared.draft.Draft.{Draft}
use Rattle.am_diagram.specs.Listed.{entry_names}
use Rattle.am_diagram.specs.Faults.{used_names}

-- a test of the names
pub any-names : (p : List ℕ → Bool) (es : List (List ℕ × SortId)) → list_any p (entry_names es) ≡ list_any (λ (e : List ℕ × SortId). p e.0) es
any-names p [] = refl
any-names p (e ∷ es) = ap (λ b. p e.0 || b) (any-names p es)

-- a name is the diagram's, or that of an input, an object or an output
pub among-used : (q : List ℕ) (d : Draft) → is_among q (used_names d) ≡ (((bytes_eq q d.name || is_among q (entry_names d.inputs)) || is_among q (entry_names d.objects)) || is_among q (entry_names d.outputs))
among-used q d =
    list_any-append (bytes_eq q) (d.name ∷ entry_names d.inputs ++ entry_names d.objects) (entry_names d.outputs)
    ∙ ap (λ b. b || is_among q (entry_names d.outputs)) (list_any-append (bytes_eq q) (d.name ∷ entry_names d.inputs) (entry_names d.objects))

pub ruleset name_steps = (common_steps, any-names, among-used)

pub ruleset limit_steps = (common_steps, nat_tests)
