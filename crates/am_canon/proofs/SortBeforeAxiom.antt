-- An axiom stands behind one more sort as it stood before it.
use Rattle.std.proofs.Common.{◌≡◌, ◌∙◌, ◌+◌, ℕ, false, Option, List, [], ◌∷◌, ◌++◌, map, refl, sym, ap}
use Rattle.std.specs.List.{list_any}
use Rattle.am_term.specs.declared.id.SortId.{SortId}
use Rattle.am_syntax.specs.declared.scope.Standing.TheVariants.{Variable}
use Rattle.am_syntax.specs.declared.written.WrittenFormula.{WrittenFormula}
use Rattle.am_syntax.specs.Meaning.{formula_meaning}
use Rattle.am_syntax.specs.Laws.{Extends}
use Rattle.am_syntax.proofs.Among.{none_left, none_right}
use Rattle.am_theory.specs.declared.theory.Rep.{Rep}
use Rattle.am_theory.specs.declared.declaration.Typed.{Typed}
use Rattle.am_theory.specs.declared.declaration.Declaration.TheVariants as decl
use Rattle.am_theory.specs.Contents.{Contents, sort_number, bound_from, axiom_scope, variable_of, with_sort, with_decl}
use Rattle.am_theory.specs.Faults.{is_unknown_sort, is_twice, names_in, is_symbol_name}
use Rattle.am_theory.specs.Parts.{sorts_in}
use Rattle.am_theory.proofs.NoFault.{IsFaultless}
use Rattle.am_theory.proofs.Sound.{Sound}
use Rattle.am_canon.proofs.SoundSorts.{results-in, standings-in}
use Rattle.am_canon.proofs.MoreSorts.{sorts-known, number-kept}
use Rattle.am_canon.proofs.AxiomKept.{variables-known, meaning-kept, axiom-faultless}
use Rattle.am_canon.proofs.Swapped.{StandsBehind, LeavesSorts}

module _ (c : Contents) (n : List ℕ) (parent : Option SortId) (r : Option Rep) (copy : Option (List ℕ)) where
  abbrev wide : Contents
  wide = with_sort c n parent r copy

  bound-kept : (i : ℕ) (vs : List Typed) → list_any (is_unknown_sort c) (sorts_in vs) ≡ false → bound_from c i vs ≡ bound_from wide i vs
  bound-kept i [] e = refl
  bound-kept i (v ∷ vs) e =
      ap (λ (s : SortId). record { name = v.name; standing = Variable i s } ∷ bound_from c (i + 1) vs) (sym (number-kept c n parent r copy v.sort (none_left (is_unknown_sort c v.sort) (list_any (is_unknown_sort c) (sorts_in vs)) e)))
      ∙ ap (λ bs. record { name = v.name; standing = Variable i (sort_number wide v.sort) } ∷ bs) (bound-kept (i + 1) vs (none_right (is_unknown_sort c v.sort) (list_any (is_unknown_sort c) (sorts_in vs)) e))

  variables-kept : (vs : List Typed) → list_any (is_unknown_sort c) (sorts_in vs) ≡ false → map (variable_of c) vs ≡ map (variable_of wide) vs
  variables-kept [] e = refl
  variables-kept (v ∷ vs) e =
      ap (λ (s : SortId). (v.name, s) ∷ map (variable_of c) vs) (sym (number-kept c n parent r copy v.sort (none_left (is_unknown_sort c v.sort) (list_any (is_unknown_sort c) (sorts_in vs)) e)))
      ∙ ap (λ xs. variable_of wide v ∷ xs) (variables-kept vs (none_right (is_unknown_sort c v.sort) (list_any (is_unknown_sort c) (sorts_in vs)) e))

  module _ (sound : Sound c) (vs : List Typed) (g : WrittenFormula) (k : IsFaultless c (decl.Axiom vs g)) where
    extends : Extends (axiom_scope c vs) (axiom_scope wide vs)
    extends = record {
      names = λ w i e. e;
      symbols = λ i y e. e;
      bound = bound-kept 0 vs (variables-known c vs g k);
      more = parent ∷ [];
      parents = refl;
      results = results-in c sound vs;
      standings = standings-in c sound vs (variables-known c vs g k);
    }

    axiom-behind : IsFaultless wide (decl.Axiom vs g)
    unfolding is_twice
    axiom-behind =
        axiom-faultless c vs g k wide extends
        (sorts-known c n parent r copy (sorts_in vs) (variables-known c vs g k))
        (none_left (list_any (is_symbol_name c) (names_in vs)) _ k.new)
        refl

    axiom-same : with_sort (with_decl c (decl.Axiom vs g)) n parent r copy ≡ with_decl wide (decl.Axiom vs g)
    unfolding with_decl
    axiom-same =
        ap (λ xs. record wide { axioms = c.axioms ++ record { vars = xs; formula = formula_meaning (axiom_scope c vs) g } ∷ [] }) (variables-kept vs (variables-known c vs g k))
        ∙ ap (λ f. record wide { axioms = c.axioms ++ record { vars = map (variable_of wide) vs; formula = f } ∷ [] }) (sym (meaning-kept c vs g k wide extends))

    pub axiom-stands : StandsBehind c (decl.Axiom vs g) n parent r copy
    axiom-stands = record { behind = axiom-behind; same = axiom-same }

-- an axiom leaves the sorts
pub axiom-leaves : (c : Contents) (vs : List Typed) (g : WrittenFormula) → LeavesSorts c (with_decl c (decl.Axiom vs g))
unfolding with_decl
axiom-leaves c vs g = record { version = refl; sorts = refl; reps = refl; copies = refl; called = λ w e. e }
