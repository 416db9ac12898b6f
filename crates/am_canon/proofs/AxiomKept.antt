-- An axiom in other surroundings: where its names stand for the same, it has the same faults and meaning.
use Rattle.std.proofs.Common.{◌≡◌, ◌∙◌, ◌||◌, ◌+◌, false, List, length, refl, ap}
use Rattle.std.specs.Prelude.{nat_lt}
use Rattle.std.specs.List.{list_any}
use Rattle.am_syntax.specs.declared.scope.Flaw.TheVariants.{UnknownName, BadSort, BadArity, Unbound}
use Rattle.am_syntax.specs.declared.written.WrittenFormula.{WrittenFormula}
use Rattle.am_syntax.specs.Flaws.{formula_has}
use Rattle.am_syntax.specs.Meaning.{formula_meaning}
use Rattle.am_syntax.specs.Laws.{Extends, IsSameFormulaIn}
use Rattle.am_syntax.proofs.Among.{none_left, none_right}
use Rattle.am_syntax.proofs.LargerFormula.{formula-kept}
use Rattle.am_theory.specs.declared.declaration.Typed.{Typed}
use Rattle.am_theory.specs.declared.declaration.Declaration.TheVariants as decl
use Rattle.am_theory.specs.Contents.{Contents, axiom_scope}
use Rattle.am_theory.specs.Faults.{names_in, is_unknown_sort, has_unknown_name, is_symbol_name, is_twice, has_bad_sort, has_bad_arity, has_unbound, quantifies, is_badly_represented, lacks_copy, has_bad_fortran_name, clashes, has_many_clauses, is_over_limit}
use Rattle.am_theory.specs.Parts.{sorts_in}
use Rattle.am_theory.specs.Limits.{axiom_limit, variable_limit}
use Rattle.am_theory.proofs.NoFault.{IsFaultless}
use Rattle.am_theory.proofs.Appends.{none_both}

module _ (c : Contents) (vs : List Typed) (g : WrittenFormula) (k : IsFaultless c (decl.Axiom vs g)) where
  -- ---- what the tests that an axiom passes tell
  pub variables-known : list_any (is_unknown_sort c) (sorts_in vs) ≡ false
  unfolding has_unknown_name
  variables-known = none_left (list_any (is_unknown_sort c) (sorts_in vs)) (formula_has (axiom_scope c vs) UnknownName g) k.known

  pub heads-known : formula_has (axiom_scope c vs) UnknownName g ≡ false
  unfolding has_unknown_name
  heads-known = none_right (list_any (is_unknown_sort c) (sorts_in vs)) (formula_has (axiom_scope c vs) UnknownName g) k.known

  pub names-bound : formula_has (axiom_scope c vs) Unbound g ≡ false
  unfolding has_unbound
  names-bound = k.bound

  module _ (b : Contents) (x : Extends (axiom_scope c vs) (axiom_scope b vs)) where
    kept : IsSameFormulaIn (axiom_scope c vs) (axiom_scope b vs) g
    kept = formula-kept (axiom_scope c vs) (axiom_scope b vs) x g heads-known names-bound

    pub meaning-kept : formula_meaning (axiom_scope b vs) g ≡ formula_meaning (axiom_scope c vs) g
    meaning-kept = kept.meaning

    pub axiom-faultless : list_any (is_unknown_sort b) (sorts_in vs) ≡ false → list_any (is_symbol_name b) (names_in vs) ≡ false → length b.axioms ≡ length c.axioms → IsFaultless b (decl.Axiom vs g)
    unfolding has_unknown_name is_twice has_bad_sort has_bad_arity has_unbound quantifies is_badly_represented lacks_copy has_bad_fortran_name clashes is_over_limit
    axiom-faultless known apart many = record {
      allowed = refl;
      known = none_both (list_any (is_unknown_sort b) (sorts_in vs)) (formula_has (axiom_scope b vs) UnknownName g) known (kept.flaws UnknownName ∙ heads-known);
      new = none_both (list_any (is_symbol_name b) (names_in vs)) _ apart (none_right (list_any (is_symbol_name c) (names_in vs)) _ k.new);
      sorted = kept.flaws BadSort ∙ k.sorted;
      counted = kept.flaws BadArity ∙ k.counted;
      represented = refl;
      copied = refl;
      named = refl;
      apart = refl;
      bound = kept.flaws Unbound ∙ k.bound;
      plain = k.plain;
      few =
          ap (λ n. nat_lt axiom_limit (n + 1) || (nat_lt variable_limit (length vs) || has_many_clauses (formula_meaning (axiom_scope b vs) g))) many
          ∙ ap (λ f. nat_lt axiom_limit (length c.axioms + 1) || (nat_lt variable_limit (length vs) || has_many_clauses f)) kept.meaning
          ∙ k.few;
    }
