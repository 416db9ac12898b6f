-- After an axiom all is sound; and so after each declaration without a fault.
use Rattle.std.proofs.Common.{◌≡◌, ◌∙◌, ◌+◌, ◌≤◌, ◌||◌, ℕ, Bool, true, false, not, Option, Some, List, [], ◌∷◌, map, length, refl, sym, ap, subst, arith}
use Rattle.std.specs.Prelude.{nat_lt, if◌then◌else◌, IsTrue}
use Rattle.std.specs.List.{AllByRecursion, list_any}
use Rattle.std.specs.Str.{bytes_eq}
use Rattle.std.proofs.lemmas.Bool.{ltb-false}
use Rattle.std.proofs.lemmas.List.{length-append, length-map}
use Rattle.am_term.specs.declared.id.SortId.{SortId}
use Rattle.am_term.specs.declared.term.Formula.{Formula}
use Rattle.am_term.specs.Names.{is_name}
use Rattle.am_term.specs.NameLists.{is_among, are_distinct}
use Rattle.am_term.proofs.Tests.{and_left, false_not}
use Rattle.am_clause.specs.declared.clause.Clause.{Clause}
use Rattle.am_clause.specs.ClauseForm.{cnf, maps}
use Rattle.am_clause.specs.Count.{count}
use Rattle.am_clause.proofs.Lengths.{count-length}
use Rattle.am_syntax.specs.declared.scope.Standing.{Standing}
use Rattle.am_syntax.specs.declared.scope.Standing.TheVariants.{Variable, Input}
use Rattle.am_syntax.specs.declared.scope.Flaw.{Flaw}
use Rattle.am_syntax.specs.declared.scope.Flaw.TheVariants as flaw
use Rattle.am_syntax.specs.declared.written.WrittenFormula.{WrittenFormula}
use Rattle.am_syntax.specs.Scopes.{standing_of}
use Rattle.am_syntax.specs.Flaws.{formula_has}
use Rattle.am_syntax.specs.Meaning.{formula_meaning}
use Rattle.am_syntax.proofs.Among.{none_left, none_right}
use Rattle.am_theory.specs.declared.theory.Axiom.{Axiom}
use Rattle.am_theory.specs.declared.declaration.Typed.{Typed}
use Rattle.am_theory.specs.declared.declaration.Declaration.{Declaration}
use Rattle.am_theory.specs.declared.declaration.Declaration.TheVariants as decl
use Rattle.am_theory.specs.Contents.{Contents, sort_number, bound_from, axiom_scope, variable_of, nothing, with_decl}
use Rattle.am_theory.specs.Faults.{has_unknown_name, is_unknown_sort, names_in, is_twice, is_symbol_name, axiom_names, has_bad_sort, has_bad_arity, has_unbound, quantifies, is_long_clause, has_many_clauses, is_over_limit}
use Rattle.am_theory.specs.Parts.{sorts_in}
use Rattle.am_theory.specs.Facts.{IsSmallClause}
use Rattle.am_theory.specs.Limits.{axiom_limit, variable_limit, clause_limit, literal_limit}
use Rattle.am_theory.specs.Traces.{IsWritten, is_typed, Trace}
use Rattle.am_theory.proofs.Appends.{all-push, all-map, all-unmap, all-weaker, all-passed, all-failed}
use Rattle.am_theory.proofs.NoFault.{IsFaultless, faultless}
use Rattle.am_theory.proofs.OfForm.{of_form}
use Rattle.am_theory.proofs.Sound.{IsSortOf, HasVersionOf, FormulaSound, AxiomSound, Sound, names_of_symbols}
use Rattle.am_theory.proofs.SortNames.{sort-there}
use Rattle.am_theory.proofs.SoundSort.{sound-Sort, sound-Subsort}
use Rattle.am_theory.proofs.SoundSymbol.{sound-Function, sound-Relation}
use Rattle.am_theory.proofs.SoundLiteral.{sound-Literal}
use Rattle.am_theory.proofs.SoundRoutine.{sound-Routine}
use Rattle.am_theory.proofs.SoundValue.{sound-Value}

abbrev standing : Standing → Option Standing
standing x = Some x

module _ (c : Contents) where
  abbrev Known : Typed → Type 0
  Known v = is_unknown_sort c v.sort ≡ false

  -- ---- what the names of variables stand for
  variable-by : (b : Bool) (v : Typed) (k n : ℕ) (r : SortId) (rest : Option Standing) → Known v → (rest ≡ standing (Variable n r) → IsSortOf (length c.sorts) r) → (if b then Some (Variable k (sort_number c v.sort)) else rest) ≡ standing (Variable n r) → IsSortOf (length c.sorts) r
  variable-by true v k n r rest h more e = let same : sort_number c v.sort ≡ r = cc in subst (IsSortOf (length c.sorts)) same (sort-there c v.sort h)
  variable-by false v k n r rest h more e = more e

  variables-there : (vs : List Typed) (k : ℕ) → AllByRecursion Known vs → (w : List ℕ) (n : ℕ) (r : SortId) → standing_of w (bound_from c k vs) ≡ standing (Variable n r) → IsSortOf (length c.sorts) r
  variables-there [] k h w n r e = absurd cc
  variables-there (v ∷ vs) k h w n r e = variable-by (bytes_eq w v.name) v k n r (standing_of w (bound_from c (k + 1) vs)) h.0 (λ q. variables-there vs (k + 1) h.1 w n r q) e

  input-by : (b : Bool) (v : Typed) (k n : ℕ) (r : SortId) (rest : Option Standing) → (rest ≡ standing (Input n r) → ⊥) → (if b then Some (Variable k (sort_number c v.sort)) else rest) ≡ standing (Input n r) → ⊥
  input-by true v k n r rest more e = cc
  input-by false v k n r rest more e = more e

  no-inputs : (vs : List Typed) (k : ℕ) (w : List ℕ) (n : ℕ) (r : SortId) → standing_of w (bound_from c k vs) ≡ standing (Input n r) → ⊥
  no-inputs [] k w n r e = cc
  no-inputs (v ∷ vs) k w n r e = input-by (bytes_eq w v.name) v k n r (standing_of w (bound_from c (k + 1) vs)) (λ q. no-inputs vs (k + 1) w n r q) e

module _ (c : Contents) (s : Sound c) (vs : List Typed) (g : WrittenFormula) where
  abbrev meaning : Formula
  meaning = formula_meaning (axiom_scope c vs) g

  abbrev new_axiom : Axiom
  new_axiom = record { vars = map (variable_of c) vs; formula = meaning }

  module _ (h : IsWritten (decl.Axiom vs g)) (f : IsFaultless c (decl.Axiom vs g)) where
    known : AllByRecursion (Known c) vs
    unfolding has_unknown_name
    known = all-unmap (λ w. is_unknown_sort c w ≡ false) (λ (v : Typed). v.sort) vs (all-failed (is_unknown_sort c) (sorts_in vs) (none_left (list_any (is_unknown_sort c) (sorts_in vs)) (formula_has (axiom_scope c vs) flaw.UnknownName g) f.known))

    flawless : (x : Flaw) → formula_has (axiom_scope c vs) x g ≡ false
    unfolding has_unknown_name has_bad_sort has_bad_arity has_unbound
    flawless flaw.UnknownName = none_right (list_any (is_unknown_sort c) (sorts_in vs)) (formula_has (axiom_scope c vs) flaw.UnknownName g) f.known
    flawless flaw.BadSort = f.sorted
    flawless flaw.BadArity = f.counted
    flawless flaw.Unbound = f.bound

    formula-sound : FormulaSound (length c.sorts) c.parents c.symbols meaning
    unfolding quantifies
    formula-sound = record {
      written = g;
      bound = bound_from c 0 vs;
      meant = refl;
      flawless = flawless;
      plain = f.plain;
      variables = variables-there c vs 0 known;
      inputs = no-inputs c vs 0;
    }

    -- ---- names
    names : axiom_names new_axiom ≡ names_in vs
    names = maps (λ (v : List ℕ × SortId). v.0) (variable_of c) vs

    distinct : are_distinct (axiom_names new_axiom) ≡ true
    unfolding is_twice
    distinct = ap are_distinct names ∙ false_not (are_distinct (names_in vs)) (none_right (list_any (is_symbol_name c) (names_in vs)) (not (are_distinct (names_in vs))) f.new)

    apart : AllByRecursion (λ (v : Typed). is_among v.name (names_of_symbols c.symbols) ≡ false) vs
    unfolding is_twice
    apart = all-unmap (λ m. is_symbol_name c m ≡ false) (λ (v : Typed). v.name) vs (all-failed (is_symbol_name c) (names_in vs) (none_left (list_any (is_symbol_name c) (names_in vs)) (not (are_distinct (names_in vs))) f.new))

    -- ---- counts
    over : (nat_lt variable_limit (length vs) || has_many_clauses meaning) ≡ false
    unfolding is_over_limit
    over = none_right (nat_lt axiom_limit (length c.axioms + 1)) (nat_lt variable_limit (length vs) || has_many_clauses meaning) f.few

    few_axioms : length c.axioms + 1 ≤ axiom_limit
    unfolding is_over_limit
    few_axioms = ltb-false axiom_limit (length c.axioms + 1) (none_left (nat_lt axiom_limit (length c.axioms + 1)) (nat_lt variable_limit (length vs) || has_many_clauses meaning) f.few)

    many : has_many_clauses meaning ≡ false
    many = none_right (nat_lt variable_limit (length vs)) (has_many_clauses meaning) over

    few_clauses : length (cnf meaning) ≤ clause_limit
    few_clauses = subst (λ k. k ≤ clause_limit) (count-length meaning) (ltb-false clause_limit (count meaning) (none_left (nat_lt clause_limit (count meaning)) (list_any is_long_clause (cnf meaning)) many))

    small : AllByRecursion IsSmallClause (cnf meaning)
    small = all-weaker (λ k. is_long_clause k ≡ false) IsSmallClause (λ (k : Clause) e. ltb-false literal_limit (length k.literals) e) (cnf meaning)
        (all-failed is_long_clause (cnf meaning) (none_right (nat_lt clause_limit (count meaning)) (list_any is_long_clause (cnf meaning)) many))

    axiom-sound : AxiomSound (length c.sorts) c.parents c.symbols new_axiom
    axiom-sound = record {
      sorts = all-map (λ (v : List ℕ × SortId). IsSortOf (length c.sorts) v.1) (variable_of c) vs (all-weaker (Known c) (λ (v : Typed). IsSortOf (length c.sorts) (sort_number c v.sort)) (λ v e. sort-there c v.sort e) vs known);
      named = all-map (λ (v : List ℕ × SortId). IsTrue (is_name v.0)) (variable_of c) vs (all-weaker (λ v. is_typed v ≡ true) (λ (v : Typed). IsTrue (is_name v.name)) (λ v e. and_left (is_name v.name) (is_name v.sort) e) vs (all-passed is_typed vs h));
      distinct = distinct;
      apart = all-map (λ (v : List ℕ × SortId). is_among v.0 (names_of_symbols c.symbols) ≡ false) (variable_of c) vs apart;
      few_variables = subst (λ k. k ≤ variable_limit) (sym (length-map vs (variable_of c))) (ltb-false variable_limit (length vs) (none_left (nat_lt variable_limit (length vs)) (has_many_clauses meaning) over));
      formula = formula-sound;
      few_clauses = few_clauses;
      small = small;
    }

    pub sound-Axiom : Sound (with_decl c (decl.Axiom vs g))
    unfolding with_decl
    sound-Axiom = record {
      of_sorts = s.of_sorts;
      of_called = s.of_called;
      of_symbols = s.of_symbols;
      of_routines = s.of_routines;
      of_functions = s.of_functions;
      of_literals = s.of_literals;
      one_each = s.one_each;
      outputs = s.outputs;
      values = s.values;
      constants = s.constants;
      numbered = s.numbered;
      of_axioms = all-push (AxiomSound (length c.sorts) c.parents c.symbols) c.axioms new_axiom s.of_axioms axiom-sound;
      few_axioms = subst (λ k. k ≤ axiom_limit) (sym (length-append c.axioms (new_axiom ∷ []))) few_axioms;
    }

-- ---- each declaration
pub sound-with : (c : Contents) (d : Declaration) → Sound c → IsWritten d → IsFaultless c d → Sound (with_decl c d)
sound-with c (decl.Sort n r copy) s h f = sound-Sort c s n r copy h f
sound-with c (decl.Subsort n w) s h f = sound-Subsort c s n w h f
sound-with c (decl.Function n args r) s h f = sound-Function c s n args r h f
sound-with c (decl.Relation n args) s h f = sound-Relation c s n args h f
sound-with c (decl.Literal n w v) s h f = sound-Literal c s n w v h f
sound-with c (decl.Routine n inputs outs) s h f = sound-Routine c s n inputs outs h f
sound-with c (decl.Value w n args r) s h f = sound-Value c s w n args r h f
sound-with c (decl.Axiom vs g) s h f = sound-Axiom c s vs g h f

pub sound-nothing : (v : ℕ) → HasVersionOf v [] → Sound (nothing v)
sound-nothing v h = record {
  of_sorts = record { versioned = h; parents_counted = refl; under = λ s p e. absurd cc; represented = tt; reps_counted = refl; copies_counted = refl; named = tt; distinct = refl; few = omega arith; copies_named = tt };
  of_called = record { distinct = refl; apart = tt };
  of_symbols = record { each = tt; distinct = refl; few = omega arith };
  of_routines = tt;
  of_functions = tt;
  of_literals = tt;
  one_each = λ i j l m r u e g a b k q. absurd cc;
  outputs = λ k y e g. absurd cc;
  values = λ k y e g. absurd cc;
  constants = λ k y e g. absurd cc;
  numbered = refl;
  of_axioms = tt;
  few_axioms = omega arith;
}

-- at the end of a run all is sound
pub sound-run : (ds : List Declaration) (c last : Contents) → Sound c → Trace c ds last → Sound last
sound-run [] c last s t = subst Sound t s
sound-run (d ∷ ds) c last s t = sound-run ds (with_decl c d) last (sound-with c d s (of_form d t.1) (faultless c d t.0)) t.2
