-- After the declaration of a routine all is sound.
use Rattle.std.proofs.Common.{◌≡◌, ◌∙◌, ◌+◌, ◌<◌, ◌≤◌, ◌||◌, ℕ, zero, suc, true, false, not, Some, List, [], ◌∷◌, ◌++◌, map, length, refl, sym, ap, subst, arith, slice_get, append_assoc, true≢false}
use Rattle.std.specs.Prelude.{nat_lt, slice_index_or}
use Rattle.std.specs.List.{AllByRecursion, Contains, list_any}
use Rattle.std.proofs.lemmas.Bool.{ltb-false}
use Rattle.std.proofs.lemmas.List.{length-append, length-map}
use Rattle.std.proofs.lemmas.List.Elements.{Contains-append_left, Contains-push}
use Rattle.am_term.specs.declared.id.SymId.{SymId}
use Rattle.am_term.specs.declared.kind.SymKind.TheVariants as kind
use Rattle.am_term.specs.Names.{is_name}
use Rattle.am_term.specs.NameLists.{is_among, are_distinct}
use Rattle.am_term.proofs.Tests.{and_left, false_not}
use Rattle.am_clause.specs.ClauseForm.{maps}
use Rattle.am_syntax.specs.Forms.{is_some_list}
use Rattle.am_syntax.specs.Scopes.{Profile}
use Rattle.am_syntax.proofs.Among.{none_left, none_right}
use Rattle.am_theory.specs.declared.theory.Routine.{Routine}
use Rattle.am_theory.specs.declared.declaration.Typed.{Typed}
use Rattle.am_theory.specs.declared.declaration.Declaration.TheVariants as decl
use Rattle.am_theory.specs.Contents.{Contents, sort_number, sort_numbers, output_profile, numbers_from, with_decl}
use Rattle.am_theory.specs.Faults.{has_unknown_name, is_unknown_sort, names_in, is_twice, is_taken, is_symbol_name, variable_names, is_badly_represented, is_abstract, has_bad_fortran_name, is_free_name, clashes, is_over_limit, is_past_symbols}
use Rattle.am_theory.specs.Parts.{sorts_in}
use Rattle.am_theory.specs.Limits.{argument_limit, output_limit, call_limit, symbol_limit}
use Rattle.am_theory.specs.Traces.{IsWritten, is_typed}
use Rattle.am_theory.proofs.Appends.{before, behind, all-push, all-both, all-each, all-map, all-unmap, all-weaker, all-passed, all-failed, all-at, get-end, get-side, get-within}
use Rattle.am_theory.proofs.NoFault.{IsFaultless}
use Rattle.am_theory.proofs.MoreCalled.{routine-called}
use Rattle.am_theory.proofs.MoreSymbols.{MayBeAdded, symbols-larger, routines-larger, functions-larger, literals-larger, one-each-larger, axioms-larger}
use Rattle.am_theory.proofs.Sound.{ProfileSound, StandsIn, RoutineSound, Sound, OutputsListed, ValuesListed, LiteralsListed, names_of_symbols}
use Rattle.am_theory.proofs.SortNames.{sort-there, sorts-there, concrete-there, concretes-there}
use Rattle.am_theory.proofs.SoundSymbol.{few-args}
use Rattle.am_theory.proofs.SymbolNumbers.{routine-numbered}

-- ---- the numbers of the outputs
length-from : (k : ℕ) (os : List Typed) → length (numbers_from k os) ≡ length os
length-from k [] = refl
length-from k (o ∷ os) = ap suc (length-from (k + 1) os)

some-from : (k : ℕ) (os : List Typed) → is_some_list os ≡ true → 1 ≤ length (numbers_from k os)
some-from k [] e = absurd (true≢false (sym e))
some-from k (o ∷ os) e = omega arith

abbrev number : ℕ → SymId
number n = record { 0 = n }

one-number : (n m : ℕ) → n ≡ m → number n ≡ number m
one-number n m e = ap number e

index-from : (os : List Typed) (n j m : ℕ) → m ≡ n + j → j < length os → slice_index_or (numbers_from n os) j (number m) ≡ number m
index-from [] n j m e h = absurd (omega arith)
index-from (o ∷ os) n zero m e h = one-number n m (omega arith)
index-from (o ∷ os) n (suc j) m e h = index-from os (n + 1) j m (omega arith) (omega arith)

contains-from : (os : List Typed) (n j m : ℕ) → m ≡ n + j → j < length os → Contains (numbers_from n os) (record { 0 = m })
contains-from os n j m e h = (j, subst (λ k. j < k) (sym (length-from n os)) h, index-from os n j m e h)

module _ (c : Contents) (s : Sound c) (n : List ℕ) (inputs : List (List ℕ)) (outs : List Typed) where
  abbrev profiles : List Profile
  profiles = map (output_profile c inputs) outs

  abbrev routine : Routine
  routine = record { name = n; inputs = sort_numbers c inputs; outputs = numbers_from (length c.symbols) outs }

  abbrev larger : List Profile
  larger = c.symbols ++ profiles

  profile-names : names_of_symbols profiles ≡ names_in outs
  profile-names = maps (λ (y : Profile). y.name) (output_profile c inputs) outs

  are-outputs : AllByRecursion (λ (y : Profile). y.kind ≡ kind.Output) profiles
  are-outputs = all-map (λ (y : Profile). y.kind ≡ kind.Output) (output_profile c inputs) outs (all-each (λ (o : Typed). (output_profile c inputs o).kind ≡ kind.Output) (λ o. refl) outs)

  -- ---- the outputs stand for the routine's results
  abbrev Known : Typed → Type 0
  Known o = is_unknown_sort c o.sort ≡ false

  abbrev Concrete : Typed → Type 0
  Concrete o = is_abstract c o.sort ≡ false

  abbrev Stands : List Profile → SymId → Type 0
  Stands symbols f = StandsIn c.reps symbols f kind.Output (sort_numbers c inputs)

  outputs-stand : (os : List Typed) (first : List Profile) (k : ℕ) → k ≡ length first → AllByRecursion Known os → AllByRecursion Concrete os → AllByRecursion (Stands (first ++ map (output_profile c inputs) os)) (numbers_from k os)
  outputs-stand [] first k e h g = tt
  outputs-stand (o ∷ os) first k e h g =
      let y = output_profile c inputs o in
      let rest = map (output_profile c inputs) os in
      let more : k + 1 ≡ length (first ++ y ∷ []) = ap (λ i. i + 1) e ∙ sym (length-append first (y ∷ [])) in (
        record {
          symbol = y;
          there = ap (slice_get (first ++ y ∷ rest)) e ∙ get-end first rest y;
          of_kind = refl;
          with_args = refl;
          sort = sort_number c o.sort;
          result = refl;
          concrete = concrete-there c o.sort h.0 g.0;
        },
        subst (λ symbols. AllByRecursion (Stands symbols) (numbers_from (k + 1) os)) (append_assoc first (y ∷ []) rest) (outputs-stand os (first ++ y ∷ []) (k + 1) more h.1 g.1),
      )

  module _ (h : IsWritten (decl.Routine n inputs outs)) (f : IsFaultless c (decl.Routine n inputs outs)) where
    some_known : list_any (is_unknown_sort c) inputs ≡ false
    unfolding has_unknown_name
    some_known = none_left (list_any (is_unknown_sort c) inputs) (list_any (is_unknown_sort c) (sorts_in outs)) f.known

    outs_known : AllByRecursion Known outs
    unfolding has_unknown_name
    outs_known = all-unmap (λ w. is_unknown_sort c w ≡ false) (λ (o : Typed). o.sort) outs (all-failed (is_unknown_sort c) (sorts_in outs) (none_right (list_any (is_unknown_sort c) inputs) (list_any (is_unknown_sort c) (sorts_in outs)) f.known))

    inputs_concrete : list_any (is_abstract c) inputs ≡ false
    unfolding is_badly_represented
    inputs_concrete = none_left (list_any (is_abstract c) inputs) (list_any (is_abstract c) (sorts_in outs)) f.represented

    outs_concrete : AllByRecursion Concrete outs
    unfolding is_badly_represented
    outs_concrete = all-unmap (λ w. is_abstract c w ≡ false) (λ (o : Typed). o.sort) outs (all-failed (is_abstract c) (sorts_in outs) (none_right (list_any (is_abstract c) inputs) (list_any (is_abstract c) (sorts_in outs)) f.represented))

    untaken : AllByRecursion (λ m. is_taken c m ≡ false) (names_of_symbols profiles)
    unfolding is_twice
    untaken = subst (AllByRecursion (λ m. is_taken c m ≡ false)) (sym profile-names) (all-failed (is_taken c) (names_in outs) (none_left (list_any (is_taken c) (names_in outs)) (not (are_distinct (names_in outs))) f.new))

    distinct : are_distinct (names_of_symbols profiles) ≡ true
    unfolding is_twice
    distinct = ap are_distinct profile-names ∙ false_not (are_distinct (names_in outs)) (none_right (list_any (is_taken c) (names_in outs)) (not (are_distinct (names_in outs))) f.new)

    -- ---- counts
    pub record Few : Type 0 where
      symbols : length c.symbols + length outs ≤ symbol_limit
      some : nat_lt argument_limit (length inputs) ≡ false
      outputs : length outs ≤ output_limit
      all : length inputs + length outs ≤ call_limit

    few : Few
    unfolding is_over_limit
    few =
        let a = is_past_symbols c (length outs) in
        let b = nat_lt argument_limit (length inputs) in
        let d = nat_lt output_limit (length outs) in
        let e = nat_lt call_limit (length inputs + length outs) in
        let rest = none_right a (b || (d || e)) f.few in
        record {
          symbols = ltb-false symbol_limit (length c.symbols + length outs) (none_left a (b || (d || e)) f.few);
          some = none_left b (d || e) rest;
          outputs = ltb-false output_limit (length outs) (none_left d e (none_right b (d || e) rest));
          all = ltb-false call_limit (length inputs + length outs) (none_right d e (none_right b (d || e) rest));
        }

    -- ---- symbols
    output-sound : (o : Typed) → is_typed o ≡ true → Known o → ProfileSound (length c.sorts) (output_profile c inputs o)
    output-sound o e k = record {
      named = and_left (is_name o.name) (is_name o.sort) e;
      args = sorts-there c inputs some_known;
      result = sort-there c o.sort k;
      few = few-args c inputs few.some;
    }

    outputs-added : MayBeAdded c profiles
    outputs-added = record {
      sound = all-map (ProfileSound (length c.sorts)) (output_profile c inputs) outs
          (all-both (λ o. is_typed o ≡ true) Known (λ o. ProfileSound (length c.sorts) (output_profile c inputs o)) output-sound outs (all-passed is_typed outs h.2) outs_known);
      distinct = distinct;
      new = all-weaker (λ m. is_taken c m ≡ false) (λ m. is_symbol_name c m ≡ false) (λ m e. none_left (is_symbol_name c m) (is_among m (variable_names c)) e) (names_of_symbols profiles) untaken;
      unused = all-weaker (λ m. is_taken c m ≡ false) (λ m. is_among m (variable_names c) ≡ false) (λ m e. none_right (is_symbol_name c m) (is_among m (variable_names c)) e) (names_of_symbols profiles) untaken;
      few = subst (λ k. length c.symbols + k ≤ symbol_limit) (sym (length-map outs (output_profile c inputs))) few.symbols;
    }

    routine-sound : RoutineSound c.reps larger routine
    unfolding has_bad_fortran_name
    routine-sound = record {
      named = false_not (is_free_name n) f.named;
      inputs = concretes-there c inputs some_known inputs_concrete;
      outputs = outputs-stand outs c.symbols (length c.symbols) refl outs_known outs_concrete;
      some_output = some-from (length c.symbols) outs h.3;
      few_inputs = few-args c inputs few.some;
      few_outputs = subst (λ k. k ≤ output_limit) (sym (length-from (length c.symbols) outs)) few.outputs;
      few = subst (λ k. k + length routine.outputs ≤ call_limit) (sym (length-map inputs (sort_number c))) (subst (λ k. length inputs + k ≤ call_limit) (sym (length-from (length c.symbols) outs)) few.all);
    }

    -- ---- each output is one of the routine
    outputs : OutputsListed larger (c.routines ++ routine ∷ [])
    outputs k z e g = elim (get-side c.symbols profiles k z e) [
      | before q ↦ let o = s.outputs k z q g in (o.0, Contains-append_left c.routines (routine ∷ []) o.0 o.1, o.2)
      | behind j i q ↦
          (routine, Contains-push c.routines routine, contains-from outs (length c.symbols) j k i (subst (λ l. j < l) (length-map outs (output_profile c inputs)) (get-within profiles j z q)))
    ]

    is-output : (j : ℕ) (z : Profile) → slice_get profiles j ≡ Some z → z.kind ≡ kind.Output
    is-output j z q = all-at (λ (y : Profile). y.kind ≡ kind.Output) profiles j z are-outputs q

    values : ValuesListed larger c.functions
    values k z e g = elim (get-side c.symbols profiles k z e) [
      | before q ↦ s.values k z q g
      | behind j i q ↦ let o = is-output j z q in absurd cc
    ]

    constants : LiteralsListed larger c.literals
    constants k z e g = elim (get-side c.symbols profiles k z e) [
      | before q ↦ s.constants k z q g
      | behind j i q ↦ let o = is-output j z q in absurd cc
    ]

    pub sound-Routine : Sound (with_decl c (decl.Routine n inputs outs))
    unfolding with_decl clashes
    sound-Routine =
        let a = outputs-added in
        record {
          of_sorts = s.of_sorts;
          of_called = routine-called c s.of_called routine f.apart;
          of_symbols = symbols-larger c s profiles a;
          of_routines = all-push (RoutineSound c.reps larger) c.routines routine (routines-larger c s profiles a) routine-sound;
          of_functions = functions-larger c s profiles a;
          of_literals = literals-larger c s profiles a;
          one_each = one-each-larger c s profiles a;
          outputs = outputs;
          values = values;
          constants = constants;
          numbered = routine-numbered c s routine outs refl;
          of_axioms = axioms-larger c s profiles a;
          few_axioms = s.few_axioms;
        }
