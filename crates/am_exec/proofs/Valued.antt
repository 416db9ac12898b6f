-- The run by numbers beside the run by terms: each name holds the value of the term that it holds.
use Rattle.std.proofs.Common.{◌≡◌, ◌∙◌, ◌++◌, ◌+◌, ◌==◌, ℕ, suc, true, false, Bool, refl, sym, ap, subst, arith, List, [], ◌∷◌, Option, Some, None, map, length, take, drop, cond, is_some, option_map, option_and_then, slice_index, true≢false}
use Rattle.std.specs.List.{list_any, flat_map}
use Rattle.std.specs.Str.{bytes_eq}
use Rattle.std.proofs.lemmas.Bool.Decides.{nat_tests}
use Rattle.am_term.specs.declared.id.SortId.{SortId}
use Rattle.am_term.specs.declared.id.SymId.{SymId}
use Rattle.am_term.specs.declared.term.Term.{Term}
use Rattle.am_term.specs.declared.term.Term.TheVariants.{In, App}
use Rattle.am_term.specs.Sorting.{fits_place}
use Rattle.am_term.proofs.Tests.{and_left, and_right, false_not}
use Rattle.am_world.specs.Interpretation.{Interpretation, Members}
use Rattle.am_world.specs.Value.{Assignment, value, values, value-In, value-App}
use Rattle.am_theory.specs.declared.theory.Routine.{Routine}
use Rattle.am_theory.specs.declared.theory.FortranFunction.{FortranFunction}
use Rattle.am_theory.specs.declared.theory.Theory.{Theory}
use Rattle.am_theory.specs.Lookups.{routine_named, function_named, result_sort, argument_sorts}
use Rattle.am_diagram.specs.declared.diagram.Diagram.{Diagram}
use Rattle.am_diagram.specs.Listed.{entry_names, entry_sorts}
use Rattle.am_fortran.specs.declared.statement.Operand.{Operand}
use Rattle.am_fortran.specs.declared.statement.Operand.TheVariants as operand
use Rattle.am_fortran.specs.declared.statement.Statement.{Statement}
use Rattle.am_fortran.specs.declared.statement.Statement.TheVariants.{Call, Assign, Apply}
use Rattle.am_fortran.specs.declared.unit.Unit.{Unit as Subroutine}
use Rattle.am_exec.specs.Literals.{literal_written}
use Rattle.am_exec.specs.Run.{NumberStore, number_held, handed_in, constant, operand_value, with_value, operand_values, name_in, stored, outputs_stored, copied, held_by, is_copy, routine_called, function_applied, output_sort, assigned_value, executed, executed_all}
use Rattle.am_exec.specs.Lawful.{listed_target, call_targets, targets}
use Rattle.am_exec.specs.States.{Store, term_held, is_held, inputs_held_from, inputs_held, entries_held, literal_term, operand_term, listed_term, operand_terms}
use Rattle.am_exec.specs.Effects.{read_by_call, set_by_call, held_in, copied_term, literal_for, literal_term_of, assigned_term, call_terms, applied_terms, put, term_sort, call_sorts}
use Rattle.am_exec.specs.ItemFaults.{is_unknown_call, call_count, is_copied_by, is_scalar_sort, operand_fits_place, fit_operands, fits_call, fits_assign, fits_function, is_target, are_targets}
use Rattle.am_exec.specs.Terms.{terms_held, with_held_term}
use Rattle.am_exec.proofs.Held.{or_else, or_false-left, or_both, held-append, fresh}
use Rattle.am_exec.proofs.Passing.{Passes, free_targets, right_targets, AllPass, UnitPasses}

-- numbers under names in turn, as terms are put
abbrev number_entries : List (Option (List ℕ)) → List ℕ → NumberStore
number_entries [] vs = []
number_entries (n ∷ ns) [] = []
number_entries (None ∷ ns) (v ∷ vs) = number_entries ns vs
number_entries (Some n ∷ ns) (v ∷ vs) = (n, v) ∷ number_entries ns vs

numbers-append : (xs ys : NumberStore) (n : List ℕ) → number_held (xs ++ ys) n ≡ or_else (number_held xs n) (number_held ys n)
numbers-append [] ys n = refl
numbers-append (x ∷ xs) ys n = by_test (bytes_eq x.0 n) (numbers-append xs ys n)
  where
    by_test : (b : Bool) → number_held (xs ++ ys) n ≡ or_else (number_held xs n) (number_held ys n) → cond b (Some x.1) (number_held (xs ++ ys) n) ≡ or_else (cond b (Some x.1) (number_held xs n)) (number_held ys n)
    by_test true h = refl
    by_test false h = h

-- the tests of targets tell that each is a name, and that they are as many as the sorts
target-is : (t : Theory) (d : Diagram) (u : Subroutine) (n : Option (List ℕ)) (s : Option SortId) → is_target t d u n s ≡ true → (m : List ℕ) × (n ≡ Some m)
target-is t d u None s e = absurd (true≢false (sym e))
target-is t d u (Some m) s e = (m, refl)

-- names listed by one test or by two
pub names-listed : (os : List Operand) → flat_map (λ (o : Operand). listed_target (name_in o)) os ≡ flat_map listed_target (map name_in os)
names-listed [] = refl
names-listed (o ∷ os) = ap (λ r. listed_target (name_in o) ++ r) (names-listed os)

-- a sort that fits a place is that of a term that is there
pub sorted-there : (t : Theory) (sorts : List SortId) (o : Option Term) (s : SortId) → fits_place t.sig (term_sort t sorts o) s ≡ true → (x : Term) × (o ≡ Some x)
sorted-there t sorts None s e = absurd (true≢false (sym e))
sorted-there t sorts (Some x) s e = (x, refl)

pub copied-there : (t : Theory) (sorts : List SortId) (n : List ℕ) (o : Option Term) → is_copied_by t n (term_sort t sorts o) ≡ true → (x : Term) × (o ≡ Some x)
copied-there t sorts n None e = absurd (true≢false (sym e))
copied-there t sorts n (Some x) e = (x, refl)

pub scalar-there : (t : Theory) (sorts : List SortId) (o : Option Term) → is_scalar_sort t (term_sort t sorts o) ≡ true → (x : Term) × (o ≡ Some x)
scalar-there t sorts None e = absurd (true≢false (sym e))
scalar-there t sorts (Some x) e = (x, refl)

literal-there : (o : Option SymId) → is_some o ≡ true → (x : Term) × (option_map literal_term o ≡ Some x)
literal-there None e = absurd (true≢false (sym e))
literal-there (Some f) e = (literal_term f, refl)

literal-there-of : (o : Option SymId) → is_some o ≡ true → (x : Term) × (literal_term_of o ≡ Some x)
literal-there-of None e = absurd (true≢false (sym e))
literal-there-of (Some f) e = (literal_term f, refl)

-- an operand that fits its place stands for a term
pub operand-there : (t : Theory) (sorts : List SortId) (store : Store) (s : SortId) (o : Operand) → operand_fits_place t sorts store s o ≡ true → (x : Term) × (operand_term t store s o ≡ Some x)
operand-there t sorts store s (operand.Name n) e = sorted-there t sorts (term_held store n) s e
operand-there t sorts store s (operand.Int z) e = literal-there (literal_written t s (operand.Int z)) e
operand-there t sorts store s (operand.Text x) e = literal-there (literal_written t s (operand.Text x)) e

pub assigned-there : (t : Theory) (sorts : List SortId) (store : Store) (place : Option SortId) (o : Operand) → fits_assign t sorts store place o ≡ true → (x : Term) × (assigned_term t store place o ≡ Some x)
assigned-there t sorts store place (operand.Name n) e = scalar-there t sorts (term_held store n) e
assigned-there t sorts store place (operand.Int z) e = literal-there-of (literal_for t place (operand.Int z)) e
assigned-there t sorts store place (operand.Text x) e = literal-there-of (literal_for t place (operand.Text x)) e

module _ (w : Interpretation) (ins : List ℕ) (a : Assignment) where
  -- each name holds the value of the term that it holds, and nothing where it holds none
  abbrev pub Agree : Store → NumberStore → Type 0
  Agree store state = (n : List ℕ) → number_held state n ≡ option_map (value w ins a) (term_held store n)

  entries-valued : (ns : List (Option (List ℕ))) (xs : List Term) (n : List ℕ) → number_held (number_entries ns (values w ins a xs)) n ≡ option_map (value w ins a) (term_held (entries_held ns xs) n)
  entries-valued [] xs n = refl
  entries-valued (None ∷ ns) [] n = refl
  entries-valued (Some m ∷ ns) [] n = refl
  entries-valued (None ∷ ns) (x ∷ xs) n = entries-valued ns xs n
  entries-valued (Some m ∷ ns) (x ∷ xs) n = by_test (bytes_eq m n) (entries-valued ns xs n)
    where
      by_test : (b : Bool) → number_held (number_entries ns (values w ins a xs)) n ≡ option_map (value w ins a) (term_held (entries_held ns xs) n) → cond b (Some (value w ins a x)) (number_held (number_entries ns (values w ins a xs)) n) ≡ option_map (value w ins a) (cond b (Some x) (term_held (entries_held ns xs) n))
      by_test true h = refl
      by_test false h = h

  -- what is looked up in the new pairs first, or in the old ones first
  either-first : (old new : Option Term) → ((x : Term) → old ≡ Some x → new ≡ None) → or_else (option_map (value w ins a) new) (option_map (value w ins a) old) ≡ option_map (value w ins a) (or_else old new)
  either-first None None h = refl
  either-first None (Some y) h = refl
  either-first (Some x) None h = refl
  either-first (Some x) (Some y) h = let is = h x refl in absurd cc

  agree-put : (store : Store) (state : NumberStore) (ns : List (Option (List ℕ))) (xs : List Term) → Agree store state → list_any (is_held store) (flat_map listed_target ns) ≡ false → Agree (store ++ entries_held ns xs) (number_entries ns (values w ins a xs) ++ state)
  agree-put store state ns xs h e n =
      numbers-append (number_entries ns (values w ins a xs)) state n
      ∙ ap (λ o. or_else o (number_held state n)) (entries-valued ns xs n)
      ∙ ap (λ o. or_else (option_map (value w ins a) (term_held (entries_held ns xs) n)) o) (h n)
      ∙ either-first (term_held store n) (term_held (entries_held ns xs) n) (λ x is. fresh store ns xs n x e is)
      ∙ sym (ap (option_map (value w ins a)) (held-append store (entries_held ns xs) n))

  -- at the start
  starting : (ds : List (List ℕ × SortId)) (k : ℕ) (ns : List ℕ) → Members w (entry_sorts ds) ns → ((i : ℕ) → slice_index ins (k + i) ≡ slice_index ns i) → Agree (inputs_held_from k ds) (handed_in ds ns)
  starting [] k ns m h n = refl
  starting (d ∷ ds) k [] m h n = absurd m
  starting (d ∷ ds) k (v ∷ ns) m h n = by_test (bytes_eq d.0 n) (starting ds (suc k) ns m.1 (λ i. ap (slice_index ins) (moved i) ∙ h (suc i)) n)
    where
      moved : (i : ℕ) → suc k + i ≡ k + suc i
      moved i = omega arith

      by_test : (b : Bool) → number_held (handed_in ds ns) n ≡ option_map (value w ins a) (term_held (inputs_held_from (suc k) ds) n) → cond b (Some v) (number_held (handed_in ds ns) n) ≡ option_map (value w ins a) (cond b (Some (In k)) (term_held (inputs_held_from (suc k) ds) n))
      by_test true g = ap Some (sym (value-In w ins a k ∙ ap (slice_index ins) (omega arith) ∙ h 0))
      by_test false g = g

  literal-valued : (o : Option SymId) → option_map (constant w) o ≡ option_map (value w ins a) (option_map literal_term o)
  literal-valued None = refl
  literal-valued (Some f) = ap Some (sym (value-App w ins a f []))

  literal-valued-of : (o : Option SymId) → option_map (constant w) o ≡ option_map (value w ins a) (literal_term_of o)
  literal-valued-of None = refl
  literal-valued-of (Some f) = ap Some (sym (value-App w ins a f []))

  -- outputs' terms at one list of arguments
  apps-valued : (xs : List Term) (fs : List SymId) → values w ins a (map (λ (f : SymId). App f xs) fs) ≡ map (λ (f : SymId). w.fun f (values w ins a xs)) fs
  apps-valued xs [] = refl
  apps-valued xs (f ∷ fs) = ap (λ v. v ∷ values w ins a (map (λ (g : SymId). App g xs) fs)) (value-App w ins a f xs) ∙ ap (λ vs. w.fun f (values w ins a xs) ∷ vs) (apps-valued xs fs)

  module _ (t : Theory) (d : Diagram) (u : Subroutine) (sorts : List SortId) (store : Store) (state : NumberStore) (agree : Agree store state) where
    operand-valued : (s : SortId) (o : Operand) → operand_value w t state s o ≡ option_map (value w ins a) (operand_term t store s o)
    operand-valued s (operand.Name n) = agree n
    operand-valued s (operand.Int z) = literal-valued (literal_written t s (operand.Int z))
    operand-valued s (operand.Text x) = literal-valued (literal_written t s (operand.Text x))

    assigned-valued : (place : Option SortId) (o : Operand) → assigned_value w t place o state ≡ option_map (value w ins a) (assigned_term t store place o)
    assigned-valued place (operand.Name n) = agree n
    assigned-valued None (operand.Int z) = refl
    assigned-valued (Some s) (operand.Int z) = literal-valued-of (literal_written t s (operand.Int z))
    assigned-valued None (operand.Text x) = refl
    assigned-valued (Some s) (operand.Text x) = literal-valued-of (literal_written t s (operand.Text x))

    joined : (p : Option Term) (x : Term) (v : Option ℕ) (vs : Option (List ℕ)) (xs : List Term) → p ≡ Some x → v ≡ option_map (value w ins a) p → vs ≡ Some (values w ins a xs) → with_value v vs ≡ Some (values w ins a (listed_term p ++ xs))
    joined None x v vs xs e f g = absurd cc
    joined (Some y) x v vs xs e f g = ap (λ o. with_value o vs) f ∙ ap (with_value (Some (value w ins a y))) g

    operands-valued : (ss : List SortId) (os : List Operand) → fit_operands t sorts store ss os ≡ true → operand_values w t state ss os ≡ Some (values w ins a (operand_terms t store ss os))
    operands-valued [] [] e = refl
    operands-valued [] (o ∷ os) e = absurd (true≢false (sym e))
    operands-valued (s ∷ ss) [] e = absurd (true≢false (sym e))
    operands-valued (s ∷ ss) (o ∷ os) e =
        let x = operand-there t sorts store s o (and_left (operand_fits_place t sorts store s o) (fit_operands t sorts store ss os) e) in
        joined (operand_term t store s o) x.0 (operand_value w t state s o) (operand_values w t state ss os) (operand_terms t store ss os) x.1 (operand-valued s o) (operands-valued ss os (and_right (operand_fits_place t sorts store s o) (fit_operands t sorts store ss os) e))

    put-one : (p : Option (List ℕ)) (m : List ℕ) (v : ℕ) (rest : Option NumberStore) (ns : List (Option (List ℕ))) (vs : List ℕ) → p ≡ Some m → rest ≡ Some (number_entries ns vs ++ state) → stored p v rest ≡ Some (number_entries (p ∷ ns) (v ∷ vs) ++ state)
    put-one None m v rest ns vs e f = absurd cc
    put-one (Some n) m v rest ns vs e f = ap (stored (Some n) v) f

    outputs-stored : (vs : List ℕ) (fs : List SymId) (os : List Operand) → are_targets t d u (map name_in os) (map (result_sort t.sig) fs) ≡ true → outputs_stored w fs vs os state ≡ Some (number_entries (map name_in os) (map (λ (f : SymId). w.fun f vs) fs) ++ state)
    outputs-stored vs [] [] e = refl
    outputs-stored vs [] (o ∷ os) e = absurd (true≢false (sym e))
    outputs-stored vs (f ∷ fs) [] e = absurd (true≢false (sym e))
    outputs-stored vs (f ∷ fs) (o ∷ os) e =
        let here = and_left (is_target t d u (name_in o) (result_sort t.sig f)) (are_targets t d u (map name_in os) (map (result_sort t.sig) fs)) e in
        let behind = and_right (is_target t d u (name_in o) (result_sort t.sig f)) (are_targets t d u (map name_in os) (map (result_sort t.sig) fs)) e in
        let m = target-is t d u (name_in o) (result_sort t.sig f) here in
        put-one (name_in o) m.0 (w.fun f vs) (outputs_stored w fs vs os state) (map name_in os) (map (λ (g : SymId). w.fun g vs) fs) m.1 (outputs-stored vs fs os behind)

    -- a name and nothing else gets a term
    agree-one : (n : List ℕ) (x : Term) (v : ℕ) → v ≡ value w ins a x → is_held store n ≡ false → Agree (store ++ entries_held (Some n ∷ []) (x ∷ [])) ((n, v) ∷ state)
    agree-one n x v e h = subst (λ (z : ℕ). Agree (store ++ entries_held (Some n ∷ []) (x ∷ [])) ((n, z) ∷ state)) (sym e) (agree-put store state (Some n ∷ []) (x ∷ []) agree (or_both (is_held store n) false h refl))

    -- what a call makes of both
    record CallRan (n : List ℕ) (o : Option Routine) (args : List Operand) : Type 0 where
      new : NumberStore
      runs : routine_called w t n o args state ≡ Some new
      agrees : Agree (store ++ entries_held (map name_in (set_by_call o args)) (call_terms t store o args)) new

    routine-ran : (n : List ℕ) (r : Routine) (args : List Operand) → fit_operands t sorts store r.inputs (take (length r.inputs) args) ≡ true → list_any (is_held store) (call_targets (Some r) args) ≡ false → are_targets t d u (map name_in (drop (length r.inputs) args)) (map (result_sort t.sig) r.outputs) ≡ true → CallRan n (Some r) args
    routine-ran n r args fit free targets =
        let inputs = take (length r.inputs) args in
        let outputs = drop (length r.inputs) args in
        let xs = operand_terms t store r.inputs inputs in
        record {
          new = number_entries (map name_in outputs) (map (λ (f : SymId). w.fun f (values w ins a xs)) r.outputs) ++ state;
          runs = ap (option_and_then (λ vs. outputs_stored w r.outputs vs outputs state)) (operands-valued r.inputs inputs fit) ∙ outputs-stored (values w ins a xs) r.outputs outputs targets;
          agrees = subst (λ (vs : List ℕ). Agree (store ++ entries_held (map name_in outputs) (map (λ (f : SymId). App f xs) r.outputs)) (number_entries (map name_in outputs) vs ++ state)) (apps-valued xs r.outputs)
              (agree-put store state (map name_in outputs) (map (λ (f : SymId). App f xs) r.outputs) agree (sym (ap (list_any (is_held store)) (names-listed outputs)) ∙ free));
        }

    copied-value : (p : Option (List ℕ)) (x : Term) → held_in store p ≡ Some x → held_by state p ≡ Some (value w ins a x)
    copied-value None x e = absurd cc
    copied-value (Some m) x e = agree m ∙ ap (option_map (value w ins a)) e

    copy-two : (n : List ℕ) (p q : Operand) → is_copy t n ≡ true → is_copied_by t n (term_sort t sorts (held_in store (name_in p))) ≡ true → list_any (is_held store) (call_targets None (p ∷ q ∷ [])) ≡ false → is_target t d u (name_in q) (term_sort t sorts (held_in store (name_in p))) ≡ true → CallRan n None (p ∷ q ∷ [])
    copy-two n p q copies fit free target =
        let x = copied-there t sorts n (held_in store (name_in p)) fit in
        let m = target-is t d u (name_in q) (term_sort t sorts (held_in store (name_in p))) target in
        record {
          new = (m.0, value w ins a x.0) ∷ state;
          runs = ap (λ b. cond b (copied (held_by state (name_in p)) (name_in q) state) None) copies
              ∙ ap (λ o. copied o (name_in q) state) (copied-value (name_in p) x.0 x.1)
              ∙ ap (λ o. copied (Some (value w ins a x.0)) o state) m.1;
          agrees = subst (λ (o : Option Term). Agree (store ++ entries_held (name_in q ∷ []) (listed_term o)) ((m.0, value w ins a x.0) ∷ state)) (sym x.1)
              (subst (λ (o : Option (List ℕ)). Agree (store ++ entries_held (o ∷ []) (x.0 ∷ [])) ((m.0, value w ins a x.0) ∷ state)) (sym m.1)
              (agree-one m.0 x.0 (value w ins a x.0) refl (or_false-left (is_held store m.0) false (sym (ap (λ (o : Option (List ℕ)). list_any (is_held store) (listed_target o ++ [])) m.1) ∙ free))));
        }

    copy-ran : (n : List ℕ) (args : List Operand) → is_copy t n ≡ true → (length args == 2) ≡ true → is_copied_by t n (term_sort t sorts (copied_term store (take 1 args))) ≡ true → list_any (is_held store) (call_targets None args) ≡ false → are_targets t d u (map name_in (drop 1 args)) (term_sort t sorts (copied_term store args) ∷ []) ≡ true → CallRan n None args
    copy-ran n [] copies count fit free target = absurd (true≢false (sym count))
    copy-ran n (p ∷ []) copies count fit free target = absurd (true≢false (sym count))
    copy-ran n (p ∷ q ∷ []) copies count fit free target = copy-two n p q copies fit free (and_left (is_target t d u (name_in q) (term_sort t sorts (held_in store (name_in p)))) true target)
    copy-ran n (p ∷ q ∷ r ∷ rs) copies count fit free target = absurd (too_many (length rs) count)
      where
        too_many : (k : ℕ) → (suc (suc (suc k)) == 2) ≡ true → ⊥
        too_many k e = grind (arith, nat_tests)

    call-ran : (n : List ℕ) (o : Option Routine) (args : List Operand) → is_unknown_call t n o ≡ false → (length args == call_count o) ≡ true → fits_call t sorts store n o (read_by_call o args) ≡ true → list_any (is_held store) (call_targets o args) ≡ false → are_targets t d u (map name_in (set_by_call o args)) (call_sorts t sorts store o args) ≡ true → CallRan n o args
    call-ran n (Some r) args known count fit free targets = routine-ran n r args fit free targets
    call-ran n None args known count fit free targets = copy-ran n args (false_not (is_copy t n) known) count fit free targets

    record ApplyRan (target : List ℕ) (o : Option FortranFunction) (args : List Operand) : Type 0 where
      new : NumberStore
      runs : function_applied w t target o args state ≡ Some new
      agrees : Agree (store ++ entries_held (Some target ∷ []) (applied_terms t store o args)) new

    apply-ran : (target : List ℕ) (o : Option FortranFunction) (args : List Operand) → fits_function t sorts store o args ≡ true → is_held store target ≡ false → ApplyRan target o args
    apply-ran target None args fit free = absurd (true≢false (sym fit))
    apply-ran target (Some f) args fit free =
        let xs = operand_terms t store (argument_sorts t.sig f.symbol) args in
        record {
          new = (target, w.fun f.symbol (values w ins a xs)) ∷ state;
          runs = ap (option_map (λ vs. (target, w.fun f.symbol vs) ∷ state)) (operands-valued (argument_sorts t.sig f.symbol) args fit);
          agrees = agree-one target (App f.symbol xs) (w.fun f.symbol (values w ins a xs)) (sym (value-App w ins a f.symbol xs)) free;
        }

    -- a statement that passes is run, and the stores still agree
    record Ran (s : Statement) : Type 0 where
      new : NumberStore
      runs : executed w t d s state ≡ Some new
      agrees : Agree (put t d store s) new

    ran : (s : Statement) → Passes t d u sorts store s → Ran s
    ran (Call n args) p =
        let c = call-ran n (routine_named t n) args p.known (false_not (length args == call_count (routine_named t n)) p.counted) (false_not (fits_call t sorts store n (routine_named t n) (read_by_call (routine_named t n) args)) p.sorted) (free_targets t d u sorts store (Call n args) p) (right_targets t d u sorts store (Call n args) p) in
        record { new = c.new; runs = c.runs; agrees = c.agrees }
    ran (Assign target from) p =
        let x = assigned-there t sorts store (output_sort d target) from (false_not (fits_assign t sorts store (output_sort d target) from) p.sorted) in
        record {
          new = (target, value w ins a x.0) ∷ state;
          runs = ap (option_map (λ v. (target, v) ∷ state)) (assigned-valued (output_sort d target) from ∙ ap (option_map (value w ins a)) x.1);
          agrees = subst (λ (o : Option Term). Agree (store ++ entries_held (Some target ∷ []) (listed_term o)) ((target, value w ins a x.0) ∷ state)) (sym x.1)
              (agree-one target x.0 (value w ins a x.0) refl (or_false-left (is_held store target) false (free_targets t d u sorts store (Assign target from) p)));
        }
    ran (Apply target n args) p =
        let c = apply-ran target (function_named t n) args (false_not (fits_function t sorts store (function_named t n) args) p.sorted) (or_false-left (is_held store target) false (free_targets t d u sorts store (Apply target n args) p)) in
        record { new = c.new; runs = c.runs; agrees = c.agrees }

  -- what the outputs hold
  outputs-valued : (store : Store) (state : NumberStore) → Agree store state → (ns : List (List ℕ)) (ts : List Term) → terms_held store ns ≡ Some ts → map (number_held state) ns ≡ map Some (values w ins a ts)
  outputs-valued store state agree [] ts e = let is : [] ≡ ts = cc in ap (λ (xs : List Term). map Some (values w ins a xs)) is
  outputs-valued store state agree (n ∷ ns) ts e = by_terms (λ xs g. outputs-valued store state agree ns xs g) (term_held store n) (terms_held store ns) refl refl e
    where
      by_terms : ((xs : List Term) → terms_held store ns ≡ Some xs → map (number_held state) ns ≡ map Some (values w ins a xs)) → (o : Option Term) (os : Option (List Term)) → term_held store n ≡ o → terms_held store ns ≡ os → with_held_term o os ≡ Some ts → map (number_held state) (n ∷ ns) ≡ map Some (values w ins a ts)
      by_terms rest None os h g e = absurd cc
      by_terms rest (Some x) None h g e = absurd cc
      by_terms rest (Some x) (Some xs) h g e =
          let is : x ∷ xs ≡ ts = cc in
          ap (λ o. o ∷ map (number_held state) ns) (agree n ∙ ap (option_map (value w ins a)) h)
          ∙ ap (λ os. Some (value w ins a x) ∷ os) (rest xs g)
          ∙ ap (λ (ys : List Term). map Some (values w ins a ys)) is

  module _ (t : Theory) (d : Diagram) (u : Subroutine) where
    -- the run of statements that pass, and what the outputs hold behind it
    pub record AllRan (ss : List Statement) (state : NumberStore) (ts : List Term) : Type 0 where
      pub end : NumberStore
      pub runs : executed_all w t d ss state ≡ Some end
      pub hold : map (number_held end) (entry_names d.outputs) ≡ map Some (values w ins a ts)

    pub all-ran : (store : Store) (state : NumberStore) (ss : List Statement) (ts : List Term) → Agree store state → AllPass t d u store ss ts → AllRan ss state ts
    all-ran store state [] ts agree p = record { end = state; runs = refl; hold = outputs-valued store state agree (entry_names d.outputs) ts p.1 }
    all-ran store state (s ∷ ss) ts agree p =
        let r = ran t d u (entry_sorts d.inputs) store state agree s p.0 in
        let rest = all-ran (put t d store s) r.new ss ts r.agrees p.1 in
        record { end = rest.end; runs = ap (option_and_then (executed_all w t d ss)) r.runs ∙ rest.runs; hold = rest.hold }

    pub unit-ran : (ts : List Term) → Members w (entry_sorts d.inputs) ins → UnitPasses t d u ts → AllRan u.statements (handed_in d.inputs ins) ts
    unit-ran ts members p = all-ran (inputs_held d.inputs) (handed_in d.inputs ins) u.statements ts (starting d.inputs 0 ins members (λ i. ap (slice_index ins) (omega arith))) p.statements
