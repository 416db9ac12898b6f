-- The parts of the unit of an answer are what a unit keeps.
use Rattle.std.proofs.Common.{◌≡◌, ◌∙◌, ◌⊎◌, inl, inr, ◌&&◌, ◌==◌, ◌+◌, ◌≤◌, ◌++◌, ℕ, zero, suc, Bool, true, false, refl, sym, ap, subst, arith, Option, Some, None, List, [], ◌∷◌, length, map, slice_get, is_some, nat_le, true≢false, if◌then◌else◌}
use Rattle.std.specs.List.{AllByRecursion, flat_map, list_all}
use Rattle.std.proofs.lemmas.Bool.Decides.{nat_tests}
use Rattle.std.proofs.lemmas.List.{length-map, length-append}
use Rattle.am_term.specs.declared.id.SortId.{SortId}
use Rattle.am_term.specs.declared.id.SymId.{SymId}
use Rattle.am_term.specs.declared.symbol.Symbol.{Symbol}
use Rattle.am_term.specs.declared.term.Term.{Term}
use Rattle.am_term.specs.declared.term.Term.TheViews.{out-Term}
use Rattle.am_term.specs.declared.term.Term.TheVariants.{Var, In, App}
use Rattle.am_term.specs.declared.kind.SymKind.TheVariants as kind
use Rattle.am_term.specs.Induct.{term_cases}
use Rattle.am_term.specs.Names.{is_fortran_name}
use Rattle.am_term.specs.Place.{args_of-App}
use Rattle.am_term.specs.Sorting.{sort_of, sort_of-In, fits_place}
use Rattle.am_term.proofs.Tests.{and_left, and_right, and_both}
use Rattle.am_theory.specs.declared.theory.Rep.{Rep}
use Rattle.am_theory.specs.declared.theory.Routine.{Routine}
use Rattle.am_theory.specs.declared.theory.FortranFunction.{FortranFunction}
use Rattle.am_theory.specs.declared.theory.LiteralDecl.{LiteralDecl}
use Rattle.am_theory.specs.declared.theory.Theory.{Theory}
use Rattle.am_theory.specs.Lookups.{literal_declared, rep_of, copy_of, copy_names, listed_name, known, result_sort}
use Rattle.am_theory.specs.Faults.{is_free_name}
use Rattle.am_theory.specs.Facts.{WellFormed, IsSymbol, IsRoutine, IsFunction, IsLiteral, Stands, is_in_range, is_array, is_represented, copies_when_array}
use Rattle.am_diagram.specs.declared.diagram.Diagram.{Diagram}
use Rattle.am_diagram.specs.Facts.{WellFormed as DiagramWell}
use Rattle.am_diagram.specs.Listed.{entry_names, entry_sorts}
use Rattle.am_fortran.specs.declared.statement.Decl.{Decl}
use Rattle.am_fortran.specs.declared.statement.Operand.{Operand}
use Rattle.am_fortran.specs.declared.statement.Operand.TheVariants as operand
use Rattle.am_fortran.specs.declared.statement.Statement.{Statement}
use Rattle.am_fortran.specs.declared.statement.Statement.TheVariants.{Call, Assign, Apply}
use Rattle.am_fortran.specs.Well.{is_between, is_type, is_declaration, is_operand, is_statement}
use Rattle.am_exec.specs.Types.{dummy_type}
use Rattle.am_exec.specs.Lawful.{dummies_of}
use Rattle.am_plan.specs.declared.call.Callee.{Callee}
use Rattle.am_plan.specs.declared.call.Callee.TheVariants as callee
use Rattle.am_plan.specs.Answers.{AllServe, IsAnswerFor}
use Rattle.am_plan.specs.Calls.{PlannedCall, completed, listed_option, calls, outputs_made, value_made, made_at, made_by, made}
use Rattle.am_plan.specs.Names.{Named, named_terms, locals, name_of_term}
use Rattle.am_plan.specs.Plan.{literal_or, operand_for, routine_call, first_name, function_call, statement_at, statement_of, is_array_rep, copy_name, copy_to, is_set, copies, rep_or_double, dummy_decl, head_symbol, rep_of_sort, rep_of_head, local_decl, function_at, same_function, functions_used, called_function_decl}
use Rattle.am_plan.proofs.Numbered.{named-are}
use Rattle.am_plan.proofs.Membership.{Among, among-flat, all-among}
use Rattle.am_plan.proofs.Operands.{operand-In, operand-App}
use Rattle.am_plan.proofs.Reached.{Good, Applied, applied, fit-count, not-ready, all-good, args-among, self-among, IsCallOf, call-of, RoutineAt, FunctionAt, callee-at, made-there}
use Rattle.am_plan.proofs.Kept.{all-map, all-flat-map, all-append, all-member, all-distinct, all-at, find-among, free-fortran, free-all, named-all, name-fortran, locals-all, input-fortran, value-well, dummy-typed, local-typed, array-not-scalar}

among-at : {A : Type 0} (xs : List A) (i : ℕ) (x : A) → slice_get xs i ≡ Some x → Among x xs
among-at {A = A} [] i x at = absurd cc
among-at {A = A} (y ∷ ys) zero x at = let is : y ≡ x = cc in inl (sym is)
among-at {A = A} (y ∷ ys) (suc i) x at = inr (among-at ys i x at)

-- the copy routine of a sort is one of the theory's
copy-listed : (cs : List (Option (List ℕ))) (k : ℕ) (n : List ℕ) → known (slice_get cs k) ≡ Some n → Among n (flat_map listed_name cs)
copy-listed [] k n e = absurd cc
copy-listed (None ∷ cs) zero n e = absurd cc
copy-listed (Some m ∷ cs) zero n e = let is : m ≡ n = cc in inl (sym is)
copy-listed (None ∷ cs) (suc k) n e = copy-listed cs k n e
copy-listed (Some m ∷ cs) (suc k) n e = inr (copy-listed cs k n e)

module _ (t : Theory) (h : WellFormed t) where
  -- ---- types
  rep-in-range : (o : Option Rep) (copy : Option (List ℕ)) → is_represented o copy ≡ true → is_in_range (rep_or_double o) ≡ true
  rep-in-range None copy e = refl
  rep-in-range (Some r) copy e = and_left (is_in_range r) (copies_when_array (is_array r) copy) e

  sort-in-range : (s : SortId) → is_in_range (rep_or_double (rep_of t s)) ≡ true
  sort-in-range s = rep-in-range (rep_of t s) (copy_of t s) (h.represented s)

  head-in-range : (o : Option SymId) → is_in_range (rep_of_head t o) ≡ true
  head-in-range None = refl
  head-in-range (Some f) = by_sort (result_sort t.sig f)
    where
      by_sort : (o : Option SortId) → is_in_range (rep_of_sort t o) ≡ true
      by_sort None = refl
      by_sort (Some s) = sort-in-range s

  -- ---- declarations
  dummies-declared : (es : List (List ℕ × SortId)) → list_all is_fortran_name (entry_names es) ≡ true → list_all is_declaration (map (dummy_decl t) es) ≡ true
  dummies-declared [] e = refl
  dummies-declared (x ∷ xs) e =
      and_both (is_declaration (dummy_decl t x)) (list_all is_declaration (map (dummy_decl t) xs))
      (and_both (is_type (dummy_type (rep_or_double (rep_of t x.1)))) (is_fortran_name x.0) (dummy-typed (rep_or_double (rep_of t x.1)) (sort-in-range x.1)) (and_left (is_fortran_name x.0) (list_all is_fortran_name (entry_names xs)) e))
      (dummies-declared xs (and_right (is_fortran_name x.0) (list_all is_fortran_name (entry_names xs)) e))

  local-declared : (e : Named) → is_fortran_name e.0 ≡ true → is_declaration (local_decl t e) ≡ true
  local-declared e k = and_both (is_type (local_decl t e).ty) (is_fortran_name e.0) (local-typed (rep_of_head t (head_symbol (out-Term e.1))) (head-in-range (head_symbol (out-Term e.1)))) k

  locals-declared : (es : List Named) → list_all (λ (e : Named). is_fortran_name e.0) es ≡ true → list_all is_declaration (map (local_decl t) es) ≡ true
  locals-declared es k = all-map is_declaration (local_decl t) es (λ e m. local-declared e (all-member (λ (x : Named). is_fortran_name x.0) e es k m))

  function-fortran : (k : ℕ) (f : FortranFunction) → slice_get t.functions k ≡ Some f → is_fortran_name f.name ≡ true
  function-fortran k f at = let g = all-at (IsFunction t) t.functions k f h.functions at in free-fortran f.name g.named

  functions-fortran : (cs : List PlannedCall) → list_all (λ (f : FortranFunction). is_fortran_name f.name) (functions_used t cs) ≡ true
  functions-fortran cs = all-distinct same_function (λ (f : FortranFunction). is_fortran_name f.name) (flat_map (λ (c : PlannedCall). function_at t c.callee) cs)
      (all-flat-map (λ (f : FortranFunction). is_fortran_name f.name) (λ (c : PlannedCall). function_at t c.callee) cs (λ c m. by_callee c.callee))
    where
      by_place : (k : ℕ) (o : Option FortranFunction) → slice_get t.functions k ≡ o → list_all (λ (f : FortranFunction). is_fortran_name f.name) (listed_option o) ≡ true
      by_place k None at = refl
      by_place k (Some f) at = and_both (is_fortran_name f.name) true (function-fortran k f at) refl

      by_callee : (c : Callee) → list_all (λ (f : FortranFunction). is_fortran_name f.name) (function_at t c) ≡ true
      by_callee (callee.Routine k) = refl
      by_callee (callee.Function k) = by_place k (slice_get t.functions k) refl

  function-declared : (f : FortranFunction) → is_fortran_name f.name ≡ true → is_declaration (called_function_decl t f) ≡ true
  function-declared f k = and_both (is_type (called_function_decl t f).ty) (is_fortran_name f.name) (local-typed (rep_of_head t (Some f.symbol)) (head-in-range (Some f.symbol))) k

  functions-declared : (cs : List PlannedCall) → list_all is_declaration (map (called_function_decl t) (functions_used t cs)) ≡ true
  functions-declared cs = all-map is_declaration (called_function_decl t) (functions_used t cs) (λ f m. function-declared f (all-member (λ (x : FortranFunction). is_fortran_name x.name) f (functions_used t cs) (functions-fortran cs) m))

  -- ---- copies
  copy-fortran : (s : SortId) (n : List ℕ) → copy_of t s ≡ Some n → is_fortran_name n ≡ true
  copy-fortran s n e = free-fortran n (all-among (λ (m : List ℕ). is_free_name m ≡ true) n (copy_names t) h.copies_named (copy-listed t.copies s.0 n e))

  array-copied : (s : SortId) (o : Option Rep) (copy : Option (List ℕ)) → copy_of t s ≡ copy → is_represented o copy ≡ true → is_array_rep o ≡ true → is_fortran_name (copy_name copy) ≡ true
  array-copied s None copy c e a = absurd (true≢false (sym a))
  array-copied s (Some r) None c e a =
      let array : is_array r ≡ true = sym (array-not-scalar r) ∙ a in
      absurd (true≢false (sym (sym (ap (λ (b : Bool). copies_when_array b None) array) ∙ and_right (is_in_range r) (copies_when_array (is_array r) None) e)))
  array-copied s (Some r) (Some n) c e a = copy-fortran s n c

  copy-well : (o : List ℕ × SortId) (from : Operand) → is_fortran_name o.0 ≡ true → is_operand from ≡ true → is_statement (copy_to t o from) ≡ true
  unfolding is_statement
  copy-well o from n e = by_test (is_array_rep (rep_of t o.1)) refl
    where
      routine : List ℕ
      routine = copy_name (copy_of t o.1)

      args : List Operand
      args = from ∷ operand.Name o.0 ∷ []

      args-well : list_all is_operand args ≡ true
      args-well = and_both (is_operand from) (is_fortran_name o.0 && true) e (and_both (is_fortran_name o.0) true n refl)

      by_test : (b : Bool) → is_array_rep (rep_of t o.1) ≡ b → is_statement (if is_array_rep (rep_of t o.1) then Call routine args else Assign o.0 from) ≡ true
      by_test true a =
          ap (λ (b : Bool). is_statement (if b then Call routine args else Assign o.0 from)) a
          ∙ and_both (is_fortran_name routine) (list_all is_operand args && true) (array-copied o.1 (rep_of t o.1) (copy_of t o.1) refl (h.represented o.1) a) (and_both (list_all is_operand args) true args-well refl)
      by_test false a =
          ap (λ (b : Bool). is_statement (if b then Call routine args else Assign o.0 from)) a
          ∙ and_both (is_fortran_name o.0) (is_operand from) n e

  module _ (d : Diagram) (names : List Named) where
    copies-well : (os : List (List ℕ × SortId)) (xs : List Term) → list_all is_fortran_name (entry_names os) ≡ true → ((x : Term) → Among x xs → is_operand (operand_for t d names x) ≡ true) → list_all is_statement (copies t d names os xs) ≡ true
    copies-well [] xs e k = refl
    copies-well (o ∷ os) [] e k = refl
    copies-well (o ∷ os) (x ∷ xs) e k =
        all-append is_statement (if is_set names o.0 then [] else copy_to t o (operand_for t d names x) ∷ []) (copies t d names os xs)
        (by_test (is_set names o.0))
        (copies-well os xs (and_right (is_fortran_name o.0) (list_all is_fortran_name (entry_names os)) e) (λ y m. k y (inr m)))
      where
        by_test : (b : Bool) → list_all is_statement (if b then [] else copy_to t o (operand_for t d names x) ∷ []) ≡ true
        by_test true = refl
        by_test false = and_both (is_statement (copy_to t o (operand_for t d names x))) true (copy-well o (operand_for t d names x) (and_left (is_fortran_name o.0) (list_all is_fortran_name (entry_names os)) e) (k x (inl refl))) refl

-- the terms of an answer are good
serves-good : (t : Theory) (d : Diagram) (os : List (List ℕ × SortId)) (xs : List Term) → AllServe t d os xs → AllByRecursion (Good t (entry_sorts d.inputs)) xs
serves-good t d os [] a = tt
serves-good t d [] (x ∷ xs) a = absurd a
serves-good t d (o ∷ os) (x ∷ xs) a = (record { sorted = placed (sort_of t.sig (entry_sorts d.inputs) x) a.0.sorted; ready = a.0.ready }, serves-good t d os xs a.1)
  where
    placed : (s : Option SortId) → fits_place t.sig s o.1 ≡ true → is_some s ≡ true
    placed None e = absurd (true≢false (sym e))
    placed (Some r) e = refl

between : (n : ℕ) → 1 ≤ n → n ≤ 18 → is_between 1 18 n ≡ true
between n a b = and_both (nat_le 1 n) (nat_le n 18) (grind (arith, nat_tests)) (grind (arith, nat_tests))

at-most : (n m : ℕ) → n ≤ m → nat_le n m ≡ true
at-most n m e = grind (arith, nat_tests)

module _ (t : Theory) (h : WellFormed t) (d : Diagram) (g : DiagramWell t d) (answer : List Term) (a : IsAnswerFor t d answer) where
  abbrev all : List Term
  all = flat_map completed answer

  abbrev ins : List SortId
  ins = entry_sorts d.inputs

  abbrev names : List Named
  names = named_terms t d answer

  answer-good : AllByRecursion (Good t ins) answer
  answer-good = serves-good t d d.outputs answer a

  inputs-fortran : list_all is_fortran_name (entry_names d.inputs) ≡ true
  inputs-fortran = free-all t (entry_names d.inputs) g.inputs_named

  outputs-fortran : list_all is_fortran_name (entry_names d.outputs) ≡ true
  outputs-fortran = free-all t (entry_names d.outputs) g.outputs_named

  made-fortran : (x : Term) → Among x (made t answer) → is_fortran_name (name_of_term names x) ≡ true
  made-fortran x m = subst (λ (es : List Named). is_fortran_name (name_of_term es x) ≡ true) (sym (named-are t d answer)) (name-fortran d.outputs answer outputs-fortran 1 (made t answer) x m)

  -- ---- operands
  literal-well : (f : SymId) (l : LiteralDecl) → literal_declared t f ≡ Some l → is_operand (literal_or (operand.Name []) (Some l)) ≡ true
  literal-well f l e =
      let k = all-among (IsLiteral t) l t.literals h.literals (find-among (λ (x : LiteralDecl). x.symbol.0 == f.0) t.literals l e) in
      value-well l.value (rep_of t k.stands.sort) k.suited k.valued

  operand-well : (x : Term) → Among x all → Good t ins x → is_operand (operand_for t d names x) ≡ true
  operand-well = term_cases (λ x. Among x all → Good t ins x → is_operand (operand_for t d names x) ≡ true) var_well in_well app_well
    where
      var_well : (n : ℕ) (s : SortId) → Among (Var n s) all → Good t ins (Var n s) → is_operand (operand_for t d names (Var n s)) ≡ true
      var_well n s m k = absurd (not-ready t ins n s k)

      in_well : (k : ℕ) → Among (In k) all → Good t ins (In k) → is_operand (operand_for t d names (In k)) ≡ true
      in_well k m e = ap is_operand (operand-In t d names k) ∙ input-fortran d.inputs k inputs-fortran (ap is_some (sym (sort_of-In t.sig ins k)) ∙ e.sorted)

      by_literal : (f : SymId) (args : List Term) → (o : Option LiteralDecl) → literal_declared t f ≡ o → Among (App f args) all → Good t ins (App f args) → is_operand (literal_or (operand.Name (name_of_term names (App f args))) o) ≡ true
      by_literal f args None e m k = made-fortran (App f args) (made-there t ins answer f args h m k e)
      by_literal f args (Some l) e m k = literal-well f l e

      app_well : (f : SymId) (args : List Term) → Among (App f args) all → Good t ins (App f args) → is_operand (operand_for t d names (App f args)) ≡ true
      app_well f args m k = ap is_operand (operand-App t d names f args) ∙ by_literal f args (literal_declared t f) refl m k

  answer-operand : (x : Term) → Among x answer → is_operand (operand_for t d names x) ≡ true
  answer-operand x m = operand-well x (self-among x answer m) (all-among (Good t ins) x answer answer-good m)

  -- ---- statements
  module _ (c : PlannedCall) (m : Among c (calls t answer)) where
    abbrev is_call : IsCallOf t answer c
    is_call = call-of t answer c m

    abbrev head : Term
    head = App is_call.symbol c.args

    good : Good t ins head
    good = all-good t ins answer answer-good head is_call.there

    at : Applied t ins is_call.symbol c.args
    at = applied t ins is_call.symbol c.args good

    args-well : list_all is_operand (map (operand_for t d names) c.args) ≡ true
    args-well = all-map is_operand (operand_for t d names) c.args
        (λ x n. operand-well x (args-among answer head x is_call.there (subst (λ (ys : List Term). Among x ys) (sym (args_of-App is_call.symbol c.args)) n)) (all-among (Good t ins) x c.args at.good n))

    outputs-well : list_all is_operand (map (λ (x : Term). operand.Name (name_of_term names x)) (made_by t c)) ≡ true
    outputs-well = all-map is_operand (λ (x : Term). operand.Name (name_of_term names x)) (made_by t c) (λ x n. made-fortran x (among-flat (made_by t) c x (calls t answer) m n))

    args-counted : length c.args ≡ length at.symbol.args
    args-counted = fit-count t ins c.args at.symbol.args at.fits

    routine-well : RoutineAt is_call.symbol 0 t.routines c.callee → list_all is_statement (statement_of t d names c) ≡ true
    unfolding is_statement
    routine-well r =
        let is : c.callee ≡ callee.Routine r.index = r.is ∙ ap callee.Routine (omega arith) in
        let i = all-at (IsRoutine t) t.routines r.index r.routine h.routines r.there in
        let s = all-among (λ (f : SymId). Stands t f kind.Output r.routine.inputs) is_call.symbol r.routine.outputs i.outputs r.has in
        let same : Some at.symbol ≡ Some s.symbol = sym at.there ∙ s.there in
        let one : at.symbol ≡ s.symbol = cc in
        let inputs : length c.args ≡ length r.routine.inputs = args-counted ∙ ap (λ (y : Symbol). length y.args) one ∙ ap length s.with_args in
        let made_is : made_by t c ≡ map (λ (f : SymId). App f c.args) r.routine.outputs = ap (made_at t c.args) is ∙ ap (outputs_made c.args) r.there in
        let outputs : length (made_by t c) ≡ length r.routine.outputs = ap length made_is ∙ length-map r.routine.outputs (λ (f : SymId). App f c.args) in
        let front = map (operand_for t d names) c.args in
        let back = map (λ (x : Term). operand.Name (name_of_term names x)) (made_by t c) in
        let front_length : length front ≡ length c.args = length-map c.args (operand_for t d names) in
        let back_length : length back ≡ length (made_by t c) = length-map (made_by t c) (λ (x : Term). operand.Name (name_of_term names x)) in
        let total : length (front ++ back) ≡ length front + length back = length-append front back in
        let some_output : 1 ≤ length r.routine.outputs = i.some_output in
        let few : length r.routine.inputs + length r.routine.outputs ≤ 18 = i.few in
        ap (λ (k : Callee). list_all is_statement (statement_at t d names c k)) is
        ∙ ap (λ (o : Option Routine). list_all is_statement (routine_call t d names c o)) r.there
        ∙ and_both (is_statement (Call r.routine.name (front ++ back))) true
        (and_both (is_fortran_name r.routine.name) (list_all is_operand (front ++ back) && is_between 1 18 (length (front ++ back)))
        (free-fortran r.routine.name i.named)
        (and_both (list_all is_operand (front ++ back)) (is_between 1 18 (length (front ++ back)))
        (all-append is_operand front back args-well outputs-well)
        (between (length (front ++ back)) (omega arith) (omega arith))))
        refl

    function-well : FunctionAt is_call.symbol 0 t.functions c.callee → list_all is_statement (statement_of t d names c) ≡ true
    unfolding is_statement
    function-well f =
        let is : c.callee ≡ callee.Function f.index = f.is ∙ ap callee.Function (omega arith) in
        let i = all-at (IsFunction t) t.functions f.index f.function h.functions f.there in
        let y = all-at (IsSymbol t) t.sig.symbols is_call.symbol.0 at.symbol h.symbols at.there in
        let made_is : made_by t c ≡ App f.function.symbol c.args ∷ [] = ap (made_at t c.args) is ∙ ap (value_made c.args) f.there in
        let value = App f.function.symbol c.args in
        let there : Among value (made_by t c) = subst (λ (xs : List Term). Among value xs) (sym made_is) (inl refl) in
        let target : is_fortran_name (first_name names (made_by t c)) ≡ true = ap (λ (xs : List Term). is_fortran_name (first_name names xs)) made_is ∙ made-fortran value (among-flat (made_by t) c value (calls t answer) m there) in
        let args = map (operand_for t d names) c.args in
        let args_length : length args ≡ length c.args = length-map c.args (operand_for t d names) in
        let counted : length c.args ≡ length at.symbol.args = args-counted in
        let few : length at.symbol.args ≤ 12 = y.few in
        ap (λ (k : Callee). list_all is_statement (statement_at t d names c k)) is
        ∙ ap (λ (o : Option FortranFunction). list_all is_statement (function_call t d names c o)) f.there
        ∙ and_both (is_statement (Apply (first_name names (made_by t c)) f.function.name args)) true
        (and_both (is_fortran_name (first_name names (made_by t c))) (is_fortran_name f.function.name && (list_all is_operand args && nat_le (length args) 12))
        target
        (and_both (is_fortran_name f.function.name) (list_all is_operand args && nat_le (length args) 12)
        (free-fortran f.function.name i.named)
        (and_both (list_all is_operand args) (nat_le (length args) 12) args-well (at-most (length args) 12 (omega arith)))))
        refl

    call-well : list_all is_statement (statement_of t d names c) ≡ true
    call-well = by_kind (callee-at t is_call.symbol c.callee is_call.called)
      where
        by_kind : RoutineAt is_call.symbol 0 t.routines c.callee ⊎ FunctionAt is_call.symbol 0 t.functions c.callee → list_all is_statement (statement_of t d names c) ≡ true
        by_kind (inl r) = routine-well r
        by_kind (inr f) = function-well f

  statements-well : list_all is_statement (flat_map (statement_of t d names) (calls t answer) ++ copies t d names d.outputs answer) ≡ true
  statements-well = all-append is_statement (flat_map (statement_of t d names) (calls t answer)) (copies t d names d.outputs answer)
      (all-flat-map is_statement (statement_of t d names) (calls t answer) call-well)
      (copies-well t h d names d.outputs answer outputs-fortran answer-operand)

  dummies-fortran : list_all is_fortran_name (entry_names (dummies_of d)) ≡ true
  dummies-fortran = both d.inputs inputs-fortran
    where
      both : (es : List (List ℕ × SortId)) → list_all is_fortran_name (entry_names es) ≡ true → list_all is_fortran_name (entry_names (es ++ d.outputs)) ≡ true
      both [] e = outputs-fortran
      both (x ∷ xs) e = and_both (is_fortran_name x.0) (list_all is_fortran_name (entry_names (xs ++ d.outputs))) (and_left (is_fortran_name x.0) (list_all is_fortran_name (entry_names xs)) e) (both xs (and_right (is_fortran_name x.0) (list_all is_fortran_name (entry_names xs)) e))

  names-fortran : list_all (λ (e : Named). is_fortran_name e.0) names ≡ true
  names-fortran = subst (λ (es : List Named). list_all (λ (e : Named). is_fortran_name e.0) es ≡ true) (sym (named-are t d answer)) (named-all d.outputs answer outputs-fortran 1 (made t answer))

  declarations-well : list_all is_declaration (map (dummy_decl t) (dummies_of d) ++ map (local_decl t) (locals d.outputs answer names) ++ map (called_function_decl t) (functions_used t (calls t answer))) ≡ true
  declarations-well =
      all-append is_declaration (map (dummy_decl t) (dummies_of d) ++ map (local_decl t) (locals d.outputs answer names)) (map (called_function_decl t) (functions_used t (calls t answer)))
      (all-append is_declaration (map (dummy_decl t) (dummies_of d)) (map (local_decl t) (locals d.outputs answer names))
      (dummies-declared t h (dummies_of d) dummies-fortran)
      (locals-declared t h (locals d.outputs answer names) (locals-all d.outputs answer outputs-fortran names names-fortran)))
      (functions-declared t h (calls t answer))

  dummies-counted : length (entry_names (dummies_of d)) ≡ length d.inputs + length d.outputs
  dummies-counted = length-map (dummies_of d) (λ (e : List ℕ × SortId). e.0) ∙ length-append d.inputs d.outputs

-- what a unit keeps
pub record WellMade (n : List ℕ) (ds : List (List ℕ)) (es : List Decl) (ss : List Statement) : Type 0 where
  pub named : is_fortran_name n ≡ true
  pub dummies_named : list_all is_fortran_name ds ≡ true
  pub some_dummy : 1 ≤ length ds
  pub few_dummies : length ds ≤ 18
  pub declared : list_all is_declaration es ≡ true
  pub stated : list_all is_statement ss ≡ true

-- the parts of the unit of an answer
pub plan-well : (t : Theory) (d : Diagram) (answer : List Term) (n : List ℕ) (ds : List (List ℕ)) (es : List Decl) (ss : List Statement) → WellFormed t → DiagramWell t d → IsAnswerFor t d answer
    → n ≡ d.name → ds ≡ entry_names (dummies_of d)
    → es ≡ map (dummy_decl t) (dummies_of d) ++ map (local_decl t) (locals d.outputs answer (named_terms t d answer)) ++ map (called_function_decl t) (functions_used t (calls t answer))
    → ss ≡ flat_map (statement_of t d (named_terms t d answer)) (calls t answer) ++ copies t d (named_terms t d answer) d.outputs answer
    → WellMade n ds es ss
plan-well t d answer n ds es ss h g a en eds ees ess =
    let counted : length ds ≡ length d.inputs + length d.outputs = ap length eds ∙ dummies-counted t h d g answer a in
    let some_output : 1 ≤ length d.outputs = g.some_output in
    let few : length d.inputs + length d.outputs ≤ 18 = g.few_dummies in
    record {
      named = ap is_fortran_name en ∙ g.named.fortran;
      dummies_named = ap (list_all is_fortran_name) eds ∙ dummies-fortran t h d g answer a;
      some_dummy = omega arith;
      few_dummies = omega arith;
      declared = ap (list_all is_declaration) ees ∙ declarations-well t h d g answer a;
      stated = ap (list_all is_statement) ess ∙ statements-well t h d g answer a;
    }
