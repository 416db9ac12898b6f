-- A unit whose run by terms has no fault keeps the unit rules.
use Rattle.std.proofs.Common.{◌≡◌, ◌∙◌, ◌⊎◌, inl, inr, ◌&&◌, ◌+◌, ◌==◌, ℕ, true, false, Bool, not, refl, sym, ap, subst, arith, List, [], ◌∷◌, Option, Some, None, map, length, take, drop, cond, is_some, is_none, true≢false, IsTrue, Contains}
use Rattle.std.proofs.lemmas.Bool.Decides.{nat_tests}
use Rattle.std.specs.List.{AllByRecursion}
use Rattle.std.specs.Str.{bytes_eq}
use Rattle.am_term.specs.declared.id.SortId.{SortId}
use Rattle.am_term.specs.declared.id.SymId.{SymId}
use Rattle.am_term.specs.declared.term.Term.{Term}
use Rattle.am_term.specs.NameLists.{is_among}
use Rattle.am_term.specs.Sorts.{fits}
use Rattle.am_term.specs.Sorting.{fits_place, sort_of, sorts_of}
use Rattle.am_term.proofs.Tests.{and_left, and_right, or_cases, false_not}
use Rattle.am_theory.specs.declared.theory.Rep.{Rep}
use Rattle.am_theory.specs.declared.theory.Rep.TheVariants as rep
use Rattle.am_theory.specs.declared.theory.Routine.{Routine}
use Rattle.am_theory.specs.declared.theory.FortranFunction.{FortranFunction}
use Rattle.am_theory.specs.declared.theory.Theory.{Theory}
use Rattle.am_theory.specs.Lookups.{rep_of, copy_of, result_of, result_sort, argument_sorts, routine_named, function_named}
use Rattle.am_theory.specs.Facts.{WellFormed, is_array, is_in_range, copies_when_array, is_represented}
use Rattle.am_diagram.specs.declared.diagram.Diagram.{Diagram}
use Rattle.am_diagram.specs.Listed.{entry_names, entry_sorts}
use Rattle.am_fortran.specs.declared.statement.Decl.{Decl}
use Rattle.am_fortran.specs.declared.statement.Operand.{Operand}
use Rattle.am_fortran.specs.declared.statement.Operand.TheVariants as operand
use Rattle.am_fortran.specs.declared.statement.Statement.{Statement}
use Rattle.am_fortran.specs.declared.statement.Statement.TheVariants.{Call, Assign, Apply}
use Rattle.am_fortran.specs.declared.unit.Unit.{Unit as Subroutine}
use Rattle.am_exec.specs.Literals.{literal_written}
use Rattle.am_exec.specs.Run.{name_in, output_sort}
use Rattle.am_exec.specs.Types.{is_scalar, type_of_name}
use Rattle.am_exec.specs.Lawful.{further, HasTypeOf, IsLocal, IsDeclaredFunction, IsOperandAt, AreOperandsAt, IsTarget, IsNamedTarget, AreTargets, IsCopyCall, IsCallOf, IsLiteralAssign, IsAssign, IsApply, IsLawfulStatement}
use Rattle.am_exec.specs.States.{Store, term_held, entries_held}
use Rattle.am_exec.specs.Effects.{read_by_call, set_by_call, held_in, copied_term, literal_for, put_terms, put, term_sort, literal_sort, assigned_sort, call_sorts, applied_sort, put_sorts, target_names}
use Rattle.am_exec.specs.ItemFaults.{call_count, operand_fits_place, fit_operands, fits_call, fits_assign, fits_function, is_name_of, is_copied_by, is_scalar_rep, is_scalar_sort, have_one_type, declared_names, declared_type, may_be_set, is_target, are_targets}
use Rattle.am_exec.proofs.Held.{eq_is, or_else, held-append}
use Rattle.am_exec.proofs.Listed.{all-at, among-names}
use Rattle.am_exec.proofs.Passing.{Passes, right_targets, applied_declared, AllPass}
use Rattle.am_exec.proofs.Typing.{has-type-moves, some-is, declared-there, fits-alike, literally, put-sorted}
use Rattle.am_exec.proofs.Valued.{sorted-there, copied-there, scalar-there}

scalar-array : (r : Rep) → is_array r ≡ true → is_scalar r ≡ false
scalar-array rep.Double e = absurd (true≢false (sym e))
scalar-array rep.Integer e = absurd (true≢false (sym e))
scalar-array rep.Logical e = absurd (true≢false (sym e))
scalar-array (rep.Char n) e = absurd (true≢false (sym e))
scalar-array (rep.DoubleVec m) e = refl
scalar-array (rep.DoubleMat m n) e = refl
scalar-array (rep.IntegerVec m) e = refl

-- a sort with a copy routine is an array
record Array (o : Option Rep) : Type 0 where
  rep : Rep
  there : o ≡ Some rep
  array : is_scalar rep ≡ false

copied-array : (o : Option Rep) (c : Option (List ℕ)) (n : List ℕ) → is_represented o c ≡ true → c ≡ Some n → Array o
copied-array None (Some m) n e is = absurd (true≢false (sym e))
copied-array None None n e is = absurd cc
copied-array (Some r) None n e is = absurd cc
copied-array (Some r) (Some m) n e is = record { rep = r; there = refl; array = scalar-array r (when (is_array r) refl (and_right (is_in_range r) (copies_when_array (is_array r) (Some m)) e)) }
  where
    when : (b : Bool) → is_array r ≡ b → copies_when_array b (Some m) ≡ true → is_array r ≡ true
    when true is e = is
    when false is e = absurd (true≢false (sym e))

name-is : (n : List ℕ) (o : Option (List ℕ)) → is_name_of n o ≡ true → o ≡ Some n
name-is n None e = absurd (true≢false (sym e))
name-is n (Some m) e = ap Some (eq_is m n e)

module _ (t : Theory) (d : Diagram) (u : Subroutine) (h : WellFormed t) where
  abbrev ins : List SortId
  ins = entry_sorts d.inputs

  -- a term that a name holds: it has a sort, and the name has the type of that sort
  pub record TypedTerm (n : List ℕ) (x : Term) : Type 0 where
    pub sort : SortId
    pub sorted : sort_of t.sig ins x ≡ Some sort
    pub typed : HasTypeOf t u n sort

  abbrev pub Typed : Store → Type 0
  Typed store = (n : List ℕ) (x : Term) → term_held store n ≡ Some x → TypedTerm n x

  -- the locals and functions behind the dummies
  abbrev pub Behind : Type 0
  Behind = AllByRecursion (λ (e : Decl). IsLocal t u e ⊎ IsDeclaredFunction t e) (further u)

  module _ (behind : Behind) where
    local-there : (n : List ℕ) → is_among n (declared_names (further u)) ≡ true → is_none (function_named t n) ≡ true → (e : Decl) × Contains (further u) e × (e.name ≡ n) × IsLocal t u e
    local-there n e f =
        let c = among-names (λ (x : Decl). x.name) n (further u) e in
        by_cases c.0 c.1 c.2 (all-at (λ (x : Decl). IsLocal t u x ⊎ IsDeclaredFunction t x) (further u) c.0 behind c.1)
      where
        some-none : (o : Option FortranFunction) (g : FortranFunction) → o ≡ Some g → is_none o ≡ true → ⊥
        some-none None g is f = absurd cc
        some-none (Some k) g is f = absurd (true≢false (sym f))

        by_cases : (x : Decl) → Contains (further u) x → x.name ≡ n → IsLocal t u x ⊎ IsDeclaredFunction t x → (e : Decl) × Contains (further u) e × (e.name ≡ n) × IsLocal t u e
        by_cases x c is (inl l) = (x, c, is, l)
        by_cases x c is (inr g) = absurd (some-none (function_named t n) g.function (sym (ap (function_named t) is) ∙ g.listed) f)

    target-lawful : (n : List ℕ) (s : SortId) → is_target t d u (Some n) (Some s) ≡ true → IsTarget t d u n s
    target-lawful n s e =
        let free = may_be_set t d u n in
        let one = have_one_type (declared_type u n) (type_of_name t u.dummies n s) in
        let there = declared-there u n (type_of_name t u.dummies n s) (and_right free one e) in
        record {
          settable = by_cases (or_cases (is_among n (entry_names d.outputs)) (is_among n (declared_names (further u)) && is_none (function_named t n)) (and_left free one e));
          typed = record { decl = there.0; there = there.1; named = there.2; typed = there.3 };
        }
      where
        by_cases : (is_among n (entry_names d.outputs) ≡ true) ⊎ ((is_among n (declared_names (further u)) && is_none (function_named t n)) ≡ true) → IsTrue (is_among n (entry_names d.outputs)) ⊎ ((e : Decl) × Contains (further u) e × (e.name ≡ n) × IsLocal t u e)
        by_cases (inl o) = inl o
        by_cases (inr b) = inr (local-there n (and_left (is_among n (declared_names (further u))) (is_none (function_named t n)) b) (and_right (is_among n (declared_names (further u))) (is_none (function_named t n)) b))

    named-target : (p : Option (List ℕ)) (s : Option SortId) → is_target t d u p s ≡ true → IsNamedTarget t d u p s
    named-target None s e = absurd (true≢false (sym e))
    named-target (Some n) None e = absurd (true≢false (sym e))
    named-target (Some n) (Some s) e = target-lawful n s e

    -- a target that is tested for a sort that is there
    target-at : (n : List ℕ) (o : Option SortId) (s : SortId) → o ≡ Some s → is_target t d u (Some n) o ≡ true → IsTarget t d u n s
    target-at n o s is e = target-lawful n s (sym (ap (is_target t d u (Some n)) is) ∙ e)

    target-moves : (n : List ℕ) (s p : SortId) → rep_of t s ≡ rep_of t p → IsTarget t d u n s → IsTarget t d u n p
    target-moves n s p e g = record { settable = g.settable; typed = has-type-moves t u n s p e g.typed }

    targets-lawful : (fs : List SymId) (os : List Operand) → are_targets t d u (map name_in os) (map (result_sort t.sig) fs) ≡ true → AreTargets t d u fs os
    targets-lawful [] [] e = tt
    targets-lawful [] (o ∷ os) e = absurd (true≢false (sym e))
    targets-lawful (f ∷ fs) [] e = absurd (true≢false (sym e))
    targets-lawful (f ∷ fs) (o ∷ os) e =
        let one = is_target t d u (name_in o) (result_sort t.sig f) in
        let rest = are_targets t d u (map name_in os) (map (result_sort t.sig) fs) in
        (named-target (name_in o) (result_sort t.sig f) (and_left one rest e), targets-lawful fs os (and_right one rest e))

    -- what targets get is typed
    entry-typed : (ns : List (Option (List ℕ))) (ss : List (Option SortId)) (xs : List Term) → are_targets t d u ns ss ≡ true → sorts_of t.sig ins xs ≡ ss → Typed (entries_held ns xs)
    entry-typed [] ss xs e g n x is = absurd cc
    entry-typed (m ∷ ns) [] xs e g n x is = absurd (true≢false (sym e))
    entry-typed (None ∷ ns) (s ∷ ss) xs e g n x is = absurd (true≢false (sym e))
    entry-typed (Some m ∷ ns) (s ∷ ss) [] e g n x is = absurd cc
    entry-typed (Some m ∷ ns) (s ∷ ss) (y ∷ xs) e g n x is =
        let sort : sort_of t.sig ins y ≡ s = cc in
        let rest : sorts_of t.sig ins xs ≡ ss = cc in
        let one = is_target t d u (Some m) s in
        let others = are_targets t d u ns ss in
        by_test (λ j. entry-typed ns ss xs (and_right one others e) rest n x j) (bytes_eq m n) refl s sort (and_left one others e) is
      where
        by_test : (term_held (entries_held ns xs) n ≡ Some x → TypedTerm n x) → (b : Bool) → bytes_eq m n ≡ b → (s : Option SortId) → sort_of t.sig ins y ≡ s → is_target t d u (Some m) s ≡ true → cond b (Some y) (term_held (entries_held ns xs) n) ≡ Some x → TypedTerm n x
        by_test rest true eq None sort e is = absurd (true≢false (sym e))
        by_test rest true eq (Some s) sort e is =
            let same : y ≡ x = cc in
            record {
              sort = s;
              sorted = subst (λ (z : Term). sort_of t.sig ins z ≡ Some s) same sort;
              typed = subst (λ (k : List ℕ). HasTypeOf t u k s) (eq_is m n eq) (target-lawful m s e).typed;
            }
        by_test rest false eq s sort e is = rest is

    put-typed : (store : Store) (s : Statement) → Typed store → Passes t d u ins store s → Typed (put t d store s)
    put-typed store s g p n x is =
        by_term (term_held store n) refl (sym (held-append store (entries_held (target_names t s) (put_terms t d store s)) n) ∙ is)
      where
        by_term : (o : Option Term) → term_held store n ≡ o → or_else o (term_held (entries_held (target_names t s) (put_terms t d store s)) n) ≡ Some x → TypedTerm n x
        by_term (Some y) at is = g n x (at ∙ is)
        by_term None at is = entry-typed (target_names t s) (put_sorts t d ins store s) (put_terms t d store s) (right_targets t d u ins store s p) (put-sorted t h ins d u store s p) n x is

    -- an operand that fits its place is a literal there or a name with the type of the place's sort
    operand-lawful : (store : Store) (g : Typed store) (s : SortId) (o : Operand) → operand_fits_place t ins store s o ≡ true → IsOperandAt t u s o
    operand-lawful store g s (operand.Name n) e =
        let x = sorted-there t ins (term_held store n) s e in
        let y = g n x.0 x.1 in
        let fit : fits t.sig y.sort s ≡ true = sym (ap (λ (o : Option Term). fits_place t.sig (term_sort t ins o) s) x.1 ∙ ap (λ (o : Option SortId). fits_place t.sig o s) y.sorted) ∙ e in
        has-type-moves t u n y.sort s (fits-alike t h y.sort s fit) y.typed
    operand-lawful store g s (operand.Int z) e = some-is (literal_written t s (operand.Int z)) e
    operand-lawful store g s (operand.Text x) e = some-is (literal_written t s (operand.Text x)) e

    operands-lawful : (store : Store) (g : Typed store) (ss : List SortId) (os : List Operand) → fit_operands t ins store ss os ≡ true → AreOperandsAt t u ss os
    operands-lawful store g [] [] e = tt
    operands-lawful store g [] (o ∷ os) e = absurd (true≢false (sym e))
    operands-lawful store g (s ∷ ss) [] e = absurd (true≢false (sym e))
    operands-lawful store g (s ∷ ss) (o ∷ os) e =
        let one = operand_fits_place t ins store s o in
        let rest = fit_operands t ins store ss os in
        (operand-lawful store g s o (and_left one rest e), operands-lawful store g ss os (and_right one rest e))

    same_count : (m n : ℕ) → not (m == n) ≡ false → m ≡ n
    same_count m n e = let is = false_not (m == n) e in grind (arith, nat_tests)

    copy-lawful : (store : Store) (g : Typed store) (n : List ℕ) (p q : Operand) → is_copied_by t n (term_sort t ins (held_in store (name_in p))) ≡ true → is_target t d u (name_in q) (term_sort t ins (held_in store (name_in p))) ≡ true → IsCopyCall t d u n (p ∷ q ∷ [])
    copy-lawful store g n (operand.Int z) q e f = absurd (true≢false (sym e))
    copy-lawful store g n (operand.Text z) q e f = absurd (true≢false (sym e))
    copy-lawful store g n (operand.Name m) (operand.Int z) e f = absurd (true≢false (sym f))
    copy-lawful store g n (operand.Name m) (operand.Text z) e f = absurd (true≢false (sym f))
    copy-lawful store g n (operand.Name m) (operand.Name k) e f =
        let x = copied-there t ins n (term_held store m) e in
        let y = g m x.0 x.1 in
        let sorted : term_sort t ins (term_held store m) ≡ Some y.sort = ap (term_sort t ins) x.1 ∙ y.sorted in
        let copies : copy_of t y.sort ≡ Some n = name-is n (copy_of t y.sort) (sym (ap (is_copied_by t n) sorted) ∙ e) in
        let array = copied-array (rep_of t y.sort) (copy_of t y.sort) n (h.represented y.sort) copies in
        record {
          from = m;
          target = k;
          two = refl;
          sort = y.sort;
          copies = copies;
          rep = array.rep;
          represented = array.there;
          array = array.array;
          typed = y.typed;
          settable = target-at k (term_sort t ins (term_held store m)) y.sort sorted f;
        }

    copies-lawful : (store : Store) (g : Typed store) (n : List ℕ) (args : List Operand) → length args ≡ 2 → is_copied_by t n (term_sort t ins (copied_term store (take 1 args))) ≡ true → are_targets t d u (map name_in (drop 1 args)) (term_sort t ins (copied_term store args) ∷ []) ≡ true → IsCopyCall t d u n args
    copies-lawful store g n [] c e f = absurd cc
    copies-lawful store g n (p ∷ []) c e f = absurd (omega arith)
    copies-lawful store g n (p ∷ q ∷ []) c e f = copy-lawful store g n p q e (and_left (is_target t d u (name_in q) (term_sort t ins (held_in store (name_in p)))) true f)
    copies-lawful store g n (p ∷ q ∷ r ∷ rs) c e f = absurd (omega arith)

    call-lawful : (store : Store) (g : Typed store) (n : List ℕ) (o : Option Routine) (args : List Operand) → not (length args == call_count o) ≡ false → fits_call t ins store n o (read_by_call o args) ≡ true → are_targets t d u (map name_in (set_by_call o args)) (call_sorts t ins store o args) ≡ true → IsCallOf t d u n o args
    call-lawful store g n (Some r) args c e f = record {
      counted = same_count (length args) (length r.inputs + length r.outputs) c;
      inputs = operands-lawful store g r.inputs (take (length r.inputs) args) e;
      outputs = targets-lawful r.outputs (drop (length r.inputs) args) f;
    }
    call-lawful store g n None args c e f = copies-lawful store g n args (same_count (length args) 2 c) e f

    record Scalar (o : Option Rep) : Type 0 where
      rep : Rep
      there : o ≡ Some rep
      scalar : is_scalar rep ≡ true

    scalar-is : (o : Option Rep) → is_scalar_rep o ≡ true → Scalar o
    scalar-is None e = absurd (true≢false (sym e))
    scalar-is (Some r) e = record { rep = r; there = refl; scalar = e }

    literal-lawful : (store : Store) (target : List ℕ) (o : Operand) (place : Option SortId) → output_sort d target ≡ place → is_some (literal_for t place o) ≡ true → is_target t d u (Some target) (literal_sort t (literal_for t place o)) ≡ true → IsLiteralAssign t d u target o
    literal-lawful store target o None is e f = absurd (true≢false (sym e))
    literal-lawful store target o (Some s) is e f =
        let l = some-is (literal_written t s o) e in
        let c = literally t h s o l.0 l.1 in
        let given : result_sort t.sig l.0 ≡ Some c.sort = ap result_of c.there ∙ c.given in
        let sorted : literal_sort t (literal_written t s o) ≡ Some c.sort = ap (literal_sort t) l.1 ∙ given in
        record {
          sort = s;
          output = is;
          literal = l.0;
          stands = l.1;
          settable = target-moves target c.sort s (fits-alike t h c.sort s c.fitting) (target-at target (literal_sort t (literal_written t s o)) c.sort sorted f);
        }

    assign-lawful : (store : Store) (g : Typed store) (target : List ℕ) (from : Operand) → fits_assign t ins store (output_sort d target) from ≡ true → is_target t d u (Some target) (assigned_sort t ins store (output_sort d target) from) ≡ true → IsAssign t d u target from
    assign-lawful store g target (operand.Name n) e f =
        let x = scalar-there t ins (term_held store n) e in
        let y = g n x.0 x.1 in
        let sorted : term_sort t ins (term_held store n) ≡ Some y.sort = ap (term_sort t ins) x.1 ∙ y.sorted in
        let r = scalar-is (rep_of t y.sort) (sym (ap (is_scalar_sort t) sorted) ∙ e) in
        record { sort = y.sort; rep = r.rep; represented = r.there; scalar = r.scalar; typed = y.typed; settable = target-at target (term_sort t ins (term_held store n)) y.sort sorted f }
    assign-lawful store g target (operand.Int z) e f = literal-lawful store target (operand.Int z) (output_sort d target) refl e f
    assign-lawful store g target (operand.Text x) e f = literal-lawful store target (operand.Text x) (output_sort d target) refl e f

    apply-lawful : (store : Store) (g : Typed store) (target n : List ℕ) (args : List Operand) (o : Option FortranFunction) → function_named t n ≡ o → fits_function t ins store o args ≡ true → is_among n (declared_names (further u)) ≡ true → (s : Option SortId) → applied_sort t o ≡ s → is_target t d u (Some target) s ≡ true → IsApply t d u target n args
    apply-lawful store g target n args None is e c s at f = absurd (true≢false (sym e))
    apply-lawful store g target n args (Some k) is e c None at f = absurd (true≢false (sym f))
    apply-lawful store g target n args (Some k) is e c (Some s) at f =
        let there = among-names (λ (x : Decl). x.name) n (further u) c in
        record {
          function = k;
          listed = is;
          decl = there.0;
          declared = there.1;
          named = there.2;
          inputs = operands-lawful store g (argument_sorts t.sig k.symbol) args e;
          sort = s;
          result = at;
          settable = target-lawful target s f;
        }

    -- a statement that passes keeps the rules
    statement-lawful : (store : Store) (s : Statement) → Typed store → Passes t d u ins store s → IsLawfulStatement t d u s
    statement-lawful store (Call n args) g p =
        call-lawful store g n (routine_named t n) args p.counted (false_not (fits_call t ins store n (routine_named t n) (read_by_call (routine_named t n) args)) p.sorted) (right_targets t d u ins store (Call n args) p)
    statement-lawful store (Assign target from) g p =
        assign-lawful store g target from (false_not (fits_assign t ins store (output_sort d target) from) p.sorted)
        (and_left (is_target t d u (Some target) (assigned_sort t ins store (output_sort d target) from)) true (right_targets t d u ins store (Assign target from) p))
    statement-lawful store (Apply target n args) g p =
        apply-lawful store g target n args (function_named t n) refl (false_not (fits_function t ins store (function_named t n) args) p.sorted)
        (false_not (is_among n (declared_names (further u))) (applied_declared t d u ins store (Apply target n args) p))
        (applied_sort t (function_named t n)) refl
        (and_left (is_target t d u (Some target) (applied_sort t (function_named t n))) true (right_targets t d u ins store (Apply target n args) p))

    pub statements-lawful : (store : Store) (ss : List Statement) (ts : List Term) → Typed store → AllPass t d u store ss ts → AllByRecursion (IsLawfulStatement t d u) ss
    statements-lawful store [] ts g p = tt
    statements-lawful store (s ∷ ss) ts g p = (statement-lawful store s g p.0, statements-lawful (put t d store s) ss ts (put-typed store s g p.0) p.1)
