-- The numbers in the plan of an answer are those of the theory's literals, and so fit 64 bits.
use Rattle.std.proofs.Common.{◌≡◌, ◌∙◌, ◌++◌, ℕ, pos, negsuc, Bool, true, false, refl, ap}
use Rattle.std.proofs.Common.{List, [], ◌∷◌, map, slice_get, Option, Some, None, IsTrue, if◌then◌else◌}
use Rattle.std.specs.List.{list_all, flat_map}
use Rattle.am_term.specs.declared.id.SortId.{SortId}
use Rattle.am_term.specs.declared.id.SymId.{SymId}
use Rattle.am_term.specs.declared.term.Term.{Term}
use Rattle.am_term.specs.declared.term.Term.TheOpen.{Term-F}
use Rattle.am_term.specs.declared.term.Term.TheViews.{out-Term}
use Rattle.am_term.proofs.Tests.{and_both, and_left, and_right}
use Rattle.am_theory.specs.Facts.{IsLiteral, WellFormed, is_value}
use Rattle.am_theory.specs.Lookups.{literal_declared, rep_of}
use Rattle.am_theory.specs.declared.theory.FortranFunction.{FortranFunction}
use Rattle.am_theory.specs.declared.theory.LitValue.{LitValue}
use Rattle.am_theory.specs.declared.theory.LitValue.TheVariants as value
use Rattle.am_theory.specs.declared.theory.LiteralDecl.{LiteralDecl}
use Rattle.am_theory.specs.declared.theory.Routine.{Routine}
use Rattle.am_theory.specs.declared.theory.Theory.{Theory}
use Rattle.am_diagram.specs.declared.diagram.Diagram.{Diagram}
use Rattle.am_fortran.specs.Units.{IsUnit}
use Rattle.am_fortran.specs.Well.{fits_operand, fits_statement}
use Rattle.am_fortran.specs.declared.statement.Operand.{Operand}
use Rattle.am_fortran.specs.declared.statement.Operand.TheVariants as operand
use Rattle.am_fortran.specs.declared.statement.Statement.{Statement}
use Rattle.am_fortran.specs.declared.unit.Unit.{Unit as Subroutine}
use Rattle.am_plan.specs.Calls.{PlannedCall, calls, made_by}
use Rattle.am_plan.specs.Names.{Named, named_terms, name_of_term}
use Rattle.am_plan.specs.Plan.{IsPlan, written_value, literal_or, operand_at, operand_for, routine_call, function_call}
use Rattle.am_plan.specs.Plan.{statement_at, statement_of, copies, copy_to, is_array_rep, is_set}
use Rattle.am_plan.specs.declared.call.Callee.{Callee}
use Rattle.am_plan.specs.declared.call.Callee.TheVariants as callee
use Rattle.am_plan.proofs.Callees.{literal-found}
use Rattle.am_plan.proofs.Membership.{all-among}

-- ---- tests of all members

module _ {A : Type 0} (test : A → Bool) where
  all-joined : (xs ys : List A) → list_all test xs ≡ true → list_all test ys ≡ true → list_all test (xs ++ ys) ≡ true
  all-joined [] ys h k = k
  all-joined (x ∷ xs) ys h k =
      and_both (test x) (list_all test (xs ++ ys)) (and_left (test x) (list_all test xs) h)
      (all-joined xs ys (and_right (test x) (list_all test xs) h) k)

  all-made : {B : Type 0} (f : B → A) → ((y : B) → test (f y) ≡ true) → (ys : List B) → list_all test (map f ys) ≡ true
  all-made f h [] = refl
  all-made f h (y ∷ ys) = and_both (test (f y)) (list_all test (map f ys)) (h y) (all-made f h ys)

  all-flat : {B : Type 0} (f : B → List A) → ((y : B) → list_all test (f y) ≡ true) → (ys : List B)
      → list_all test (flat_map f ys) ≡ true
  all-flat f h [] = refl
  all-flat f h (y ∷ ys) = all-joined (f y) (flat_map f ys) (h y) (all-flat f h ys)

-- ---- operands

value-fits : (v : LitValue) → IsTrue (is_value v) → fits_operand (written_value v) ≡ true
value-fits (value.Int (pos n)) e = e
value-fits (value.Int (negsuc n)) e = e
value-fits (value.Text x) e = refl

module _ (t : Theory) (h : WellFormed t) (d : Diagram) (names : List Named) where
  literal-fits : (f : SymId) (n : List ℕ) (o : Option LiteralDecl) → literal_declared t f ≡ o
      → fits_operand (literal_or (operand.Name n) o) ≡ true
  literal-fits f n None e = refl
  literal-fits f n (Some l) e =
      value-fits l.value (all-among (IsLiteral t) l t.literals h.literals (literal-found t h f l e).0).valued

  at-fits : (x : Term) (y : Term-F Term) → fits_operand (operand_at t d names x y) ≡ true
  at-fits x (Term-F.Var n s) = refl
  at-fits x (Term-F.In k) = refl
  at-fits x (Term-F.App f args) = literal-fits f (name_of_term names x) (literal_declared t f) refl

  operand-fits : (x : Term) → fits_operand (operand_for t d names x) ≡ true
  unfolding operand_for
  operand-fits x = at-fits x (out-Term x)

  operands-fit : (xs : List Term) → list_all fits_operand (map (operand_for t d names) xs) ≡ true
  operands-fit xs = all-made fits_operand (operand_for t d names) operand-fits xs

  -- ---- statements

  routine-fits : (c : PlannedCall) (o : Option Routine) → list_all fits_statement (routine_call t d names c o) ≡ true
  unfolding fits_statement
  routine-fits c None = refl
  routine-fits c (Some r) =
      let ins : List Operand = map (operand_for t d names) c.args in
      let outs : List Operand = map (λ (x : Term). operand.Name (name_of_term names x)) (made_by t c) in
      and_both (list_all fits_operand (ins ++ outs)) true
      (all-joined fits_operand ins outs (operands-fit c.args)
      (all-made fits_operand (λ (x : Term). operand.Name (name_of_term names x)) (λ x. refl) (made_by t c))) refl

  function-fits : (c : PlannedCall) (o : Option FortranFunction)
      → list_all fits_statement (function_call t d names c o) ≡ true
  unfolding fits_statement
  function-fits c None = refl
  function-fits c (Some f) =
      and_both (list_all fits_operand (map (operand_for t d names) c.args)) true (operands-fit c.args) refl

  called-fits : (c : PlannedCall) (k : Callee) → list_all fits_statement (statement_at t d names c k) ≡ true
  called-fits c (callee.Routine k) = routine-fits c (slice_get t.routines k)
  called-fits c (callee.Function k) = function-fits c (slice_get t.functions k)

  copy-fits : (o : List ℕ × SortId) (x : Operand) → fits_operand x ≡ true → fits_statement (copy_to t o x) ≡ true
  unfolding fits_statement
  copy-fits o x e = by (is_array_rep (rep_of t o.1)) refl
    where
      by : (b : Bool) → is_array_rep (rep_of t o.1) ≡ b → fits_statement (copy_to t o x) ≡ true
      by true is = rw is (and_both (fits_operand x) true e refl)
      by false is = rw is e

  one-copy : (o : List ℕ × SortId) (x : Term) (b : Bool)
      → list_all fits_statement (if b then [] else copy_to t o (operand_for t d names x) ∷ []) ≡ true
  one-copy o x true = refl
  one-copy o x false =
      and_both (fits_statement (copy_to t o (operand_for t d names x))) true
      (copy-fits o (operand_for t d names x) (operand-fits x)) refl

  copies-fit : (os : List (List ℕ × SortId)) (xs : List Term)
      → list_all fits_statement (copies t d names os xs) ≡ true
  copies-fit [] xs = refl
  copies-fit (o ∷ os) [] = refl
  copies-fit (o ∷ os) (x ∷ xs) =
      all-joined fits_statement (if is_set names o.0 then [] else copy_to t o (operand_for t d names x) ∷ [])
      (copies t d names os xs) (one-copy o x (is_set names o.0)) (copies-fit os xs)

pub plan-fits : (t : Theory) → WellFormed t → (d : Diagram) (answer : List Term) (u : Subroutine) → IsPlan t d answer u
    → IsUnit u
plan-fits t h d answer u p =
    let names : List Named = named_terms t d answer in
    let made : List Statement = flat_map (statement_of t d names) (calls t answer) in
    record {
      fits = ap (list_all fits_statement) p.statements
          ∙ all-joined fits_statement made (copies t d names d.outputs answer)
          (all-flat fits_statement (statement_of t d names) (λ c. called-fits t h d names c c.callee) (calls t answer))
          (copies-fit t h d names d.outputs answer);
    }
