-- The statements of calls pass, and put what the calls make.
use Rattle.std.proofs.Common.{◌≡◌, ◌∙◌, inl, inr, ◌++◌, ◌||◌, ◌==◌, ◌+◌, ◌<◌, ℕ, zero, suc, arith, Bool, true, false, not, refl, sym, ap, subst, List, [], ◌∷◌, Option, Some, cond, map, length, take, drop, find, slice_get, is_none, true≢false, sum_by}
use Rattle.std.proofs.lemmas.Bool.Decides.{nat_tests}
use Rattle.std.proofs.lemmas.List.{length-append, length-map}
use Rattle.std.specs.List.{AllByRecursion, list_any, flat_map}
use Rattle.std.specs.Str.{bytes_eq}
use Rattle.am_term.specs.declared.id.SortId.{SortId}
use Rattle.am_term.specs.declared.id.SymId.{SymId}
use Rattle.am_term.specs.declared.signature.Signature.{Signature}
use Rattle.am_term.specs.declared.term.Term.{Term}
use Rattle.am_term.specs.declared.term.Term.TheVariants.{App}
use Rattle.am_term.specs.NameLists.{is_among, are_distinct}
use Rattle.am_term.specs.Sorting.{fit_places, sort_of, sorts_of}
use Rattle.am_term.specs.Weight.{nodes}
use Rattle.am_term.proofs.Tests.{and_left, and_right, and_both, fails, true_not}
use Rattle.am_theory.specs.declared.theory.Routine.{Routine}
use Rattle.am_theory.specs.declared.theory.FortranFunction.{FortranFunction}
use Rattle.am_theory.specs.declared.theory.Theory.{Theory}
use Rattle.am_theory.specs.Lookups.{result_sort, argument_sorts, routine_named, function_named}
use Rattle.am_theory.specs.Facts.{WellFormed, called_names}
use Rattle.am_diagram.specs.declared.diagram.Diagram.{Diagram}
use Rattle.am_diagram.specs.Listed.{entry_sorts}
use Rattle.am_fortran.specs.declared.statement.Operand.{Operand}
use Rattle.am_fortran.specs.declared.statement.Operand.TheVariants as operand
use Rattle.am_fortran.specs.declared.statement.Statement.{Statement}
use Rattle.am_fortran.specs.declared.statement.Statement.TheVariants.{Call, Apply}
use Rattle.am_fortran.specs.declared.unit.Unit.{Unit as Subroutine}
use Rattle.am_exec.specs.Run.{name_in}
use Rattle.am_exec.specs.Lawful.{further, listed_target, call_targets}
use Rattle.am_exec.specs.States.{Store, is_held, entries_held, operand_terms}
use Rattle.am_exec.specs.Effects.{read_by_call, set_by_call, call_terms, applied_terms, call_sorts, applied_sort, put}
use Rattle.am_exec.specs.ItemFaults.{is_unknown_call, call_count, function_count, first_unset, fit_operands, fits_call, fits_function, is_target, are_targets, declared_names, lacks_dummy, is_large}
use Rattle.am_exec.proofs.Held.{eq_is, eq_same, or_both}
use Rattle.am_exec.proofs.Passing.{Passes}
use Rattle.am_exec.proofs.Putting.{outputs-small}
use Rattle.am_plan.proofs.Membership.{Among, Different, among-map, different-left, different-right}
use Rattle.am_plan.proofs.Holding.{names_in, among-is, different-distinct, none-held, entries-zip}
use Rattle.am_plan.proofs.Standing.{StandsFor, operands-set, operands-fit, operands-are}

pub distinct-different : (ns : List (List ℕ)) → are_distinct ns ≡ true → Different ns
distinct-different [] e = tt
distinct-different (n ∷ ns) e = (
  λ a. true≢false (sym (among-is n ns a) ∙ true_not (is_among n ns) (and_left (not (is_among n ns)) (are_distinct ns) e)),
  distinct-different ns (and_right (not (is_among n ns)) (are_distinct ns) e),
)

pub index-among : {A : Type 0} (xs : List A) (k : ℕ) (x : A) → slice_get xs k ≡ Some x → Among x xs
index-among {A = A} [] k x at = absurd cc
index-among {A = A} (z ∷ zs) zero x at = let same : z ≡ x = cc in inl (sym same)
index-among {A = A} (z ∷ zs) (suc k) x at = inr (index-among zs k x at)

-- where names differ, a name finds its owner
pub find-named : {A : Type 0} (f : A → List ℕ) (n : List ℕ) (x : A) (xs : List A) → Different (map f xs) → Among x xs → f x ≡ n → find (λ (q : A). bytes_eq (f q) n) xs ≡ Some x
find-named {A = A} f n x [] h a e = absurd a
find-named {A = A} f n x (z ∷ zs) h (inl s) e =
    ap (λ (b : Bool). cond b (Some z) (find (λ (q : A). bytes_eq (f q) n) zs)) (subst (λ (m : List ℕ). bytes_eq m n ≡ true) (sym (ap f (sym s) ∙ e)) (eq_same n)) ∙ ap Some (sym s)
find-named {A = A} f n x (z ∷ zs) h (inr a) e =
    ap (λ (b : Bool). cond b (Some z) (find (λ (q : A). bytes_eq (f q) n) zs)) (fails (bytes_eq (f z) n) (λ g. h.0 (subst (λ (m : List ℕ). Among m (map f zs)) (e ∙ sym (eq_is (f z) n g)) (among-map f x zs a))))
    ∙ find-named f n x zs h.1 a e

pub routine-named : (t : Theory) → WellFormed t → (k : ℕ) (r : Routine) → slice_get t.routines k ≡ Some r → routine_named t r.name ≡ Some r
routine-named t h k r at =
    find-named (λ (q : Routine). q.name) r.name r t.routines
    (different-left (map (λ (q : Routine). q.name) t.routines) (map (λ (f : FortranFunction). f.name) t.functions) (distinct-different (called_names t) h.called_distinct))
    (index-among t.routines k r at) refl

pub function-named : (t : Theory) → WellFormed t → (k : ℕ) (f : FortranFunction) → slice_get t.functions k ≡ Some f → function_named t f.name ≡ Some f
function-named t h k f at =
    find-named (λ (q : FortranFunction). q.name) f.name f t.functions
    (different-right (map (λ (q : Routine). q.name) t.routines) (map (λ (g : FortranFunction). g.name) t.functions) (distinct-different (called_names t) h.called_distinct))
    (index-among t.functions k f at) refl

pub fit-count : (sig : Signature) (ss : List (Option SortId)) (ps : List SortId) → fit_places sig ss ps ≡ true → length ss ≡ length ps
fit-count sig [] [] e = refl
fit-count sig [] (p ∷ ps) e = absurd (true≢false (sym e))
fit-count sig (s ∷ ss) [] e = absurd (true≢false (sym e))
fit-count sig (s ∷ ss) (p ∷ ps) e = ap suc (fit-count sig ss ps (and_right _ (fit_places sig ss ps) e))

take-front : {A : Type 0} (xs ys : List A) (n : ℕ) → length xs ≡ n → take n (xs ++ ys) ≡ xs
take-front {A = A} [] [] zero e = refl
take-front {A = A} [] (y ∷ ys) zero e = refl
take-front {A = A} [] ys (suc n) e = absurd (omega arith)
take-front {A = A} (x ∷ xs) ys zero e = absurd (omega arith)
take-front {A = A} (x ∷ xs) ys (suc n) e = ap (λ (zs : List A). x ∷ zs) (take-front xs ys n (omega arith))

drop-front : {A : Type 0} (xs ys : List A) (n : ℕ) → length xs ≡ n → drop n (xs ++ ys) ≡ ys
drop-front {A = A} [] ys zero e = refl
drop-front {A = A} [] ys (suc n) e = absurd (omega arith)
drop-front {A = A} (x ∷ xs) ys zero e = absurd (omega arith)
drop-front {A = A} (x ∷ xs) ys (suc n) e = drop-front xs ys n (omega arith)

one-count : (m n : ℕ) → m ≡ n → not (m == n) ≡ false
one-count m n e = grind (arith, nat_tests)

-- a statement that passes, and the pairs that it puts
pub record Puts (t : Theory) (d : Diagram) (u : Subroutine) (store : Store) (s : Statement) (new : Store) : Type 0 where
  pub passes : Passes t d u (entry_sorts d.inputs) store s
  pub put_is : put t d store s ≡ store ++ new

-- terms under their names
abbrev pub pairs : (Term → List ℕ) → List Term → Store
pairs name = map (λ (x : Term). (name x, x))

module _ (name : Term → List ℕ) where
  -- the operands of names
  abbrev pub targets_of : List Term → List Operand
  targets_of = map (λ (x : Term). operand.Name (name x))

  targets-named : (ys : List Term) → flat_map (λ (o : Operand). listed_target (name_in o)) (targets_of ys) ≡ map name ys
  targets-named [] = refl
  targets-named (y ∷ ys) = ap (λ (ns : List (List ℕ)). name y ∷ ns) (targets-named ys)

  names-named : (ys : List Term) → map name_in (targets_of ys) ≡ map (λ (x : Term). Some (name x)) ys
  names-named [] = refl
  names-named (y ∷ ys) = ap (λ (ns : List (Option (List ℕ))). Some (name y) ∷ ns) (names-named ys)

  pub pairs-names : (ys : List Term) → names_in (pairs name ys) ≡ map name ys
  pairs-names [] = refl
  pairs-names (y ∷ ys) = ap (λ (ns : List (List ℕ)). name y ∷ ns) (pairs-names ys)

  made-targets : (t : Theory) (d : Diagram) (u : Subroutine) (xs : List Term) (fs : List SymId) → AllByRecursion (λ (f : SymId). is_target t d u (Some (name (App f xs))) (result_sort t.sig f) ≡ true) fs
      → are_targets t d u (map name_in (targets_of (map (λ (f : SymId). App f xs) fs))) (map (result_sort t.sig) fs) ≡ true
  made-targets t d u xs [] g = refl
  made-targets t d u xs (f ∷ fs) g = and_both (is_target t d u (Some (name (App f xs))) (result_sort t.sig f)) (are_targets t d u (map name_in (targets_of (map (λ (f : SymId). App f xs) fs))) (map (result_sort t.sig) fs)) g.0 (made-targets t d u xs fs g.1)

  module _ (t : Theory) (h : WellFormed t) (d : Diagram) (u : Subroutine) (lacks : lacks_dummy u ≡ false) (op : Term → Operand) (store : Store) (xs : List Term) (standing : AllByRecursion (λ (x : Term). StandsFor t store (op x) x) xs) (small : sum_by nodes xs < 10000) where
    abbrev ins : List SortId
    ins = entry_sorts d.inputs

    once : (ns : List (List ℕ)) → Different ns → ((n : List ℕ) → Among n ns → Among n (names_in store) → ⊥) → (list_any (is_held store) ns || not (are_distinct ns)) ≡ false
    once ns differ new = or_both (list_any (is_held store) ns) (not (are_distinct ns)) (none-held store ns new) (ap not (different-distinct ns differ))

    declared_well : (b : Bool) (right : Bool) → b ≡ false → right ≡ true → (lacks_dummy u || (b || not right)) ≡ false
    declared_well b right e g = or_both (lacks_dummy u) (b || not right) lacks (or_both b (not right) e (ap not g))

    -- a call of a routine
    module _ (k : ℕ) (r : Routine) (at : slice_get t.routines k ≡ Some r) (fit : fit_places t.sig (sorts_of t.sig ins xs) r.inputs ≡ true) where
      abbrev made : List Term
      made = map (λ (f : SymId). App f xs) r.outputs

      abbrev args : List Operand
      args = map op xs ++ targets_of made

      counted : length (map op xs) ≡ length r.inputs
      counted = length-map xs op ∙ sym (length-map xs (sort_of t.sig ins)) ∙ fit-count t.sig (sorts_of t.sig ins xs) r.inputs fit

      found : routine_named t r.name ≡ Some r
      found = routine-named t h k r at

      front : take (length r.inputs) args ≡ map op xs
      front = take-front (map op xs) (targets_of made) (length r.inputs) counted

      behind : drop (length r.inputs) args ≡ targets_of made
      behind = drop-front (map op xs) (targets_of made) (length r.inputs) counted

      targets-are : call_targets (routine_named t r.name) args ≡ map name made
      targets-are = ap (λ (o : Option Routine). call_targets o args) found ∙ ap (flat_map (λ (o : Operand). listed_target (name_in o))) behind ∙ targets-named made

      terms-are : operand_terms t store r.inputs (take (length r.inputs) args) ≡ xs
      terms-are = ap (operand_terms t store r.inputs) front ∙ operands-are t h ins store op xs r.inputs standing fit

      all-counted : length args ≡ length r.inputs + length r.outputs
      all-counted = length-append (map op xs) (targets_of made) ∙ ap (λ (n : ℕ). n + length (targets_of made)) counted ∙ ap (λ (n : ℕ). length r.inputs + n) (length-map made (λ (x : Term). operand.Name (name x)) ∙ length-map r.outputs (λ (f : SymId). App f xs))

      pub routine-puts : ((n : List ℕ) → Among n (map name made) → Among n (names_in store) → ⊥) → Different (map name made)
          → AllByRecursion (λ (f : SymId). is_target t d u (Some (name (App f xs))) (result_sort t.sig f) ≡ true) r.outputs
          → Puts t d u store (Call r.name args) (pairs name made)
      routine-puts new differ targets = record {
        passes = record {
          known = ap (is_unknown_call t r.name) found;
          counted = ap (λ (o : Option Routine). not (length args == call_count o)) found ∙ one-count (length args) (length r.inputs + length r.outputs) all-counted;
          set = ap (λ (o : Option Routine). first_unset store (read_by_call o args)) found ∙ ap (first_unset store) front ∙ operands-set t h ins store op xs standing;
          sorted = ap (λ (o : Option Routine). not (fits_call t ins store r.name o (read_by_call o args))) found ∙ ap not (ap (fit_operands t ins store r.inputs) front ∙ operands-fit t h ins store op xs r.inputs standing fit);
          once = ap (λ (ns : List (List ℕ)). list_any (is_held store) ns || not (are_distinct ns)) targets-are ∙ once (map name made) differ new;
          declared = ap (λ (o : Option Routine). lacks_dummy u || (false || not (are_targets t d u (map name_in (set_by_call o args)) (call_sorts t ins store o args)))) found
              ∙ declared_well false (are_targets t d u (map name_in (drop (length r.inputs) args)) (map (result_sort t.sig) r.outputs)) refl
              (ap (λ (os : List Operand). are_targets t d u (map name_in os) (map (result_sort t.sig) r.outputs)) behind ∙ made-targets t d u xs r.outputs targets);
          small = ap (λ (o : Option Routine). list_any is_large (call_terms t store o args)) found
              ∙ ap (λ (zs : List Term). list_any is_large (map (λ (f : SymId). App f zs) r.outputs)) terms-are
              ∙ outputs-small xs r.outputs small;
        };
        put_is = ap (λ (es : Store). store ++ es)
            (ap (λ (o : Option Routine). entries_held (map name_in (set_by_call o args)) (call_terms t store o args)) found
            ∙ ap (λ (os : List Operand). entries_held (map name_in os) (map (λ (f : SymId). App f (operand_terms t store r.inputs (take (length r.inputs) args))) r.outputs)) behind
            ∙ ap (λ (ns : List (Option (List ℕ))). entries_held ns (map (λ (f : SymId). App f (operand_terms t store r.inputs (take (length r.inputs) args))) r.outputs)) (names-named made)
            ∙ ap (λ (zs : List Term). entries_held (map (λ (x : Term). Some (name x)) made) (map (λ (f : SymId). App f zs) r.outputs)) terms-are
            ∙ entries-zip name made);
      }

    -- a listed function at its arguments
    module _ (k : ℕ) (g : FortranFunction) (at : slice_get t.functions k ≡ Some g) (fit : fit_places t.sig (sorts_of t.sig ins xs) (argument_sorts t.sig g.symbol) ≡ true) where
      abbrev value : Term
      value = App g.symbol xs

      abbrev places : List SortId
      places = argument_sorts t.sig g.symbol

      applied : function_named t g.name ≡ Some g
      applied = function-named t h k g at

      places-counted : length (map op xs) ≡ length places
      places-counted = length-map xs op ∙ sym (length-map xs (sort_of t.sig ins)) ∙ fit-count t.sig (sorts_of t.sig ins xs) places fit

      pub function-puts : (Among (name value) (names_in store) → ⊥) → is_among g.name (declared_names (further u)) ≡ true
          → is_target t d u (Some (name value)) (result_sort t.sig g.symbol) ≡ true
          → Puts t d u store (Apply (name value) g.name (map op xs)) (pairs name (value ∷ []))
      function-puts new there target = record {
        passes = record {
          known = ap is_none applied;
          counted = ap (λ (o : Option FortranFunction). not (length (map op xs) == function_count t o)) applied ∙ one-count (length (map op xs)) (length places) places-counted;
          set = operands-set t h ins store op xs standing;
          sorted = ap (λ (o : Option FortranFunction). not (fits_function t ins store o (map op xs))) applied ∙ ap not (operands-fit t h ins store op xs places standing fit);
          once = once (name value ∷ []) ((λ a. a), tt) (only new);
          declared = ap (λ (o : Option FortranFunction). lacks_dummy u || (not (is_among g.name (declared_names (further u))) || not (are_targets t d u (Some (name value) ∷ []) (applied_sort t o ∷ [])))) applied
              ∙ declared_well (not (is_among g.name (declared_names (further u)))) (are_targets t d u (Some (name value) ∷ []) (result_sort t.sig g.symbol ∷ [])) (ap not there)
              (and_both (is_target t d u (Some (name value)) (result_sort t.sig g.symbol)) true target refl);
          small = ap (λ (o : Option FortranFunction). list_any is_large (applied_terms t store o (map op xs))) applied
              ∙ ap (λ (zs : List Term). list_any is_large (App g.symbol zs ∷ [])) (operands-are t h ins store op xs places standing fit)
              ∙ outputs-small xs (g.symbol ∷ []) small;
        };
        put_is = ap (λ (es : Store). store ++ es)
            (ap (λ (o : Option FortranFunction). entries_held (Some (name value) ∷ []) (applied_terms t store o (map op xs))) applied
            ∙ ap (λ (zs : List Term). entries_held (Some (name value) ∷ []) (App g.symbol zs ∷ [])) (operands-are t h ins store op xs places standing fit));
      }
        where
          only : (Among (name value) (names_in store) → ⊥) → (n : List ℕ) → Among n (name value ∷ []) → Among n (names_in store) → ⊥
          only new n (inl e) a = new (subst (λ (m : List ℕ). Among m (names_in store)) e a)
          only new n (inr a) b = a
