-- The sorts of terms that names hold, and the types of these names.
use Rattle.std.proofs.Common.{◌≡◌, ◌∙◌, ◌++◌, ◌&&◌, ℕ, true, Bool, refl, sym, ap, subst, List, [], ◌∷◌, Option, Some, None, map, length, take, find, is_some, option_map, slice_get, true≢false, if◌then◌else◌, Contains}
use Rattle.std.specs.List.{AllByRecursion}
use Rattle.std.specs.Str.{bytes_eq}
use Rattle.am_term.specs.declared.id.SortId.{SortId}
use Rattle.am_term.specs.declared.id.SymId.{SymId}
use Rattle.am_term.specs.declared.kind.SymKind.TheVariants as kind
use Rattle.am_term.specs.declared.symbol.Symbol.{Symbol}
use Rattle.am_term.specs.declared.term.Term.{Term}
use Rattle.am_term.specs.declared.term.Term.TheVariants.{App}
use Rattle.am_term.specs.NameLists.{is_among}
use Rattle.am_term.specs.Sorts.{fits}
use Rattle.am_term.specs.Sorting.{fits_place, fit_places, result_at, sort_of, sorts_of, sort_of-App}
use Rattle.am_term.proofs.Forest.{fits-akin}
use Rattle.am_term.proofs.Tests.{and_left, and_right, and_both, false_not}
use Rattle.am_theory.specs.declared.theory.Rep.{Rep}
use Rattle.am_theory.specs.declared.theory.Routine.{Routine}
use Rattle.am_theory.specs.declared.theory.FortranFunction.{FortranFunction}
use Rattle.am_theory.specs.declared.theory.LiteralDecl.{LiteralDecl}
use Rattle.am_theory.specs.declared.theory.Theory.{Theory}
use Rattle.am_theory.specs.Lookups.{rep_of, result_of, argument_sorts_of, result_sort, argument_sorts, routine_named, function_named}
use Rattle.am_theory.specs.Facts.{WellFormed, Stands, IsRoutine, IsLiteral}
use Rattle.am_diagram.specs.declared.diagram.Diagram.{Diagram}
use Rattle.am_fortran.specs.declared.statement.FortranType.{FortranType}
use Rattle.am_fortran.specs.declared.statement.Decl.{Decl}
use Rattle.am_fortran.specs.declared.statement.Operand.{Operand}
use Rattle.am_fortran.specs.declared.statement.Operand.TheVariants as operand
use Rattle.am_fortran.specs.declared.statement.Statement.{Statement}
use Rattle.am_fortran.specs.declared.statement.Statement.TheVariants.{Call, Assign, Apply}
use Rattle.am_fortran.specs.declared.unit.Unit.{Unit as Subroutine}
use Rattle.am_exec.specs.Literals.{writes, sort_fits, literal_written}
use Rattle.am_exec.specs.Run.{output_sort}
use Rattle.am_exec.specs.Types.{dummy_type, local_type, type_by, type_of_name}
use Rattle.am_exec.specs.Lawful.{HasTypeOf}
use Rattle.am_exec.specs.States.{Store, term_held, literal_term, operand_term, listed_term, operand_terms}
use Rattle.am_exec.specs.Effects.{read_by_call, copied_term, literal_for, literal_term_of, assigned_term, call_terms, applied_terms, put_terms, term_sort, literal_sort, assigned_sort, call_sorts, applied_sort, put_sorts}
use Rattle.am_exec.specs.ItemFaults.{operand_fits_place, fit_operands, fits_call, fits_assign, fits_function, have_one_type, declared_type}
use Rattle.am_exec.proofs.Held.{eq_is}
use Rattle.am_exec.proofs.Listed.{all-at, find-there}
use Rattle.am_exec.proofs.Declared.{one_type-is}
use Rattle.am_exec.proofs.Passing.{Passes}
use Rattle.am_exec.proofs.Valued.{operand-there, assigned-there, copied-there}

-- which sort stands for a sort: the type depends on its representation alone
pub type-moves : (t : Theory) (ns : List (List ℕ)) (n : List ℕ) (s p : SortId) → rep_of t s ≡ rep_of t p → type_of_name t ns n s ≡ type_of_name t ns n p
type-moves t ns n s p e = ap (λ (r : Option Rep). if is_among n ns then type_by dummy_type r else type_by local_type r) e

pub has-type-moves : (t : Theory) (u : Subroutine) (n : List ℕ) (s p : SortId) → rep_of t s ≡ rep_of t p → HasTypeOf t u n s → HasTypeOf t u n p
has-type-moves t u n s p e h = record { decl = h.decl; there = h.there; named = h.named; typed = h.typed ∙ type-moves t u.dummies n s p e }

pub some-is : {A : Type 0} (o : Option A) → is_some o ≡ true → (x : A) × (o ≡ Some x)
some-is None e = absurd (true≢false (sym e))
some-is (Some x) e = (x, refl)

-- the declared type of a name is that of one of its declarations
pub declared-there : (u : Subroutine) (n : List ℕ) (o : Option FortranType) → have_one_type (declared_type u n) o ≡ true → (e : Decl) × Contains u.declarations e × (e.name ≡ n) × (Some e.ty ≡ o)
declared-there u n o h = by_decl (find (λ (e : Decl). bytes_eq e.name n) u.declarations) refl h
  where
    by_decl : (f : Option Decl) → find (λ (e : Decl). bytes_eq e.name n) u.declarations ≡ f → have_one_type (option_map (λ (e : Decl). e.ty) f) o ≡ true → (e : Decl) × Contains u.declarations e × (e.name ≡ n) × (Some e.ty ≡ o)
    by_decl None is h = absurd (true≢false (sym h))
    by_decl (Some e) is h =
        let there = find-there (λ (x : Decl). bytes_eq x.name n) u.declarations e is in
        (e, there.0, eq_is e.name n there.1, one_type-is (Some e.ty) o h)

module _ (t : Theory) (h : WellFormed t) where
  pub fits-alike : (s p : SortId) → fits t.sig s p ≡ true → rep_of t s ≡ rep_of t p
  fits-alike s p e = (h.alike s p (fits-akin t.sig s p e)).0

  -- a literal's symbol is a constant with a sort
  pub record Literally (f : SymId) (place : SortId) : Type 0 where
    pub symbol : Symbol
    pub there : slice_get t.sig.symbols f.0 ≡ Some symbol
    pub none : symbol.args ≡ []
    pub sort : SortId
    pub given : symbol.result ≡ Some sort
    pub fitting : fits t.sig sort place ≡ true

  sort-fits : (o : Option SortId) (s place : SortId) → o ≡ Some s → sort_fits t o place ≡ true → fits t.sig s place ≡ true
  sort-fits None s place e g = absurd cc
  sort-fits (Some r) s place e g = let is : r ≡ s = cc in subst (λ (x : SortId). fits t.sig x place ≡ true) is g

  pub literally : (place : SortId) (o : Operand) (f : SymId) → literal_written t place o ≡ Some f → Literally f place
  literally place o f e = by_literal (find (λ (l : LiteralDecl). writes o l.value && sort_fits t (result_sort t.sig l.symbol) place) t.literals) refl e
    where
      found : (l : LiteralDecl) → find (λ (x : LiteralDecl). writes o x.value && sort_fits t (result_sort t.sig x.symbol) place) t.literals ≡ Some l → Literally l.symbol place
      found l is =
          let there = find-there (λ (x : LiteralDecl). writes o x.value && sort_fits t (result_sort t.sig x.symbol) place) t.literals l is in
          let stands = (all-at (IsLiteral t) t.literals l h.literals there.0).stands in
          record {
            symbol = stands.symbol;
            there = stands.there;
            none = stands.with_args;
            sort = stands.sort;
            given = stands.result;
            fitting = sort-fits (result_sort t.sig l.symbol) stands.sort place (ap result_of stands.there ∙ stands.result) (and_right (writes o l.value) (sort_fits t (result_sort t.sig l.symbol) place) there.1);
          }

      by_literal : (q : Option LiteralDecl) → find (λ (l : LiteralDecl). writes o l.value && sort_fits t (result_sort t.sig l.symbol) place) t.literals ≡ q → option_map (λ (l : LiteralDecl). l.symbol) q ≡ Some f → Literally f place
      by_literal None is e = absurd cc
      by_literal (Some l) is e = let same : l.symbol ≡ f = cc in subst (λ (g : SymId). Literally g place) same (found l is)

  module _ (ins : List SortId) where
    -- the sort of a symbol at arguments that fit its places
    at_places : (y : Symbol) (ss : List (Option SortId)) → fit_places t.sig ss y.args ≡ true → result_at t.sig (Some y) ss ≡ y.result
    at_places y ss e = ap (λ (b : Bool). if b then y.result else None) e

    pub literal-sorted : (place : SortId) (o : Operand) (f : SymId) → literal_written t place o ≡ Some f → sort_of t.sig ins (literal_term f) ≡ result_sort t.sig f
    literal-sorted place o f e =
        let l = literally place o f e in
        sort_of-App t.sig ins f [] ∙ ap (λ (y : Option Symbol). result_at t.sig y []) l.there
        ∙ at_places l.symbol [] (ap (fit_places t.sig []) l.none)
        ∙ sym (ap result_of l.there)

    literal-fits : (place : SortId) (o : Operand) (f : SymId) → literal_written t place o ≡ Some f → fits_place t.sig (sort_of t.sig ins (literal_term f)) place ≡ true
    literal-fits place o f e =
        let l = literally place o f e in
        ap (λ (s : Option SortId). fits_place t.sig s place) (literal-sorted place o f e ∙ ap result_of l.there ∙ l.given) ∙ l.fitting

    literal-operand : (store : Store) (place : SortId) (o : Operand) (q : Option SymId) (x : Term) → literal_written t place o ≡ q → option_map literal_term q ≡ Some x → fits_place t.sig (sort_of t.sig ins x) place ≡ true
    literal-operand store place o None x is e = absurd cc
    literal-operand store place o (Some f) x is e = let same : literal_term f ≡ x = cc in subst (λ (y : Term). fits_place t.sig (sort_of t.sig ins y) place ≡ true) same (literal-fits place o f is)

    -- the term of an operand that fits its place has a sort that does
    operand-fits : (store : Store) (place : SortId) (o : Operand) (x : Term) → operand_fits_place t ins store place o ≡ true → operand_term t store place o ≡ Some x → fits_place t.sig (sort_of t.sig ins x) place ≡ true
    operand-fits store place (operand.Name n) x e is = sym (ap (λ (y : Option Term). fits_place t.sig (term_sort t ins y) place) is) ∙ e
    operand-fits store place (operand.Int z) x e is = literal-operand store place (operand.Int z) (literal_written t place (operand.Int z)) x refl is
    operand-fits store place (operand.Text y) x e is = literal-operand store place (operand.Text y) (literal_written t place (operand.Text y)) x refl is

    joined : (p : Option Term) (x : Term) (s : SortId) (ss : List SortId) (xs : List Term) → p ≡ Some x → fits_place t.sig (sort_of t.sig ins x) s ≡ true → fit_places t.sig (sorts_of t.sig ins xs) ss ≡ true → fit_places t.sig (sorts_of t.sig ins (listed_term p ++ xs)) (s ∷ ss) ≡ true
    joined None x s ss xs e f g = absurd cc
    joined (Some y) x s ss xs e f g =
        let same : y ≡ x = cc in
        and_both (fits_place t.sig (sort_of t.sig ins y) s) (fit_places t.sig (sorts_of t.sig ins xs) ss) (subst (λ (z : Term). fits_place t.sig (sort_of t.sig ins z) s ≡ true) (sym same) f) g

    pub operands-fit : (store : Store) (ss : List SortId) (os : List Operand) → fit_operands t ins store ss os ≡ true → fit_places t.sig (sorts_of t.sig ins (operand_terms t store ss os)) ss ≡ true
    operands-fit store [] [] e = refl
    operands-fit store [] (o ∷ os) e = absurd (true≢false (sym e))
    operands-fit store (s ∷ ss) [] e = absurd (true≢false (sym e))
    operands-fit store (s ∷ ss) (o ∷ os) e =
        let one = and_left (operand_fits_place t ins store s o) (fit_operands t ins store ss os) e in
        let x = operand-there t ins store s o one in
        joined (operand_term t store s o) x.0 s ss (operand_terms t store ss os) x.1 (operand-fits store s o x.0 one x.1) (operands-fit store ss os (and_right (operand_fits_place t ins store s o) (fit_operands t ins store ss os) e))

    -- a routine's outputs at arguments that fit its inputs
    outputs-sorted : (ss : List SortId) (xs : List Term) (fs : List SymId) → AllByRecursion (λ f. Stands t f kind.Output ss) fs → fit_places t.sig (sorts_of t.sig ins xs) ss ≡ true → sorts_of t.sig ins (map (λ (f : SymId). App f xs) fs) ≡ map (result_sort t.sig) fs
    outputs-sorted ss xs [] g e = refl
    outputs-sorted ss xs (f ∷ fs) g e =
        let y = g.0 in
        ap (λ (s : Option SortId). s ∷ sorts_of t.sig ins (map (λ (k : SymId). App k xs) fs))
        (sort_of-App t.sig ins f xs ∙ ap (λ (o : Option Symbol). result_at t.sig o (sorts_of t.sig ins xs)) y.there
        ∙ at_places y.symbol (sorts_of t.sig ins xs) (ap (fit_places t.sig (sorts_of t.sig ins xs)) y.with_args ∙ e)
        ∙ sym (ap result_of y.there))
        ∙ ap (λ r. result_sort t.sig f ∷ r) (outputs-sorted ss xs fs g.1 e)

    function-sorted : (f : SymId) (xs : List Term) → fit_places t.sig (sorts_of t.sig ins xs) (argument_sorts t.sig f) ≡ true → sort_of t.sig ins (App f xs) ≡ result_sort t.sig f
    function-sorted f xs e = sort_of-App t.sig ins f xs ∙ by_symbol (slice_get t.sig.symbols f.0) e
      where
        by_symbol : (o : Option Symbol) → fit_places t.sig (sorts_of t.sig ins xs) (argument_sorts_of o) ≡ true → result_at t.sig o (sorts_of t.sig ins xs) ≡ result_of o
        by_symbol None e = refl
        by_symbol (Some y) e = at_places y (sorts_of t.sig ins xs) e

    listed-sorted : (o : Option Term) (x : Term) → o ≡ Some x → sorts_of t.sig ins (listed_term o) ≡ term_sort t ins o ∷ []
    listed-sorted None x e = absurd cc
    listed-sorted (Some y) x e = refl

    literal-listed : (place : Option SortId) (o : Operand) (q : Option SymId) (x : Term) → literal_for t place o ≡ q → literal_term_of q ≡ Some x → sorts_of t.sig ins (listed_term (literal_term_of q)) ≡ literal_sort t q ∷ []
    literal-listed place o None x is e = absurd cc
    literal-listed None o (Some f) x is e = absurd cc
    literal-listed (Some s) o (Some f) x is e = ap (λ (r : Option SortId). r ∷ []) (literal-sorted s o f is)

    assigned-sorted : (store : Store) (place : Option SortId) (o : Operand) → fits_assign t ins store place o ≡ true → sorts_of t.sig ins (listed_term (assigned_term t store place o)) ≡ assigned_sort t ins store place o ∷ []
    assigned-sorted store place (operand.Name n) e = let x = assigned-there t ins store place (operand.Name n) e in listed-sorted (term_held store n) x.0 x.1
    assigned-sorted store place (operand.Int z) e = let x = assigned-there t ins store place (operand.Int z) e in literal-listed place (operand.Int z) (literal_for t place (operand.Int z)) x.0 refl x.1
    assigned-sorted store place (operand.Text y) e = let x = assigned-there t ins store place (operand.Text y) e in literal-listed place (operand.Text y) (literal_for t place (operand.Text y)) x.0 refl x.1

    first-copied : (store : Store) (args : List Operand) → copied_term store (take 1 args) ≡ copied_term store args
    first-copied store [] = refl
    first-copied store (o ∷ os) = refl

    call-sorted : (store : Store) (n : List ℕ) (o : Option Routine) (args : List Operand) → routine_named t n ≡ o → fits_call t ins store n o (read_by_call o args) ≡ true → sorts_of t.sig ins (call_terms t store o args) ≡ call_sorts t ins store o args
    call-sorted store n None args is e =
        let x = copied-there t ins n (copied_term store (take 1 args)) e in
        listed-sorted (copied_term store args) x.0 (sym (first-copied store args) ∙ x.1)
    call-sorted store n (Some r) args is e =
        let there = find-there (λ (q : Routine). bytes_eq q.name n) t.routines r is in
        let routine = all-at (IsRoutine t) t.routines r h.routines there.0 in
        outputs-sorted r.inputs (operand_terms t store r.inputs (take (length r.inputs) args)) r.outputs routine.outputs (operands-fit store r.inputs (take (length r.inputs) args) e)

    apply-sorted : (store : Store) (o : Option FortranFunction) (args : List Operand) → fits_function t ins store o args ≡ true → sorts_of t.sig ins (applied_terms t store o args) ≡ applied_sort t o ∷ []
    apply-sorted store None args e = absurd (true≢false (sym e))
    apply-sorted store (Some f) args e = ap (λ (r : Option SortId). r ∷ []) (function-sorted f.symbol (operand_terms t store (argument_sorts t.sig f.symbol) args) (operands-fit store (argument_sorts t.sig f.symbol) args e))

    -- the terms that a statement puts have the sorts that its targets are tested for
    pub put-sorted : (d : Diagram) (u : Subroutine) (store : Store) (s : Statement) → Passes t d u ins store s → sorts_of t.sig ins (put_terms t d store s) ≡ put_sorts t d ins store s
    put-sorted d u store (Call n args) p = call-sorted store n (routine_named t n) args refl (false_not (fits_call t ins store n (routine_named t n) (read_by_call (routine_named t n) args)) p.sorted)
    put-sorted d u store (Assign target from) p = assigned-sorted store (output_sort d target) from (false_not (fits_assign t ins store (output_sort d target) from) p.sorted)
    put-sorted d u store (Apply target n args) p = apply-sorted store (function_named t n) args (false_not (fits_function t ins store (function_named t n) args) p.sorted)
