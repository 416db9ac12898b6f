-- The copies pass, and give each output that no call sets its term.
use Rattle.std.proofs.Common.{◌≡◌, ◌∙◌, inl, inr, ◌++◌, ◌||◌, ◌&&◌, ◌==◌, ◌≤◌, ℕ, zero, suc, arith, Bool, true, false, not, refl, sym, ap, subst, List, [], ◌∷◌, Option, Some, None, cond, map, find, slice_get, nat_lt, is_some, true≢false, if◌then◌else◌}
use Rattle.std.proofs.lemmas.Bool.Decides.{nat_tests}
use Rattle.std.specs.List.{list_any, flat_map}
use Rattle.std.specs.Str.{bytes_eq}
use Rattle.am_term.specs.declared.id.SortId.{SortId}
use Rattle.am_term.specs.declared.id.SymId.{SymId}
use Rattle.am_term.specs.declared.signature.Signature.{Signature}
use Rattle.am_term.specs.declared.term.Term.{Term}
use Rattle.am_term.specs.declared.term.Term.TheVariants.{App}
use Rattle.am_term.specs.NameLists.{is_among, are_distinct}
use Rattle.am_term.specs.Sorts.{fits}
use Rattle.am_term.specs.Sorting.{fits_place, sort_of, term_fits}
use Rattle.am_term.specs.Weight.{nodes}
use Rattle.am_term.proofs.Forest.{fits-akin}
use Rattle.am_term.proofs.Tests.{and_right, and_both}
use Rattle.am_theory.specs.declared.theory.Rep.{Rep}
use Rattle.am_theory.specs.declared.theory.Rep.TheVariants as rep
use Rattle.am_theory.specs.declared.theory.LitValue.{LitValue}
use Rattle.am_theory.specs.declared.theory.LitValue.TheVariants as value
use Rattle.am_theory.specs.declared.theory.Routine.{Routine}
use Rattle.am_theory.specs.declared.theory.FortranFunction.{FortranFunction}
use Rattle.am_theory.specs.declared.theory.LiteralDecl.{LiteralDecl}
use Rattle.am_theory.specs.declared.theory.Theory.{Theory}
use Rattle.am_theory.specs.Lookups.{known, rep_of, copy_of, result_of, result_sort, routine_named, listed_name, copy_names}
use Rattle.am_theory.specs.Facts.{WellFormed, IsLiteral, called_names, is_array, is_in_range, copies_when_array, is_represented}
use Rattle.am_theory.specs.Faults.{suits}
use Rattle.am_diagram.specs.declared.diagram.Diagram.{Diagram}
use Rattle.am_diagram.specs.Listed.{entry_sorts}
use Rattle.am_fortran.specs.declared.statement.Operand.{Operand}
use Rattle.am_fortran.specs.declared.statement.Operand.TheVariants as operand
use Rattle.am_fortran.specs.declared.statement.Statement.{Statement}
use Rattle.am_fortran.specs.declared.statement.Statement.TheVariants.{Call, Assign}
use Rattle.am_fortran.specs.declared.unit.Unit.{Unit as Subroutine}
use Rattle.am_exec.specs.Run.{name_in, output_sort}
use Rattle.am_exec.specs.Literals.{literal_written}
use Rattle.am_exec.specs.Types.{is_scalar}
use Rattle.am_exec.specs.Lawful.{call_targets}
use Rattle.am_exec.specs.States.{Store, term_held, is_held, entries_held, listed_term}
use Rattle.am_exec.specs.Effects.{read_by_call, set_by_call, call_terms, call_sorts, literal_for, literal_term_of, literal_sort, term_sort}
use Rattle.am_exec.specs.ItemFaults.{is_unknown_call, call_count, or_later, first_unset, fits_call, is_copied_by, is_name_of, is_scalar_rep, is_scalar_sort, is_target, are_targets, lacks_dummy, is_large}
use Rattle.am_exec.proofs.Held.{eq_is, eq_same, or_both}
use Rattle.am_plan.specs.Plan.{written_value, is_array_rep, copy_name, copy_to}
use Rattle.am_plan.proofs.Membership.{Among, all-among, among-map, among-left, among-right}
use Rattle.am_plan.proofs.Holding.{names_in, among-is, none-held}
use Rattle.am_plan.proofs.Standing.{StandsFor, all-index, literal-at, literal-sorted}
use Rattle.am_plan.proofs.CallStatements.{Puts}

-- what is found is there and passes
pub find-among : {A : Type 0} (p : A → Bool) (xs : List A) (x : A) → find p xs ≡ Some x → Among x xs × (p x ≡ true)
find-among {A = A} p [] x e = absurd cc
find-among {A = A} p (z ∷ zs) x e = by_test (find-among p zs x) (p z) refl e
  where
    by_test : (find p zs ≡ Some x → Among x zs × (p x ≡ true)) → (b : Bool) → p z ≡ b → cond b (Some z) (find p zs) ≡ Some x → Among x (z ∷ zs) × (p x ≡ true)
    by_test later true is e = let same : z ≡ x = cc in (inl (sym same), sym (ap p same) ∙ is)
    by_test later false is e = let r = later e in (inr r.0, r.1)

copy-there : (os : List (Option (List ℕ))) (k : ℕ) (n : List ℕ) → known (slice_get os k) ≡ Some n → Among n (flat_map listed_name os)
copy-there [] k n e = absurd cc
copy-there (None ∷ os) zero n e = absurd cc
copy-there (Some m ∷ os) zero n e = let same : m ≡ n = cc in inl (sym same)
copy-there (o ∷ os) (suc k) n e = among-right n (listed_name o) (flat_map listed_name os) (copy-there os k n e)

-- no routine has the name of a copy routine
copy-no_routine : (t : Theory) → WellFormed t → (n : List ℕ) → Among n (copy_names t) → routine_named t n ≡ None
copy-no_routine t h n a = by_routine (routine_named t n) refl
  where
    by_routine : (o : Option Routine) → routine_named t n ≡ o → o ≡ None
    by_routine None is = refl
    by_routine (Some r) is =
        let there = find-among (λ (q : Routine). bytes_eq q.name n) t.routines r is in
        let name : r.name ≡ n = eq_is r.name n there.1 in
        let apart = all-among (λ (m : List ℕ). is_among m (copy_names t) ≡ false) r.name (called_names t) h.called_apart
        (among-left r.name (map (λ (q : Routine). q.name) t.routines) (map (λ (f : FortranFunction). f.name) t.functions) (among-map (λ (q : Routine). q.name) r t.routines there.0)) in
        absurd (true≢false (sym (among-is n (copy_names t) a) ∙ ap (λ (m : List ℕ). is_among m (copy_names t)) (sym name) ∙ apart))

-- a literal's sort is kept in a scalar
suits-scalar : (v : LitValue) (o : Option Rep) → suits v o ≡ true → is_array_rep o ≡ false
suits-scalar v None e = refl
suits-scalar v (Some rep.Double) e = refl
suits-scalar v (Some rep.Integer) e = refl
suits-scalar v (Some rep.Logical) e = refl
suits-scalar v (Some (rep.Char n)) e = refl
suits-scalar (value.Int z) (Some (rep.DoubleVec m)) e = absurd (true≢false (sym e))
suits-scalar (value.Text x) (Some (rep.DoubleVec m)) e = absurd (true≢false (sym e))
suits-scalar (value.Int z) (Some (rep.DoubleMat m n)) e = absurd (true≢false (sym e))
suits-scalar (value.Text x) (Some (rep.DoubleMat m n)) e = absurd (true≢false (sym e))
suits-scalar (value.Int z) (Some (rep.IntegerVec m)) e = absurd (true≢false (sym e))
suits-scalar (value.Text x) (Some (rep.IntegerVec m)) e = absurd (true≢false (sym e))

-- an array has a copy routine
scalar-array : (r : Rep) → is_scalar r ≡ false → is_array r ≡ true
scalar-array rep.Double e = absurd (true≢false e)
scalar-array rep.Integer e = absurd (true≢false e)
scalar-array rep.Logical e = absurd (true≢false e)
scalar-array (rep.Char n) e = absurd (true≢false e)
scalar-array (rep.DoubleVec m) e = refl
scalar-array (rep.DoubleMat m n) e = refl
scalar-array (rep.IntegerVec m) e = refl

array-copied : (r : Rep) (c : Option (List ℕ)) → is_represented (Some r) c ≡ true → is_scalar r ≡ false → c ≡ Some (copy_name c)
array-copied r (Some n) e a = refl
array-copied r None e a =
    let one = and_right (is_in_range r) (copies_when_array (is_array r) None) e in
    absurd (true≢false (sym one ∙ ap (λ (b : Bool). copies_when_array b None) (scalar-array r a)))

-- the sort of a term at a place
pub place-sort : (sig : Signature) (o : Option SortId) (p : SortId) → fits_place sig o p ≡ true → (s : SortId) × (o ≡ Some s) × (fits sig s p ≡ true)
place-sort sig None p e = absurd (true≢false (sym e))
place-sort sig (Some s) p e = (s, refl, e)

not-large : (n : ℕ) → n ≤ 10000 → nat_lt 10000 n ≡ false
not-large n e = grind (arith, nat_tests)

-- a term for an output that no name of the store is
pub record Copies (t : Theory) (d : Diagram) (u : Subroutine) (o : List ℕ × SortId) (x : Term) : Type 0 where
  pub fit : term_fits t.sig (entry_sorts d.inputs) x o.1 ≡ true
  pub place : output_sort d o.0 ≡ Some o.1
  pub target : (s : SortId) → rep_of t s ≡ rep_of t o.1 → is_target t d u (Some o.0) (Some s) ≡ true
  pub small : nodes x ≤ 10000
  pub concrete : is_some (rep_of t o.1) ≡ true

module _ (t : Theory) (h : WellFormed t) (d : Diagram) (u : Subroutine) (lacks : lacks_dummy u ≡ false) (store : Store) (o : List ℕ × SortId) (x : Term) (c : Copies t d u o x) (new : Among o.0 (names_in store) → ⊥) where
  abbrev ins : List SortId
  ins = entry_sorts d.inputs

  only : (n : List ℕ) → Among n (o.0 ∷ []) → Among n (names_in store) → ⊥
  only n (inl e) a = new (subst (λ (m : List ℕ). Among m (names_in store)) e a)
  only n (inr a) b = a

  once : (list_any (is_held store) (o.0 ∷ []) || not (are_distinct (o.0 ∷ []))) ≡ false
  once = or_both (list_any (is_held store) (o.0 ∷ [])) false (none-held store (o.0 ∷ []) only) refl

  declared_well : (s : SortId) → rep_of t s ≡ rep_of t o.1 → (lacks_dummy u || (false || not (are_targets t d u (Some o.0 ∷ []) (Some s ∷ [])))) ≡ false
  declared_well s e = or_both (lacks_dummy u) (not (is_target t d u (Some o.0) (Some s) && true)) lacks (ap not (and_both (is_target t d u (Some o.0) (Some s)) true (c.target s e) refl))

  tiny : list_any is_large (x ∷ []) ≡ false
  tiny = or_both (is_large x) false (not-large (nodes x) c.small) refl

  abbrev sorted : (s : SortId) × (sort_of t.sig ins x ≡ Some s) × (fits t.sig s o.1 ≡ true)
  sorted = place-sort t.sig (sort_of t.sig ins x) o.1 c.fit

  alike : (rep_of t sorted.0 ≡ rep_of t o.1) × (copy_of t sorted.0 ≡ copy_of t o.1)
  alike = h.alike sorted.0 o.1 (fits-akin t.sig sorted.0 o.1 sorted.2)

  -- from a name, a scalar
  name-assign : (m : List ℕ) → term_held store m ≡ Some x → is_scalar_rep (rep_of t o.1) ≡ true → Puts t d u store (Assign o.0 (operand.Name m)) ((o.0, x) ∷ [])
  name-assign m held scalar = record {
    passes = record {
      known = refl;
      counted = refl;
      set = ap (λ (y : Option Term). or_later (if is_some y then None else Some m) None) held;
      sorted = ap (λ (y : Option Term). not (is_scalar_sort t (term_sort t ins y))) held ∙ ap (λ (s : Option SortId). not (is_scalar_sort t s)) sorted.1 ∙ ap (λ (r : Option Rep). not (is_scalar_rep r)) alike.0 ∙ ap not scalar;
      once = once;
      declared = ap (λ (y : Option Term). lacks_dummy u || (false || not (are_targets t d u (Some o.0 ∷ []) (term_sort t ins y ∷ [])))) held
          ∙ ap (λ (s : Option SortId). lacks_dummy u || (false || not (are_targets t d u (Some o.0 ∷ []) (s ∷ [])))) sorted.1
          ∙ declared_well sorted.0 alike.0;
      small = ap (λ (y : Option Term). list_any is_large (listed_term y)) held ∙ tiny;
    };
    put_is = ap (λ (y : Option Term). store ++ entries_held (Some o.0 ∷ []) (listed_term y)) held;
  }

  -- from a name, an array
  name-copy : (m n : List ℕ) → term_held store m ≡ Some x → copy_of t o.1 ≡ Some n → Puts t d u store (Call n (operand.Name m ∷ operand.Name o.0 ∷ [])) ((o.0, x) ∷ [])
  name-copy m n held copied =
      let there = copy-there t.copies o.1.0 n copied in
      let none = copy-no_routine t h n there in
      let args : List Operand = operand.Name m ∷ operand.Name o.0 ∷ [] in
      record {
        passes = record {
          known = ap (is_unknown_call t n) none ∙ ap not (among-is n (copy_names t) there);
          counted = ap (λ (q : Option Routine). not (2 == call_count q)) none;
          set = ap (λ (q : Option Routine). first_unset store (read_by_call q args)) none ∙ ap (λ (y : Option Term). or_later (if is_some y then None else Some m) None) held;
          sorted = ap (λ (q : Option Routine). not (fits_call t ins store n q (read_by_call q args))) none
              ∙ ap (λ (y : Option Term). not (is_copied_by t n (term_sort t ins y))) held
              ∙ ap (λ (s : Option SortId). not (is_copied_by t n s)) sorted.1
              ∙ ap (λ (k : Option (List ℕ)). not (is_name_of n k)) (alike.1 ∙ copied)
              ∙ ap not (eq_same n);
          once = ap (λ (q : Option Routine). list_any (is_held store) (call_targets q args) || not (are_distinct (call_targets q args))) none ∙ once;
          declared = ap (λ (q : Option Routine). lacks_dummy u || (false || not (are_targets t d u (map name_in (set_by_call q args)) (call_sorts t ins store q args)))) none
              ∙ ap (λ (y : Option Term). lacks_dummy u || (false || not (are_targets t d u (Some o.0 ∷ []) (term_sort t ins y ∷ [])))) held
              ∙ ap (λ (s : Option SortId). lacks_dummy u || (false || not (are_targets t d u (Some o.0 ∷ []) (s ∷ [])))) sorted.1
              ∙ declared_well sorted.0 alike.0;
          small = ap (λ (q : Option Routine). list_any is_large (call_terms t store q args)) none ∙ ap (λ (y : Option Term). list_any is_large (listed_term y)) held ∙ tiny;
        };
        put_is = ap (λ (q : Option Routine). store ++ entries_held (map name_in (set_by_call q args)) (call_terms t store q args)) none ∙ ap (λ (y : Option Term). store ++ entries_held (Some o.0 ∷ []) (listed_term y)) held;
      }

  -- from a literal
  abbrev placed : Operand → Option SymId
  placed from = literal_for t (output_sort d o.0) from

  literal-placed : (from : Operand) (f : SymId) → literal_written t o.1 from ≡ Some f → placed from ≡ Some f
  literal-placed from f e = ap (λ (p : Option SortId). literal_for t p from) c.place ∙ e

  literal-assign : (v : LitValue) (f : SymId) → x ≡ App f [] → result_sort t.sig f ≡ Some sorted.0 → literal_written t o.1 (written_value v) ≡ Some f → Puts t d u store (Assign o.0 (written_value v)) ((o.0, x) ∷ [])
  literal-assign (value.Int z) f is given e = record {
    passes = record {
      known = refl;
      counted = refl;
      set = refl;
      sorted = ap (λ (q : Option SymId). not (is_some q)) (literal-placed (operand.Int z) f e);
      once = once;
      declared = ap (λ (q : Option SymId). lacks_dummy u || (false || not (are_targets t d u (Some o.0 ∷ []) (literal_sort t q ∷ [])))) (literal-placed (operand.Int z) f e)
          ∙ ap (λ (s : Option SortId). lacks_dummy u || (false || not (are_targets t d u (Some o.0 ∷ []) (s ∷ [])))) given
          ∙ declared_well sorted.0 alike.0;
      small = ap (λ (q : Option SymId). list_any is_large (listed_term (literal_term_of q))) (literal-placed (operand.Int z) f e) ∙ ap (λ (y : Term). list_any is_large (y ∷ [])) (sym is) ∙ tiny;
    };
    put_is = ap (λ (q : Option SymId). store ++ entries_held (Some o.0 ∷ []) (listed_term (literal_term_of q))) (literal-placed (operand.Int z) f e) ∙ ap (λ (y : Term). store ++ (o.0, y) ∷ []) (sym is);
  }
  literal-assign (value.Text z) f is given e = record {
    passes = record {
      known = refl;
      counted = refl;
      set = refl;
      sorted = ap (λ (q : Option SymId). not (is_some q)) (literal-placed (operand.Text z) f e);
      once = once;
      declared = ap (λ (q : Option SymId). lacks_dummy u || (false || not (are_targets t d u (Some o.0 ∷ []) (literal_sort t q ∷ [])))) (literal-placed (operand.Text z) f e)
          ∙ ap (λ (s : Option SortId). lacks_dummy u || (false || not (are_targets t d u (Some o.0 ∷ []) (s ∷ [])))) given
          ∙ declared_well sorted.0 alike.0;
      small = ap (λ (q : Option SymId). list_any is_large (listed_term (literal_term_of q))) (literal-placed (operand.Text z) f e) ∙ ap (λ (y : Term). list_any is_large (y ∷ [])) (sym is) ∙ tiny;
    };
    put_is = ap (λ (q : Option SymId). store ++ entries_held (Some o.0 ∷ []) (listed_term (literal_term_of q))) (literal-placed (operand.Text z) f e) ∙ ap (λ (y : Term). store ++ (o.0, y) ∷ []) (sym is);
  }

  abbrev copy_by : Option Rep → Operand → Statement
  copy_by q from = if is_array_rep q then Call (copy_name (copy_of t o.1)) (from ∷ operand.Name o.0 ∷ []) else Assign o.0 from

  from_name : (m : List ℕ) (q : Option Rep) → rep_of t o.1 ≡ q → term_held store m ≡ Some x → Puts t d u store (copy_by q (operand.Name m)) ((o.0, x) ∷ [])
  from_name m None is held = absurd (true≢false (sym c.concrete ∙ ap is_some is))
  from_name m (Some r) is held = by_scalar (is_scalar r) refl
    where
      by_scalar : (b : Bool) → is_scalar r ≡ b → Puts t d u store (if not b then Call (copy_name (copy_of t o.1)) (operand.Name m ∷ operand.Name o.0 ∷ []) else Assign o.0 (operand.Name m)) ((o.0, x) ∷ [])
      by_scalar true scalar = name-assign m held (ap is_scalar_rep is ∙ scalar)
      by_scalar false scalar = name-copy m (copy_name (copy_of t o.1)) held (array-copied r (copy_of t o.1) (ap (λ (k : Option Rep). is_represented k (copy_of t o.1)) (sym is) ∙ h.represented o.1) scalar)

  from_literal : (index : ℕ) (l : LiteralDecl) → slice_get t.literals index ≡ Some l → x ≡ App l.symbol [] → Puts t d u store (copy_by (rep_of t o.1) (written_value l.value)) ((o.0, x) ∷ [])
  from_literal index l at is =
      let literal = all-index (IsLiteral t) t.literals index l h.literals at in
      let stands = literal.stands in
      let sort : Some stands.sort ≡ Some sorted.0 = sym (literal-sorted t h ins l stands) ∙ ap (sort_of t.sig ins) (sym is) ∙ sorted.1 in
      let same : stands.sort ≡ sorted.0 = cc in
      let given : result_sort t.sig l.symbol ≡ Some sorted.0 = ap result_of stands.there ∙ stands.result ∙ ap Some same in
      let scalar : is_array_rep (rep_of t o.1) ≡ false = ap is_array_rep (sym (ap (rep_of t) same ∙ alike.0)) ∙ suits-scalar l.value (rep_of t stands.sort) literal.suited in
      subst (λ (b : Bool). Puts t d u store (if b then Call (copy_name (copy_of t o.1)) (written_value l.value ∷ operand.Name o.0 ∷ []) else Assign o.0 (written_value l.value)) ((o.0, x) ∷ [])) (sym scalar)
      (literal-assign l.value l.symbol is given (literal-at t h ins index l o.1 at (sym (ap (λ (y : Term). term_fits t.sig ins y o.1) is) ∙ c.fit)))

  -- a copy from what stands for the term
  pub copy-puts : (from : Operand) → StandsFor t store from x → Puts t d u store (copy_to t o from) ((o.0, x) ∷ [])
  copy-puts from (inl n) = subst (λ (p : Operand). Puts t d u store (copy_to t o p) ((o.0, x) ∷ [])) (sym n.is) (from_name n.named (rep_of t o.1) refl n.held)
  copy-puts from (inr l) = subst (λ (p : Operand). Puts t d u store (copy_to t o p) ((o.0, x) ∷ [])) (sym l.is) (from_literal l.index l.decl l.there l.constant)
