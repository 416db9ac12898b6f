-- What holds where a unit's run by terms has no fault.
use Rattle.std.proofs.Common.{◌≡◌, ◌+◌, ◌||◌, ℕ, true, false, Bool, not, refl, ap, List, [], ◌∷◌, Option, Some, None, Result, Ok, Err, length, if◌then◌else◌}
use Rattle.std.specs.List.{list_any}
use Rattle.am_term.specs.declared.id.SortId.{SortId}
use Rattle.am_term.specs.declared.term.Term.{Term}
use Rattle.am_term.specs.NameLists.{are_distinct}
use Rattle.am_term.proofs.Tests.{false_not}
use Rattle.am_theory.specs.declared.theory.Theory.{Theory}
use Rattle.am_diagram.specs.declared.diagram.Diagram.{Diagram}
use Rattle.am_diagram.specs.Listed.{entry_names, entry_sorts}
use Rattle.am_fortran.specs.declared.statement.Statement.{Statement}
use Rattle.am_fortran.specs.declared.unit.Unit.{Unit as Subroutine}
use Rattle.am_exec.specs.declared.fault.ExecKind.{ExecKind}
use Rattle.am_exec.specs.declared.fault.ExecKind.TheVariants.{UnknownRoutine, WrongCount, WrongSort, SetTwice, BadDeclaration, TooLarge}
use Rattle.am_exec.specs.declared.fault.ExecFault.{ExecFault}
use Rattle.am_exec.specs.Lawful.{targets}
use Rattle.am_exec.specs.States.{Store, is_held, inputs_held}
use Rattle.am_exec.specs.Effects.{reads, target_names, put_sorts, put}
use Rattle.am_exec.specs.ItemFaults.{are_targets, applies_undeclared, is_unknown, has_wrong_count, first_unset, has_wrong_sort, sets_twice, is_bad_head, lacks_dummy, is_badly_declared, is_too_large, not_set_or, statement_kind}
use Rattle.am_exec.proofs.Held.{or_false-left, or_false-right}
use Rattle.am_exec.specs.Terms.{◌>>=◌, fault_at, bad_declaration, terms_held, outputs_or_unset, at_end, unless, stated, after_declarations, terms}

-- a test that isn't met, and what follows it
record Later (b : Bool) (o : Option ExecKind) : Type 0 where
  not_here : b ≡ false
  later : o ≡ None

later : (b : Bool) (k : ExecKind) (o : Option ExecKind) → (if b then Some k else o) ≡ None → Later b o
later true k o e = absurd cc
later false k o e = record { not_here = refl; later = e }

record LaterSet (n : Option (List ℕ)) (o : Option ExecKind) : Type 0 where
  set : n ≡ None
  later : o ≡ None

later_set : (n : Option (List ℕ)) (o : Option ExecKind) → not_set_or n o ≡ None → LaterSet n o
later_set (Some n) o e = absurd cc
later_set None o e = record { set = refl; later = e }

-- no kind of fault holds of the statement
pub record Passes (t : Theory) (d : Diagram) (u : Subroutine) (ins : List SortId) (store : Store) (s : Statement) : Type 0 where
  pub known : is_unknown t s ≡ false
  pub counted : has_wrong_count t s ≡ false
  pub set : first_unset store (reads t s) ≡ None
  pub sorted : has_wrong_sort t d ins store s ≡ false
  pub once : sets_twice t store s ≡ false
  pub declared : is_badly_declared t d u ins store s ≡ false
  pub small : is_too_large t d store s ≡ false

pub passes : (t : Theory) (d : Diagram) (u : Subroutine) (ins : List SortId) (store : Store) (s : Statement) → statement_kind t d u ins store s ≡ None → Passes t d u ins store s
passes t d u ins store s e =
    let a = later (is_unknown t s) UnknownRoutine _ e in
    let b = later (has_wrong_count t s) WrongCount _ a.later in
    let c = later_set (first_unset store (reads t s)) _ b.later in
    let f = later (has_wrong_sort t d ins store s) WrongSort _ c.later in
    let g = later (sets_twice t store s) SetTwice _ f.later in
    let h = later (is_badly_declared t d u ins store s) BadDeclaration _ g.later in
    let i = later (is_too_large t d store s) TooLarge None h.later in
    record { known = a.not_here; counted = b.not_here; set = c.set; sorted = f.not_here; once = g.not_here; declared = h.not_here; small = i.not_here }

module _ (t : Theory) (d : Diagram) (u : Subroutine) (ins : List SortId) (store : Store) (s : Statement) (p : Passes t d u ins store s) where
  -- no target holds a term, and none stands twice
  pub free_targets : list_any (is_held store) (targets t s) ≡ false
  free_targets = or_false-left (list_any (is_held store) (targets t s)) (not (are_distinct (targets t s))) p.once

  pub distinct_targets : are_distinct (targets t s) ≡ true
  distinct_targets = false_not (are_distinct (targets t s)) (or_false-right (list_any (is_held store) (targets t s)) (not (are_distinct (targets t s))) p.once)

  abbrev right : Bool
  right = are_targets t d u (target_names t s) (put_sorts t d ins store s)

  -- each target is a name with the right type, and a function applied is declared
  pub right_targets : are_targets t d u (target_names t s) (put_sorts t d ins store s) ≡ true
  right_targets = false_not right (or_false-right (applies_undeclared u s) (not right) (or_false-right (lacks_dummy u) (applies_undeclared u s || not right) p.declared))

  pub applied_declared : applies_undeclared u s ≡ false
  applied_declared = or_false-left (applies_undeclared u s) (not right) (or_false-right (lacks_dummy u) (applies_undeclared u s || not right) p.declared)

-- each statement passes in the store before it, and the end does
abbrev pub AllPass : Theory → Diagram → Subroutine → Store → List Statement → List Term → Type 0
AllPass t d u store [] ts = (lacks_dummy u ≡ false) × (terms_held store (entry_names d.outputs) ≡ Some ts)
AllPass t d u store (s ∷ ss) ts = Passes t d u (entry_sorts d.inputs) store s × AllPass t d u (put t d store s) ss ts

module _ (t : Theory) (d : Diagram) (u : Subroutine) where
  end_passes : (item : ℕ) (store : Store) (ts : List Term) → at_end d u item store ≡ Ok ts → AllPass t d u store [] ts
  end_passes item store ts e = by_test (lacks_dummy u) (terms_held store (entry_names d.outputs)) e
    where
      by_test : (b : Bool) (o : Option (List Term)) → (if b then Err (fault_at item BadDeclaration) else outputs_or_unset item o) ≡ Ok ts → (b ≡ false) × (o ≡ Some ts)
      by_test true o e = absurd cc
      by_test false None e = absurd cc
      by_test false (Some xs) e = let is : xs ≡ ts = cc in (refl, ap Some is)

  -- a step that goes on
  record Stepped (o : Option ExecKind) (new : Store) (rest : Store → Result (List Term) ExecFault) (ts : List Term) : Type 0 where
    passed : o ≡ None
    on : rest new ≡ Ok ts

  stepped : (item : ℕ) (o : Option ExecKind) (new : Store) (rest : Store → Result (List Term) ExecFault) (ts : List Term) → (unless item o new >>= rest) ≡ Ok ts → Stepped o new rest ts
  stepped item None new rest ts e = record { passed = refl; on = e }
  stepped item (Some k) new rest ts e = absurd cc

  pub all_pass : (item : ℕ) (store : Store) (ss : List Statement) (ts : List Term) → stated t d u item store ss ≡ Ok ts → AllPass t d u store ss ts
  all_pass item store [] ts e = end_passes item store ts e
  all_pass item store (s ∷ ss) ts e =
      let p = stepped item (statement_kind t d u (entry_sorts d.inputs) store s) (put t d store s) (λ (next : Store). stated t d u (item + 1) next ss) ts e in
      (passes t d u (entry_sorts d.inputs) store s p.passed, all_pass (item + 1) (put t d store s) ss ts p.on)

  -- each dummy is declared where all statements pass
  pub none_lacks : (store : Store) (ss : List Statement) (ts : List Term) → AllPass t d u store ss ts → lacks_dummy u ≡ false
  none_lacks store [] ts p = p.0
  none_lacks store (s ∷ ss) ts p = none_lacks (put t d store s) ss ts p.1

-- the head, the declarations, the statements and the end pass
pub record UnitPasses (t : Theory) (d : Diagram) (u : Subroutine) (ts : List Term) : Type 0 where
  pub head : is_bad_head d u ≡ false
  pub declarations : bad_declaration t d u [] u.declarations ≡ None
  pub statements : AllPass t d u (inputs_held d.inputs) u.statements ts

pub unit_passes : (t : Theory) (d : Diagram) (u : Subroutine) (ts : List Term) → terms t d u ≡ Ok ts → UnitPasses t d u ts
unfolding terms
unit_passes t d u ts e = by_tests (is_bad_head d u) (bad_declaration t d u [] u.declarations) refl refl e
  where
    by_tests : (b : Bool) (o : Option ℕ) → is_bad_head d u ≡ b → bad_declaration t d u [] u.declarations ≡ o → (if b then Err (fault_at 1 BadDeclaration) else after_declarations t d u o) ≡ Ok ts → UnitPasses t d u ts
    by_tests true o h g e = absurd cc
    by_tests false (Some k) h g e = absurd cc
    by_tests false None h g e = record { head = h; declarations = g; statements = all_pass t d u (length u.declarations + 2) (inputs_held d.inputs) u.statements ts e }
