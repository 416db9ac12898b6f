-- A unit whose run by terms has no fault keeps the rules, and is right where its terms' values are.
use Rattle.std.proofs.Common.{◌≡◌, ◌∙◌, ◌⊎◌, ◌++◌, ◌||◌, ◌≤◌, ◌+◌, ℕ, zero, suc, true, false, Bool, refl, sym, ap, subst, arith, List, [], ◌∷◌, Option, Some, None, map, length, take, drop, cond, is_some, slice_get, true≢false, if◌then◌else◌}
use Rattle.std.specs.List.{flat_map, AllByRecursion}
use Rattle.std.specs.Str.{bytes_eq}
use Rattle.am_term.specs.declared.id.SortId.{SortId}
use Rattle.am_term.specs.declared.term.Term.{Term}
use Rattle.am_term.specs.declared.term.Term.TheVariants.{In}
use Rattle.am_term.specs.NameLists.{is_among, are_distinct}
use Rattle.am_term.specs.Sorting.{sort_of, sorts_of, sort_of-In}
use Rattle.am_term.proofs.Tests.{and_right, never_both, fails}
use Rattle.am_world.specs.Value.{values}
use Rattle.am_theory.specs.declared.theory.Routine.{Routine}
use Rattle.am_theory.specs.declared.theory.Theory.{Theory}
use Rattle.am_theory.specs.Lookups.{rep_of, routine_named}
use Rattle.am_theory.specs.Facts.{WellFormed}
use Rattle.am_diagram.specs.declared.diagram.Diagram.{Diagram}
use Rattle.am_diagram.specs.Listed.{entry_names, entry_sorts}
use Rattle.am_fortran.specs.declared.statement.Decl.{Decl}
use Rattle.am_fortran.specs.declared.statement.Statement.{Statement}
use Rattle.am_fortran.specs.declared.statement.Statement.TheVariants.{Call, Assign, Apply}
use Rattle.am_fortran.specs.declared.unit.Unit.{Unit as Subroutine}
use Rattle.am_exec.specs.Run.{name_in}
use Rattle.am_exec.specs.Types.{dummy_type, local_type, type_by}
use Rattle.am_exec.specs.Lawful.{dummies_of, typed_name, listed_target, call_targets, targets, HasTypeOf, IsLocal, IsDeclaredFunction, Lawful}
use Rattle.am_exec.specs.Laws.{KeepsRules, RunsByTerms, IsRightByTerms}
use Rattle.am_exec.specs.States.{Store, term_held, is_held, inputs_held_from, inputs_held, entries_held}
use Rattle.am_exec.specs.Effects.{set_by_call, target_names, put_terms, put_sorts, put}
use Rattle.am_exec.specs.ItemFaults.{is_target, are_targets}
use Rattle.am_exec.proofs.Names.{is_among-append}
use Rattle.am_exec.proofs.Held.{eq_is, eq_same, eq_flip, or_else, or_both, held-append}
use Rattle.am_exec.proofs.Listed.{distinct-append, none-passes}
use Rattle.am_exec.proofs.Declared.{FollowDummies, head-named, head-dummies, dummies-counted, dummies-followed, dummies-typed, dummy-declared, behind-dummies, declared-once, enough-declared}
use Rattle.am_exec.proofs.Passing.{Passes, free_targets, distinct_targets, right_targets, AllPass, none_lacks, UnitPasses, unit_passes}
use Rattle.am_exec.proofs.Typing.{put-sorted}
use Rattle.am_exec.proofs.Ruled.{TypedTerm, Typed, Behind, statements-lawful}
use Rattle.am_exec.proofs.Valued.{unit-ran, names-listed}

-- names that a statement sets, by what stands at its targets
targets-listed : (t : Theory) (s : Statement) → targets t s ≡ flat_map listed_target (target_names t s)
targets-listed t (Call n args) = by_routine (routine_named t n)
  where
    by_routine : (o : Option Routine) → call_targets o args ≡ flat_map listed_target (map name_in (set_by_call o args))
    by_routine (Some r) = names-listed (drop (length r.inputs) args)
    by_routine None = names-listed (drop 1 args)
targets-listed t (Assign target from) = refl
targets-listed t (Apply target n args) = refl

held-stays : (xs ys : Store) (n : List ℕ) → is_held xs n ≡ true → is_held (xs ++ ys) n ≡ true
held-stays xs ys n e = ap is_some (held-append xs ys n) ∙ by_term (term_held xs n) e
  where
    by_term : (o : Option Term) → is_some o ≡ true → is_some (or_else o (term_held ys n)) ≡ true
    by_term None e = absurd (true≢false (sym e))
    by_term (Some x) e = refl

held-new : (xs ys : Store) (n : List ℕ) → is_held ys n ≡ true → is_held (xs ++ ys) n ≡ true
held-new xs ys n e = ap is_some (held-append xs ys n) ∙ by_term (term_held xs n)
  where
    by_term : (o : Option Term) → is_some (or_else o (term_held ys n)) ≡ true
    by_term None = e
    by_term (Some x) = refl

module _ (t : Theory) (d : Diagram) (u : Subroutine) (h : WellFormed t) where
  abbrev ins : List SortId
  ins = entry_sorts d.inputs

  -- each target holds a term afterwards
  entries-held : (ns : List (Option (List ℕ))) (ss : List (Option SortId)) (xs : List Term) (n : List ℕ) → are_targets t d u ns ss ≡ true → sorts_of t.sig ins xs ≡ ss → is_among n (flat_map listed_target ns) ≡ true → is_held (entries_held ns xs) n ≡ true
  entries-held [] ss xs n e g i = absurd (true≢false (sym i))
  entries-held (m ∷ ns) [] xs n e g i = absurd (true≢false (sym e))
  entries-held (None ∷ ns) (s ∷ ss) xs n e g i = absurd (true≢false (sym e))
  entries-held (Some m ∷ ns) (s ∷ ss) [] n e g i = absurd cc
  entries-held (Some m ∷ ns) (s ∷ ss) (x ∷ xs) n e g i =
      let rest : sorts_of t.sig ins xs ≡ ss = cc in
      by_test (bytes_eq m n) refl (λ j. entries-held ns ss xs n (and_right (is_target t d u (Some m) s) (are_targets t d u ns ss) e) rest j)
    where
      by_test : (b : Bool) → bytes_eq m n ≡ b → (is_among n (flat_map listed_target ns) ≡ true → is_held (entries_held ns xs) n ≡ true) → is_some (cond b (Some x) (term_held (entries_held ns xs) n)) ≡ true
      by_test true is later = refl
      by_test false is later = later (other (bytes_eq n m) refl i)
        where
          other : (b : Bool) → bytes_eq n m ≡ b → (b || is_among n (flat_map listed_target ns)) ≡ true → is_among n (flat_map listed_target ns) ≡ true
          other true flip i = never_both (bytes_eq m n) (eq_flip n m flip) is
          other false flip i = i

  target-held : (store : Store) (s : Statement) (n : List ℕ) → Passes t d u ins store s → is_among n (targets t s) ≡ true → is_held (put t d store s) n ≡ true
  target-held store s n p i =
      held-new store (entries_held (target_names t s) (put_terms t d store s)) n
      (entries-held (target_names t s) (put_sorts t d ins store s) (put_terms t d store s) n (right_targets t d u ins store s p) (put-sorted t h ins d u store s p) (sym (ap (is_among n) (targets-listed t s)) ∙ i))

  -- no name is a target twice, and none that holds a term is one
  record SetOnce (store : Store) (ss : List Statement) : Type 0 where
    distinct : are_distinct (flat_map (targets t) ss) ≡ true
    apart : (n : List ℕ) → is_held store n ≡ true → is_among n (flat_map (targets t) ss) ≡ false

  set-once : (store : Store) (ss : List Statement) (ts : List Term) → AllPass t d u store ss ts → SetOnce store ss
  set-once store [] ts p = record { distinct = refl; apart = λ n e. refl }
  set-once store (s ∷ ss) ts p =
      let rest = set-once (put t d store s) ss ts p.1 in
      record {
        distinct = distinct-append (targets t s) (flat_map (targets t) ss) (distinct_targets t d u ins store s p.0) rest.distinct (λ n i. rest.apart n (target-held store s n p.0 i));
        apart = λ n e. is_among-append n (targets t s) (flat_map (targets t) ss)
            ∙ or_both (is_among n (targets t s)) (is_among n (flat_map (targets t) ss))
            (fails (is_among n (targets t s)) (λ i. never_both (is_held store n) e (none-passes (is_held store) n (targets t s) (free_targets t d u ins store s p.0) i)))
            (rest.apart n (held-stays store (entries_held (target_names t s) (put_terms t d store s)) n e));
      }

  module _ (ts : List Term) (p : UnitPasses t d u ts) where
    followed : FollowDummies t u (dummies_of d) u.declarations
    followed = dummies-followed t d u p.declarations

    counted : length u.dummies ≡ length (dummies_of d)
    counted = dummies-counted d u p.head

    enough : length (dummies_of d) ≤ length u.declarations
    enough = let e = enough-declared u (none_lacks t d u (inputs_held d.inputs) u.statements ts p.statements) in omega (arith, e, counted)

    behind : Behind t d u h
    behind = subst (λ (k : ℕ). AllByRecursion (λ (e : Decl). IsLocal t u e ⊎ IsDeclaredFunction t e) (drop k u.declarations)) (sym counted) (behind-dummies t u (dummies_of d) u.declarations followed)

    -- a dummy has the type of its sort
    dummy-has-type : (k : ℕ) (r : List ℕ × SortId) → slice_get (dummies_of d) k ≡ Some r → HasTypeOf t u r.0 r.1
    dummy-has-type k r at =
        let e = dummy-declared t u (dummies_of d) u.declarations k r followed enough at in
        record { decl = e.0; there = e.1; named = e.2; typed = e.3 ∙ sym (ap (λ (b : Bool). if b then type_by dummy_type (rep_of t r.1) else type_by local_type (rep_of t r.1)) (ap (is_among r.0) (head-dummies d u p.head) ∙ named-at (dummies_of d) k r at)) }
      where
        named-at : (es : List (List ℕ × SortId)) (k : ℕ) (r : List ℕ × SortId) → slice_get es k ≡ Some r → is_among r.0 (entry_names es) ≡ true
        named-at [] k r at = absurd cc
        named-at (e ∷ es) zero r at = let is : e ≡ r = cc in ap (λ b. b || is_among r.0 (entry_names es)) (subst (λ (x : List ℕ × SortId). bytes_eq r.0 x.0 ≡ true) (sym is) (eq_same r.0))
        named-at (e ∷ es) (suc k) r at = subst (λ (b : Bool). (bytes_eq r.0 e.0 || b) ≡ true) (sym (named-at es k r at)) (either (bytes_eq r.0 e.0))
          where
            either : (b : Bool) → (b || true) ≡ true
            either true = refl
            either false = refl

    get-front : (xs ys : List (List ℕ × SortId)) (k : ℕ) (r : List ℕ × SortId) → slice_get xs k ≡ Some r → slice_get (xs ++ ys) k ≡ Some r
    get-front [] ys k r at = absurd cc
    get-front (x ∷ xs) ys zero r at = at
    get-front (x ∷ xs) ys (suc k) r at = get-front xs ys k r at

    -- at the start each input's name has the type of its sort
    starting : (ds : List (List ℕ × SortId)) (k : ℕ) → ((i : ℕ) (r : List ℕ × SortId) → slice_get ds i ≡ Some r → (slice_get ins (k + i) ≡ Some r.1) × HasTypeOf t u r.0 r.1) → Typed t d u h (inputs_held_from k ds)
    starting [] k g n x is = absurd cc
    starting (r ∷ ds) k g n x is = by_test (bytes_eq r.0 n) refl (starting ds (suc k) (λ i q at. let more = g (suc i) q at in (ap (slice_get ins) (moved i) ∙ more.0, more.1)) n x) is
      where
        moved : (i : ℕ) → suc k + i ≡ k + suc i
        moved i = omega arith

        by_test : (b : Bool) → bytes_eq r.0 n ≡ b → (term_held (inputs_held_from (suc k) ds) n ≡ Some x → TypedTerm t d u h n x) → cond b (Some (In k)) (term_held (inputs_held_from (suc k) ds) n) ≡ Some x → TypedTerm t d u h n x
        by_test true eq later is =
            let same : In k ≡ x = cc in
            let here = g 0 r refl in
            record {
              sort = r.1;
              sorted = subst (λ (y : Term). sort_of t.sig ins y ≡ Some r.1) same (sort_of-In t.sig ins k ∙ ap (slice_get ins) (omega arith) ∙ here.0);
              typed = subst (λ (m : List ℕ). HasTypeOf t u m r.1) (eq_is r.0 n eq) here.1;
            }
        by_test false eq later is = later is

    sort-at : (es : List (List ℕ × SortId)) (k : ℕ) (r : List ℕ × SortId) → slice_get es k ≡ Some r → slice_get (entry_sorts es) k ≡ Some r.1
    sort-at [] k r at = absurd cc
    sort-at (e ∷ es) zero r at = let is : e ≡ r = cc in ap (λ (x : List ℕ × SortId). Some x.1) is
    sort-at (e ∷ es) (suc k) r at = sort-at es k r at

    inputs-typed : Typed t d u h (inputs_held d.inputs)
    inputs-typed = starting d.inputs 0 (λ i r at. (ap (slice_get ins) (omega arith) ∙ sort-at d.inputs i r at, dummy-has-type i r (get-front d.inputs d.outputs i r at)))

    pub unit-lawful : Lawful t d u
    unit-lawful = record {
      named = head-named d u p.head;
      dummies = head-dummies d u p.head;
      declared = ap (λ (k : ℕ). map typed_name (take k u.declarations)) counted ∙ dummies-typed t u (dummies_of d) u.declarations followed enough;
      behind = behind;
      declared_once = declared-once t d u p.declarations;
      statements = statements-lawful t d u h behind (inputs_held d.inputs) u.statements ts inputs-typed p.statements;
      set_once = (set-once (inputs_held d.inputs) u.statements ts p.statements).distinct;
    }

pub units-lawful : KeepsRules
units-lawful t d u ts h e = unit-lawful t d u h ts (unit_passes t d u ts e)

pub units-run : RunsByTerms
units-run w t d u ins a ts members e =
    let r = unit-ran w ins a t d u ts members (unit_passes t d u ts e) in
    record { end = r.end; runs = r.runs; hold = r.hold }

pub units-right : IsRightByTerms
units-right w t d u ts h e meets = record {
  lawful = units-lawful t d u ts h e;
  solves = λ ins given.
      let served = meets ins given in
      let r = units-run w t d u ins served.0 ts given.members e in
      record { end = r.end; runs = r.runs; outs = values w ins served.0 ts; hold = r.hold; meets = served.1 };
}
