-- After each declaration without a fault all is sound.
use Rattle.std.proofs.Common.{◌≡◌, ◌∙◌, ◌+◌, ◌≤◌, ℕ, true, false, List, [], ◌∷◌, ◌++◌, length, sym, ap, subst, arith}
use Rattle.std.specs.Prelude.{not, nat_lt, IsTrue}
use Rattle.std.specs.List.{AllByRecursion}
use Rattle.std.proofs.lemmas.Bool.{ltb-false}
use Rattle.std.proofs.lemmas.List.{length-append}
use Rattle.am_term.specs.Names.{is_name, is_fortran_name}
use Rattle.am_term.specs.NameLists.{is_among, are_distinct}
use Rattle.am_syntax.specs.declared.scope.Flaw.TheVariants as flaw
use Rattle.am_syntax.specs.declared.written.WrittenLiteral.{WrittenLiteral}
use Rattle.am_syntax.proofs.Among.{none_left, none_right}
use Rattle.am_theory.specs.declared.theory.Theory.{Theory}
use Rattle.am_theory.specs.Contents.{contents}
use Rattle.am_theory.specs.Faults.{is_unknown_sort, is_abstract}
use Rattle.am_theory.proofs.Appends.{all-push, all-weaker}
use Rattle.am_theory.proofs.SortNames.{sort-there, concrete-there}
use Rattle.am_diagram.specs.declared.declaration.Declaration.{Declaration}
use Rattle.am_diagram.specs.declared.declaration.Declaration.TheVariants.{Input, Object, Output, Given, Require}
use Rattle.am_diagram.specs.declared.draft.Draft.{Draft}
use Rattle.am_diagram.specs.Listed.{entry_names}
use Rattle.am_diagram.specs.Drafts.{typed, with_decl, given_scope, requirement_scope}
use Rattle.am_diagram.specs.Faults.{used_names, is_taken, is_reserved_in, has_unknown_name, is_twice, has_bad_sort, has_bad_arity, is_not_concrete, has_bad_fortran_name, has_reserved_name, has_unbound, is_over_limit}
use Rattle.am_diagram.specs.Limits.{dummy_limit, object_limit, given_limit, requirement_limit}
use Rattle.am_diagram.proofs.FaultlessDeclaration.{IsFaultless, free-by}
use Rattle.am_diagram.proofs.FlawsMoved.{Keeps, atom-kept}
use Rattle.am_diagram.proofs.NamesPushed.{IsUnused, unused, names-push, distinct-first, distinct-second, distinct-third, input-given, input-required, object-given, object-required, output-given, output-required}
use Rattle.am_diagram.proofs.SoundDraft.{symbol_names, DummySound, ObjectSound, GivenSound, RequirementSound, Sound}
use Rattle.am_diagram.proofs.StandingViews.{Entry}

-- the name of an object is a name
abbrev pub IsNamed : Declaration → Type 0
IsNamed (Input n s) = Unit {0}
IsNamed (Object n s) = IsTrue (is_name n)
IsNamed (Output n s) = Unit {0}
IsNamed (Given l) = Unit {0}
IsNamed (Require l) = Unit {0}

-- ---- one more of a list
few-push : {A : Type 0} (most : ℕ) (xs : List A) (x : A) → nat_lt most (length xs + 1) ≡ false → length (xs ++ x ∷ []) ≤ most
few-push most xs x e = subst (λ k. k ≤ most) (sym (length-append xs (x ∷ []))) (ltb-false most (length xs + 1) e)

more-inputs : (most : ℕ) (is os : List Entry) (x : Entry) → nat_lt most (length is + length os + 1) ≡ false → length (is ++ x ∷ []) + length os ≤ most
more-inputs most is os x e = let h = ltb-false most (length is + length os + 1) e in let k = length-append is (x ∷ []) in omega arith

more-outputs : (most : ℕ) (is os : List Entry) (x : Entry) → nat_lt most (length is + length os + 1) ≡ false → length is + length (os ++ x ∷ []) ≤ most
more-outputs most is os x e = let h = ltb-false most (length is + length os + 1) e in let k = length-append os (x ∷ []) in omega arith

-- ---- literals in a scope that keeps their names
module _ (t : Theory) (d e : Draft) where
  givens-kept : Keeps t (given_scope t d).bound (given_scope t e).bound → (ls : List WrittenLiteral) → AllByRecursion (GivenSound t d) ls → AllByRecursion (GivenSound t e) ls
  givens-kept k = all-weaker (GivenSound t d) (GivenSound t e) (λ l. atom-kept t (given_scope t d).bound (given_scope t e).bound k l.atom)

  required-kept : Keeps t (requirement_scope t d).bound (requirement_scope t e).bound → (ls : List WrittenLiteral) → AllByRecursion (RequirementSound t d) ls → AllByRecursion (RequirementSound t e) ls
  required-kept k = all-weaker (RequirementSound t d) (RequirementSound t e) (λ l. atom-kept t (requirement_scope t d).bound (requirement_scope t e).bound k l.atom)

-- ---- a name that is new
module _ (t : Theory) (d : Draft) (n : List ℕ) (e : is_taken t d n ≡ false) where
  new : IsUnused d n
  new = unused d n (none_left (is_among n (used_names d)) (is_among n (symbol_names t)) e)

  no-symbol : is_among n (symbol_names t) ≡ false
  no-symbol = none_right (is_among n (used_names d)) (is_among n (symbol_names t)) e

-- an input or output without a fault is sound
dummy-sound : (t : Theory) (d : Draft) (n s : List ℕ) → is_taken t d n ≡ false → is_unknown_sort (contents t) s ≡ false → is_abstract (contents t) s ≡ false → not (is_fortran_name n) ≡ false → is_reserved_in t n ≡ false → DummySound t (typed t n s)
dummy-sound t d n s new known concrete named free = record {
  free = free-by t n named free;
  apart = no-symbol t d n new;
  sorted = sort-there (contents t) s known;
  concrete = concrete-there (contents t) s known concrete;
}

module _ (t : Theory) (d : Draft) (k : Sound t d) where
  sound-Input : (n s : List ℕ) → IsFaultless t d (Input n s) → Sound t (with_decl t d (Input n s))
  unfolding with_decl has_unknown_name is_twice is_not_concrete has_bad_fortran_name has_reserved_name is_over_limit
  sound-Input n s f =
      let x = typed t n s in
      let e : Draft = record d { inputs = d.inputs ++ x ∷ [] } in
      let fresh = new t d n f.new in
      record {
        few_dummies = more-inputs dummy_limit d.inputs d.outputs x f.few;
        few_objects = k.few_objects;
        few_givens = k.few_givens;
        few_requirements = k.few_requirements;
        named = k.named;
        inputs = all-push (DummySound t) d.inputs x k.inputs (dummy-sound t d n s f.new f.known f.concrete f.named f.free);
        objects = k.objects;
        outputs = k.outputs;
        distinct =
            ap (λ ns. are_distinct (d.name ∷ (ns ++ entry_names d.objects ++ entry_names d.outputs))) (names-push d.inputs x)
            ∙ distinct-first d.name n (entry_names d.inputs) (entry_names d.objects) (entry_names d.outputs) k.distinct fresh.used;
        givens = givens-kept t d e (input-given t d x (no-symbol t d n f.new) fresh) d.givens k.givens;
        required = required-kept t d e (input-required t d x (no-symbol t d n f.new) fresh) d.required k.required;
      }

  sound-Object : (n s : List ℕ) → is_name n ≡ true → IsFaultless t d (Object n s) → Sound t (with_decl t d (Object n s))
  unfolding with_decl has_unknown_name is_twice is_over_limit
  sound-Object n s named f =
      let x = typed t n s in
      let e : Draft = record d { objects = d.objects ++ x ∷ [] } in
      let fresh = new t d n f.new in
      record {
        few_dummies = k.few_dummies;
        few_objects = few-push object_limit d.objects x f.few;
        few_givens = k.few_givens;
        few_requirements = k.few_requirements;
        named = k.named;
        inputs = k.inputs;
        objects = all-push (ObjectSound t) d.objects x k.objects (record { named = named; apart = no-symbol t d n f.new; sorted = sort-there (contents t) s f.known });
        outputs = k.outputs;
        distinct =
            ap (λ ns. are_distinct (d.name ∷ (entry_names d.inputs ++ ns ++ entry_names d.outputs))) (names-push d.objects x)
            ∙ distinct-second d.name n (entry_names d.inputs) (entry_names d.objects) (entry_names d.outputs) k.distinct fresh.used;
        givens = givens-kept t d e (object-given t d x (no-symbol t d n f.new) fresh) d.givens k.givens;
        required = required-kept t d e (object-required t d x (no-symbol t d n f.new) fresh) d.required k.required;
      }

  sound-Output : (n s : List ℕ) → IsFaultless t d (Output n s) → Sound t (with_decl t d (Output n s))
  unfolding with_decl has_unknown_name is_twice is_not_concrete has_bad_fortran_name has_reserved_name is_over_limit
  sound-Output n s f =
      let x = typed t n s in
      let e : Draft = record d { outputs = d.outputs ++ x ∷ [] } in
      let fresh = new t d n f.new in
      record {
        few_dummies = more-outputs dummy_limit d.inputs d.outputs x f.few;
        few_objects = k.few_objects;
        few_givens = k.few_givens;
        few_requirements = k.few_requirements;
        named = k.named;
        inputs = k.inputs;
        objects = k.objects;
        outputs = all-push (DummySound t) d.outputs x k.outputs (dummy-sound t d n s f.new f.known f.concrete f.named f.free);
        distinct =
            ap (λ ns. are_distinct (d.name ∷ (entry_names d.inputs ++ entry_names d.objects ++ ns))) (names-push d.outputs x)
            ∙ distinct-third d.name n (entry_names d.inputs) (entry_names d.objects) (entry_names d.outputs) k.distinct fresh.used;
        givens = givens-kept t d e (output-given t d x (no-symbol t d n f.new) fresh) d.givens k.givens;
        required = required-kept t d e (output-required t d x (no-symbol t d n f.new) fresh) d.required k.required;
      }

  given-flawless : (l : WrittenLiteral) → IsFaultless t d (Given l) → GivenSound t d l
  unfolding has_unknown_name has_bad_sort has_bad_arity has_unbound
  given-flawless l f flaw.UnknownName = f.known
  given-flawless l f flaw.BadSort = f.sorted
  given-flawless l f flaw.BadArity = f.counted
  given-flawless l f flaw.Unbound = f.bound

  required-flawless : (l : WrittenLiteral) → IsFaultless t d (Require l) → RequirementSound t d l
  unfolding has_unknown_name has_bad_sort has_bad_arity has_unbound
  required-flawless l f flaw.UnknownName = f.known
  required-flawless l f flaw.BadSort = f.sorted
  required-flawless l f flaw.BadArity = f.counted
  required-flawless l f flaw.Unbound = f.bound

  sound-Given : (l : WrittenLiteral) → IsFaultless t d (Given l) → Sound t (with_decl t d (Given l))
  unfolding with_decl is_over_limit
  sound-Given l f = record {
    few_dummies = k.few_dummies;
    few_objects = k.few_objects;
    few_givens = few-push given_limit d.givens l f.few;
    few_requirements = k.few_requirements;
    named = k.named;
    inputs = k.inputs;
    objects = k.objects;
    outputs = k.outputs;
    distinct = k.distinct;
    givens = all-push (GivenSound t d) d.givens l k.givens (given-flawless l f);
    required = k.required;
  }

  sound-Require : (l : WrittenLiteral) → IsFaultless t d (Require l) → Sound t (with_decl t d (Require l))
  unfolding with_decl is_over_limit
  sound-Require l f = record {
    few_dummies = k.few_dummies;
    few_objects = k.few_objects;
    few_givens = k.few_givens;
    few_requirements = few-push requirement_limit d.required l f.few;
    named = k.named;
    inputs = k.inputs;
    objects = k.objects;
    outputs = k.outputs;
    distinct = k.distinct;
    givens = k.givens;
    required = all-push (RequirementSound t d) d.required l k.required (required-flawless l f);
  }

  pub sound-with : (e : Declaration) → IsNamed e → IsFaultless t d e → Sound t (with_decl t d e)
  sound-with (Input n s) h f = sound-Input n s f
  sound-with (Object n s) h f = sound-Object n s h f
  sound-with (Output n s) h f = sound-Output n s f
  sound-with (Given l) h f = sound-Given l f
  sound-with (Require l) h f = sound-Require l f
