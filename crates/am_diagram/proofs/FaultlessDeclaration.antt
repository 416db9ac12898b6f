-- A declaration without a fault: each kind's test is false.
use Rattle.std.proofs.Common.{◌≡◌, Bool, true, false, Option, Some, None, List, ℕ, refl}
use Rattle.std.specs.Prelude.{not, if◌then◌else◌}
use Rattle.am_term.specs.Names.{is_fortran_name, is_local_name}
use Rattle.am_term.specs.NameLists.{is_among}
use Rattle.am_term.proofs.Tests.{false_not}
use Rattle.am_syntax.proofs.Among.{none_left, none_right}
use Rattle.am_theory.specs.declared.theory.Theory.{Theory}
use Rattle.am_theory.specs.Lookups.{fortran_names}
use Rattle.am_diagram.specs.declared.declaration.Declaration.{Declaration}
use Rattle.am_diagram.specs.declared.draft.Draft.{Draft}
use Rattle.am_diagram.specs.declared.fault.DiagramKind.{DiagramKind}
use Rattle.am_diagram.specs.declared.fault.DiagramKind.TheVariants.{UnknownName, Twice, BadSort, BadArity, NotConcrete, BadFortranName, ReservedName, Unbound, Limit}
use Rattle.am_diagram.specs.Facts.{IsFree}
use Rattle.am_diagram.specs.Faults.{has_unknown_name, is_twice, has_bad_sort, has_bad_arity, has_unbound, is_not_concrete, has_bad_fortran_name, is_reserved_in, has_reserved_name, is_over_limit, first_kind, head_kind}

pub record IsFaultless (t : Theory) (d : Draft) (e : Declaration) : Type 0 where
  pub known : has_unknown_name t d e ≡ false
  pub new : is_twice t d e ≡ false
  pub sorted : has_bad_sort t d e ≡ false
  pub counted : has_bad_arity t d e ≡ false
  pub concrete : is_not_concrete t e ≡ false
  pub named : has_bad_fortran_name e ≡ false
  pub free : has_reserved_name t e ≡ false
  pub bound : has_unbound t d e ≡ false
  pub few : is_over_limit d e ≡ false

-- a test that gives no kind, and what follows
pub first_false : (b : Bool) (k : DiagramKind) (rest : Option DiagramKind) → (if b then Some k else rest) ≡ None → b ≡ false
first_false true k rest e = absurd cc
first_false false k rest e = refl

pub then_none : (b : Bool) (k : DiagramKind) (rest : Option DiagramKind) → (if b then Some k else rest) ≡ None → rest ≡ None
then_none true k rest e = absurd cc
then_none false k rest e = e

pub faultless : (t : Theory) (d : Draft) (e : Declaration) → first_kind t d e ≡ None → IsFaultless t d e
unfolding first_kind
faultless t d e h =
    let h1 = then_none (has_unknown_name t d e) UnknownName _ h in
    let h2 = then_none (is_twice t d e) Twice _ h1 in
    let h3 = then_none (has_bad_sort t d e) BadSort _ h2 in
    let h4 = then_none (has_bad_arity t d e) BadArity _ h3 in
    let h5 = then_none (is_not_concrete t e) NotConcrete _ h4 in
    let h6 = then_none (has_bad_fortran_name e) BadFortranName _ h5 in
    let h7 = then_none (has_reserved_name t e) ReservedName _ h6 in
    let h8 = then_none (has_unbound t d e) Unbound _ h7 in
    record {
      known = first_false (has_unknown_name t d e) UnknownName _ h;
      new = first_false (is_twice t d e) Twice _ h1;
      sorted = first_false (has_bad_sort t d e) BadSort _ h2;
      counted = first_false (has_bad_arity t d e) BadArity _ h3;
      concrete = first_false (is_not_concrete t e) NotConcrete _ h4;
      named = first_false (has_bad_fortran_name e) BadFortranName _ h5;
      free = first_false (has_reserved_name t e) ReservedName _ h6;
      bound = first_false (has_unbound t d e) Unbound _ h7;
      few = first_false (is_over_limit d e) Limit _ h8;
    }

-- a FORTRAN name that is not reserved is free
pub free-by : (t : Theory) (n : List ℕ) → not (is_fortran_name n) ≡ false → is_reserved_in t n ≡ false → IsFree t n
free-by t n e f = record {
  fortran = false_not (is_fortran_name n) e;
  not_local = none_left (is_local_name n) (is_among n (fortran_names t)) f;
  not_theory = none_right (is_local_name n) (is_among n (fortran_names t)) f;
}

-- so is the diagram's own name, where it has no fault
pub free-head : (t : Theory) (n : List ℕ) → head_kind t n ≡ None → IsFree t n
unfolding head_kind
free-head t n e =
    let e1 = then_none (not (is_fortran_name n)) BadFortranName _ e in
    free-by t n (first_false (not (is_fortran_name n)) BadFortranName _ e) (first_false (is_reserved_in t n) ReservedName _ e1)
