-- A declaration without a fault: each kind's test is false.
use Rattle.std.proofs.Common.{◌≡◌, Bool, true, false, Option, Some, None, refl}
use Rattle.std.specs.Prelude.{if◌then◌else◌}
use Rattle.am_theory.specs.declared.declaration.Declaration.{Declaration}
use Rattle.am_theory.specs.declared.fault.TheoryKind.{TheoryKind}
use Rattle.am_theory.specs.declared.fault.TheoryKind.TheVariants.{BadHead, UnknownName, Twice, BadSort, BadArity, BadRep, NoCopy, BadFortranName, NameClash, Unbound, Quantifier, Limit}
use Rattle.am_theory.specs.Contents.{Contents}
use Rattle.am_theory.specs.Faults.{is_early, has_unknown_name, is_twice, has_bad_sort, has_bad_arity, is_badly_represented, lacks_copy, has_bad_fortran_name, clashes, has_unbound, quantifies, is_over_limit, first_kind}

pub record IsFaultless (c : Contents) (d : Declaration) : Type 0 where
  pub allowed : is_early c.version d ≡ false
  pub known : has_unknown_name c d ≡ false
  pub new : is_twice c d ≡ false
  pub sorted : has_bad_sort c d ≡ false
  pub counted : has_bad_arity c d ≡ false
  pub represented : is_badly_represented c d ≡ false
  pub copied : lacks_copy d ≡ false
  pub named : has_bad_fortran_name d ≡ false
  pub apart : clashes c d ≡ false
  pub bound : has_unbound c d ≡ false
  pub plain : quantifies c d ≡ false
  pub few : is_over_limit c d ≡ false

-- a test that gives no kind, and what follows
first_false : (b : Bool) (k : TheoryKind) (rest : Option TheoryKind) → (if b then Some k else rest) ≡ None → b ≡ false
first_false true k rest e = absurd cc
first_false false k rest e = refl

then_none : (b : Bool) (k : TheoryKind) (rest : Option TheoryKind) → (if b then Some k else rest) ≡ None → rest ≡ None
then_none true k rest e = absurd cc
then_none false k rest e = e

pub faultless : (c : Contents) (d : Declaration) → first_kind c d ≡ None → IsFaultless c d
unfolding first_kind
faultless c d e =
    let e0 = then_none (is_early c.version d) BadHead _ e in
    let e1 = then_none (has_unknown_name c d) UnknownName _ e0 in
    let e2 = then_none (is_twice c d) Twice _ e1 in
    let e3 = then_none (has_bad_sort c d) BadSort _ e2 in
    let e4 = then_none (has_bad_arity c d) BadArity _ e3 in
    let e5 = then_none (is_badly_represented c d) BadRep _ e4 in
    let e6 = then_none (lacks_copy d) NoCopy _ e5 in
    let e7 = then_none (has_bad_fortran_name d) BadFortranName _ e6 in
    let e8 = then_none (clashes c d) NameClash _ e7 in
    let e9 = then_none (has_unbound c d) Unbound _ e8 in
    let e10 = then_none (quantifies c d) Quantifier _ e9 in
    record {
      allowed = first_false (is_early c.version d) BadHead _ e;
      known = first_false (has_unknown_name c d) UnknownName _ e0;
      new = first_false (is_twice c d) Twice _ e1;
      sorted = first_false (has_bad_sort c d) BadSort _ e2;
      counted = first_false (has_bad_arity c d) BadArity _ e3;
      represented = first_false (is_badly_represented c d) BadRep _ e4;
      copied = first_false (lacks_copy d) NoCopy _ e5;
      named = first_false (has_bad_fortran_name d) BadFortranName _ e6;
      apart = first_false (clashes c d) NameClash _ e7;
      bound = first_false (has_unbound c d) Unbound _ e8;
      plain = first_false (quantifies c d) Quantifier _ e9;
      few = first_false (is_over_limit c d) Limit _ e10;
    }
