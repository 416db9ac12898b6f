-- Of a sort without a fault the representation is in range, or the sort above it is known.
use Rattle.std.proofs.Common.{◌≡◌, ℕ, Bool, true, false, cond, List, Option, Some, None, refl, subst}
use Rattle.std.specs.Prelude.{◌||◌, IfSome}
use Rattle.am_theory.specs.declared.declaration.WrittenRep.{WrittenRep}
use Rattle.am_theory.specs.declared.declaration.Declaration.{Declaration}
use Rattle.am_theory.specs.declared.declaration.Declaration.TheVariants as decl
use Rattle.am_theory.specs.declared.fault.TheoryKind.{TheoryKind}
use Rattle.am_theory.specs.Contents.{Contents}
use Rattle.am_theory.specs.Faults.{first_kind, is_early, has_unknown_name, is_unknown_sort, is_twice, has_bad_sort, has_bad_arity, is_badly_represented, is_bad_rep, is_bad_sort_rep}

abbrev pub no_kind : Option TheoryKind
no_kind = None

-- where a chain of tests ends in none, its first test fails
passed : (b : Bool) (k : TheoryKind) (r : Option TheoryKind) → cond b (Some k) r ≡ no_kind → (b ≡ false) × (r ≡ no_kind)
passed true k r h = absurd cc
passed false k r h = (refl, h)

not-bad : (c : Contents) (d : Declaration) → first_kind c d ≡ no_kind → is_badly_represented c d ≡ false
unfolding first_kind
not-bad c d h =
    let allowed = passed (is_early c.version d) _ _ h in
    let known = passed (has_unknown_name c d) _ _ allowed.1 in
    let once = passed (is_twice c d) _ _ known.1 in
    let sorted = passed (has_bad_sort c d) _ _ once.1 in
    let counted = passed (has_bad_arity c d) _ _ sorted.1 in
    (passed (is_badly_represented c d) _ _ counted.1).0

neither : (a b : Bool) → (a || b) ≡ false → (a ≡ false) × (b ≡ false)
neither true b h = absurd cc
neither false b h = (refl, h)

in-range : (r : Option WrittenRep) (copy : Option (List ℕ)) → is_bad_sort_rep r copy ≡ false → IfSome r (λ x. is_bad_rep x ≡ false)
in-range None copy h = tt
in-range (Some r) copy h = (neither (is_bad_rep r) _ h).0

pub sort-in-range : (c : Contents) (d : Declaration) (n : List ℕ) (r : Option WrittenRep) (copy : Option (List ℕ)) → d ≡ decl.Sort n r copy → first_kind c d ≡ no_kind → IfSome r (λ x. is_bad_rep x ≡ false)
unfolding is_badly_represented
sort-in-range c d n r copy e h = in-range r copy (not-bad c (decl.Sort n r copy) (subst (λ (x : Declaration). first_kind c x ≡ no_kind) e h))

known-sort : (c : Contents) (d : Declaration) → first_kind c d ≡ no_kind → has_unknown_name c d ≡ false
unfolding first_kind
known-sort c d h =
    let allowed = passed (is_early c.version d) _ _ h in
    (passed (has_unknown_name c d) _ _ allowed.1).0

pub subsort-known : (c : Contents) (d : Declaration) (n s : List ℕ) → d ≡ decl.Subsort n s → first_kind c d ≡ no_kind → is_unknown_sort c s ≡ false
unfolding has_unknown_name
subsort-known c d n s e h = known-sort c (decl.Subsort n s) (subst (λ (x : Declaration). first_kind c x ≡ no_kind) e h)
