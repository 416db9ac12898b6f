-- A declaration with none of the faults has no first fault.
use Rattle.std.proofs.Common.{◌≡◌, ◌∙◌, Bool, false, Option, Some, None, refl, ap}
use Rattle.std.specs.Prelude.{if◌then◌else◌}
use Rattle.am_theory.specs.declared.declaration.Declaration.{Declaration}
use Rattle.am_theory.specs.declared.fault.TheoryKind.{TheoryKind}
use Rattle.am_theory.specs.declared.fault.TheoryKind.TheVariants.{BadHead, UnknownName, Twice, BadSort, BadArity, BadRep, NoCopy, BadFortranName, NameClash, Unbound, Quantifier, Limit}
use Rattle.am_theory.specs.Contents.{Contents}
use Rattle.am_theory.specs.Faults.{first_kind}
use Rattle.am_theory.proofs.NoFault.{IsFaultless}

abbrev none_of : Option TheoryKind
none_of = None

-- one more test that fails
before_it : (b : Bool) (k : TheoryKind) (behind : Option TheoryKind) → b ≡ false → behind ≡ none_of → (if b then Some k else behind) ≡ none_of
before_it b k behind e f = ap (λ x. if x then Some k else behind) e ∙ f

pub first-none : (c : Contents) (d : Declaration) → IsFaultless c d → first_kind c d ≡ None
unfolding first_kind
first-none c d k =
    before_it _ BadHead _ k.allowed
    (before_it _ UnknownName _ k.known
    (before_it _ Twice _ k.new
    (before_it _ BadSort _ k.sorted
    (before_it _ BadArity _ k.counted
    (before_it _ BadRep _ k.represented
    (before_it _ NoCopy _ k.copied
    (before_it _ BadFortranName _ k.named
    (before_it _ NameClash _ k.apart
    (before_it _ Unbound _ k.bound
    (before_it _ Quantifier _ k.plain
    (before_it _ Limit None k.few refl)))))))))))
