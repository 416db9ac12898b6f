-- Which faults a declaration of a symbol may have in other surroundings.
use Rattle.std.proofs.Common.{◌≡◌, ℕ, Bool, false, List, refl}
use Rattle.am_syntax.specs.declared.scope.Flaw.TheVariants.{BadSort, BadArity, Unbound}
use Rattle.am_syntax.specs.declared.written.WrittenFormula.{WrittenFormula}
use Rattle.am_syntax.specs.Flaws.{formula_has, has_quantifier}
use Rattle.am_theory.specs.declared.declaration.Typed.{Typed}
use Rattle.am_theory.specs.declared.declaration.Declaration.{Declaration}
use Rattle.am_theory.specs.declared.declaration.Declaration.TheVariants as decl
use Rattle.am_theory.specs.Contents.{Contents, axiom_scope}
use Rattle.am_theory.specs.Faults.{is_early, has_unknown_name, is_twice, any_of, of_stated, has_bad_sort, has_bad_arity, has_unbound, quantifies, is_badly_represented, clashes, is_over_limit}
use Rattle.am_theory.specs.Parts.{parts}
use Rattle.am_theory.proofs.NoFault.{IsFaultless}
use Rattle.am_canon.proofs.Swapped.{DeclaresSymbol}

-- what a formula may have, no symbol has
untested : (test : List Typed → WrittenFormula → Bool) (d : Declaration) → DeclaresSymbol d
    → any_of (of_stated test (parts d)) ≡ false
untested test (decl.Sort n r copy) h = absurd h
untested test (decl.Subsort n s) h = absurd h
untested test (decl.Function n args r) h = refl
untested test (decl.Relation n args) h = refl
untested test (decl.Literal n s v) h = refl
untested test (decl.Routine n inputs outputs) h = refl
untested test (decl.Value f n args r) h = refl
untested test (decl.Axiom vs g) h = absurd h

-- a symbol may stand in a file of each version
timely : (v : ℕ) (d : Declaration) → DeclaresSymbol d → is_early v d ≡ false
timely v (decl.Sort n r copy) h = absurd h
timely v (decl.Subsort n s) h = absurd h
timely v (decl.Function n args r) h = refl
timely v (decl.Relation n args) h = refl
timely v (decl.Literal n s x) h = refl
timely v (decl.Routine n inputs outputs) h = refl
timely v (decl.Value f n args r) h = refl
timely v (decl.Axiom vs g) h = absurd h

-- a symbol without a fault in some surroundings, and without five kinds of fault in others, has none there
pub symbol-faultless : (c b : Contents) (d : Declaration) → DeclaresSymbol d → IsFaultless c d → has_unknown_name b d ≡ false → is_twice b d ≡ false → is_badly_represented b d ≡ false → clashes b d ≡ false → is_over_limit b d ≡ false → IsFaultless b d
unfolding has_bad_sort has_bad_arity has_unbound quantifies
symbol-faultless c b d h k known new represented apart few = record {
  allowed = timely b.version d h;
  known = known;
  new = new;
  sorted = untested (λ vs g. formula_has (axiom_scope b vs) BadSort g) d h;
  counted = untested (λ vs g. formula_has (axiom_scope b vs) BadArity g) d h;
  represented = represented;
  copied = k.copied;
  named = k.named;
  apart = apart;
  bound = untested (λ vs g. formula_has (axiom_scope b vs) Unbound g) d h;
  plain = untested (λ vs g. has_quantifier g) d h;
  few = few;
}
