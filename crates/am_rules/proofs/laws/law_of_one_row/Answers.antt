use Rattle.am_clause.specs.Rules.{factor, reflex, resolve, para}
use Rattle.am_rules.specs.Binding.{Binds, BindsOne, OfOne, OfTwo, of_one, of_two}
use Rattle.am_rules.specs.Resolution.{ResolveMeets, resolvent}
use Rattle.am_rules.specs.Paramodulation.{ParaMeets, paramodulant}
use Rattle.am_rules.specs.Alone.{FactorMeets, ReflexMeets, kept}
use Rattle.am_rules.proofs.Numberings.{made-unique}
use Rattle.am_rules.proofs.Alones.{factor-natural, reflex-natural}
use Rattle.am_rules.proofs.Resolvents.{resolution-natural}
use Rattle.am_rules.proofs.Paramodulants.{para-natural}
use Rattle.am_rules.proofs.TiedParts.{para-tied}
use Rattle.am_rules.proofs.Closings.{closing-unique}
use Rattle.am_rules.proofs.Answering.{one-made, two-made}
use Rattle.am_rules.proofs.Tied.{factor-tied, reflex-tied, resolve-tied}
use Rattle.am_rules.proofs.laws.law_of_one_row.Goals as goal

pub returns : goal.returns
returns c = record {
  factor = λ sig ins p i j m n a g h. made-unique sig ins (OfOne (BindsOne sig ins p (FactorMeets p i j))) (of_one (kept p 0)) (factor-natural sig ins p a i j) m n
      (one-made sig ins (factor i j) p (FactorMeets p i j) (kept p 0) (factor-tied sig ins p i j) m g) (one-made sig ins (factor i j) p (FactorMeets p i j) (kept p 0) (factor-tied sig ins p i j) n h);
  reflex = λ sig ins p i m n a g h. made-unique sig ins (OfOne (BindsOne sig ins p (ReflexMeets p i))) (of_one (kept p i)) (reflex-natural sig ins p a i) m n
      (one-made sig ins (reflex i) p (ReflexMeets p i) (kept p i) (reflex-tied sig ins p i) m g) (one-made sig ins (reflex i) p (ReflexMeets p i) (kept p i) (reflex-tied sig ins p i) n h);
  resolve = λ sig ins p i q j m n a b g h. made-unique sig ins (OfTwo (Binds sig ins p q (ResolveMeets p i q j))) (of_two (resolvent p i q j)) (resolution-natural sig ins p i q j a b) m n
      (two-made sig ins (resolve i j) p q (ResolveMeets p i q j) (resolvent p i q j) (resolve-tied sig ins p i q j) m g) (two-made sig ins (resolve i j) p q (ResolveMeets p i q j) (resolvent p i q j) (resolve-tied sig ins p i q j) n h);
  para = λ sig ins p j side q i path m n a b g h. made-unique sig ins (OfTwo (Binds sig ins p q (ParaMeets p j side q i path))) (of_two (paramodulant p j side q i path)) (para-natural sig ins p j side q i path a b) m n
      (two-made sig ins (para j side i path) p q (ParaMeets p j side q i path) (paramodulant p j side q i path) (para-tied sig ins p j side q i path) m g) (two-made sig ins (para j side i path) p q (ParaMeets p j side q i path) (paramodulant p j side q i path) (para-tied sig ins p j side q i path) n h);
  close = closing-unique;
}
