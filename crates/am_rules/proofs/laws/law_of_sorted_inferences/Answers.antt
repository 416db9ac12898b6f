use Rattle.am_clause.specs.Rules.{factor, reflex, resolve}
use Rattle.am_rules.specs.Resolution.{ResolveMeets, resolvent}
use Rattle.am_rules.specs.Alone.{FactorMeets, ReflexMeets, kept}
use Rattle.am_rules.proofs.Closings.{closing-sorted}
use Rattle.am_rules.proofs.Answering.{one-made, two-made}
use Rattle.am_rules.proofs.Tied.{factor-tied, reflex-tied, resolve-tied}
use Rattle.am_rules.proofs.SortedMade.{alone-sorted, resolved-sorted}
use Rattle.am_rules.proofs.laws.law_of_sorted_inferences.Goals as goal

pub returns : goal.returns
returns c = record {
  factor = λ sig ins p i j m a s h. alone-sorted sig ins p 0 (FactorMeets p i j) m a s (one-made sig ins (factor i j) p (FactorMeets p i j) (kept p 0) (factor-tied sig ins p i j) m h);
  reflex = λ sig ins p i m a s h. alone-sorted sig ins p i (ReflexMeets p i) m a s (one-made sig ins (reflex i) p (ReflexMeets p i) (kept p i) (reflex-tied sig ins p i) m h);
  resolve = λ sig ins p i q j m a b s t h. resolved-sorted sig ins p i q j m a b s t (two-made sig ins (resolve i j) p q (ResolveMeets p i q j) (resolvent p i q j) (resolve-tied sig ins p i q j) m h);
  close = closing-sorted;
}
