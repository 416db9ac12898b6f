use Rattle.std.proofs.Common.{ap}
use Rattle.am_simplify.specs.NormalStep.{step_by}
use Rattle.am_simplify.proofs.Ordering.{picked-more, units-added, units-alone}
use Rattle.am_simplify.proofs.laws.law_of_units.Goals as goal

pub returns : goal.returns
returns c = record {
  alone = λ sig ins rows clause. ap (λ us. step_by sig ins us clause) (units-alone sig rows);
  added = λ sig row rows h. units-added sig row rows h;
  picked = λ p q row before behind h same lacks holds. picked-more p q row before behind h same lacks holds;
}
