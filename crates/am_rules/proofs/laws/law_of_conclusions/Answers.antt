use Rattle.am_rules.proofs.Concluded.{factored-answers, reflexed-answers, resolved-answers, paramodulated-answers, closed-answers}
use Rattle.am_rules.proofs.laws.law_of_conclusions.Goals as goal

pub returns : goal.returns
returns c = record {
  factor = λ sig ins p i j a s. factored-answers sig ins p a s i j;
  reflex = λ sig ins p i a s. reflexed-answers sig ins p a s i;
  resolve = λ sig ins p i q j a b s t. resolved-answers sig ins p q a b s t i j;
  para = λ sig ins p j side q i path a b s t. paramodulated-answers sig ins p q a b s t j side i path;
  close = closed-answers;
}
