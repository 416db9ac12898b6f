use Rattle.am_rules.proofs.Concluded.{factor-step, reflex-step, resolve-step, para-step, rewrite-step, close-step}
use Rattle.am_rules.proofs.laws.law_of_made_steps.Goals as goal

pub returns : goal.returns
returns c = record {
  factor = λ sig ins p i j m a s e. factor-step sig ins m p a s i j e;
  reflex = λ sig ins p i m a s e. reflex-step sig ins m p a s i e;
  resolve = λ sig ins p i q j m a b s t e. resolve-step sig ins m p q a b s t i j e;
  para = λ sig ins p j side q i path m a b s t e. para-step sig ins m p q a b s t j side i path e;
  rewrite = λ sig ins p side q i path m a b s t e. rewrite-step sig ins m p q a b s t side i path e;
  close = λ sig ins p m a s e. close-step sig ins m p a s e;
}
