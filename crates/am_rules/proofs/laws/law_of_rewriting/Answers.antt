use Rattle.am_rules.proofs.Concluded.{rewritten-answers}
use Rattle.am_rules.proofs.laws.law_of_rewriting.Goals as goal

pub returns : goal.returns
returns c = λ sig ins p side q i path a b s t. rewritten-answers sig ins p q a b s t side i path
