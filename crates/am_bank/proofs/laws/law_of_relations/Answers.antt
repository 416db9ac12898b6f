use Rattle.std.proofs.Common.{◌∙◌, ap, option_and_then}
use Rattle.am_bank.specs.Stands.{relation_of, relation_of-App}
use Rattle.am_bank.proofs.laws.law_of_relations.Goals as goal

pub returns : goal.returns
returns c = λ ns id r args e. ap (option_and_then relation_of) e ∙ relation_of-App r args
