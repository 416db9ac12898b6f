use Rattle.am_top.specs.declared.answer.Answer.TheVariants.{NoMemory}
use Rattle.am_top.proofs.Growth.{usage_failed, message_put}
use Rattle.am_top.proofs.printing.print.Goals as goal

pub returns-in-Usage-clause-failed : goal.returns-in-Usage-clause-failed
returns-in-Usage-clause-failed g c = λ w. usage_failed _ _ _ _ c.in-Usage.is (c.refuse.ensures.part w) (c.refuse.ensures.failed w)

pub returns-in-NoMemory-clause-message : goal.returns-in-NoMemory-clause-message
returns-in-NoMemory-clause-message g c = λ w. message_put c.args.answer.now NoMemory _ _ c.in-NoMemory.is (c.refuse-in-NoMemory.ensures.told w)
