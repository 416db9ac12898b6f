use Rattle.am_check.proofs.Deciding.{decided-all, refused-all}
use Rattle.am_check.proofs.checking.check.Goals as goal

pub returns-clause-accepted : goal.returns-clause-accepted
returns-clause-accepted c =
    decided-all c.args.theory.now c.args.diagram.now c.args.text.now (c.law_of_refusal.ensures c.args.theory.now c.args.diagram.now c.args.text.now c.requires.theory c.requires.diagram c.requires.small) c.verdict.result c.verdict.ensures

pub returns-clause-refused : goal.returns-clause-refused
returns-clause-refused c =
    refused-all c.args.theory.now c.args.diagram.now c.args.text.now (c.law_of_refusal.ensures c.args.theory.now c.args.diagram.now c.args.text.now c.requires.theory c.requires.diagram c.requires.small) c.verdict.result c.verdict.ensures
