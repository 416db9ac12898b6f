use Rattle.std.proofs.Common.{Some, None}
use Rattle.am_sharing.proofs.Matched.{answered}
use Rattle.am_sharing.proofs.matching.matches_tabled.Goals as goal

pub returns-in-Some-clause-answer : goal.returns-in-Some-clause-answer
returns-in-Some-clause-answer c sorts a b e h sorted =
    answered c.args.ctx.now.sig.now c.args.ctx.now.ins.now c.args.bank.now sorts c.args.pattern.0 c.args.term.0 a b c.new-none.result c.new-none.ensures e h sorted
    c.in_ok-found.field-0 (Some c.in-Some.found) c.in-Some.is c.in_ok-found.ensures.within c.in_ok-found.ensures.is

pub returns-clause-answer : goal.returns-clause-answer
returns-clause-answer c sorts a b e h sorted =
    answered c.args.ctx.now.sig.now c.args.ctx.now.ins.now c.args.bank.now sorts c.args.pattern.0 c.args.term.0 a b c.new-none.result c.new-none.ensures e h sorted
    c.in_ok-found.field-0 None c.in-None.is c.in_ok-found.ensures.within c.in_ok-found.ensures.is
