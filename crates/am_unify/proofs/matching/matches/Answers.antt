use Rattle.std.proofs.Common.{◌≡◌, subst, arith, Some, None, []}
use Rattle.std.proofs.lemmas.Grind.{common_steps}
use Rattle.am_unify.specs.Matching.{IsMatched, matched}
use Rattle.am_unify.proofs.Matched.{matched-answer}
use Rattle.am_unify.proofs.matching.matches.Goals as goal

pub returns-in-Some : goal.returns-in-Some
returns-in-Some c sorts h =
    let e : matched c.args.ctx.now.sig.now c.args.ctx.now.ins.now c.args.pattern.now c.args.term.now [] ≡ Some c.in-Some.found = grind (arith, common_steps) in
    subst (IsMatched c.args.ctx.now.sig.now c.args.ctx.now.ins.now sorts c.args.pattern.now c.args.term.now) e (matched-answer c.args.ctx.now.sig.now c.args.ctx.now.ins.now sorts c.args.pattern.now c.args.term.now h)

pub returns-in-None : goal.returns-in-None
returns-in-None c sorts h =
    let e : matched c.args.ctx.now.sig.now c.args.ctx.now.ins.now c.args.pattern.now c.args.term.now [] ≡ None = grind (arith, common_steps) in
    subst (IsMatched c.args.ctx.now.sig.now c.args.ctx.now.ins.now sorts c.args.pattern.now c.args.term.now) e (matched-answer c.args.ctx.now.sig.now c.args.ctx.now.ins.now sorts c.args.pattern.now c.args.term.now h)
