use Rattle.std.proofs.Common.{◌≡◌, subst, arith, None}
use Rattle.std.proofs.lemmas.Grind.{common_steps}
use Rattle.am_unify.specs.Mgu.{mgu}
use Rattle.am_unify.specs.Unifier.{IsSolved}
use Rattle.am_unify.proofs.Solved.{mgu-solved}
use Rattle.am_unify.proofs.solving.unify.Goals as goal

-- the recursion gives none
pub returns-in-None-clause-most_general : goal.returns-in-None-clause-most_general
returns-in-None-clause-most_general c sorts h =
    let e : mgu c.args.ctx.now.sig.now c.args.ctx.now.ins.now c.args.pairs.now ≡ None = grind (arith, common_steps) in
    subst (IsSolved c.args.ctx.now.sig.now c.args.ctx.now.ins.now sorts c.args.pairs.now) e (mgu-solved c.args.ctx.now.sig.now c.args.ctx.now.ins.now sorts c.args.pairs.now h)
