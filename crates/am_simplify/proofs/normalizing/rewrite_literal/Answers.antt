use Rattle.am_simplify.proofs.Rewriting.{relation-stands}
use Rattle.am_simplify.proofs.normalizing.rewrite_literal.Goals as goal

pub rewrite_all-requires : goal.rewrite_all-requires
rewrite_all-requires c = relation-stands c.args.clause.now c.args.i c.args.literal.now c.in-Rel.r c.in-Rel.args c.as_slice.result.now c.requires c.in-Rel.is c.as_slice.ensures
