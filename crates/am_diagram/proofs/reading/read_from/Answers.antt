use Rattle.std.proofs.Common.{◌∙◌, sym, arith}
use Rattle.am_diagram.proofs.ReadSteps.{read_end, read_steps}
use Rattle.am_diagram.proofs.reading.read_from.Goals as goal

pub returns : goal.returns
returns c = sym c.loop-rest.invariant ∙ read_end c.args.tables.now.theory.now c.loop-rest.draft c.loop-rest.rest.now c.in_default.len_below

pub loop-rest-preserved : goal.loop-rest-preserved
loop-rest-preserved c = grind (arith, read_steps)
