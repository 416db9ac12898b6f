use Rattle.std.proofs.Common.{◌∙◌}
use Rattle.am_demo.specs.Files.{theory_text}
use Rattle.am_top.proofs.Chains.{theory_read}
use Rattle.am_top.proofs.demonstrating.demo_theory.Goals as goal

pub returns-in-Ok : goal.returns-in-Ok
returns-in-Ok c = theory_read c.theories_that_were_read_are_well_formed.ensures (theory_text c.args.k) c.as_slice.result.now c.in-Ok.theory (c.as_slice.ensures.value ∙ c.in_ok-text.ensures) c.in-Ok.ensures.exact
