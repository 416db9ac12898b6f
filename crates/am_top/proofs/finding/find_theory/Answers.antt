use Rattle.am_top.proofs.Chains.{theory_found}
use Rattle.am_top.proofs.finding.find_theory.Goals as goal

pub returns-in-Ok-clause-found : goal.returns-in-Ok-clause-found
returns-in-Ok-clause-found g c = theory_found c.theories_that_were_read_are_well_formed.ensures _ c.in_ok-bytes.bytes.items c.as_slice.result.now c.in-Ok.theory c.in_ok-bytes.ensures.loaded c.as_slice.ensures.value c.in-Ok.ensures.exact
