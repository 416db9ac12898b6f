use Rattle.am_top.proofs.Chains.{diagram_found}
use Rattle.am_top.proofs.finding.find_diagram.Goals as goal

pub returns-in-Ok-clause-found : goal.returns-in-Ok-clause-found
returns-in-Ok-clause-found g c = diagram_found c.diagrams_that_were_read_are_well_formed.ensures c.args.theory.now _ c.in_ok-bytes.bytes.items c.as_slice.result.now c.in-Ok.diagram c.requires c.in_ok-bytes.ensures.loaded c.as_slice.ensures.value c.in-Ok.ensures.exact
