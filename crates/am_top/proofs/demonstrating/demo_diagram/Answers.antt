use Rattle.std.proofs.Common.{◌∙◌}
use Rattle.am_demo.specs.Files.{diagram_text}
use Rattle.am_top.proofs.Chains.{diagram_read}
use Rattle.am_top.proofs.demonstrating.demo_diagram.Goals as goal

pub returns-in-Ok : goal.returns-in-Ok
returns-in-Ok c =
    diagram_read c.diagrams_that_were_read_are_well_formed.ensures c.args.theory.now (diagram_text c.args.k) c.as_slice.result.now c.in-Ok.diagram c.requires.theory (c.as_slice.ensures.value ∙ c.in_ok-text.ensures) c.in-Ok.ensures.exact
