use Rattle.am_diagram.proofs.DiagramWellFormed.{read_well_formed}
use Rattle.unit_cases.proofs.scene.Scene.diagram.Goals as goal

pub returns-in-Ok : goal.returns-in-Ok
returns-in-Ok c = read_well_formed c.args.theory.now c.as_bytes.result.now c.in-Ok.diagram c.in-Ok.ensures.exact
