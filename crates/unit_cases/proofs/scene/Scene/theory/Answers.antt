use Rattle.am_theory.proofs.WellFormedRead.{read_well_formed}
use Rattle.unit_cases.proofs.scene.Scene.theory.Goals as goal

pub returns-in-Ok : goal.returns-in-Ok
returns-in-Ok c = read_well_formed c.as_bytes.result.now c.in-Ok.theory c.in-Ok.ensures.exact
