use Rattle.am_world.proofs.Inputless.{atom-free, formula-free}
use Rattle.am_world.proofs.laws.law_of_inputs.Goals as goal

pub returns : goal.returns
returns c = record { atoms = atom-free; formulas = formula-free }
