-- A diagram that is well formed over the theory is so over some theory.
use Rattle.std.proofs.lemmas.Grind.{common_steps}
use Rattle.am_diagram.specs.Facts.{drawn}

pub ruleset drawing = (common_steps, drawn)
