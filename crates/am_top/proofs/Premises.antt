-- What the layers below prove of all theories and diagrams that were read.
use Rattle.am_theory.specs.Laws.{ReadTheoriesAreWellFormed}
use Rattle.am_diagram.specs.Laws.{ReadDiagramsAreWellFormed}

-- both laws
pub record ReadAreWellFormed : Type 0 where
  pub theories : ReadTheoriesAreWellFormed
  pub diagrams : ReadDiagramsAreWellFormed
