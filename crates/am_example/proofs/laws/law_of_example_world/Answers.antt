use Rattle.am_example.proofs.Modelled.{models}
use Rattle.am_example.proofs.Ran.{gives_eight, has_lines}
use Rattle.am_example.proofs.Telling.{telling}
use Rattle.am_example.proofs.There.{there}
use Rattle.am_example.proofs.laws.law_of_example_world.Goals as goal

pub returns-clause-telling : goal.returns-clause-telling
returns-clause-telling c = telling

pub returns-clause-there : goal.returns-clause-there
returns-clause-there c = there

pub returns-clause-models : goal.returns-clause-models
returns-clause-models c = models

pub returns-clause-printed : goal.returns-clause-printed
returns-clause-printed c = has_lines

pub returns-clause-run : goal.returns-clause-run
returns-clause-run c = gives_eight
