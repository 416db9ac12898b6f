use Rattle.search_cases.proofs.answers.diagram_of.Goals as goal

pub returns-in-Ok : goal.returns-in-Ok
returns-in-Ok c = c.diagrams_that_were_read_are_well_formed.ensures c.args.theory.now c.args.text.now c.in-Ok.diagram c.requires c.in-Ok.ensures.exact
