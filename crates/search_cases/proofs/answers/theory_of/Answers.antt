use Rattle.search_cases.proofs.answers.theory_of.Goals as goal

pub returns-in-Ok : goal.returns-in-Ok
returns-in-Ok c = c.theories_that_were_read_are_well_formed.ensures c.args.text.now c.in-Ok.theory c.in-Ok.ensures.exact
