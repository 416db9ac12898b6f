use Rattle.am_theory.specs.Contents.{contents}
use Rattle.am_theory.proofs.ReadSteps.{formed-theory}
use Rattle.am_theory.proofs.reading.formed_theory.Goals as goal

pub returns : goal.returns
returns c = formed-theory (contents c.forms_theory.new.tables.theory) c.args.bytes.now c.args.forms.now c.forms_theory.result c.requires.formed (c.forms_theory.ensures)
