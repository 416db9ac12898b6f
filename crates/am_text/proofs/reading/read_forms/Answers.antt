use Rattle.am_text.proofs.Answering.{answer_found, answer_only}
use Rattle.am_text.proofs.reading.read_forms.Goals as goal

pub returns-clause-found : goal.returns-clause-found
returns-clause-found c = answer_found c.args.limits.bytes c.args.limits.depth c.args.bytes.now c.answer.result c.answer.ensures

pub returns-clause-only : goal.returns-clause-only
returns-clause-only c = λ forms g. answer_only c.args.limits.bytes c.args.limits.depth c.args.bytes.now c.answer.result forms c.answer.ensures g
