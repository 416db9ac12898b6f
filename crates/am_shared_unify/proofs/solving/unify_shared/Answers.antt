use Rattle.std.proofs.Common.{◌∙◌, List, Some, None, ap}
use Rattle.am_unify.specs.Mgu.{mgu}
use Rattle.am_bank.specs.declared.id.TermId.{TermId}
use Rattle.am_shared_unify.specs.Sides.{term_sides}
use Rattle.am_shared_unify.proofs.Solved.{solved, unified}
use Rattle.am_shared_unify.proofs.solving.unify_shared.Goals as goal

pub returns-in-Some-clause-textbook : goal.returns-in-Some-clause-textbook
returns-in-Some-clause-textbook c ps are =
    unified c.args.ctx.now.sig.now c.args.ctx.now.ins.now c.args.bank.now c.solve.new.bank c.args.pairs.now ps c.requires.pairs are c.in_ok-found.field-0 (Some c.in-Some.found) c.in-Some.is c.in_ok-found.ensures.within
    (c.in_ok-found.ensures.is ∙ ap (λ (qs : List (TermId × TermId)). mgu c.args.ctx.now.sig.now c.args.ctx.now.ins.now (term_sides c.args.bank.now qs)) c.in_ok-todo.ensures)

pub returns-in-Some-clause-most_general : goal.returns-in-Some-clause-most_general
returns-in-Some-clause-most_general c sorts ps are sorted =
    solved c.args.ctx.now.sig.now c.args.ctx.now.ins.now c.args.bank.now c.solve.new.bank c.args.pairs.now ps c.requires.pairs are sorts sorted c.in_ok-found.field-0 (Some c.in-Some.found) c.in-Some.is c.in_ok-found.ensures.within
    (c.in_ok-found.ensures.is ∙ ap (λ (qs : List (TermId × TermId)). mgu c.args.ctx.now.sig.now c.args.ctx.now.ins.now (term_sides c.args.bank.now qs)) c.in_ok-todo.ensures)

pub returns-clause-textbook : goal.returns-clause-textbook
returns-clause-textbook c ps are =
    unified c.args.ctx.now.sig.now c.args.ctx.now.ins.now c.args.bank.now c.solve.new.bank c.args.pairs.now ps c.requires.pairs are c.in_ok-found.field-0 None c.in-None.is c.in_ok-found.ensures.within
    (c.in_ok-found.ensures.is ∙ ap (λ (qs : List (TermId × TermId)). mgu c.args.ctx.now.sig.now c.args.ctx.now.ins.now (term_sides c.args.bank.now qs)) c.in_ok-todo.ensures)

pub returns-clause-most_general : goal.returns-clause-most_general
returns-clause-most_general c sorts ps are sorted =
    solved c.args.ctx.now.sig.now c.args.ctx.now.ins.now c.args.bank.now c.solve.new.bank c.args.pairs.now ps c.requires.pairs are sorts sorted c.in_ok-found.field-0 None c.in-None.is c.in_ok-found.ensures.within
    (c.in_ok-found.ensures.is ∙ ap (λ (qs : List (TermId × TermId)). mgu c.args.ctx.now.sig.now c.args.ctx.now.ins.now (term_sides c.args.bank.now qs)) c.in_ok-todo.ensures)
