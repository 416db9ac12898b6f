use Rattle.std.proofs.lemmas.Result.{err_from_is_err_and}
use Rattle.am_theory.specs.Contents.{contents}
use Rattle.am_theory.proofs.ReadSteps.{read_fails}
use Rattle.am_theory.proofs.reading.read_from.Goals as goal

pub returns-in_err-declare : goal.returns-in_err-declare
returns-in_err-declare c =
    let p = err_from_is_err_and c.from_residual.result c.from_residual.ensures.1 in
    rw (p.1, p.2, ← c.loop-form.invariant) (read_fails c.in_err-declare.field-0.0 c.loop-form.form-index c.args.forms.now (contents c.loop-form.tables.theory) c.form-item.result c.loop-form-test.true (rw (← c.form-item.is) c.in_err-declare.ensures))
