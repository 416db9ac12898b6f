use Rattle.std.proofs.lemmas.Result.{err_from_is_err_and}
use Rattle.am_text.specs.Scan.{state}
use Rattle.am_text.proofs.Steps.{run_fails}
use Rattle.am_text.proofs.reading.Scanner.run.Goals as goal

pub returns-in_err-scan : goal.returns-in_err-scan
returns-in_err-scan c =
    let p = err_from_is_err_and c.from_residual.result c.from_residual.ensures.1 in
    rw (p.1, p.2, ← c.loop-i.invariant) (run_fails c.in_err-scan.field-0.0 c.args.self.now.depth c.loop-i.i c.args.bytes.now (state c.loop-i.scan) 0 c.loop-i-test.true c.in_err-scan.ensures)
