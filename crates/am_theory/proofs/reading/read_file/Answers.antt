use Rattle.std.proofs.Common.{sym, subst}
use Rattle.am_theory.specs.declared.fault.ReadError.{ReadError}
use Rattle.am_theory.specs.Reading.{Fails, theory}
use Rattle.am_theory.proofs.ReadSteps.{text-theory}
use Rattle.am_theory.proofs.reading.read_file.Goals as goal

pub returns-in-Err : goal.returns-in-Err
returns-in-Err c = subst (λ (e : ReadError). Fails e (theory c.args.bytes.now)) (sym c.text_error.ensures) (text-theory c.args.bytes.now c.in-Err.fault c.in-Err.ensures.exact)
