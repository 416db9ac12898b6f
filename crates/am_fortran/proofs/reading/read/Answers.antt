use Rattle.std.proofs.Common.{◌<◌, arith, sym, subst, length}
use Rattle.am_fortran.specs.Drafts.{TellsFault}
use Rattle.am_fortran.specs.declared.fault.ReadError.{ReadError}
use Rattle.am_fortran.proofs.Reached.{read_whole, end_fails}
use Rattle.am_fortran.proofs.reading.read.Goals as goal

pub returns-in-Some-clause-ok : goal.returns-in-Some-clause-ok
returns-in-Some-clause-ok c =
    let all : c.loop-progress.progress.at < length c.args.bytes.now → ⊥ = λ l. omega (arith, l) in
    (c.in-Some.ensures.0, read_whole c.args.bytes.now c.loop-progress.progress c.in-Some.unit c.loop-progress.invariant all c.in-Some.ensures.1)

pub returns-in-None-clause-err : goal.returns-in-None-clause-err
returns-in-None-clause-err c =
    let all : c.loop-progress.progress.at < length c.args.bytes.now → ⊥ = λ l. omega (arith, l) in
    subst (λ (e : ReadError). TellsFault c.args.bytes.now e) (sym c.fault.ensures) (end_fails c.args.bytes.now c.loop-progress.progress c.loop-progress.invariant all c.in-None.ensures)
