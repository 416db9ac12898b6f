use Rattle.std.proofs.Common.{subst, sym, ◌∙◌, inr}
use Rattle.am_fortran.specs.Drafts.{TellsFault}
use Rattle.am_fortran.proofs.Parts.{unit_injective}
use Rattle.am_fortran.proofs.Reached.{no_fault, one_fault}
use Rattle.am_fortran.proofs.reading.read_unit.Goals as goal

pub returns-in-Ok-clause-again : goal.returns-in-Ok-clause-again
returns-in-Ok-clause-again c = λ u h e. unit_injective c.in-Ok.unit u c.in-Ok.ensures.ok.0 h (sym c.in-Ok.ensures.ok.1 ∙ e)

pub returns-in-Ok-clause-first : goal.returns-in-Ok-clause-first
returns-in-Ok-clause-first c = λ line kind f. no_fault c.in-Ok.unit c.in-Ok.ensures.ok.0 c.args.bytes.now c.in-Ok.ensures.ok.1 line kind f

pub returns-in-Err-Fault-clause-again : goal.returns-in-Err-Fault-clause-again
returns-in-Err-Fault-clause-again c =
    let fails = subst (TellsFault c.args.bytes.now) c.in-Err-Fault.field-0-is c.in-Err-Fault.ensures.err in
    λ u h e. absurd (no_fault u h c.args.bytes.now e c.in-Err-Fault.fault.line c.in-Err-Fault.fault.kind fails)

pub returns-in-Err-Fault-clause-first : goal.returns-in-Err-Fault-clause-first
returns-in-Err-Fault-clause-first c =
    let fails = subst (TellsFault c.args.bytes.now) c.in-Err-Fault.field-0-is c.in-Err-Fault.ensures.err in
    λ line kind f. inr (one_fault c.args.bytes.now c.in-Err-Fault.fault.line line c.in-Err-Fault.fault.kind kind fails f)
