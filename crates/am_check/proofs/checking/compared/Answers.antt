use Rattle.std.proofs.Common.{arith}
use Rattle.am_check.proofs.Units.{fault-within}
use Rattle.am_check.proofs.checking.compared.Goals as goal

pub overflow_add-result : goal.overflow_add-result
overflow_add-result c =
    let f = fault-within c.args.unit.now c.in-Err.field-0.line c.in-Err.field-0.kind (c.in-Err.ensures.fault c.in_default.not-NoMemory) in
    omega (arith, f, c.lines_in-before.ensures.within, c.requires.small, c.requires.small_too)
