use Rattle.std.proofs.Common.{◌<◌, length, get_or, arith}
use Rattle.std.proofs.lemmas.Grind.{common_steps}
use Rattle.std.proofs.lemmas.Str.{IsCharBoundary-after_ascii}
use Rattle.am_fortran.proofs.guess.operand.Goals as goal

pub range_from-requires : goal.range_from-requires
range_from-requires c =
    let some : 0 < length c.as_str-text.result.now = grind (arith, common_steps) in
    let ascii : get_or c.as_str-text.result.now 0 0 < 128 = grind (arith, common_steps) in
    λ _. IsCharBoundary-after_ascii c.as_str-text.result.now 0 c.as_str-text.utf8 some ascii
