use Rattle.std.proofs.Common.{◌≡◌, true, get_or, arith}
use Rattle.std.specs.List.{list_all}
use Rattle.std.proofs.lemmas.Grind.{common_steps}
use Rattle.am_fortran.proofs.Grouping.{is_inside, front_ended, front_all}
use Rattle.am_fortran.proofs.lines.first_line.Goals as goal

pub returns-then-byte-eq10 : goal.returns-then-byte-eq10
returns-then-byte-eq10 c =
    let ten : get_or c.args.bytes.now c.loop-i.i 0 ≡ 10 = grind (arith, common_steps) in
    front_ended c.args.bytes.now c.loop-i.i (omega arith) ten c.loop-i.invariant

pub returns : goal.returns
returns c =
    let all : list_all is_inside c.args.bytes.now ≡ true = grind (arith, common_steps) in
    front_all c.args.bytes.now c.requires all
