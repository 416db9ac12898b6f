use Rattle.std.proofs.Common.{rules, ◌≡◌, ◌++◌, codes}
use Rattle.am_fortran.specs.Text.{head_text}
use Rattle.am_fortran.proofs.writing.push_head.Goals as goal

pub returns : goal.returns
unfolding head_text
returns c =
    let front : c.as_slice.result.now ≡ codes "SUBROUTINE " ++ c.args.name.now ++ codes "(" = search rules in
    rw (← front) c.push_with_list.ensures
