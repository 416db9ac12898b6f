use Rattle.std.proofs.Common.{◌≡◌, rules, w64, true, sym, ap, ◌∙◌, arith}
use Rattle.std.specs.Int.RustNames.{FitsSigned as SFits}
use Rattle.std.proofs.lemmas.Int.{to_z-of_z}
use Rattle.std.proofs.lemmas.Grind.{common_steps}
use Rattle.am_fortran.proofs.Digits.{integer_read, whole_or_zero}
use Rattle.am_fortran.specs.Guess.{is_signed_digits}
use Rattle.am_fortran.proofs.numbers.integer.Goals as goal

pub returns-in-Ok : goal.returns-in-Ok
returns-in-Ok c =
    let f : SFits w64 c.in-Ok.number = search rules in
    let t : is_signed_digits c.args.text.now ≡ true = grind (arith, common_steps) in
    rw (to_z-of_z w64 c.in-Ok.number f) (sym (ap whole_or_zero c.in-Ok.is) ∙ integer_read _ c.args.text.now c.parse.result c.parse.ensures.value.0 t)

pub returns-in-Err : goal.returns-in-Err
returns-in-Err c =
    let t : is_signed_digits c.args.text.now ≡ true = grind (arith, common_steps) in
    sym (ap whole_or_zero c.in-Err.is) ∙ integer_read _ c.args.text.now c.parse.result c.parse.ensures.value.0 t
