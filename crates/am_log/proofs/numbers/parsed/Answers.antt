use Rattle.std.proofs.Common.{◌≡◌, true, sym, ap, ◌∙◌, arith}
use Rattle.std.specs.List.{list_all}
use Rattle.std.specs.Char.{is_ascii_digit}
use Rattle.std.proofs.lemmas.Grind.{common_steps}
use Rattle.am_log.proofs.Digits.{number_read, natural_or_zero}
use Rattle.am_log.proofs.numbers.parsed.Goals as goal

pub returns-in-Ok : goal.returns-in-Ok
returns-in-Ok c =
    let t : list_all is_ascii_digit c.args.text.now ≡ true = grind (arith, common_steps) in
    sym (ap natural_or_zero c.in-Ok.is) ∙ number_read _ c.args.text.now c.parse.result c.parse.ensures.value.0 t

pub returns-in-Err : goal.returns-in-Err
returns-in-Err c =
    let t : list_all is_ascii_digit c.args.text.now ≡ true = grind (arith, common_steps) in
    sym (ap natural_or_zero c.in-Err.is) ∙ number_read _ c.args.text.now c.parse.result c.parse.ensures.value.0 t
