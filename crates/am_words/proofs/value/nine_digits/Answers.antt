use Rattle.std.proofs.Common.{sym}
use Rattle.am_words.proofs.Digits.{number_is}
use Rattle.am_words.proofs.value.nine_digits.Goals as goal

pub returns : goal.returns
returns c = number_is c.args.text.now c.parse.result c.ok.result c.parse.ensures.value.0 c.if-text-lt1.false c.if-text-gt9.false (sym c.if-not-all_digits.ensures) c.ok.ensures.value
