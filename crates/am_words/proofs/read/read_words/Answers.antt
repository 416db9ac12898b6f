use Rattle.am_words.proofs.Firsts.{unread}
use Rattle.am_words.proofs.read.read_words.Goals as goal

pub returns-in_default-as_str-clause-usage : goal.returns-in_default-as_str-clause-usage
returns-in_default-as_str-clause-usage c = λ e. let d = c.in_default-as_str in
    unread c.args.words.now c.first-item.result c.as_str.result.now c.as_str.ensures.value c.first-item.is c.in-len1-up.len_at_least d.not-make d.not-check d.not-theory d.not-demo
