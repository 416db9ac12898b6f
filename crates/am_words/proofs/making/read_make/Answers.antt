use Rattle.std.proofs.Common.{rules, drop, map}
use Rattle.std.specs.Prelude.{string_bytes}
use Rattle.am_words.proofs.Stricter.{make_is}
use Rattle.am_words.proofs.making.read_make.Goals as goal

pub returns-in_err-matches-clause-usage : goal.returns-in_err-matches-clause-usage
returns-in_err-matches-clause-usage c = rw (make_is (drop 1 (map string_bytes c.args.words.now))) (search rules)

pub returns-clause-ok : goal.returns-clause-ok
returns-clause-ok c = rw (make_is (drop 1 (map string_bytes c.args.words.now))) (search rules)

pub returns-clause-usage : goal.returns-clause-usage
returns-clause-usage c = rw (make_is (drop 1 (map string_bytes c.args.words.now))) (search rules)
