use Rattle.std.proofs.Common.{ap, sym, arith, ◌∙◌}
use Rattle.std.specs.Option.{option_copied}
use Rattle.am_search.proofs.Processing.{one_chosen}
use Rattle.am_search.proofs.unit_taking.take_in.Goals as goal

pub returns-in_ok-put-in-Some : goal.returns-in_ok-put-in-Some
returns-in_ok-put-in-Some c =
    let above = c.if-number-setting.false in
    one_chosen _ _ _ _ _ c.in-Some.row.now _ _ (sym c.find.ensures ∙ ap option_copied c.in-Some.is) (omega arith) (sym c.contains.ensures ∙ c.if-contains.false) c.requires c.in_ok-put-in-Some.ensures
