use Rattle.std.proofs.Common.{refl}
use Rattle.am_search.proofs.Tying.{tied_more}
use Rattle.am_search.proofs.state.State.finish.Goals as goal

pub begin-requires : goal.begin-requires
begin-requires c = record { tied = tied_more c.args.setting.now _ _ c.args.row c.requires.tied c.in_ok-push.ensures refl refl refl }
