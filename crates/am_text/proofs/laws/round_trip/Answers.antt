use Rattle.am_text.proofs.Trip.{round_trip as trip}
use Rattle.am_text.proofs.laws.round_trip.Goals as goal

pub returns : goal.returns
returns c = λ limit depth bytes forms e. trip limit depth bytes forms e
