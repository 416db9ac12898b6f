use Rattle.am_text.proofs.Converse.{one_reading_is}
use Rattle.am_text.proofs.laws.no_bytes_have_two_readings.Goals as goal

pub returns : goal.returns
returns c = λ bytes forms others r t. one_reading_is bytes forms others r t
