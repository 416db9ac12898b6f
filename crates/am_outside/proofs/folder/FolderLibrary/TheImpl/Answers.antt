-- Nothing is told and nothing is sure, so what the trait says of that holds.
use Rattle.std.proofs.Common.{arith, refl}
use Rattle.am_outside.proofs.folder.FolderLibrary.TheImpl.Goals as goal

pub fetch-tells : goal.fetch-tells
fetch-tells g c = record {
  fits = c.ensures.fits;
  bytes = λ _ b told. cc;
  too_long = λ _ b told. cc;
  over = λ b told. cc;
  failed = λ failed. omega (arith, c.ensures.counts failed);
  later = c.ensures.later;
  kept = c.ensures.none_counted;
  sure = λ sure. absurd sure;
  emptied = c.ensures.emptied;
  told_stays = refl;
  sure_stays = λ _ sure. sure;
}
