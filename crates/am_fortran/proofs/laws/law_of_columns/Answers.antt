use Rattle.am_fortran.proofs.Cards.{fits_card}
use Rattle.am_fortran.proofs.laws.law_of_columns.Goals as goal

pub returns : goal.returns
returns c = λ u h. fits_card u h
