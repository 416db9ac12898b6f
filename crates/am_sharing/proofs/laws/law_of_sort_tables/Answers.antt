use Rattle.am_sharing.proofs.Sorted.{no-sorts, grown}
use Rattle.am_sharing.proofs.laws.law_of_sort_tables.Goals as goal

pub returns : goal.returns
returns c = record { empty = no-sorts; growth = grown }
