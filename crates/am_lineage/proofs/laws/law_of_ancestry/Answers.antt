use Rattle.am_lineage.proofs.Lineage.{are-ordered, ancestors-are-steps, ancestors-end, ancestors-are-rows}
use Rattle.am_lineage.proofs.OneLineage.{one-ancestry}
use Rattle.am_lineage.proofs.laws.law_of_ancestry.Goals as goal

pub returns : goal.returns
returns c = record {
  proof = λ sig ins sources rows last made s a. ancestors-are-steps rows last made a sig ins sources s;
  end = λ sig ins sources rows last made d s a. ancestors-end rows last made a sig ins sources s d;
  members = ancestors-are-rows;
  one = one-ancestry;
  ordered = are-ordered;
}
