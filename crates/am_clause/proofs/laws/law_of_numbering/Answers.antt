use Rattle.am_clause.specs.Renaming.{renumbered-is}
use Rattle.am_clause.proofs.Bijections.{bijection, keeps-sorts, renumbered-again, alike-same, numbered-fixed, renumbered-numbered}
use Rattle.am_clause.proofs.laws.law_of_numbering.Goals as goal

pub returns : goal.returns
returns c = record { renames = renumbered-is; bijection = bijection; sorts = keeps-sorts; numbered = renumbered-numbered; fixed = numbered-fixed; again = renumbered-again; alike = alike-same }
