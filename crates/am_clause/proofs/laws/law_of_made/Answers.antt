use Rattle.am_clause.proofs.MadeNumbers.{made-numbered, made-fixed, made-alike}
use Rattle.am_clause.proofs.NumberedRows.{made-without}
use Rattle.am_clause.proofs.laws.law_of_made.Goals as goal

pub returns : goal.returns
returns c = record { numbered = made-numbered; fixed = made-fixed; alike = made-alike; clause = made-without }
