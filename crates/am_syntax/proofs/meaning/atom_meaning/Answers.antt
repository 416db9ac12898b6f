-- Each kind of atom is by the meanings of its terms.
use Rattle.std.proofs.Common.{arith}
use Rattle.am_syntax.proofs.MeaningSteps.{term_meanings}
use Rattle.am_syntax.proofs.meaning.atom_meaning.Goals as goal

pub returns-in_ok-left-in-Equation : goal.returns-in_ok-left-in-Equation
returns-in_ok-left-in-Equation c = grind (arith, term_meanings)

pub returns-in_ok-args-in-Relation : goal.returns-in_ok-args-in-Relation
returns-in_ok-args-in-Relation c = grind (arith, term_meanings)
