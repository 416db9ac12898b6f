-- Each kind of atom is by the terms as they are written.
use Rattle.std.proofs.Common.{arith}
use Rattle.am_syntax.proofs.NamingSteps.{named_terms}
use Rattle.am_syntax.proofs.naming.named_atom.Goals as goal

pub returns-in_ok-args-in-Rel : goal.returns-in_ok-args-in-Rel
returns-in_ok-args-in-Rel c = grind (arith, named_terms)

pub returns-in_ok-left-in-Eq : goal.returns-in_ok-left-in-Eq
returns-in_ok-left-in-Eq c = grind (arith, named_terms)
