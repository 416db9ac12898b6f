use Rattle.am_bank.proofs.Stays.{tree-stays, terms-stay, literal-stays, clause-stays, made-stays, bindings-stay}
use Rattle.am_bank.proofs.laws.law_of_growth.Goals as goal

pub returns : goal.returns
returns c = record { ids = tree-stays; lists = terms-stay; literals = literal-stays; clauses = clause-stays; conclusions = made-stays; bindings = bindings-stay }
