-- What a clause becomes under a list of terms: variable n becomes the n-th of them, from 0, and of equal literals the first
-- stays.
use Rattle.std.specs.Prelude.{List, Option, Some, None}
use Rattle.am_term.specs.declared.term.Term.{Term}
use Rattle.am_term.specs.Instance.{instances, instance_literals}
use Rattle.am_clause.specs.declared.clause.Clause.{Clause}
use Rattle.am_clause.specs.Merge.{merged}

-- each term of the answer bound, where there is an answer
abbrev pub instance_answer : List Term → Option (List Term) → Option (List Term)
instance_answer with None = None
instance_answer with (Some ts) = Some (instances with ts)

-- each literal and the answer bound; nothing is merged
abbrev pub bound : List Term → Clause → Clause
bound with c = record { literals = instance_literals with c.literals; answer = instance_answer with c.answer }

-- of equal literals the first stays; the answer isn't touched
abbrev pub without_repeats : Clause → Clause
without_repeats c = record { literals = merged c.literals; answer = c.answer }

-- the instance of a clause, equal literals merged
abbrev pub instance_clause : List Term → Clause → Clause
instance_clause with c = without_repeats (bound with c)
