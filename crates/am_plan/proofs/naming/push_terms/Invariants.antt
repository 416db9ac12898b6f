use Rattle.std.proofs.Common.{◌≡◌, ◌++◌, List, length, map}
use Rattle.am_term.specs.declared.id.SymId.{SymId}
use Rattle.am_term.specs.declared.term.Term.{Term}
use Rattle.am_term.specs.declared.term.Term.TheVariants.{App}
use Rattle.am_plan.specs.Numbering.{named_from}
use Rattle.am_plan.proofs.naming.push_terms.Given as goal

-- what was named, with what is left, is all, whatever stands behind it
abbrev pub invariant-loop-rest : goal.invariant-loop-rest
invariant-loop-rest l = (ys : List Term) → l.names ++ named_from l.next l.wanted.outputs.now l.wanted.answer.now (map (λ (f : SymId). App f l.fn.args) l.rest ++ ys) ≡ l.initial.names ++ named_from l.k l.wanted.outputs.now l.wanted.answer.now (map (λ (f : SymId). App f l.fn.args) l.symbols ++ ys)

abbrev pub decreases-loop-rest : goal.decreases-loop-rest
decreases-loop-rest l = length l.rest
