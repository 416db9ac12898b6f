-- The first fault of a row by its parents' instances, and sizes that tell one; for private contracts.
use Rattle.std.specs.Prelude.{◌||◌, ℕ, Bool, List, Option, Some, None, if◌then◌else◌, nat_lt}
use Rattle.std.specs.List.{list_any}
use Rattle.am_term.specs.Place.{member}
use Rattle.am_term.specs.Weight.{nodes}
use Rattle.am_term.specs.declared.term.Literal.{Literal}
use Rattle.am_term.specs.declared.term.Term.{Term}
use Rattle.am_clause.specs.Bound.{without_repeats}
use Rattle.am_clause.specs.Rules.{OneParent, TwoParents, side_at}
use Rattle.am_clause.specs.Size.{atom_weight}
use Rattle.am_clause.specs.declared.clause.Clause.{Clause}
use Rattle.am_clause.specs.declared.row.Row.{Row}
use Rattle.am_calculus.specs.Faults.{conclusion_fault}
use Rattle.am_calculus.specs.Sizes.{answer_nodes}
use Rattle.am_calculus.specs.declared.fault.StepFault.{StepFault}
use Rattle.am_calculus.specs.declared.fault.StepFault.TheVariants.{NotEqual, AnswersDiffer}
use Rattle.am_calculus.specs.declared.named.Alone.{Alone}
use Rattle.am_calculus.specs.declared.named.Alone.TheVariants.{Factor, Reflex, Close}
use Rattle.am_calculus.specs.declared.named.Paired.{Paired}
use Rattle.am_calculus.specs.declared.named.Paired.TheVariants.{Resolve, Para, Rewrite}

-- what the rule names is equal in the instance, and the row has the conclusion
abbrev pub instance_fault : OneParent → Clause → Row → Option StepFault
instance_fault rule c row = if rule.equal c then conclusion_fault (without_repeats (rule.made c)) row else Some NotEqual

-- what the rule names is equal in the instances, the answers go together, and the row has the conclusion
abbrev pub instances_fault : TwoParents → Clause → Clause → Row → Option StepFault
instances_fault rule c d row =
    if rule.equal c d then (if rule.answers c d then conclusion_fault (without_repeats (rule.made c d)) row else Some AnswersDiffer) else Some NotEqual

-- the nodes of the literal, and 0 where there is none
abbrev pub literal_nodes : Option Literal → ℕ
literal_nodes None = 0
literal_nodes (Some l) = atom_weight l.atom

-- the nodes of the term, and 0 where there is none
abbrev pub term_nodes : Option Term → ℕ
term_nodes None = 0
term_nodes (Some t) = nodes t

-- What is taken away. A literal of the instance with more nodes than this and some number together leaves in the conclusion
-- one with more nodes than that number. It is the nodes of the literal that goes, where one does.
abbrev pub taken_alone : Alone → Clause → ℕ
taken_alone (Factor i j) c = 0
taken_alone (Reflex i) c = literal_nodes (member c.literals i)
taken_alone Close c = 0

-- the same of both instances, by the first of them: the nodes of the literal that goes, or of the side that is equal to the
-- part and so goes from its place
abbrev pub taken_paired : Paired → Clause → ℕ
taken_paired (Resolve i j) c = literal_nodes (member c.literals i)
taken_paired (Para j side i path) c = term_nodes (side_at side (member c.literals j))
taken_paired (Rewrite j side i path) c = term_nodes (side_at side (member c.literals j))

-- one of the literals has more nodes than that
abbrev pub any_larger : ℕ → List Literal → Bool
any_larger most ls = list_any (λ (l : Literal). nat_lt most (atom_weight l.atom)) ls

-- a literal or the answer has
abbrev pub has_larger : ℕ → Clause → Bool
has_larger most c = any_larger most c.literals || nat_lt most (answer_nodes c.answer)
