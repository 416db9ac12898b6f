-- From a proof to what was asked.
use Rattle.std.proofs.Common.{◌≡◌, subst, ℕ, List, [], Some, None}
use Rattle.am_term.specs.declared.id.SortId.{SortId}
use Rattle.am_term.specs.declared.signature.Signature.{Signature}
use Rattle.am_term.specs.declared.term.Formula.{Formula}
use Rattle.am_term.specs.declared.term.Literal.{Literal}
use Rattle.am_term.specs.declared.term.Term.{Term}
use Rattle.am_clause.specs.declared.clause.Clause.{Clause}
use Rattle.am_clause.specs.declared.row.Row.{Row}
use Rattle.am_clause.specs.Goals.{goal_of}
use Rattle.am_clause.specs.Sources.{sources_of}
use Rattle.am_clause.specs.Steps.{clause_at}
use Rattle.am_world.specs.Holding.{Serves, HoldsFor}
use Rattle.am_world.specs.Interpretation.{Interpretation, IsWorld}
use Rattle.am_world.specs.Questions.{Meets}
use Rattle.am_world.specs.Value.{Assignment, IsAssignment, values}
use Rattle.am_world.proofs.Asked.{goal-holds}
use Rattle.am_world.proofs.Assigned.{members_of, members-assigned}
use Rattle.am_world.proofs.Started.{sources-hold}
use Rattle.am_calculus.specs.Asked.{IsAskedIn, AreStepsFrom}
use Rattle.am_calculus.proofs.Stepping.{steps-hold, final-serves}

module _ (sig : Signature) (w : Interpretation) (ins : List ℕ) (Q : List ℕ → Type 0) (c : Clause) (holds : HoldsFor sig w ins Q c) (none : c.literals ≡ []) where
  pub last-answers : (ts : List Term) → c.answer ≡ Some ts → (a : Assignment) → IsAssignment sig w a → Q (values w ins a ts)
  last-answers ts is a g = subst (Serves w ins Q a) is (final-serves w ins Q a c none (holds a g))

  pub last-refutes : IsWorld sig w → c.answer ≡ None → ⊥
  last-refutes world is = subst (Serves w ins Q (members_of sig w world)) is (final-serves w ins Q (members_of sig w world) c none (holds (members_of sig w world) (members-assigned sig w world)))

pub proof-holds : (sig : Signature) (axioms : List Formula) (w : Interpretation) (sorts : List SortId) (ins : List ℕ) (objects outputs : List SortId) (required : List Literal) (facts : List Clause)
    → IsAskedIn sig axioms w sorts ins objects outputs required facts → (rows : List Row) → AreStepsFrom sig axioms sorts objects outputs required facts rows
    → (n : ℕ) (c : Clause) → clause_at rows n ≡ Some c → HoldsFor sig w ins (Meets w objects outputs required ins) c
proof-holds sig axioms w sorts ins objects outputs required facts h rows s n c e =
    steps-hold sig w h.model.world sorts ins h.inside (Meets w objects outputs required ins) (sources_of axioms (goal_of objects outputs required) facts)
    (sources-hold sig w ins axioms h.model h.sorted (Meets w objects outputs required ins) (goal_of objects outputs required) facts
    (goal-holds sig w ins objects outputs h.objects_there h.outputs_there required h.posed) h.given) rows s n c e
