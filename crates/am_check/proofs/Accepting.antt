-- What is accepted is right.
use Rattle.std.proofs.Common.{ℕ, refl, subst, List, [], length}
use Rattle.am_clause.specs.declared.clause.Clause.{Clause}
use Rattle.am_clause.specs.Sources.{sources_of}
use Rattle.am_clause.specs.Steps.{AreSteps}
use Rattle.am_world.specs.Interpretation.{Interpretation}
use Rattle.am_world.specs.Questions.{Meets}
use Rattle.am_world.specs.Truth.{Models}
use Rattle.am_world.specs.Value.{Assignment, IsAssignment, values}
use Rattle.am_world.proofs.Assigned.{members_of, members-assigned}
use Rattle.am_calculus.proofs.Proved.{proof-holds, last-answers, last-refutes}
use Rattle.am_theory.specs.declared.theory.Theory.{Theory}
use Rattle.am_theory.specs.Facts.{WellFormed}
use Rattle.am_diagram.specs.declared.diagram.Diagram.{Diagram}
use Rattle.am_diagram.specs.Clauses.{givens}
use Rattle.am_diagram.specs.Facts.{WellFormed as WellDrawn}
use Rattle.am_diagram.specs.Listed.{entry_sorts}
use Rattle.am_diagram.specs.Steps.{formulas_of}
use Rattle.am_exec.specs.Given.{Given, Spec}
use Rattle.am_exec.specs.Laws.{IsRightByTerms}
use Rattle.am_check.specs.Accepted.{Accepted}
use Rattle.am_check.specs.Laws.{AcceptedIsRight, ContradictionsRefute}
use Rattle.am_check.proofs.Meant.{asked, goal-asked}

-- what outputs meet is what the diagram asks for
meets-spec : (w : Interpretation) (d : Diagram) (ins outs : List ℕ) → Meets w (entry_sorts d.objects) (entry_sorts d.outputs) d.required ins outs → Spec w d ins outs
meets-spec w d ins outs m = record { members = m.members; objects = m.others; inside = m.inside; holds = m.holds }

-- under an assignment the values of the answer are what the diagram asks for
answer-meets : (t : Theory) (d : Diagram) (text : List ℕ) → WellFormed t → WellDrawn t d → (a : Accepted t d text) → (w : Interpretation) → Models t.sig (formulas_of t) w
    → (ins : List ℕ) → Given w d ins → (v : Assignment) → IsAssignment t.sig w v → Spec w d ins (values w ins v a.answer)
answer-meets t d text wt wd a w m ins g v assigned =
    let question = asked t d wt wd w m ins g in
    let objects = entry_sorts d.objects in
    let outputs = entry_sorts d.outputs in
    let steps = subst (λ (c : Clause). AreSteps t.sig (entry_sorts d.inputs) (sources_of (formulas_of t) c (givens d)) [] a.log.rows) (goal-asked d) a.proved in
    let holds = proof-holds t.sig (formulas_of t) w (entry_sorts d.inputs) ins objects outputs d.required (givens d) question a.log.rows steps (length a.log.rows) _ a.ends in
    meets-spec w d ins (values w ins v a.answer) (last-answers t.sig w ins (Meets w objects outputs d.required ins) _ holds refl a.answer refl v assigned)

-- a last row without literals and without answer leaves no inputs
pub contradictions-refute : ContradictionsRefute
contradictions-refute t d rows c wt wd p last empty bare w m ins g =
    let question = asked t d wt wd w m ins g in
    let objects = entry_sorts d.objects in
    let outputs = entry_sorts d.outputs in
    let steps = subst (λ (x : Clause). AreSteps t.sig (entry_sorts d.inputs) (sources_of (formulas_of t) x (givens d)) [] rows) (goal-asked d) p in
    let holds = proof-holds t.sig (formulas_of t) w (entry_sorts d.inputs) ins objects outputs d.required (givens d) question rows steps (length rows) c last in
    last-refutes t.sig w ins (Meets w objects outputs d.required ins) c holds empty m.world bare

-- where units are right by their terms
pub accepted-right : IsRightByTerms → AcceptedIsRight
accepted-right right t d text wt wd a w m =
    right w t d a.unit a.answer wt a.gives (λ ins g. (members_of t.sig w m.world, answer-meets t d text wt wd a w m ins g (members_of t.sig w m.world) (members-assigned t.sig w m.world)))
