-- What a verdict says of a text, both ways.
use Rattle.std.proofs.Common.{◌≡◌, ◌∙◌, ◌++◌, ℕ, suc, ◌+◌, refl, sym, ap, subst, arith, List, [], ◌∷◌, Option, Some, None, Result, Ok, Err, length}
use Rattle.std.specs.Prelude.{◌↔◌, IfOk, MatchOption}
use Rattle.am_term.specs.declared.term.Literal.{Literal}
use Rattle.am_term.specs.declared.term.Term.{Term}
use Rattle.am_clause.specs.declared.clause.Clause.{Clause}
use Rattle.am_clause.specs.declared.row.Row.{Row}
use Rattle.am_clause.specs.declared.row.Log.{Log}
use Rattle.am_clause.specs.Steps.{clause_at}
use Rattle.am_calculus.specs.declared.fault.StepFault.{StepFault}
use Rattle.am_calculus.specs.declared.fault.StepFault.TheVariants as step
use Rattle.am_theory.specs.declared.theory.Theory.{Theory}
use Rattle.am_diagram.specs.declared.diagram.Diagram.{Diagram}
use Rattle.am_diagram.specs.Steps.{IsProof}
use Rattle.am_log.specs.Split.{IsSplit}
use Rattle.am_log.specs.Text.{log_text}
use Rattle.am_check.specs.Accepted.{EndsWith, bare_answer, closing_answer, final_answer, Accepted as IsAccepted}
use Rattle.am_check.specs.FirstFault.{row_line, IsLog, IsProofOf, IsFirstBad, HasBadStep, IsFirstFault}
use Rattle.am_check.specs.Laws.{HasOneOutcome}
use Rattle.am_check.specs.Phases.{of_step, Leaves, Stops, StopsAlways, StopsText, IsVerdict}
use Rattle.am_check.specs.declared.reason.Reason.{Reason}
use Rattle.am_check.specs.declared.reason.Reason.TheVariants as reason
use Rattle.am_check.specs.declared.reason.Stop.{Stop}
use Rattle.am_check.specs.declared.reason.Stop.TheVariants.{Memory, Fault}
use Rattle.am_check.specs.declared.reason.Verdict.{Verdict}
use Rattle.am_check.specs.declared.reason.Verdict.TheVariants.{Accepted, Refused}

pub decided : (t : Theory) (d : Diagram) (text : List ℕ) → HasOneOutcome t d text → (v : Verdict) → IsVerdict t d text v → (v ≡ Accepted) ↔ IsAccepted t d text
decided t d text one Accepted h = (λ e. h, λ a. refl)
decided t d text one (Refused line why) h = (λ e. absurd cc, λ a. absurd (one.not_both line why a h))

pub refused : (t : Theory) (d : Diagram) (text : List ℕ) → HasOneOutcome t d text → (v : Verdict) → IsVerdict t d text v → (line : ℕ) (why : Reason) → (v ≡ Refused line why) ↔ IsFirstFault t d text line why
refused t d text one Accepted h line why = (λ e. absurd cc, λ f. absurd (one.not_both line why h f))
refused t d text one (Refused m w) h line why = (λ e. subst (IsVerdict t d text) e h, λ f. let p = one.one m line w why h f in ap (λ (k : ℕ). Refused k w) p.0 ∙ ap (Refused line) p.1)

-- ---- the last row

abbrev ended-with : List Term → Clause
ended-with answer = record { literals = []; answer = Some answer }

abbrev clause-with : List Literal → Option (List Term) → Clause
clause-with ls a = record { literals = ls; answer = a }

closed-clause : (ls : List Literal) (a : Option (List Term)) (answer : List Term) → bare_answer ls a ≡ Some answer → clause-with ls a ≡ ended-with answer
closed-clause [] a answer e = ap (clause-with []) e
closed-clause (l ∷ ls) a answer e = absurd cc

ended-clause : (o : Option Clause) (answer : List Term) → closing_answer o ≡ Some answer → o ≡ Some (ended-with answer)
ended-clause None answer e = absurd cc
ended-clause (Some c) answer e = ap Some (closed-clause c.literals c.answer answer e)

pub final-ends : (rows : List Row) (answer : List Term) → final_answer rows ≡ Some answer → EndsWith rows answer
final-ends rows answer e = ended-clause (clause_at rows (length rows)) answer e

pub final-open : (rows : List Row) → final_answer rows ≡ None → (answer : List Term) → EndsWith rows answer → ⊥
final-open rows e answer h = let f : Some answer ≡ None = sym (ap closing_answer h) ∙ e in absurd cc

-- ---- faults of the proof part

pub bad-row : (t : Theory) (d : Diagram) (proof : List ℕ) (line : ℕ) (f : StepFault) → HasBadStep t d proof line f → StopsAlways t d proof (Fault line (of_step f))
bad-row t d proof line step.NoSuchParent h unit = h
bad-row t d proof line step.BadPlace h unit = h
bad-row t d proof line step.BadBindings h unit = h
bad-row t d proof line step.NotEqual h unit = h
bad-row t d proof line step.AnswersDiffer h unit = h
bad-row t d proof line step.WrongConclusion h unit = h

pub unfinished : (t : Theory) (d : Diagram) (proof : List ℕ) (log : Log) → IsLog t d proof log → IsProof t d log.rows → final_answer log.rows ≡ None → StopsAlways t d proof (Fault (row_line proof (length log.rows)) reason.NotFinal)
unfinished t d proof log read steps e unit = record { log = log; read = read; steps = steps; open_end = final-open log.rows e; begins = refl }

pub proves : (t : Theory) (d : Diagram) (proof : List ℕ) (log : Log) (answer : List Term) → IsLog t d proof log → IsProof t d log.rows → final_answer log.rows ≡ Some answer → IsProofOf t d proof answer
proves t d proof log answer read steps e = record { log = log; read = read; steps = steps; ends = final-ends log.rows answer e }

-- ---- the whole text

pub accepts : (t : Theory) (d : Diagram) (text proof unit : List ℕ) (answer : List Term) → IsSplit text proof unit → IsProofOf t d proof answer → Leaves t d unit answer → IsAccepted t d text
accepts t d text proof unit answer s p l = record {
  log = p.log;
  logged = p.read.has_text;
  unit = l.run;
  lawful = l.read.is_unit;
  is = s.all ∙ ap (λ (x : List ℕ). x ++ unit) p.read.text ∙ ap (λ (x : List ℕ). log_text t d p.log ++ x) l.read.text;
  proved = p.steps;
  answer = answer;
  ends = p.ends;
  gives = l.gives;
}

pub stops-text : (t : Theory) (d : Diagram) (text proof unit : List ℕ) (stop : Stop) → IsSplit text proof unit → Stops t d proof unit stop → StopsText t d text stop
stops-text t d text proof unit Memory s h = tt
stops-text t d text proof unit (Fault line why) s h = record { proof = proof; unit = unit; split = s; fault = h }

-- ---- results

pub decided-all : {E : Type 0} (t : Theory) (d : Diagram) (text : List ℕ) → HasOneOutcome t d text → (r : Result Verdict E) → IfOk r (IsVerdict t d text) → IfOk r (λ v. (v ≡ Accepted) ↔ IsAccepted t d text)
decided-all t d text one (Ok v) h = decided t d text one v h
decided-all t d text one (Err e) h = tt

pub refused-all : {E : Type 0} (t : Theory) (d : Diagram) (text : List ℕ) → HasOneOutcome t d text → (r : Result Verdict E) → IfOk r (IsVerdict t d text) → IfOk r (λ v. (line : ℕ) (why : Reason) → (v ≡ Refused line why) ↔ IsFirstFault t d text line why)
refused-all t d text one (Ok v) h = refused t d text one v h
refused-all t d text one (Err e) h = tt

pub accepts-all : {A : Type 0} (t : Theory) (d : Diagram) (text proof unit : List ℕ) (answer : List Term) → IsSplit text proof unit → IsProofOf t d proof answer → (r : Result A Stop) → IfOk r (λ x. Leaves t d unit answer) → IfOk r (λ x. IsAccepted t d text)
accepts-all t d text proof unit answer s p (Ok x) h = accepts t d text proof unit answer s p h
accepts-all t d text proof unit answer s p (Err e) h = tt

-- ---- the first bad row

pub bad-place : (t : Theory) (d : Diagram) (proof : List ℕ) (log : Log) (place line : ℕ) (f : StepFault) (why : Reason) → IsLog t d proof log → IsFirstBad t d log.rows place f → line ≡ row_line proof (place + 1) → why ≡ of_step f → StopsAlways t d proof (Fault line why)
bad-place t d proof log place line f why read first e g =
    let n : place + 1 ≡ suc place = omega arith in
    subst (λ (w : Reason). StopsAlways t d proof (Fault line w)) (sym g)
    (bad-row t d proof line f (record { log = log; read = read; place = place; first = first; begins = e ∙ ap (row_line proof) n }))

-- what the search for it tells of a bad row that was found
pub first-in : (t : Theory) (d : Diagram) (rows : List Row) (o : Option (ℕ × StepFault)) (place : ℕ) (f : StepFault) → MatchOption o (IsProof t d rows) (λ b. IsFirstBad t d rows b.0 b.1) → o ≡ Some (place, f) → IsFirstBad t d rows place f
first-in t d rows o place f h e = subst (λ (x : Option (ℕ × StepFault)). MatchOption x (IsProof t d rows) (λ b. IsFirstBad t d rows b.0 b.1)) e h
