-- The product of what a search found is accepted.
use Rattle.std.proofs.Common.{◌≡◌, ◌∙◌, ◌≤◌, ◌++◌, ℕ, arith, sym, ap, subst, List, length, Some}
use Rattle.std.proofs.lemmas.List.{length-append}
use Rattle.am_term.specs.declared.term.Term.{Term}
use Rattle.am_theory.specs.declared.theory.Theory.{Theory}
use Rattle.am_theory.specs.Facts.{WellFormed}
use Rattle.am_theory.proofs.WellFormedRead.{read_well_formed}
use Rattle.am_diagram.specs.declared.diagram.Diagram.{Diagram}
use Rattle.am_diagram.specs.Facts.{WellFormed as WellDrawn}
use Rattle.am_log.specs.Text.{byte_limit, log_text}
use Rattle.am_fortran.specs.Text.{unit_text}
use Rattle.am_plan.specs.Answers.{IsAnswerFor}
use Rattle.am_plan.proofs.AnswerGiven.{plan-gives}
use Rattle.am_check.specs.Accepted.{closing_answer}
use Rattle.am_search.specs.declared.outcome.Outcome.{Outcome}
use Rattle.am_search.specs.declared.outcome.Outcome.TheVariants.{Found, Spent, Exhausted, Contradiction}
use Rattle.am_derivation.specs.Laws.{answering, LogIsProof, EndsSo}
use Rattle.am_derivation.specs.Sizes.{IsSmall, LogIs}
use Rattle.am_derivation.proofs.LogEnds.{logs-end}
use Rattle.am_derivation.proofs.LoggedRows.{logs-proofs}
use Rattle.am_derivation.proofs.SmallLogs.{logs-small}
use Rattle.am_acceptance.specs.Laws.{AnswerServes, AnswersServe, LogHasText, LogsHaveTexts, ProductIsAccepted, ProductsAreAccepted}
use Rattle.am_acceptance.proofs.Answering.{answer-serves}
use Rattle.am_acceptance.proofs.PlanNumbers.{plan-fits}

one-answer : (xs ys : List Term) → Some (answering xs) ≡ Some (answering ys) → xs ≡ ys
one-answer xs ys e = let is : Some xs ≡ Some ys = ap closing_answer e in cc

shorter : (xs ys : List ℕ) (n : ℕ) → n ≡ length (xs ++ ys) → n ≤ byte_limit → length xs ≤ byte_limit
shorter xs ys n e h = let both = length-append xs ys in omega arith

module _ (t : Theory) (d : Diagram) (wt : WellFormed t) (wd : WellDrawn t d) (most : ℕ) (few : most ≤ 400) where
  -- from what is known of the log of an outcome
  pub product-accepted : (o : Outcome) → LogHasText t d o → LogIsProof t d o → EndsSo t.sig o
      → LogIs (IsSmall most) o → ProductIsAccepted t d o
  product-accepted (Found log es ns) written proof ends small = λ text p short.
      let same : p.answer ≡ ends.terms = one-answer p.answer ends.terms (sym p.ends ∙ ends.ends) in
      record {
        log = log;
        logged = written (shorter (log_text t d log) (unit_text p.unit) (length text) (ap length p.is) short);
        unit = p.unit;
        lawful = plan-fits t wt d p.answer p.unit p.planned;
        is = p.is;
        proved = proof;
        answer = p.answer;
        ends = p.ends;
        gives = plan-gives t d p.answer p.unit wt wd
            (subst (λ (a : List Term). IsAnswerFor t d a) (sym same)
            (answer-serves t d wt wd most few log.rows proof small ends)) p.planned;
      }
  product-accepted (Spent es ns) written proof ends small = tt
  product-accepted (Exhausted es ns) written proof ends small = tt
  product-accepted (Contradiction log es ns) written proof ends small = tt

-- the answer of what was found
module _ (t : Theory) (d : Diagram) (wt : WellFormed t) (wd : WellDrawn t d) (most : ℕ) (few : most ≤ 400) where
  outcome-serves : (o : Outcome) → LogIsProof t d o → EndsSo t.sig o → LogIs (IsSmall most) o → AnswerServes t d o
  outcome-serves (Found log es ns) proof ends small = λ answer is.
      subst (IsAnswerFor t d) (one-answer ends.terms answer (sym ends.ends ∙ is))
      (answer-serves t d wt wd most few log.rows proof small ends)
  outcome-serves (Spent es ns) proof ends small = tt
  outcome-serves (Exhausted es ns) proof ends small = tt
  outcome-serves (Contradiction log es ns) proof ends small = tt

pub answers-serve : AnswersServe
answers-serve t d wt wd limits pick o few s =
    outcome-serves t d wt wd limits.weight few o (logs-proofs t d wt wd limits pick o s)
    (logs-end t d wt wd limits pick o s) (logs-small t d wt wd limits pick o s)

pub products-accepted : LogsHaveTexts → ProductsAreAccepted
products-accepted written t d read wd limits pick o few s =
    let wt : WellFormed t = read_well_formed read.0 t read.1 in
    product-accepted t d wt wd limits.weight few o (written t d read wd limits pick o few s)
    (logs-proofs t d wt wd limits pick o s) (logs-end t d wt wd limits pick o s) (logs-small t d wt wd limits pick o s)
