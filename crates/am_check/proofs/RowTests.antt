-- Whether rows are a proof, by the test of their sorts and the first bad one.
use Rattle.std.proofs.Common.{◌≡◌, ◌∙◌, Bool, true, false, refl, sym, ℕ, List, [], ◌∷◌, Option, Some, None, IsTrue}
use Rattle.std.specs.Prelude.{◌↔◌, ◌&&◌, MatchOption, is_none}
use Rattle.std.proofs.lemmas.Grind.{common_steps}
use Rattle.std.proofs.lemmas.Bool.Decides.{nat_tests}
use Rattle.am_term.proofs.Sorted as below
use Rattle.am_term.proofs.Tests.{and_left, and_right}
use Rattle.am_clause.specs.declared.row.Row.{Row}
use Rattle.am_clause.specs.SortedClause.{is_sorted_clause}
use Rattle.am_clause.specs.Steps.{AreSteps}
use Rattle.am_calculus.specs.declared.fault.StepFault.{StepFault}
use Rattle.am_theory.specs.declared.theory.Theory.{Theory}
use Rattle.am_diagram.specs.declared.diagram.Diagram.{Diagram}
use Rattle.am_diagram.specs.Listed.{entry_sorts}
use Rattle.am_diagram.specs.Steps.{IsProof, sources}
use Rattle.am_check.specs.FirstFault.{IsFirstBad}
use Rattle.am_check.specs.Phases.{AreSorted, are_sorted}
use Rattle.am_check.proofs.Rows.{proof-good}

pub ruleset fitting = (common_steps, nat_tests, below.fit_places-count)

-- ---- sorts of rows

and_both : (a b : Bool) → a ≡ true → b ≡ true → (a && b) ≡ true
and_both true b e f = f
and_both false b e f = absurd cc

-- rows that pass the test are well sorted
pub passed-sorted : (t : Theory) (d : Diagram) (rows : List Row) → are_sorted t.sig (entry_sorts d.inputs) rows ≡ true → AreSorted t d rows
passed-sorted t d [] e = tt
passed-sorted t d (r ∷ rows) e =
    let first = is_sorted_clause t.sig (entry_sorts d.inputs) r.clause in
    let more = are_sorted t.sig (entry_sorts d.inputs) rows in
    (and_left first more e, passed-sorted t d rows (and_right first more e))

steps-sorted : (t : Theory) (d : Diagram) (before rows : List Row) → AreSteps t.sig (entry_sorts d.inputs) (sources t d) before rows → are_sorted t.sig (entry_sorts d.inputs) rows ≡ true
steps-sorted t d before [] s = refl
steps-sorted t d before (r ∷ rows) s = and_both (is_sorted_clause t.sig (entry_sorts d.inputs) r.clause) (are_sorted t.sig (entry_sorts d.inputs) rows) s.0.sorted (steps-sorted t d _ rows s.1)

-- the rows of a proof pass the test, so others are none
pub unsorted : (t : Theory) (d : Diagram) (rows : List Row) → are_sorted t.sig (entry_sorts d.inputs) rows ≡ false → IsTrue false ↔ IsProof t d rows
unsorted t d rows e = (λ f. absurd cc, λ p. let clash : false ≡ true = sym e ∙ steps-sorted t d [] rows p in absurd cc)

-- rows without a first bad one are a proof, and a proof has none
pub no-bad : (t : Theory) (d : Diagram) (rows : List Row) (o : Option (ℕ × StepFault)) → MatchOption o (IsProof t d rows) (λ b. IsFirstBad t d rows b.0 b.1) → IsTrue (is_none o) ↔ IsProof t d rows
no-bad t d rows None h = (λ e. h, λ p. refl)
no-bad t d rows (Some b) h = (λ e. absurd cc, λ p. absurd (proof-good t d rows b.0 b.1 p h))
