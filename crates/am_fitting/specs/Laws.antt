-- What holds of the answers in a proof.
use Rattle.std.specs.Prelude.{◌≡◌, ℕ, List, Some, IsTrue}
use Rattle.am_term.specs.declared.term.Term.{Term}
use Rattle.am_term.specs.Sorting.{sorts_of, fit_places}
use Rattle.am_clause.specs.declared.clause.Clause.{Clause}
use Rattle.am_clause.specs.declared.row.Row.{Row}
use Rattle.am_clause.specs.Steps.{clause_at}
use Rattle.am_theory.specs.declared.theory.Theory.{Theory}
use Rattle.am_theory.specs.Facts.{WellFormed as WellFormedTheory}
use Rattle.am_diagram.specs.declared.diagram.Diagram.{Diagram}
use Rattle.am_diagram.specs.Facts.{WellFormed}
use Rattle.am_diagram.specs.Listed.{entry_sorts}
use Rattle.am_diagram.specs.Steps.{IsProof}

-- one term for each output, each of a sort that fits the output's
abbrev pub FitOutputs : Theory → Diagram → List Term → Type 0
FitOutputs t d ts = IsTrue (fit_places t.sig (sorts_of t.sig (entry_sorts d.inputs) ts) (entry_sorts d.outputs))

-- in a proof over a well-formed theory and diagram the answer of each row, where it has one, fits the outputs
abbrev pub AnswersFit : Type 0
AnswersFit = (t : Theory) (d : Diagram) → WellFormedTheory t → WellFormed t d → (rows : List Row) → IsProof t d rows
    → (n : ℕ) (c : Clause) (ts : List Term) → clause_at rows n ≡ Some c → c.answer ≡ Some ts → FitOutputs t d ts
