-- A text is that of a log or has a first fault, and not both.
use Rattle.std.proofs.Common.{◌≡◌, ◌≤◌, ◌⊎◌, ℕ, List, length, Result, Ok, Err, refl, inl, inr}
use Rattle.am_clause.specs.declared.row.Row.{Row}
use Rattle.am_clause.specs.declared.row.Log.{Log}
use Rattle.am_theory.specs.declared.theory.Theory.{Theory}
use Rattle.am_diagram.specs.declared.diagram.Diagram.{Diagram}
use Rattle.am_diagram.specs.Listed.{entry_sorts}
use Rattle.am_log.specs.declared.fault.LogKind.{LogKind}
use Rattle.am_log.specs.Answers.{log_answer}
use Rattle.am_log.specs.Faults.{IsFault}
use Rattle.am_log.specs.Laws.{EachIsLogOrFault}
use Rattle.am_log.specs.Naming.{known_names}
use Rattle.am_log.specs.Text.{byte_limit, log_text, HasText}
use Rattle.am_log.proofs.Conditions.{rows_spellable, rows_writable}
use Rattle.am_log.proofs.Distinct.{apart}
use Rattle.am_log.proofs.Firsts.{no_fault, a_fault}
use Rattle.am_log.proofs.Whole.{log_found, text_again_in}

abbrev Either : Theory → Diagram → List ℕ → Type 0
Either t d bytes = ((log : Log) × HasText t d log × (bytes ≡ log_text t d log)) ⊎ ((line : ℕ) × (kind : LogKind) × IsFault t d bytes line kind)

either_by : (t : Theory) (d : Diagram) (bytes : List ℕ) (x : Result (List Row) (ℕ × LogKind)) → length bytes ≤ byte_limit → log_answer (known_names t d) t.sig (entry_sorts d.inputs) bytes ≡ x → Either t d bytes
unfolding log_text
either_by t d bytes (Ok rs) s e =
    let r = log_found t d bytes rs e in
    let log : Log = record { rows = rs } in
    inl (log, rows_writable t d 1 rs r.writable, r.text)
either_by t d bytes (Err f) s e = inr (f.0, f.1, a_fault t d bytes s f.0 f.1 e)

pub each_decided : EachIsLogOrFault
unfolding log_text
each_decided = λ t d bytes h g s. record {
  either = either_by t d bytes (log_answer (known_names t d) t.sig (entry_sorts d.inputs) bytes) s refl;
  not_both = λ log w e line kind f. no_fault t d bytes s log.rows (text_again_in t d bytes log.rows (apart t d h g) (rows_spellable t d h g 1 log.rows w) s e) line kind f;
}
