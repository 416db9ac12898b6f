use Rattle.std.proofs.Common.{◌≡◌, ℕ, Ok, Err, List, Result, sym, ap, ◌∙◌, inr}
use Rattle.am_clause.specs.declared.row.Row.{Row}
use Rattle.am_clause.specs.declared.row.Log.{Log}
use Rattle.am_diagram.specs.Listed.{entry_sorts}
use Rattle.am_log.specs.declared.fault.LogKind.{LogKind}
use Rattle.am_log.specs.Naming.{known_names}
use Rattle.am_log.specs.Text.{log_text}
use Rattle.am_log.specs.Answers.{log_answer}
use Rattle.am_log.proofs.Conditions.{rows_spellable, rows_writable}
use Rattle.am_log.proofs.Distinct.{apart}
use Rattle.am_log.proofs.Firsts.{no_fault, a_fault, one_fault}
use Rattle.am_log.proofs.Whole.{log_found, text_again_in}
use Rattle.am_log.proofs.reading.read_log.Goals as goal

abbrev read_as : List Row → Result (List Row) (ℕ × LogKind)
read_as rs = Ok rs

abbrev fails : ℕ → LogKind → Result (List Row) (ℕ × LogKind)
fails l kind = Err (l, kind)

pub returns-in-Ok-Ok-clause-found : goal.returns-in-Ok-Ok-clause-found
unfolding log_text
returns-in-Ok-Ok-clause-found c =
    let e : log_answer (known_names c.args.theory.now c.args.diagram.now) c.args.theory.now.sig (entry_sorts c.args.diagram.now.inputs) c.args.bytes.now ≡ read_as c.in-Ok-Ok.rows = sym c.in-Ok-Ok.ensures ∙ c.in-Ok-Ok.field-0-is in
    let r = log_found c.args.theory.now c.args.diagram.now c.args.bytes.now c.in-Ok-Ok.rows e in
    (rows_writable c.args.theory.now c.args.diagram.now 1 c.in-Ok-Ok.rows r.writable, r.text)

pub returns-in-Ok-Ok-clause-again : goal.returns-in-Ok-Ok-clause-again
unfolding log_text
returns-in-Ok-Ok-clause-again c = λ log h e.
    let f : log_answer (known_names c.args.theory.now c.args.diagram.now) c.args.theory.now.sig (entry_sorts c.args.diagram.now.inputs) c.args.bytes.now ≡ read_as c.in-Ok-Ok.rows = sym c.in-Ok-Ok.ensures ∙ c.in-Ok-Ok.field-0-is in
    let g : log_answer (known_names c.args.theory.now c.args.diagram.now) c.args.theory.now.sig (entry_sorts c.args.diagram.now.inputs) c.args.bytes.now ≡ read_as log.rows = text_again_in c.args.theory.now c.args.diagram.now c.args.bytes.now log.rows (apart c.args.theory.now c.args.diagram.now c.requires.theory c.requires.diagram) (rows_spellable c.args.theory.now c.args.diagram.now c.requires.theory c.requires.diagram 1 log.rows h) c.requires.small e in
    let is : c.in-Ok-Ok.rows ≡ log.rows = cc in
    ap (λ (rs : List Row). let l : Log = record { rows = rs } in l) is

pub returns-in-Ok-Err-clause-again : goal.returns-in-Ok-Err-clause-again
unfolding log_text
returns-in-Ok-Err-clause-again c = λ log h e.
    let f : log_answer (known_names c.args.theory.now c.args.diagram.now) c.args.theory.now.sig (entry_sorts c.args.diagram.now.inputs) c.args.bytes.now ≡ fails c.in-Ok-Err.line c.in-Ok-Err.kind = sym c.in-Ok-Err.ensures ∙ c.in-Ok-Err.field-0-is in
    let g : log_answer (known_names c.args.theory.now c.args.diagram.now) c.args.theory.now.sig (entry_sorts c.args.diagram.now.inputs) c.args.bytes.now ≡ read_as log.rows = text_again_in c.args.theory.now c.args.diagram.now c.args.bytes.now log.rows (apart c.args.theory.now c.args.diagram.now c.requires.theory c.requires.diagram) (rows_spellable c.args.theory.now c.args.diagram.now c.requires.theory c.requires.diagram 1 log.rows h) c.requires.small e in
    absurd cc

pub returns-in-Ok-Ok-clause-first : goal.returns-in-Ok-Ok-clause-first
returns-in-Ok-Ok-clause-first c =
    let e : log_answer (known_names c.args.theory.now c.args.diagram.now) c.args.theory.now.sig (entry_sorts c.args.diagram.now.inputs) c.args.bytes.now ≡ read_as c.in-Ok-Ok.rows = sym c.in-Ok-Ok.ensures ∙ c.in-Ok-Ok.field-0-is in
    λ line kind f. no_fault c.args.theory.now c.args.diagram.now c.args.bytes.now c.requires.small c.in-Ok-Ok.rows e line kind f

pub returns-in-Ok-Err-clause-fault : goal.returns-in-Ok-Err-clause-fault
returns-in-Ok-Err-clause-fault c = λ some. a_fault c.args.theory.now c.args.diagram.now c.args.bytes.now c.requires.small c.in-Ok-Err.line c.in-Ok-Err.kind (sym c.in-Ok-Err.ensures ∙ c.in-Ok-Err.field-0-is)

pub returns-in-Ok-Err-clause-first : goal.returns-in-Ok-Err-clause-first
returns-in-Ok-Err-clause-first c = λ line kind f. inr (one_fault c.args.theory.now c.args.diagram.now c.args.bytes.now c.requires.small c.in-Ok-Err.line line c.in-Ok-Err.kind kind (sym c.in-Ok-Err.ensures ∙ c.in-Ok-Err.field-0-is) f)
