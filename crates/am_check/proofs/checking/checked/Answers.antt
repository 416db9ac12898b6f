use Rattle.std.proofs.Common.{◌≡◌, ◌-◌, ℕ, arith, List, length, sym, subst, take, drop}
use Rattle.std.proofs.lemmas.Grind.{common_steps}
use Rattle.am_log.specs.Split.{IsSplit}
use Rattle.am_fortran.proofs.Grouping.{rest_is}
use Rattle.std.proofs.lemmas.Result.{err_from_is_err_and}
use Rattle.am_check.specs.FirstFault.{IsProofOf}
use Rattle.am_check.proofs.Deciding.{accepts-all, stops-text}
use Rattle.am_check.proofs.checking.checked.Goals as goal

pub returns-in_err-answer-clause-stopped : goal.returns-in_err-answer-clause-stopped
returns-in_err-answer-clause-stopped c =
    let p = err_from_is_err_and c.from_residual.result c.from_residual.ensures.1 in
    let n = c.proof_length-size.result in
    rw (p.1, p.2) (stops-text c.args.theory.now c.args.diagram.now c.args.text.now (take n c.args.text.now) (drop n c.args.text.now) c.in_err-answer.field-0.0 c.proof_length-size.ensures.split (c.in_err-answer.ensures.fault (drop n c.args.text.now)))

pub returns-clause-accepted : goal.returns-clause-accepted
returns-clause-accepted c =
    let n = c.proof_length-size.result in
    let text = c.args.text.now in
    let rest = take (length text - n) (drop n text) in
    let split = subst (λ (unit : List ℕ). IsSplit text (take n text) unit) (sym (rest_is text n)) c.proof_length-size.ensures.split in
    let same : c.as_slice.result.now ≡ c.in_ok-answer.answer = grind (arith, common_steps) in
    let proved = subst (IsProofOf c.args.theory.now c.args.diagram.now (take n text)) (sym same) c.in_ok-answer.ensures.found in
    accepts-all c.args.theory.now c.args.diagram.now text (take n text) rest c.as_slice.result.now split proved c.compared.result c.compared.ensures.leaves
