use Rattle.std.proofs.Common.{arith}
use Rattle.std.proofs.lemmas.Grind.{common_steps}
use Rattle.am_check.proofs.Units.{few-items, leaves, other-terms, bad-run}
use Rattle.am_check.proofs.checking.run_compared.Goals as goal

pub symbolic-requires : goal.symbolic-requires
symbolic-requires c = few-items c.args.unit.now c.args.read.now c.requires.read c.requires.small_too

pub returns-then-same_terms-clause-leaves : goal.returns-then-same_terms-clause-leaves
returns-then-same_terms-clause-leaves c =
    let e = c.same_terms.ensures.equal.0 c.if-same_terms.true in
    leaves c.args.theory.now c.args.diagram.now c.args.unit.now c.args.read.now c.args.answer.now c.in-Ok.terms c.requires.read c.in-Ok.ensures (grind (arith, common_steps))

pub overflow_add-place : goal.overflow_add-place
overflow_add-place c = let f = few-items c.args.unit.now c.args.read.now c.requires.read c.requires.small_too in let a = c.len.ensures in let b = c.len-in-Ok.ensures in omega (arith, f, a, b)

pub overflow_add-place-in-Ok : goal.overflow_add-place-in-Ok
overflow_add-place-in-Ok c = let f = few-items c.args.unit.now c.args.read.now c.requires.read c.requires.small_too in let a = c.len.ensures in let b = c.len-in-Ok.ensures in omega (arith, f, a, b)

pub returns-else-same_terms-clause-stopped : goal.returns-else-same_terms-clause-stopped
returns-else-same_terms-clause-stopped c =
    other-terms c.args.theory.now c.args.diagram.now c.args.proof.now c.args.unit.now c.args.read.now c.args.answer.now c.in-Ok.terms c.lines_in-before.result c.group_line.result c.len.result c.len-in-Ok.result
    c.requires.proved c.requires.read c.in-Ok.ensures (λ e. let s = c.same_terms.ensures.equal.1 (grind (arith, common_steps)) in let f = c.if-same_terms.false in grind (arith, common_steps))
    c.lines_in-before.ensures.value c.len.ensures c.len-in-Ok.ensures c.group_line.ensures.value

pub returns-in_default : goal.returns-in_default
returns-in_default c = record {
  leaves = tt;
  stopped = bad-run c.args.theory.now c.args.diagram.now c.args.proof.now c.args.unit.now c.args.read.now c.args.answer.now c.in-Err.field-0 c.lines_in-before.result c.group_line-in_default.result c.saturating_sub.result
      c.requires.proved c.requires.read c.in-Err.ensures c.in_default.not-NoMemory c.lines_in-before.ensures.value c.saturating_sub.ensures c.group_line-in_default.ensures.value;
}
