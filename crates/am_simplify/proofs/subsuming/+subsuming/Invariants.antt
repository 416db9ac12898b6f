use Rattle.std.proofs.Common.{◌≡◌, ◌+◌, ◌*◌, length}
use Rattle.std.specs.List.{list_any}
use Rattle.am_clause.specs.Size.{atom_weight}
use Rattle.am_simplify.specs.Frames.{bindings, tasks}
use Rattle.am_simplify.specs.Subsuming.{covers, match_literal, meets}
use Rattle.am_simplify.proofs.Runs.{literals_size, terms_size, todo_size}
use Rattle.am_simplify.proofs.subsuming.+subsuming.Given as goal

-- those that are left decide
abbrev pub invariant-cover-loop-rest : goal.invariant-cover-loop-rest
invariant-cover-loop-rest l = covers l.ctx.sig.now l.ctx.ins.now l.fn.literals l.all (bindings l.bound) ≡ list_any (λ m. meets (match_literal l.ctx.sig.now l.ctx.ins.now l.literal m (bindings l.bound)) (covers l.ctx.sig.now l.ctx.ins.now l.later l.all)) l.rest

abbrev pub decreases-run : goal.decreases-run
decreases-run l = 2 * terms_size l.patterns.now + todo_size (tasks l.todo.now) + literals_size l.literals.now + 1

abbrev pub decreases-cover : goal.decreases-cover
decreases-cover l = literals_size l.literals.now

abbrev pub decreases-cover_by : goal.decreases-cover_by
decreases-cover_by l = 2 * atom_weight l.literal.now.atom + 3 + literals_size l.later.now

abbrev pub decreases-cover-loop-rest : goal.decreases-cover-loop-rest
decreases-cover-loop-rest l = length l.rest
