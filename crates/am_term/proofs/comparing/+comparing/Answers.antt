use Rattle.std.proofs.Common.{sym, arith}
use Rattle.std.proofs.lemmas.Grind.{common_steps}
use Rattle.am_term.proofs.Alike.{same_terms-fails}
use Rattle.am_term.proofs.Sameness.{term_test}
use Rattle.am_term.proofs.Walks.{comparisons}
use Rattle.am_term.proofs.comparing.+comparing.Goals as goal

-- each answer is that of the test, which tells whether both are one

pub same-returns-in-Var-clause-test : goal.same-returns-in-Var-clause-test
same-returns-in-Var-clause-test t c = grind (arith, comparisons)

pub same-returns-in-Var-clause-equal : goal.same-returns-in-Var-clause-equal
same-returns-in-Var-clause-equal t c = term_test _ c.args.a.now c.args.b.now (same-returns-in-Var-clause-test t c)

pub same-returns-in-In-clause-test : goal.same-returns-in-In-clause-test
same-returns-in-In-clause-test t c = grind (arith, comparisons)

pub same-returns-in-In-clause-equal : goal.same-returns-in-In-clause-equal
same-returns-in-In-clause-equal t c = term_test _ c.args.a.now c.args.b.now (same-returns-in-In-clause-test t c)

pub same-returns-then-f-g-clause-test : goal.same-returns-then-f-g-clause-test
same-returns-then-f-g-clause-test t c = grind (arith, comparisons)

pub same-returns-then-f-g-clause-equal : goal.same-returns-then-f-g-clause-equal
same-returns-then-f-g-clause-equal t c = term_test _ c.args.a.now c.args.b.now (same-returns-then-f-g-clause-test t c)

pub same-returns-else-f-g-clause-test : goal.same-returns-else-f-g-clause-test
same-returns-else-f-g-clause-test t c = grind (arith, comparisons)

pub same-returns-else-f-g-clause-equal : goal.same-returns-else-f-g-clause-equal
same-returns-else-f-g-clause-equal t c = term_test _ c.args.a.now c.args.b.now (same-returns-else-f-g-clause-test t c)

pub same-returns-in-Var-b-clause-test : goal.same-returns-in-Var-b-clause-test
same-returns-in-Var-b-clause-test t c = grind (arith, comparisons)

pub same-returns-in-Var-b-clause-equal : goal.same-returns-in-Var-b-clause-equal
same-returns-in-Var-b-clause-equal t c = term_test _ c.args.a.now c.args.b.now (same-returns-in-Var-b-clause-test t c)

pub same-returns-in-In-b-clause-test : goal.same-returns-in-In-b-clause-test
same-returns-in-In-b-clause-test t c = grind (arith, comparisons)

pub same-returns-in-In-b-clause-equal : goal.same-returns-in-In-b-clause-equal
same-returns-in-In-b-clause-equal t c = term_test _ c.args.a.now c.args.b.now (same-returns-in-In-b-clause-test t c)

-- lists with different members are different
pub same_terms-returns-then-not-same-clause-test : goal.same_terms-returns-then-not-same-clause-test
same_terms-returns-then-not-same-clause-test t c = sym (same_terms-fails c.args.a.now c.args.b.now (λ e. grind (arith, common_steps)))
