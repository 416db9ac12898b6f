-- Equations are true exactly where both values are one, and some formula is false in the trivial world.
use Rattle.std.proofs.Common.{◌≡◌, ◌==◌, ◌↔◌, ℕ, true, arith, List, [], IsTrue, IsFalse}
use Rattle.std.proofs.lemmas.Bool.Decides.{nat_tests}
use Rattle.am_term.specs.declared.term.Term.{Term}
use Rattle.am_term.specs.declared.term.Atom.TheVariants.{Eq}
use Rattle.am_term.specs.declared.term.Formula.{Formula}
use Rattle.am_term.specs.declared.term.Formula.TheVariants.{Or}
use Rattle.am_world.specs.Interpretation.{Interpretation, trivial}
use Rattle.am_world.specs.Value.{Assignment, value, atom_truth}
use Rattle.am_world.specs.Truth.{truth}
use Rattle.am_world.proofs.Inputless.{truth-Or}

one_number : (m n : ℕ) → (m == n) ≡ true → m ≡ n
one_number m n e = grind (arith, nat_tests)

number_one : (m n : ℕ) → m ≡ n → (m == n) ≡ true
number_one m n e = grind (arith, nat_tests)

pub equation-true : (w : Interpretation) (ins : List ℕ) (a : Assignment) (left right : Term) → IsTrue (atom_truth w ins a (Eq left right)) ↔ (value w ins a left ≡ value w ins a right)
equation-true w ins a left right = (one_number (value w ins a left) (value w ins a right), number_one (value w ins a left) (value w ins a right))

pub some-false : (f : Formula) × ((ins : List ℕ) (a : Assignment) → IsFalse (truth trivial ins a f))
some-false = (Or [], λ ins a. truth-Or trivial ins a [])
