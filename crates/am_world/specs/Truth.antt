-- Which formulas without quantifiers are true, and which interpretations are models.
use Rattle.std.specs.Prelude.{◌||◌, ℕ, Bool, true, false, not, List, [], IsTrue}
use Rattle.std.specs.List.{list_all, list_any, AllByRecursion}
use Rattle.am_term.specs.declared.signature.Signature.{Signature}
use Rattle.am_term.specs.declared.term.Formula.{Formula}
use Rattle.am_term.specs.declared.term.Formula.TheOpen.{Formula-F}
use Rattle.am_term.specs.declared.term.Formula.TheFolds.{fold-Formula}
use Rattle.am_world.specs.Interpretation.{Interpretation, IsWorld}
use Rattle.am_world.specs.Value.{Assignment, IsAssignment, atom_truth}

-- both or neither
abbrev pub agree : Bool → Bool → Bool
agree true b = b
agree false b = not b

-- the truth tables
abbrev pub truth_step : Interpretation → List ℕ → Assignment → Formula-F Bool → Bool
truth_step w ins a (Formula-F.Atom atom) = atom_truth w ins a atom
truth_step w ins a (Formula-F.Not b) = not b
truth_step w ins a (Formula-F.And bs) = list_all (λ b. b) bs
truth_step w ins a (Formula-F.Or bs) = list_any (λ b. b) bs
truth_step w ins a (Formula-F.Implies b c) = not b || c
truth_step w ins a (Formula-F.Iff b c) = agree b c

-- An `and` is true where each member is, so without members; an `or` where some member is.
unfoldable pub truth : Interpretation → List ℕ → Assignment → Formula → Bool
truth w ins a = fold-Formula Bool (truth_step w ins a)

-- an interpretation of the signature in which each axiom is true whatever its variables stand for
pub record Models (sig : Signature) (axioms : List Formula) (w : Interpretation) : Type 0 where
  pub world : IsWorld sig w
  pub hold : (a : Assignment) → IsAssignment sig w a → AllByRecursion (λ (f : Formula). IsTrue (truth w [] a f)) axioms
