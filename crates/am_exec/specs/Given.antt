-- Which inputs a diagram is for, and which outputs it asks for.
use Rattle.std.specs.Prelude.{◌++◌, ℕ, List, [], IsTrue}
use Rattle.std.specs.List.{AllByRecursion}
use Rattle.am_term.specs.declared.term.Literal.{Literal}
use Rattle.am_world.specs.Interpretation.{Interpretation, Members}
use Rattle.am_world.specs.Value.{literal_truth}
use Rattle.am_world.specs.Questions.{numbered}
use Rattle.am_diagram.specs.declared.diagram.Diagram.{Diagram}
use Rattle.am_diagram.specs.Listed.{entry_sorts}

-- Each number is a member of its input's sort, and each given is true. Givens have no variables.
pub record Given (w : Interpretation) (d : Diagram) (ins : List ℕ) : Type 0 where
  pub members : Members w (entry_sorts d.inputs) ins
  pub facts : AllByRecursion (λ (l : Literal). IsTrue (literal_truth w ins (numbered []) l)) d.givens

-- Each number is a member of its output's sort, and there are members of the objects' sorts with
-- which each requirement is true.
pub record Spec (w : Interpretation) (d : Diagram) (ins outs : List ℕ) : Type 0 where
  pub members : Members w (entry_sorts d.outputs) outs
  pub objects : List ℕ
  pub inside : Members w (entry_sorts d.objects) objects
  pub holds : AllByRecursion (λ (l : Literal). IsTrue (literal_truth w ins (numbered (objects ++ outs)) l)) d.required
