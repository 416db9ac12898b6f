-- What is asked of outputs: that with some members for the objects each requirement is true. A question is three lists:
-- the sorts of the objects, the sorts of the outputs, and the requirements, whose variable n is the n-th of the objects
-- and then the outputs.
use Rattle.std.specs.Prelude.{◌≡◌, ◌<◌, ◌++◌, ℕ, List, Some, length, slice_get, slice_index, IsTrue}
use Rattle.std.specs.List.{AllByRecursion}
use Rattle.am_term.specs.declared.id.SortId.{SortId}
use Rattle.am_term.specs.declared.signature.Signature.{Signature}
use Rattle.am_term.specs.declared.term.Literal.{Literal}
use Rattle.am_clause.specs.Distinct.{among}
use Rattle.am_clause.specs.Variables.{Variable, same_variable, in_atom}
use Rattle.am_world.specs.Interpretation.{Interpretation, Members}
use Rattle.am_world.specs.Value.{Assignment, literal_truth}

-- variable n is the n-th of these numbers
abbrev pub numbered : List ℕ → Assignment
numbered ns n s = slice_index ns n

-- each number is a member of its output's sort, and there are members of the objects' sorts with which each
-- requirement is true
pub record Meets (w : Interpretation) (objects outputs : List SortId) (required : List Literal) (ins outs : List ℕ) : Type 0 where
  pub members : Members w outputs outs
  pub others : List ℕ
  pub inside : Members w objects others
  pub holds : AllByRecursion (λ (l : Literal). IsTrue (literal_truth w ins (numbered (others ++ outs)) l)) required

-- a sort of the signature
abbrev pub IsSortOf : Signature → SortId → Type 0
IsSortOf sig s = s.0 < length sig.sorts

-- each variable of the literal has one of these sorts, the one at its number
abbrev pub IsPosed : List SortId → Literal → Type 0
IsPosed sorts l = (v : Variable) → IsTrue (among same_variable v (in_atom l.atom)) → slice_get sorts v.0 ≡ Some v.1
