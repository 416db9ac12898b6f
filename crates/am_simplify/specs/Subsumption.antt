-- Which clause subsumes which: terms for the variables make each literal of the one a literal of the other.
use Rattle.std.specs.Prelude.{◌≡◌, ◌≤◌, Bool, List, Option, Some, None, length, IsTrue}
use Rattle.std.specs.List.{list_all}
use Rattle.am_term.specs.Instance.{instances, instance_literal}
use Rattle.am_term.specs.Same.{same_literal}
use Rattle.am_term.specs.declared.id.SortId.{SortId}
use Rattle.am_term.specs.declared.signature.Signature.{Signature}
use Rattle.am_term.specs.declared.term.Literal.{Literal}
use Rattle.am_term.specs.declared.term.Term.{Term}
use Rattle.am_clause.specs.Distinct.{among}
use Rattle.am_clause.specs.SortedClause.{are_bindings}
use Rattle.am_clause.specs.declared.clause.Clause.{Clause}

-- under these terms an answer becomes the other; without an answer nothing is asked
abbrev pub AnswerBecomes : List Term → Option (List Term) → Option (List Term) → Type 0
AnswerBecomes with None other = Unit {0}
AnswerBecomes with (Some ts) other = other ≡ Some (instances with ts)

-- each of the literals becomes one of the others, as written
abbrev pub become_among : List Term → List Literal → List Literal → Bool
become_among with others ls = list_all (λ l. among same_literal (instance_literal with l) others) ls

-- d has at most as many literals as c, and these terms, one for each variable of d and of sorts that fit, make each
-- literal of d one of c, and the answer of d, if it has one, that of c
pub record SubsumesBy (sig : Signature) (ins : List SortId) (d c : Clause) (with : List Term) : Type 0 where
  pub few : length d.literals ≤ length c.literals
  pub binds : IsTrue (are_bindings sig ins with d)
  pub literals : IsTrue (become_among with c.literals d.literals)
  pub answer : AnswerBecomes with d.answer c.answer

-- d subsumes c, by some terms
abbrev pub Subsumes : Signature → List SortId → Clause → Clause → Type 0
Subsumes sig ins d c = (with : List Term) × SubsumesBy sig ins d c with
