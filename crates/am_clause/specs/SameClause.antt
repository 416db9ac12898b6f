-- Whether two clauses are one: literal for literal in order, and term for term of the answers.
use Rattle.std.specs.Prelude.{◌&&◌, Bool, true, false, List, [], ◌∷◌, Option, Some, None}
use Rattle.am_term.specs.declared.term.Term.{Term}
use Rattle.am_term.specs.declared.term.Literal.{Literal}
use Rattle.am_term.specs.Same.{same_literal, same_terms}
use Rattle.am_clause.specs.declared.clause.Clause.{Clause}

-- as many literals, each the same as the one at its place
abbrev pub same_literals : List Literal → List Literal → Bool
same_literals [] [] = true
same_literals [] (m ∷ ms) = false
same_literals (l ∷ ls) [] = false
same_literals (l ∷ ls) (m ∷ ms) = same_literal l m && same_literals ls ms

-- both have no answer, or the same terms as answer
abbrev pub same_answer : Option (List Term) → Option (List Term) → Bool
same_answer None None = true
same_answer None (Some us) = false
same_answer (Some ts) None = false
same_answer (Some ts) (Some us) = same_terms ts us

-- the same literals in order, and the same answer
abbrev pub same_clause : Clause → Clause → Bool
same_clause c d = same_literals c.literals d.literals && same_answer c.answer d.answer
