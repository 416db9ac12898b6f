-- The rules of inference. A rule asks of its parents that they have the named parts, of the right kind. Everything else
-- it says of the parents' instances, which share all variables: what is equal in them, whether their answers go
-- together, and the conclusion, in which nothing is merged yet. Literals are named by their places from 1.
use Rattle.std.specs.Prelude.{◌&&◌, ◌++◌, ◌==◌, ℕ, Bool, true, false, not, List, Option, Some, None, length, is_some, is_none}
use Rattle.std.specs.Bool.{beq}
use Rattle.am_term.specs.declared.term.Term.{Term}
use Rattle.am_term.specs.declared.term.Atom.{Atom}
use Rattle.am_term.specs.declared.term.Atom.TheVariants.{Rel, Eq}
use Rattle.am_term.specs.declared.term.Literal.{Literal}
use Rattle.am_term.specs.Place.{member, with_member}
use Rattle.am_term.specs.Same.{same_term, same_terms, same_atom}
use Rattle.am_clause.specs.declared.clause.Clause.{Clause}
use Rattle.am_clause.specs.declared.row.Side.{Side}
use Rattle.am_clause.specs.declared.row.Side.TheVariants.{Left, Right}
use Rattle.am_term.specs.Parts.{without, place_in, replaced_literal}

-- a rule with one parent: what its parent has to have, what is equal in the parent's instance, and what follows
pub record OneParent : Type 0 where
  pub suits : Clause → Bool
  pub equal : Clause → Bool
  pub made : Clause → Clause

-- the same of a rule with two parents, and whether the answers of their instances go together
pub record TwoParents : Type 0 where
  pub suits : Clause → Clause → Bool
  pub equal : Clause → Clause → Bool
  pub answers : Clause → Clause → Bool
  pub made : Clause → Clause → Clause

-- ---- kinds of literals, where there are any

-- both are there and have one sign
abbrev pub have_one_sign : Option Literal → Option Literal → Bool
have_one_sign None m = false
have_one_sign (Some l) None = false
have_one_sign (Some l) (Some m) = beq l.positive m.positive

-- an equation, and no relation
abbrev pub is_equation : Atom → Bool
is_equation (Rel r args) = false
is_equation (Eq left right) = true

-- it is there, and is an equation of this sign
abbrev pub is_equation_of : Bool → Option Literal → Bool
is_equation_of sign None = false
is_equation_of sign (Some l) = beq l.positive sign && is_equation l.atom

-- both are there, both are no equations, and their signs are opposite
abbrev pub are_opposite : Option Literal → Option Literal → Bool
are_opposite None m = false
are_opposite (Some l) None = false
are_opposite (Some l) (Some m) = not (is_equation l.atom) && (not (is_equation m.atom) && beq l.positive (not m.positive))

-- it is there, and has a part at the path
abbrev pub has_place : List ℕ → Option Literal → Bool
has_place path None = false
has_place path (Some l) = is_some (place_in path l.atom)

-- ---- what is equal

-- both are there and have one atom
abbrev pub have_one_atom : Option Literal → Option Literal → Bool
have_one_atom None m = false
have_one_atom (Some l) None = false
have_one_atom (Some l) (Some m) = same_atom l.atom m.atom

-- an equation whose sides are one term
abbrev pub has_equal_sides : Atom → Bool
has_equal_sides (Rel r args) = false
has_equal_sides (Eq left right) = same_term left right

-- it is there, and its sides are one term
abbrev pub equates_sides : Option Literal → Bool
equates_sides None = false
equates_sides (Some l) = has_equal_sides l.atom

-- the other side
abbrev pub turned : Side → Side
turned Left = Right
turned Right = Left

-- that side of an equation
abbrev pub side_of : Side → Atom → Option Term
side_of side (Rel r args) = None
side_of Left (Eq left right) = Some left
side_of Right (Eq left right) = Some right

-- that side of the literal, where it is an equation
abbrev pub side_at : Side → Option Literal → Option Term
side_at side None = None
side_at side (Some l) = side_of side l.atom

-- the part of the literal at the path, where it has one
abbrev pub part_at : List ℕ → Option Literal → Option Term
part_at path None = None
part_at path (Some l) = place_in path l.atom

-- both are there and are one
abbrev pub are_one : Option Term → Option Term → Bool
are_one None part = false
are_one (Some side) None = false
are_one (Some side) (Some part) = same_term side part

-- ---- answers

-- one of the two isn't there, or they are one
abbrev pub go_together : Option (List Term) → Option (List Term) → Bool
go_together None other = true
go_together (Some ts) None = true
go_together (Some ts) (Some us) = same_terms ts us

-- the answer of the first, and of the second where the first has none
abbrev pub shared : Option (List Term) → Option (List Term) → Option (List Term)
shared None other = other
shared (Some ts) other = Some ts

-- where both clauses have answers, these are one
abbrev pub answers_agree : Clause → Clause → Bool
answers_agree c d = go_together c.answer d.answer

-- ---- conclusions

-- the literals, with that term at the path of literal i, where both are there
abbrev pub with_other : Option Term → List ℕ → Option Literal → List Literal → ℕ → List Literal
with_other None path l ls i = ls
with_other (Some other) path None ls i = ls
with_other (Some other) path (Some l) ls i = with_member ls i (replaced_literal other path l)

-- ---- the rules

-- atoms i and j become equal; all literals stay
abbrev pub factor : ℕ → ℕ → OneParent
factor i j = record {
  suits = λ p. have_one_sign (member p.literals i) (member p.literals j);
  equal = λ c. have_one_atom (member c.literals i) (member c.literals j);
  made = λ c. c;
}

-- the sides of the negative equation i become equal; it goes
abbrev pub reflex : ℕ → OneParent
reflex i = record {
  suits = λ p. is_equation_of false (member p.literals i);
  equal = λ c. equates_sides (member c.literals i);
  made = λ c. record { literals = without c.literals i; answer = c.answer };
}

-- there are no literals, and an answer, whose variables are bound
abbrev pub close : OneParent
close = record {
  suits = λ p. length p.literals == 0 && is_some p.answer;
  equal = λ c. true;
  made = λ c. c;
}

-- the atoms i of p and j of q, of opposite signs, become equal; both literals go
abbrev pub resolve : ℕ → ℕ → TwoParents
resolve i j = record {
  suits = λ p q. are_opposite (member p.literals i) (member q.literals j);
  equal = λ c d. have_one_atom (member c.literals i) (member d.literals j);
  answers = answers_agree;
  made = λ c d. record { literals = without c.literals i ++ without d.literals j; answer = shared c.answer d.answer };
}

-- a side of p's positive equation j and the part at a path of q's literal i become equal; the other side comes
-- there, and the equation goes
abbrev pub para : ℕ → Side → ℕ → List ℕ → TwoParents
para j side i path = record {
  suits = λ p q. is_equation_of true (member p.literals j) && has_place path (member q.literals i);
  equal = λ c d. are_one (side_at side (member c.literals j)) (part_at path (member d.literals i));
  answers = answers_agree;
  made = λ c d. record {
    literals = with_other (side_at (turned side) (member c.literals j)) path (member d.literals i) d.literals i ++ without c.literals j;
    answer = shared c.answer d.answer;
  };
}

-- the same with a p that has one literal and no answer
abbrev pub rewrite : ℕ → Side → ℕ → List ℕ → TwoParents
rewrite j side i path = record {
  suits = λ p q. length p.literals == 1 && (is_none p.answer && (para j side i path).suits p q);
  equal = (para j side i path).equal;
  answers = (para j side i path).answers;
  made = (para j side i path).made;
}
