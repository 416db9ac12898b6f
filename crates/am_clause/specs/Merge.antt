-- Merging: of equal literals the first stays.
use Rattle.std.specs.Prelude.{List}
use Rattle.am_term.specs.declared.term.Literal.{Literal}
use Rattle.am_term.specs.Same.{same_literal}
use Rattle.am_clause.specs.Distinct.{distinct}

-- Literals are equal where they are spelled alike: an equation and the one with its sides exchanged differ.
abbrev pub merged : List Literal → List Literal
merged = distinct same_literal
