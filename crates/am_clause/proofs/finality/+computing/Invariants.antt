use Rattle.std.proofs.Common.{◌≡◌, true, take}
use Rattle.std.specs.List.{list_all}
use Rattle.am_clause.specs.Final.{is_computable_term}
use Rattle.am_clause.proofs.finality.+computing.Given as goal

-- a program can compute the terms so far
abbrev pub invariant-are_computable-loop-term : goal.invariant-are_computable-loop-term
invariant-are_computable-loop-term l = list_all (is_computable_term l.signature) (take l.term-index l.terms) ≡ true
