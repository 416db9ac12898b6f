use Rattle.std.proofs.Common.{◌≡◌, false, take}
use Rattle.std.specs.List.{list_any}
use Rattle.am_simplify.specs.Reasons.{has_abstract}
use Rattle.am_simplify.proofs.dropping.+abstracting.Given as goal

-- none so far has an abstract symbol
abbrev pub invariant-some_abstract-loop-term : goal.invariant-some_abstract-loop-term
invariant-some_abstract-loop-term l = list_any (has_abstract l.sig) (take l.term-index l.terms) ≡ false
