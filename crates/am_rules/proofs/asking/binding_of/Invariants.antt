use Rattle.std.proofs.Common.{◌≡◌, drop}
use Rattle.am_term.specs.declared.term.Term.TheVariants.{Var}
use Rattle.am_unify.specs.Substitution.{bound_to}
use Rattle.am_rules.proofs.asking.binding_of.Given as goal

-- what is left decides
abbrev pub invariant-loop-binding : goal.invariant-loop-binding
invariant-loop-binding l = bound_to l.found l.n (Var l.n l.sort) ≡ bound_to (drop l.binding-index l.found) l.n (Var l.n l.sort)
