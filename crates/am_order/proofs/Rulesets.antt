-- The laws of the order.
use Rattle.am_order.proofs.Unfold.{is_part-is}
use Rattle.am_order.proofs.Trans.{greater-rule, greater-irreflexive, greater-trans, greater-part}
use Rattle.am_order.proofs.Closed.{greater-instance, greater-substitution, greater-argument, greater-placed}

pub ruleset rule = (greater-rule)

pub ruleset strict = (greater-irreflexive, greater-trans)

pub ruleset parts = (is_part-is, greater-part)

pub ruleset substitutions = (greater-instance, greater-substitution)

pub ruleset contexts = (greater-argument, greater-placed)
