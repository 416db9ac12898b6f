use Rattle.std.proofs.Common.{inl, inr, refl}
use Rattle.am_top.proofs.examining.examined.Goals as goal

-- the fault that the check tells is the first
pub returns-in_ok-message-in-Refused : goal.returns-in_ok-message-in-Refused
returns-in_ok-message-in-Refused c =
    inr (inl (c.in-Refused.line, c.in-Refused.reason, (c.in_ok-check.ensures.refused c.in-Refused.line c.in-Refused.reason).0 c.in-Refused.is, (refl, c.in_ok-message-in-Refused.ensures)))
