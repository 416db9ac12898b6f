use Rattle.std.proofs.Common.{◌≡◌, ◌++◌, length, option_map}
use Rattle.am_rules.specs.Chosen.{all_chosen}
use Rattle.am_rules.proofs.closing.closing_terms.Given as goal

-- what was made, with what is left, is all
abbrev pub invariant-all : goal.invariant-all
invariant-all l = all_chosen l.ctx.sig.now l.ctx.ins.now l.variables ≡ option_map (λ ts. l.made ++ ts) (all_chosen l.ctx.sig.now l.ctx.ins.now l.rest)

abbrev pub decreases-all : goal.decreases-all
decreases-all l = length l.rest
