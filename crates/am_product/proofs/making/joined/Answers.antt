use Rattle.std.proofs.Common.{arith, List, subst}
use Rattle.std.proofs.lemmas.Grind.{common_steps}
use Rattle.am_clause.specs.declared.row.Row.{Row}
use Rattle.am_product.specs.Planned.{IsPlanned}
use Rattle.am_product.proofs.Joined.{joins}
use Rattle.am_product.proofs.making.joined.Goals as goal

pub returns : goal.returns
returns c =
    let planned = subst (λ (rows : List Row). IsPlanned c.args.theory.now c.args.diagram.now rows c.in_ok-unit.unit) c.as_slice.ensures c.in_ok-unit.ensures in
    joins c.args.theory.now c.args.diagram.now c.args.log.now c.in_ok-unit.unit c.extend_from_slice.new.self.items planned (grind (arith, common_steps))
