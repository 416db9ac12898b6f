use Rattle.am_theory.proofs.AddSteps.{sorts-hold}
use Rattle.am_theory.proofs.adding.add_named_sort.Goals as goal

pub invariant_of-tables : goal.invariant_of-tables
invariant_of-tables c =
    let sig = c.args.tables.now.theory.sig in
    let made = c.push_sort.new in
    let h = sorts-hold c.push_sort.result sig.sorts made.sorts c.args.name sig.parents made.parents c.args.parent sig.parented sig.lower c.requires c.push_sort.ensures.listed c.push_sort.ensures.placed c.push_sort.ensures.empty c.push_sort.ensures.unrelated in
    (h.0, (h.1, tt))
