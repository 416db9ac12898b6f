use Rattle.am_theory.specs.Contents.{contents}
use Rattle.am_theory.proofs.Faultless.{sort-in-range, subsort-known}
use Rattle.am_theory.proofs.adding.add_declaration.Goals as goal

pub add_sort-requires : goal.add_sort-requires
add_sort-requires c = sort-in-range (contents c.args.tables.now.theory) c.args.declaration c.in-Sort.name c.in-Sort.rep c.in-Sort.copy c.in-Sort.is c.requires

pub add_subsort-requires : goal.add_subsort-requires
add_subsort-requires c = subsort-known (contents c.args.tables.now.theory) c.args.declaration c.in-Subsort.name c.in-Subsort.sort c.in-Subsort.is c.requires
