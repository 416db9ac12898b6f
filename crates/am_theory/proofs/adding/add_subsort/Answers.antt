use Rattle.std.proofs.Common.{◌<◌, length, sym, ap, subst}
use Rattle.am_term.specs.declared.id.SortId.{SortId}
use Rattle.am_theory.specs.Contents.{Contents, contents}
use Rattle.am_theory.proofs.SortNames.{sort-there}
use Rattle.am_theory.proofs.adding.add_subsort.Goals as goal

pub add_named_sort-requires : goal.add_named_sort-requires
add_named_sort-requires c =
    let there = sort-there (contents c.args.tables.now.theory) c.args.sort.now c.requires in
    let parent = subst (λ (p : SortId). p.0 < length c.args.tables.now.theory.sig.sorts) (sym c.sort_number-parent.ensures) there in
    subst (λ ns. c.sort_number-parent.result.0 < length ns) (sym (ap (λ (x : Contents). x.sorts) c.in_ok-add_copy.ensures)) parent
