use Rattle.std.proofs.Common.{◌∙◌, sym, ap}
use Rattle.am_exec.specs.Places.{first_place, type_at}
use Rattle.am_exec.proofs.Indexed.{type_placed}
use Rattle.am_exec.proofs.declarations.declared_type.Goals as goal

pub returns : goal.returns
returns c =
    let declarations = c.args.scene.now.unit.now.declarations in
    let placed = c.place.ensures ∙ ap (first_place c.args.name.now) c.args.scene.now.names in
    c.type_at.ensures ∙ ap (λ es. type_at es c.place.result) c.as_slice.ensures ∙ ap (type_at declarations) placed ∙ sym (type_placed c.args.name.now declarations)
