use Rattle.std.proofs.Common.{◌≡◌, [], arith}
use Rattle.std.proofs.lemmas.Grind.{common_steps}
use Rattle.am_fortran.proofs.Drafting.{declaration_items}
use Rattle.am_fortran.proofs.draft.Draft.with_declaration.Goals as goal

pub returns : goal.returns
returns c =
    let none : c.args.self.statements ≡ [] = grind (arith, common_steps) in
    declaration_items c.args.self.name c.args.self.dummies c.args.self.declarations c.push.new.self c.args.self.statements c.args.self.ended c.args.declaration c.in_ok-push.ensures.ok c.requires none
