use Rattle.std.proofs.Common.{◌≡◌, ◌++◌, ◌∷◌, [], arith, ◌∙◌, sym, true}
use Rattle.std.specs.Prelude.{is_some}
use Rattle.std.proofs.lemmas.Grind.{common_steps}
use Rattle.am_syntax.specs.Positions.{position_of}
use Rattle.am_syntax.proofs.Positions.{position_again}
use Rattle.am_syntax.proofs.table.NameTable.appending.Goals as goal

pub invariant_of-result : goal.invariant_of-result
invariant_of-result c =
    let e : c.push.new.self ≡ c.args.self.names ++ c.args.name.now ∷ [] = grind (arith, common_steps) in
    let there : is_some (position_of c.args.name.now c.args.self.names) ≡ true = grind (arith, common_steps) in
    record {
      agrees = λ q. rw e (c.args.self.agrees q ∙ sym (position_again q c.args.name.now c.args.self.names there));
    }
