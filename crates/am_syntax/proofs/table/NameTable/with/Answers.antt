use Rattle.std.proofs.Common.{◌≡◌, ◌++◌, ◌∷◌, [], length, arith}
use Rattle.std.proofs.lemmas.Grind.{common_steps}
use Rattle.std.proofs.lemmas.Map.Text.{text_keys}
use Rattle.am_syntax.proofs.Positions.{position_push}
use Rattle.am_syntax.proofs.table.NameTable.with.Goals as goal

pub invariant_of-result : goal.invariant_of-result
invariant_of-result c =
    let e : c.push.new.self ≡ c.args.self.names ++ c.args.name.now ∷ [] = grind (arith, common_steps) in
    let n : c.in-Ok.number ≡ length c.args.self.names = grind (arith, common_steps) in
    record {
      agrees = λ q.
          let push = position_push q c.args.name.now c.args.self.names c.requires in
          let before = c.args.self.agrees q in
          rw e (grind (arith, text_keys, push, before, n));
    }
