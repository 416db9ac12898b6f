use Rattle.std.proofs.Common.{◌≡◌, arith, is_some, true, false}
use Rattle.std.proofs.lemmas.Grind.{common_steps}
use Rattle.std.proofs.lemmas.Map.Text.{text_keys}
use Rattle.std.specs.HashMap.{get_by_text}
use Rattle.am_exec.proofs.Placed.{place_kept, place_new}
use Rattle.am_exec.proofs.name_index.placed.Goals as goal

pub returns-then-is_some : goal.returns-then-is_some
returns-then-is_some c =
    let there : is_some (get_by_text c.args.places c.args.name.now) ≡ true = grind (arith, common_steps, text_keys) in
    place_kept (get_by_text c.args.places) c.args.name.now c.args.at there

pub returns : goal.returns
returns c =
    let none : is_some (get_by_text c.args.places c.args.name.now) ≡ false = grind (arith, common_steps, text_keys) in
    place_new (get_by_text c.args.places) (get_by_text c.insert.new.self) c.args.name.now c.args.at none (λ q. grind (arith, text_keys))
