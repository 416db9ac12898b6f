use Rattle.std.proofs.Common.{◌≡◌, List, ℕ, ◌++◌, ◌∷◌, [], arith, ap, ◌∙◌}
use Rattle.std.proofs.lemmas.Grind.{common_steps}
use Rattle.std.specs.Prelude.{◌||◌}
use Rattle.std.specs.Str.{bytes_eq}
use Rattle.am_term.specs.NameLists.{is_among}
use Rattle.am_syntax.specs.declared.table.NameTable.{NameTable}
use Rattle.am_syntax.proofs.Positions.{among_there, among_push, ok_also}
use Rattle.am_syntax.proofs.table.NameTable.including.Goals as goal

pub returns-then-is_some : goal.returns-then-is_some
returns-then-is_some c = λ q. among_there q c.args.name.now c.args.self.names (grind (arith, common_steps))

pub returns : goal.returns
returns c = ok_also (λ (t : NameTable). t.names ≡ c.args.self.names ++ c.args.name.now ∷ []) (λ (t : NameTable). (q : List ℕ) → is_among q t.names ≡ (bytes_eq q c.args.name.now || is_among q c.args.self.names)) (λ t e q. ap (is_among q) e ∙ among_push q c.args.name.now c.args.self.names) c.with.result c.with.ensures
