-- what is left decides
use Rattle.std.specs.Prelude.{◌≡◌}
use Rattle.am_search.specs.Plain.{begun}
use Rattle.am_search.specs.Rules.{rules_in}
use Rattle.am_search.specs.Stating.{judged_in, Tied}
use Rattle.am_search.proofs.state.State.begin.Given as goal

abbrev pub invariant-starts : goal.invariant-starts
invariant-starts l = record {
  tied : Tied l.setting l.self;
  judged : begun (rules_in l.setting) l.self.rows l.self.choices l.self.left (judged_in l.self) ≡ begun (rules_in l.setting) l.fn.self.rows l.fn.self.choices l.fn.self.left (judged_in l.fn.self);
  rows : l.self.rows ≡ l.fn.self.rows;
  choices : l.self.choices ≡ l.fn.self.choices;
  ahead : l.self.ahead ≡ l.fn.self.ahead;
}

abbrev pub decreases-starts : goal.decreases-starts
decreases-starts l = l.self.left
