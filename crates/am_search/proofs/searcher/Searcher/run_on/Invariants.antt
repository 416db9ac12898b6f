-- from any history that the state stood for, it went on to one that it stands for
use Rattle.std.specs.Prelude.{List, ◌≤◌, ◌-◌}
use Rattle.am_clause.specs.declared.row.Row.{Row}
use Rattle.am_search.specs.Plain.{History}
use Rattle.am_search.specs.Rules.{rules_in}
use Rattle.am_search.specs.Searching.{StandsAt, Run, task}
use Rattle.am_search.specs.Stating.{as_read, Tied}
use Rattle.am_search.proofs.searcher.Searcher.run_on.Given as goal

abbrev pub invariant-runs : goal.invariant-runs
invariant-runs l = record {
  runs : (start : List Row) (h : History) → StandsAt (rules_in l.setting) start l.budget h (as_read l.setting l.fn.self.state) l.fn.self.made → Run (rules_in l.setting) start l.budget h (as_read l.setting l.self.state) l.self.made;
  tied : Tied l.setting l.self.state;
  few : l.self.made ≤ l.budget;
  less : task (rules_in l.setting) l.budget l.self.made (as_read l.setting l.self.state) ≤ task (rules_in l.setting) l.budget l.fn.self.made (as_read l.setting l.fn.self.state);
}

abbrev pub decreases-runs : goal.decreases-runs
decreases-runs l = l.budget - l.self.made
