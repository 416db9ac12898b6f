-- the state stands for a history, and the last turn ended as it says
use Rattle.am_search.specs.Outcomes.{StandsFor, due_kind}
use Rattle.am_search.specs.Plain.{due_of}
use Rattle.am_search.specs.Rules.{rules_in}
use Rattle.am_search.specs.Searching.{StopsInferring, task}
use Rattle.am_search.specs.Stating.{as_read, Tied}
use Rattle.am_search.proofs.searching.search_rows.Given as goal

abbrev pub invariant-turns : goal.invariant-turns
invariant-turns g l = record {
  stands :
      let now = (goal.Chooser-dyn g (l.chooser.vtable, l.chooser.value)).pick_after l.chooser.value in
      let first = (goal.Chooser-dyn g (l.fn.chooser.vtable, l.fn.chooser.value)).pick_after l.fn.chooser.value in
      StandsFor (rules_in l.setting) l.fn.rows.items l.budget first (as_read l.setting l.searcher.state) l.searcher.made now;
  stops : StopsInferring l.budget l.searcher.made (due_kind (due_of (rules_in l.setting) (as_read l.setting l.searcher.state))) l.turned;
  tied : Tied l.setting l.searcher.state;
}

abbrev pub decreases-turns : goal.decreases-turns
decreases-turns g l = task (rules_in l.setting) l.budget l.searcher.made (as_read l.setting l.searcher.state)
