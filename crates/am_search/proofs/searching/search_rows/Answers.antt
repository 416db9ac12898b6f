use Rattle.std.proofs.Common.{subst}
use Rattle.am_search.proofs.Turning.{stands_run, at_of, stands_turn, over_so}
use Rattle.am_search.specs.Outcomes.{due_kind}
use Rattle.am_search.specs.Plain.{Reading, Start, due_of}
use Rattle.am_search.specs.Rules.{rules_in}
use Rattle.am_search.specs.Searching.{StopsInferring}
use Rattle.am_search.specs.Stating.{as_read}
use Rattle.am_search.specs.declared.searcher.Turned.{Turned}
use Rattle.am_search.specs.declared.searcher.Turned.TheVariants.{Over}
use Rattle.am_search.proofs.searching.search_rows.Goals as goal

pub turns-init : goal.turns-init
turns-init g c =
    let r = rules_in c.args.setting.now in
    let v : Reading = as_read c.args.setting.now c.run_on.new.self.state in
    let o = c.in_ok-turned.ensures.goes c.args.rows.items Start (c.in_ok-searcher.ensures.reads c.args.budget) in
    record {
      stands = stands_run r c.args.rows.items c.args.budget _ v c.run_on.new.self.made o.run;
      stops = o.stops;
      tied = c.in_ok-turned.ensures.tied;
    }

pub turns-preserved : goal.turns-preserved
turns-preserved g c =
    let r = rules_in c.args.setting.now in
    let v : Reading = as_read c.args.setting.now c.turns.searcher.state in
    let w : Reading = as_read c.args.setting.now c.turn.new.self.state in
    let s = c.turns.invariant.stands in
    let e = c.in_ok-turned-in-Goes.ensures in
    let t = e.goes c.args.rows.items s.history (at_of _ _ _ _ _ _ _ s) in
    record {
      stands = stands_turn r c.args.rows.items c.args.budget _ v w c.turns.searcher.made c.turn.new.self.made _ _ c.in_ok-turned-in-Goes.turned s t e.after;
      stops = t.runs.stops;
      tied = e.tied;
    }

pub returns-in-Over : goal.returns-in-Over
returns-in-Over g c =
    let v : Reading = as_read c.args.setting.now c.turns.searcher.state in
    let e = c.in_ok-outcome-in-Over.ensures in
    let t : StopsInferring c.args.budget c.turns.searcher.made (due_kind (due_of (rules_in c.args.setting.now) v)) (Over c.in-Over.end) =
    subst (λ (x : Turned). StopsInferring c.args.budget c.turns.searcher.made (due_kind (due_of (rules_in c.args.setting.now) v)) x) c.in-Over.is c.turns.invariant.stops in
    over_so _ _ _ _ v c.turns.searcher.made _ c.in-Over.end _ _ _ _ _ c.turns.invariant.stands t
    (record { end_is = e.end; rows_are = e.rows; entries_are = e.entries; choices_are = e.choices; last_is = e.last })
