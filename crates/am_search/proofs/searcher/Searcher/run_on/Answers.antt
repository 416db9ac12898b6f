use Rattle.std.specs.Prelude.{◌≡◌, ◌≤◌, ◌≢◌}
use Rattle.std.proofs.Common.{ap, ◌∙◌, sym, arith}
use Rattle.am_search.proofs.Going.{less_same, run_same, stops_at, never_spent, run_none, run_more, less_more}
use Rattle.am_search.specs.Outcomes.{due_kind}
use Rattle.am_search.specs.Plain.{Reading, due_of}
use Rattle.am_search.specs.Rules.{rules_in}
use Rattle.am_search.specs.Stating.{as_read}
use Rattle.am_search.specs.declared.fate.Kind.TheVariants.{Ending, Inferring}
use Rattle.am_search.proofs.searcher.Searcher.run_on.Goals as goal

pub returns-in-Ending : goal.returns-in-Ending
returns-in-Ending c =
    let r = rules_in c.args.setting.now in
    let u : Reading = as_read c.args.setting.now c.runs.self.state in
    let v : Reading = as_read c.args.setting.now c.due.new.self in
    let same : v ≡ u = c.in_ok-kind.ensures.same in
    let kind : due_kind (due_of r v) ≡ Ending c.in-Ending.end = ap (λ (w : Reading). due_kind (due_of r w)) same ∙ sym c.in_ok-kind.ensures.kind ∙ c.in-Ending.is in
    record {
      few = c.runs.invariant.few;
      tied = c.in_ok-kind.ensures.tied;
      less = less_same r c.args.budget c.runs.self.made _ u v same c.runs.invariant.less;
      goes = λ start h s. record {
        run = run_same r start c.args.budget h u v c.runs.self.made (c.runs.invariant.runs start h s) same;
        stops = stops_at c.args.budget c.runs.self.made (due_kind (due_of r v)) c.in-Ending.end kind (never_spent r v c.in-Ending.end kind);
      };
    }

pub runs-init : goal.runs-init
runs-init c = record {
  runs = λ start h s. run_none _ start _ h _ _ s;
  tied = c.requires.tied;
  few = c.requires.few;
  less = omega arith;
}

pub runs-preserved : goal.runs-preserved
runs-preserved c =
    let r = rules_in c.args.setting.now in
    let u : Reading = as_read c.args.setting.now c.runs.self.state in
    let v : Reading = as_read c.args.setting.now c.due.new.self in
    let w : Reading = as_read c.args.setting.now c.advance.new.self in
    let same : v ≡ u = c.in_ok-kind.ensures.same in
    let kind : due_kind (due_of r v) ≡ Inferring = ap (λ (x : Reading). due_kind (due_of r x)) same ∙ sym c.in_ok-kind.ensures.kind ∙ c.in-Inferring.is in
    let few : c.runs.self.made ≤ c.args.budget = c.runs.invariant.few in
    let isnt : c.runs.self.made ≢ c.args.budget = c.if-self-budget.false in
    record {
      runs = λ start h s. run_more r start c.args.budget h v w c.runs.self.made (run_same r start c.args.budget h u v c.runs.self.made (c.runs.invariant.runs start h s) same) kind isnt c.in_ok-advance-in-Inferring.ensures.reads;
      tied = c.in_ok-advance-in-Inferring.ensures.tied;
      few = omega arith;
      less = less_more r u v w c.args.budget c.runs.self.made _ same kind c.in_ok-advance-in-Inferring.ensures.reads few isnt c.runs.invariant.less;
    }
