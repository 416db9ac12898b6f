use Rattle.std.specs.Prelude.{◌≡◌, ℕ, [], List}
use Rattle.std.proofs.Common.{◌∙◌, ap, sym}
use Rattle.am_search.proofs.Going.{picked_of, stands_chosen, less_chosen}
use Rattle.am_search.specs.Plain.{Reading, wait_of, Then, Choose, picked_at}
use Rattle.am_search.specs.Rules.{rules_in}
use Rattle.am_search.specs.Stating.{as_read}
use Rattle.am_agenda.specs.declared.wait_row.WaitRow.{WaitRow}
use Rattle.am_search.proofs.Picks.{picked_there}
use Rattle.am_search.proofs.searcher.Searcher.turn.Goals as goal

pub returns-clause-goes : goal.returns-clause-goes
returns-clause-goes g c =
    let r = rules_in c.args.setting.now in
    let v : Reading = as_read c.args.setting.now c.args.self.now.state in
    let w : Reading = as_read c.args.setting.now c.choose.new.self in
    let are : c.as_slice.result.now ≡ wait_of r v = c.as_slice.ensures.value ∙ c.in_ok-waits.ensures in
    λ start h s. record {
      chosen = c.ask-number.result;
      picked = picked_of ((goal.Chooser-dyn g (c.args.chooser.now.vtable, c.args.chooser.now.value)).pick_after c.args.chooser.now.value) _ _ _ are c.ask-number.ensures.picked;
      runs = c.in_ok-turned.ensures.goes start (Then h (Choose c.ask-number.result)) (stands_chosen r start c.args.budget h v w c.args.self.now.made c.ask-number.result s c.requires.waits c.in_ok-choose.ensures.reads);
    }

pub returns-clause-less : goal.returns-clause-less
returns-clause-less g c =
    let r = rules_in c.args.setting.now in
    let v : Reading = as_read c.args.setting.now c.args.self.now.state in
    let w : Reading = as_read c.args.setting.now c.choose.new.self in
    let are : c.as_slice.result.now ≡ wait_of r v = c.as_slice.ensures.value ∙ c.in_ok-waits.ensures in
    let place : ℕ = (goal.Chooser-dyn g (c.args.chooser.now.vtable, c.args.chooser.now.value)).pick_after c.args.chooser.now.value [] c.as_slice.result.now in
    less_chosen r v w (as_read c.args.setting.now c.run_on.new.self.state) c.args.budget c.args.self.now.made c.run_on.new.self.made c.ask-number.result place (ap (λ (ws : List WaitRow). picked_at ws place) (sym are) ∙ c.ask-number.ensures.picked) c.in_ok-choose.ensures.reads c.in_ok-turned.ensures.less

pub choose-requires-clause-there : goal.choose-requires-clause-there
choose-requires-clause-there g c =
    picked_there (rules_in c.args.setting.now) (as_read c.args.setting.now c.args.self.now.state) c.as_slice.result.now _ c.ask-number.result (c.as_slice.ensures.value ∙ c.in_ok-waits.ensures) c.ask-number.ensures.picked
