use Rattle.std.proofs.Common.{ap, List, ℕ, Option}
use Rattle.am_top.specs.declared.answer.Answer.TheVariants.{Text}
use Rattle.am_top.proofs.Chains.{check_no_files, check_not_loaded, check_printed, check_behind}
use Rattle.am_top.proofs.examining.examine.Goals as goal

pub returns-in-Err-clause-answer : goal.returns-in-Err-clause-answer
returns-in-Err-clause-answer g c =
    check_no_files (g.L.Library.told c.args.library.now) (g.L.Library.sure c.args.library.now) c.args.first.now c.args.second.now c.args.third.now c.in-Err.answer c.in-Err.ensures.found

pub returns-in-Err-load-clause-answer : goal.returns-in-Err-load-clause-answer
returns-in-Err-load-clause-answer g c =
    check_not_loaded (g.L.Library.told c.args.library.now) (g.L.Library.sure c.args.library.now) c.args.first.now c.args.second.now c.args.third.now c.in-Ok.files.theory c.in-Ok.files.diagram c.in-Ok.ensures.found _ _ c.in-Err-load.answer
    (c.in-Ok.ensures.sure c.args.third.now) (ap (λ (q : List ℕ → Option (List ℕ)). q c.args.third.now) c.in-Ok.ensures.told) c.in-Err-load.ensures.loaded

pub returns-in-Ok-examined-clause-answer : goal.returns-in-Ok-examined-clause-answer
returns-in-Ok-examined-clause-answer g c =
    check_printed (g.L.Library.told c.args.library.now) (g.L.Library.sure c.args.library.now) c.args.first.now c.args.second.now c.args.third.now c.in-Ok.files.theory c.in-Ok.files.diagram c.in-Ok.ensures.found c.in-Ok-load.text.items c.as_slice.result.now _
    (ap (λ (q : List ℕ → Option (List ℕ)). q c.args.third.now) c.in-Ok.ensures.told) c.in-Ok-load.ensures.loaded c.as_slice.ensures.value (Text c.in-Ok-examined.text) c.in-Ok-examined.ensures

pub returns-clause-answer : goal.returns-clause-answer
returns-clause-answer g c =
    check_behind (g.L.Library.told c.args.library.now) (g.L.Library.sure c.args.library.now) c.args.first.now c.args.second.now c.args.third.now c.in-Ok.files.theory c.in-Ok.files.diagram c.in-Ok.ensures.found c.in-Ok-load.text.items c.as_slice.result.now _
    (ap (λ (q : List ℕ → Option (List ℕ)). q c.args.third.now) c.in-Ok.ensures.told) c.in-Ok-load.ensures.loaded c.as_slice.ensures.value c.in-Err-examined.answer c.in-Err-examined.ensures
