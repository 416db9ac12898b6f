use Rattle.std.proofs.Common.{ap, List, ℕ, Option}
use Rattle.am_top.proofs.Chains.{files_no_diagram, files_found}
use Rattle.am_top.proofs.finding.find_files.Goals as goal

pub returns-in-Err-clause-found : goal.returns-in-Err-clause-found
returns-in-Err-clause-found g c =
    files_no_diagram (g.L.Library.told c.args.library.now) (g.L.Library.sure c.args.library.now) c.args.first.now c.args.second.now c.in_ok-theory.theory c.in_ok-theory.ensures.found _ _ c.in-Err.answer
    (c.in_ok-theory.ensures.sure c.args.second.now) (ap (λ (q : List ℕ → Option (List ℕ)). q c.args.second.now) c.in_ok-theory.ensures.told) c.in-Err.ensures.found

pub returns-clause-found : goal.returns-clause-found
returns-clause-found g c =
    files_found (g.L.Library.told c.args.library.now) (g.L.Library.sure c.args.library.now) c.args.first.now c.args.second.now c.in_ok-theory.theory c.in_ok-theory.ensures.found c.in-Ok.diagram _
    (ap (λ (q : List ℕ → Option (List ℕ)). q c.args.second.now) c.in_ok-theory.ensures.told) c.in-Ok.ensures.found
