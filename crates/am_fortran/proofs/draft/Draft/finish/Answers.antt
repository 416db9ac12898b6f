use Rattle.std.proofs.Common.{◌≡◌, true, refl, arith}
use Rattle.std.proofs.lemmas.Grind.{common_steps}
use Rattle.am_fortran.specs.Drafts.{draft_items}
use Rattle.am_fortran.specs.Units.{unit_items}
use Rattle.am_fortran.proofs.Drafting.{draft_kept}
use Rattle.am_fortran.proofs.draft.Draft.finish.Goals as goal

pub invariant_of-result : goal.invariant_of-result
invariant_of-result c =
    let k = draft_kept c.args.self c.requires in
    record {
      named = k.named;
      dummies_named = k.dummies_named;
      some_dummy = k.some_dummy;
      few_dummies = k.few_dummies;
      declared = k.declared;
      stated = k.stated;
    }

pub returns : goal.returns
unfolding draft_items unit_items
returns c =
    let k = draft_kept c.args.self c.requires in
    let ended : c.args.self.ended ≡ true = grind (arith, common_steps) in
    (record { fits = k.fits }, rw ended refl)
