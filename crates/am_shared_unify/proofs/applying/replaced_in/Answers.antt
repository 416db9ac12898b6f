use Rattle.std.proofs.Common.{[], ◌∷◌, nat_eq, arith}
use Rattle.std.specs.HashMap.{get}
use Rattle.am_shared_unify.proofs.Becoming.{images-again, replaced-more, replaced-all}
use Rattle.am_shared_unify.proofs.applying.replaced_in.Goals as goal

pub loop-pair-preserved : goal.loop-pair-preserved
loop-pair-preserved c =
    replaced-more c.args.bank.now c.loop-pair.bank c.image_pair.new.bank ((c.args.n, c.args.by) ∷ []) (get nat_eq c.loop-pair.images) (get nat_eq c.image_pair.new.images) (omega (arith, c.requires.by))
    c.args.pairs.now c.loop-pair.made c.push.new.self c.loop-pair.pair-index (record { 0 = 0 }, record { 0 = 0 }) c.in_ok-image_pair.field-0 c.loop-pair.invariant c.loop-pair-test.true c.requires.pairs
    c.image_pair.ensures.grows c.in_ok-image_pair.ensures.images c.in_ok-image_pair.ensures.sides c.in_ok-image_pair.ensures.within_left c.in_ok-image_pair.ensures.within_right c.in_ok-push.ensures.ok

pub returns-clause-is : goal.returns-clause-is
returns-clause-is c = replaced-all c.args.bank.now c.loop-pair.bank (get nat_eq c.loop-pair.images) c.args.n c.args.by c.args.pairs.now c.loop-pair.made c.loop-pair.pair-index c.loop-pair.invariant c.loop-pair-test.false

-- the table serves the bank that grew
pub image_pair-requires-clause-images : goal.image_pair-requires-clause-images
image_pair-requires-clause-images c =
    images-again c.args.bank.now c.loop-pair.bank ((c.args.n, c.args.by) ∷ []) (get nat_eq c.loop-pair.images) c.loop-pair.invariant.grows (omega (arith, c.requires.by)) c.loop-pair.invariant.images
