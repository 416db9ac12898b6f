use Rattle.std.proofs.Common.{◌∙◌, ap₂}
use Rattle.am_term.specs.declared.term.Term.{Term}
use Rattle.am_sharing.specs.Terms.{term_at}
use Rattle.am_shared_unify.proofs.Grown.{term-kept}
use Rattle.am_shared_unify.proofs.Becoming.{becomes-before}
use Rattle.am_shared_unify.proofs.applying.image_pair.Goals as goal

pub returns-clause-sides : goal.returns-clause-sides
returns-clause-sides c =
    ap₂ (λ (t u : Term). (t, u))
    (term-kept c.image.new.bank c.image-2.new.bank c.image-2.ensures.grows c.in_ok-left.left.0 c.in_ok-left.ensures.within ∙ c.in_ok-left.ensures.is)
    (becomes-before c.args.bank.now c.image.new.bank c.args.found.now c.args.pair.1.0 (term_at c.image-2.new.bank c.in_ok-right.right.0) c.image.ensures.grows c.requires.found c.requires.right c.in_ok-right.ensures.is)
