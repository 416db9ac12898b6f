use Rattle.std.proofs.Common.{◌≡◌, ◌≤◌, ◌∙◌, refl, sym, ap, arith, length, nat_eq}
use Rattle.std.specs.HashMap.{get}
use Rattle.am_bank.specs.declared.id.TermId.{TermId}
use Rattle.am_sharing.specs.Bound.{id_bound}
use Rattle.am_sharing.specs.Terms.{term_at, terms_at, node_term}
use Rattle.am_sharing.proofs.Nodes.{symbol-term}
use Rattle.am_shared_unify.proofs.Grown.{images-kept}
use Rattle.am_shared_unify.specs.Sides.{listed_at}
use Rattle.am_shared_unify.proofs.Becoming.{image-more, became-more, args-below, becomes-Var, becomes-In, becomes-App, becomes-same, ids-below, ids-same}
use Rattle.am_shared_unify.proofs.applying.+images.Goals as goal

-- the table has one more image
pub image-returns-clause-images : goal.image-returns-clause-images
image-returns-clause-images t c =
    image-more c.args.bank.now c.new_image.new.bank (listed_at c.args.bank.now c.args.found.now) (get nat_eq c.new_image.new.images) (get nat_eq c.insert.new.self) c.args.id.0 c.in_ok-made.made
    c.new_image.ensures.grows c.in_ok-made.ensures.images c.in_ok-insert.ensures.updates.0 c.requires.id c.in_ok-made.ensures.within c.in_ok-made.ensures.is

pub image_all-loop-id-preserved : goal.image_all-loop-id-preserved
image_all-loop-id-preserved t c =
    became-more c.args.bank.now c.loop-id.bank c.image.new.bank c.args.found.now (get nat_eq c.loop-id.images) (get nat_eq c.image.new.images) c.requires.found
    c.args.ids.now c.loop-id.made.items c.push.new.self.items c.loop-id.id-index (record { 0 = 0 }) c.in_ok-next.next c.loop-id.invariant c.loop-id-test.true c.requires.ids
    c.image.ensures.grows c.in_ok-next.ensures.images c.in_ok-next.ensures.is c.in_ok-next.ensures.within c.in_ok-push.ensures.items

pub new_image-intern-requires : goal.new_image-intern-requires
new_image-intern-requires t c = λ k i e. args-below c.in_ok-args-in-App.args.items (length c.image_all.new.bank) k i c.in_ok-args-in-App.ensures.within e

-- a variable, an input, a symbol at arguments
pub new_image-returns-in-Var-clause-is : goal.new_image-returns-in-Var-clause-is
new_image-returns-in-Var-clause-is t c =
    ap (λ (i : TermId). term_at c.args.bank.now i.0) c.bound_id.ensures
    ∙ becomes-Var c.args.bank.now c.args.found.now c.in-Var.n c.in-Var.sort c.args.id (c.node_at.ensures.term ∙ ap (node_term c.args.bank.now) c.in-Var.is)

pub new_image-returns-in-In-clause-is : goal.new_image-returns-in-In-clause-is
new_image-returns-in-In-clause-is t c =
    becomes-In c.args.bank.now (listed_at c.args.bank.now c.args.found.now) c.in-In.k c.args.id.0 (c.node_at.ensures.term ∙ ap (node_term c.args.bank.now) c.in-In.is)

pub new_image-returns-then-eq-clause-is : goal.new_image-returns-then-eq-clause-is
new_image-returns-then-eq-clause-is t c =
    let first : c.as_slice-in-App.result.now ≡ c.in-App.args.items = c.as_slice-in-App.ensures ∙ (c.in_ok-ids-in-App.ensures ∙ c.as_slice.ensures.value) in
    let below : id_bound c.as_slice-in-App.result.now ≤ c.args.id.0 = ids-below c.node_at.result.now c.in-App.f c.in-App.args c.as_slice-in-App.result.now c.args.id.0 c.in-App.is first c.node_at.ensures.below in
    let made : c.in_ok-args-in-App.args.items ≡ c.as_slice-in-App.result.now =
    sym c.as_slice-in-App-2.ensures.value ∙ ids-same c.as_slice-in-App-2.result.now c.as_slice-in-App-3.result.now (sym c.eq.ensures ∙ c.if-eq.true) ∙ c.as_slice-in-App-3.ensures ∙ sym c.as_slice-in-App.ensures in
    becomes-same c.args.bank.now c.image_all.new.bank (listed_at c.args.bank.now c.args.found.now) c.in-App.f c.as_slice-in-App.result.now c.args.id.0 c.image_all.ensures.grows c.requires.id (omega (arith, below, c.requires.id))
    (symbol-term c.args.bank.now c.args.id.0 c.node_at.result.now c.in-App.f c.in-App.args c.as_slice-in-App.result.now c.node_at.ensures.term c.in-App.is first)
    (ap (terms_at c.image_all.new.bank) (sym made) ∙ c.in_ok-args-in-App.ensures.are)

pub new_image-returns-in_ok-made-in-App-clause-is : goal.new_image-returns-in_ok-made-in-App-clause-is
new_image-returns-in_ok-made-in-App-clause-is t c =
    let same : c.as_slice-in-App.result.now ≡ c.in-App.args.items = c.as_slice-in-App.ensures ∙ (c.in_ok-ids-in-App.ensures ∙ c.as_slice.ensures.value) in
    becomes-App c.args.bank.now c.image_all.new.bank c.intern.new.self (listed_at c.args.bank.now c.args.found.now) c.in-App.f c.as_slice-in-App.result.now
    c.in_ok-args-in-App.args.items c.in_ok-args-in-App.args c.args.id.0 c.in_ok-made-in-App.made.0 c.intern.ensures.grows c.intern.ensures.bank
    (symbol-term c.args.bank.now c.args.id.0 c.node_at.result.now c.in-App.f c.in-App.args c.as_slice-in-App.result.now c.node_at.ensures.term c.in-App.is same)
    c.in_ok-args-in-App.ensures.are c.in_ok-args-in-App.ensures.within refl c.in_ok-made-in-App.ensures.there

pub new_image-returns-in_ok-made-in-App-clause-images : goal.new_image-returns-in_ok-made-in-App-clause-images
new_image-returns-in_ok-made-in-App-clause-images t c =
    images-kept c.image_all.new.bank c.intern.new.self c.intern.ensures.grows (listed_at c.args.bank.now c.args.found.now) (get nat_eq c.image_all.new.images) c.in_ok-args-in-App.ensures.images
