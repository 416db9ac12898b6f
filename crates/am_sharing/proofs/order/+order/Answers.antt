use Rattle.std.proofs.Common.{◌∙◌, ◌+◌, sym, ap}
use Rattle.am_bank.specs.declared.id.TermId.{TermId}
use Rattle.std.specs.Prelude.{List}
use Rattle.am_sharing.specs.Terms.{some_reaches, exceeds_all}
use Rattle.am_sharing.proofs.Nodes.{before-end, symbol-term, rest}
use Rattle.am_sharing.proofs.Compared.{is-greater, is-lesser}
use Rattle.am_sharing.proofs.order.+order.Goals as goal

-- the first argument that differs is greater
pub greater-returns-then-greater : goal.greater-returns-then-greater
greater-returns-then-greater t c =
    let g = is-greater c.args.sig.now c.args.bank.now c.args.s.0 c.args.t.0 c.in-App.f c.in-App-node_at.g c.as_slice-args.result.now c.as_slice-others.result.now
    (symbol-term c.args.bank.now c.args.s.0 c.node_at.result.now c.in-App.f c.in-App.args c.as_slice-args.result.now c.node_at.ensures.term c.in-App.is c.as_slice-args.ensures.value)
    (symbol-term c.args.bank.now c.args.t.0 c.node_at-in-App.result.now c.in-App-node_at.g c.in-App-node_at.others c.as_slice-others.result.now c.node_at-in-App.ensures.term c.in-App-node_at.is c.as_slice-others.ensures.value)
    c.in_common-i.result (record { 0 = 0 }) c.if-f-g.false c.in_common-i.ensures.count (before-end c.in_common-i.ensures.left c.if-i-args.false) (before-end c.in_common-i.ensures.right c.if-i-others.false) (sym c.greater.ensures ∙ c.if-greater.true) in
    c.exceeds-then-greater.ensures ∙ ap (λ (ids : List TermId). exceeds_all c.args.sig.now c.args.bank.now c.args.s.0 ids) (rest c.as_slice-others.result.now (c.in_common-i.result + 1)) ∙ sym g

-- it isn't
pub greater-returns-else-greater : goal.greater-returns-else-greater
greater-returns-else-greater t c =
    let g = is-lesser c.args.sig.now c.args.bank.now c.args.s.0 c.args.t.0 c.in-App.f c.in-App-node_at.g c.as_slice-args.result.now c.as_slice-others.result.now
    (symbol-term c.args.bank.now c.args.s.0 c.node_at.result.now c.in-App.f c.in-App.args c.as_slice-args.result.now c.node_at.ensures.term c.in-App.is c.as_slice-args.ensures.value)
    (symbol-term c.args.bank.now c.args.t.0 c.node_at-in-App.result.now c.in-App-node_at.g c.in-App-node_at.others c.as_slice-others.result.now c.node_at-in-App.ensures.term c.in-App-node_at.is c.as_slice-others.ensures.value)
    c.in_common-i.result (record { 0 = 0 }) c.if-f-g.false c.in_common-i.ensures.count (before-end c.in_common-i.ensures.left c.if-i-args.false) (before-end c.in_common-i.ensures.right c.if-i-others.false) (sym c.greater.ensures ∙ c.if-greater.false) in
    c.reaches-in-App-node_at.ensures ∙ ap (λ (ids : List TermId). some_reaches c.args.sig.now c.args.bank.now ids c.args.t.0) (rest c.as_slice-args.result.now (c.in_common-i.result + 1)) ∙ sym g
