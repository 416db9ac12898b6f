use Rattle.std.proofs.Common.{◌≡◌, ◌+◌, ◌∙◌, arith, drop, sym}
use Rattle.am_clause.specs.Variables.{Variable}
use Rattle.am_clause.specs.Renaming.{places_in}
use Rattle.am_clause.proofs.Places.{place-end, place-found, place-passed}
use Rattle.am_rules.proofs.rows.place.Goals as goal

pub returns-then-is_variable : goal.returns-then-is_variable
returns-then-is_variable c =
    let v : Variable = (0, record { 0 = 0 }) in
    let e : places_in (drop c.loop-i.i c.args.seen.now) c.args.n c.args.sort ≡ 0 = place-found c.args.seen.now c.loop-i.i v c.args.n c.args.sort (omega arith) (sym c.is_variable.ensures ∙ c.if-is_variable.true) in
    omega (arith, c.loop-i.invariant)

pub loop-i-preserved : goal.loop-i-preserved
loop-i-preserved c =
    let v : Variable = (0, record { 0 = 0 }) in
    let e : places_in (drop c.loop-i.i c.args.seen.now) c.args.n c.args.sort ≡ places_in (drop (c.loop-i.i + 1) c.args.seen.now) c.args.n c.args.sort + 1 = place-passed c.args.seen.now c.loop-i.i v c.args.n c.args.sort (omega arith) (sym c.is_variable.ensures ∙ c.if-is_variable.false) in
    omega (arith, c.loop-i.invariant)

pub returns : goal.returns
returns c =
    let e : places_in (drop c.loop-i.i c.args.seen.now) c.args.n c.args.sort ≡ 0 = place-end c.args.seen.now c.loop-i.i c.args.n c.args.sort (omega arith) in
    omega (arith, c.loop-i.invariant)
