use Rattle.std.proofs.Common.{◌≡◌, ◌∙◌, ◌==◌, ◌+◌, ℕ, Option, Some, None, length, sym, ap, if◌then◌else◌, arith}
use Rattle.std.specs.Option.{option_or}
use Rattle.am_plan.specs.Fingerprints.{place_from}
use Rattle.am_plan.proofs.FingerprintLaws.{place-push, on_ok}
use Rattle.am_plan.proofs.fingerprint_index.FingerprintIndex.push.Goals as goal

pub invariant_of-self-else-is_err : goal.invariant_of-self-else-is_err
invariant_of-self-else-is_err c = λ p.
    let old = c.self.inside.fingerprints in
    let noted = on_ok _ c.note.result (sym c.is_err.ensures.value ∙ c.if-is_err.false) c.note.ensures in
    let place : c.len-place.result ≡ 0 + length old = c.len-place.ensures ∙ (let z : length old ≡ 0 + length old = omega arith in z) in
    noted p
    ∙ ap (λ (o : Option ℕ). option_or o (if p == c.args.fingerprint then Some c.len-place.result else None)) (c.self.invariant p)
    ∙ ap (λ k. option_or (place_from p 0 old) (if p == c.args.fingerprint then Some k else None)) place
    ∙ sym (place-push p 0 old c.args.fingerprint)
    ∙ ap (place_from p 0) (sym c.in_ok-push.ensures.ok)
