use Rattle.std.proofs.Common.{◌≡◌, rules, w64, true, arith}
use Rattle.std.specs.Int.RustNames.{FitsSigned as SFits}
use Rattle.std.proofs.lemmas.Int.{to_z-of_z}
use Rattle.std.proofs.lemmas.Grind.{common_steps}
use Rattle.am_text.proofs.Numbers.{number_ok, number_err}
use Rattle.am_text.specs.Atoms.{is_number}
use Rattle.am_text.proofs.atom.atom.Goals as goal

pub returns-in-Ok : goal.returns-in-Ok
returns-in-Ok c =
    let h = c.parse.ensures.value.0 in
    let f : SFits w64 c.in-Ok.number = search rules in
    let t : is_number c.args.word ≡ true = grind (arith, common_steps) in
    let p = rw c.as_str-2.ensures at h in
    rw (to_z-of_z w64 c.in-Ok.number f) (number_ok _ c.args.word c.in-Ok.number c.parse.result c.in-Ok.is p t)

pub returns : goal.returns
returns c =
    let h = c.parse.ensures.value.0 in
    let t : is_number c.args.word ≡ true = grind (arith, common_steps) in
    let p = rw c.as_str-2.ensures at h in
    number_err _ c.args.word c.in-Err.field-0 c.parse.result c.in-Err.is p t
