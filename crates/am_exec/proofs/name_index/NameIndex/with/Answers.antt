use Rattle.std.proofs.Common.{◌≡◌, ◌∙◌, ◌++◌, ◌∷◌, [], ℕ, List, Option, sym, ap}
use Rattle.std.specs.Str.{bytes_eq}
use Rattle.am_exec.specs.Places.{first_place, or_at}
use Rattle.am_exec.proofs.Placed.{place_push}
use Rattle.am_exec.proofs.name_index.NameIndex.with.Goals as goal

pub invariant_of-result : goal.invariant_of-result
invariant_of-result c = λ q.
    let new = c.in_ok-places.ensures q in
    let old = c.self.invariant q in
    let pushed : c.push.new.self ≡ c.self.inside.names ++ c.args.name.now ∷ [] = c.in_ok-push.ensures.ok ∙ ap (λ (n : List ℕ). c.self.inside.names ++ n ∷ []) (c.in_ok-new.ensures ∙ c.as_str.ensures) in
    let placed = place_push q c.args.name.now c.self.inside.names in
    new ∙ ap (λ (o : Option ℕ). or_at o (bytes_eq q c.args.name.now) c.len.result) old
    ∙ ap (or_at (first_place q c.self.inside.names) (bytes_eq q c.args.name.now)) c.len.ensures
    ∙ sym placed ∙ sym (ap (first_place q) pushed)
