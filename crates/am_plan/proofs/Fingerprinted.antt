-- The fingerprints of terms, one after another.
use Rattle.std.proofs.Common.{◌≡◌, ◌∙◌, ◌+◌, ◌<◌, ℕ, refl, ap, List, [], ◌∷◌, ◌++◌, length, map, take, get_or}
use Rattle.std.specs.List.{fold}
use Rattle.std.proofs.lemmas.Grind.{common_steps}
use Rattle.std.proofs.lemmas.List.{take_more, map-append}
use Rattle.std.proofs.lemmas.List.{length-map}
use Rattle.am_term.specs.declared.term.Term.{Term}
use Rattle.am_term.specs.declared.term.Term.TheViews.{the_lemmas}
use Rattle.am_plan.specs.Fingerprints.{mix, fingerprint, fingerprint_laws}

-- one more term
pub mixed-more : (start : ℕ) (ts : List Term) (i : ℕ) (d : Term) → i < length ts → fold mix start (map fingerprint (take (i + 1) ts)) ≡ mix (fold mix start (map fingerprint (take i ts))) (fingerprint (get_or ts i d))
mixed-more start ts i d h = ap (λ (us : List Term). fold mix start (map fingerprint us)) (take_more ts i d h) ∙ ap (fold mix start) (map-append fingerprint (take i ts) (get_or ts i d ∷ [])) ∙ last start (map fingerprint (take i ts)) (fingerprint (get_or ts i d))
  where
    last : (start : ℕ) (ns : List ℕ) (n : ℕ) → fold mix start (ns ++ n ∷ []) ≡ mix (fold mix start ns) n
    last start [] n = refl
    last start (m ∷ ns) n = last (mix start m) ns n

pub ruleset fingerprinting = (common_steps, the_lemmas, fingerprint_laws, length-map, mixed-more)
