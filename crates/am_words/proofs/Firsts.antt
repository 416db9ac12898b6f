-- A first word that is no command.
use Rattle.std.proofs.Common.{◌≡◌, ◌≢◌, ◌≤◌, ◌∙◌, Bool, codes, true, false, refl, sym, ap, arith, List, [], ◌∷◌, length, map, get_or, None}
use Rattle.std.specs.Prelude.{String, string_bytes}
use Rattle.std.specs.declared.alloc.Global.{Global}
use Rattle.std.specs.Str.{bytes_eq}
use Rattle.std.proofs.lemmas.Slice.Eq.{bytes_eq-Decides}
use Rattle.am_words.specs.Grammar.{Text}
use Rattle.am_words.specs.Commands.{by_first, reading}

differ : (w k : Text) → w ≢ k → bytes_eq w k ≡ false
differ w k n = by_test (bytes_eq w k) refl
  where
    by_test : (b : Bool) → bytes_eq w k ≡ b → b ≡ false
    by_test true e = absurd (n ((bytes_eq-Decides w k).0 e))
    by_test false e = refl

none_first : (w : Text) (ws : List Text) → w ≢ codes "make" → w ≢ codes "check" → w ≢ codes "theory" → w ≢ codes "demo" → by_first w ws ≡ None
none_first w ws a b c d = rw (differ w (codes "make") a, differ w (codes "check") b, differ w (codes "theory") c, differ w (codes "demo") d) refl

pub unread : (ws : List (String Global)) (first : String Global) (w : Text) → w ≡ string_bytes first → first ≡ get_or ws 0 first → 1 ≤ length ws
    → w ≢ codes "make" → w ≢ codes "check" → w ≢ codes "theory" → w ≢ codes "demo" → reading (map string_bytes ws) ≡ None
unread [] first w e f l = absurd (omega arith)
unread (x ∷ ws) first w e f l = λ a b c d. ap (λ t. by_first t (map string_bytes ws)) (sym (e ∙ ap string_bytes f)) ∙ none_first w (map string_bytes ws) a b c d
