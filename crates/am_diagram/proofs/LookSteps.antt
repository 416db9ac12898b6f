-- Names that are put one after another.
use Rattle.std.proofs.Common.{◌≡◌, ◌∙◌, ◌++◌, ℕ, List, [], ap}

pub joined : (a b c d rs fs cs : List (List ℕ)) → a ≡ [] → b ≡ a ++ rs → c ≡ b ++ fs → d ≡ c ++ cs → d ≡ rs ++ fs ++ cs
joined a b c d rs fs cs e f g h = h ∙ ap (λ (ns : List (List ℕ)). ns ++ cs) (g ∙ ap (λ (ns : List (List ℕ)). ns ++ fs) (f ∙ ap (λ (ns : List (List ℕ)). ns ++ rs) e))
