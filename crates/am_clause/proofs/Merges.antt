-- Merging, one literal at a time.
use Rattle.std.proofs.Common.{◌≡◌, ◌∙◌, ◌+◌, ◌<◌, ◌≤◌, ℕ, zero, suc, arith, true, false, refl, ap, List, [], ◌∷◌, ◌++◌, length, take, get_or}
use Rattle.std.proofs.lemmas.Grind.{common_steps}
use Rattle.std.proofs.lemmas.List.{take_more}
use Rattle.std.proofs.lemmas.List.Folds.{list_any_more, list_any_at}
use Rattle.am_term.specs.declared.term.Literal.{Literal}
use Rattle.am_term.specs.Same.{same_literal}
use Rattle.am_term.proofs.Alike.{same_literal-refl, same_literal-sound}
use Rattle.am_clause.specs.Distinct.{among, with_new}
use Rattle.am_clause.specs.Merge.{merged}
use Rattle.am_clause.proofs.Firsts.{with_new-none, with_new-append, with_new-old, with_new-new, with_new-distinct}

pub all-merged : (ls : List Literal) → with_new same_literal [] ls ≡ merged ls
all-merged = with_new-distinct same_literal same_literal-sound same_literal-refl

-- the first i literals, added to what was kept
unfoldable pub adding_to : ℕ → List Literal → List Literal → List Literal
adding_to i kept ls = with_new same_literal kept (take i ls)

pub adding-none : (kept ls : List Literal) → adding_to 0 kept ls ≡ kept
unfolding adding_to
adding-none kept ls = with_new-none same_literal kept

one_more : (kept ls : List Literal) (i : ℕ) (d : Literal) → i < length ls → adding_to (i + 1) kept ls ≡ with_new same_literal (adding_to i kept ls) (get_or ls i d ∷ [])
unfolding adding_to
one_more kept ls i d h = ap (with_new same_literal kept) (take_more ls i d h) ∙ with_new-append same_literal kept (take i ls) (get_or ls i d ∷ [])

pub adding-old : (kept ls : List Literal) (i : ℕ) (d : Literal) → i < length ls → among same_literal (get_or ls i d) (adding_to i kept ls) ≡ true → adding_to (i + 1) kept ls ≡ adding_to i kept ls
adding-old kept ls i d h e = one_more kept ls i d h ∙ with_new-old same_literal (adding_to i kept ls) (get_or ls i d) e

pub adding-new : (kept ls : List Literal) (i : ℕ) (d : Literal) → i < length ls → among same_literal (get_or ls i d) (adding_to i kept ls) ≡ false → adding_to (i + 1) kept ls ≡ adding_to i kept ls ++ get_or ls i d ∷ []
adding-new kept ls i d h e = one_more kept ls i d h ∙ with_new-new same_literal (adding_to i kept ls) (get_or ls i d) e

take_whole : (ls : List Literal) (i : ℕ) → length ls ≤ i → take i ls ≡ ls
take_whole [] zero h = refl
take_whole [] (suc i) h = refl
take_whole (l ∷ ls) zero h = absurd (omega arith)
take_whole (l ∷ ls) (suc i) h = ap (λ xs. l ∷ xs) (take_whole ls i (omega arith))

pub adding-all : (kept ls : List Literal) (i : ℕ) → length ls ≤ i → adding_to i kept ls ≡ with_new same_literal kept ls
unfolding adding_to
adding-all kept ls i h = ap (with_new same_literal kept) (take_whole ls i h)

pub ruleset merging = (common_steps, list_any_more, list_any_at, all-merged, adding-none, adding-old, adding-new, adding-all)
