-- No name of a list stands twice, found from the front with those seen so far.
use Rattle.std.proofs.Common.{◌≡◌, ◌∙◌, ℕ, suc, ◌+◌, ◌<◌, Bool, true, false, List, [], ◌∷◌, length, get_or, drop, drop-cons, refl, sym, ap, arith}
use Rattle.std.specs.Prelude.{◌||◌, ◌&&◌, not}
use Rattle.std.specs.Str.{bytes_eq}
use Rattle.std.proofs.lemmas.Slice.Eq.{bytes_eq-Decides}
use Rattle.am_theory.specs.declared.declaration.Typed.{Typed}
use Rattle.am_theory.specs.Faults.{names_in}
use Rattle.am_theory.specs.Additions.{any_among, are_new}
use Rattle.am_term.specs.NameLists.{is_among, are_distinct}

bytes-turned : (m n : List ℕ) → bytes_eq m n ≡ bytes_eq n m
bytes-turned m n = grind (arith, bytes_eq-Decides m n, bytes_eq-Decides n m)

regrouped : (a b c d : Bool) → ((a || b) || (c || d)) ≡ ((a || c) || (b || d))
regrouped true b c d = refl
regrouped false true true d = refl
regrouped false true false d = refl
regrouped false false c d = refl

-- with one more name seen
any-more : (seen next : List (List ℕ)) (n : List ℕ) (ns : List (List ℕ)) → ((q : List ℕ) → is_among q next ≡ (bytes_eq q n || is_among q seen)) → any_among next ns ≡ (is_among n ns || any_among seen ns)
any-more seen next n [] h = refl
any-more seen next n (m ∷ ms) h =
    ap (λ b. b || any_among next ms) (h m)
    ∙ ap (λ b. (bytes_eq m n || is_among m seen) || b) (any-more seen next n ms h)
    ∙ ap (λ b. (b || is_among m seen) || (is_among n ms || any_among seen ms)) (bytes-turned m n)
    ∙ regrouped (bytes_eq n m) (is_among m seen) (is_among n ms) (any_among seen ms)

parted : (a b c : Bool) → (not (a || b) && c) ≡ (not b && (not a && c))
parted true true c = refl
parted true false c = refl
parted false b c = refl

pub distinct-step : (seen next : List (List ℕ)) (n : List ℕ) (ns : List (List ℕ)) → ((q : List ℕ) → is_among q next ≡ (bytes_eq q n || is_among q seen)) → is_among n seen ≡ false → (not (any_among next ns) && are_distinct ns) ≡ (not (any_among seen (n ∷ ns)) && are_distinct (n ∷ ns))
distinct-step seen next n ns h e =
    ap (λ b. not b && are_distinct ns) (any-more seen next n ns h)
    ∙ parted (is_among n ns) (any_among seen ns) (are_distinct ns)
    ∙ ap (λ b. not (b || any_among seen ns) && are_distinct (n ∷ ns)) (sym e)

none-seen : (ns : List (List ℕ)) → any_among [] ns ≡ false
none-seen [] = refl
none-seen (n ∷ ns) = none-seen ns

pub distinct-start : (seen : List (List ℕ)) (vs : List Typed) → seen ≡ [] → are_new seen vs ≡ are_distinct (names_in vs)
distinct-start seen vs e = ap (λ s. are_new s vs) e ∙ ap (λ b. not b && are_distinct (names_in vs)) (none-seen (names_in vs))

pub one-left : (vs : List Typed) (i : ℕ) (one : Typed) → i < length vs → one ≡ get_or vs i one → drop i vs ≡ one ∷ drop (i + 1) vs
one-left vs i one h e =
    let n : suc i ≡ i + 1 = omega arith in
    drop-cons vs i one h ∙ ap (λ m. get_or vs i one ∷ drop m vs) n ∙ ap (λ v. v ∷ drop (i + 1) vs) (sym e)

pub distinct-on : (seen next : List (List ℕ)) (vs : List Typed) (i : ℕ) (one : Typed) → i < length vs → one ≡ get_or vs i one → ((q : List ℕ) → is_among q next ≡ (bytes_eq q one.name || is_among q seen)) → is_among one.name seen ≡ false → are_new next (drop (i + 1) vs) ≡ are_new seen (drop i vs)
distinct-on seen next vs i one h is add e =
    distinct-step seen next one.name (names_in (drop (i + 1) vs)) add e
    ∙ ap (are_new seen) (sym (one-left vs i one h is))
