-- Walking over terms.
use Rattle.std.proofs.Common.{◌≡◌, ◌∙◌, ◌+◌, ◌<◌, ◌++◌, ℕ, zero, suc, refl, sym, ap, List, [], ◌∷◌, length, take, drop, get_or, slice_get, Option, Some, None}
use Rattle.std.specs.List.{flat_map}
use Rattle.std.proofs.lemmas.List.{take_more, append-nil}
use Rattle.std.proofs.lemmas.List.Concat.{flat_map-append}
use Rattle.std.proofs.lemmas.Grind.{common_steps}
use Rattle.std.proofs.lemmas.Bool.Decides.{nat_tests}
use Rattle.am_term.specs.declared.id.SortId.{SortId}
use Rattle.am_term.specs.declared.id.SymId.{SymId}
use Rattle.am_term.specs.declared.term.Term.{Term}
use Rattle.am_term.specs.declared.term.Term.TheViews.{the_lemmas}
use Rattle.am_term.specs.declared.term.Term.TheVariants.{Var, In, App}
use Rattle.am_term.specs.declared.term.Literal.{Literal}
use Rattle.am_clause.specs.Variables.{Variable, in_atom, in_literals, occurrences, occurrences_all, occurrences-Var, occurrences-In, occurrences-App, occurrences-none}
use Rattle.am_clause.specs.Walks.{walk_one, walk_from, walk}

take-drop : (i : ℕ) (ts : List Term) → take i ts ++ drop i ts ≡ ts
take-drop zero [] = refl
take-drop zero (t ∷ ts) = refl
take-drop (suc i) [] = refl
take-drop (suc i) (t ∷ ts) = ap (λ us. t ∷ us) (take-drop i ts)

pub walk-append : (seen : List SortId) (vs ws : List Variable) → walk seen (vs ++ ws) ≡ walk_from (walk seen vs) (λ more. walk more ws)
walk-append seen [] ws = refl
walk-append seen (v ∷ vs) ws = by (walk_one seen v (slice_get seen v.0)) (λ more. walk-append more vs ws)
  where
    by : (o : Option (List SortId)) → ((more : List SortId) → walk more (vs ++ ws) ≡ walk_from (walk more vs) (λ next. walk next ws)) → walk_from o (λ more. walk more (vs ++ ws)) ≡ walk_from (walk_from o (λ more. walk more vs)) (λ next. walk next ws)
    by None h = refl
    by (Some more) h = h more

pub walk-Var : (seen : List SortId) (n : ℕ) (s : SortId) → walk seen (occurrences (Var n s)) ≡ walk_one seen (n, s) (slice_get seen n)
walk-Var seen n s = ap (walk seen) (occurrences-Var n s) ∙ by (walk_one seen (n, s) (slice_get seen n))
  where
    by : (o : Option (List SortId)) → walk_from o Some ≡ o
    by None = refl
    by (Some more) = refl

pub walk-In : (seen : List SortId) (k : ℕ) → walk seen (occurrences (In k)) ≡ Some seen
walk-In seen k = ap (walk seen) (occurrences-In k)

pub walk-App : (seen : List SortId) (f : SymId) (args : List Term) → walk seen (occurrences (App f args)) ≡ walk seen (occurrences_all args)
walk-App seen f args = ap (walk seen) (occurrences-App f args)

pub walk-none : (seen : List SortId) → walk seen (occurrences_all []) ≡ Some seen
walk-none seen = ap (walk seen) occurrences-none

-- the terms up to the i-th, and all of them, which go on from there
more-taken : (ts : List Term) (i : ℕ) (d : Term) → i < length ts → occurrences_all (take (i + 1) ts) ≡ occurrences_all (take i ts) ++ occurrences (get_or ts i d)
unfolding occurrences_all
more-taken ts i d h = ap (flat_map occurrences) (take_more ts i d h) ∙ flat_map-append occurrences (take i ts) (get_or ts i d ∷ []) ∙ ap (λ ys. flat_map occurrences (take i ts) ++ ys) (append-nil (occurrences (get_or ts i d)))

all-taken : (ts : List Term) (i : ℕ) → occurrences_all ts ≡ occurrences_all (take i ts) ++ occurrences_all (drop i ts)
unfolding occurrences_all
all-taken ts i = ap (flat_map occurrences) (sym (take-drop i ts)) ∙ flat_map-append occurrences (take i ts) (drop i ts)

pub walk-more : (seen : List SortId) (ts : List Term) (i : ℕ) (d : Term) (made : List SortId) → i < length ts → walk seen (occurrences_all (take i ts)) ≡ Some made → walk seen (occurrences_all (take (i + 1) ts)) ≡ walk made (occurrences (get_or ts i d))
walk-more seen ts i d made h e = ap (walk seen) (more-taken ts i d h) ∙ (walk-append seen (occurrences_all (take i ts)) (occurrences (get_or ts i d)) ∙ ap (λ o. walk_from o (λ more. walk more (occurrences (get_or ts i d)))) e)

pub walk-stops : (seen : List SortId) (ts : List Term) (i : ℕ) → walk seen (occurrences_all (take i ts)) ≡ None → walk seen (occurrences_all ts) ≡ None
walk-stops seen ts i e = ap (walk seen) (all-taken ts i) ∙ (walk-append seen (occurrences_all (take i ts)) (occurrences_all (drop i ts)) ∙ ap (λ o. walk_from o (λ more. walk more (occurrences_all (drop i ts)))) e)

pub walk-stopped : (seen : List SortId) (ts : List Term) (i : ℕ) (d : Term) (made : List SortId) → i < length ts → walk seen (occurrences_all (take i ts)) ≡ Some made → walk made (occurrences (get_or ts i d)) ≡ None → walk seen (occurrences_all ts) ≡ None
walk-stopped seen ts i d made h e f = walk-stops seen ts (i + 1) (walk-more seen ts i d made h e ∙ f)

pub ruleset walking = (common_steps, nat_tests, the_lemmas, walk-Var, walk-In, walk-App, walk-none, walk-more, walk-stopped)

-- ---- lists of parts

pub walk-both : (seen : List SortId) (vs ws : List Variable) (made : List SortId) → walk seen vs ≡ Some made → walk seen (vs ++ ws) ≡ walk made ws
walk-both seen vs ws made e = walk-append seen vs ws ∙ ap (λ o. walk_from o (λ more. walk more ws)) e

pub walk-ended : (seen : List SortId) (vs ws : List Variable) → walk seen vs ≡ None → walk seen (vs ++ ws) ≡ None
walk-ended seen vs ws e = walk-append seen vs ws ∙ ap (λ o. walk_from o (λ more. walk more ws)) e

parts-taken : {X : Type 0} (i : ℕ) (xs : List X) → take i xs ++ drop i xs ≡ xs
parts-taken zero [] = refl
parts-taken zero (x ∷ xs) = refl
parts-taken (suc i) [] = refl
parts-taken (suc i) (x ∷ xs) = ap (λ ys. x ∷ ys) (parts-taken i xs)

parts-more : {X : Type 0} (f : X → List Variable) (seen : List SortId) (xs : List X) (i : ℕ) (d : X) (made : List SortId) → i < length xs → walk seen (flat_map f (take i xs)) ≡ Some made → walk seen (flat_map f (take (i + 1) xs)) ≡ walk made (f (get_or xs i d))
parts-more f seen xs i d made h e =
    ap (walk seen) (ap (flat_map f) (take_more xs i d h) ∙ flat_map-append f (take i xs) (get_or xs i d ∷ []) ∙ ap (λ ys. flat_map f (take i xs) ++ ys) (append-nil (f (get_or xs i d))))
    ∙ walk-both seen (flat_map f (take i xs)) (f (get_or xs i d)) made e

parts-stopped : {X : Type 0} (f : X → List Variable) (seen : List SortId) (xs : List X) (i : ℕ) (d : X) (made : List SortId) → i < length xs → walk seen (flat_map f (take i xs)) ≡ Some made → walk made (f (get_or xs i d)) ≡ None → walk seen (flat_map f xs) ≡ None
parts-stopped f seen xs i d made h e g =
    ap (walk seen) (ap (flat_map f) (sym (parts-taken (i + 1) xs)) ∙ flat_map-append f (take (i + 1) xs) (drop (i + 1) xs))
    ∙ walk-ended seen (flat_map f (take (i + 1) xs)) (flat_map f (drop (i + 1) xs)) (parts-more f seen xs i d made h e ∙ g)

pub literals-more : (seen : List SortId) (ls : List Literal) (i : ℕ) (d : Literal) (made : List SortId) → i < length ls → walk seen (in_literals (take i ls)) ≡ Some made → walk seen (in_literals (take (i + 1) ls)) ≡ walk made (in_atom (get_or ls i d).atom)
literals-more = parts-more (λ (l : Literal). in_atom l.atom)

pub literals-stopped : (seen : List SortId) (ls : List Literal) (i : ℕ) (d : Literal) (made : List SortId) → i < length ls → walk seen (in_literals (take i ls)) ≡ Some made → walk made (in_atom (get_or ls i d).atom) ≡ None → walk seen (in_literals ls) ≡ None
literals-stopped = parts-stopped (λ (l : Literal). in_atom l.atom)

pub lists-more : (seen : List SortId) (tss : List (List Term)) (i : ℕ) (d : List Term) (made : List SortId) → i < length tss → walk seen (flat_map occurrences_all (take i tss)) ≡ Some made → walk seen (flat_map occurrences_all (take (i + 1) tss)) ≡ walk made (occurrences_all (get_or tss i d))
lists-more = parts-more occurrences_all

pub lists-stopped : (seen : List SortId) (tss : List (List Term)) (i : ℕ) (d : List Term) (made : List SortId) → i < length tss → walk seen (flat_map occurrences_all (take i tss)) ≡ Some made → walk made (occurrences_all (get_or tss i d)) ≡ None → walk seen (flat_map occurrences_all tss) ≡ None
lists-stopped = parts-stopped occurrences_all

pub ruleset rows = (common_steps, nat_tests, walk-both, walk-ended, literals-more, literals-stopped, lists-more, lists-stopped)
