-- Names and their terms, kept in two lists.
use Rattle.std.proofs.Common.{◌≡◌, ◌∙◌, ◌++◌, ℕ, suc, true, false, Bool, refl, sym, ap, arith, List, [], ◌∷◌, Option, Some, None, length, cond, slice_get, option_map, if◌then◌else◌}
use Rattle.std.proofs.lemmas.Grind.{common_steps}
use Rattle.std.specs.List.{remove}
use Rattle.std.specs.Str.{bytes_eq}
use Rattle.am_term.specs.declared.term.Term.{Term}
use Rattle.am_term.proofs.Tests.{same_tests}
use Rattle.am_exec.specs.Places.{first_place}
use Rattle.am_exec.specs.States.{Store, store_of, term_held}
use Rattle.am_exec.proofs.Held.{eq_flip}

pub paired_push : (ns : List (List ℕ)) (ts : List Term) (n : List ℕ) (t : Term) → length ns ≡ length ts → store_of (ns ++ n ∷ []) (ts ++ t ∷ []) ≡ store_of ns ts ++ (n, t) ∷ []
paired_push [] [] n t e = refl
paired_push [] (x ∷ ts) n t e = absurd (omega arith)
paired_push (m ∷ ns) [] n t e = absurd (omega arith)
paired_push (m ∷ ns) (x ∷ ts) n t e = ap (λ (s : Store). (m, x) ∷ s) (paired_push ns ts n t (omega arith))

-- the term at a place, if there is one
abbrev pub at_place : List Term → Option ℕ → Option Term
at_place ts None = None
at_place ts (Some k) = slice_get ts k

later : (t : Term) (ts : List Term) (o : Option ℕ) → at_place (t ∷ ts) (option_map suc o) ≡ at_place ts o
later t ts None = refl
later t ts (Some k) = refl

pub paired_held : (ns : List (List ℕ)) (ts : List Term) (n : List ℕ) → length ns ≡ length ts → term_held (store_of ns ts) n ≡ at_place ts (first_place n ns)
paired_held [] ts n e = refl
paired_held (m ∷ ns) [] n e = absurd (omega arith)
paired_held (m ∷ ns) (t ∷ ts) n e =
    ap (λ (b : Bool). cond b (Some t) (term_held (store_of ns ts) n)) (same_tests (bytes_eq m n) (bytes_eq n m) (eq_flip m n) (eq_flip n m))
    ∙ by_test (bytes_eq n m) (paired_held ns ts n (omega arith))
  where
    by_test : (b : Bool) → term_held (store_of ns ts) n ≡ at_place ts (first_place n ns) → cond b (Some t) (term_held (store_of ns ts) n) ≡ at_place (t ∷ ts) (if b then Some 0 else option_map suc (first_place n ns))
    by_test true h = refl
    by_test false h = h ∙ sym (later t ts (first_place n ns))

-- the first pair of a list that isn't empty
pub first_pair : (xs ys : Store) (x : List ℕ × Term) → slice_get xs 0 ≡ Some x → ys ≡ remove xs 0 → xs ≡ x ∷ ys
first_pair [] ys x e d = absurd cc
first_pair (y ∷ xs) ys x e d = let a : y ≡ x = cc in ap (λ (z : List ℕ × Term). z ∷ xs) a ∙ ap (λ (zs : Store). x ∷ zs) (sym d)

pub ruleset pairing = (common_steps, paired_push, paired_held, first_pair)
