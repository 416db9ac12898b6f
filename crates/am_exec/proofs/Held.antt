-- Equal names, and what names hold after more was put.
use Rattle.std.proofs.Common.{◌≡◌, ◌∙◌, ◌++◌, ◌||◌, ℕ, true, false, Bool, refl, sym, ap, subst, List, [], ◌∷◌, Option, Some, None, cond, is_some, true≢false}
use Rattle.std.proofs.lemmas.Slice.Eq.{bytes_eq-Decides}
use Rattle.std.specs.List.{list_any, flat_map}
use Rattle.std.specs.Str.{bytes_eq}
use Rattle.am_term.specs.declared.term.Term.{Term}
use Rattle.am_term.proofs.Tests.{never_both}
use Rattle.am_exec.specs.Lawful.{listed_target}
use Rattle.am_exec.specs.States.{Store, term_held, is_held, entries_held}

pub eq_is : (m n : List ℕ) → bytes_eq m n ≡ true → m ≡ n
eq_is m n e = (bytes_eq-Decides m n).0 e

pub eq_same : (n : List ℕ) → bytes_eq n n ≡ true
eq_same n = (bytes_eq-Decides n n).1 refl

pub eq_flip : (m n : List ℕ) → bytes_eq m n ≡ true → bytes_eq n m ≡ true
eq_flip m n e = subst (λ (x : List ℕ). bytes_eq n x ≡ true) (sym (eq_is m n e)) (eq_same n)

pub or_false-left : (a b : Bool) → (a || b) ≡ false → a ≡ false
or_false-left true b e = e
or_false-left false b e = refl

pub or_false-right : (a b : Bool) → (a || b) ≡ false → b ≡ false
or_false-right true b e = absurd (true≢false e)
or_false-right false b e = e

pub or_both : (a b : Bool) → a ≡ false → b ≡ false → (a || b) ≡ false
or_both true b e f = e
or_both false b e f = f

-- the first, or else the second
abbrev pub or_else : {A : Type 0} → Option A → Option A → Option A
or_else None o = o
or_else (Some x) o = Some x

pub held-append : (xs ys : Store) (n : List ℕ) → term_held (xs ++ ys) n ≡ or_else (term_held xs n) (term_held ys n)
held-append [] ys n = refl
held-append (x ∷ xs) ys n = by_test (bytes_eq x.0 n) (held-append xs ys n)
  where
    by_test : (b : Bool) → term_held (xs ++ ys) n ≡ or_else (term_held xs n) (term_held ys n) → cond b (Some x.1) (term_held (xs ++ ys) n) ≡ or_else (cond b (Some x.1) (term_held xs n)) (term_held ys n)
    by_test true h = refl
    by_test false h = h

-- a name that holds a term is none of those that hold none
pub fresh : (store : Store) (ns : List (Option (List ℕ))) (xs : List Term) (n : List ℕ) (x : Term) → list_any (is_held store) (flat_map listed_target ns) ≡ false → term_held store n ≡ Some x → term_held (entries_held ns xs) n ≡ None
fresh store [] xs n x e h = refl
fresh store (m ∷ ns) [] n x e h = none m
  where
    none : (m : Option (List ℕ)) → term_held (entries_held (m ∷ ns) []) n ≡ None
    none None = refl
    none (Some k) = refl
fresh store (None ∷ ns) (y ∷ xs) n x e h = fresh store ns xs n x e h
fresh store (Some m ∷ ns) (y ∷ xs) n x e h =
    by_test (bytes_eq m n) refl (fresh store ns xs n x (or_false-right (is_held store m) (list_any (is_held store) (flat_map listed_target ns)) e) h)
  where
    by_test : (b : Bool) → bytes_eq m n ≡ b → term_held (entries_held ns xs) n ≡ None → cond b (Some y) (term_held (entries_held ns xs) n) ≡ None
    by_test true is k = never_both (is_held store m) (ap is_some (ap (term_held store) (eq_is m n is) ∙ h)) (or_false-left (is_held store m) (list_any (is_held store) (flat_map listed_target ns)) e)
    by_test false is k = k
