-- Merging goes with renaming, where no two variables become one.
use Rattle.std.proofs.Common.{◌≡◌, ◌∙◌, Bool, true, false, not, cond, refl, sym, ap, subst, List, [], ◌∷◌, map}
use Rattle.std.specs.List.{filter, AllByRecursion}
use Rattle.am_term.specs.declared.term.Term.{Term}
use Rattle.am_term.specs.declared.term.Term.TheVariants.{Var, App}
use Rattle.am_term.specs.declared.term.Atom.{Atom}
use Rattle.am_term.specs.declared.term.Literal.{Literal}
use Rattle.am_term.specs.Same.{same_literal}
use Rattle.am_term.proofs.Alike.{same_literal-refl, same_literal-sound}
use Rattle.am_term.proofs.Tests.{same_tests}
use Rattle.am_clause.specs.Distinct.{distinct}
use Rattle.am_clause.specs.Merge.{merged}
use Rattle.am_clause.specs.Variables.{Variable, occurrences, in_atom}
use Rattle.am_clause.specs.Renaming.{Numbers, renamed, renamed_all, renamed_atom, renamed_literal, renamed-Var, renamed-In, renamed-App}
use Rattle.am_rules.specs.Parts.{map_atom}
use Rattle.am_rules.proofs.Standing.{Each, agree}
use Rattle.am_rules.proofs.Lifts.{EachAtom, atom-by, atom-after, atom-kept, all-after, renamed-atom, literal}

-- lists without repetitions, of what a function makes that keeps such members apart
module _ {A : Type 0} (same : A → A → Bool) (f : A → A) (P : A → Type 0) (kept : (x y : A) → P x → P y → same (f x) (f y) ≡ same x y) where
  filter-mapped : (x : A) → P x → (ys : List A) → AllByRecursion P ys → filter (λ z. not (same (f x) z)) (map f ys) ≡ map f (filter (λ z. not (same x z)) ys)
  filter-mapped x a [] h = refl
  filter-mapped x a (y ∷ ys) h = rw (kept x y a h.0) (by (same x y) (filter-mapped x a ys h.1))
    where
      by : (b : Bool) → filter (λ z. not (same (f x) z)) (map f ys) ≡ map f (filter (λ z. not (same x z)) ys)
          → cond (not b) (f y ∷ filter (λ z. not (same (f x) z)) (map f ys)) (filter (λ z. not (same (f x) z)) (map f ys)) ≡ map f (cond (not b) (y ∷ filter (λ z. not (same x z)) ys) (filter (λ z. not (same x z)) ys))
      by true e = e
      by false e = ap (λ xs. f y ∷ xs) e

  pub all-filter : (t : A → Bool) (xs : List A) → AllByRecursion P xs → AllByRecursion P (filter t xs)
  all-filter t [] h = tt
  all-filter t (x ∷ xs) h = by (t x) (all-filter t xs h.1)
    where
      by : (b : Bool) → AllByRecursion P (filter t xs) → AllByRecursion P (cond b (x ∷ filter t xs) (filter t xs))
      by true k = (h.0, k)
      by false k = k

  pub all-distinct : (xs : List A) → AllByRecursion P xs → AllByRecursion P (distinct same xs)
  all-distinct [] h = tt
  all-distinct (x ∷ xs) h = (h.0, all-filter (λ y. not (same x y)) (distinct same xs) (all-distinct xs h.1))

  pub distinct-mapped : (xs : List A) → AllByRecursion P xs → distinct same (map f xs) ≡ map f (distinct same xs)
  distinct-mapped [] h = refl
  distinct-mapped (x ∷ xs) h = ap (λ ys. f x ∷ ys)
      (ap (filter (λ z. not (same (f x) z))) (distinct-mapped xs h.1) ∙ filter-mapped x h.0 (distinct same xs) (all-distinct xs h.1))

pub all-merged : (P : Literal → Type 0) (ls : List Literal) → AllByRecursion P ls → AllByRecursion P (merged ls)
all-merged P ls h = all-distinct same_literal (λ l. l) P (λ l m a b. refl) ls h

module _ (to back : Numbers) where
  abbrev pub Undone : Variable → Type 0
  Undone v = back (to v.0 v.1) v.1 ≡ v.0

  term-undone : (t : Term) → Each Undone (occurrences t) → renamed back (renamed to t) ≡ t
  term-undone = agree (λ t. renamed back (renamed to t)) (λ t. t) Undone
      (λ n s h. ap (renamed back) (renamed-Var to n s) ∙ (renamed-Var back (to n s) s ∙ ap (λ i. Var i s) h))
      (λ k. ap (renamed back) (renamed-In to k) ∙ renamed-In back k)
      (λ f ts. ap (renamed back) (renamed-App to f ts) ∙ (renamed-App back f (renamed_all to ts) ∙ ap (App f) (all-after (renamed back) (renamed to) ts)))
      (λ f ts. ap (App f) (sym (same ts)))
    where
      same : (ts : List Term) → map (λ t. t) ts ≡ ts
      same [] = refl
      same (t ∷ ts) = ap (λ xs. t ∷ xs) (same ts)

  atom-undone : (a : Atom) → Each Undone (in_atom a) → renamed_atom back (renamed_atom to a) ≡ a
  atom-undone a h = renamed-atom back (renamed_atom to a) ∙ (ap (map_atom (renamed back)) (renamed-atom to a) ∙ (atom-after (renamed back) (renamed to) a
      ∙ (atom-by (λ t. renamed back (renamed to t)) (λ t. t) Undone term-undone a h ∙ atom-kept a)))

  literal-undone : (l : Literal) → EachAtom Undone l → renamed_literal back (renamed_literal to l) ≡ l
  literal-undone l h = ap (literal l.positive) (atom-undone l.atom h)

  literals-kept : (l m : Literal) → EachAtom Undone l → EachAtom Undone m → same_literal (renamed_literal to l) (renamed_literal to m) ≡ same_literal l m
  literals-kept l m a b = same_tests (same_literal (renamed_literal to l) (renamed_literal to m)) (same_literal l m)
      (λ e. let is : l ≡ m = sym (literal-undone l a) ∙ (ap (renamed_literal back) (same_literal-sound (renamed_literal to l) (renamed_literal to m) e) ∙ literal-undone m b) in
      subst (λ (x : Literal). same_literal l x ≡ true) is (same_literal-refl l))
      (λ e. subst (λ (x : Literal). same_literal (renamed_literal to l) (renamed_literal to x) ≡ true) (same_literal-sound l m e) (same_literal-refl (renamed_literal to l)))

  pub merged-renamed : (ls : List Literal) → AllByRecursion (EachAtom Undone) ls → merged (map (renamed_literal to) ls) ≡ map (renamed_literal to) (merged ls)
  merged-renamed = distinct-mapped same_literal (renamed_literal to) (EachAtom Undone) literals-kept
