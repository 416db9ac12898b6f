-- Replacing goes with renaming; what it leaves, and the sorts of parts.
use Rattle.std.proofs.Common.{◌≡◌, ◌∙◌, ◌==◌, ◌-◌, ℕ, zero, suc, Bool, true, false, refl, sym, ap, subst, List, [], ◌∷◌, map, Option, Some, None, option_map, option_and_then, if◌then◌else◌, set as slice_set}
use Rattle.std.specs.List.{AllByRecursion}
use Rattle.std.proofs.lemmas.Option.{slice_get-map}
use Rattle.am_term.specs.declared.term.Term.{Term}
use Rattle.am_term.specs.declared.term.Term.TheVariants.{Var, In, App}
use Rattle.am_term.specs.declared.term.Atom.{Atom}
use Rattle.am_term.specs.declared.term.Atom.TheVariants.{Rel, Eq}
use Rattle.am_term.specs.declared.term.Literal.{Literal}
use Rattle.am_term.specs.Induct.{term_cases}
use Rattle.am_term.specs.Place.{member, with_member, args_of, with_arg, replaced, args_of-Var, args_of-In, args_of-App, with_arg-App}
use Rattle.am_clause.specs.Variables.{Variable, occurrences, occurrences_all, in_atom, occurrences-none, occurrences-App}
use Rattle.am_clause.specs.Renaming.{Numbers, renamed, renamed_all, renamed_atom, renamed_literal, renamed-Var, renamed-In, renamed-App}
use Rattle.am_rules.specs.Replacing.{with_term, with_term_if, with_put, put_part, changed}
use Rattle.am_rules.proofs.Standing.{never, Each, each-App, each-head, each-tail, each-more, each-left, each-right, each-both}
use Rattle.am_rules.proofs.Lifts.{EachAtom, literal}
use Rattle.am_term.specs.Parts.{parts_of}

-- members of mapped lists
pub member-mapped : {A B : Type 0} (f : A → B) (xs : List A) (k : ℕ) → member (map f xs) k ≡ option_map f (member xs k)
member-mapped f xs zero = refl
member-mapped f xs (suc k) = slice_get-map f xs k

set-mapped : (f : Term → Term) (xs : List Term) (k : ℕ) (x : Term) → slice_set (map f xs) k (f x) ≡ map f (slice_set xs k x)
set-mapped f [] k x = refl
set-mapped f (y ∷ ys) zero x = refl
set-mapped f (y ∷ ys) (suc k) x = ap (λ zs. f y ∷ zs) (set-mapped f ys k x)

with_member-mapped : (f : Term → Term) (xs : List Term) (k : ℕ) (x : Term) → with_member (map f xs) k (f x) ≡ map f (with_member xs k x)
with_member-mapped f xs zero x = refl
with_member-mapped f xs (suc k) x = set-mapped f xs k x

module _ (to : Numbers) where
  abbrev f : Term → Term
  f = renamed to

  args-renamed : (t : Term) → args_of (f t) ≡ map f (args_of t)
  args-renamed = term_cases (λ t. args_of (f t) ≡ map f (args_of t))
      (λ n s. ap args_of (renamed-Var to n s) ∙ (args_of-Var (to n s) s ∙ sym (ap (map f) (args_of-Var n s))))
      (λ k. ap args_of (renamed-In to k) ∙ (args_of-In k ∙ sym (ap (map f) (args_of-In k))))
      (λ h ts. ap args_of (renamed-App to h ts) ∙ (args_of-App h (renamed_all to ts) ∙ sym (ap (map f) (args_of-App h ts))))

  none-there : {A : Type 0} (ts : List Term) (k : ℕ) (x : Term) → ts ≡ [] → member ts k ≡ Some x → A
  none-there [] zero x e m = absurd cc
  none-there [] (suc k) x e m = absurd cc
  none-there (t ∷ ts) k x e m = absurd cc

  with_arg-renamed : (t : Term) (k : ℕ) (x old : Term) → member (args_of t) k ≡ Some old → with_arg (f t) k (f x) ≡ f (with_arg t k x)
  with_arg-renamed = term_cases (λ t. (k : ℕ) (x old : Term) → member (args_of t) k ≡ Some old → with_arg (f t) k (f x) ≡ f (with_arg t k x))
      (λ n s k x old m. none-there (args_of (Var n s)) k old (args_of-Var n s) m)
      (λ j k x old m. none-there (args_of (In j)) k old (args_of-In j) m)
      (λ h ts k x old m. ap (λ u. with_arg u k (f x)) (renamed-App to h ts) ∙ (with_arg-App h (renamed_all to ts) k (f x)
      ∙ (ap (App h) (with_member-mapped f ts k x) ∙ sym (ap f (with_arg-App h ts k x) ∙ renamed-App to h (with_member ts k x)))))

  pub replaced-renamed : (new : Term) (path : List ℕ) (t : Term) → replaced (f new) path (f t) ≡ option_map f (replaced new path t)
  replaced-renamed new [] t = refl
  replaced-renamed new (k ∷ path) t =
      ap (λ ts. option_map (with_arg (f t) k) (option_and_then (replaced (f new) path) (member ts k))) (args-renamed t)
      ∙ (ap (λ o. option_map (with_arg (f t) k) (option_and_then (replaced (f new) path) o)) (member-mapped f (args_of t) k)
      ∙ at (member (args_of t) k) refl (replaced-renamed new path))
    where
      last : (old : Term) → member (args_of t) k ≡ Some old → (o : Option Term) → option_map (with_arg (f t) k) (option_map f o) ≡ option_map f (option_map (with_arg t k) o)
      last old m None = refl
      last old m (Some u) = ap Some (with_arg-renamed t k u old m)

      at : (o : Option Term) → member (args_of t) k ≡ o → ((x : Term) → replaced (f new) path (f x) ≡ option_map f (replaced new path x))
          → option_map (with_arg (f t) k) (option_and_then (replaced (f new) path) (option_map f o)) ≡ option_map f (option_map (with_arg t k) (option_and_then (replaced new path) o))
      at None m h = refl
      at (Some x) m h = ap (option_map (with_arg (f t) k)) (h x) ∙ last x m (replaced new path x)

  terms-renamed : (a : Atom) → parts_of (renamed_atom to a) ≡ map f (parts_of a)
  terms-renamed (Rel r args) = refl
  terms-renamed (Eq l r) = refl

  with_term-renamed : (a : Atom) (k : ℕ) (t : Term) → with_term (renamed_atom to a) k (f t) ≡ renamed_atom to (with_term a k t)
  with_term-renamed (Rel r args) k t = ap (Rel r) (with_member-mapped f args k t)
  with_term-renamed (Eq l r) k t = by (k == 1)
    where
      by : (b : Bool) → (if b then Eq (f t) (f r) else Eq (f l) (f t)) ≡ renamed_atom to (if b then Eq t r else Eq l t)
      by true = refl
      by false = refl

  with_term_if-renamed : (a : Atom) (k : ℕ) (o : Option Term) → with_term_if (renamed_atom to a) k (option_map f o) ≡ renamed_atom to (with_term_if a k o)
  with_term_if-renamed a k None = refl
  with_term_if-renamed a k (Some t) = with_term-renamed a k t

  with_part-renamed : (new : Term) (path : List ℕ) (a : Atom) → with_put (f new) path (renamed_atom to a) ≡ renamed_atom to (with_put new path a)
  with_part-renamed new [] a = refl
  with_part-renamed new (k ∷ path) a =
      ap (λ ts. with_term_if (renamed_atom to a) k (option_and_then (replaced (f new) path) (member ts k))) (terms-renamed a)
      ∙ (ap (λ o. with_term_if (renamed_atom to a) k (option_and_then (replaced (f new) path) o)) (member-mapped f (parts_of a) k)
      ∙ (ap (with_term_if (renamed_atom to a) k) (at (member (parts_of a) k)) ∙ with_term_if-renamed a k (option_and_then (replaced new path) (member (parts_of a) k))))
    where
      at : (o : Option Term) → option_and_then (replaced (f new) path) (option_map f o) ≡ option_map f (option_and_then (replaced new path) o)
      at None = refl
      at (Some x) = replaced-renamed new path x

  pub put_part-renamed : (o : Option Term) (path : List ℕ) (l : Literal) → put_part (option_map f o) path (renamed_literal to l) ≡ renamed_literal to (put_part o path l)
  put_part-renamed None path l = refl
  put_part-renamed (Some new) path l = ap (literal l.positive) (with_part-renamed new path l.atom)

  pub changed-renamed : (i : ℕ) (o : Option Term) (path : List ℕ) (ls : List Literal) → changed i (put_part (option_map f o) path) (map (renamed_literal to) ls) ≡ map (renamed_literal to) (changed i (put_part o path) ls)
  changed-renamed i o path [] = refl
  changed-renamed i o path (l ∷ ls) = by (i == 1) (changed-renamed (i - 1) o path ls)
    where
      by : (b : Bool) → changed (i - 1) (put_part (option_map f o) path) (map (renamed_literal to) ls) ≡ map (renamed_literal to) (changed (i - 1) (put_part o path) ls)
          → (if b then put_part (option_map f o) path (renamed_literal to l) ∷ map (renamed_literal to) ls else renamed_literal to l ∷ changed (i - 1) (put_part (option_map f o) path) (map (renamed_literal to) ls))
          ≡ map (renamed_literal to) (if b then put_part o path l ∷ ls else l ∷ changed (i - 1) (put_part o path) ls)
      by true h = ap (λ x. x ∷ map (renamed_literal to) ls) (put_part-renamed o path l)
      by false h = ap (λ xs. renamed_literal to l ∷ xs) h

-- which variables there are
module _ (P : Variable → Type 0) where
  pub member-each : (ts : List Term) (k : ℕ) (x : Term) → member ts k ≡ Some x → Each P (occurrences_all ts) → Each P (occurrences x)
  member-each ts zero x e h = absurd cc
  member-each [] (suc k) x e h = absurd cc
  member-each (t ∷ ts) (suc zero) x e h = let is : t ≡ x = cc in subst (λ u. Each P (occurrences u)) is (each-head P t ts h)
  member-each (t ∷ ts) (suc (suc k)) x e h = member-each ts (suc k) x e (each-tail P t ts h)

  set-each : (ts : List Term) (k : ℕ) (x : Term) → Each P (occurrences x) → Each P (occurrences_all ts) → Each P (occurrences_all (slice_set ts k x))
  set-each [] k x h e = e
  set-each (t ∷ ts) zero x h e = each-more P x ts h (each-tail P t ts e)
  set-each (t ∷ ts) (suc k) x h e = each-more P t (slice_set ts k x) (each-head P t ts e) (set-each ts k x h (each-tail P t ts e))

  with_member-each : (ts : List Term) (k : ℕ) (x : Term) → Each P (occurrences x) → Each P (occurrences_all ts) → Each P (occurrences_all (with_member ts k x))
  with_member-each ts zero x h e = e
  with_member-each ts (suc k) x h e = set-each ts k x h e

  args-each : (t : Term) → Each P (occurrences t) → Each P (occurrences_all (args_of t))
  args-each = term_cases (λ t. Each P (occurrences t) → Each P (occurrences_all (args_of t)))
      (λ n s h. rw args_of-Var (λ v m. never (rw occurrences-none at m)))
      (λ k h. rw args_of-In (λ v m. never (rw occurrences-none at m)))
      (λ g ts h. rw args_of-App (each-App P g ts h))

  with_arg-each : (t : Term) (k : ℕ) (x old : Term) → member (args_of t) k ≡ Some old → Each P (occurrences x) → Each P (occurrences t) → Each P (occurrences (with_arg t k x))
  with_arg-each = term_cases (λ t. (k : ℕ) (x old : Term) → member (args_of t) k ≡ Some old → Each P (occurrences x) → Each P (occurrences t) → Each P (occurrences (with_arg t k x)))
      (λ n s k x old m. none-there (λ i r. i) (args_of (Var n s)) k old (args_of-Var n s) m)
      (λ j k x old m. none-there (λ i r. i) (args_of (In j)) k old (args_of-In j) m)
      (λ g ts k x old m h e. rw (with_arg-App, occurrences-App g (with_member ts k x)) (with_member-each ts k x h (each-App P g ts e)))

  abbrev pub IfEach : Option Term → Type 0
  IfEach None = Unit {0}
  IfEach (Some u) = Each P (occurrences u)

  pub replaced-each : (new : Term) (path : List ℕ) (t : Term) → Each P (occurrences new) → Each P (occurrences t) → IfEach (replaced new path t)
  replaced-each new [] t h e = h
  replaced-each new (k ∷ path) t h e = at (member (args_of t) k) refl (λ x. replaced-each new path x h)
    where
      last : (old : Term) → member (args_of t) k ≡ Some old → (o : Option Term) → IfEach o → IfEach (option_map (with_arg t k) o)
      last old m None i = tt
      last old m (Some u) i = with_arg-each t k u old m i e

      at : (o : Option Term) → member (args_of t) k ≡ o → ((x : Term) → Each P (occurrences x) → IfEach (replaced new path x)) → IfEach (option_map (with_arg t k) (option_and_then (replaced new path) o))
      at None m g = tt
      at (Some x) m g = last x m (replaced new path x) (g x (member-each (args_of t) k x m (args-each t e)))

  terms-each : (a : Atom) → Each P (in_atom a) → Each P (occurrences_all (parts_of a))
  terms-each (Rel r args) h = h
  terms-each (Eq l r) h = each-more P l (r ∷ []) (each-left P (occurrences l) (occurrences r) h) (each-more P r [] (each-right P (occurrences l) (occurrences r) h) (λ v m. never (rw occurrences-none at m)))

  with_term-each : (a : Atom) (k : ℕ) (x : Term) → Each P (occurrences x) → Each P (in_atom a) → Each P (in_atom (with_term a k x))
  with_term-each (Rel r args) k x h e = with_member-each args k x h e
  with_term-each (Eq l r) k x h e = by (k == 1)
    where
      by : (b : Bool) → Each P (in_atom (if b then Eq x r else Eq l x))
      by true = each-both P (occurrences x) (occurrences r) h (each-right P (occurrences l) (occurrences r) e)
      by false = each-both P (occurrences l) (occurrences x) (each-left P (occurrences l) (occurrences r) e) h

  with_term_if-each : (a : Atom) (k : ℕ) (o : Option Term) → IfEach o → Each P (in_atom a) → Each P (in_atom (with_term_if a k o))
  with_term_if-each a k None h e = e
  with_term_if-each a k (Some x) h e = with_term-each a k x h e

  with_part-each : (new : Term) (path : List ℕ) (a : Atom) → Each P (occurrences new) → Each P (in_atom a) → Each P (in_atom (with_put new path a))
  with_part-each new [] a h e = e
  with_part-each new (k ∷ path) a h e = with_term_if-each a k (option_and_then (replaced new path) (member (parts_of a) k)) (at (member (parts_of a) k) refl) e
    where
      at : (o : Option Term) → member (parts_of a) k ≡ o → IfEach (option_and_then (replaced new path) o)
      at None m = tt
      at (Some x) m = replaced-each new path x h (member-each (parts_of a) k x m (terms-each a e))

  pub put_part-each : (o : Option Term) (path : List ℕ) (l : Literal) → IfEach o → EachAtom P l → EachAtom P (put_part o path l)
  put_part-each None path l h e = e
  put_part-each (Some new) path l h e = with_part-each new path l.atom h e

  pub changed-each : (i : ℕ) (o : Option Term) (path : List ℕ) (ls : List Literal) → IfEach o → AllByRecursion (EachAtom P) ls → AllByRecursion (EachAtom P) (changed i (put_part o path) ls)
  changed-each i o path [] h e = tt
  changed-each i o path (l ∷ ls) h e = by (i == 1) (changed-each (i - 1) o path ls h e.1)
    where
      by : (b : Bool) → AllByRecursion (EachAtom P) (changed (i - 1) (put_part o path) ls) → AllByRecursion (EachAtom P) (if b then put_part o path l ∷ ls else l ∷ changed (i - 1) (put_part o path) ls)
      by true k = (put_part-each o path l h e.0, e.1)
      by false k = (e.0, k)
