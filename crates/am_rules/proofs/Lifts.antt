-- From terms to atoms, literals, answers and clauses.
use Rattle.std.proofs.Common.{◌≡◌, ◌∙◌, ◌==◌, ◌-◌, ◌++◌, if◌then◌else◌, true, false, ℕ, Bool, refl, ap, List, [], ◌∷◌, map, Option, Some, None}
use Rattle.std.specs.List.{AllByRecursion}
use Rattle.am_term.specs.declared.term.Term.{Term}
use Rattle.am_term.specs.declared.term.Atom.{Atom}
use Rattle.am_term.specs.declared.term.Atom.TheVariants.{Rel, Eq}
use Rattle.am_term.specs.declared.term.Literal.{Literal}
use Rattle.am_clause.specs.declared.clause.Clause.{Clause}
use Rattle.am_clause.specs.Variables.{Variable, occurrences, occurrences_all, in_atom, in_literals, in_answer, occurrences-none}
use Rattle.am_clause.specs.Renaming.{Numbers, renamed, renamed_atom, renamed_literal, renamed_answer}
use Rattle.am_rules.specs.Parts.{map_atom, map_literal, map_answer, all_but}
use Rattle.am_rules.proofs.Standing.{never, Each, each-left, each-right, each-both, each-head, each-tail, each-more}

abbrev pub literal : Bool → Atom → Literal
literal sign a = record { positive = sign; atom = a }

abbrev pub clause : List Literal → Option (List Term) → Clause
clause ls o = record { literals = ls; answer = o }

-- Terms that agree where their variables are such.
module _ (f g : Term → Term) (P : Variable → Type 0) (same : (t : Term) → Each P (occurrences t) → f t ≡ g t) where
  pub all-by : (ts : List Term) → Each P (occurrences_all ts) → map f ts ≡ map g ts
  all-by [] h = refl
  all-by (t ∷ ts) h = ap (λ x. x ∷ map f ts) (same t (each-head P t ts h)) ∙ ap (λ xs. g t ∷ xs) (all-by ts (each-tail P t ts h))

  pub atom-by : (a : Atom) → Each P (in_atom a) → map_atom f a ≡ map_atom g a
  atom-by (Rel r args) h = ap (Rel r) (all-by args h)
  atom-by (Eq l r) h = ap (λ x. Eq x (f r)) (same l (each-left P (occurrences l) (occurrences r) h)) ∙ ap (Eq (g l)) (same r (each-right P (occurrences l) (occurrences r) h))

  pub literals-by : (ls : List Literal) → AllByRecursion (λ (l : Literal). Each P (in_atom l.atom)) ls → map (map_literal f) ls ≡ map (map_literal g) ls
  literals-by [] h = refl
  literals-by (l ∷ ls) h = ap (λ a. literal l.positive a ∷ map (map_literal f) ls) (atom-by l.atom h.0) ∙ ap (λ xs. map_literal g l ∷ xs) (literals-by ls h.1)

  pub answer-by : (o : Option (List Term)) → Each P (in_answer o) → map_answer f o ≡ map_answer g o
  answer-by None h = refl
  answer-by (Some ts) h = ap Some (all-by ts h)

-- What holds of the variables of what terms become.
module _ (f : Term → Term) (P Q : Variable → Type 0) (inner : (t : Term) → Each P (occurrences t) → Each Q (occurrences (f t))) where
  pub all-inner : (ts : List Term) → Each P (occurrences_all ts) → Each Q (occurrences_all (map f ts))
  all-inner [] h = λ v m. never (rw occurrences-none at m)
  all-inner (t ∷ ts) h = each-more Q (f t) (map f ts) (inner t (each-head P t ts h)) (all-inner ts (each-tail P t ts h))

  pub atom-inner : (a : Atom) → Each P (in_atom a) → Each Q (in_atom (map_atom f a))
  atom-inner (Rel r args) h = all-inner args h
  atom-inner (Eq l r) h = each-both Q (occurrences (f l)) (occurrences (f r)) (inner l (each-left P (occurrences l) (occurrences r) h)) (inner r (each-right P (occurrences l) (occurrences r) h))

  pub literals-inner : (ls : List Literal) → AllByRecursion (λ (l : Literal). Each P (in_atom l.atom)) ls → AllByRecursion (λ (l : Literal). Each Q (in_atom l.atom)) (map (map_literal f) ls)
  literals-inner [] h = tt
  literals-inner (l ∷ ls) h = (atom-inner l.atom h.0, literals-inner ls h.1)

  pub answer-inner : (o : Option (List Term)) → Each P (in_answer o) → Each Q (in_answer (map_answer f o))
  answer-inner None h = λ v m. never m
  answer-inner (Some ts) h = all-inner ts h

-- one after the other
module _ (g f : Term → Term) where
  pub all-after : (ts : List Term) → map g (map f ts) ≡ map (λ t. g (f t)) ts
  all-after [] = refl
  all-after (t ∷ ts) = ap (λ xs. g (f t) ∷ xs) (all-after ts)

  pub atom-after : (a : Atom) → map_atom g (map_atom f a) ≡ map_atom (λ t. g (f t)) a
  atom-after (Rel r args) = ap (Rel r) (all-after args)
  atom-after (Eq l r) = refl

  pub literals-after : (ls : List Literal) → map (map_literal g) (map (map_literal f) ls) ≡ map (map_literal (λ t. g (f t))) ls
  literals-after [] = refl
  literals-after (l ∷ ls) = ap (λ a. literal l.positive a ∷ map (map_literal g) (map (map_literal f) ls)) (atom-after l.atom) ∙ ap (λ xs. map_literal (λ t. g (f t)) l ∷ xs) (literals-after ls)

  pub answer-after : (o : Option (List Term)) → map_answer g (map_answer f o) ≡ map_answer (λ t. g (f t)) o
  answer-after None = refl
  answer-after (Some ts) = ap Some (all-after ts)

-- nothing changes
module _ (P : Variable → Type 0) where
  atom-same : (a : Atom) → map_atom (λ t. t) a ≡ a
  atom-same (Rel r args) = ap (Rel r) (all args)
    where
      all : (ts : List Term) → map (λ t. t) ts ≡ ts
      all [] = refl
      all (t ∷ ts) = ap (λ xs. t ∷ xs) (all ts)
  atom-same (Eq l r) = refl

pub atom-kept : (a : Atom) → map_atom (λ t. t) a ≡ a
atom-kept a = atom-same (λ v. Unit {0}) a

-- renaming is such a change
module _ (to : Numbers) where
  pub renamed-atom : (a : Atom) → renamed_atom to a ≡ map_atom (renamed to) a
  renamed-atom (Rel r args) = refl
  renamed-atom (Eq l r) = refl

  pub renamed-literals : (ls : List Literal) → map (renamed_literal to) ls ≡ map (map_literal (renamed to)) ls
  renamed-literals [] = refl
  renamed-literals (l ∷ ls) = ap (λ a. literal l.positive a ∷ map (renamed_literal to) ls) (renamed-atom l.atom) ∙ ap (λ xs. map_literal (renamed to) l ∷ xs) (renamed-literals ls)

  pub renamed-answer : (o : Option (List Term)) → renamed_answer to o ≡ map_answer (renamed to) o
  renamed-answer None = refl
  renamed-answer (Some ts) = refl

-- what holds of the variables of each literal, and of all
abbrev pub EachAtom : (Variable → Type 0) → Literal → Type 0
EachAtom P l = Each P (in_atom l.atom)

module _ (P : Variable → Type 0) where
  pub literals-each : (ls : List Literal) → Each P (in_literals ls) → AllByRecursion (EachAtom P) ls
  literals-each [] h = tt
  literals-each (l ∷ ls) h = (each-left P (in_atom l.atom) (in_literals ls) h, literals-each ls (each-right P (in_atom l.atom) (in_literals ls) h))

  pub each-literals : (ls : List Literal) → AllByRecursion (EachAtom P) ls → Each P (in_literals ls)
  each-literals [] h = λ v m. never m
  each-literals (l ∷ ls) h = each-both P (in_atom l.atom) (in_literals ls) h.0 (each-literals ls h.1)

-- all of a list, and of parts of it
module _ {A : Type 0} (P : A → Type 0) where
  pub all-without : (i : ℕ) (xs : List A) → AllByRecursion P xs → AllByRecursion P (all_but i xs)
  all-without i [] h = tt
  all-without i (x ∷ xs) h = by (i == 1) (all-without (i - 1) xs h.1)
    where
      by : (b : Bool) → AllByRecursion P (all_but (i - 1) xs) → AllByRecursion P (if b then xs else x ∷ all_but (i - 1) xs)
      by true k = h.1
      by false k = (h.0, k)

  pub all-append : (xs ys : List A) → AllByRecursion P xs → AllByRecursion P ys → AllByRecursion P (xs ++ ys)
  all-append [] ys h k = k
  all-append (x ∷ xs) ys h k = (h.0, all-append xs ys h.1 k)

pub all-weaker : {A : Type 0} (P Q : A → Type 0) → ((x : A) → P x → Q x) → (xs : List A) → AllByRecursion P xs → AllByRecursion Q xs
all-weaker P Q h [] k = tt
all-weaker P Q h (x ∷ xs) k = (h x k.0, all-weaker P Q h xs k.1)
