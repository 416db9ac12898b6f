-- The pairs of two atoms and two answers become one exactly where these do.
use Rattle.std.proofs.Common.{◌≡◌, ◌∙◌, ◌++◌, ◌==◌, ℕ, Bool, true, false, true≢false, refl, sym, ap, subst, arith, List, [], ◌∷◌, map, length, Option, Some, None, if◌then◌else◌}
use Rattle.std.specs.List.{zip, AllByRecursion}
use Rattle.std.proofs.lemmas.List.{length-map}
use Rattle.am_term.specs.declared.id.SymId.{SymId}
use Rattle.am_term.specs.declared.term.Term.{Term}
use Rattle.am_term.specs.declared.term.Atom.{Atom}
use Rattle.am_term.specs.declared.term.Atom.TheVariants.{Rel, Eq}
use Rattle.am_unify.proofs.Renamed.{heads, tails}
use Rattle.am_unify.proofs.Standing.{number_is, number_same}
use Rattle.am_rules.specs.Parts.{map_atom, answer_terms}
use Rattle.am_rules.specs.Resolution.{AtomsMeet, AnswersMeet}
use Rattle.am_rules.specs.Asked.{Pairs, zipped, atom_pairs, answer_pairs, both_pairs, asked}
use Rattle.am_rules.proofs.Lifts.{all-append}
use Rattle.am_term.specs.Parts.{parts_of}

some-is : (ps qs : List (Term × Term)) → Some ps ≡ Some qs → ps ≡ qs
some-is ps qs e = cc

none-some : {A : Type 0} (ps : List (Term × Term)) → None ≡ Some ps → A
none-some ps e = absurd cc

some-none : {A : Type 0} (ps : List (Term × Term)) → Some ps ≡ None → A
some-none ps e = absurd cc

symbols-same : (r q : SymId) → r.0 ≡ q.0 → r ≡ q
symbols-same r q e = ap (λ (i : ℕ). let x : SymId = record { 0 = i } in x) e

-- what an answer of pairs tells
module _ (f g : Term → Term) where
  abbrev pub Unite : List (Term × Term) → Type 0
  Unite ps = AllByRecursion (λ (e : Term × Term). f e.0 ≡ g e.1) ps

  pub record Tells (P : Type 0) (ps : List (Term × Term)) : Type 0 where
    pub there : P → Unite ps
    pub back : Unite ps → P

  abbrev pub Told : Type 0 → Pairs → Type 0
  Told P None = P → ⊥
  Told P (Some ps) = Tells P ps

  zip-there : (ts us : List Term) → map f ts ≡ map g us → Unite (zip ts us)
  zip-there [] us e = tt
  zip-there (t ∷ ts) [] e = tt
  zip-there (t ∷ ts) (u ∷ us) e = (heads (f t) (g u) (map f ts) (map g us) e, zip-there ts us (tails (f t) (g u) (map f ts) (map g us) e))

  zip-back : (ts us : List Term) → length ts ≡ length us → Unite (zip ts us) → map f ts ≡ map g us
  zip-back [] [] l h = refl
  zip-back [] (u ∷ us) l h = absurd (omega arith)
  zip-back (t ∷ ts) [] l h = absurd (omega arith)
  zip-back (t ∷ ts) (u ∷ us) l h = ap (λ x. x ∷ map f ts) h.0 ∙ ap (λ xs. g u ∷ xs) (zip-back ts us (omega arith) h.1)

  same-length : (ts us : List Term) → map f ts ≡ map g us → length ts ≡ length us
  same-length ts us e = sym (length-map ts f) ∙ (ap length e ∙ length-map us g)

  pub zipped-told : (ts us : List Term) → Told (map f ts ≡ map g us) (zipped ts us)
  zipped-told ts us = by (length ts == length us) refl
    where
      by : (b : Bool) → (length ts == length us) ≡ b → Told (map f ts ≡ map g us) (if b then Some (zip ts us) else None)
      by true e = record { there = zip-there ts us; back = zip-back ts us (number_is (length ts) (length us) e) }
      by false e = λ h. absurd (let l : length ts ≡ length us = same-length ts us h in true≢false (sym (subst (λ n. (length ts == n) ≡ true) l (number_same (length ts))) ∙ e))

  -- with an equivalent claim
  pub told-as : (P Q : Type 0) → (P → Q) → (Q → P) → (o : Pairs) → Told P o → Told Q o
  told-as P Q h k None t = λ q. t (k q)
  told-as P Q h k (Some ps) t = record { there = λ q. t.there (k q); back = λ u. h (t.back u) }

  rel-told : (r q : SymId) (ts us : List Term) → Told (Rel r (map f ts) ≡ Rel q (map g us)) (if r.0 == q.0 then zipped ts us else None)
  rel-told r q ts us = by (r.0 == q.0) refl
    where
      by : (b : Bool) → (r.0 == q.0) ≡ b → Told (Rel r (map f ts) ≡ Rel q (map g us)) (if b then zipped ts us else None)
      by true e = told-as (map f ts ≡ map g us) (Rel r (map f ts) ≡ Rel q (map g us))
          (λ h. ap (λ x. Rel x (map f ts)) (symbols-same r q (number_is r.0 q.0 e)) ∙ ap (Rel q) h) (λ h. cc) (zipped ts us) (zipped-told ts us)
      by false e = λ h. absurd (let s : r ≡ q = cc in true≢false (sym (subst (λ (x : SymId). (r.0 == x.0) ≡ true) s (number_same r.0)) ∙ e))

  pub atoms-told : (a b : Atom) → Told (map_atom f a ≡ map_atom g b) (atom_pairs a b)
  atoms-told (Rel r ts) (Rel q us) = rel-told r q ts us
  atoms-told (Rel r ts) (Eq m n) = λ h. absurd cc
  atoms-told (Eq l k) (Rel q us) = λ h. absurd cc
  atoms-told (Eq l k) (Eq m n) = record { there = λ h. (cc, (cc, tt)); back = λ u. ap (λ x. Eq x (f k)) u.0 ∙ ap (Eq (g m)) u.1.0 }

  pub answers-told : (o u : Option (List Term)) → Told (AnswersMeet f g o u) (answer_pairs o u)
  answers-told None u = record { there = λ h. tt; back = λ h. tt }
  answers-told (Some ts) None = record { there = λ h. tt; back = λ h. tt }
  answers-told (Some ts) (Some us) = zipped-told ts us

  unite-both : (ps qs : List (Term × Term)) → Unite (ps ++ qs) → Unite ps × Unite qs
  unite-both [] qs h = (tt, h)
  unite-both (p ∷ ps) qs h = let r = unite-both ps qs h.1 in ((h.0, r.0), r.1)

  pub both-told : (P Q : Type 0) (a b : Pairs) → Told P a → Told Q b → Told (P × Q) (both_pairs a b)
  both-told P Q None b h k = λ x. h x.0
  both-told P Q (Some ps) None h k = λ x. k x.1
  both-told P Q (Some ps) (Some qs) h k = record {
    there = λ x. all-append (λ (e : Term × Term). f e.0 ≡ g e.1) ps qs (h.there x.0) (k.there x.1);
    back = λ u. let r = unite-both ps qs u in (h.back r.0, k.back r.1);
  }

  -- the atoms and the answers
  pub asked-told : (a b : Option Atom) (o u : Option (List Term)) → Told (AtomsMeet f g a b × AnswersMeet f g o u) (asked a b o u)
  asked-told None b o u = λ x. x.0
  asked-told (Some a) None o u = λ x. x.0
  asked-told (Some a) (Some b) o u = both-told (map_atom f a ≡ map_atom g b) (AnswersMeet f g o u) (atom_pairs a b) (answer_pairs o u) (atoms-told a b) (answers-told o u)

-- what holds of the terms holds of the pairs
module _ (S T : Term → Type 0) where
  abbrev pub Both : List (Term × Term) → Type 0
  Both ps = AllByRecursion (λ (e : Term × Term). S e.0 × T e.1) ps

  abbrev pub Holding : Pairs → Type 0
  Holding None = Unit {0}
  Holding (Some ps) = Both ps

  zip-both : (ts us : List Term) → AllByRecursion S ts → AllByRecursion T us → Both (zip ts us)
  zip-both [] us h k = tt
  zip-both (t ∷ ts) [] h k = tt
  zip-both (t ∷ ts) (u ∷ us) h k = ((h.0, k.0), zip-both ts us h.1 k.1)

  zipped-both : (ts us : List Term) → AllByRecursion S ts → AllByRecursion T us → Holding (zipped ts us)
  zipped-both ts us h k = by (length ts == length us)
    where
      by : (b : Bool) → Holding (if b then Some (zip ts us) else None)
      by true = zip-both ts us h k
      by false = tt

  atoms-both : (a b : Atom) → AllByRecursion S (parts_of a) → AllByRecursion T (parts_of b) → Holding (atom_pairs a b)
  atoms-both (Rel r ts) (Rel q us) h k = by (r.0 == q.0)
    where
      by : (b : Bool) → Holding (if b then zipped ts us else None)
      by true = zipped-both ts us h k
      by false = tt
  atoms-both (Rel r ts) (Eq m n) h k = tt
  atoms-both (Eq l c) (Rel q us) h k = tt
  atoms-both (Eq l c) (Eq m n) h k = ((h.0, k.0), ((h.1.0, k.1.0), tt))

  pub answers-both : (o u : Option (List Term)) → AllByRecursion S (answer_terms o) → AllByRecursion T (answer_terms u) → Holding (answer_pairs o u)
  answers-both None u h k = tt
  answers-both (Some ts) None h k = tt
  answers-both (Some ts) (Some us) h k = zipped-both ts us h k

  pub both-both : (a b : Pairs) → Holding a → Holding b → Holding (both_pairs a b)
  both-both None b h k = tt
  both-both (Some ps) None h k = tt
  both-both (Some ps) (Some qs) h k = all-append (λ (e : Term × Term). S e.0 × T e.1) ps qs h k

  pub asked-both : (a b : Option Atom) (o u : Option (List Term)) → ((x : Atom) → a ≡ Some x → AllByRecursion S (parts_of x)) → ((y : Atom) → b ≡ Some y → AllByRecursion T (parts_of y))
      → AllByRecursion S (answer_terms o) → AllByRecursion T (answer_terms u) → Holding (asked a b o u)
  asked-both None b o u h k m n = tt
  asked-both (Some a) None o u h k m n = tt
  asked-both (Some a) (Some b) o u h k m n = both-both (atom_pairs a b) (answer_pairs o u) (atoms-both a b (h a refl) (k b refl)) (answers-both o u m n)
