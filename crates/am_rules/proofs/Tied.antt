-- Each rule of this crate takes and makes what the rule of the calculus does.
use Rattle.std.proofs.Common.{◌≡◌, ◌∙◌, ◌==◌, ◌-◌, ◌++◌, ℕ, zero, suc, Bool, true, false, refl, sym, ap, subst, arith, List, [], ◌∷◌, map, Option, Some, None, option_map, if◌then◌else◌}
use Rattle.std.specs.List.{remove}
use Rattle.std.proofs.lemmas.Bool.Decides.{nat_tests}
use Rattle.am_term.specs.declared.id.SortId.{SortId}
use Rattle.am_term.specs.declared.signature.Signature.{Signature}
use Rattle.am_term.specs.declared.term.Term.{Term}
use Rattle.am_term.specs.declared.term.Atom.{Atom}
use Rattle.am_term.specs.declared.term.Atom.TheVariants.{Rel, Eq}
use Rattle.am_term.specs.declared.term.Literal.{Literal}
use Rattle.am_term.specs.Instance.{instance, instance_atom, instance_literal}
use Rattle.am_term.specs.Place.{member}
use Rattle.am_term.specs.Parts.{without}
use Rattle.am_term.proofs.Alike.{same_term-sound, same_term-refl, same_terms-sound, same_terms-refl, same_atom-sound, same_atom-refl}
use Rattle.am_clause.specs.declared.clause.Clause.{Clause}
use Rattle.am_clause.specs.Merge.{merged}
use Rattle.am_clause.specs.Bound.{instance_answer}
use Rattle.am_clause.specs.Rules.{factor, reflex, resolve, have_one_atom, equates_sides, go_together, shared}
use Rattle.am_rules.specs.Parts.{map_atom, map_literal, map_answer, all_but}
use Rattle.am_rules.specs.Resolution.{nth_atom, AtomsMeet, AnswersMeet, ResolveMeets, resolved_literals, resolvent}
use Rattle.am_rules.specs.Alone.{SidesMeet, FactorMeets, ReflexMeets, kept}
use Rattle.am_rules.proofs.Standing.{never}
use Rattle.am_rules.proofs.Lifts.{literal, clause}
use Rattle.am_rules.proofs.Replacings.{member-mapped}
use Rattle.am_rules.proofs.Answering.{IsTiedOne, IsTiedTwo}

-- ---- lists without a member

all-but-zero : {A : Type 0} (xs : List A) → all_but 0 xs ≡ xs
all-but-zero [] = refl
all-but-zero (x ∷ xs) = ap (λ ys. x ∷ ys) (all-but-zero xs)

all-but-suc : {A : Type 0} (i : ℕ) (xs : List A) → all_but (suc i) xs ≡ remove xs i
all-but-suc zero [] = refl
all-but-suc (suc i) [] = refl
all-but-suc zero (x ∷ xs) = refl
all-but-suc (suc i) (x ∷ xs) =
    ap (λ (b : Bool). if b then xs else x ∷ all_but (suc (suc i) - 1) xs) (let e : (suc (suc i) == 1) ≡ false = grind (arith, nat_tests) in e)
    ∙ (ap (λ k. x ∷ all_but k xs) (let e : suc (suc i) - 1 ≡ suc i = omega arith in e) ∙ ap (λ ys. x ∷ ys) (all-but-suc i xs))

pub all-but-is : {A : Type 0} (i : ℕ) (xs : List A) → all_but i xs ≡ without xs i
all-but-is zero xs = all-but-zero xs
all-but-is (suc i) xs = all-but-suc i xs

remove-mapped : {A B : Type 0} (f : A → B) (xs : List A) (i : ℕ) → remove (map f xs) i ≡ map f (remove xs i)
remove-mapped f [] zero = refl
remove-mapped f [] (suc i) = refl
remove-mapped f (x ∷ xs) zero = refl
remove-mapped f (x ∷ xs) (suc i) = ap (λ ys. f x ∷ ys) (remove-mapped f xs i)

without-mapped : {A B : Type 0} (f : A → B) (xs : List A) (i : ℕ) → without (map f xs) i ≡ map f (without xs i)
without-mapped f xs zero = refl
without-mapped f xs (suc i) = remove-mapped f xs i

-- ---- instances

module _ (xs : List Term) where
  pub atom-is : (a : Atom) → instance_atom xs a ≡ map_atom (instance xs) a
  atom-is (Rel r args) = refl
  atom-is (Eq l r) = refl

  pub literal-is : (l : Literal) → instance_literal xs l ≡ map_literal (instance xs) l
  literal-is l = ap (literal l.positive) (atom-is l.atom)

  pub literals-are : (ls : List Literal) → map (instance_literal xs) ls ≡ map (map_literal (instance xs)) ls
  literals-are [] = refl
  literals-are (l ∷ ls) = ap (λ m. m ∷ map (instance_literal xs) ls) (literal-is l) ∙ ap (λ ms. map_literal (instance xs) l ∷ ms) (literals-are ls)

  pub answer-is : (o : Option (List Term)) → instance_answer xs o ≡ map_answer (instance xs) o
  answer-is None = refl
  answer-is (Some ts) = refl

  -- the literals without one
  pub rest-is : (i : ℕ) (ls : List Literal) → without (map (instance_literal xs) ls) i ≡ map (map_literal (instance xs)) (all_but i ls)
  rest-is i ls = without-mapped (instance_literal xs) ls i ∙ (ap (map (instance_literal xs)) (sym (all-but-is i ls)) ∙ literals-are (all_but i ls))

  pub member-is : (i : ℕ) (ls : List Literal) → member (map (instance_literal xs) ls) i ≡ option_map (instance_literal xs) (member ls i)
  member-is i ls = member-mapped (instance_literal xs) ls i

abbrev atom_in : Option Literal → Option Atom
atom_in o = option_map (λ (l : Literal). l.atom) o

-- ---- what becomes equal

module _ (xs ys : List Term) where
  atoms-there : (o u : Option Literal) → AtomsMeet (instance xs) (instance ys) (atom_in o) (atom_in u) → have_one_atom (option_map (instance_literal xs) o) (option_map (instance_literal ys) u) ≡ true
  atoms-there None u h = absurd h
  atoms-there (Some l) None h = absurd h
  atoms-there (Some l) (Some m) h =
      subst (λ a. have_one_atom (Some (literal true (instance_atom xs l.atom))) (Some (literal true a)) ≡ true) (atom-is xs l.atom ∙ (h ∙ sym (atom-is ys m.atom))) (same_atom-refl (instance_atom xs l.atom))

  atoms-back : (o u : Option Literal) → have_one_atom (option_map (instance_literal xs) o) (option_map (instance_literal ys) u) ≡ true → AtomsMeet (instance xs) (instance ys) (atom_in o) (atom_in u)
  atoms-back None u h = never h
  atoms-back (Some l) None h = never h
  atoms-back (Some l) (Some m) h = sym (atom-is xs l.atom) ∙ (same_atom-sound (instance_atom xs l.atom) (instance_atom ys m.atom) h ∙ atom-is ys m.atom)

  abbrev Meeting : Option Atom → Option Atom → Type 0
  Meeting = AtomsMeet (instance xs) (instance ys)

  abbrev OneAtom : Option Literal → Option Literal → Type 0
  OneAtom o u = have_one_atom o u ≡ true

  pub one-atom : (c d : Clause) (i j : ℕ) → Meeting (nth_atom i c) (nth_atom j d) → OneAtom (member (map (instance_literal xs) c.literals) i) (member (map (instance_literal ys) d.literals) j)
  one-atom c d i j h =
      subst (λ o. OneAtom o (member (map (instance_literal ys) d.literals) j)) (sym (member-is xs i c.literals))
      (subst (OneAtom (option_map (instance_literal xs) (member c.literals i))) (sym (member-is ys j d.literals))
      (atoms-there (member c.literals i) (member d.literals j) h))

  pub atom-one : (c d : Clause) (i j : ℕ) → OneAtom (member (map (instance_literal xs) c.literals) i) (member (map (instance_literal ys) d.literals) j) → Meeting (nth_atom i c) (nth_atom j d)
  atom-one c d i j h =
      atoms-back (member c.literals i) (member d.literals j)
      (subst (λ o. OneAtom o (option_map (instance_literal ys) (member d.literals j))) (member-is xs i c.literals)
      (subst (OneAtom (member (map (instance_literal xs) c.literals) i)) (member-is ys j d.literals) h))

  pub answers-one : (o u : Option (List Term)) → AnswersMeet (instance xs) (instance ys) o u → go_together (instance_answer xs o) (instance_answer ys u) ≡ true
  answers-one None u h = refl
  answers-one (Some ts) None h = refl
  answers-one (Some ts) (Some us) h = subst (λ zs. go_together (Some (map (instance xs) ts)) (Some zs) ≡ true) h (same_terms-refl (map (instance xs) ts))

  pub one-answers : (o u : Option (List Term)) → go_together (instance_answer xs o) (instance_answer ys u) ≡ true → AnswersMeet (instance xs) (instance ys) o u
  one-answers None u h = tt
  one-answers (Some ts) None h = tt
  one-answers (Some ts) (Some us) h = same_terms-sound (map (instance xs) ts) (map (instance ys) us) h

  pub shared-is : (o u : Option (List Term)) → shared (instance_answer xs o) (instance_answer ys u) ≡ shared (map_answer (instance xs) o) (map_answer (instance ys) u)
  shared-is None u = answer-is ys u
  shared-is (Some ts) u = refl

-- ---- the rules

module _ (sig : Signature) (ins : List SortId) (p : Clause) (i : ℕ) (q : Clause) (j : ℕ) where
  resolvent-is : (xs ys : List Term) → record { literals = merged (without (map (instance_literal xs) p.literals) i ++ without (map (instance_literal ys) q.literals) j); answer = shared (instance_answer xs p.answer) (instance_answer ys q.answer) } ≡ resolvent p i q j xs ys
  resolvent-is xs ys =
      ap (λ ls. clause (merged (ls ++ without (map (instance_literal ys) q.literals) j)) (shared (instance_answer xs p.answer) (instance_answer ys q.answer))) (rest-is xs i p.literals)
      ∙ (ap (λ ls. clause (merged (map (map_literal (instance xs)) (all_but i p.literals) ++ ls)) (shared (instance_answer xs p.answer) (instance_answer ys q.answer))) (rest-is ys j q.literals)
      ∙ ap (clause (merged (resolved_literals p i q j xs ys))) (shared-is xs ys p.answer q.answer))

  pub resolve-tied : IsTiedTwo sig ins (resolve i j) p q (ResolveMeets p i q j) (resolvent p i q j)
  resolve-tied = record {
    there = λ xs ys suits b. record {
      suits = suits;
      binds = b.left;
      binds_other = b.right;
      equal = one-atom xs ys p q i j b.meets.atoms;
      answers = answers-one xs ys p.answer q.answer b.meets.answers;
      is = sym (resolvent-is xs ys);
    };
    back = λ xs ys d h. record {
      left = h.binds;
      right = h.binds_other;
      meets = record { atoms = atom-one xs ys p q i j h.equal; answers = one-answers xs ys p.answer q.answer h.answers };
    };
    same = λ xs ys d h. h.is ∙ resolvent-is xs ys;
  }

module _ (sig : Signature) (ins : List SortId) (p : Clause) where
  pub kept-is : (i : ℕ) (xs : List Term) → record { literals = merged (without (map (instance_literal xs) p.literals) i); answer = instance_answer xs p.answer } ≡ kept p i xs
  kept-is i xs = ap (λ ls. clause (merged ls) (instance_answer xs p.answer)) (rest-is xs i p.literals) ∙ ap (clause (merged (map (map_literal (instance xs)) (all_but i p.literals)))) (answer-is xs p.answer)

  pub factor-tied : (i j : ℕ) → IsTiedOne sig ins (factor i j) p (FactorMeets p i j) (kept p 0)
  factor-tied i j = record {
    there = λ xs suits b. record { suits = suits; binds = b.whole; equal = one-atom xs xs p p i j b.meets; is = sym (kept-is 0 xs) };
    back = λ xs d h. record { whole = h.binds; meets = atom-one xs xs p p i j h.equal };
    same = λ xs d h. h.is ∙ kept-is 0 xs;
  }

  module _ (xs : List Term) where
    abbrev Sides : Option Atom → Type 0
    Sides = SidesMeet (instance xs)

    abbrev OneSide : Option Literal → Type 0
    OneSide o = equates_sides o ≡ true

    sides-there : (sign : Bool) (a : Atom) → Sides (Some a) → OneSide (Some (literal sign (instance_atom xs a)))
    sides-there sign (Rel r args) h = absurd h
    sides-there sign (Eq l r) h = subst (λ t. OneSide (Some (literal sign (Eq (instance xs l) t)))) h (same_term-refl (instance xs l))

    sides-back : (sign : Bool) (a : Atom) → OneSide (Some (literal sign (instance_atom xs a))) → Sides (Some a)
    sides-back sign (Rel r args) h = never h
    sides-back sign (Eq l r) h = same_term-sound (instance xs l) (instance xs r) h

    one-side : (o : Option Literal) → Sides (atom_in o) → OneSide (option_map (instance_literal xs) o)
    one-side None h = absurd h
    one-side (Some l) h = sides-there l.positive l.atom h

    side-one : (o : Option Literal) → OneSide (option_map (instance_literal xs) o) → Sides (atom_in o)
    side-one None h = never h
    side-one (Some l) h = sides-back l.positive l.atom h

  pub reflex-tied : (i : ℕ) → IsTiedOne sig ins (reflex i) p (ReflexMeets p i) (kept p i)
  reflex-tied i = record {
    there = λ xs suits b. record {
      suits = suits;
      binds = b.whole;
      equal = subst (OneSide xs) (sym (member-is xs i p.literals)) (one-side xs (member p.literals i) b.meets);
      is = sym (kept-is i xs);
    };
    back = λ xs d h. record {
      whole = h.binds;
      meets = side-one xs (member p.literals i) (subst (OneSide xs) (member-is xs i p.literals) h.equal);
    };
    same = λ xs d h. h.is ∙ kept-is i xs;
  }
