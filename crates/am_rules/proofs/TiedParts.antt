-- Paramodulation in this crate takes and makes what it does in the calculus.
use Rattle.std.proofs.Common.{◌≡◌, ◌∙◌, ◌==◌, ◌-◌, ◌++◌, ℕ, zero, suc, Bool, true, false, refl, sym, ap, subst, arith, List, [], ◌∷◌, map, set, slice_get, Option, Some, None, option_map, option_and_then, is_some, if◌then◌else◌}
use Rattle.std.proofs.lemmas.Bool.Decides.{nat_tests}
use Rattle.am_term.specs.declared.id.SortId.{SortId}
use Rattle.am_term.specs.declared.signature.Signature.{Signature}
use Rattle.am_term.specs.declared.term.Term.{Term}
use Rattle.am_term.specs.declared.term.Term.TheVariants.{Var, In}
use Rattle.am_term.specs.declared.term.Atom.{Atom}
use Rattle.am_term.specs.declared.term.Atom.TheVariants.{Rel, Eq}
use Rattle.am_term.specs.declared.term.Literal.{Literal}
use Rattle.am_term.specs.Induct.{term_cases}
use Rattle.am_term.specs.Instance.{instance, instances, instance_atom, instance_literal, instance-App}
use Rattle.am_term.specs.Place.{member, with_member, args_of, place, replaced, args_of-Var, args_of-In, args_of-App}
use Rattle.am_term.specs.Parts.{without, parts_of, place_in, with_part, with_atom, replaced_literal}
use Rattle.am_term.proofs.Alike.{same_term-sound, same_term-refl}
use Rattle.am_term.proofs.Tests.{and_right}
use Rattle.am_clause.specs.declared.clause.Clause.{Clause}
use Rattle.am_clause.specs.declared.row.Side.{Side}
use Rattle.am_clause.specs.declared.row.Side.TheVariants.{Left, Right}
use Rattle.am_clause.specs.Merge.{merged}
use Rattle.am_clause.specs.Bound.{instance_answer}
use Rattle.am_clause.specs.Rules.{para, side_of, side_at, part_at, turned, are_one, has_place, with_other, shared}
use Rattle.am_rules.specs.Parts.{map_literal}
use Rattle.am_rules.specs.Replacing.{other_of, with_term, with_term_if, put_part, changed}
use Rattle.am_rules.specs.Paramodulation.{TermsMeet, side_in, other_in, part_in, ParaMeets, replaced_literals, paramodulant}
use Rattle.am_rules.proofs.Standing.{never}
use Rattle.am_rules.proofs.Lifts.{literal, clause}
use Rattle.am_rules.proofs.Replacings.{member-mapped}
use Rattle.am_rules.proofs.Answering.{IsTiedTwo}
use Rattle.am_rules.proofs.Tied.{literals-are, rest-is, member-is, answers-one, one-answers, shared-is}

-- ---- parts of instances

none-there : {A B : Type 0} (ts : List B) (k : ℕ) (x : B) → ts ≡ [] → member ts k ≡ Some x → A
none-there [] zero x e m = absurd cc
none-there [] (suc k) x e m = absurd cc
none-there (t ∷ ts) k x e m = absurd cc

abbrev Place : List ℕ → Option Literal → Type 0
Place path o = has_place path o ≡ true

abbrev Found : List ℕ → Atom → Type 0
Found path a = is_some (place_in path a) ≡ true

module _ (xs : List Term) where
  args-instance : (t : Term) (k : ℕ) (u : Term) → member (args_of t) k ≡ Some u → member (args_of (instance xs t)) k ≡ Some (instance xs u)
  args-instance = term_cases (λ t. (k : ℕ) (u : Term) → member (args_of t) k ≡ Some u → member (args_of (instance xs t)) k ≡ Some (instance xs u))
      (λ n s k u e. none-there (args_of (Var n s)) k u (args_of-Var n s) e)
      (λ j k u e. none-there (args_of (In j)) k u (args_of-In j) e)
      (λ f ts k u e. ap (λ us. member us k) (ap args_of (instance-App xs f ts) ∙ args_of-App f (instances xs ts))
      ∙ (member-mapped (instance xs) ts k ∙ ap (option_map (instance xs)) (ap (λ us. member us k) (sym (args_of-App f ts)) ∙ e)))

  place-instance : (path : List ℕ) (t u : Term) → place path t ≡ Some u → place path (instance xs t) ≡ Some (instance xs u)
  place-instance [] t u e = let is : t ≡ u = cc in ap (λ x. Some (instance xs x)) is
  place-instance (k ∷ path) t u e = at (member (args_of t) k) refl e (place-instance path)
    where
      at : (o : Option Term) → member (args_of t) k ≡ o → option_and_then (place path) o ≡ Some u → ((x y : Term) → place path x ≡ Some y → place path (instance xs x) ≡ Some (instance xs y))
          → option_and_then (place path) (member (args_of (instance xs t)) k) ≡ Some (instance xs u)
      at None m d g = absurd cc
      at (Some x) m d g = ap (option_and_then (place path)) (args-instance t k x m) ∙ g x u d

  parts-instance : (a : Atom) → parts_of (instance_atom xs a) ≡ map (instance xs) (parts_of a)
  parts-instance (Rel r args) = refl
  parts-instance (Eq l r) = refl

  part-instance : (path : List ℕ) (a : Atom) (u : Term) → place_in path a ≡ Some u → place_in path (instance_atom xs a) ≡ Some (instance xs u)
  part-instance [] a u e = absurd cc
  part-instance (k ∷ path) a u e = at (member (parts_of a) k) refl e
    where
      at : (o : Option Term) → member (parts_of a) k ≡ o → option_and_then (place path) o ≡ Some u → option_and_then (place path) (member (parts_of (instance_atom xs a)) k) ≡ Some (instance xs u)
      at None m d = absurd cc
      at (Some x) m d = ap (option_and_then (place path)) (ap (λ us. member us k) (parts-instance a) ∙ (member-mapped (instance xs) (parts_of a) k ∙ ap (option_map (instance xs)) m)) ∙ place-instance path x u d

  -- the part of an instance, where there is one
  found-instance : (path : List ℕ) (a : Atom) → Found path a → place_in path (instance_atom xs a) ≡ option_map (instance xs) (place_in path a)
  found-instance path a h = by (place_in path a) refl h
    where
      by : (o : Option Term) → place_in path a ≡ o → is_some o ≡ true → place_in path (instance_atom xs a) ≡ option_map (instance xs) o
      by None e h = never h
      by (Some u) e h = part-instance path a u e

  part-at-instance : (path : List ℕ) (o : Option Literal) → Place path o → part_at path (option_map (instance_literal xs) o) ≡ option_map (instance xs) (part_at path o)
  part-at-instance path None h = never h
  part-at-instance path (Some l) h = found-instance path l.atom h

  side-of-instance : (side : Side) (a : Atom) → side_of side (instance_atom xs a) ≡ option_map (instance xs) (side_of side a)
  side-of-instance Left (Rel r args) = refl
  side-of-instance Right (Rel r args) = refl
  side-of-instance Left (Eq l r) = refl
  side-of-instance Right (Eq l r) = refl

  side-at-instance : (side : Side) (o : Option Literal) → side_at side (option_map (instance_literal xs) o) ≡ option_map (instance xs) (side_at side o)
  side-at-instance side None = refl
  side-at-instance side (Some l) = side-of-instance side l.atom

abbrev atom_in : Option Literal → Option Atom
atom_in o = option_map (λ (l : Literal). l.atom) o

pub side-is : (side : Side) (o : Option Literal) → option_and_then (side_of side) (atom_in o) ≡ side_at side o
side-is side None = refl
side-is side (Some l) = refl

other-of-is : (side : Side) (a : Atom) → other_of side a ≡ side_of (turned side) a
other-of-is Left (Rel r args) = refl
other-of-is Right (Rel r args) = refl
other-of-is Left (Eq l r) = refl
other-of-is Right (Eq l r) = refl

other-is : (side : Side) (o : Option Literal) → option_and_then (other_of side) (atom_in o) ≡ side_at (turned side) o
other-is side None = refl
other-is side (Some l) = other-of-is side l.atom

pub part-is : (path : List ℕ) (o : Option Literal) → option_and_then (place_in path) (atom_in o) ≡ part_at path o
part-is path None = refl
part-is path (Some l) = refl

-- ---- what becomes equal

meet-there : (xs ys : List Term) (o u : Option Term) → TermsMeet (instance xs) (instance ys) o u → are_one (option_map (instance xs) o) (option_map (instance ys) u) ≡ true
meet-there xs ys None u h = absurd h
meet-there xs ys (Some t) None h = absurd h
meet-there xs ys (Some t) (Some u) h = subst (λ x. are_one (Some (instance xs t)) (Some x) ≡ true) h (same_term-refl (instance xs t))

meet-back : (xs ys : List Term) (o u : Option Term) → are_one (option_map (instance xs) o) (option_map (instance ys) u) ≡ true → TermsMeet (instance xs) (instance ys) o u
meet-back xs ys None u h = never h
meet-back xs ys (Some t) None h = never h
meet-back xs ys (Some t) (Some u) h = same_term-sound (instance xs t) (instance ys u) h

-- ---- replacing

with-term-is : (a : Atom) (k : ℕ) (x t : Term) → member (parts_of a) k ≡ Some x → with_term a k t ≡ with_part a k t
with-term-is (Rel r args) k x t e = refl
with-term-is (Eq l r) zero x t e = absurd cc
with-term-is (Eq l r) (suc zero) x t e = refl
with-term-is (Eq l r) (suc (suc k)) x t e = ap (λ (b : Bool). if b then Eq t r else Eq l t) (let f : (suc (suc k) == 1) ≡ false = grind (arith, nat_tests) in f)

put-is : (new : Term) (path : List ℕ) (l : Literal) → put_part (Some new) path l ≡ replaced_literal new path l
put-is new [] l = refl
put-is new (k ∷ path) l = at (member (parts_of l.atom) k) refl
  where
    at : (o : Option Term) → member (parts_of l.atom) k ≡ o → literal l.positive (with_term_if l.atom k (option_and_then (replaced new path) o)) ≡ with_atom l (option_map (with_part l.atom k) (option_and_then (replaced new path) o))
    at None m = refl
    at (Some x) m = there (replaced new path x)
      where
        there : (u : Option Term) → literal l.positive (with_term_if l.atom k u) ≡ with_atom l (option_map (with_part l.atom k) u)
        there None = refl
        there (Some t) = ap (literal l.positive) (with-term-is l.atom k x t m)

module _ (f : Literal → Literal) where
  changed-zero : (ls : List Literal) → changed 0 f ls ≡ ls
  changed-zero [] = refl
  changed-zero (l ∷ ls) = ap (λ ms. l ∷ ms) (changed-zero ls)

  later : (i : ℕ) (l : Literal) (ls : List Literal) → changed (suc (suc i)) f (l ∷ ls) ≡ l ∷ changed (suc i) f ls
  later i l ls = ap (λ (b : Bool). if b then f l ∷ ls else l ∷ changed (suc (suc i) - 1) f ls) (let e : (suc (suc i) == 1) ≡ false = grind (arith, nat_tests) in e)
      ∙ ap (λ k. l ∷ changed k f ls) (let e : suc (suc i) - 1 ≡ suc i = omega arith in e)

  changed-at : (i : ℕ) (ls : List Literal) (l : Literal) → slice_get ls i ≡ Some l → changed (suc i) f ls ≡ set ls i (f l)
  changed-at i [] l e = absurd cc
  changed-at zero (m ∷ ls) l e = let is : m ≡ l = cc in ap (λ x. f x ∷ ls) is
  changed-at (suc i) (m ∷ ls) l e = later i m ls ∙ ap (λ ms. m ∷ ms) (changed-at i ls l e)

  changed-past : (i : ℕ) (ls : List Literal) → slice_get ls i ≡ None → changed (suc i) f ls ≡ ls
  changed-past i [] e = refl
  changed-past zero (m ∷ ls) e = absurd cc
  changed-past (suc i) (m ∷ ls) e = later i m ls ∙ ap (λ ms. m ∷ ms) (changed-past i ls e)

  changed-is : (i : ℕ) (ls : List Literal) (l : Literal) → member ls i ≡ Some l → changed i f ls ≡ with_member ls i (f l)
  changed-is zero ls l e = absurd cc
  changed-is (suc i) ls l e = changed-at i ls l e

  changed-none : (i : ℕ) (ls : List Literal) → member ls i ≡ None → changed i f ls ≡ ls
  changed-none zero ls e = changed-zero ls
  changed-none (suc i) ls e = changed-past i ls e

  changed-kept : ((l : Literal) → f l ≡ l) → (i : ℕ) (ls : List Literal) → changed i f ls ≡ ls
  changed-kept h i [] = refl
  changed-kept h i (l ∷ ls) = by (i == 1) (changed-kept h (i - 1) ls)
    where
      by : (b : Bool) → changed (i - 1) f ls ≡ ls → (if b then f l ∷ ls else l ∷ changed (i - 1) f ls) ≡ l ∷ ls
      by true e = ap (λ m. m ∷ ls) (h l)
      by false e = ap (λ ms. l ∷ ms) e

other-put : (new : Option Term) (path : List ℕ) (i : ℕ) (ls : List Literal) → with_other new path (member ls i) ls i ≡ changed i (put_part new path) ls
other-put None path i ls = sym (changed-kept (put_part None path) (λ l. refl) i ls)
other-put (Some new) path i ls = by (member ls i) refl
  where
    by : (o : Option Literal) → member ls i ≡ o → with_other (Some new) path o ls i ≡ changed i (put_part (Some new) path) ls
    by None e = sym (changed-none (put_part (Some new) path) i ls e)
    by (Some l) e = ap (with_member ls i) (sym (put-is new path l)) ∙ sym (changed-is (put_part (Some new) path) i ls l e)

-- ---- the rule

module _ (sig : Signature) (ins : List SortId) (p : Clause) (j : ℕ) (side : Side) (q : Clause) (i : ℕ) (path : List ℕ) where
  module _ (xs ys : List Term) where
    abbrev ps : List Literal
    ps = map (instance_literal xs) p.literals

    abbrev qs : List Literal
    qs = map (instance_literal ys) q.literals

    pub side-there : side_at side (member ps j) ≡ option_map (instance xs) (side_in p j side)
    side-there = ap (side_at side) (member-is xs j p.literals) ∙ (side-at-instance xs side (member p.literals j) ∙ ap (option_map (instance xs)) (sym (side-is side (member p.literals j))))

    other-there : side_at (turned side) (member ps j) ≡ option_map (instance xs) (other_in p j side)
    other-there = ap (side_at (turned side)) (member-is xs j p.literals) ∙ (side-at-instance xs (turned side) (member p.literals j) ∙ ap (option_map (instance xs)) (sym (other-is side (member p.literals j))))

    part-there : Place path (member q.literals i) → part_at path (member qs i) ≡ option_map (instance ys) (part_in q i path)
    part-there h = ap (part_at path) (member-is ys i q.literals) ∙ (part-at-instance ys path (member q.literals i) h ∙ ap (option_map (instance ys)) (sym (part-is path (member q.literals i))))

    are-one : Place path (member q.literals i) → are_one (side_at side (member ps j)) (part_at path (member qs i)) ≡ are_one (option_map (instance xs) (side_in p j side)) (option_map (instance ys) (part_in q i path))
    are-one h = ap (λ o. are_one o (part_at path (member qs i))) side-there ∙ ap (are_one (option_map (instance xs) (side_in p j side))) (part-there h)

    abbrev answer : Option (List Term)
    answer = shared (instance_answer xs p.answer) (instance_answer ys q.answer)

    abbrev new : Option Term
    new = option_map (instance xs) (other_in p j side)

    pub paramodulant-is : record { literals = merged (with_other (side_at (turned side) (member ps j)) path (member qs i) qs i ++ without ps j); answer = answer } ≡ paramodulant p j side q i path xs ys
    paramodulant-is =
        ap (λ o. clause (merged (with_other o path (member qs i) qs i ++ without ps j)) answer) other-there
        ∙ (ap (λ ls. clause (merged (ls ++ without ps j)) answer) (other-put new path i qs)
        ∙ (ap (λ ls. clause (merged (changed i (put_part new path) ls ++ without ps j)) answer) (literals-are ys q.literals)
        ∙ (ap (λ ls. clause (merged (changed i (put_part new path) (map (map_literal (instance ys)) q.literals) ++ ls)) answer) (rest-is xs j p.literals)
        ∙ ap (clause (merged (replaced_literals p j side q i path xs ys))) (shared-is xs ys p.answer q.answer))))

  pub para-tied : IsTiedTwo sig ins (para j side i path) p q (ParaMeets p j side q i path) (paramodulant p j side q i path)
  para-tied = record {
    there = λ xs ys suits b. record {
      suits = suits;
      binds = b.left;
      binds_other = b.right;
      equal = are-one xs ys (and_right _ (has_place path (member q.literals i)) suits) ∙ meet-there xs ys (side_in p j side) (part_in q i path) b.meets.terms;
      answers = answers-one xs ys p.answer q.answer b.meets.answers;
      is = sym (paramodulant-is xs ys);
    };
    back = λ xs ys d h. record {
      left = h.binds;
      right = h.binds_other;
      meets = record {
        terms = meet-back xs ys (side_in p j side) (part_in q i path) (sym (are-one xs ys (and_right _ (has_place path (member q.literals i)) h.suits)) ∙ h.equal);
        answers = one-answers xs ys p.answer q.answer h.answers;
      };
    };
    same = λ xs ys d h. h.is ∙ paramodulant-is xs ys;
  }
