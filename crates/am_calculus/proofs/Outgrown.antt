-- Sizes of instances that tell a wrong conclusion: what is larger there than the row's clause and what is taken away
-- together leaves something in the conclusion that is larger than the row's clause.
use Rattle.std.proofs.Common.{◌≡◌, ◌∙◌, ◌||◌, ◌++◌, inl, inr, ◌+◌, ◌<◌, ◌≤◌, ℕ, Bool, true, false, refl, sym, ap, subst, arith, List, [], ◌∷◌, Option, Some, None, min, nat_lt, if◌then◌else◌}
use Rattle.std.specs.List.{list_any, sum_by}
use Rattle.std.proofs.lemmas.Bool.Decides.{nat_tests}
use Rattle.std.proofs.lemmas.List.Folds.{list_any-append}
use Rattle.std.proofs.lemmas.List.Sums.{sum_by-cons}
use Rattle.am_term.specs.Parts.{without, place_in, replaced_literal}
use Rattle.am_term.specs.Place.{member, with_member}
use Rattle.am_term.specs.Same.{same_literal}
use Rattle.am_term.specs.Weight.{nodes}
use Rattle.am_term.specs.declared.term.Atom.{Atom}
use Rattle.am_term.specs.declared.term.Atom.TheVariants.{Rel, Eq}
use Rattle.am_term.specs.declared.term.Literal.{Literal}
use Rattle.am_term.specs.declared.term.Term.{Term}
use Rattle.am_term.proofs.Alike.{same_term-sound, same_terms-sound, same_atom-sound, same_literal-refl, same_literal-sound}
use Rattle.am_term.proofs.Tests.{or_cases, or_left, or_right}
use Rattle.am_clause.specs.Bound.{without_repeats}
use Rattle.am_clause.specs.Rules.{have_one_atom, equates_sides, turned, side_of, side_at, part_at, are_one, go_together, shared, with_other}
use Rattle.am_clause.specs.SameClause.{same_clause}
use Rattle.am_clause.specs.Size.{atom_weight}
use Rattle.am_clause.specs.declared.clause.Clause.{Clause}
use Rattle.am_clause.specs.declared.row.Row.{Row}
use Rattle.am_clause.specs.declared.row.Side.{Side}
use Rattle.am_clause.specs.declared.row.Side.TheVariants.{Left, Right}
use Rattle.am_clause.proofs.Members.{any-distinct}
use Rattle.am_calculus.specs.Faults.{conclusion_fault}
use Rattle.am_calculus.specs.Named.{alone, paired}
use Rattle.am_calculus.specs.Sizes.{answer_nodes, clause_nodes}
use Rattle.am_calculus.specs.Unmade.{any_larger, has_larger, instance_fault, instances_fault, literal_nodes, term_nodes, taken_alone, taken_paired}
use Rattle.am_calculus.specs.declared.fault.StepFault.TheVariants.{NotEqual, AnswersDiffer, WrongConclusion}
use Rattle.am_calculus.specs.declared.named.Alone.{Alone}
use Rattle.am_calculus.specs.declared.named.Alone.TheVariants.{Factor, Reflex, Close}
use Rattle.am_calculus.specs.declared.named.Paired.{Paired}
use Rattle.am_calculus.specs.declared.named.Paired.TheVariants.{Resolve, Para, Rewrite}
use Rattle.am_calculus.proofs.Faultless.{same_clause-sound}
use Rattle.am_calculus.proofs.Lists.{any-without, any-other, any-new}
use Rattle.am_calculus.proofs.PartSizes.{IsPut, put-literal}

-- ---- tests of lists

lt-is : (n m : ℕ) → nat_lt n m ≡ true → n < m
lt-is n m e = grind (arith, nat_tests)

is-lt : (n m : ℕ) → n < m → nat_lt n m ≡ true
is-lt n m h = grind (arith, nat_tests)

module _ {A : Type 0} (test : A → Bool) where
  any-left : (xs ys : List A) → list_any test xs ≡ true → list_any test (xs ++ ys) ≡ true
  any-left xs ys t = list_any-append test xs ys ∙ or_left (list_any test xs) (list_any test ys) t

  any-right : (xs ys : List A) → list_any test ys ≡ true → list_any test (xs ++ ys) ≡ true
  any-right xs ys t = list_any-append test xs ys ∙ or_right (list_any test xs) (list_any test ys) t

-- ---- what is larger than the row's clause isn't in it

abbrev weight : Literal → ℕ
weight l = atom_weight l.atom

abbrev over : ℕ → Literal → Bool
over n l = nat_lt n (weight l)

some-larger : (n : ℕ) (ls : List Literal) → any_larger n ls ≡ true → n < sum_by weight ls
some-larger n [] e = absurd cc
some-larger n (l ∷ ls) e = elim (or_cases (over n l) (any_larger n ls) e) [
  | inl a ↦ let h = lt-is n (weight l) a in omega (arith, h, sum_by-cons weight l ls)
  | inr b ↦ let h = some-larger n ls b in omega (arith, h, sum_by-cons weight l ls)
]

none-larger : (c : Clause) → has_larger (clause_nodes c) c ≡ true → ⊥
none-larger c e = elim (or_cases (any_larger (clause_nodes c) c.literals) (nat_lt (clause_nodes c) (answer_nodes c.answer)) e) [
  | inl a ↦ let h = some-larger (clause_nodes c) c.literals a in omega (arith, h)
  | inr b ↦ let h = lt-is (clause_nodes c) (answer_nodes c.answer) b in omega (arith, h)
]

larger-merged : (n : ℕ) (c : Clause) → has_larger n (without_repeats c) ≡ has_larger n c
larger-merged n c = ap (λ b. b || nat_lt n (answer_nodes c.answer)) (any-distinct same_literal same_literal-sound same_literal-refl (over n) c.literals)

-- a conclusion in which something is larger than the row's clause isn't that clause
wrong : (c : Clause) (row : Row) → has_larger (clause_nodes row.clause) c ≡ true → conclusion_fault (without_repeats c) row ≡ Some WrongConclusion
wrong c row e = by (same_clause (without_repeats c) row.clause) refl
  where
    by : (b : Bool) → same_clause (without_repeats c) row.clause ≡ b → conclusion_fault (without_repeats c) row ≡ Some WrongConclusion
    by true is = absurd (none-larger row.clause (subst (λ d. has_larger (clause_nodes row.clause) d ≡ true) (same_clause-sound (without_repeats c) row.clause is) (larger-merged (clause_nodes row.clause) c ∙ e)))
    by false is = rw is refl

-- ---- what the rules leave

larger-less : (n s : ℕ) (ls : List Literal) → any_larger (n + s) ls ≡ true → any_larger n ls ≡ true
larger-less n s [] e = absurd cc
larger-less n s (l ∷ ls) e = elim (or_cases (over (n + s) l) (any_larger (n + s) ls) e) [
  | inl a ↦ let h = lt-is (n + s) (weight l) a in or_left (over n l) (any_larger n ls) (is-lt n (weight l) (omega (arith, h)))
  | inr b ↦ or_right (over n l) (any_larger n ls) (larger-less n s ls b)
]

-- a literal goes that isn't larger than what is taken away
larger-without : (n s : ℕ) (ls : List Literal) (i : ℕ) (l : Literal) → member ls i ≡ Some l → weight l ≡ s → any_larger (n + s) ls ≡ true → any_larger n (without ls i) ≡ true
larger-without n s ls i l at is e = elim (any-without (over (n + s)) ls i l at e) [
  | inl a ↦ let h = lt-is (n + s) (weight l) a in absurd (omega (arith, h, is))
  | inr b ↦ larger-less n s (without ls i) b
]

larger-answer : (n s : ℕ) (o : Option (List Term)) → nat_lt (n + s) (answer_nodes o) ≡ true → nat_lt n (answer_nodes o) ≡ true
larger-answer n s o e = let h = lt-is (n + s) (answer_nodes o) e in is-lt n (answer_nodes o) (omega (arith, h))

larger-shared : (n s : ℕ) (o u : Option (List Term)) → nat_lt (n + s) (answer_nodes o) ≡ true → nat_lt n (answer_nodes (shared o u)) ≡ true
larger-shared n s None u e = let h = lt-is (n + s) 0 e in absurd (omega (arith, h))
larger-shared n s (Some ts) u e = larger-answer n s (Some ts) e

shared-other : (n s : ℕ) (o u : Option (List Term)) → go_together o u ≡ true → nat_lt (n + s) (answer_nodes u) ≡ true → nat_lt n (answer_nodes (shared o u)) ≡ true
shared-other n s None u g e = larger-answer n s u e
shared-other n s (Some ts) None g e = let h = lt-is (n + s) 0 e in absurd (omega (arith, h))
shared-other n s (Some ts) (Some us) g e = larger-answer n s (Some ts) (ap (λ xs. nat_lt (n + s) (sum_by nodes xs)) (same_terms-sound ts us g) ∙ e)

-- ---- the rules with one parent

left-all : (c : Clause) (n : ℕ) → has_larger (n + 0) c ≡ true → has_larger n c ≡ true
left-all c n e = elim (or_cases (any_larger (n + 0) c.literals) (nat_lt (n + 0) (answer_nodes c.answer)) e) [
  | inl a ↦ or_left (any_larger n c.literals) (nat_lt n (answer_nodes c.answer)) (larger-less n 0 c.literals a)
  | inr b ↦ or_right (any_larger n c.literals) (nat_lt n (answer_nodes c.answer)) (larger-answer n 0 c.answer b)
]

left-alone : (rule : Alone) (c : Clause) (n : ℕ) → (alone rule).equal c ≡ true → has_larger (n + taken_alone rule c) c ≡ true → has_larger n ((alone rule).made c) ≡ true
left-alone (Factor i j) c n q e = left-all c n e
left-alone Close c n q e = left-all c n e
left-alone (Reflex i) c n q e = by (member c.literals i) refl q e
  where
    by : (o : Option Literal) → member c.literals i ≡ o → equates_sides o ≡ true → has_larger (n + literal_nodes o) c ≡ true → has_larger n ((alone (Reflex i)).made c) ≡ true
    by None at q e = absurd cc
    by (Some l) at q e = elim (or_cases (any_larger (n + weight l) c.literals) (nat_lt (n + weight l) (answer_nodes c.answer)) e) [
      | inl a ↦ or_left (any_larger n (without c.literals i)) (nat_lt n (answer_nodes c.answer)) (larger-without n (weight l) c.literals i l at refl a)
      | inr b ↦ or_right (any_larger n (without c.literals i)) (nat_lt n (answer_nodes c.answer)) (larger-answer n (weight l) c.answer b)
    ]

-- by sizes as they are counted, where they are small
pub wrong-alone : (rule : Alone) (c : Clause) (row : Row) (size taken : ℕ) → size ≡ min (clause_nodes row.clause) 16777217 → taken ≡ min (taken_alone rule c) 16777217 → size + taken ≤ 16777216
    → (alone rule).equal c ≡ true → has_larger (size + taken) c ≡ true → instance_fault (alone rule) c row ≡ Some WrongConclusion
wrong-alone rule c row size taken s t l q e =
    let most : size + taken ≡ clause_nodes row.clause + taken_alone rule c = omega (arith, s, t, l) in
    ap (λ b. if b then conclusion_fault (without_repeats ((alone rule).made c)) row else Some NotEqual) q
    ∙ wrong ((alone rule).made c) row (left-alone rule c (clause_nodes row.clause) q (ap (λ n. has_larger n c) (sym most) ∙ e))

-- ---- the rules with two parents

-- one list or the other has something larger, or one of the answers
module _ (n s : ℕ) (c d : Clause) (g : go_together c.answer d.answer ≡ true) (ls : List Literal)
    (first : any_larger (n + s) c.literals ≡ true → any_larger n ls ≡ true) (second : any_larger (n + s) d.literals ≡ true → any_larger n ls ≡ true) where
  abbrev IsLeft : Type 0
  IsLeft = (any_larger n ls || nat_lt n (answer_nodes (shared c.answer d.answer))) ≡ true

  from-list : any_larger n ls ≡ true → IsLeft
  from-list = or_left (any_larger n ls) (nat_lt n (answer_nodes (shared c.answer d.answer)))

  from-answer : nat_lt n (answer_nodes (shared c.answer d.answer)) ≡ true → IsLeft
  from-answer = or_right (any_larger n ls) (nat_lt n (answer_nodes (shared c.answer d.answer)))

  left-both : (has_larger (n + s) c || has_larger (n + s) d) ≡ true → IsLeft
  left-both e = elim (or_cases (has_larger (n + s) c) (has_larger (n + s) d) e) [
    | inl a ↦ elim (or_cases (any_larger (n + s) c.literals) (nat_lt (n + s) (answer_nodes c.answer)) a) [
      | inl x ↦ from-list (first x)
      | inr y ↦ from-answer (larger-shared n s c.answer d.answer y)
    ]
    | inr b ↦ elim (or_cases (any_larger (n + s) d.literals) (nat_lt (n + s) (answer_nodes d.answer)) b) [
      | inl x ↦ from-list (second x)
      | inr y ↦ from-answer (shared-other n s c.answer d.answer g y)
    ]
  ]

-- the other side of an equation, and its size
sides : (side : Side) (a : Atom) (s : Term) → side_of side a ≡ Some s → (t : Term) × (side_of (turned side) a ≡ Some t) × (atom_weight a ≡ nodes s + nodes t)
sides side (Rel r args) s e = absurd cc
sides Left (Eq left right) s e = let is : left ≡ s = cc in (right, refl, ap (λ x. nodes x + nodes right) is)
sides Right (Eq left right) s e = let is : right ≡ s = cc in let w = ap nodes is in (left, refl, omega (arith, w))

-- of what is larger than the side and n together, an equation leaves its other side, which comes into the other literal
module _ (n : ℕ) (ls ms : List Literal) (j i : ℕ) (l m new : Literal) (s t : ℕ) (at : member ls j ≡ Some l) (there : member ms i ≡ Some m)
    (equation : weight l ≡ s + t) (put : IsPut (weight m) s t (weight new)) where
  abbrev made : List Literal
  made = with_member ms i new ++ without ls j

  from-first : any_larger (n + s) ls ≡ true → any_larger n made ≡ true
  from-first e = elim (any-without (over (n + s)) ls j l at e) [
    | inl a ↦ let h = lt-is (n + s) (weight l) a in
        any-left (over n) (with_member ms i new) (without ls j) (any-new (over n) ms i m new there (is-lt n (weight new) (omega (arith, h, equation, put.sum, put.within))))
    | inr b ↦ any-right (over n) (with_member ms i new) (without ls j) (larger-less n s (without ls j) b)
  ]

  from-second : any_larger (n + s) ms ≡ true → any_larger n made ≡ true
  from-second e = elim (any-other (over (n + s)) ms i m new there e) [
    | inl a ↦ let h = lt-is (n + s) (weight m) a in
        any-left (over n) (with_member ms i new) (without ls j) (any-new (over n) ms i m new there (is-lt n (weight new) (omega (arith, h, put.sum))))
    | inr b ↦ any-left (over n) (with_member ms i new) (without ls j) (larger-less n s (with_member ms i new) b)
  ]

left-para : (j : ℕ) (side : Side) (i : ℕ) (path : List ℕ) (c d : Clause) (n : ℕ) → go_together c.answer d.answer ≡ true → (o u : Option Literal) → member c.literals j ≡ o → member d.literals i ≡ u
    → are_one (side_at side o) (part_at path u) ≡ true → (has_larger (n + term_nodes (side_at side o)) c || has_larger (n + term_nodes (side_at side o)) d) ≡ true
    → (any_larger n (with_other (side_at (turned side) o) path u d.literals i ++ without c.literals j) || nat_lt n (answer_nodes (shared c.answer d.answer))) ≡ true
left-para j side i path c d n g None u at there q e = absurd cc
left-para j side i path c d n g (Some l) u at there q e = by (side_of side l.atom) refl u there q e
  where
    by : (s : Option Term) → side_of side l.atom ≡ s → (u : Option Literal) → member d.literals i ≡ u → are_one s (part_at path u) ≡ true → (has_larger (n + term_nodes s) c || has_larger (n + term_nodes s) d) ≡ true
        → (any_larger n (with_other (side_of (turned side) l.atom) path u d.literals i ++ without c.literals j) || nat_lt n (answer_nodes (shared c.answer d.answer))) ≡ true
    by None is u there q e = absurd cc
    by (Some s) is None there q e = absurd cc
    by (Some s) is (Some m) there q e = part (place_in path m.atom) refl q
      where
        part : (o : Option Term) → place_in path m.atom ≡ o → are_one (Some s) o ≡ true → (any_larger n (with_other (side_of (turned side) l.atom) path (Some m) d.literals i ++ without c.literals j) || nat_lt n (answer_nodes (shared c.answer d.answer))) ≡ true
        part None found q = absurd cc
        part (Some p) found q =
            let other = sides side l.atom s is in
            let put = put-literal other.0 p path m found in
            let one : nodes p ≡ nodes s = ap nodes (sym (same_term-sound s p q)) in
            let moved = subst (λ k. IsPut (weight m) k (nodes other.0) (weight (replaced_literal other.0 path m))) one put in
            let new = replaced_literal other.0 path m in
            subst (λ (o : Option Term). (any_larger n (with_other o path (Some m) d.literals i ++ without c.literals j) || nat_lt n (answer_nodes (shared c.answer d.answer))) ≡ true) (sym other.1)
            (left-both n (nodes s) c d g (with_member d.literals i new ++ without c.literals j)
            (from-first n c.literals d.literals j i l m new (nodes s) (nodes other.0) at there other.2 moved)
            (from-second n c.literals d.literals j i l m new (nodes s) (nodes other.0) at there other.2 moved)
            e)

left-resolve : (i j : ℕ) (c d : Clause) (n : ℕ) → go_together c.answer d.answer ≡ true → (o u : Option Literal) → member c.literals i ≡ o → member d.literals j ≡ u
    → have_one_atom o u ≡ true → (has_larger (n + literal_nodes o) c || has_larger (n + literal_nodes o) d) ≡ true
    → (any_larger n (without c.literals i ++ without d.literals j) || nat_lt n (answer_nodes (shared c.answer d.answer))) ≡ true
left-resolve i j c d n g None u at there q e = absurd cc
left-resolve i j c d n g (Some l) None at there q e = absurd cc
left-resolve i j c d n g (Some l) (Some m) at there q e =
    left-both n (weight l) c d g (without c.literals i ++ without d.literals j)
    (λ a. any-left (over n) (without c.literals i) (without d.literals j) (larger-without n (weight l) c.literals i l at refl a))
    (λ b. any-right (over n) (without c.literals i) (without d.literals j) (larger-without n (weight l) d.literals j m there (ap atom_weight (sym (same_atom-sound l.atom m.atom q))) b))
    e

left-paired : (rule : Paired) (c d : Clause) (n : ℕ) → (paired rule).equal c d ≡ true → (paired rule).answers c d ≡ true → (has_larger (n + taken_paired rule c) c || has_larger (n + taken_paired rule c) d) ≡ true → has_larger n ((paired rule).made c d) ≡ true
left-paired (Resolve i j) c d n q g e = left-resolve i j c d n g (member c.literals i) (member d.literals j) refl refl q e
left-paired (Para j side i path) c d n q g e = left-para j side i path.now c d n g (member c.literals j) (member d.literals i) refl refl q e
left-paired (Rewrite j side i path) c d n q g e = left-para j side i path.now c d n g (member c.literals j) (member d.literals i) refl refl q e

pub wrong-paired : (rule : Paired) (c d : Clause) (row : Row) (size taken : ℕ) → size ≡ min (clause_nodes row.clause) 16777217 → taken ≡ min (taken_paired rule c) 16777217 → size + taken ≤ 16777216
    → (paired rule).equal c d ≡ true → (paired rule).answers c d ≡ true → (has_larger (size + taken) c || has_larger (size + taken) d) ≡ true → instances_fault (paired rule) c d row ≡ Some WrongConclusion
wrong-paired rule c d row size taken s t l q g e =
    let most : size + taken ≡ clause_nodes row.clause + taken_paired rule c = omega (arith, s, t, l) in
    ap (λ b. if b then (if (paired rule).answers c d then conclusion_fault (without_repeats ((paired rule).made c d)) row else Some AnswersDiffer) else Some NotEqual) q
    ∙ (ap (λ b. if b then conclusion_fault (without_repeats ((paired rule).made c d)) row else Some AnswersDiffer) g
    ∙ wrong ((paired rule).made c d) row (left-paired rule c d (clause_nodes row.clause) q g (ap (λ n. has_larger n c || has_larger n d) (sym most) ∙ e)))
