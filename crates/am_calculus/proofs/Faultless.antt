-- No fault exactly where the row is a step.
use Rattle.std.proofs.Common.{◌≡◌, ◌∙◌, ◌==◌, ◌&&◌, ℕ, Bool, true, false, refl, sym, ap, subst, arith, if◌then◌else◌, List, [], ◌∷◌, Option, Some, None, is_some, IsTrue}
use Rattle.std.proofs.lemmas.Bool.Decides.{nat_tests}
use Rattle.am_term.specs.declared.id.SortId.{SortId}
use Rattle.am_term.specs.declared.signature.Signature.{Signature}
use Rattle.am_term.specs.declared.term.Term.{Term}
use Rattle.am_term.specs.declared.term.Literal.{Literal}
use Rattle.am_term.specs.Same.{same_literal}
use Rattle.am_term.proofs.Alike.{same_terms-refl, same_terms-sound, same_literal-refl, same_literal-sound}
use Rattle.am_term.proofs.Tests.{and_left, and_right, and_both}
use Rattle.am_clause.specs.declared.clause.Clause.{Clause}
use Rattle.am_clause.specs.declared.row.Rule.{Rule}
use Rattle.am_clause.specs.declared.row.Rule.TheVariants.{Axiom, Goal, Given, Factor, Reflex, Resolve, Para, Rewrite, Close}
use Rattle.am_clause.specs.declared.row.Row.{Row}
use Rattle.am_clause.specs.Walks.{walk}
use Rattle.am_clause.proofs.Walked.{walk-numbered, numbered-walk}
use Rattle.am_calculus.specs.declared.fault.StepFault.TheVariants.{BadPlace, BadBindings, NotEqual, AnswersDiffer, WrongConclusion}
use Rattle.am_clause.specs.Bound.{bound, without_repeats}
use Rattle.am_clause.specs.Numbered.{IsNumberedRow, in_made}
use Rattle.am_clause.specs.SortedClause.{are_bindings, is_sorted_clause}
use Rattle.am_clause.specs.Rules.{OneParent, TwoParents, factor, reflex, close, resolve, para, rewrite}
use Rattle.am_clause.specs.Steps.{Sources, clause_at, FromOne, FromTwo, IsStart, Follows, IsStep}
use Rattle.am_clause.specs.SameClause.{same_literals, same_answer, same_clause}
use Rattle.am_calculus.specs.Faults.{is_numbered_row, sole, pair, conclusion_fault, bound_fault, fault_of_one, bound_fault_of_two, fault_of_two, start_bound, fault_of_start, fault_by, first_fault}

number-same : (n : ℕ) → (n == n) ≡ true
number-same n = grind (arith, nat_tests)

number-is : (n m : ℕ) → (n == m) ≡ true → n ≡ m
number-is n m e = grind (arith, nat_tests)

-- ---- the tests of clauses

same_literals-refl : (ls : List Literal) → same_literals ls ls ≡ true
same_literals-refl [] = refl
same_literals-refl (l ∷ ls) = and_both (same_literal l l) (same_literals ls ls) (same_literal-refl l) (same_literals-refl ls)

same_literals-sound : (ls ms : List Literal) → same_literals ls ms ≡ true → ls ≡ ms
same_literals-sound [] [] e = refl
same_literals-sound [] (m ∷ ms) e = absurd cc
same_literals-sound (l ∷ ls) [] e = absurd cc
same_literals-sound (l ∷ ls) (m ∷ ms) e =
    ap (λ x. x ∷ ls) (same_literal-sound l m (and_left (same_literal l m) (same_literals ls ms) e))
    ∙ ap (λ xs. m ∷ xs) (same_literals-sound ls ms (and_right (same_literal l m) (same_literals ls ms) e))

same_answer-refl : (o : Option (List Term)) → same_answer o o ≡ true
same_answer-refl None = refl
same_answer-refl (Some ts) = same_terms-refl ts

same_answer-sound : (o u : Option (List Term)) → same_answer o u ≡ true → o ≡ u
same_answer-sound None None e = refl
same_answer-sound None (Some us) e = absurd cc
same_answer-sound (Some ts) None e = absurd cc
same_answer-sound (Some ts) (Some us) e = ap Some (same_terms-sound ts us e)

same_clause-refl : (c : Clause) → same_clause c c ≡ true
same_clause-refl c = and_both (same_literals c.literals c.literals) (same_answer c.answer c.answer) (same_literals-refl c.literals) (same_answer-refl c.answer)

abbrev with_parts : List Literal → Option (List Term) → Clause
with_parts ls o = record { literals = ls; answer = o }

pub same_clause-sound : (c d : Clause) → same_clause c d ≡ true → c ≡ d
same_clause-sound c d e =
    ap (λ ls. with_parts ls c.answer) (same_literals-sound c.literals d.literals (and_left (same_literals c.literals d.literals) (same_answer c.answer d.answer) e))
    ∙ ap (with_parts d.literals) (same_answer-sound c.answer d.answer (and_right (same_literals c.literals d.literals) (same_answer c.answer d.answer) e))

-- ---- the test of numbers

numbered-is : (row : Row) → is_numbered_row row ≡ true → IsNumberedRow row
numbered-is row e = by (walk [] (in_made row.with row.clause)) refl e
  where
    by : (o : Option (List SortId)) → walk [] (in_made row.with row.clause) ≡ o → is_some o ≡ true → IsNumberedRow row
    by None at is = absurd cc
    by (Some sorts) at is = (walk-numbered (in_made row.with row.clause) sorts at).0

is-numbered : (row : Row) → IsNumberedRow row → is_numbered_row row ≡ true
is-numbered row h = ap is_some (numbered-walk (in_made row.with row.clause) h)

-- ---- chains

-- a test that passed, where nothing was found
passed : {A : Type 0} (b : Bool) (o : Option A) (x : A) → (if b then o else Some x) ≡ None → b ≡ true
passed true o x e = refl
passed false o x e = absurd cc

after : {A : Type 0} (b : Bool) (o : Option A) (x : A) → (if b then o else Some x) ≡ None → o ≡ None
after true o x e = e
after false o x e = absurd cc

passes : {A : Type 0} (b : Bool) (o : Option A) (x : A) → b ≡ true → o ≡ None → (if b then o else Some x) ≡ None
passes true o x e f = f
passes false o x e f = absurd cc

sole-is : (with : List (List Term)) (first : List Term) → sole with ≡ Some first → with ≡ first ∷ []
sole-is [] first e = absurd cc
sole-is (x ∷ []) first e = let one : x ≡ first = cc in ap (λ y. y ∷ []) one
sole-is (x ∷ y ∷ rest) first e = absurd cc

pair-is : (with : List (List Term)) (both : List Term × List Term) → pair with ≡ Some both → with ≡ both.0 ∷ both.1 ∷ []
pair-is [] both e = absurd cc
pair-is (x ∷ []) both e = absurd cc
pair-is (x ∷ y ∷ []) both e = sym (by both (x, y) e)
  where
    by : (b c : List Term × List Term) → Some c ≡ Some b → (b.0 ∷ b.1 ∷ []) ≡ (c.0 ∷ c.1 ∷ [])
    by b c e = let one : c ≡ b = cc in ap (λ (d : List Term × List Term). d.0 ∷ d.1 ∷ []) (sym one)
pair-is (x ∷ y ∷ z ∷ rest) both e = absurd cc

-- ---- no fault: a step

module _ (sig : Signature) (ins : List SortId) where
  conclusion : (d : Clause) (row : Row) → conclusion_fault d row ≡ None → (row.clause ≡ d) × IsNumberedRow row
  conclusion d row e =
      let both : (same_clause d row.clause && is_numbered_row row) ≡ true = passed _ _ WrongConclusion e in
      (sym (same_clause-sound d row.clause (and_left (same_clause d row.clause) (is_numbered_row row) both)), numbered-is row (and_right (same_clause d row.clause) (is_numbered_row row) both))

  concluded : (d : Clause) (row : Row) → row.clause ≡ d → IsNumberedRow row → conclusion_fault d row ≡ None
  concluded d row e n = passes _ _ WrongConclusion (and_both (same_clause d row.clause) (is_numbered_row row) (subst (λ c. same_clause c row.clause ≡ true) e (same_clause-refl row.clause)) (is-numbered row n)) refl

  one-faultless : (rows : List Row) (rule : OneParent) (m : ℕ) (row : Row) (o : Option Clause) → clause_at rows m ≡ o → fault_of_one sig ins rule o row ≡ None → FromOne sig ins rows rule m row.with row.clause × IsNumberedRow row
  one-faultless rows rule m row None at e = absurd cc
  one-faultless rows rule m row (Some p) at e = by_bound (sole row.with) refl (after (rule.suits p) _ BadPlace e)
    where
      by_bound : (b : Option (List Term)) → sole row.with ≡ b → bound_fault sig ins rule p b row ≡ None → FromOne sig ins rows rule m row.with row.clause × IsNumberedRow row
      by_bound None is f = absurd cc
      by_bound (Some first) is f =
          let f1 : (if rule.equal (bound first p) then conclusion_fault (without_repeats (rule.made (bound first p))) row else Some NotEqual) ≡ None = after (are_bindings sig ins first p) _ BadBindings f in
          let f2 : conclusion_fault (without_repeats (rule.made (bound first p))) row ≡ None = after (rule.equal (bound first p)) _ NotEqual f1 in
          let end = conclusion (without_repeats (rule.made (bound first p))) row f2 in (
            record {
              p = p;
              first = first;
              there = at;
              bound_by = sole-is row.with first is;
              made = record { suits = passed (rule.suits p) _ BadPlace e; binds = passed (are_bindings sig ins first p) _ BadBindings f; equal = passed (rule.equal (bound first p)) _ NotEqual f1; is = end.0 };
            },
            end.1,
          )

  one-step : (rows : List Row) (rule : OneParent) (m : ℕ) (row : Row) → FromOne sig ins rows rule m row.with row.clause → IsNumberedRow row → fault_of_one sig ins rule (clause_at rows m) row ≡ None
  one-step rows rule m row f n =
      ap (λ o. fault_of_one sig ins rule o row) f.there
      ∙ passes (rule.suits f.p) _ BadPlace f.made.suits
      (ap (λ with. bound_fault sig ins rule f.p (sole with) row) f.bound_by
      ∙ passes (are_bindings sig ins f.first f.p) _ BadBindings f.made.binds
      (passes (rule.equal (bound f.first f.p)) _ NotEqual f.made.equal
      (concluded (without_repeats (rule.made (bound f.first f.p))) row f.made.is n)))

  two-faultless : (rows : List Row) (rule : TwoParents) (m n : ℕ) (row : Row) (o u : Option Clause) → clause_at rows m ≡ o → clause_at rows n ≡ u → fault_of_two sig ins rule o u row ≡ None → FromTwo sig ins rows rule m n row.with row.clause × IsNumberedRow row
  two-faultless rows rule m n row None u at there e = absurd cc
  two-faultless rows rule m n row (Some p) None at there e = absurd cc
  two-faultless rows rule m n row (Some p) (Some q) at there e = by_bound (pair row.with) refl (after (rule.suits p q) _ BadPlace e)
    where
      by_bound : (b : Option (List Term × List Term)) → pair row.with ≡ b → bound_fault_of_two sig ins rule p q b row ≡ None → FromTwo sig ins rows rule m n row.with row.clause × IsNumberedRow row
      by_bound None is f = absurd cc
      by_bound (Some both) is f =
          let binds : (are_bindings sig ins both.0 p && are_bindings sig ins both.1 q) ≡ true = passed (are_bindings sig ins both.0 p && are_bindings sig ins both.1 q) _ BadBindings f in
          let f1 = after (are_bindings sig ins both.0 p && are_bindings sig ins both.1 q) _ BadBindings f in
          let f2 = after (rule.equal (bound both.0 p) (bound both.1 q)) _ NotEqual f1 in
          let f3 = after (rule.answers (bound both.0 p) (bound both.1 q)) _ AnswersDiffer f2 in
          let end = conclusion (without_repeats (rule.made (bound both.0 p) (bound both.1 q))) row f3 in (
            record {
              p = p;
              q = q;
              first = both.0;
              second = both.1;
              there = at;
              there_too = there;
              bound_by = pair-is row.with both is;
              made = record {
                suits = passed (rule.suits p q) _ BadPlace e;
                binds = and_left (are_bindings sig ins both.0 p) (are_bindings sig ins both.1 q) binds;
                binds_other = and_right (are_bindings sig ins both.0 p) (are_bindings sig ins both.1 q) binds;
                equal = passed (rule.equal (bound both.0 p) (bound both.1 q)) _ NotEqual f1;
                answers = passed (rule.answers (bound both.0 p) (bound both.1 q)) _ AnswersDiffer f2;
                is = end.0;
              };
            },
            end.1,
          )

  two-step : (rows : List Row) (rule : TwoParents) (m n : ℕ) (row : Row) → FromTwo sig ins rows rule m n row.with row.clause → IsNumberedRow row → fault_of_two sig ins rule (clause_at rows m) (clause_at rows n) row ≡ None
  two-step rows rule m n row f h =
      ap (λ o. fault_of_two sig ins rule o (clause_at rows n) row) f.there
      ∙ ap (λ o. fault_of_two sig ins rule (Some f.p) o row) f.there_too
      ∙ passes (rule.suits f.p f.q) _ BadPlace f.made.suits
      (ap (λ with. bound_fault_of_two sig ins rule f.p f.q (pair with) row) f.bound_by
      ∙ passes (are_bindings sig ins f.first f.p && are_bindings sig ins f.second f.q) _ BadBindings (and_both (are_bindings sig ins f.first f.p) (are_bindings sig ins f.second f.q) f.made.binds f.made.binds_other)
      (passes (rule.equal (bound f.first f.p) (bound f.second f.q)) _ NotEqual f.made.equal
      (passes (rule.answers (bound f.first f.p) (bound f.second f.q)) _ AnswersDiffer f.made.answers
      (concluded (without_repeats (rule.made (bound f.first f.p) (bound f.second f.q))) row f.made.is h))))

  start-faultless : (o : Option Clause) (row : Row) → fault_of_start o row ≡ None → IsStart o row.with row.clause × IsNumberedRow row
  start-faultless None row e = absurd cc
  start-faultless (Some d) row e = by row.with refl e
    where
      by : (with : List (List Term)) → row.with ≡ with → start_bound with d row ≡ None → IsStart (Some d) row.with row.clause × IsNumberedRow row
      by [] is f = let end = conclusion d row f in (record { is = ap Some (sym end.0); unbound = is }, end.1)
      by (first ∷ rest) is f = absurd cc

  start-step : (o : Option Clause) (row : Row) → IsStart o row.with row.clause → IsNumberedRow row → fault_of_start o row ≡ None
  start-step o row f n =
      ap (λ u. fault_of_start u row) f.is
      ∙ ap (λ with. start_bound with row.clause row) f.unbound
      ∙ concluded row.clause row refl n

  module _ (sources : Sources) (rows : List Row) (row : Row) where
    faultless-by : (rule : Rule) → fault_by sig ins sources rows rule row ≡ None → Follows sig ins sources rows rule row.with row.clause × IsNumberedRow row
    faultless-by (Axiom k c) e = start-faultless (sources.axioms k c) row e
    faultless-by Goal e = start-faultless (Some sources.goal) row e
    faultless-by (Given k) e = start-faultless (sources.givens k) row e
    faultless-by (Factor m i j) e = one-faultless rows (factor i j) m row (clause_at rows m) refl e
    faultless-by (Reflex m i) e = one-faultless rows (reflex i) m row (clause_at rows m) refl e
    faultless-by (Resolve m i n j) e = two-faultless rows (resolve i j) m n row (clause_at rows m) (clause_at rows n) refl refl e
    faultless-by (Para m j side n i path) e = two-faultless rows (para j side i path) m n row (clause_at rows m) (clause_at rows n) refl refl e
    faultless-by (Rewrite m j side n i path) e = two-faultless rows (rewrite j side i path) m n row (clause_at rows m) (clause_at rows n) refl refl e
    faultless-by (Close m) e = one-faultless rows close m row (clause_at rows m) refl e

    step-by : (rule : Rule) → Follows sig ins sources rows rule row.with row.clause → IsNumberedRow row → fault_by sig ins sources rows rule row ≡ None
    step-by (Axiom k c) f h = start-step (sources.axioms k c) row f h
    step-by Goal f h = start-step (Some sources.goal) row f h
    step-by (Given k) f h = start-step (sources.givens k) row f h
    step-by (Factor m i j) f h = one-step rows (factor i j) m row f h
    step-by (Reflex m i) f h = one-step rows (reflex i) m row f h
    step-by (Resolve m i n j) f h = two-step rows (resolve i j) m n row f h
    step-by (Para m j side n i path) f h = two-step rows (para j side i path) m n row f h
    step-by (Rewrite m j side n i path) f h = two-step rows (rewrite j side i path) m n row f h
    step-by (Close m) f h = one-step rows close m row f h

    pub faultless : IsTrue (is_sorted_clause sig ins row.clause) → first_fault sig ins sources rows row ≡ None → IsStep sig ins sources rows row
    faultless s e = let h = faultless-by row.rule e in record { follows = h.0; sorted = s; numbered = h.1 }

    pub step-faultless : IsStep sig ins sources rows row → first_fault sig ins sources rows row ≡ None
    step-faultless s = step-by row.rule s.follows s.numbered
