-- No term nests deeper than it has nodes, so the terms of a small row nest low.
use Rattle.std.proofs.Common.{◌≡◌, ◌≤◌, ◌+◌, ◌||◌, ◌⊎◌, inl, inr, ℕ, Bool, true, false, max, arith, refl}
use Rattle.std.proofs.Common.{List, [], ◌∷◌, map, sum_by, nat_lt, Option, Some, None}
use Rattle.std.specs.List.{AllByRecursion, list_any}
use Rattle.std.proofs.lemmas.Bool.Decides.{nat_tests}
use Rattle.std.proofs.lemmas.List.Sums.{sum_by-cons}
use Rattle.am_term.specs.Induct.{term_induct}
use Rattle.am_term.specs.Span.{greatest}
use Rattle.am_term.specs.Weight.{nodes, nodes-Var, nodes-In, nodes-App}
use Rattle.am_term.specs.declared.id.SymId.{SymId}
use Rattle.am_term.specs.declared.term.Atom.{Atom}
use Rattle.am_term.specs.declared.term.Atom.TheVariants.{Rel, Eq}
use Rattle.am_term.specs.declared.term.Literal.{Literal}
use Rattle.am_term.specs.declared.term.Term.{Term}
use Rattle.am_term.specs.declared.term.Term.TheVariants.{App}
use Rattle.am_term.specs.Parts.{parts_of}
use Rattle.am_clause.specs.Size.{atom_weight, literal_weight, clause_weight}
use Rattle.am_clause.specs.declared.clause.Clause.{Clause}
use Rattle.am_clause.specs.declared.row.Row.{Row}
use Rattle.am_simplify.specs.Reasons.{is_wide, are_heavy, is_heavy_answer, is_heavy, reason_if, too_big}
use Rattle.am_simplify.specs.declared.reason.Reason.{Reason}
use Rattle.am_simplify.specs.declared.reason.Reason.TheVariants.{Wide, Heavy}
use Rattle.am_derivation.specs.Sizes.{nesting, nesting-Var, nesting-In, nesting-App, NestingIsFew}
use Rattle.am_derivation.specs.Sizes.{IsSmall, IsLow, AreLow, IsOfAxiom, BesideAxioms, LogIs, terms_of_answer}
use Rattle.am_search.specs.declared.outcome.Outcome.{Outcome}
use Rattle.am_search.specs.declared.outcome.Outcome.TheVariants.{Found, Spent, Exhausted, Contradiction}

-- ---- terms

abbrev AreFew : List Term → Type 0
AreFew ts = greatest (map nesting ts) ≤ sum_by nodes ts

max-within : (a b x y : ℕ) → a ≤ x → b ≤ y → max a b ≤ x + y
max-within a b x y h k = omega arith

few-App : (f : SymId) (args : List Term) → AreFew args → nesting (App f args) ≤ nodes (App f args)
few-App f args h = omega (arith, nesting-App f args, nodes-App f args)

few-more : (t : Term) (ts : List Term) → nesting t ≤ nodes t → AreFew ts → AreFew (t ∷ ts)
few-more t ts h k =
    rw (sum_by-cons nodes t ts) (max-within (nesting t) (greatest (map nesting ts)) (nodes t) (sum_by nodes ts) h k)

pub nesting-few : NestingIsFew
nesting-few = term_induct (λ t. nesting t ≤ nodes t) AreFew
    (λ n s. omega (arith, nesting-Var n s, nodes-Var n s))
    (λ k. omega (arith, nesting-In k, nodes-In k))
    few-App
    (omega arith)
    few-more

-- ---- tests that fail

pub or-false : (a b : Bool) → (a || b) ≡ false → (a ≡ false) × (b ≡ false)
or-false true b e = absurd cc
or-false false b e = (refl, e)

pub passed : (b : Bool) (r : Reason) (o : Option Reason) → reason_if b r o ≡ None → (b ≡ false) × (o ≡ None)
passed true r o e = absurd cc
passed false r o e = (refl, e)

-- a row is small where no test of its size holds
pub light : (most : ℕ) (c : Clause) (with : List (List Term)) → too_big most c with ≡ None
    → (is_wide c ≡ false) × (is_heavy most c with ≡ false)
light most c with e =
    let a = passed (is_wide c) Wide (reason_if (is_heavy most c with) Heavy None) e in
    let b = passed (is_heavy most c with) Heavy None a.1 in
    (a.0, b.0)

module _ (most : ℕ) where
  below : (n m : ℕ) → n ≤ m → nat_lt most m ≡ false → n ≤ most
  below n m h e = grind (arith, nat_tests)

  within : (n m : ℕ) → n ≤ m → m ≤ most → n ≤ most
  within n m h k = omega arith

  low-terms : (ts : List Term) → are_heavy most ts ≡ false → AreLow most ts
  low-terms [] e = tt
  low-terms (t ∷ ts) e =
      let a = or-false (nat_lt most (nodes t)) (are_heavy most ts) e in
      (below (nesting t) (nodes t) (nesting-few t) a.0, low-terms ts a.1)

  low-answer : (o : Option (List Term)) → is_heavy_answer most o ≡ false → AreLow most (terms_of_answer o)
  low-answer None e = tt
  low-answer (Some ts) e = low-terms ts e

  low-lists : (with : List (List Term)) → list_any (are_heavy most) with ≡ false → AllByRecursion (AreLow most) with
  low-lists [] e = tt
  low-lists (ts ∷ with) e =
      let a = or-false (are_heavy most ts) (list_any (are_heavy most) with) e in
      (low-terms ts a.0, low-lists with a.1)

  -- terms that weigh no more together
  low-sum : (ts : List Term) (m : ℕ) → sum_by nodes ts ≤ m → m ≤ most → AreLow most ts
  low-sum [] m h k = tt
  low-sum (t ∷ ts) m h k =
      let few : nesting t ≤ nodes t = nesting-few t in
      let both : sum_by nodes (t ∷ ts) ≡ nodes t + sum_by nodes ts = sum_by-cons nodes t ts in
      (omega arith, low-sum ts m (omega arith) k)

  low-atom : (a : Atom) (m : ℕ) → atom_weight a ≤ m → m ≤ most → AreLow most (parts_of a)
  low-atom (Rel r args) m h k = low-sum args m h k
  low-atom (Eq left right) m h k =
      let few : nesting left ≤ nodes left = nesting-few left in
      let few_too : nesting right ≤ nodes right = nesting-few right in
      (omega arith, (omega arith, tt))

  low-literals : (ls : List Literal) (m : ℕ) → sum_by literal_weight ls ≤ m → m ≤ most
      → AllByRecursion (λ (l : Literal). AreLow most (parts_of l.atom)) ls
  low-literals [] m h k = tt
  low-literals (l ∷ ls) m h k =
      let both : sum_by literal_weight (l ∷ ls) ≡ literal_weight l + sum_by literal_weight ls =
      sum_by-cons literal_weight l ls in
      (low-atom l.atom m (omega arith) k, low-literals ls m (omega arith) k)

  pub small-low : (row : Row) → IsSmall most row → IsLow most row
  small-low row e =
      let a = light most row.clause row.with e in
      let b = or-false (nat_lt most (clause_weight row.clause))
      (is_heavy_answer most row.clause.answer || list_any (are_heavy most) row.with) a.1 in
      let c = or-false (is_heavy_answer most row.clause.answer) (list_any (are_heavy most) row.with) b.1 in
      let w : ℕ = clause_weight row.clause in
      record {
        literals = low-literals row.clause.literals w (omega arith) (below w w (omega arith) b.0);
        answer = low-answer row.clause.answer c.0;
        lists = low-lists row.with c.1;
      }

  -- ---- logs

  one-low : (row : Row) → IsOfAxiom row ⊎ IsSmall most row → IsOfAxiom row ⊎ IsLow most row
  one-low row (inl a) = inl a
  one-low row (inr s) = inr (small-low row s)

  all-low : (rows : List Row) → BesideAxioms (IsSmall most) rows → BesideAxioms (IsLow most) rows
  all-low [] h = tt
  all-low (row ∷ rows) h = (one-low row h.0, all-low rows h.1)

  pub log-low : (o : Outcome) → LogIs (IsSmall most) o → LogIs (IsLow most) o
  log-low (Found log es ns) h = all-low log.rows h
  log-low (Spent es ns) h = tt
  log-low (Exhausted es ns) h = tt
  log-low (Contradiction log es ns) h = all-low log.rows h
