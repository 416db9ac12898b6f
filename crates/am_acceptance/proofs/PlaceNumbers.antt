-- The numbers that a rule gives fit 32 bits: those of literals and of paths, of axioms, of their clauses and of givens.
use Rattle.std.proofs.Common.{◌≡◌, ◌≤◌, ◌<◌, ◌^◌, ◌&&◌, ℕ, zero, suc, arith, refl, ap, subst, Bool, true, List, []}
use Rattle.std.proofs.Common.{◌∷◌, Option, Some, None, is_some, length, map, slice_get, option_and_then}
use Rattle.std.specs.List.{list_all, AllByRecursion}
use Rattle.std.proofs.lemmas.Bool.{lt-ltb}
use Rattle.std.proofs.lemmas.List.{length-map}
use Rattle.am_term.specs.declared.term.Formula.{Formula}
use Rattle.am_term.specs.declared.term.Literal.{Literal}
use Rattle.am_term.specs.declared.term.Term.{Term}
use Rattle.am_term.specs.Parts.{parts_of, place_in}
use Rattle.am_term.specs.Place.{member, place, args_of}
use Rattle.am_term.proofs.Tests.{and_both}
use Rattle.am_clause.specs.declared.clause.Clause.{Clause}
use Rattle.am_clause.specs.ClauseForm.{cnf}
use Rattle.am_clause.specs.Goals.{given_clause}
use Rattle.am_clause.specs.Rules.{have_one_sign, is_equation_of, are_opposite, has_place}
use Rattle.am_theory.specs.declared.theory.Axiom.{Axiom}
use Rattle.am_theory.specs.declared.theory.Theory.{Theory}
use Rattle.am_theory.specs.Facts.{WellFormed, IsAxiom}
use Rattle.am_theory.specs.Limits.{clause_limit}
use Rattle.am_diagram.specs.declared.diagram.Diagram.{Diagram}
use Rattle.am_diagram.specs.Clauses.{givens}
use Rattle.am_diagram.specs.Facts.{WellFormed as WellDrawn}
use Rattle.am_diagram.specs.Steps.{formulas_of}
use Rattle.am_log.specs.Naming.{Names}
use Rattle.am_log.specs.Spelled.{is_u32}
use Rattle.am_log.specs.Text.{byte_limit}
use Rattle.am_acceptance.proofs.TextSizes.{total, total-count, extent, args_size, literal_extent}

-- ---- members of lists

get-count : {A : Type 0} (xs : List A) (i : ℕ) (x : A) → slice_get xs i ≡ Some x → i < length xs
get-count [] i x e = absurd cc
get-count (y ∷ ys) zero x e = omega arith
get-count (y ∷ ys) (suc i) x e = let h = get-count ys i x e in omega (arith, h)

pub count : {A : Type 0} (xs : List A) (k : ℕ) (x : A) → member xs k ≡ Some x → k ≤ length xs
count xs zero x e = omega arith
count xs (suc i) x e = let h = get-count xs i x e in omega (arith, h)

there-count : {A : Type 0} (xs : List A) (k : ℕ) → is_some (member xs k) ≡ true → k ≤ length xs
there-count {A = A} xs k e = by (member xs k) refl e
  where
    by : (o : Option A) → member xs k ≡ o → is_some o ≡ true → k ≤ length xs
    by None m h = absurd cc
    by (Some x) m h = count xs k x m

get-total : {A : Type 0} (v : A → ℕ) (xs : List A) (i : ℕ) (x : A) → slice_get xs i ≡ Some x → v x ≤ total v xs
get-total v [] i x e = absurd cc
get-total v (y ∷ ys) zero x e = let same : y ≡ x = cc in omega (arith, ap v same)
get-total v (y ∷ ys) (suc i) x e = let h = get-total v ys i x e in omega (arith, h)

member-total : {A : Type 0} (v : A → ℕ) (xs : List A) (k : ℕ) (x : A) → member xs k ≡ Some x → v x ≤ total v xs
member-total v xs zero x e = absurd cc
member-total v xs (suc i) x e = get-total v xs i x e

pub fits : (m : ℕ) → m ≤ byte_limit → is_u32 m ≡ true
fits m h = lt-ltb m (2 ^ 32) (omega (arith, h))

-- ---- literals that a rule asks for

pub one-sign : (o q : Option Literal) → have_one_sign o q ≡ true → (is_some o ≡ true) × (is_some q ≡ true)
one-sign None q e = absurd cc
one-sign (Some l) None e = absurd cc
one-sign (Some l) (Some m) e = (refl, refl)

pub equation-there : (sign : Bool) (o : Option Literal) → is_equation_of sign o ≡ true → is_some o ≡ true
equation-there sign None e = absurd cc
equation-there sign (Some l) e = refl

pub opposites-there : (o q : Option Literal) → are_opposite o q ≡ true → (is_some o ≡ true) × (is_some q ≡ true)
opposites-there None q e = absurd cc
opposites-there (Some l) None e = absurd cc
opposites-there (Some l) (Some m) e = (refl, refl)

-- ---- paths

module _ (n : Names) where
  -- where there is a part at the path, its numbers fit
  abbrev PathFits : List ℕ → Type 0
  PathFits path = (x : Term) → extent n x ≤ byte_limit → is_some (place path x) ≡ true → list_all is_u32 path ≡ true

  -- one step down, and what is below
  down-fits : (path : List ℕ) → PathFits path → (ts : List Term) (k : ℕ) → total (extent n) ts ≤ byte_limit
      → is_some (option_and_then (place path) (member ts k)) ≡ true → list_all is_u32 (k ∷ path) ≡ true
  down-fits path law ts k l e = by (member ts k) refl e
    where
      by : (o : Option Term) → member ts k ≡ o → is_some (option_and_then (place path) o) ≡ true
          → list_all is_u32 (k ∷ path) ≡ true
      by None m h = absurd cc
      by (Some x) m h =
          let few = count ts k x m in
          let most = total-count (extent n) ts in
          let part = member-total (extent n) ts k x m in
          and_both (is_u32 k) (list_all is_u32 path) (fits k (omega (arith, few, most, l)))
          (law x (omega (arith, part, l)) h)

  path-fits : (path : List ℕ) → PathFits path
  path-fits [] x l e = refl
  path-fits (k ∷ path) x l e =
      let below = args_size n x in
      down-fits path (path-fits path) (args_of x) k (omega (arith, below, l)) e

  literal-path : (path : List ℕ) (l : Literal) → literal_extent n l ≤ byte_limit → is_some (place_in path l.atom) ≡ true
      → list_all is_u32 path ≡ true
  literal-path [] l h e = refl
  literal-path (k ∷ path) l h e = down-fits path (path-fits path) (parts_of l.atom) k h e

  -- the literals take no more bytes than a text may have
  abbrev pub AreShort : List Literal → Type 0
  AreShort ls = total (literal_extent n) ls ≤ byte_limit

  pub literal-fits : (ls : List Literal) (i : ℕ) → AreShort ls → is_some (member ls i) ≡ true → is_u32 i ≡ true
  literal-fits ls i h e =
      let few = there-count ls i e in
      let most = total-count (literal_extent n) ls in
      fits i (omega (arith, few, most, h))

  pub place-fits : (ls : List Literal) (i : ℕ) (path : List ℕ) → AreShort ls → has_place path (member ls i) ≡ true
      → (is_u32 i && list_all is_u32 path) ≡ true
  place-fits ls i path h e = by (member ls i) refl e
    where
      by : (o : Option Literal) → member ls i ≡ o → has_place path o ≡ true → (is_u32 i && list_all is_u32 path) ≡ true
      by None m k = absurd cc
      by (Some l) m k =
          let part = member-total (literal_extent n) ls i l m in
          and_both (is_u32 i) (list_all is_u32 path) (literal-fits ls i h (ap is_some m))
          (literal-path path l (omega (arith, part, h)) k)

-- ---- what a proof starts from

axiom-few : (t : Theory) (as_ : List Axiom) (i : ℕ) (f : Formula) → AllByRecursion (IsAxiom t) as_
    → slice_get (map (λ (a : Axiom). a.formula) as_) i ≡ Some f → length (cnf f) ≤ clause_limit
axiom-few t [] i f h e = absurd cc
axiom-few t (a ∷ as_) zero f h e =
    let same : a.formula ≡ f = cc in
    subst (λ (x : Formula). length (cnf x) ≤ clause_limit) same h.0.few_clauses
axiom-few t (a ∷ as_) (suc i) f h e = axiom-few t as_ i f h.1 e

formula-few : (t : Theory) → WellFormed t → (k : ℕ) (f : Formula) → member (formulas_of t) k ≡ Some f
    → length (cnf f) ≤ clause_limit
formula-few t h zero f e = absurd cc
formula-few t h (suc i) f e = axiom-few t t.axioms i f h.axioms e

pub axiom-fits : (t : Theory) → WellFormed t → (k c : ℕ) (d : Clause)
    → option_and_then (λ f. member (cnf f) c) (member (formulas_of t) k) ≡ Some d → (is_u32 k && is_u32 c) ≡ true
axiom-fits t h k c d e = by (member (formulas_of t) k) refl e
  where
    by : (o : Option Formula) → member (formulas_of t) k ≡ o → option_and_then (λ f. member (cnf f) c) o ≡ Some d
        → (is_u32 k && is_u32 c) ≡ true
    by None m q = absurd cc
    by (Some f) m q =
        let axioms = count (formulas_of t) k f m in
        let all = length-map t.axioms (λ (a : Axiom). a.formula) in
        let many = h.few_axioms in
        let clauses = count (cnf f) c d q in
        let few = formula-few t h k f m in
        and_both (is_u32 k) (is_u32 c) (fits k (omega (arith, axioms, all, many)))
        (fits c (omega (arith, clauses, few)))

givens-count : (d : Diagram) → length (givens d) ≡ length d.givens
unfolding givens
givens-count d = length-map d.givens given_clause

pub given-fits : (t : Theory) (d : Diagram) → WellDrawn t d → (k : ℕ) (c : Clause) → member (givens d) k ≡ Some c
    → is_u32 k ≡ true
given-fits t d g k c e =
    let few = count (givens d) k c e in
    let all = givens-count d in
    let most = g.few_givens in
    fits k (omega (arith, few, all, most))
