-- The clauses of a well sorted formula are numbered and well sorted.
use Rattle.std.proofs.Common.{◌≡◌, ◌∙◌, ◌&&◌, ◌++◌, Bool, true, false, not, cond, refl, sym, ap, List, [], ◌∷◌, map}
use Rattle.std.specs.List.{list_all, flat_map, fold, filter, AllByRecursion}
use Rattle.std.proofs.lemmas.List.Folds.{list_all-append}
use Rattle.am_term.specs.declared.id.SortId.{SortId}
use Rattle.am_term.specs.declared.signature.Signature.{Signature}
use Rattle.am_term.specs.declared.term.Atom.{Atom}
use Rattle.am_term.specs.declared.term.Literal.{Literal}
use Rattle.am_term.specs.declared.term.Formula.{Formula}
use Rattle.am_term.specs.declared.term.Formula.TheVariants.{Atom as Atomic, Not, And, Or, Implies, Iff}
use Rattle.am_term.specs.InductFormula.{formula_induct}
use Rattle.am_term.specs.Same.{same_literal}
use Rattle.am_term.specs.Sorting.{is_sorted_atom, is_sorted_literal}
use Rattle.am_term.specs.SortedFormula.{is_sorted_formula}
use Rattle.am_term.proofs.Tests.{and_left, and_right, and_both, and_true}
use Rattle.am_syntax.proofs.Equations.{is_sorted_formula-Atom, is_sorted_formula-Not, is_sorted_formula-And}
use Rattle.am_syntax.proofs.Equations.{is_sorted_formula-Or, is_sorted_formula-Implies, is_sorted_formula-Iff}
use Rattle.am_clause.specs.declared.clause.Clause.{Clause}
use Rattle.am_clause.specs.ClauseForm.{Lists, followed, product, products, unit, pos, neg, merged_clause, cnf}
use Rattle.am_clause.specs.ClauseForm.{pos-Atom, neg-Atom, pos-Not, neg-Not, pos-And, neg-And, pos-Or, neg-Or}
use Rattle.am_clause.specs.ClauseForm.{pos-Implies, neg-Implies, pos-Iff, neg-Iff}
use Rattle.am_clause.specs.Distinct.{distinct}
use Rattle.am_clause.specs.Merge.{merged}
use Rattle.am_clause.specs.Renaming.{renumbered}
use Rattle.am_clause.specs.SortedClause.{is_sorted_clause}
use Rattle.am_clause.proofs.Bijections.{renumbered-numbered}
use Rattle.am_simplify.specs.Steps.{IsProper}
use Rattle.am_derivation.proofs.Inputless.{atom-so}
use Rattle.am_derivation.proofs.RenamedSorts.{renumbered-sorted}

-- ---- merging

module _ (good : Literal → Bool) where
  all-put : (b : Bool) (l : Literal) (ls : List Literal) → good l ≡ true → list_all good ls ≡ true
      → list_all good (cond b (l ∷ ls) ls) ≡ true
  all-put true l ls h k = and_both (good l) (list_all good ls) h k
  all-put false l ls h k = k

  all-filter : (p : Literal → Bool) (ls : List Literal) → list_all good ls ≡ true → list_all good (filter p ls) ≡ true
  all-filter p [] h = refl
  all-filter p (l ∷ ls) h = all-put (p l) l (filter p ls) (and_left (good l) (list_all good ls) h)
      (all-filter p ls (and_right (good l) (list_all good ls) h))

  all-merged : (ls : List Literal) → list_all good ls ≡ true → list_all good (merged ls) ≡ true
  all-merged [] h = refl
  all-merged (l ∷ ls) h =
      let rest : List Literal = filter (λ y. not (same_literal l y)) (distinct same_literal ls) in
      and_both (good l) (list_all good rest) (and_left (good l) (list_all good ls) h)
      (all-filter (λ y. not (same_literal l y)) (distinct same_literal ls)
      (all-merged ls (and_right (good l) (list_all good ls) h)))

module _ (sig : Signature) (ins : List SortId) where
  -- a clause that was renumbered
  pub renumbered-proper : (c : Clause) → is_sorted_clause sig ins c ≡ true → IsProper sig ins (renumbered c)
  renumbered-proper c h = record { numbered = renumbered-numbered c; sorted = renumbered-sorted sig ins c ∙ h }

  -- ---- clauses as lists of literals

  abbrev passes : List Literal → Bool
  passes ls = list_all (is_sorted_literal sig ins) ls

  abbrev pass : Lists → Bool
  pass cs = list_all passes cs

  pass-followed : (a : List Literal) (bs : Lists) → passes a ≡ true → pass bs ≡ true → pass (followed a bs) ≡ true
  unfolding followed
  pass-followed a [] h k = refl
  pass-followed a (b ∷ bs) h k = and_both (passes (a ++ b)) (pass (map (λ b. a ++ b) bs))
      (list_all-append (is_sorted_literal sig ins) a b
      ∙ and_both (passes a) (passes b) h (and_left (passes b) (pass bs) k))
      (pass-followed a bs h (and_right (passes b) (pass bs) k))

  pass-append : (as_ bs : Lists) → pass as_ ≡ true → pass bs ≡ true → pass (as_ ++ bs) ≡ true
  pass-append as_ bs h k = list_all-append passes as_ bs ∙ and_both (pass as_) (pass bs) h k

  pass-product : (as_ bs : Lists) → pass as_ ≡ true → pass bs ≡ true → pass (product as_ bs) ≡ true
  unfolding product
  pass-product [] bs h k = refl
  pass-product (a ∷ as_) bs h k = pass-append (followed a bs) (product as_ bs)
      (pass-followed a bs (and_left (passes a) (pass as_) h) k)
      (pass-product as_ bs (and_right (passes a) (pass as_) h) k)

  pass-unit : (sign : Bool) (a : Atom) → is_sorted_atom sig ins a ≡ true → pass (unit sign a) ≡ true
  unfolding unit
  pass-unit sign a h = and_true (is_sorted_atom sig ins a && true) ∙ (and_true (is_sorted_atom sig ins a) ∙ h)

  -- ---- formulas

  abbrev sorted : Formula → Bool
  sorted = is_sorted_formula sig []

  record Pass (f : Formula) : Type 0 where
    pos : pass (pos f) ≡ true
    neg : pass (neg f) ≡ true

  record PassAll (fs : List Formula) : Type 0 where
    pos_all : pass (flat_map pos fs) ≡ true
    neg_all : pass (flat_map neg fs) ≡ true
    pos_product : (made : Lists) → pass made ≡ true → pass (fold product made (map pos fs)) ≡ true
    neg_product : (made : Lists) → pass made ≡ true → pass (fold product made (map neg fs)) ≡ true

  abbrev Kept : Formula → Type 0
  Kept f = sorted f ≡ true → Pass f

  abbrev AreKept : List Formula → Type 0
  AreKept fs = list_all sorted fs ≡ true → PassAll fs

  kept_atom : (a : Atom) → Kept (Atomic a)
  kept_atom a e =
      let h : is_sorted_atom sig ins a ≡ true = atom-so sig ins a (sym (is_sorted_formula-Atom sig [] a) ∙ e) in
      record { pos = ap pass (pos-Atom a) ∙ pass-unit true a h; neg = ap pass (neg-Atom a) ∙ pass-unit false a h }

  kept_not : (f : Formula) → Kept f → Kept (Not f)
  kept_not f k e =
      let h : Pass f = k (sym (is_sorted_formula-Not sig [] f) ∙ e) in
      record { pos = ap pass (pos-Not f) ∙ h.neg; neg = ap pass (neg-Not f) ∙ h.pos }

  kept_and : (fs : List Formula) → AreKept fs → Kept (And fs)
  unfolding products
  kept_and fs k e =
      let h : PassAll fs = k (sym (is_sorted_formula-And sig [] fs) ∙ e) in
      record { pos = ap pass (pos-And fs) ∙ h.pos_all; neg = ap pass (neg-And fs) ∙ h.neg_product ([] ∷ []) refl }

  kept_or : (fs : List Formula) → AreKept fs → Kept (Or fs)
  unfolding products
  kept_or fs k e =
      let h : PassAll fs = k (sym (is_sorted_formula-Or sig [] fs) ∙ e) in
      record { pos = ap pass (pos-Or fs) ∙ h.pos_product ([] ∷ []) refl; neg = ap pass (neg-Or fs) ∙ h.neg_all }

  kept_implies : (f h : Formula) → Kept f → Kept h → Kept (Implies f h)
  kept_implies f h k l e =
      let d : (sorted f && sorted h) ≡ true = sym (is_sorted_formula-Implies sig [] f h) ∙ e in
      let a : Pass f = k (and_left (sorted f) (sorted h) d) in
      let b : Pass h = l (and_right (sorted f) (sorted h) d) in
      record {
        pos = ap pass (pos-Implies f h) ∙ pass-product (neg f) (pos h) a.neg b.pos;
        neg = ap pass (neg-Implies f h) ∙ pass-append (pos f) (neg h) a.pos b.neg;
      }

  kept_iff : (f h : Formula) → Kept f → Kept h → Kept (Iff f h)
  kept_iff f h k l e =
      let d : (sorted f && sorted h) ≡ true = sym (is_sorted_formula-Iff sig [] f h) ∙ e in
      let a : Pass f = k (and_left (sorted f) (sorted h) d) in
      let b : Pass h = l (and_right (sorted f) (sorted h) d) in
      record {
        pos = ap pass (pos-Iff f h) ∙ pass-append (product (neg f) (pos h)) (product (neg h) (pos f))
            (pass-product (neg f) (pos h) a.neg b.pos) (pass-product (neg h) (pos f) b.neg a.pos);
        neg = ap pass (neg-Iff f h) ∙ pass-append (product (pos f) (pos h)) (product (neg f) (neg h))
            (pass-product (pos f) (pos h) a.pos b.pos) (pass-product (neg f) (neg h) a.neg b.neg);
      }

  kept_more : (f : Formula) (fs : List Formula) → Kept f → AreKept fs → AreKept (f ∷ fs)
  kept_more f fs k l e =
      let a : Pass f = k (and_left (sorted f) (list_all sorted fs) e) in
      let b : PassAll fs = l (and_right (sorted f) (list_all sorted fs) e) in
      record {
        pos_all = pass-append (pos f) (flat_map pos fs) a.pos b.pos_all;
        neg_all = pass-append (neg f) (flat_map neg fs) a.neg b.neg_all;
        pos_product = λ made h. b.pos_product (product made (pos f)) (pass-product made (pos f) h a.pos);
        neg_product = λ made h. b.neg_product (product made (neg f)) (pass-product made (neg f) h a.neg);
      }

  all_kept : (f : Formula) → Kept f
  all_kept = formula_induct Kept AreKept kept_atom kept_not kept_and kept_or kept_implies kept_iff
      (λ e. record { pos_all = refl; neg_all = refl; pos_product = λ made h. h; neg_product = λ made h. h })
      kept_more

  -- ---- clauses

  merged-sorted : (ls : List Literal) → passes ls ≡ true → is_sorted_clause sig ins (merged_clause ls) ≡ true
  merged-sorted ls h = and_both (passes (merged ls)) true (all-merged (is_sorted_literal sig ins) ls h) refl

  all-proper : (cs : Lists) → pass cs ≡ true
      → AllByRecursion (IsProper sig ins) (map (λ ls. renumbered (merged_clause ls)) cs)
  all-proper [] h = tt
  all-proper (ls ∷ cs) h = (
    renumbered-proper (merged_clause ls) (merged-sorted ls (and_left (passes ls) (pass cs) h)),
    all-proper cs (and_right (passes ls) (pass cs) h),
  )

  pub cnf-proper : (f : Formula) → sorted f ≡ true → AllByRecursion (IsProper sig ins) (cnf f)
  unfolding cnf
  cnf-proper f h = all-proper (pos f) (all_kept f h).pos
