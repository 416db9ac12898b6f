-- A clause of a formula has at most as many different variables as the formula.
use Rattle.std.proofs.Common.{◌≡◌, ◌∙◌, ◌&&◌, ◌<◌, ◌≤◌, Bool, true, false, refl, sym, ap, arith, List, [], ◌∷◌, ◌++◌, map, length}
use Rattle.std.specs.List.{list_all, flat_map, fold, All, AllByRecursion}
use Rattle.std.proofs.lemmas.List.{append-nil}
use Rattle.std.proofs.lemmas.List.Concat.{flat_map-append}
use Rattle.std.proofs.lemmas.List.Elements.{All-from_recursion}
use Rattle.std.proofs.lemmas.List.Folds.{list_all-append}
use Rattle.am_term.specs.declared.term.Atom.{Atom}
use Rattle.am_term.specs.declared.term.Literal.{Literal}
use Rattle.am_term.specs.declared.term.Formula.{Formula}
use Rattle.am_term.specs.declared.term.Formula.TheVariants.{Atom as Atomic, Not, And, Or, Implies, Iff}
use Rattle.am_term.specs.InductFormula.{formula_induct}
use Rattle.am_term.specs.Same.{same_literal}
use Rattle.am_term.proofs.Alike.{same_literal-refl, same_literal-sound}
use Rattle.am_term.proofs.Tests.{and_left, and_right, and_both, and_true}
use Rattle.am_clause.specs.Distinct.{among, distinct}
use Rattle.am_clause.specs.Merge.{merged}
use Rattle.am_clause.specs.Variables.{Variable, same_variable, in_atom, in_literals, in_clause, in_formula, in_formulas, variables, variables_of, in_formula-Atom, in_formula-Not, in_formula-And, in_formula-Or, in_formula-Implies, in_formula-Iff, in_formulas-more}
use Rattle.am_clause.specs.ClauseForm.{Lists, followed, product, products, unit, pos, neg, merged_clause, pos-Atom, neg-Atom, pos-Not, neg-Not, pos-And, neg-And, pos-Or, neg-Or, pos-Implies, neg-Implies, pos-Iff, neg-Iff}
use Rattle.am_clause.specs.Bounded.{plain}
use Rattle.am_clause.specs.Forms.{form_of}
use Rattle.am_clause.proofs.Members.{any-flat, any-distinct, distinct-fewer, all-from, all-at}
use Rattle.am_clause.proofs.Places.{same_variable-refl, same_variable-sound}

module _ (g : Variable → Bool) where
  -- each variable of a clause passes
  abbrev passes : List Literal → Bool
  passes ls = list_all g (in_literals ls)

  abbrev pass : Lists → Bool
  pass cs = list_all passes cs

  passes-append : (as_ bs : List Literal) → passes (as_ ++ bs) ≡ (passes as_ && passes bs)
  passes-append as_ bs = ap (list_all g) (flat_map-append (λ (l : Literal). in_atom l.atom) as_ bs) ∙ list_all-append g (in_literals as_) (in_literals bs)

  pass-followed : (a : List Literal) (bs : Lists) → passes a ≡ true → pass bs ≡ true → pass (followed a bs) ≡ true
  unfolding followed
  pass-followed a [] h k = refl
  pass-followed a (b ∷ bs) h k = and_both (passes (a ++ b)) (pass (map (λ b. a ++ b) bs))
      (passes-append a b ∙ and_both (passes a) (passes b) h (and_left (passes b) (pass bs) k))
      (pass-followed a bs h (and_right (passes b) (pass bs) k))

  pass-append : (as_ bs : Lists) → pass as_ ≡ true → pass bs ≡ true → pass (as_ ++ bs) ≡ true
  pass-append as_ bs h k = list_all-append passes as_ bs ∙ and_both (pass as_) (pass bs) h k

  pass-product : (as_ bs : Lists) → pass as_ ≡ true → pass bs ≡ true → pass (product as_ bs) ≡ true
  unfolding product
  pass-product [] bs h k = refl
  pass-product (a ∷ as_) bs h k = pass-append (followed a bs) (product as_ bs)
      (pass-followed a bs (and_left (passes a) (pass as_) h) k)
      (pass-product as_ bs (and_right (passes a) (pass as_) h) k)

  record Pass (f : Formula) : Type 0 where
    pos : pass (pos f) ≡ true
    neg : pass (neg f) ≡ true

  record PassAll (fs : List Formula) : Type 0 where
    pos_all : pass (flat_map pos fs) ≡ true
    neg_all : pass (flat_map neg fs) ≡ true
    pos_product : (made : Lists) → pass made ≡ true → pass (fold product made (map pos fs)) ≡ true
    neg_product : (made : Lists) → pass made ≡ true → pass (fold product made (map neg fs)) ≡ true

  abbrev Kept : Formula → Type 0
  Kept f = list_all g (in_formula f) ≡ true → Pass f

  abbrev AreKept : List Formula → Type 0
  AreKept fs = list_all g (in_formulas fs) ≡ true → PassAll fs

  pass-unit : (sign : Bool) (a : Atom) → list_all g (in_atom a) ≡ true → pass (unit sign a) ≡ true
  unfolding unit
  pass-unit sign a h = and_true (list_all g (in_atom a ++ [])) ∙ (ap (list_all g) (append-nil (in_atom a)) ∙ h)

  first : (f h : Formula) → list_all g (in_formula f ++ in_formula h) ≡ true → list_all g (in_formula f) ≡ true
  first f h e = and_left (list_all g (in_formula f)) (list_all g (in_formula h)) (sym (list_all-append g (in_formula f) (in_formula h)) ∙ e)

  second : (f h : Formula) → list_all g (in_formula f ++ in_formula h) ≡ true → list_all g (in_formula h) ≡ true
  second f h e = and_right (list_all g (in_formula f)) (list_all g (in_formula h)) (sym (list_all-append g (in_formula f) (in_formula h)) ∙ e)

  kept_atom : (a : Atom) → Kept (Atomic a)
  kept_atom a e =
      let h : list_all g (in_atom a) ≡ true = rw in_formula-Atom at e in
      record { pos = ap pass (pos-Atom a) ∙ pass-unit true a h; neg = ap pass (neg-Atom a) ∙ pass-unit false a h }

  kept_not : (f : Formula) → Kept f → Kept (Not f)
  kept_not f k e =
      let h : Pass f = k (rw in_formula-Not at e) in
      record { pos = ap pass (pos-Not f) ∙ h.neg; neg = ap pass (neg-Not f) ∙ h.pos }

  kept_and : (fs : List Formula) → AreKept fs → Kept (And fs)
  unfolding products
  kept_and fs k e =
      let h : PassAll fs = k (rw in_formula-And at e) in
      record { pos = ap pass (pos-And fs) ∙ h.pos_all; neg = ap pass (neg-And fs) ∙ h.neg_product ([] ∷ []) refl }

  kept_or : (fs : List Formula) → AreKept fs → Kept (Or fs)
  unfolding products
  kept_or fs k e =
      let h : PassAll fs = k (rw in_formula-Or at e) in
      record { pos = ap pass (pos-Or fs) ∙ h.pos_product ([] ∷ []) refl; neg = ap pass (neg-Or fs) ∙ h.neg_all }

  kept_implies : (f h : Formula) → Kept f → Kept h → Kept (Implies f h)
  kept_implies f h k l e =
      let d : list_all g (in_formula f ++ in_formula h) ≡ true = rw in_formula-Implies at e in
      let a : Pass f = k (first f h d) in
      let b : Pass h = l (second f h d) in
      record {
        pos = ap pass (pos-Implies f h) ∙ pass-product (neg f) (pos h) a.neg b.pos;
        neg = ap pass (neg-Implies f h) ∙ pass-append (pos f) (neg h) a.pos b.neg;
      }

  kept_iff : (f h : Formula) → Kept f → Kept h → Kept (Iff f h)
  kept_iff f h k l e =
      let d : list_all g (in_formula f ++ in_formula h) ≡ true = rw in_formula-Iff at e in
      let a : Pass f = k (first f h d) in
      let b : Pass h = l (second f h d) in
      record {
        pos = ap pass (pos-Iff f h) ∙ pass-append (product (neg f) (pos h)) (product (neg h) (pos f)) (pass-product (neg f) (pos h) a.neg b.pos) (pass-product (neg h) (pos f) b.neg a.pos);
        neg = ap pass (neg-Iff f h) ∙ pass-append (product (pos f) (pos h)) (product (neg f) (neg h)) (pass-product (pos f) (pos h) a.pos b.pos) (pass-product (neg f) (neg h) a.neg b.neg);
      }

  kept_more : (f : Formula) (fs : List Formula) → Kept f → AreKept fs → AreKept (f ∷ fs)
  kept_more f fs k l e =
      let d : (list_all g (in_formula f) && list_all g (in_formulas fs)) ≡ true = sym (ap (list_all g) (in_formulas-more f fs) ∙ list_all-append g (in_formula f) (in_formulas fs)) ∙ e in
      let a : Pass f = k (and_left (list_all g (in_formula f)) (list_all g (in_formulas fs)) d) in
      let b : PassAll fs = l (and_right (list_all g (in_formula f)) (list_all g (in_formulas fs)) d) in
      record {
        pos_all = pass-append (pos f) (flat_map pos fs) a.pos b.pos_all;
        neg_all = pass-append (neg f) (flat_map neg fs) a.neg b.neg_all;
        pos_product = λ made h. b.pos_product (product made (pos f)) (pass-product made (pos f) h a.pos);
        neg_product = λ made h. b.neg_product (product made (neg f)) (pass-product made (neg f) h a.neg);
      }

  all_kept : (f : Formula) → Kept f
  all_kept = formula_induct Kept AreKept kept_atom kept_not kept_and kept_or kept_implies kept_iff
      (λ e. record { pos_all = refl; neg_all = refl; pos_product = λ made h. h; neg_product = λ made h. h })
      kept_more

  pub pos-pass : (f : Formula) → list_all g (in_formula f) ≡ true → pass (pos f) ≡ true
  pos-pass f e = (all_kept f e).pos

-- merging leaves the variables
among-merged : (v : Variable) (ls : List Literal) → among same_variable v (in_literals (merged ls)) ≡ among same_variable v (in_literals ls)
among-merged v ls =
    any-flat (same_variable v) (λ (l : Literal). in_atom l.atom) (merged ls)
    ∙ any-distinct same_literal same_literal-sound same_literal-refl (λ (l : Literal). among same_variable v (in_atom l.atom)) ls
    ∙ sym (any-flat (same_variable v) (λ (l : Literal). in_atom l.atom) ls)

-- a clause whose variables are a formula's has few where the formula has
few_of : (f : Formula) (ls : List Literal) → list_all (λ v. among same_variable v (in_formula f)) (in_literals ls) ≡ true → length (variables (merged_clause ls)) ≤ length (variables_of f)
unfolding variables variables_of
few_of f ls h = distinct-fewer same_variable same_variable-sound same_variable-refl (in_clause (merged_clause ls)) (distinct same_variable (in_formula f))
    (λ v m. any-distinct same_variable same_variable-sound same_variable-refl (same_variable v) (in_formula f)
    ∙ all-at same_variable same_variable-sound same_variable-refl (λ w. among same_variable w (in_formula f)) (in_literals ls) h v
    (sym (among-merged v ls) ∙ (sym (ap (among same_variable v) (append-nil (in_literals (merged ls)))) ∙ m)))

abbrev pub IsFew : List Literal → Type 0
IsFew ls = length (variables (merged_clause ls)) < 4000000000

few_all : (f : Formula) → length (variables_of f) < 4000000000 → (cs : Lists) → list_all (λ ls. list_all (λ v. among same_variable v (in_formula f)) (in_literals ls)) cs ≡ true → AllByRecursion IsFew cs
few_all f few [] h = tt
few_all f few (c ∷ cs) h =
    let l : length (variables (merged_clause c)) ≤ length (variables_of f) = few_of f c (and_left (list_all (λ v. among same_variable v (in_formula f)) (in_literals c)) (list_all (λ ls. list_all (λ v. among same_variable v (in_formula f)) (in_literals ls)) cs) h) in
    (omega arith, few_all f few cs (and_right (list_all (λ v. among same_variable v (in_formula f)) (in_literals c)) (list_all (λ ls. list_all (λ v. among same_variable v (in_formula f)) (in_literals ls)) cs) h))

abbrev pub IsFewPlain : List Literal → Type 0
IsFewPlain ls = length (variables (plain ls)) < 4000000000

few_merged : (cs : Lists) → AllByRecursion IsFew cs → AllByRecursion IsFewPlain (map merged cs)
few_merged [] h = tt
few_merged (c ∷ cs) h = (h.0, few_merged cs h.1)

pub few-clauses : (f : Formula) → length (variables_of f) < 4000000000 → All IsFewPlain (map merged (form_of true f))
unfolding form_of
few-clauses f few = All-from_recursion IsFewPlain (map merged (pos f)) (few_merged (pos f) (few_all f few (pos f)
    (pos-pass (λ v. among same_variable v (in_formula f)) f
    (all-from same_variable same_variable-sound same_variable-refl (λ v. among same_variable v (in_formula f)) (in_formula f) (λ v m. m)))))
