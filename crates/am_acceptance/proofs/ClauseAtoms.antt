-- What holds of the atoms of a formula holds of the atoms of its clauses.
use Rattle.std.proofs.Common.{◌++◌, Bool, true, false, not, cond, sym, subst, List, [], ◌∷◌, map}
use Rattle.std.specs.List.{flat_map, fold, filter, AllByRecursion}
use Rattle.am_term.specs.declared.term.Atom.{Atom}
use Rattle.am_term.specs.declared.term.Literal.{Literal}
use Rattle.am_term.specs.declared.term.Formula.{Formula}
use Rattle.am_term.specs.declared.term.Formula.TheVariants.{Atom as Atomic, Not, And, Or, Implies, Iff}
use Rattle.am_term.specs.Same.{same_literal}
use Rattle.am_clause.specs.ClauseForm.{Lists, followed, product, products, unit, pos, neg}
use Rattle.am_clause.specs.ClauseForm.{pos-Atom, neg-Atom, pos-Not, neg-Not, pos-And, neg-And, pos-Or, neg-Or}
use Rattle.am_clause.specs.ClauseForm.{pos-Implies, neg-Implies, pos-Iff, neg-Iff}
use Rattle.am_clause.specs.Distinct.{distinct}
use Rattle.am_clause.specs.Merge.{merged}
use Rattle.am_theory.proofs.Appends.{all-append}

module _ (Good : Atom → Type 0) where
  -- it holds of the atom of each literal
  abbrev pub AreGood : List Literal → Type 0
  AreGood ls = AllByRecursion (λ (l : Literal). Good l.atom) ls

  abbrev pub AllGood : Lists → Type 0
  AllGood cs = AllByRecursion AreGood cs

  -- ---- merging

  put-good : (b : Bool) (l : Literal) (ls : List Literal) → Good l.atom → AreGood ls → AreGood (cond b (l ∷ ls) ls)
  put-good true l ls h k = (h, k)
  put-good false l ls h k = k

  filter-good : (p : Literal → Bool) (ls : List Literal) → AreGood ls → AreGood (filter p ls)
  filter-good p [] h = tt
  filter-good p (l ∷ ls) h = put-good (p l) l (filter p ls) h.0 (filter-good p ls h.1)

  pub merged-good : (ls : List Literal) → AreGood ls → AreGood (merged ls)
  merged-good [] h = tt
  merged-good (l ∷ ls) h =
      (h.0, filter-good (λ y. not (same_literal l y)) (distinct same_literal ls) (merged-good ls h.1))

  -- ---- clauses as lists of literals

  unit-good : (sign : Bool) (a : Atom) → Good a → AllGood (unit sign a)
  unfolding unit
  unit-good sign a h = ((h, tt), tt)

  append-good : (as_ bs : Lists) → AllGood as_ → AllGood bs → AllGood (as_ ++ bs)
  append-good as_ bs h k = all-append AreGood as_ bs h k

  followed-good : (a : List Literal) (bs : Lists) → AreGood a → AllGood bs → AllGood (followed a bs)
  unfolding followed
  followed-good a [] h k = tt
  followed-good a (b ∷ bs) h k =
      (all-append (λ (l : Literal). Good l.atom) a b h k.0, followed-good a bs h k.1)

  product-good : (as_ bs : Lists) → AllGood as_ → AllGood bs → AllGood (product as_ bs)
  unfolding product
  product-good [] bs h k = tt
  product-good (a ∷ as_) bs h k =
      append-good (followed a bs) (product as_ bs) (followed-good a bs h.0 k) (product-good as_ bs h.1 k)

  -- ---- formulas

  -- it holds of the atoms of the clauses of the formula and of its negation
  pub record HasGood (f : Formula) : Type 0 where
    pub clauses : AllGood (pos f)
    pub negated : AllGood (neg f)

  -- and so for each of the formulas
  pub record HaveGood (fs : List Formula) : Type 0 where
    pub clauses : AllGood (flat_map pos fs)
    pub negated : AllGood (flat_map neg fs)
    pub joined : (made : Lists) → AllGood made → AllGood (fold product made (map pos fs))
    pub negated_joined : (made : Lists) → AllGood made → AllGood (fold product made (map neg fs))

  pub good-Atom : (a : Atom) → Good a → HasGood (Atomic a)
  good-Atom a h = record {
    clauses = subst AllGood (sym (pos-Atom a)) (unit-good true a h);
    negated = subst AllGood (sym (neg-Atom a)) (unit-good false a h);
  }

  pub good-Not : (f : Formula) → HasGood f → HasGood (Not f)
  good-Not f h = record {
    clauses = subst AllGood (sym (pos-Not f)) h.negated;
    negated = subst AllGood (sym (neg-Not f)) h.clauses;
  }

  pub good-And : (fs : List Formula) → HaveGood fs → HasGood (And fs)
  unfolding products
  good-And fs h = record {
    clauses = subst AllGood (sym (pos-And fs)) h.clauses;
    negated = subst AllGood (sym (neg-And fs)) (h.negated_joined ([] ∷ []) (tt, tt));
  }

  pub good-Or : (fs : List Formula) → HaveGood fs → HasGood (Or fs)
  unfolding products
  good-Or fs h = record {
    clauses = subst AllGood (sym (pos-Or fs)) (h.joined ([] ∷ []) (tt, tt));
    negated = subst AllGood (sym (neg-Or fs)) h.negated;
  }

  pub good-Implies : (f g : Formula) → HasGood f → HasGood g → HasGood (Implies f g)
  good-Implies f g h k = record {
    clauses = subst AllGood (sym (pos-Implies f g)) (product-good (neg f) (pos g) h.negated k.clauses);
    negated = subst AllGood (sym (neg-Implies f g)) (append-good (pos f) (neg g) h.clauses k.negated);
  }

  pub good-Iff : (f g : Formula) → HasGood f → HasGood g → HasGood (Iff f g)
  good-Iff f g h k = record {
    clauses = subst AllGood (sym (pos-Iff f g)) (append-good (product (neg f) (pos g)) (product (neg g) (pos f))
        (product-good (neg f) (pos g) h.negated k.clauses) (product-good (neg g) (pos f) k.negated h.clauses));
    negated = subst AllGood (sym (neg-Iff f g)) (append-good (product (pos f) (pos g)) (product (neg f) (neg g))
        (product-good (pos f) (pos g) h.clauses k.clauses) (product-good (neg f) (neg g) h.negated k.negated));
  }

  pub good-none : HaveGood []
  good-none = record {
    clauses = tt;
    negated = tt;
    joined = λ made h. h;
    negated_joined = λ made h. h;
  }

  pub good-more : (f : Formula) (fs : List Formula) → HasGood f → HaveGood fs → HaveGood (f ∷ fs)
  good-more f fs h k = record {
    clauses = append-good (pos f) (flat_map pos fs) h.clauses k.clauses;
    negated = append-good (neg f) (flat_map neg fs) h.negated k.negated;
    joined = λ made a. k.joined (product made (pos f)) (product-good made (pos f) a h.clauses);
    negated_joined = λ made a. k.negated_joined (product made (neg f)) (product-good made (neg f) a h.negated);
  }
