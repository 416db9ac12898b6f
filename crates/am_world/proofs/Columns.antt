-- The clauses of a formula say what the formula says, and those of its negation the contrary.
use Rattle.std.proofs.Common.{◌≡◌, ◌∙◌, ◌&&◌, ◌||◌, ◌++◌, ℕ, Bool, true, false, not, refl, sym, ap, List, [], ◌∷◌, map}
use Rattle.std.specs.List.{list_any, list_all, flat_map, fold}
use Rattle.std.proofs.lemmas.List.Folds.{list_all-append, list_any-append, list_all-map}
use Rattle.am_term.specs.declared.term.Atom.{Atom}
use Rattle.am_term.specs.declared.term.Literal.{Literal}
use Rattle.am_term.specs.declared.term.Formula.{Formula}
use Rattle.am_term.specs.declared.term.Formula.TheVariants.{Atom as Atomic, Not, And, Or, Implies, Iff}
use Rattle.am_term.specs.FoldFormula.{fold-Atom, fold-Not, fold-And, fold-Or, fold-Implies, fold-Iff}
use Rattle.am_term.specs.InductFormula.{formula_induct}
use Rattle.am_term.proofs.Tests.{and_true, or_true, or_false, or_and, not_and, not_or, not_not}
use Rattle.am_clause.specs.ClauseForm.{Lists, followed, product, products, unit, pos, neg, pos-Atom, neg-Atom, pos-Not, neg-Not, pos-And, neg-And, pos-Or, neg-Or, pos-Implies, neg-Implies, pos-Iff, neg-Iff}
use Rattle.am_world.specs.Interpretation.{Interpretation}
use Rattle.am_world.specs.Value.{Assignment, atom_truth, literal_truth}
use Rattle.am_world.specs.Truth.{truth, truth_step, agree}

list_any-map : {X Y : Type 0} (p : Y → Bool) (f : X → Y) (xs : List X) → list_any p (map f xs) ≡ list_any (λ x. p (f x)) xs
list_any-map p f [] = refl
list_any-map p f (x ∷ xs) = ap (λ b. p (f x) || b) (list_any-map p f xs)

-- `&&` of two that share a part
shared : (x y z : Bool) → ((x || z) && (y || z)) ≡ ((x && y) || z)
shared true true z = refl
shared true false z = refl
shared false true true = refl
shared false true false = refl
shared false false true = refl
shared false false false = refl

both_ways : (x y : Bool) → ((not x || y) && (not y || x)) ≡ agree x y
both_ways true true = refl
both_ways true false = refl
both_ways false true = refl
both_ways false false = refl

neither_way : (x y : Bool) → ((x || y) && (not x || not y)) ≡ not (agree x y)
neither_way true true = refl
neither_way true false = refl
neither_way false true = refl
neither_way false false = refl

or_equal : (a b c d : Bool) → a ≡ b → c ≡ d → (a || c) ≡ (b || d)
or_equal a b c d e f = ap (λ x. x || c) e ∙ ap (λ x. b || x) f

and_equal : (a b c d : Bool) → a ≡ b → c ≡ d → (a && c) ≡ (b && d)
and_equal a b c d e f = ap (λ x. x && c) e ∙ ap (λ x. b && x) f

module _ (w : Interpretation) (ins : List ℕ) (a : Assignment) where
  abbrev holds : Formula → Bool
  holds = truth w ins a

  -- a clause is true where a literal is
  abbrev pub some_true : List Literal → Bool
  some_true ls = list_any (literal_truth w ins a) ls

  -- all clauses are true
  abbrev pub all_true : Lists → Bool
  all_true cs = list_all some_true cs

  truth-Atom : (atom : Atom) → holds (Atomic atom) ≡ atom_truth w ins a atom
  unfolding truth
  truth-Atom = fold-Atom Bool (truth_step w ins a)

  truth-Not : (f : Formula) → holds (Not f) ≡ not (holds f)
  unfolding truth
  truth-Not = fold-Not Bool (truth_step w ins a)

  truth-And : (fs : List Formula) → holds (And fs) ≡ list_all holds fs
  unfolding truth
  truth-And fs = fold-And Bool (truth_step w ins a) fs ∙ list_all-map (λ b. b) holds fs

  truth-Or : (fs : List Formula) → holds (Or fs) ≡ list_any holds fs
  unfolding truth
  truth-Or fs = fold-Or Bool (truth_step w ins a) fs ∙ list_any-map (λ b. b) holds fs

  truth-Implies : (f g : Formula) → holds (Implies f g) ≡ (not (holds f) || holds g)
  unfolding truth
  truth-Implies = fold-Implies Bool (truth_step w ins a)

  truth-Iff : (f g : Formula) → holds (Iff f g) ≡ agree (holds f) (holds g)
  unfolding truth
  truth-Iff = fold-Iff Bool (truth_step w ins a)

  -- products

  followed-truth : (c : List Literal) (bs : Lists) → all_true (followed c bs) ≡ (some_true c || all_true bs)
  unfolding followed
  followed-truth c [] = sym (or_true (some_true c))
  followed-truth c (b ∷ bs) =
      and_equal (some_true (c ++ b)) (some_true c || some_true b) (all_true (followed c bs)) (some_true c || all_true bs) (list_any-append (literal_truth w ins a) c b) (followed-truth c bs)
      ∙ sym (or_and (some_true c) (some_true b) (all_true bs))

  append-truth : (as_ bs : Lists) → all_true (as_ ++ bs) ≡ (all_true as_ && all_true bs)
  append-truth = list_all-append some_true

  product-truth : (as_ bs : Lists) → all_true (product as_ bs) ≡ (all_true as_ || all_true bs)
  unfolding product
  product-truth [] bs = refl
  product-truth (c ∷ as_) bs =
      append-truth (followed c bs) (product as_ bs)
      ∙ (and_equal (all_true (followed c bs)) (some_true c || all_true bs) (all_true (product as_ bs)) (all_true as_ || all_true bs) (followed-truth c bs) (product-truth as_ bs)
      ∙ shared (some_true c) (all_true as_) (all_true bs))

  unit_pos-truth : (atom : Atom) → all_true (unit true atom) ≡ atom_truth w ins a atom
  unfolding unit
  unit_pos-truth atom = and_true (atom_truth w ins a atom || false) ∙ or_false (atom_truth w ins a atom)

  unit_neg-truth : (atom : Atom) → all_true (unit false atom) ≡ not (atom_truth w ins a atom)
  unfolding unit
  unit_neg-truth atom = and_true (not (atom_truth w ins a atom) || false) ∙ or_false (not (atom_truth w ins a atom))

  -- both columns

  record IsRead (f : Formula) : Type 0 where
    affirmed : all_true (pos f) ≡ holds f
    denied : all_true (neg f) ≡ not (holds f)

  record AreRead (fs : List Formula) : Type 0 where
    affirmed : all_true (flat_map pos fs) ≡ list_all holds fs
    denied : all_true (flat_map neg fs) ≡ not (list_any holds fs)
    some : (made : Lists) → all_true (fold product made (map pos fs)) ≡ (all_true made || list_any holds fs)
    none : (made : Lists) → all_true (fold product made (map neg fs)) ≡ (all_true made || not (list_all holds fs))

  read_and : (fs : List Formula) → AreRead fs → IsRead (And fs)
  unfolding products
  read_and fs h = record {
    affirmed = ap all_true (pos-And fs) ∙ (h.affirmed ∙ sym (truth-And fs));
    denied = ap all_true (neg-And fs) ∙ (h.none ([] ∷ []) ∙ sym (ap not (truth-And fs)));
  }

  read_or : (fs : List Formula) → AreRead fs → IsRead (Or fs)
  unfolding products
  read_or fs h = record {
    affirmed = ap all_true (pos-Or fs) ∙ (h.some ([] ∷ []) ∙ sym (truth-Or fs));
    denied = ap all_true (neg-Or fs) ∙ (h.denied ∙ sym (ap not (truth-Or fs)));
  }

  -- the truth of a product of two columns
  pair : (as_ bs : Lists) (x y : Bool) → all_true as_ ≡ x → all_true bs ≡ y → all_true (product as_ bs) ≡ (x || y)
  pair as_ bs x y e f = product-truth as_ bs ∙ or_equal (all_true as_) x (all_true bs) y e f

  pairs : (as_ bs cs ds : Lists) (x y z u : Bool) → all_true as_ ≡ x → all_true bs ≡ y → all_true cs ≡ z → all_true ds ≡ u → all_true (product as_ bs ++ product cs ds) ≡ ((x || y) && (z || u))
  pairs as_ bs cs ds x y z u e f g h = append-truth (product as_ bs) (product cs ds) ∙ and_equal (all_true (product as_ bs)) (x || y) (all_true (product cs ds)) (z || u) (pair as_ bs x y e f) (pair cs ds z u g h)

  read_implies : (f g : Formula) → IsRead f → IsRead g → IsRead (Implies f g)
  read_implies f g h k = record {
    affirmed = ap all_true (pos-Implies f g) ∙ (pair (neg f) (pos g) (not (holds f)) (holds g) h.denied k.affirmed ∙ sym (truth-Implies f g));
    denied = ap all_true (neg-Implies f g) ∙ (append-truth (pos f) (neg g) ∙ (and_equal (all_true (pos f)) (holds f) (all_true (neg g)) (not (holds g)) h.affirmed k.denied
        ∙ sym (ap not (truth-Implies f g) ∙ (not_or (not (holds f)) (holds g) ∙ ap (λ b. b && not (holds g)) (not_not (holds f))))));
  }

  read_iff : (f g : Formula) → IsRead f → IsRead g → IsRead (Iff f g)
  read_iff f g h k = record {
    affirmed = ap all_true (pos-Iff f g) ∙ (pairs (neg f) (pos g) (neg g) (pos f) (not (holds f)) (holds g) (not (holds g)) (holds f) h.denied k.affirmed k.denied h.affirmed
        ∙ (both_ways (holds f) (holds g) ∙ sym (truth-Iff f g)));
    denied = ap all_true (neg-Iff f g) ∙ (pairs (pos f) (pos g) (neg f) (neg g) (holds f) (holds g) (not (holds f)) (not (holds g)) h.affirmed k.affirmed h.denied k.denied
        ∙ (neither_way (holds f) (holds g) ∙ sym (ap not (truth-Iff f g))));
  }

  grouped : (x y z : Bool) → ((x || y) || z) ≡ (x || (y || z))
  grouped true y z = refl
  grouped false y z = refl

  read_more : (f : Formula) (fs : List Formula) → IsRead f → AreRead fs → AreRead (f ∷ fs)
  read_more f fs h k = record {
    affirmed = append-truth (pos f) (flat_map pos fs) ∙ and_equal (all_true (pos f)) (holds f) (all_true (flat_map pos fs)) (list_all holds fs) h.affirmed k.affirmed;
    denied = append-truth (neg f) (flat_map neg fs) ∙ (and_equal (all_true (neg f)) (not (holds f)) (all_true (flat_map neg fs)) (not (list_any holds fs)) h.denied k.denied ∙ sym (not_or (holds f) (list_any holds fs)));
    some = λ made. k.some (product made (pos f)) ∙ (ap (λ b. b || list_any holds fs) (pair made (pos f) (all_true made) (holds f) refl h.affirmed) ∙ grouped (all_true made) (holds f) (list_any holds fs));
    none = λ made. k.none (product made (neg f)) ∙ (ap (λ b. b || not (list_all holds fs)) (pair made (neg f) (all_true made) (not (holds f)) refl h.denied)
        ∙ (grouped (all_true made) (not (holds f)) (not (list_all holds fs)) ∙ ap (λ b. all_true made || b) (sym (not_and (holds f) (list_all holds fs)))));
  }

  read : (f : Formula) → IsRead f
  read = formula_induct IsRead AreRead
      (λ atom. record {
        affirmed = ap all_true (pos-Atom atom) ∙ (unit_pos-truth atom ∙ sym (truth-Atom atom));
        denied = ap all_true (neg-Atom atom) ∙ (unit_neg-truth atom ∙ sym (ap not (truth-Atom atom)));
      })
      (λ f h. record {
        affirmed = ap all_true (pos-Not f) ∙ (h.denied ∙ sym (truth-Not f));
        denied = ap all_true (neg-Not f) ∙ (h.affirmed ∙ sym (ap not (truth-Not f) ∙ not_not (holds f)));
      })
      read_and read_or read_implies read_iff
      (record { affirmed = refl; denied = refl; some = λ made. sym (or_false (all_true made)); none = λ made. sym (or_false (all_true made)) })
      read_more

  -- all clauses of a formula are true exactly where it is
  pub pos-truth : (f : Formula) → all_true (pos f) ≡ truth w ins a f
  pos-truth f = (read f).affirmed
