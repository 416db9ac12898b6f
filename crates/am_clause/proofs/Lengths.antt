-- The count is the number of clauses.
use Rattle.std.proofs.Common.{◌≡◌, ◌∙◌, ◌+◌, ◌*◌, ℕ, suc, Bool, true, false, refl, sym, ap, arith, List, [], ◌∷◌, ◌++◌, length, map, sum}
use Rattle.std.specs.List.{flat_map, fold}
use Rattle.std.proofs.Math.Nat.{suc-mul, zero-mul}
use Rattle.std.proofs.lemmas.List.{length-append, length-map}
use Rattle.std.proofs.lemmas.List.Concat.{length-flat_map}
use Rattle.std.proofs.lemmas.List.Sums.{sum-map}
use Rattle.am_term.specs.declared.term.Atom.{Atom}
use Rattle.am_term.specs.declared.term.Literal.{Literal}
use Rattle.am_term.specs.declared.term.Formula.{Formula}
use Rattle.am_term.specs.InductFormula.{formula_induct}
use Rattle.am_clause.specs.ClauseForm.{Lists, followed, product, products, unit, pos, neg, cnf, merged_clause, pos-Atom, neg-Atom, pos-Not, neg-Not, pos-And, neg-And, pos-Or, neg-Or, pos-Implies, neg-Implies, pos-Iff, neg-Iff}
use Rattle.am_clause.specs.Renaming.{renumbered}
use Rattle.am_clause.specs.Count.{count, count_negated, multiplied, count-Atom, negated-Atom, count-Not, negated-Not, count-And, negated-And, count-Or, negated-Or, count-Implies, negated-Implies, count-Iff, negated-Iff}

suc_times : (n m : ℕ) → m + n * m ≡ suc n * m
suc_times n m = rw suc-mul (omega arith)

length-followed : (a : List Literal) (bs : Lists) → length (followed a bs) ≡ length bs
unfolding followed
length-followed a bs = length-map bs (λ b. a ++ b)

length-product : (as_ bs : Lists) → length (product as_ bs) ≡ length as_ * length bs
unfolding product
length-product [] bs = sym (zero-mul (length bs))
length-product (a ∷ as_) bs = length-append (followed a bs) (product as_ bs) ∙ (ap (λ n. n + length (product as_ bs)) (length-followed a bs) ∙ (ap (λ n. length bs + n) (length-product as_ bs) ∙ suc_times (length as_) (length bs)))

-- all the lists multiplied, from a first one
lengths-product : (made : Lists) (ls : List Lists) → length (fold product made ls) ≡ fold (λ m n. m * n) (length made) (map length ls)
lengths-product made [] = refl
lengths-product made (l ∷ ls) = lengths-product (product made l) ls ∙ ap (λ n. fold (λ m n. m * n) n (map length ls)) (length-product made l)

length-products : (ls : List Lists) → length (products ls) ≡ multiplied (map length ls)
unfolding products multiplied
length-products ls = lengths-product ([] ∷ []) ls

lengths : {X : Type 0} (f : X → Lists) (xs : List X) → length (flat_map f xs) ≡ sum (map (λ x. length (f x)) xs)
lengths f xs = length-flat_map f xs ∙ sym (sum-map (λ x. length (f x)) xs)

maps : {A B C : Type 0} (g : B → C) (f : A → B) (xs : List A) → map g (map f xs) ≡ map (λ x. g (f x)) xs
maps g f [] = refl
maps g f (x ∷ xs) = ap (λ ys. g (f x) ∷ ys) (maps g f xs)

pub record IsCounted (f : Formula) : Type 0 where
  pub pos : count f ≡ length (pos f)
  pub neg : count_negated f ≡ length (neg f)

pub record AreCounted (fs : List Formula) : Type 0 where
  pub pos : map count fs ≡ map (λ f. length (pos f)) fs
  pub neg : map count_negated fs ≡ map (λ f. length (neg f)) fs

length-unit : (sign : Bool) (a : Atom) → length (unit sign a) ≡ 1
unfolding unit
length-unit sign a = refl

times_equal : (a b c d : ℕ) → a ≡ b → c ≡ d → a * c ≡ b * d
times_equal a b c d e f = ap (λ n. n * c) e ∙ ap (λ n. b * n) f

plus_equal : (a b c d : ℕ) → a ≡ b → c ≡ d → a + c ≡ b + d
plus_equal a b c d e f = ap (λ n. n + c) e ∙ ap (λ n. b + n) f

-- two products, one after the other
two_products : (a b c d : ℕ) (as_ bs cs ds : Lists) → a ≡ length as_ → b ≡ length bs → c ≡ length cs → d ≡ length ds → a * b + c * d ≡ length (product as_ bs ++ product cs ds)
two_products a b c d as_ bs cs ds e f g h =
    plus_equal (a * b) (length (product as_ bs)) (c * d) (length (product cs ds))
    (times_equal a (length as_) b (length bs) e f ∙ sym (length-product as_ bs))
    (times_equal c (length cs) d (length ds) g h ∙ sym (length-product cs ds))
    ∙ sym (length-append (product as_ bs) (product cs ds))

pub all_counted : (f : Formula) → IsCounted f
all_counted = formula_induct IsCounted AreCounted
    (λ a. record { pos = count-Atom a ∙ sym (ap length (pos-Atom a) ∙ length-unit true a); neg = negated-Atom a ∙ sym (ap length (neg-Atom a) ∙ length-unit false a) })
    (λ f h. record { pos = count-Not f ∙ h.neg ∙ sym (ap length (pos-Not f)); neg = negated-Not f ∙ h.pos ∙ sym (ap length (neg-Not f)) })
    (λ fs h. record {
      pos = count-And fs ∙ ap sum h.pos ∙ sym (ap length (pos-And fs) ∙ lengths pos fs);
      neg = negated-And fs ∙ ap multiplied h.neg ∙ sym (ap length (neg-And fs) ∙ (length-products (map neg fs) ∙ ap multiplied (maps length neg fs)));
    })
    (λ fs h. record {
      pos = count-Or fs ∙ ap multiplied h.pos ∙ sym (ap length (pos-Or fs) ∙ (length-products (map pos fs) ∙ ap multiplied (maps length pos fs)));
      neg = negated-Or fs ∙ ap sum h.neg ∙ sym (ap length (neg-Or fs) ∙ lengths neg fs);
    })
    (λ f g h k. record {
      pos = count-Implies f g ∙ times_equal (count_negated f) (length (neg f)) (count g) (length (pos g)) h.neg k.pos ∙ sym (ap length (pos-Implies f g) ∙ length-product (neg f) (pos g));
      neg = negated-Implies f g ∙ plus_equal (count f) (length (pos f)) (count_negated g) (length (neg g)) h.pos k.neg ∙ sym (ap length (neg-Implies f g) ∙ length-append (pos f) (neg g));
    })
    (λ f g h k. record {
      pos = count-Iff f g ∙ two_products (count_negated f) (count g) (count_negated g) (count f) (neg f) (pos g) (neg g) (pos f) h.neg k.pos k.neg h.pos ∙ sym (ap length (pos-Iff f g));
      neg = negated-Iff f g ∙ two_products (count f) (count g) (count_negated f) (count_negated g) (pos f) (pos g) (neg f) (neg g) h.pos k.pos h.neg k.neg ∙ sym (ap length (neg-Iff f g));
    })
    (record { pos = refl; neg = refl })
    (λ f fs h k. record {
      pos = ap (λ n. n ∷ map count fs) h.pos ∙ ap (λ ns. length (pos f) ∷ ns) k.pos;
      neg = ap (λ n. n ∷ map count_negated fs) h.neg ∙ ap (λ ns. length (neg f) ∷ ns) k.neg;
    })

pub count-length : (f : Formula) → count f ≡ length (cnf f)
unfolding cnf
count-length f = (all_counted f).pos ∙ sym (length-map (pos f) (λ ls. renumbered (merged_clause ls)))
