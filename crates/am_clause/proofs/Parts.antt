-- Building clauses, one part at a time.
use Rattle.std.proofs.Common.{◌≡◌, ◌∙◌, ◌⊎◌, inl, inr, ◌+◌, ◌<◌, ℕ, zero, suc, Bool, true, false, refl, sym, ap, arith, List, [], ◌∷◌, ◌++◌, length, map, take, get_or}
use Rattle.std.specs.Prelude.{Option, Some, None, slice_get, remove, ◌==◌, nat_lt}
use Rattle.std.specs.List.{flat_map, fold, list_any}
use Rattle.std.proofs.lemmas.Grind.{common_steps}
use Rattle.std.proofs.lemmas.Bool.{or_parts}
use Rattle.std.proofs.lemmas.Bool.Decides.{nat_tests}
use Rattle.std.proofs.lemmas.List.{take_more, map_more, append-nil}
use Rattle.std.proofs.lemmas.List.Concat.{flat_map-append}
use Rattle.std.proofs.lemmas.List.Folds.{list_any_at}
use Rattle.std.proofs.lemmas.List.Sums.{fold_push}
use Rattle.am_term.specs.declared.term.Atom.{Atom}
use Rattle.am_term.specs.declared.term.Literal.{Literal}
use Rattle.am_term.specs.declared.term.Formula.{Formula}
use Rattle.am_term.specs.declared.term.Formula.TheViews.{the_lemmas}
use Rattle.am_term.specs.Same.{same_literal}
use Rattle.am_term.proofs.Tests.{or_cases, never_both}
use Rattle.am_clause.specs.Distinct.{with_new}
use Rattle.am_clause.specs.ClauseForm.{Lists, followed, product, products, unit, pos, neg}
use Rattle.am_clause.specs.Count.{count, count_negated}
use Rattle.am_clause.specs.Forms.{form_of, forms, forms_product, capped, form_laws}
use Rattle.am_clause.specs.Bounded.{widened_by, widened, is_long, fitted, bounded, both, fitted_product, are_none, none_among}
use Rattle.am_clause.proofs.Bounds.{bounded-append, bounded-product}
use Rattle.am_clause.proofs.Lengths.{all_counted}
use Rattle.am_clause.proofs.Sizes.{sizes}

-- where the count is 0 there are no clauses
counted_none : (cs : Lists) (n : ℕ) → n ≡ length cs → are_none cs ≡ (capped n == 0)
unfolding are_none capped
counted_none [] n e = grind (arith, nat_tests)
counted_none (c ∷ cs) n e = grind (arith, nat_tests)

pub none-pos : (f : Formula) → are_none (form_of true f) ≡ (capped (count f) == 0)
unfolding form_of
none-pos f = counted_none (pos f) (count f) (all_counted f).pos

pub none-neg : (f : Formula) → are_none (form_of false f) ≡ (capped (count_negated f) == 0)
unfolding form_of
none-neg f = counted_none (neg f) (count_negated f) (all_counted f).neg

flat-more : {X Y : Type 0} (f : X → List Y) (xs : List X) (i : ℕ) (d : X) → i < length xs → flat_map f (take (i + 1) xs) ≡ flat_map f (take i xs) ++ f (get_or xs i d)
flat-more f xs i d h = ap (flat_map f) (take_more xs i d h) ∙ flat_map-append f (take i xs) (get_or xs i d ∷ []) ∙ ap (λ ys. flat_map f (take i xs) ++ ys) (append-nil (f (get_or xs i d)))

forms-more : (sign : Bool) (fs : List Formula) (i : ℕ) (d : Formula) → i < length fs → forms sign (take (i + 1) fs) ≡ forms sign (take i fs) ++ form_of sign (get_or fs i d)
unfolding forms
forms-more sign fs i d h = flat-more (form_of sign) fs i d h

forms_product-more : (sign : Bool) (fs : List Formula) (i : ℕ) (d : Formula) → i < length fs → forms_product sign (take (i + 1) fs) ≡ product (forms_product sign (take i fs)) (form_of sign (get_or fs i d))
unfolding forms_product products
forms_product-more sign fs i d h = ap (fold product ([] ∷ [])) (map_more (form_of sign) fs i d h) ∙ fold_push product ([] ∷ []) (map (form_of sign) (take i fs)) (form_of sign (get_or fs i d))

-- the clauses of parts, one after another
pub joined-none : (most : ℕ) (sign : Bool) → bounded most (forms sign []) ≡ Some []
unfolding bounded fitted forms
joined-none most sign = refl

pub joined-more : (most : ℕ) (sign : Bool) (fs : List Formula) (i : ℕ) (d : Formula) → i < length fs
    → bounded most (forms sign (take (i + 1) fs)) ≡ both (bounded most (forms sign (take i fs))) (bounded most (form_of sign (get_or fs i d)))
joined-more most sign fs i d h = ap (bounded most) (forms-more sign fs i d h) ∙ bounded-append most (forms sign (take i fs)) (form_of sign (get_or fs i d))

-- no clauses of a part, or some of each
nothing_times : (as_ : Lists) → product as_ [] ≡ []
unfolding product followed
nothing_times [] = refl
nothing_times (a ∷ as_) = nothing_times as_

none_is : (cs : Lists) → are_none cs ≡ true → cs ≡ []
unfolding are_none
none_is [] e = refl
none_is (c ∷ cs) e = absurd cc

bounded-nil : (most : ℕ) → bounded most [] ≡ Some []
unfolding bounded fitted
bounded-nil most = refl

pub none-left : (most : ℕ) (as_ bs : Lists) → are_none as_ ≡ true → bounded most (product as_ bs) ≡ Some []
unfolding product
none-left most as_ bs e = ap (λ cs. bounded most (product cs bs)) (none_is as_ e) ∙ bounded-nil most

pub none-right : (most : ℕ) (as_ bs : Lists) → are_none bs ≡ true → bounded most (product as_ bs) ≡ Some []
none-right most as_ bs e = ap (λ cs. bounded most (product as_ cs)) (none_is bs e) ∙ (ap (bounded most) (nothing_times as_) ∙ bounded-nil most)

some_times : (as_ bs : Lists) → are_none as_ ≡ false → are_none bs ≡ false → are_none (product as_ bs) ≡ false
unfolding product followed are_none
some_times [] bs h k = h
some_times (a ∷ as_) [] h k = absurd cc
some_times (a ∷ as_) (b ∷ bs) h k = refl

stays_nothing : (ls : List Lists) → fold product [] ls ≡ []
unfolding product
stays_nothing [] = refl
stays_nothing (l ∷ ls) = stays_nothing ls

-- the product from a first factor on
nothing_from : (sign : Bool) (made : Lists) (fs : List Formula) → none_among sign fs ≡ true → fold product made (map (form_of sign) fs) ≡ []
unfolding none_among
nothing_from sign made [] e = absurd cc
nothing_from sign made (f ∷ fs) e = by (or_cases (are_none (form_of sign f)) (none_among sign fs) e) (nothing_from sign (product made (form_of sign f)) fs)
  where
    by : (are_none (form_of sign f) ≡ true) ⊎ (none_among sign fs ≡ true) → (none_among sign fs ≡ true → fold product (product made (form_of sign f)) (map (form_of sign) fs) ≡ [])
        → fold product (product made (form_of sign f)) (map (form_of sign) fs) ≡ []
    by (inl p) h = ap (λ cs. fold product (product made cs) (map (form_of sign) fs)) (none_is (form_of sign f) p) ∙ (ap (λ cs. fold product cs (map (form_of sign) fs)) (nothing_times made) ∙ stays_nothing (map (form_of sign) fs))
    by (inr p) h = h p

some_from : (sign : Bool) (made : Lists) (fs : List Formula) (i : ℕ) → are_none made ≡ false → none_among sign fs ≡ false → are_none (fold product made (map (form_of sign) (take i fs))) ≡ false
unfolding none_among
some_from sign made [] zero h e = h
some_from sign made [] (suc i) h e = h
some_from sign made (f ∷ fs) zero h e = h
some_from sign made (f ∷ fs) (suc i) h e =
    let k : (are_none (form_of sign f) ≡ false) × (none_among sign fs ≡ false) = or_parts (are_none (form_of sign f)) (none_among sign fs) e in
    some_from sign (product made (form_of sign f)) fs i (some_times made (form_of sign f) h k.0) k.1

some_at : (sign : Bool) (fs : List Formula) (i : ℕ) (d : Formula) → i < length fs → none_among sign fs ≡ false → are_none (form_of sign (get_or fs i d)) ≡ false
unfolding none_among
some_at sign fs i d h e = by (are_none (form_of sign (get_or fs i d))) refl
  where
    by : (b : Bool) → are_none (form_of sign (get_or fs i d)) ≡ b → are_none (form_of sign (get_or fs i d)) ≡ false
    by true f = never_both (list_any (λ f. are_none (form_of sign f)) fs) (list_any_at (λ f. are_none (form_of sign f)) fs i d h f) e
    by false f = f

-- the product of the clauses of parts
pub multiplied-none : (most : ℕ) (sign : Bool) (fs : List Formula) → none_among sign fs ≡ true → bounded most (forms_product sign fs) ≡ Some []
unfolding forms_product products
multiplied-none most sign fs e = ap (bounded most) (nothing_from sign ([] ∷ []) fs e) ∙ bounded-nil most

pub multiplied-start : (most : ℕ) (sign : Bool) → bounded most (forms_product sign []) ≡ Some ([] ∷ [])
unfolding bounded fitted forms_product products
multiplied-start most sign = let e : nat_lt most 0 ≡ false = grind (arith, nat_tests) in rw e refl

pub multiplied-more : (most : ℕ) (sign : Bool) (fs : List Formula) (i : ℕ) (d : Formula) → i < length fs → none_among sign fs ≡ false
    → bounded most (forms_product sign (take (i + 1) fs)) ≡ fitted_product most (bounded most (forms_product sign (take i fs))) (bounded most (form_of sign (get_or fs i d)))
unfolding forms_product products are_none
multiplied-more most sign fs i d h e = ap (bounded most) (forms_product-more sign fs i d h)
    ∙ bounded-product most (forms_product sign (take i fs)) (form_of sign (get_or fs i d)) (some_from sign ([] ∷ []) fs i refl e) (some_at sign fs i d h e)

-- one literal
pub bounded-unit : (most : ℕ) (sign : Bool) (a : Atom) → 0 < most → bounded most (unit sign a) ≡ Some (unit sign a)
unfolding bounded fitted unit
bounded-unit most sign a h = let e : nat_lt most 1 ≡ false = grind (arith, nat_tests) in rw e refl

pub bounded-no_unit : (most : ℕ) (sign : Bool) (a : Atom) → most ≡ 0 → bounded most (unit sign a) ≡ None
unfolding bounded fitted unit
bounded-no_unit most sign a h = rw h refl

pub fitted-long : (most : ℕ) (cs : Lists) → list_any (is_long most) cs ≡ true → fitted most cs ≡ None
unfolding fitted
fitted-long most cs e = rw e refl

pub fitted-not_long : (most : ℕ) (cs : Lists) → list_any (is_long most) cs ≡ false → fitted most cs ≡ Some cs
unfolding fitted
fitted-not_long most cs e = rw e refl

pub both-none : (bs : Option Lists) → both None bs ≡ None
unfolding both
both-none bs = refl

pub both-one : (as_ : Lists) → both (Some as_) None ≡ None
unfolding both
both-one as_ = refl

pub both-there : (as_ bs : Lists) → both (Some as_) (Some bs) ≡ Some (as_ ++ bs)
unfolding both
both-there as_ bs = refl

pub fitted_product-none : (most : ℕ) (bs : Option Lists) → fitted_product most None bs ≡ None
unfolding fitted_product
fitted_product-none most bs = refl

pub fitted_product-one : (most : ℕ) (as_ : Lists) → fitted_product most (Some as_) None ≡ None
unfolding fitted_product
fitted_product-one most as_ = refl

pub fitted_product-there : (most : ℕ) (as_ bs : Lists) → fitted_product most (Some as_) (Some bs) ≡ fitted most (widened as_ bs)
unfolding fitted_product
fitted_product-there most as_ bs = refl

pub widened-none : (bs : Lists) → widened [] bs ≡ []
unfolding widened
widened-none bs = refl

pub widened-more : (as_ bs : Lists) (i : ℕ) (d : List Literal) → i < length as_ → widened (take (i + 1) as_) bs ≡ widened (take i as_) bs ++ widened_by (get_or as_ i d) bs
unfolding widened
widened-more as_ bs i d h = flat-more (λ a. widened_by a bs) as_ i d h

-- a factor of one clause
pub widened-extended : (a b : List Literal) (as_ : Lists) → widened (a ∷ as_) (b ∷ []) ≡ with_new same_literal a b ∷ widened as_ (b ∷ [])
unfolding widened widened_by
widened-extended a b as_ = refl

pub first_clause : (as_ bs : Lists) (a : List Literal) → slice_get as_ 0 ≡ Some a → bs ≡ remove as_ 0 → as_ ≡ a ∷ bs
first_clause [] bs a e d = absurd cc
first_clause (b ∷ as_) bs a e d = let h : b ≡ a = cc in ap (λ (z : List Literal). z ∷ as_) h ∙ ap (λ (zs : Lists). a ∷ zs) (sym d)

pub widened_by-none : (a : List Literal) → widened_by a [] ≡ []
unfolding widened_by
widened_by-none a = refl

pub widened_by-more : (a : List Literal) (bs : Lists) (i : ℕ) (d : List Literal) → i < length bs → widened_by a (take (i + 1) bs) ≡ widened_by a (take i bs) ++ with_new same_literal a (get_or bs i d) ∷ []
unfolding widened_by
widened_by-more a bs i d h = map_more (with_new same_literal a) bs i d h

pub ruleset building = (sizes, common_steps, the_lemmas, form_laws, bounded-append, bounded-product, none-left, none-right, joined-none, joined-more, multiplied-none, multiplied-start, multiplied-more)

pub ruleset guarding = (common_steps, none-pos, none-neg)

pub ruleset fitting = (common_steps, bounded-unit, bounded-no_unit, fitted-long, fitted-not_long)

pub ruleset joining = (common_steps, both-none, both-one, both-there, fitted_product-none, fitted_product-one, fitted_product-there)

pub ruleset extending = (common_steps, widened-none, widened-extended, first_clause)

pub ruleset multiplying = (common_steps, widened-none, widened-more, widened_by-none, widened_by-more)
