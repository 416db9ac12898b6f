-- One column of the table of clauses at a time, by the sign that is asked for.
use Rattle.std.specs.Prelude.{◌≡◌, ◌++◌, ◌-◌, ◌^◌, ℕ, Bool, true, false, not, List, map, min}
use Rattle.std.specs.List.{flat_map}
use Rattle.am_term.specs.declared.term.Atom.{Atom}
use Rattle.am_term.specs.declared.term.Formula.{Formula}
use Rattle.am_term.specs.declared.term.Formula.TheVariants.{Atom as Atomic, Not, And, Or, Implies, Iff}
use Rattle.am_clause.specs.ClauseForm.{Lists, product, products, unit, pos, neg, pos-Atom, neg-Atom, pos-Not, neg-Not, pos-And, neg-And, pos-Or, neg-Or, pos-Implies, neg-Implies, pos-Iff, neg-Iff}

-- the clauses of a formula, or of its negation
unfoldable pub form_of : Bool → Formula → Lists
form_of true f = pos f
form_of false f = neg f

-- the clauses of some formulas, one after another
unfoldable pub forms : Bool → List Formula → Lists
forms sign fs = flat_map (form_of sign) fs

-- their product
unfoldable pub forms_product : Bool → List Formula → Lists
forms_product sign fs = products (map (form_of sign) fs)

-- a number that stands still at the end of 64 bits
unfoldable pub capped : ℕ → ℕ
capped n = min n (2 ^ 64 - 1)

pub form-Atom : (sign : Bool) (a : Atom) → form_of sign (Atomic a) ≡ unit sign a
unfolding form_of
form-Atom true a = pos-Atom a
form-Atom false a = neg-Atom a

pub form-Not : (sign : Bool) (f : Formula) → form_of sign (Not f) ≡ form_of (not sign) f
unfolding form_of
form-Not true f = pos-Not f
form-Not false f = neg-Not f

pub pos_form-And : (fs : List Formula) → form_of true (And fs) ≡ forms true fs
unfolding form_of forms
pos_form-And fs = pos-And fs

pub neg_form-And : (fs : List Formula) → form_of false (And fs) ≡ forms_product false fs
unfolding form_of forms_product
neg_form-And fs = neg-And fs

pub pos_form-Or : (fs : List Formula) → form_of true (Or fs) ≡ forms_product true fs
unfolding form_of forms_product
pos_form-Or fs = pos-Or fs

pub neg_form-Or : (fs : List Formula) → form_of false (Or fs) ≡ forms false fs
unfolding form_of forms
neg_form-Or fs = neg-Or fs

pub pos_form-Implies : (f g : Formula) → form_of true (Implies f g) ≡ product (form_of false f) (form_of true g)
unfolding form_of
pos_form-Implies f g = pos-Implies f g

pub neg_form-Implies : (f g : Formula) → form_of false (Implies f g) ≡ form_of true f ++ form_of false g
unfolding form_of
neg_form-Implies f g = neg-Implies f g

pub pos_form-Iff : (f g : Formula) → form_of true (Iff f g) ≡ product (form_of false f) (form_of true g) ++ product (form_of false g) (form_of true f)
unfolding form_of
pos_form-Iff f g = pos-Iff f g

pub neg_form-Iff : (f g : Formula) → form_of false (Iff f g) ≡ product (form_of true f) (form_of true g) ++ product (form_of false f) (form_of false g)
unfolding form_of
neg_form-Iff f g = neg-Iff f g

pub ruleset form_laws = (form-Atom, form-Not, pos_form-And, neg_form-And, pos_form-Or, neg_form-Or, pos_form-Implies, neg_form-Implies, pos_form-Iff, neg_form-Iff)
