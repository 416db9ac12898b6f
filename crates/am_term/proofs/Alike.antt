-- The tests of sameness hold exactly of what is one.
use Rattle.std.proofs.Common.{◌≡◌, ◌&&◌, ◌==◌, ◌∙◌, ◌≢◌, ℕ, suc, Bool, true, false, refl, sym, ap, subst, arith, IsTrue, List, [], ◌∷◌, map, length}
use Rattle.std.specs.Bool.{beq}
use Rattle.std.proofs.lemmas.Bool.Decides.{nat_tests}
use Rattle.am_term.specs.declared.id.SortId.{SortId}
use Rattle.am_term.specs.declared.id.SymId.{SymId}
use Rattle.am_term.specs.declared.term.Term.{Term}
use Rattle.am_term.specs.declared.term.Term.TheOpen.{Term-F}
use Rattle.am_term.specs.declared.term.Term.TheViews.{out-Term, roll-Term, roll-out-Term}
use Rattle.am_term.specs.declared.term.Term.TheVariants.{Var, In, App, outs-Var, outs-In, outs-App, rolls-Var, rolls-In, rolls-App}
use Rattle.am_term.specs.declared.term.Atom.{Atom}
use Rattle.am_term.specs.declared.term.Atom.TheVariants.{Rel, Eq}
use Rattle.am_term.specs.declared.term.Literal.{Literal}
use Rattle.am_term.specs.Induct.{term_induct}
use Rattle.am_term.specs.Same.{is_var, is_in, is_app, same_term, same_terms, same_atom, same_literal, same_term-Var, same_term-In, same_term-App}
use Rattle.am_term.proofs.Tests.{and_left, and_right, and_both, and_false, fails, same_tests}

number-same : (n : ℕ) → (n == n) ≡ true
number-same n = grind (arith, nat_tests)

number-is : (n m : ℕ) → (n == m) ≡ true → n ≡ m
number-is n m e = grind (arith, nat_tests)

sort-is : (s t : SortId) → (s.0 == t.0) ≡ true → s ≡ t
sort-is s t e = ap (λ (i : ℕ). let r : SortId = record { 0 = i } in r) (number-is s.0 t.0 e)

symbol-is : (f g : SymId) → (f.0 == g.0) ≡ true → f ≡ g
symbol-is f g e = ap (λ (i : ℕ). let r : SymId = record { 0 = i } in r) (number-is f.0 g.0 e)

-- each is the same as itself

pub same_term-refl : (t : Term) → same_term t t ≡ true
same_term-refl = term_induct
    (λ t. same_term t t ≡ true)
    (λ ts. same_terms ts ts ≡ true)
    (λ n s. rw (same_term-Var, outs-Var) (and_both (n == n) (s.0 == s.0) (number-same n) (number-same s.0)))
    (λ k. rw (same_term-In, outs-In) (number-same k))
    (λ f args h. rw (same_term-App, outs-App) (and_both (f.0 == f.0) (same_terms args args) (number-same f.0) h))
    refl
    (λ t ts h k. and_both (same_term t t) (same_terms ts ts) h k)

pub same_terms-refl : (ts : List Term) → same_terms ts ts ≡ true
same_terms-refl [] = refl
same_terms-refl (t ∷ ts) = and_both (same_term t t) (same_terms ts ts) (same_term-refl t) (same_terms-refl ts)

-- what is the same is one

var-is : (n : ℕ) (s : SortId) (x : Term-F Term) → is_var n s x ≡ true → Var n s ≡ roll-Term x
var-is n s (Term-F.Var m t) e =
    rw rolls-Var (let a : n ≡ m = number-is n m (and_left (n == m) (s.0 == t.0) e) in
    let b : s ≡ t = sort-is s t (and_right (n == m) (s.0 == t.0) e) in cc)
var-is n s (Term-F.In k) e = absurd cc
var-is n s (Term-F.App g us) e = absurd cc

in-is : (k : ℕ) (x : Term-F Term) → is_in k x ≡ true → In k ≡ roll-Term x
in-is k (Term-F.Var m t) e = absurd cc
in-is k (Term-F.In j) e = rw rolls-In (ap In (number-is k j e))
in-is k (Term-F.App g us) e = absurd cc

app-is : (f : SymId) (args : List Term) → ((us : List Term) → same_terms args us ≡ true → args ≡ us) → (x : Term-F Term) → is_app f (map same_term args) x ≡ true → App f args ≡ roll-Term x
app-is f args h (Term-F.Var m t) e = absurd cc
app-is f args h (Term-F.In j) e = absurd cc
app-is f args h (Term-F.App g us) e =
    rw rolls-App (let a : f ≡ g = symbol-is f g (and_left (f.0 == g.0) (same_terms args us) e) in
    let b : args ≡ us = h us (and_right (f.0 == g.0) (same_terms args us) e) in ap (λ x. App x args) a ∙ ap (App g) b)

more-is : (t : Term) (ts : List Term) → ((u : Term) → same_term t u ≡ true → t ≡ u) → ((us : List Term) → same_terms ts us ≡ true → ts ≡ us) → (us : List Term) → same_terms (t ∷ ts) us ≡ true → (t ∷ ts) ≡ us
more-is t ts h k [] e = absurd cc
more-is t ts h k (u ∷ us) e =
    let a : t ≡ u = h u (and_left (same_term t u) (same_terms ts us) e) in
    let b : ts ≡ us = k us (and_right (same_term t u) (same_terms ts us) e) in
    ap (λ x. x ∷ ts) a ∙ ap (λ xs. u ∷ xs) b

none-is : (us : List Term) → same_terms [] us ≡ true → [] ≡ us
none-is [] e = refl
none-is (u ∷ us) e = absurd cc

pub same_term-sound : (t u : Term) → same_term t u ≡ true → t ≡ u
same_term-sound = term_induct
    (λ t. (u : Term) → same_term t u ≡ true → t ≡ u)
    (λ ts. (us : List Term) → same_terms ts us ≡ true → ts ≡ us)
    (λ n s u e. var-is n s (out-Term u) (sym (same_term-Var n s u) ∙ e) ∙ roll-out-Term u)
    (λ k u e. in-is k (out-Term u) (sym (same_term-In k u) ∙ e) ∙ roll-out-Term u)
    (λ f args h u e. app-is f args h (out-Term u) (sym (same_term-App f args u) ∙ e) ∙ roll-out-Term u)
    none-is
    more-is

pub same_terms-sound : (ts us : List Term) → same_terms ts us ≡ true → ts ≡ us
same_terms-sound [] = none-is
same_terms-sound (t ∷ ts) = more-is t ts (same_term-sound t) (same_terms-sound ts)

-- lists of other lengths are not the same
pub same_terms-count : (ts us : List Term) → length ts ≢ length us → same_terms ts us ≡ false
same_terms-count [] [] h = absurd (h refl)
same_terms-count [] (u ∷ us) h = refl
same_terms-count (t ∷ ts) [] h = refl
same_terms-count (t ∷ ts) (u ∷ us) h = ap (λ b. same_term t u && b) (same_terms-count ts us (λ e. h (ap suc e))) ∙ and_false (same_term t u)

-- lists that differ are not the same
pub same_terms-fails : (ts us : List Term) → ts ≢ us → same_terms ts us ≡ false
same_terms-fails ts us h = fails (same_terms ts us) (λ e. h (same_terms-sound ts us e))

-- a test that holds exactly where two terms are one
pub same_term-is : (b : Bool) (t u : Term) → (IsTrue b → t ≡ u) → (t ≡ u → IsTrue b) → b ≡ same_term t u
same_term-is b t u h k = same_tests b (same_term t u) (λ e. subst (λ x. same_term t x ≡ true) (h e) (same_term-refl t)) (λ e. k (same_term-sound t u e))

pub same_atom-refl : (a : Atom) → same_atom a a ≡ true
same_atom-refl (Rel r ts) = and_both (r.0 == r.0) (same_terms ts ts) (number-same r.0) (same_terms-refl ts)
same_atom-refl (Eq left right) = and_both (same_term left left) (same_term right right) (same_term-refl left) (same_term-refl right)

pub same_atom-sound : (a b : Atom) → same_atom a b ≡ true → a ≡ b
same_atom-sound (Rel r ts) (Rel q us) e =
    let a : r ≡ q = symbol-is r q (and_left (r.0 == q.0) (same_terms ts us) e) in
    let b : ts ≡ us = same_terms-sound ts us (and_right (r.0 == q.0) (same_terms ts us) e) in
    ap (λ x. Rel x ts) a ∙ ap (Rel q) b
same_atom-sound (Rel r ts) (Eq left right) e = absurd cc
same_atom-sound (Eq left right) (Rel q us) e = absurd cc
same_atom-sound (Eq left right) (Eq first second) e =
    let a : left ≡ first = same_term-sound left first (and_left (same_term left first) (same_term right second) e) in
    let b : right ≡ second = same_term-sound right second (and_right (same_term left first) (same_term right second) e) in
    ap (λ x. Eq x right) a ∙ ap (Eq first) b

sign-same : (b : Bool) → beq b b ≡ true
sign-same true = refl
sign-same false = refl

sign-is : (a b : Bool) → beq a b ≡ true → a ≡ b
sign-is true true e = refl
sign-is true false e = absurd cc
sign-is false true e = absurd cc
sign-is false false e = refl

pub same_literal-refl : (l : Literal) → same_literal l l ≡ true
same_literal-refl l = and_both (beq l.positive l.positive) (same_atom l.atom l.atom) (sign-same l.positive) (same_atom-refl l.atom)

pub same_literal-sound : (l m : Literal) → same_literal l m ≡ true → l ≡ m
same_literal-sound l m e =
    let a : l.positive ≡ m.positive = sign-is l.positive m.positive (and_left (beq l.positive m.positive) (same_atom l.atom m.atom) e) in
    let b : l.atom ≡ m.atom = same_atom-sound l.atom m.atom (and_right (beq l.positive m.positive) (same_atom l.atom m.atom) e) in
    ap (λ (p : Bool). let x : Literal = record { positive = p; atom = l.atom } in x) a ∙ ap (λ (c : Atom). let x : Literal = record { positive = m.positive; atom = c } in x) b
