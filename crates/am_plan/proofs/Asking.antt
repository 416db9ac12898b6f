-- What the terms of an answer ask for, term by term, and calls that are noted once.
use Rattle.std.proofs.Common.{◌≡◌, ◌∙◌, ◌==◌, ◌+◌, ◌<◌, ℕ, true, false, refl, ap, arith, None, List, [], ◌∷◌, ◌++◌, length, take, get_or, option_map}
use Rattle.std.specs.List.{flat_map}
use Rattle.std.proofs.lemmas.Grind.{common_steps}
use Rattle.std.proofs.lemmas.Bool.Decides.{nat_tests}
use Rattle.std.proofs.lemmas.List.{take_more, append-nil}
use Rattle.std.proofs.lemmas.List.Concat.{flat_map-append}
use Rattle.std.proofs.lemmas.List.Folds.{flat_map-map}
use Rattle.am_term.specs.declared.id.SortId.{SortId}
use Rattle.am_term.specs.declared.id.SymId.{SymId}
use Rattle.am_term.specs.declared.term.Term.{Term}
use Rattle.am_term.specs.declared.term.Term.TheViews.{the_lemmas}
use Rattle.am_term.specs.declared.term.Term.TheVariants.{Var, In, App, outs-Var, outs-In, outs-App}
use Rattle.am_term.specs.Fold.{para-Var, para-In, para-App}
use Rattle.am_term.specs.Same.{same_terms}
use Rattle.am_term.proofs.Alike.{same_terms-refl, same_terms-sound}
use Rattle.am_term.proofs.Tests.{and_left, and_right, and_both}
use Rattle.am_clause.specs.Distinct.{among, with_new}
use Rattle.am_clause.proofs.Firsts.{with_new-none, with_new-append, with_new-old, with_new-new, with_new-distinct}
use Rattle.am_theory.specs.declared.theory.Theory.{Theory}
use Rattle.am_plan.specs.declared.call.Callee.{Callee}
use Rattle.am_plan.specs.declared.call.Callee.TheVariants as callee
use Rattle.am_plan.specs.Calls.{PlannedCall, under_step, terms_below, completed, callee_of, call_with, call_at, call_of, listed_option, same_callee, same_call, asks_for, calls}

-- ---- the terms in a term
pub below-Var : (n : ℕ) (s : SortId) → terms_below (Var n s) ≡ []
unfolding terms_below
below-Var n s = para-Var (List Term) under_step n s

pub below-In : (k : ℕ) → terms_below (In k) ≡ []
unfolding terms_below
below-In k = para-In (List Term) under_step k

pub below-App : (f : SymId) (args : List Term) → terms_below (App f args) ≡ flat_map completed args
unfolding terms_below
below-App f args = para-App (List Term) under_step f args ∙ flat_map-map (λ (e : Term × List Term). e.1 ++ e.0 ∷ []) (λ (y : Term). (y, terms_below y)) args

-- ---- the call of a term
pub call_of-Var : (t : Theory) (n : ℕ) (s : SortId) → call_of t (Var n s) ≡ None
unfolding call_of
call_of-Var t n s = ap (call_at t) (outs-Var n s)

pub call_of-In : (t : Theory) (k : ℕ) → call_of t (In k) ≡ None
unfolding call_of
call_of-In t k = ap (call_at t) (outs-In k)

pub call_of-App : (t : Theory) (f : SymId) (args : List Term) → call_of t (App f args) ≡ option_map (call_with args) (callee_of t f)
unfolding call_of
call_of-App t f args = ap (call_at t) (outs-App f args)

-- ---- the calls that terms ask for
-- of one completed term
abbrev pub own : Theory → Term → List PlannedCall
own t x = listed_option (call_of t x)

pub asked-nil : (t : Theory) → asks_for t [] ≡ []
asked-nil t = refl

pub asked-append : (t : Theory) (xs ys : List Term) → asks_for t (xs ++ ys) ≡ asks_for t xs ++ asks_for t ys
asked-append t xs ys = ap (flat_map (own t)) (flat_map-append completed xs ys) ∙ flat_map-append (own t) (flat_map completed xs) (flat_map completed ys)

asked-one : (t : Theory) (x : Term) → asks_for t (x ∷ []) ≡ flat_map (own t) (terms_below x) ++ own t x
asked-one t x = ap (flat_map (own t)) (append-nil (completed x)) ∙ flat_map-append (own t) (terms_below x) (x ∷ []) ∙ ap (λ cs. flat_map (own t) (terms_below x) ++ cs) (append-nil (own t x))

pub asked-Var : (t : Theory) (n : ℕ) (s : SortId) → asks_for t (Var n s ∷ []) ≡ []
asked-Var t n s = asked-one t (Var n s) ∙ rw (below-Var n s, call_of-Var t n s) refl

pub asked-In : (t : Theory) (k : ℕ) → asks_for t (In k ∷ []) ≡ []
asked-In t k = asked-one t (In k) ∙ rw (below-In k, call_of-In t k) refl

pub asked-App : (t : Theory) (f : SymId) (args : List Term) → asks_for t (App f args ∷ []) ≡ asks_for t args ++ listed_option (option_map (call_with args) (callee_of t f))
asked-App t f args = asked-one t (App f args) ∙ rw (below-App f args, call_of-App t f args) refl

-- ---- when two calls are one
number-same : (n : ℕ) → (n == n) ≡ true
number-same n = grind (arith, nat_tests)

number-is : (n m : ℕ) → (n == m) ≡ true → n ≡ m
number-is n m e = grind (arith, nat_tests)

same_callee-refl : (a : Callee) → same_callee a a ≡ true
same_callee-refl (callee.Routine k) = number-same k
same_callee-refl (callee.Function k) = number-same k

same_callee-sound : (a b : Callee) → same_callee a b ≡ true → a ≡ b
same_callee-sound (callee.Routine j) (callee.Routine k) e = ap callee.Routine (number-is j k e)
same_callee-sound (callee.Routine j) (callee.Function k) e = absurd cc
same_callee-sound (callee.Function j) (callee.Routine k) e = absurd cc
same_callee-sound (callee.Function j) (callee.Function k) e = ap callee.Function (number-is j k e)

pub same_call-refl : (c : PlannedCall) → same_call c c ≡ true
same_call-refl c = and_both (same_callee c.callee c.callee) (same_terms c.args c.args) (same_callee-refl c.callee) (same_terms-refl c.args)

pub same_call-sound : (c e : PlannedCall) → same_call c e ≡ true → c ≡ e
same_call-sound c e h =
    let a : c.callee ≡ e.callee = same_callee-sound c.callee e.callee (and_left (same_callee c.callee e.callee) (same_terms c.args e.args) h) in
    let b : c.args ≡ e.args = same_terms-sound c.args e.args (and_right (same_callee c.callee e.callee) (same_terms c.args e.args) h) in
    ap (call_with c.args) a ∙ ap (λ (xs : List Term). call_with xs e.callee) b

-- ---- calls noted once
pub noted-none : (seen : List PlannedCall) → with_new same_call seen [] ≡ seen
noted-none = with_new-none same_call

pub noted-both : (seen cs es : List PlannedCall) → with_new same_call seen (cs ++ es) ≡ with_new same_call (with_new same_call seen cs) es
noted-both = with_new-append same_call

pub noted-old : (seen : List PlannedCall) (c : PlannedCall) → among same_call c seen ≡ true → with_new same_call seen (c ∷ []) ≡ seen
noted-old = with_new-old same_call

pub noted-new : (seen : List PlannedCall) (c : PlannedCall) → among same_call c seen ≡ false → with_new same_call seen (c ∷ []) ≡ seen ++ c ∷ []
noted-new = with_new-new same_call

-- one more term
pub terms-noted : (t : Theory) (seen : List PlannedCall) (xs : List Term) (i : ℕ) (d : Term) → i < length xs
    → with_new same_call seen (asks_for t (take (i + 1) xs)) ≡ with_new same_call (with_new same_call seen (asks_for t (take i xs))) (asks_for t (get_or xs i d ∷ []))
terms-noted t seen xs i d h =
    ap (λ (ys : List Term). with_new same_call seen (asks_for t ys)) (take_more xs i d h)
    ∙ ap (with_new same_call seen) (asked-append t (take i xs) (get_or xs i d ∷ []))
    ∙ noted-both seen (asks_for t (take i xs)) (asks_for t (get_or xs i d ∷ []))

pub all-noted : (t : Theory) (answer : List Term) → with_new same_call [] (asks_for t answer) ≡ calls t answer
unfolding calls
all-noted t answer = with_new-distinct same_call same_call-sound same_call-refl (asks_for t answer)

pub ruleset asking = (common_steps, nat_tests, the_lemmas, asked-nil, asked-Var, asked-In, asked-App, noted-none, noted-both, noted-old, noted-new, terms-noted, all-noted)
