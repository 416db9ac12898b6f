-- Lists without repetitions under a likeness, made one member at a time; and what is declared.
use Rattle.std.proofs.Common.{◌≡◌, ◌∙◌, ◌&&◌, ◌||◌, ◌+◌, ◌<◌, ℕ, Bool, true, false, not, refl, sym, ap, subst, Some, None, List, [], ◌∷◌, ◌++◌, length, take, get_or, map, if◌then◌else◌}
use Rattle.std.specs.List.{filter, list_any, flat_map}
use Rattle.std.specs.Str.{bytes_eq}
use Rattle.std.proofs.lemmas.Grind.{common_steps}
use Rattle.std.proofs.lemmas.Bool.Decides.{nat_tests}
use Rattle.std.proofs.lemmas.List.{append-nil, append_assoc, take_more, map-append}
use Rattle.std.proofs.lemmas.List.Concat.{flat_map-append}
use Rattle.std.proofs.lemmas.List.Folds.{list_any-append}
use Rattle.am_term.specs.declared.id.SortId.{SortId}
use Rattle.am_term.specs.declared.id.SymId.{SymId}
use Rattle.am_term.specs.declared.term.Term.{Term}
use Rattle.am_term.specs.declared.term.Term.TheViews.{out-Term, the_lemmas}
use Rattle.am_term.specs.declared.term.Term.TheVariants.{Var, In, App, outs-Var, outs-In, outs-App}
use Rattle.am_term.specs.NameLists.{is_among}
use Rattle.am_term.proofs.Tests.{and_left, and_both, not_or, or_false, never_both, same_tests, fails, not_false, true_not}
use Rattle.am_clause.specs.Distinct.{among, distinct, with_new}
use Rattle.am_clause.proofs.Firsts.{filters, filters_agree, filter_all, with_new-none, with_new-append, with_new-old, with_new-new}
use Rattle.am_exec.proofs.Held.{eq_is, eq_same}
use Rattle.am_fortran.specs.declared.statement.Decl.{Decl}
use Rattle.am_theory.specs.declared.theory.FortranFunction.{FortranFunction}
use Rattle.am_theory.specs.declared.theory.Theory.{Theory}
use Rattle.am_plan.specs.Plan.{head_symbol, function_at, same_function, functions_used, called_function_decl}
use Rattle.am_plan.specs.Calls.{PlannedCall}

-- ---- lists without repetitions under a likeness
module _ {X : Type 0} (like : X → X → Bool) (back : (x y : X) → like x y ≡ true → like y x ≡ true) (through : (x y z : X) → like x y ≡ true → like x z ≡ true → like y z ≡ true) where
  -- being new to a list
  abbrev new_to : List X → X → Bool
  new_to seen y = not (among like y seen)

  turned : (x y : X) → like x y ≡ like y x
  turned x y = same_tests (like x y) (like y x) (back x y) (back y x)

  among_like : (x y : X) → like x y ≡ true → (seen : List X) → among like x seen ≡ true → among like y seen ≡ true
  among_like x y e [] h = h
  among_like x y e (z ∷ seen) h = by_test (like x z) refl (among_like x y e seen)
    where
      either : (b : Bool) → among like y seen ≡ true → (b || among like y seen) ≡ true
      either true g = refl
      either false g = g

      by_test : (b : Bool) → like x z ≡ b → (among like x seen ≡ true → among like y seen ≡ true) → (like y z || among like y seen) ≡ true
      by_test true f later = rw (through x y z e f) refl
      by_test false f later = either (like y z) (later (rw f at h))

  old : (seen : List X) (x : X) → among like x seen ≡ true → (y : X) → new_to seen y ≡ (new_to seen y && not (like x y))
  old seen x h y = same_tests (new_to seen y) (new_to seen y && not (like x y))
      (λ e. and_both (new_to seen y) (not (like x y)) e (not_false (like x y) (fails (like x y) (λ f. never_both (among like y seen) (among_like x y f seen h) (true_not (among like y seen) e)))))
      (and_left (new_to seen y) (not (like x y)))

  new : (seen : List X) (x y : X) → new_to (seen ++ x ∷ []) y ≡ (new_to seen y && not (like x y))
  new seen x y = ap not (list_any-append (like y) seen (x ∷ []) ∙ ap (λ b. among like y seen || b) (or_false (like y x) ∙ turned y x)) ∙ not_or (among like y seen) (like x y)

  abbrev Grown : List X → List X → Type 0
  Grown seen xs = with_new like seen xs ≡ seen ++ filter (new_to seen) (distinct like xs)

  grown_more : (seen : List X) (x : X) (xs : List X) → ((ys : List X) → Grown ys xs) → (b : Bool) → among like x seen ≡ b → Grown seen (x ∷ xs)
  unfolding with_new
  grown_more seen x xs h true e = rw e (h seen
      ∙ ap (λ ys. seen ++ ys) (filters_agree (new_to seen) (λ y. new_to seen y && not (like x y)) (old seen x e) (distinct like xs)
      ∙ sym (filters (new_to seen) (λ y. not (like x y)) (distinct like xs))))
  grown_more seen x xs h false e = rw e (h (seen ++ x ∷ [])
      ∙ append_assoc seen (x ∷ []) (filter (new_to (seen ++ x ∷ [])) (distinct like xs))
      ∙ ap (λ ys. seen ++ x ∷ ys) (filters_agree (new_to (seen ++ x ∷ [])) (λ y. new_to seen y && not (like x y)) (new seen x) (distinct like xs)
      ∙ sym (filters (new_to seen) (λ y. not (like x y)) (distinct like xs))))

  grown : (seen xs : List X) → Grown seen xs
  unfolding with_new
  grown seen [] = sym (append-nil seen)
  grown seen (x ∷ xs) = grown_more seen x xs (λ ys. grown ys xs) (among like x seen) refl

  -- from nothing, the list without repetitions
  pub all-distinct : (xs : List X) → with_new like [] xs ≡ distinct like xs
  all-distinct xs = grown [] xs ∙ filter_all (new_to []) (λ y. refl) (distinct like xs)

-- ---- functions with one name
function-back : (f g : FortranFunction) → same_function f g ≡ true → same_function g f ≡ true
function-back f g e = subst (λ (n : List ℕ). bytes_eq n f.name ≡ true) (eq_is f.name g.name e) (eq_same f.name)

function-through : (f g h : FortranFunction) → same_function f g ≡ true → same_function f h ≡ true → same_function g h ≡ true
function-through f g h e k = subst (λ (n : List ℕ). bytes_eq n h.name ≡ true) (eq_is f.name g.name e) k

-- those that calls use so far
abbrev pub used : Theory → List PlannedCall → List FortranFunction
used t cs = with_new same_function [] (flat_map (λ (c : PlannedCall). function_at t c.callee) cs)

pub used-all : (t : Theory) (cs : List PlannedCall) → used t cs ≡ functions_used t cs
used-all t cs = all-distinct same_function function-back function-through (flat_map (λ (c : PlannedCall). function_at t c.callee) cs)

pub used-more : (t : Theory) (cs : List PlannedCall) (i : ℕ) (d : PlannedCall) → i < length cs → used t (take (i + 1) cs) ≡ with_new same_function (used t (take i cs)) (function_at t (get_or cs i d).callee)
used-more t cs i d h =
    let one : PlannedCall → List FortranFunction = λ (c : PlannedCall). function_at t c.callee in
    ap (used t) (take_more cs i d h)
    ∙ ap (with_new same_function []) (flat_map-append one (take i cs) (get_or cs i d ∷ []) ∙ ap (λ fs. flat_map one (take i cs) ++ fs) (append-nil (one (get_or cs i d))))
    ∙ with_new-append same_function [] (flat_map one (take i cs)) (one (get_or cs i d))

-- ---- their declarations
named-among : (t : Theory) (n : List ℕ) (fs : List FortranFunction) → is_among n (map (λ (e : Decl). e.name) (map (called_function_decl t) fs)) ≡ list_any (λ (g : FortranFunction). bytes_eq n g.name) fs
named-among t n [] = refl
named-among t n (f ∷ fs) = ap (λ b. bytes_eq n f.name || b) (named-among t n fs)

-- one more function
pub declared-one : (t : Theory) (fs : List FortranFunction) (f : FortranFunction) → (if is_among f.name (map (λ (e : Decl). e.name) (map (called_function_decl t) fs)) then map (called_function_decl t) fs else map (called_function_decl t) fs ++ called_function_decl t f ∷ []) ≡ map (called_function_decl t) (with_new same_function fs (f ∷ []))
declared-one t fs f = by_test (among same_function f fs) refl
  where
    by_test : (b : Bool) → among same_function f fs ≡ b → (if is_among f.name (map (λ (e : Decl). e.name) (map (called_function_decl t) fs)) then map (called_function_decl t) fs else map (called_function_decl t) fs ++ called_function_decl t f ∷ []) ≡ map (called_function_decl t) (with_new same_function fs (f ∷ []))
    by_test true e = rw (named-among t f.name fs, e) (ap (map (called_function_decl t)) (sym (with_new-old same_function fs f e)))
    by_test false e = rw (named-among t f.name fs, e) (sym (map-append (called_function_decl t) fs (f ∷ [])) ∙ ap (map (called_function_decl t)) (sym (with_new-new same_function fs f e)))

pub declared-none : (t : Theory) (fs : List FortranFunction) → with_new same_function fs [] ≡ fs
declared-none t = with_new-none same_function

-- ---- the declaration of a local
pub head-Var : (n : ℕ) (s : SortId) → head_symbol (out-Term (Var n s)) ≡ None
head-Var n s = ap head_symbol (outs-Var n s)

pub head-In : (k : ℕ) → head_symbol (out-Term (In k)) ≡ None
head-In k = ap head_symbol (outs-In k)

pub head-App : (f : SymId) (args : List Term) → head_symbol (out-Term (App f args)) ≡ Some f
head-App f args = ap head_symbol (outs-App f args)

pub ruleset declaring = (common_steps, nat_tests, the_lemmas, head-Var, head-In, head-App, map-append, used-all, used-more, declared-one, declared-none)
