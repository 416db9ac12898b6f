-- The terms that an answer goes through: each is well sorted and computable, and has its arguments among
-- them; and each call is of one of them.
use Rattle.std.proofs.Common.{◌≡◌, ◌∙◌, ◌⊎◌, inl, inr, ◌&&◌, ◌||◌, ◌==◌, ◌+◌, ◌<◌, ◌++◌, ℕ, zero, suc, Bool, true, false, cond, refl, sym, ap, subst, arith, Option, Some, None, List, [], ◌∷◌, length, map, slice_get, slice_index_or, is_some, find, option_map, true≢false, if◌then◌else◌}
use Rattle.std.specs.List.{AllByRecursion, Contains, flat_map, list_all, list_any}
use Rattle.std.proofs.lemmas.Bool.Decides.{nat_tests}
use Rattle.am_term.specs.declared.id.SortId.{SortId}
use Rattle.am_term.specs.declared.id.SymId.{SymId}
use Rattle.am_term.specs.declared.kind.SymKind.{SymKind}
use Rattle.am_term.specs.declared.kind.SymKind.TheVariants as kind
use Rattle.am_term.specs.declared.symbol.Symbol.{Symbol}
use Rattle.am_term.specs.declared.signature.Signature.{Signature}
use Rattle.am_term.specs.declared.term.Term.{Term}
use Rattle.am_term.specs.declared.term.Term.TheVariants.{Var, In, App}
use Rattle.am_term.specs.Fold.{fold-Var, fold-App}
use Rattle.am_term.specs.Induct.{term_induct, term_cases}
use Rattle.am_term.specs.Place.{args_of, args_of-Var, args_of-In, args_of-App}
use Rattle.am_term.specs.Sorting.{fits_place, fit_places, result_at, sort_of, sorts_of as sorts_of_terms, sort_of-App}
use Rattle.am_term.specs.Symbols.{is_computable}
use Rattle.am_term.proofs.Tests.{and_left, and_right, or_cases, or_left, or_right}
use Rattle.am_clause.proofs.Members.{any-distinct}
use Rattle.am_clause.specs.Final.{is_computable_symbol}
use Rattle.am_theory.specs.declared.theory.Routine.{Routine}
use Rattle.am_theory.specs.declared.theory.FortranFunction.{FortranFunction}
use Rattle.am_theory.specs.declared.theory.LiteralDecl.{LiteralDecl}
use Rattle.am_theory.specs.declared.theory.Theory.{Theory}
use Rattle.am_theory.specs.Facts.{WellFormed}
use Rattle.am_plan.specs.declared.call.Callee.{Callee}
use Rattle.am_plan.specs.declared.call.Callee.TheVariants as callee
use Rattle.am_plan.specs.Answers.{ready_step, is_ready}
use Rattle.am_plan.specs.Calls.{PlannedCall, terms_below, completed, has_symbol, first_there, routine_from, function_from, callee_of, call_with, listed_option, same_call, asks_for, calls, outputs_made, value_made, made_at, made_by, made}
use Rattle.am_theory.specs.Lookups.{literal_declared}
use Rattle.am_plan.proofs.Asking.{below-Var, below-In, below-App, call_of-Var, call_of-In, call_of-App, own, same_call-refl, same_call-sound}
use Rattle.am_plan.proofs.Membership.{Among, among-left, among-right, among-split, among-map, among-flat, flat-among}

-- ---- readiness
ready-Var : (sig : Signature) (n : ℕ) (s : SortId) → is_ready sig (Var n s) ≡ false
unfolding is_ready
ready-Var sig n s = fold-Var Bool (ready_step sig) n s

ready-App : (sig : Signature) (f : SymId) (args : List Term) → is_ready sig (App f args) ≡ (is_computable_symbol (slice_get sig.symbols f.0) && list_all (λ b. b) (map (is_ready sig) args))
unfolding is_ready
ready-App sig f args = fold-App Bool (ready_step sig) f args

-- ---- a well-sorted term that a program can compute
pub record Good (t : Theory) (ins : List SortId) (x : Term) : Type 0 where
  pub sorted : is_some (sort_of t.sig ins x) ≡ true
  pub ready : is_ready t.sig x ≡ true

-- a symbol at as many good terms as it has places
pub record Applied (t : Theory) (ins : List SortId) (f : SymId) (args : List Term) : Type 0 where
  pub symbol : Symbol
  pub there : slice_get t.sig.symbols f.0 ≡ Some symbol
  pub computable : is_computable symbol.kind ≡ true
  pub fits : fit_places t.sig (sorts_of_terms t.sig ins args) symbol.args ≡ true
  pub good : AllByRecursion (Good t ins) args

place-some : (sig : Signature) (o : Option SortId) (p : SortId) → fits_place sig o p ≡ true → is_some o ≡ true
place-some sig None p e = absurd (true≢false (sym e))
place-some sig (Some s) p e = refl

module _ (t : Theory) (ins : List SortId) where
  pub fit-count : (xs : List Term) (ps : List SortId) → fit_places t.sig (sorts_of_terms t.sig ins xs) ps ≡ true → length xs ≡ length ps
  fit-count [] [] e = refl
  fit-count [] (p ∷ ps) e = absurd (true≢false (sym e))
  fit-count (x ∷ xs) [] e = absurd (true≢false (sym e))
  fit-count (x ∷ xs) (p ∷ ps) e = ap suc (fit-count xs ps (and_right (fits_place t.sig (sort_of t.sig ins x) p) (fit_places t.sig (sorts_of_terms t.sig ins xs) ps) e))

  good-args : (xs : List Term) (ps : List SortId) → fit_places t.sig (sorts_of_terms t.sig ins xs) ps ≡ true → list_all (λ b. b) (map (is_ready t.sig) xs) ≡ true → AllByRecursion (Good t ins) xs
  good-args [] ps e r = tt
  good-args (x ∷ xs) [] e r = absurd (true≢false (sym e))
  good-args (x ∷ xs) (p ∷ ps) e r =
      let one = fits_place t.sig (sort_of t.sig ins x) p in
      let rest = fit_places t.sig (sorts_of_terms t.sig ins xs) ps in
      let ready = list_all (λ b. b) (map (is_ready t.sig) xs) in (
        record { sorted = place-some t.sig (sort_of t.sig ins x) p (and_left one rest e); ready = and_left (is_ready t.sig x) ready r },
        good-args xs ps (and_right one rest e) (and_right (is_ready t.sig x) ready r),
      )

  result-fits : (y : Symbol) (b : Bool) → is_some (if b then y.result else None) ≡ true → b ≡ true
  result-fits y true e = refl
  result-fits y false e = absurd (true≢false (sym e))

  pub applied : (f : SymId) (args : List Term) → Good t ins (App f args) → Applied t ins f args
  applied f args g = by_symbol (slice_get t.sig.symbols f.0) refl
      (ap is_some (sym (sort_of-App t.sig ins f args)) ∙ g.sorted)
      (sym (ready-App t.sig f args) ∙ g.ready)
    where
      by_symbol : (o : Option Symbol) → slice_get t.sig.symbols f.0 ≡ o → is_some (result_at t.sig (slice_get t.sig.symbols f.0) (sorts_of_terms t.sig ins args)) ≡ true
          → (is_computable_symbol (slice_get t.sig.symbols f.0) && list_all (λ b. b) (map (is_ready t.sig) args)) ≡ true → Applied t ins f args
      by_symbol None at s r = let c : false ≡ true = sym (ap is_computable_symbol at) ∙ and_left (is_computable_symbol (slice_get t.sig.symbols f.0)) (list_all (λ b. b) (map (is_ready t.sig) args)) r in absurd (true≢false (sym c))
      by_symbol (Some y) at s r =
          let e : fit_places t.sig (sorts_of_terms t.sig ins args) y.args ≡ true = result-fits y (fit_places t.sig (sorts_of_terms t.sig ins args) y.args) (ap (λ (o : Option Symbol). is_some (result_at t.sig o (sorts_of_terms t.sig ins args))) (sym at) ∙ s) in
          record {
            symbol = y;
            there = at;
            computable = sym (ap is_computable_symbol at) ∙ and_left (is_computable_symbol (slice_get t.sig.symbols f.0)) (list_all (λ b. b) (map (is_ready t.sig) args)) r;
            fits = e;
            good = good-args args y.args e (and_right (is_computable_symbol (slice_get t.sig.symbols f.0)) (list_all (λ b. b) (map (is_ready t.sig) args)) r);
          }

  pub not-ready : (n : ℕ) (s : SortId) → Good t ins (Var n s) → ⊥
  not-ready n s g = true≢false (sym g.ready ∙ ready-Var t.sig n s)

-- ---- terms in terms
one-of : {A : Type 0} (x y : A) → Among x (y ∷ []) → x ≡ y
one-of {A = A} x y (inl e) = e
one-of {A = A} x y (inr h) = absurd h

completed-cases : (z x : Term) → Among z (completed x) → Among z (terms_below x) ⊎ (z ≡ x)
completed-cases z x m = by_side (among-split z (terms_below x) (x ∷ []) m)
  where
    by_side : Among z (terms_below x) ⊎ Among z (x ∷ []) → Among z (terms_below x) ⊎ (z ≡ x)
    by_side (inl a) = inl a
    by_side (inr b) = inr (one-of z x b)

pub completed-self : (x : Term) → Among x (completed x)
completed-self x = among-right x (terms_below x) (x ∷ []) (inl refl)

pub self-among : (a : Term) (xs : List Term) → Among a xs → Among a (flat_map completed xs)
self-among a xs m = among-flat completed a a xs m (completed-self a)

none-below : {P : Type 0} (z x : Term) → terms_below x ≡ [] → Among z (terms_below x) → P
none-below {P = P} z x e m = absurd (subst (λ (ys : List Term). Among z ys) e m)

-- what is below a good term is good
module _ (t : Theory) (ins : List SortId) where
  abbrev GoodBelow : Term → Type 0
  GoodBelow x = Good t ins x → (z : Term) → Among z (terms_below x) → Good t ins z

  abbrev AllGood : List Term → Type 0
  AllGood xs = AllByRecursion (Good t ins) xs → (z : Term) → Among z (flat_map completed xs) → Good t ins z

  good-more : (x : Term) (xs : List Term) → GoodBelow x → AllGood xs → AllGood (x ∷ xs)
  good-more x xs h k g z m = by_side (among-split z (completed x) (flat_map completed xs) m)
    where
      here : Among z (terms_below x) ⊎ (z ≡ x) → Good t ins z
      here (inl a) = h g.0 z a
      here (inr e) = subst (Good t ins) (sym e) g.0

      by_side : Among z (completed x) ⊎ Among z (flat_map completed xs) → Good t ins z
      by_side (inl a) = here (completed-cases z x a)
      by_side (inr b) = k g.1 z b

  good-below : (x : Term) → GoodBelow x
  good-below = term_induct GoodBelow AllGood
      (λ n s g z m. none-below z (Var n s) (below-Var n s) m)
      (λ k g z m. none-below z (In k) (below-In k) m)
      (λ f args h g z m. h (applied t ins f args g).good z (subst (λ (ys : List Term). Among z ys) (below-App f args) m))
      (λ g z m. absurd m)
      good-more

  pub all-good : (xs : List Term) → AllGood xs
  all-good [] = λ g z m. absurd m
  all-good (x ∷ xs) = good-more x xs (good-below x) (all-good xs)

-- the arguments of what is completed are completed before it
abbrev ArgsBelow : Term → Type 0
ArgsBelow x = (z a : Term) → Among z (completed x) → Among a (args_of z) → Among a (terms_below x)

abbrev ArgsAmong : List Term → Type 0
ArgsAmong xs = (z a : Term) → Among z (flat_map completed xs) → Among a (args_of z) → Among a (flat_map completed xs)

args-leaf : (x : Term) → terms_below x ≡ [] → args_of x ≡ [] → ArgsBelow x
args-leaf x e f z a m n = by_side (completed-cases z x m)
  where
    by_side : Among z (terms_below x) ⊎ (z ≡ x) → Among a (terms_below x)
    by_side (inl b) = none-below z x e b
    by_side (inr is) = absurd (subst (λ (ys : List Term). Among a ys) (ap args_of is ∙ f) n)

args-app : (f : SymId) (args : List Term) → ArgsAmong args → ArgsBelow (App f args)
args-app f args h z a m n = subst (λ (ys : List Term). Among a ys) (sym (below-App f args)) (by_side (completed-cases z (App f args) m))
  where
    by_side : Among z (terms_below (App f args)) ⊎ (z ≡ App f args) → Among a (flat_map completed args)
    by_side (inl b) = h z a (subst (λ (ys : List Term). Among z ys) (below-App f args) b) n
    by_side (inr is) = self-among a args (subst (λ (ys : List Term). Among a ys) (ap args_of is ∙ args_of-App f args) n)

args-more : (x : Term) (xs : List Term) → ArgsBelow x → ArgsAmong xs → ArgsAmong (x ∷ xs)
args-more x xs h k z a m n = by_side (among-split z (completed x) (flat_map completed xs) m)
  where
    by_side : Among z (completed x) ⊎ Among z (flat_map completed xs) → Among a (completed x ++ flat_map completed xs)
    by_side (inl b) = among-left a (completed x) (flat_map completed xs) (among-left a (terms_below x) (x ∷ []) (h z a b n))
    by_side (inr b) = among-right a (completed x) (flat_map completed xs) (k z a b n)

args-below : (x : Term) → ArgsBelow x
args-below = term_induct ArgsBelow ArgsAmong
    (λ n s. args-leaf (Var n s) (below-Var n s) (args_of-Var n s))
    (λ k. args-leaf (In k) (below-In k) (args_of-In k))
    args-app
    (λ z a m n. absurd m)
    args-more

pub args-among : (xs : List Term) → ArgsAmong xs
args-among [] = λ z a m n. absurd m
args-among (x ∷ xs) = args-more x xs (args-below x) (args-among xs)

-- ---- calls
calls-any : (t : Theory) (answer : List Term) (p : PlannedCall → Bool) → list_any p (calls t answer) ≡ list_any p (asks_for t answer)
unfolding calls
calls-any t answer p = any-distinct same_call same_call-sound same_call-refl p (asks_for t answer)

among-true : (c : PlannedCall) (cs : List PlannedCall) → Among c cs → list_any (same_call c) cs ≡ true
among-true c [] m = absurd m
among-true c (e ∷ es) (inl is) = rw (subst (λ (x : PlannedCall). same_call c x ≡ true) is (same_call-refl c)) refl
among-true c (e ∷ es) (inr m) = either (same_call c e) (among-true c es m)
  where
    either : (b : Bool) → list_any (same_call c) es ≡ true → (b || list_any (same_call c) es) ≡ true
    either true g = refl
    either false g = g

true-among : (c : PlannedCall) (cs : List PlannedCall) → list_any (same_call c) cs ≡ true → Among c cs
true-among c [] e = absurd (true≢false (sym e))
true-among c (x ∷ xs) e = by_side (or_cases (same_call c x) (list_any (same_call c) xs) e) (true-among c xs)
  where
    by_side : (same_call c x ≡ true) ⊎ (list_any (same_call c) xs ≡ true) → (list_any (same_call c) xs ≡ true → Among c xs) → Among c (x ∷ xs)
    by_side (inl is) later = inl (same_call-sound c x is)
    by_side (inr m) later = inr (later m)

pub asked-called : (t : Theory) (answer : List Term) (c : PlannedCall) → Among c (asks_for t answer) → Among c (calls t answer)
asked-called t answer c m = true-among c (calls t answer) (calls-any t answer (same_call c) ∙ among-true c (asks_for t answer) m)

pub called-asked : (t : Theory) (answer : List Term) (c : PlannedCall) → Among c (calls t answer) → Among c (asks_for t answer)
called-asked t answer c m = true-among c (asks_for t answer) (sym (calls-any t answer (same_call c)) ∙ among-true c (calls t answer) m)

-- a call is that of a term that is gone through
pub record IsCallOf (t : Theory) (answer : List Term) (c : PlannedCall) : Type 0 where
  pub symbol : SymId
  pub there : Among (App symbol c.args) (flat_map completed answer)
  pub called : callee_of t symbol ≡ Some c.callee

own-call : (t : Theory) (answer : List Term) (c : PlannedCall) (z : Term) → Among z (flat_map completed answer) → Among c (own t z) → IsCallOf t answer c
own-call t answer c = term_cases (λ z. Among z (flat_map completed answer) → Among c (own t z) → IsCallOf t answer c)
    (λ n s m o. absurd (subst (λ (y : Option PlannedCall). Among c (listed_option y)) (call_of-Var t n s) o))
    (λ k m o. absurd (subst (λ (y : Option PlannedCall). Among c (listed_option y)) (call_of-In t k) o))
    (λ f args m o. by_callee f args m (callee_of t f) refl (subst (λ (y : Option PlannedCall). Among c (listed_option y)) (call_of-App t f args) o))
  where
    by_callee : (f : SymId) (args : List Term) → Among (App f args) (flat_map completed answer) → (k : Option Callee) → callee_of t f ≡ k → Among c (listed_option (option_map (call_with args) (callee_of t f))) → IsCallOf t answer c
    by_callee f args m None e o = absurd (subst (λ (y : Option Callee). Among c (listed_option (option_map (call_with args) y))) e o)
    by_callee f args m (Some k) e o =
        let is : c ≡ call_with args k = one-of c (call_with args k) (subst (λ (y : Option Callee). Among c (listed_option (option_map (call_with args) y))) e o) in
        record {
          symbol = f;
          there = subst (λ (x : PlannedCall). Among (App f x.args) (flat_map completed answer)) (sym is) m;
          called = e ∙ ap (λ (x : PlannedCall). Some x.callee) (sym is);
        }

pub call-of : (t : Theory) (answer : List Term) (c : PlannedCall) → Among c (calls t answer) → IsCallOf t answer c
call-of t answer c m = let r = flat-among (own t) c (flat_map completed answer) (called-asked t answer c m) in own-call t answer c r.0 r.1 r.2

-- ---- what computes a symbol
symbol-is : (f g : SymId) → (f.0 == g.0) ≡ true → f ≡ g
symbol-is f g e = let n : f.0 ≡ g.0 = grind (arith, nat_tests) in ap (λ (i : ℕ). let r : SymId = record { 0 = i } in r) n

symbol-same : (f : SymId) (g : SymId) → f.0 ≡ g.0 → (f.0 == g.0) ≡ true
symbol-same f g e = grind (arith, nat_tests)

has-among : (f : SymId) (gs : List SymId) → has_symbol f gs ≡ true → Among f gs
has-among f [] e = absurd (true≢false (sym e))
has-among f (g ∷ gs) e = by_side (or_cases (f.0 == g.0) (has_symbol f gs) e) (has-among f gs)
  where
    by_side : ((f.0 == g.0) ≡ true) ⊎ (has_symbol f gs ≡ true) → (has_symbol f gs ≡ true → Among f gs) → Among f (g ∷ gs)
    by_side (inl is) later = inl (symbol-is f g is)
    by_side (inr m) later = inr (later m)

-- the routine at a place has the symbol
pub record RoutineAt (f : SymId) (k : ℕ) (rs : List Routine) (c : Callee) : Type 0 where
  pub index : ℕ
  pub routine : Routine
  pub is : c ≡ callee.Routine (k + index)
  pub there : slice_get rs index ≡ Some routine
  pub has : Among f routine.outputs

routine-later : (f : SymId) (k : ℕ) (r : Routine) (rs : List Routine) (c : Callee) → RoutineAt f (k + 1) rs c → RoutineAt f k (r ∷ rs) c
routine-later f k r rs c a = record { index = suc a.index; routine = a.routine; is = a.is ∙ ap callee.Routine (omega arith); there = a.there; has = a.has }

routine-at : (f : SymId) (k : ℕ) (rs : List Routine) (c : Callee) → routine_from k f rs ≡ Some c → RoutineAt f k rs c
routine-at f k [] c e = absurd cc
routine-at f k (r ∷ rs) c e = by_test (has_symbol f r.outputs) refl e (routine-at f (k + 1) rs c)
  where
    by_test : (b : Bool) → has_symbol f r.outputs ≡ b → cond (has_symbol f r.outputs) (Some (callee.Routine k)) (routine_from (k + 1) f rs) ≡ Some c → (routine_from (k + 1) f rs ≡ Some c → RoutineAt f (k + 1) rs c) → RoutineAt f k (r ∷ rs) c
    by_test true h i later =
        let j : Some (callee.Routine k) ≡ Some c = sym (ap (λ (b : Bool). cond b (Some (callee.Routine k)) (routine_from (k + 1) f rs)) h) ∙ i in
        let is : callee.Routine k ≡ c = cc in
        record { index = 0; routine = r; is = sym is ∙ ap callee.Routine (omega arith); there = refl; has = has-among f r.outputs h }
    by_test false h i later = routine-later f k r rs c (later (sym (ap (λ (b : Bool). cond b (Some (callee.Routine k)) (routine_from (k + 1) f rs)) h) ∙ i))

-- the function at a place has the symbol
pub record FunctionAt (f : SymId) (k : ℕ) (gs : List FortranFunction) (c : Callee) : Type 0 where
  pub index : ℕ
  pub function : FortranFunction
  pub is : c ≡ callee.Function (k + index)
  pub there : slice_get gs index ≡ Some function
  pub has : f ≡ function.symbol

function-later : (f : SymId) (k : ℕ) (g : FortranFunction) (gs : List FortranFunction) (c : Callee) → FunctionAt f (k + 1) gs c → FunctionAt f k (g ∷ gs) c
function-later f k g gs c a = record { index = suc a.index; function = a.function; is = a.is ∙ ap callee.Function (omega arith); there = a.there; has = a.has }

function-at : (f : SymId) (k : ℕ) (gs : List FortranFunction) (c : Callee) → function_from k f gs ≡ Some c → FunctionAt f k gs c
function-at f k [] c e = absurd cc
function-at f k (g ∷ gs) c e = by_test (f.0 == g.symbol.0) refl e (function-at f (k + 1) gs c)
  where
    by_test : (b : Bool) → (f.0 == g.symbol.0) ≡ b → cond (f.0 == g.symbol.0) (Some (callee.Function k)) (function_from (k + 1) f gs) ≡ Some c → (function_from (k + 1) f gs ≡ Some c → FunctionAt f (k + 1) gs c) → FunctionAt f k (g ∷ gs) c
    by_test true h i later =
        let j : Some (callee.Function k) ≡ Some c = sym (ap (λ (b : Bool). cond b (Some (callee.Function k)) (function_from (k + 1) f gs)) h) ∙ i in
        let is : callee.Function k ≡ c = cc in
        record { index = 0; function = g; is = sym is ∙ ap callee.Function (omega arith); there = refl; has = symbol-is f g.symbol h }
    by_test false h i later = function-later f k g gs c (later (sym (ap (λ (b : Bool). cond b (Some (callee.Function k)) (function_from (k + 1) f gs)) h) ∙ i))

-- what computes a symbol is a routine or a listed function of it
pub callee-at : (t : Theory) (f : SymId) (c : Callee) → callee_of t f ≡ Some c → RoutineAt f 0 t.routines c ⊎ FunctionAt f 0 t.functions c
unfolding callee_of
callee-at t f c e = by_routine (routine_from 0 f t.routines) refl e
  where
    by_routine : (o : Option Callee) → routine_from 0 f t.routines ≡ o → first_there (routine_from 0 f t.routines) (function_from 0 f t.functions) ≡ Some c → RoutineAt f 0 t.routines c ⊎ FunctionAt f 0 t.functions c
    by_routine None h i = inr (function-at f 0 t.functions c (sym (ap (λ (o : Option Callee). first_there o (function_from 0 f t.functions)) h) ∙ i))
    by_routine (Some x) h i =
        let j : Some x ≡ Some c = sym (ap (λ (o : Option Callee). first_there o (function_from 0 f t.functions)) h) ∙ i in
        inl (routine-at f 0 t.routines c (h ∙ j))

-- ---- what a call makes
pub made-has : (t : Theory) (f : SymId) (args : List Term) (c : Callee) → callee_of t f ≡ Some c → Among (App f args) (made_at t args c)
made-has t f args c e = by_kind (callee-at t f c e)
  where
    by_kind : RoutineAt f 0 t.routines c ⊎ FunctionAt f 0 t.functions c → Among (App f args) (made_at t args c)
    by_kind (inl r) =
        let is : c ≡ callee.Routine r.index = r.is ∙ ap callee.Routine (omega arith) in
        subst (λ (k : Callee). Among (App f args) (made_at t args k)) (sym is)
        (subst (λ (o : Option Routine). Among (App f args) (outputs_made args o)) (sym r.there) (among-map (λ (g : SymId). App g args) f r.routine.outputs r.has))
    by_kind (inr g) =
        let is : c ≡ callee.Function g.index = g.is ∙ ap callee.Function (omega arith) in
        subst (λ (k : Callee). Among (App f args) (made_at t args k)) (sym is)
        (subst (λ (o : Option FortranFunction). Among (App f args) (value_made args o)) (sym g.there) (inl (ap (λ (s : SymId). App s args) g.has)))

-- ---- a symbol that a program can compute is a literal's, or there is something to call
contained : {A : Type 0} (x : A) (xs : List A) → Contains xs x → Among x xs
contained {A = A} x xs c = at xs c.0 c.1 c.2
  where
    at : (ys : List A) (k : ℕ) → k < length ys → slice_index_or ys k x ≡ x → Among x ys
    at [] k l e = absurd (omega arith)
    at (y ∷ ys) zero l e = inl (sym e)
    at (y ∷ ys) (suc k) l e = inr (at ys k (omega arith) e)

among-has : (f g : SymId) (gs : List SymId) → f.0 ≡ g.0 → Among g gs → has_symbol f gs ≡ true
among-has f g [] e m = absurd m
among-has f g (x ∷ xs) e (inl is) = or_left (f.0 == x.0) (has_symbol f xs) (symbol-same f x (e ∙ ap (λ (s : SymId). s.0) is))
among-has f g (x ∷ xs) e (inr m) = or_right (f.0 == x.0) (has_symbol f xs) (among-has f g xs e m)

routine-some : (f : SymId) (k : ℕ) (r : Routine) (rs : List Routine) → Among r rs → has_symbol f r.outputs ≡ true → is_some (routine_from k f rs) ≡ true
routine-some f k r [] m h = absurd m
routine-some f k r (x ∷ xs) (inl is) h = ap (λ (b : Bool). is_some (cond b (Some (callee.Routine k)) (routine_from (k + 1) f xs))) (subst (λ (y : Routine). has_symbol f y.outputs ≡ true) is h)
routine-some f k r (x ∷ xs) (inr m) h = either (has_symbol f x.outputs) (routine-some f (k + 1) r xs m h)
  where
    either : (b : Bool) → is_some (routine_from (k + 1) f xs) ≡ true → is_some (cond b (Some (callee.Routine k)) (routine_from (k + 1) f xs)) ≡ true
    either true g = refl
    either false g = g

function-some : (f : SymId) (k : ℕ) (g : FortranFunction) (gs : List FortranFunction) → Among g gs → f.0 ≡ g.symbol.0 → is_some (function_from k f gs) ≡ true
function-some f k g [] m h = absurd m
function-some f k g (x ∷ xs) (inl is) h = ap (λ (b : Bool). is_some (cond b (Some (callee.Function k)) (function_from (k + 1) f xs))) (symbol-same f x.symbol (h ∙ ap (λ (y : FortranFunction). y.symbol.0) is))
function-some f k g (x ∷ xs) (inr m) h = either (f.0 == x.symbol.0) (function-some f (k + 1) g xs m h)
  where
    either : (b : Bool) → is_some (function_from (k + 1) f xs) ≡ true → is_some (cond b (Some (callee.Function k)) (function_from (k + 1) f xs)) ≡ true
    either true g = refl
    either false g = g

some-left : {A : Type 0} (x y : Option A) → is_some x ≡ true → is_some (first_there x y) ≡ true
some-left {A = A} None y e = absurd (true≢false (sym e))
some-left {A = A} (Some z) y e = refl

some-right : {A : Type 0} (x y : Option A) → is_some y ≡ true → is_some (first_there x y) ≡ true
some-right {A = A} None y e = e
some-right {A = A} (Some z) y e = refl

found-there : (f : SymId) (l : LiteralDecl) (ls : List LiteralDecl) → Among l ls → l.symbol.0 ≡ f.0 → is_some (find (λ (x : LiteralDecl). x.symbol.0 == f.0) ls) ≡ true
found-there f l [] m e = absurd m
found-there f l (x ∷ xs) (inl is) e = ap (λ (b : Bool). is_some (cond b (Some x) (find (λ (y : LiteralDecl). y.symbol.0 == f.0) xs))) (symbol-same x.symbol f (sym (ap (λ (y : LiteralDecl). y.symbol.0) is) ∙ e))
found-there f l (x ∷ xs) (inr m) e = either (x.symbol.0 == f.0) (found-there f l xs m e)
  where
    either : (b : Bool) → is_some (find (λ (y : LiteralDecl). y.symbol.0 == f.0) xs) ≡ true → is_some (cond b (Some x) (find (λ (y : LiteralDecl). y.symbol.0 == f.0) xs)) ≡ true
    either true g = refl
    either false g = g

some-value : {A : Type 0} (o : Option A) → is_some o ≡ true → (x : A) × (o ≡ Some x)
some-value {A = A} None e = absurd (true≢false (sym e))
some-value {A = A} (Some x) e = (x, refl)

module _ (t : Theory) (h : WellFormed t) (f : SymId) (y : Symbol) (there : slice_get t.sig.symbols f.0 ≡ Some y) (no_literal : literal_declared t f ≡ None) where
  by_output : y.kind ≡ kind.Output → is_some (callee_of t f) ≡ true
  unfolding callee_of
  by_output e =
      let o = h.outputs f.0 y there e in
      let number : SymId = record { 0 = f.0 } in
      some-left (routine_from 0 f t.routines) (function_from 0 f t.functions)
      (routine-some f 0 o.0 t.routines (contained o.0 t.routines o.1) (among-has f number o.0.outputs refl (contained number o.0.outputs o.2)))

  by_value : y.kind ≡ kind.Value → is_some (callee_of t f) ≡ true
  unfolding callee_of
  by_value e =
      let v = h.values f.0 y there e in
      some-right (routine_from 0 f t.routines) (function_from 0 f t.functions)
      (function-some f 0 v.0 t.functions (contained v.0 t.functions v.1) (sym v.2))

  by_literal : y.kind ≡ kind.Literal → is_some (callee_of t f) ≡ true
  by_literal e =
      let l = h.constants f.0 y there e in
      absurd (true≢false (sym (found-there f l.0 t.literals (contained l.0 t.literals l.1) l.2) ∙ ap is_some no_literal))

  by_kind : (k : SymKind) → y.kind ≡ k → is_computable k ≡ true → is_some (callee_of t f) ≡ true
  by_kind kind.Function e c = absurd (true≢false (sym c))
  by_kind kind.Relation e c = absurd (true≢false (sym c))
  by_kind kind.Literal e c = by_literal e
  by_kind kind.Output e c = by_output e
  by_kind kind.Value e c = by_value e

  pub callee-there : is_computable y.kind ≡ true → (c : Callee) × (callee_of t f ≡ Some c)
  callee-there e = some-value (callee_of t f) (by_kind y.kind refl e)

-- what is gone through and is no literal is made
pub made-there : (t : Theory) (ins : List SortId) (answer : List Term) (f : SymId) (args : List Term) → WellFormed t → Among (App f args) (flat_map completed answer) → Good t ins (App f args) → literal_declared t f ≡ None
    → Among (App f args) (made t answer)
made-there t ins answer f args h m g no_literal =
    let a = applied t ins f args g in
    let c = callee-there t h f a.symbol a.there no_literal a.computable in
    let call = call_with args c.0 in
    let own_call : Among call (own t (App f args)) = subst (λ (o : Option PlannedCall). Among call (listed_option o)) (sym (call_of-App t f args ∙ ap (option_map (call_with args)) c.1)) (inl refl) in
    let in_asked : Among call (asks_for t answer) = among-flat (own t) (App f args) call (flat_map completed answer) m own_call in
    among-flat (made_by t) call (App f args) (calls t answer) (asked-called t answer call in_asked) (made-has t f args c.0 c.1)
