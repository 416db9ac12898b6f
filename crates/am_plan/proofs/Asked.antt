-- Each call that a term asks for has its arguments done before it.
use Rattle.std.proofs.Common.{◌≡◌, ◌∙◌, ◌⊎◌, inl, inr, ◌++◌, ◌&&◌, ◌+◌, ◌<◌, ◌≤◌, ℕ, zero, suc, arith, Bool, true, false, refl, sym, ap, subst, List, [], ◌∷◌, Option, Some, None, map, slice_get, is_some, option_map, sum_by, true≢false, append_assoc, if◌then◌else◌}
use Rattle.std.proofs.lemmas.List.{append-nil}
use Rattle.std.proofs.lemmas.Grind.{flat_map-append}
use Rattle.std.proofs.lemmas.List.Sums.{sum_by-append}
use Rattle.std.specs.List.{AllByRecursion, list_all, flat_map}
use Rattle.am_term.specs.declared.id.SortId.{SortId}
use Rattle.am_term.specs.declared.id.SymId.{SymId}
use Rattle.am_term.specs.declared.kind.SymKind.{SymKind}
use Rattle.am_term.specs.declared.kind.SymKind.TheVariants as kind
use Rattle.am_term.specs.declared.symbol.Symbol.{Symbol}
use Rattle.am_term.specs.declared.signature.Signature.{Signature}
use Rattle.am_term.specs.declared.term.Term.{Term}
use Rattle.am_term.specs.declared.term.Term.TheVariants.{Var, In, App, outs-In, outs-App}
use Rattle.am_term.specs.Fold.{fold-Var, fold-App, para-In, para-App}
use Rattle.am_term.specs.Induct.{terms_induct}
use Rattle.am_term.specs.Symbols.{is_computable}
use Rattle.am_term.specs.Sorting.{fits_place, fit_places, result_at, sort_of, sorts_of, sort_of-In, sort_of-App}
use Rattle.am_term.specs.Weight.{nodes, nodes-App}
use Rattle.am_term.proofs.Tests.{and_left, and_right}
use Rattle.am_clause.specs.Final.{is_computable_symbol}
use Rattle.am_theory.specs.declared.theory.LiteralDecl.{LiteralDecl}
use Rattle.am_theory.specs.declared.theory.Theory.{Theory}
use Rattle.am_theory.specs.Lookups.{argument_sorts_of, argument_sorts, literal_declared}
use Rattle.am_theory.specs.Facts.{WellFormed, Stands, IsLiteral}
use Rattle.am_diagram.specs.declared.diagram.Diagram.{Diagram}
use Rattle.am_diagram.specs.Listed.{entry_sorts}
use Rattle.am_plan.specs.declared.call.Callee.{Callee}
use Rattle.am_plan.specs.declared.call.Callee.TheVariants as callee
use Rattle.am_plan.specs.Calls.{PlannedCall, under_step, terms_below, completed, callee_of, call_with, call_at, call_of, listed_option, outputs_made, value_made, made_by}
use Rattle.am_plan.specs.Answers.{ready_step, is_ready}
use Rattle.am_plan.proofs.Membership.{Among, all-among, among-map, among-left, among-right, among-split, among-flat}
use Rattle.am_plan.proofs.Standing.{Available}
use Rattle.am_plan.proofs.Callees.{Computes, callee-computes, no-routine, no-function, contains-among, routine-stands, stands-args, computed-literal, literal-there, literal-found}
use Rattle.am_plan.proofs.Running.{CalleeFits, AreReady}

-- ---- equations
pub is_ready-Var : (sig : Signature) (n : ℕ) (s : SortId) → is_ready sig (Var n s) ≡ false
unfolding is_ready
is_ready-Var sig n s = fold-Var Bool (ready_step sig) n s

is_ready-App : (sig : Signature) (f : SymId) (args : List Term) → is_ready sig (App f args) ≡ (is_computable_symbol (slice_get sig.symbols f.0) && list_all (λ (b : Bool). b) (map (is_ready sig) args))
unfolding is_ready
is_ready-App sig f args = fold-App Bool (ready_step sig) f args

pub terms_below-In : (k : ℕ) → terms_below (In k) ≡ []
unfolding terms_below
terms_below-In k = para-In (List Term) under_step k

below_args : (args : List Term) → flat_map (λ (e : Term × List Term). e.1 ++ e.0 ∷ []) (map (λ (y : Term). (y, terms_below y)) args) ≡ flat_map completed args
below_args [] = refl
below_args (x ∷ xs) = ap (λ (ys : List Term). (terms_below x ++ x ∷ []) ++ ys) (below_args xs)

pub terms_below-App : (f : SymId) (args : List Term) → terms_below (App f args) ≡ flat_map completed args
unfolding terms_below
terms_below-App f args = para-App (List Term) under_step f args ∙ below_args args

-- what terms ask for
abbrev pub asks : Theory → List Term → List PlannedCall
asks t = flat_map (λ (x : Term). listed_option (call_of t x))

pub asks-append : (t : Theory) (xs ys : List Term) → asks t (xs ++ ys) ≡ asks t xs ++ asks t ys
asks-append t xs ys = flat_map-append (λ (x : Term). listed_option (call_of t x)) xs ys

pub call_of-In : (t : Theory) (k : ℕ) → call_of t (In k) ≡ None
unfolding call_of
call_of-In t k = ap (call_at t) (outs-In k)

pub call_of-App : (t : Theory) (f : SymId) (args : List Term) → call_of t (App f args) ≡ option_map (call_with args) (callee_of t f)
unfolding call_of
call_of-App t f args = ap (call_at t) (outs-App f args)

-- what a term asks for: what its arguments do, and then itself
pub asks-In : (t : Theory) (k : ℕ) → asks t (completed (In k)) ≡ []
asks-In t k = ap (λ (xs : List Term). asks t (xs ++ In k ∷ [])) (terms_below-In k) ∙ ap (λ (o : Option PlannedCall). listed_option o ++ []) (call_of-In t k)

pub asks-App : (t : Theory) (f : SymId) (args : List Term) → asks t (completed (App f args)) ≡ asks t (flat_map completed args) ++ (listed_option (option_map (call_with args) (callee_of t f)) ++ [])
asks-App t f args =
    ap (λ (xs : List Term). asks t (xs ++ App f args ∷ [])) (terms_below-App f args)
    ∙ asks-append t (flat_map completed args) (App f args ∷ [])
    ∙ ap (λ (o : Option PlannedCall). asks t (flat_map completed args) ++ (listed_option o ++ [])) (call_of-App t f args)

-- ---- a term that is fit to be computed
pub record IsFine (t : Theory) (ins : List SortId) (x : Term) : Type 0 where
  pub ready : is_ready t.sig x ≡ true
  pub sorted : is_some (sort_of t.sig ins x) ≡ true
  pub small : nodes x ≤ 400

-- its symbol and its arguments
pub record HasParts (t : Theory) (ins : List SortId) (f : SymId) (args : List Term) : Type 0 where
  pub symbol : Symbol
  pub there : slice_get t.sig.symbols f.0 ≡ Some symbol
  pub computable : is_computable symbol.kind ≡ true
  pub fit : fit_places t.sig (sorts_of t.sig ins args) symbol.args ≡ true
  pub below : AllByRecursion (IsFine t ins) args
  pub few : sum_by nodes args + 1 ≤ 400

some_place : (sig : Signature) (o : Option SortId) (p : SortId) → fits_place sig o p ≡ true → is_some o ≡ true
some_place sig None p e = absurd (true≢false (sym e))
some_place sig (Some s) p e = refl

pub nodes-first : (x : Term) (xs : List Term) → sum_by nodes (x ∷ xs) ≡ nodes x + sum_by nodes xs
nodes-first x xs = sum_by-append nodes (x ∷ []) xs ∙ ap (λ (n : ℕ). n + sum_by nodes xs) (from_none (nodes x))
  where
    from_none : (n : ℕ) → 0 + n ≡ n
    from_none n = omega arith

sum_left : (a b c : ℕ) → c ≡ a + b → c ≤ 400 → a ≤ 400
sum_left a b c e l = omega arith

sum_right : (a b c : ℕ) → c ≡ a + b → c ≤ 400 → b ≤ 400
sum_right a b c e l = omega arith

args-fine : (t : Theory) (ins : List SortId) (args : List Term) (ps : List SortId) → list_all (λ (b : Bool). b) (map (is_ready t.sig) args) ≡ true → fit_places t.sig (sorts_of t.sig ins args) ps ≡ true → sum_by nodes args ≤ 400 → AllByRecursion (IsFine t ins) args
args-fine t ins [] ps r s n = tt
args-fine t ins (x ∷ xs) [] r s n = absurd (true≢false (sym s))
args-fine t ins (x ∷ xs) (p ∷ ps) r s n =
    let ready = is_ready t.sig x in
    let others = list_all (λ (b : Bool). b) (map (is_ready t.sig) xs) in
    let fit = fits_place t.sig (sort_of t.sig ins x) p in
    let rest = fit_places t.sig (sorts_of t.sig ins xs) ps in (
      record { ready = and_left ready others r; sorted = some_place t.sig (sort_of t.sig ins x) p (and_left fit rest s); small = sum_left (nodes x) (sum_by nodes xs) (sum_by nodes (x ∷ xs)) (nodes-first x xs) n },
      args-fine t ins xs ps (and_right ready others r) (and_right fit rest s) (sum_right (nodes x) (sum_by nodes xs) (sum_by nodes (x ∷ xs)) (nodes-first x xs) n),
    )

pub parts : (t : Theory) (ins : List SortId) (f : SymId) (args : List Term) → IsFine t ins (App f args) → HasParts t ins f args
parts t ins f args g = by_symbol (slice_get t.sig.symbols f.0) refl (sym (is_ready-App t.sig f args) ∙ g.ready) (sym (ap is_some (sort_of-App t.sig ins f args)) ∙ g.sorted)
  where
    few : sum_by nodes args + 1 ≤ 400
    few = subst (λ (n : ℕ). n ≤ 400) (nodes-App f args) g.small

    fewer : (n : ℕ) → n + 1 ≤ 400 → n ≤ 400
    fewer n e = omega arith

    by_fit : (y : Symbol) → slice_get t.sig.symbols f.0 ≡ Some y → (is_computable y.kind && list_all (λ (b : Bool). b) (map (is_ready t.sig) args)) ≡ true
        → (b : Bool) → fit_places t.sig (sorts_of t.sig ins args) y.args ≡ b → is_some (if b then y.result else None) ≡ true → HasParts t ins f args
    by_fit y at r false fit s = absurd (true≢false (sym s))
    by_fit y at r true fit s = record {
      symbol = y;
      there = at;
      computable = and_left (is_computable y.kind) (list_all (λ (b : Bool). b) (map (is_ready t.sig) args)) r;
      fit = fit;
      below = args-fine t ins args y.args (and_right (is_computable y.kind) (list_all (λ (b : Bool). b) (map (is_ready t.sig) args)) r) fit (fewer (sum_by nodes args) few);
      few = few;
    }

    by_symbol : (o : Option Symbol) → slice_get t.sig.symbols f.0 ≡ o → (is_computable_symbol o && list_all (λ (b : Bool). b) (map (is_ready t.sig) args)) ≡ true → is_some (result_at t.sig o (sorts_of t.sig ins args)) ≡ true → HasParts t ins f args
    by_symbol None at r s = absurd (true≢false (sym r))
    by_symbol (Some y) at r s = by_fit y at r (fit_places t.sig (sorts_of t.sig ins args) y.args) refl s

-- ---- more may be done
module _ (t : Theory) (d : Diagram) where
  abbrev Within : List Term → List Term → Type 0
  Within xs ys = (z : Term) → Among z xs → Among z ys

  pub available-more : (done more : List Term) (x : Term) → Within done more → Available t d done x → Available t d more x
  available-more done more x w (inl i) = inl i
  available-more done more x w (inr (inl c)) = inr (inl c)
  available-more done more x w (inr (inr m)) = inr (inr (record { symbol = m.symbol; args = m.args; is = m.is; no_literal = m.no_literal; there = w x m.there }))

  pub all-available : (done more xs : List Term) → Within done more → AllByRecursion (Available t d done) xs → AllByRecursion (Available t d more) xs
  all-available done more [] w a = tt
  all-available done more (x ∷ xs) w a = (available-more done more x w a.0, all-available done more xs w a.1)

  within-append : (xs ys zs : List Term) → Within xs ys → Within (xs ++ zs) (ys ++ zs)
  within-append xs ys zs w z a = by_side (among-split z xs zs a)
    where
      by_side : Among z xs ⊎ Among z zs → Among z (ys ++ zs)
      by_side (inl b) = among-left z ys zs (w z b)
      by_side (inr b) = among-right z ys zs b

  pub ready-more : (done more : List Term) (cs : List PlannedCall) → Within done more → AreReady t d done cs → AreReady t d more cs
  ready-more done more [] w r = tt
  ready-more done more (c ∷ cs) w r = (
    record { available = all-available done more c.args w r.0.available; fit = r.0.fit; small = r.0.small },
    ready-more (done ++ made_by t c) (more ++ made_by t c) cs (within-append done more (made_by t c) w) r.1,
  )

  pub ready-append : (done : List Term) (bs cs : List PlannedCall) → AreReady t d done bs → AreReady t d (done ++ flat_map (made_by t) bs) cs → AreReady t d done (bs ++ cs)
  ready-append done [] cs r s = subst (λ (xs : List Term). AreReady t d xs cs) (append-nil done) s
  ready-append done (b ∷ bs) cs r s = (r.0, ready-append (done ++ made_by t b) bs cs r.1 (subst (λ (xs : List Term). AreReady t d xs cs) (sym (append_assoc done (made_by t b) (flat_map (made_by t) bs))) s))

  -- ---- what a term asks for is ready in order, and makes it available
  module _ (h : WellFormed t) where
    abbrev ins : List SortId
    ins = entry_sorts d.inputs

    abbrev made_of : List PlannedCall → List Term
    made_of = flat_map (made_by t)

    pub callee-fits : (f : SymId) (args : List Term) (y : Symbol) (c : Callee) → slice_get t.sig.symbols f.0 ≡ Some y → fit_places t.sig (sorts_of t.sig ins args) y.args ≡ true → Computes t f c → CalleeFits t ins args c
    callee-fits f args y (callee.Routine k) at fit c = (c.0, c.1, ap (fit_places t.sig (sorts_of t.sig ins args)) (sym (stands-args t h f kind.Output c.0.inputs y at (routine-stands t h k c.0 f c.1 c.2))) ∙ fit)
    callee-fits f args y (callee.Function k) at fit c = (c.0, c.1, ap (fit_places t.sig (sorts_of t.sig ins args)) (ap (argument_sorts t.sig) c.2 ∙ ap argument_sorts_of at) ∙ fit)

    pub callee-makes : (f : SymId) (args : List Term) (c : Callee) → Computes t f c → Among (App f args) (made_by t (call_with args c))
    callee-makes f args (callee.Routine k) c = subst (λ (ys : List Term). Among (App f args) ys) (sym (ap (outputs_made args) c.1)) (among-map (λ (g : SymId). App g args) f c.0.outputs c.2)
    callee-makes f args (callee.Function k) c = subst (λ (ys : List Term). Among (App f args) ys) (sym (ap (value_made args) c.1)) (inl (ap (λ (g : SymId). App g args) (sym c.2)))

    abbrev Ordered : Term → Type 0
    Ordered x = IsFine t ins x → AreReady t d [] (asks t (completed x)) × Available t d (made_of (asks t (completed x))) x

    abbrev AllOrdered : List Term → Type 0
    AllOrdered xs = AllByRecursion (IsFine t ins) xs → AreReady t d [] (asks t (flat_map completed xs)) × AllByRecursion (Available t d (made_of (asks t (flat_map completed xs)))) xs

    entry-there : (es : List (List ℕ × SortId)) (k : ℕ) → is_some (slice_get (entry_sorts es) k) ≡ true → (e : List ℕ × SortId) × (slice_get es k ≡ Some e)
    entry-there [] k s = absurd (true≢false (sym s))
    entry-there (e ∷ es) zero s = (e, refl)
    entry-there (e ∷ es) (suc k) s = entry-there es k s

    input-ordered : (k : ℕ) → Ordered (In k)
    input-ordered k g =
        let e = entry-there d.inputs k (sym (ap is_some (sort_of-In t.sig ins k)) ∙ g.sorted) in
        (subst (λ (cs : List PlannedCall). AreReady t d [] cs) (sym (asks-In t k)) tt, inl (record { index = k; entry = e.0; there = e.1; is = refl }))

    computed-ordered : (f : SymId) (args : List Term) → HasParts t ins f args → (c : Callee) → callee_of t f ≡ Some c → AreReady t d [] (asks t (flat_map completed args)) → AllByRecursion (Available t d (made_of (asks t (flat_map completed args)))) args
        → AreReady t d [] (asks t (completed (App f args))) × Available t d (made_of (asks t (completed (App f args)))) (App f args)
    computed-ordered f args p c is ready available =
        let computes = callee-computes t f c is in
        let before = asks t (flat_map completed args) in
        let this = call_with args c in
        let whole : asks t (completed (App f args)) ≡ before ++ this ∷ [] = asks-App t f args ∙ ap (λ (o : Option Callee). before ++ (listed_option (option_map (call_with args) o) ++ [])) is in
        let few : sum_by nodes args < 10000 = below (sum_by nodes args) p.few in (
          subst (λ (cs : List PlannedCall). AreReady t d [] cs) (sym whole)
              (ready-append [] before (this ∷ []) ready (record { available = available; fit = callee-fits f args p.symbol c p.there p.fit computes; small = few }, tt)),
          inr (inr (record {
            symbol = f;
            args = args;
            is = refl;
            no_literal = computed-literal t h f c p.symbol p.there computes;
            there = subst (λ (cs : List PlannedCall). Among (App f args) (made_of cs)) (sym whole) (among-flat (made_by t) this (App f args) (before ++ this ∷ []) (among-right this before (this ∷ []) (inl refl)) (callee-makes f args c computes));
          })),
        )
      where
        below : (n : ℕ) → n + 1 ≤ 400 → n < 10000
        below n e = omega arith

    among-index : {A : Type 0} (xs : List A) (x : A) → Among x xs → (k : ℕ) × (slice_get xs k ≡ Some x)
    among-index {A = A} [] x a = absurd a
    among-index {A = A} (z ∷ zs) x (inl e) = (0, ap Some (sym e))
    among-index {A = A} (z ∷ zs) x (inr a) = let r = among-index zs x a in (suc r.0, r.1)

    no_args : (xs : List Term) → fit_places t.sig (sorts_of t.sig ins xs) [] ≡ true → xs ≡ []
    no_args [] e = refl
    no_args (x ∷ xs) e = absurd (true≢false (sym e))

    -- a computable symbol that has no callee is a literal's
    uncalled-kind : (f : SymId) (y : Symbol) (k : SymKind) → slice_get t.sig.symbols f.0 ≡ Some y → y.kind ≡ k → is_computable k ≡ true → callee_of t f ≡ None → y.kind ≡ kind.Literal
    uncalled-kind f y kind.Function at is c none = absurd (true≢false (sym c))
    uncalled-kind f y kind.Relation at is c none = absurd (true≢false (sym c))
    uncalled-kind f y kind.Literal at is c none = is
    uncalled-kind f y kind.Output at is c none =
        let o = h.outputs f.0 y at is in
        absurd (no-routine t f o.0 (contains-among t.routines o.0 o.1) (contains-among o.0.outputs f o.2) none)
    uncalled-kind f y kind.Value at is c none =
        let o = h.values f.0 y at is in
        absurd (no-function t f o.0 (contains-among t.functions o.0 o.1) (ap (λ (i : ℕ). let r : SymId = record { 0 = i } in r) o.2) none)

    record IsLiteralOf (f : SymId) : Type 0 where
      decl : LiteralDecl
      index : ℕ
      there : slice_get t.literals index ≡ Some decl
      found : literal_declared t f ≡ Some decl
      symbol : decl.symbol ≡ f
      stands : Stands t f kind.Literal []

    uncalled-literal : (f : SymId) (args : List Term) → HasParts t ins f args → callee_of t f ≡ None → IsLiteralOf f
    uncalled-literal f args p is =
        let l = literal-there t h f p.symbol p.there (uncalled-kind f p.symbol p.symbol.kind p.there refl p.computable is) in
        let found = literal-found t h f l.0 l.1 in
        let place = among-index t.literals l.0 found.0 in
        let stands = (all-among (IsLiteral t) l.0 t.literals h.literals found.0).stands in
        record { decl = l.0; index = place.0; there = place.1; found = l.1; symbol = found.1; stands = subst (λ (g : SymId). Stands t g kind.Literal []) found.1 stands }

    -- and has no arguments
    pub uncalled-none : (f : SymId) (args : List Term) → HasParts t ins f args → callee_of t f ≡ None → args ≡ []
    uncalled-none f args p is = no_args args (ap (fit_places t.sig (sorts_of t.sig ins args)) (sym (stands-args t h f kind.Literal [] p.symbol p.there (uncalled-literal f args p is).stands)) ∙ p.fit)

    literal-ordered : (f : SymId) (args : List Term) → HasParts t ins f args → callee_of t f ≡ None → AreReady t d [] (asks t (flat_map completed args))
        → AreReady t d [] (asks t (completed (App f args))) × Available t d (made_of (asks t (completed (App f args)))) (App f args)
    literal-ordered f args p is ready =
        let before = asks t (flat_map completed args) in
        let whole : asks t (completed (App f args)) ≡ before = asks-App t f args ∙ ap (λ (o : Option Callee). before ++ (listed_option (option_map (call_with args) o) ++ [])) is ∙ append-nil before in
        let l = uncalled-literal f args p is in (
          subst (λ (cs : List PlannedCall). AreReady t d [] cs) (sym whole) ready,
          inr (inl (record { decl = l.decl; index = l.index; there = l.there; found = ap (literal_declared t) l.symbol ∙ l.found; is = ap (App f) (uncalled-none f args p is) ∙ ap (λ (g : SymId). App g []) (sym l.symbol) })),
        )

    app-ordered : (f : SymId) (args : List Term) → AllOrdered args → Ordered (App f args)
    app-ordered f args q g =
        let p = parts t ins f args g in
        let before = q p.below in
        by_callee p before.0 before.1 (callee_of t f) refl
      where
        by_callee : HasParts t ins f args → AreReady t d [] (asks t (flat_map completed args)) → AllByRecursion (Available t d (made_of (asks t (flat_map completed args)))) args → (o : Option Callee) → callee_of t f ≡ o
            → AreReady t d [] (asks t (completed (App f args))) × Available t d (made_of (asks t (completed (App f args)))) (App f args)
        by_callee p ready available (Some c) is = computed-ordered f args p c is ready available
        by_callee p ready available None is = literal-ordered f args p is ready

    more-ordered : (x : Term) (xs : List Term) → Ordered x → AllOrdered xs → AllOrdered (x ∷ xs)
    more-ordered x xs p q g =
        let one = p g.0 in
        let rest = q g.1 in
        let first = asks t (completed x) in
        let later = asks t (flat_map completed xs) in
        let whole : asks t (completed x ++ flat_map completed xs) ≡ first ++ later = asks-append t (completed x) (flat_map completed xs) in
        let made_whole : made_of (asks t (completed x ++ flat_map completed xs)) ≡ made_of first ++ made_of later = ap made_of whole ∙ flat_map-append (made_by t) first later in (
          subst (λ (cs : List PlannedCall). AreReady t d [] cs) (sym whole) (ready-append [] first later one.0 (ready-more [] (made_of first) later (λ z a. absurd a) rest.0)),
          subst (λ (ys : List Term). AllByRecursion (Available t d ys) (x ∷ xs)) (sym made_whole) (
            available-more (made_of first) (made_of first ++ made_of later) x (λ z a. among-left z (made_of first) (made_of later) a) one.1,
            all-available (made_of later) (made_of first ++ made_of later) xs (λ z a. among-right z (made_of first) (made_of later) a) rest.1,
          ),
        )

    pub terms-ordered : (xs : List Term) → AllOrdered xs
    terms-ordered = terms_induct Ordered AllOrdered
        (λ n s g. absurd (true≢false (sym g.ready ∙ is_ready-Var t.sig n s)))
        input-ordered
        app-ordered
        (λ g. (tt, tt))
        more-ordered
