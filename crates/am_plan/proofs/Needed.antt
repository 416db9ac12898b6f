-- Each call stands once and is one statement, and none is made in vain.
use Rattle.std.proofs.Common.{◌≡◌, ◌∙◌, ◌⊎◌, inl, inr, ◌++◌, ◌||◌, ℕ, Bool, true, false, not, refl, sym, ap, subst, List, [], ◌∷◌, Option, Some, None, length, option_map, slice_get, true≢false, append_assoc, Contains}
use Rattle.std.proofs.lemmas.List.{append-nil}
use Rattle.std.proofs.lemmas.Grind.{flat_map-append}
use Rattle.std.specs.List.{AllByRecursion, flat_map}
use Rattle.am_term.specs.declared.id.SortId.{SortId}
use Rattle.am_term.specs.declared.id.SymId.{SymId}
use Rattle.am_term.specs.declared.symbol.Symbol.{Symbol}
use Rattle.am_term.specs.declared.term.Term.{Term}
use Rattle.am_term.specs.declared.term.Term.TheOpen.{Term-F}
use Rattle.am_term.specs.declared.term.Term.TheViews.{out-Term}
use Rattle.am_term.specs.declared.term.Term.TheVariants.{In, App, outs-In, outs-App}
use Rattle.am_term.specs.Induct.{terms_induct}
use Rattle.am_term.proofs.Tests.{and_both, or_left, or_right, not_false, fails}
use Rattle.am_clause.specs.Distinct.{among}
use Rattle.am_theory.specs.declared.theory.Theory.{Theory}
use Rattle.am_theory.specs.declared.theory.LiteralDecl.{LiteralDecl}
use Rattle.am_theory.specs.Facts.{WellFormed as WellFormedTheory, IsFunction}
use Rattle.am_diagram.specs.declared.diagram.Diagram.{Diagram}
use Rattle.am_diagram.specs.Listed.{entry_sorts}
use Rattle.am_exec.proofs.Listed.{contains-here, contains-later}
use Rattle.am_plan.specs.declared.call.Callee.{Callee}
use Rattle.am_plan.specs.declared.call.Callee.TheVariants as callee
use Rattle.am_plan.specs.Calls.{PlannedCall, completed, callee_of, call_with, listed_option, same_call, asks_for, calls, made_by}
use Rattle.am_plan.specs.Names.{Named, named_terms}
use Rattle.am_theory.specs.Lookups.{literal_declared}
use Rattle.am_plan.specs.Plan.{statement_of, routine_call, function_call}
use Rattle.am_plan.specs.Laws.{are_different, EachCallOnce, IsNeeded, AreNeeded, NothingNeedless}
use Rattle.am_plan.proofs.Membership.{Among, Different, all-among, among-all, among-left, among-right, among-split, different-apart}
use Rattle.am_plan.proofs.Standing.{Available, all-index}
use Rattle.am_plan.proofs.Callees.{Computes, callee-computes, routine-stands, computed-literal}
use Rattle.am_plan.proofs.Running.{CalleeFits, AreReady}
use Rattle.am_plan.proofs.Asked.{IsFine, HasParts, parts, is_ready-Var, asks, asks-append, asks-In, asks-App, available-more, callee-makes, uncalled-none}
use Rattle.am_plan.proofs.Once.{same_call-is, same_call-refl, distinct-from, distinct-among, calls-ready, calls-differ, ready-fit, makes-so, made-differ}
use Rattle.am_plan.proofs.AnswerGiven.{serve-fine}

-- ---- once
among-same : (c : PlannedCall) (cs : List PlannedCall) → Among c cs → among same_call c cs ≡ true
among-same c [] a = absurd a
among-same c (b ∷ cs) (inl e) = or_left (same_call c b) (among same_call c cs) (subst (λ (x : PlannedCall). same_call c x ≡ true) e (same_call-refl c))
among-same c (b ∷ cs) (inr a) = or_right (same_call c b) (among same_call c cs) (among-same c cs a)

none-same : (c : PlannedCall) (cs : List PlannedCall) → (Among c cs → ⊥) → among same_call c cs ≡ false
none-same c [] h = refl
none-same c (b ∷ cs) h = ap (λ (x : Bool). x || among same_call c cs) (fails (same_call c b) (λ e. h (inl (same_call-is c b e)))) ∙ none-same c cs (λ a. h (inr a))

all-different : (cs : List PlannedCall) → Different cs → are_different cs ≡ true
all-different [] h = refl
all-different (c ∷ cs) h = and_both (not (among same_call c cs)) (are_different cs) (not_false (among same_call c cs) (none-same c cs h.0)) (all-different cs h.1)

one-statement : (t : Theory) (d : Diagram) (names : List Named) (args : List Term) (c : Callee) → CalleeFits t (entry_sorts d.inputs) args c → length (statement_of t d names (call_with args c)) ≡ 1
one-statement t d names args (callee.Routine k) fit = ap (λ o. length (routine_call t d names (call_with args (callee.Routine k)) o)) fit.1
one-statement t d names args (callee.Function k) fit = ap (λ o. length (function_call t d names (call_with args (callee.Function k)) o)) fit.1

pub calls-once : EachCallOnce
unfolding calls
calls-once t d answer h wd serve =
    let fine = serve-fine t d d.outputs answer serve in
    let fit = ready-fit t d h answer fine [] (calls t answer) (calls-ready t d h answer fine) in
    record {
      different = all-different (calls t answer) (calls-differ t d h answer fine);
      called = among-all (λ (c : PlannedCall). among same_call c (calls t answer) ≡ true) (asks_for t answer) (λ c a. among-same c (calls t answer) (distinct-among same_call same_call-is same_call-refl c (asks_for t answer) a));
      asked_for = among-all (λ (c : PlannedCall). among same_call c (asks_for t answer) ≡ true) (calls t answer) (λ c a. among-same c (asks_for t answer) (distinct-from same_call c (asks_for t answer) a));
      single = among-all (λ (c : PlannedCall). length (statement_of t d (named_terms t d answer) c) ≡ 1) (calls t answer) (λ c a. one-statement t d (named_terms t d answer) c.args c.callee (all-among (λ (c : PlannedCall). CalleeFits t (entry_sorts d.inputs) c.args c.callee) c (calls t answer) fit a));
    }

-- ---- needed
among-contains : {A : Type 0} (x : A) (xs : List A) → Among x xs → Contains xs x
among-contains {A = A} x [] a = absurd a
among-contains {A = A} x (y ∷ ys) (inl e) = subst (λ (z : A). Contains (z ∷ ys) x) e (contains-here x ys)
among-contains {A = A} x (y ∷ ys) (inr a) = contains-later x y ys (among-contains x ys a)

-- a term that a call makes is one of the roots, or an argument of one of the calls
record Used (t : Theory) (roots : List Term) (cs : List PlannedCall) (c : PlannedCall) : Type 0 where
  output : Term
  there : Among output (made_by t c)
  by : Among output roots ⊎ ((b : PlannedCall) × Among b cs × Among output b.args)

used-more : (t : Theory) (roots more : List Term) (cs ds : List PlannedCall) (c : PlannedCall) → ((x : Term) → Among x roots → Among x more) → ((b : PlannedCall) → Among b cs → Among b ds) → Used t roots cs c → Used t more ds c
used-more t roots more cs ds c w v r = record { output = r.output; there = r.there; by = by_side r.by }
  where
    by_side : Among r.output roots ⊎ ((b : PlannedCall) × Among b cs × Among r.output b.args) → Among r.output more ⊎ ((b : PlannedCall) × Among b ds × Among r.output b.args)
    by_side (inl a) = inl (w r.output a)
    by_side (inr q) = inr (q.0, v q.0 q.1, q.2)

module _ (t : Theory) (h : WellFormedTheory t) (d : Diagram) where
  abbrev ins : List SortId
  ins = entry_sorts d.inputs

  abbrev UsedAt : Term → Type 0
  UsedAt x = IsFine t ins x → (c : PlannedCall) → Among c (asks t (completed x)) → Used t (x ∷ []) (asks t (completed x)) c

  abbrev AllUsed : List Term → Type 0
  AllUsed xs = AllByRecursion (IsFine t ins) xs → (c : PlannedCall) → Among c (asks t (flat_map completed xs)) → Used t xs (asks t (flat_map completed xs)) c

  called-used : (f : SymId) (args : List Term) → AllUsed args → HasParts t ins f args → (k : Callee) → callee_of t f ≡ Some k → (c : PlannedCall) → Among c (asks t (completed (App f args))) → Used t (App f args ∷ []) (asks t (completed (App f args))) c
  called-used f args q p k is c a =
      let before = asks t (flat_map completed args) in
      let this = call_with args k in
      let whole : asks t (completed (App f args)) ≡ before ++ this ∷ [] = asks-App t f args ∙ ap (λ (o : Option Callee). before ++ (listed_option (option_map (call_with args) o) ++ [])) is in
      subst (λ (cs : List PlannedCall). Used t (App f args ∷ []) cs c) (sym whole) (by_side before this refl (callee-makes t d h f args k (callee-computes t f k is)) (λ b. q p.below c b) (among-split c before (this ∷ []) (subst (λ (cs : List PlannedCall). Among c cs) whole a)))
    where
      through : (before : List PlannedCall) (this : PlannedCall) → this.args ≡ args → Used t args before c → Used t (App f args ∷ []) (before ++ this ∷ []) c
      through before this same r = record { output = r.output; there = r.there; by = by_use r.by }
        where
          by_use : Among r.output args ⊎ ((b : PlannedCall) × Among b before × Among r.output b.args) → Among r.output (App f args ∷ []) ⊎ ((b : PlannedCall) × Among b (before ++ this ∷ []) × Among r.output b.args)
          by_use (inl b) = inr (this, among-right this before (this ∷ []) (inl refl), subst (λ (xs : List Term). Among r.output xs) (sym same) b)
          by_use (inr b) = inr (b.0, among-left b.0 before (this ∷ []) b.1, b.2)

      by_side : (before : List PlannedCall) (this : PlannedCall) → this.args ≡ args → Among (App f args) (made_by t this) → (Among c before → Used t args before c) → Among c before ⊎ Among c (this ∷ []) → Used t (App f args ∷ []) (before ++ this ∷ []) c
      by_side before this same makes used (inl b) = through before this same (used b)
      by_side before this same makes used (inr (inl e)) = record { output = App f args; there = subst (λ (x : PlannedCall). Among (App f args) (made_by t x)) (sym e) makes; by = inl (inl refl) }
      by_side before this same makes used (inr (inr b)) = absurd b

  app-used : (f : SymId) (args : List Term) → AllUsed args → UsedAt (App f args)
  app-used f args q g c a = by_callee (parts t ins f args g) (callee_of t f) refl
    where
      by_callee : HasParts t ins f args → (o : Option Callee) → callee_of t f ≡ o → Used t (App f args ∷ []) (asks t (completed (App f args))) c
      by_callee p (Some k) is = called-used f args q p k is c a
      by_callee p None is =
          let none = uncalled-none t d h f args p is in
          let before = asks t (flat_map completed args) in
          let nothing : asks t (completed (App f args)) ≡ [] = asks-App t f args ∙ ap (λ (o : Option Callee). before ++ (listed_option (option_map (call_with args) o) ++ [])) is ∙ append-nil before ∙ ap (λ (xs : List Term). asks t (flat_map completed xs)) none in
          absurd (subst (λ (cs : List PlannedCall). Among c cs) nothing a)

  input-used : (k : ℕ) → UsedAt (In k)
  input-used k g c a = absurd (subst (λ (cs : List PlannedCall). Among c cs) (asks-In t k) a)

  more-used : (x : Term) (xs : List Term) → UsedAt x → AllUsed xs → AllUsed (x ∷ xs)
  more-used x xs p q g c a =
      let first = asks t (completed x) in
      let later = asks t (flat_map completed xs) in
      let whole : asks t (completed x ++ flat_map completed xs) ≡ first ++ later = asks-append t (completed x) (flat_map completed xs) in
      subst (λ (cs : List PlannedCall). Used t (x ∷ xs) cs c) (sym whole) (by_side first later (p g.0 c) (q g.1 c) (among-split c first later (subst (λ (cs : List PlannedCall). Among c cs) whole a)))
    where
      one : (y : Term) → Among y (x ∷ []) → Among y (x ∷ xs)
      one y (inl e) = inl e
      one y (inr b) = absurd b

      by_side : (first later : List PlannedCall) → (Among c first → Used t (x ∷ []) first c) → (Among c later → Used t xs later c) → Among c first ⊎ Among c later → Used t (x ∷ xs) (first ++ later) c
      by_side first later p q (inl b) = used-more t (x ∷ []) (x ∷ xs) first (first ++ later) c one (λ e i. among-left e first later i) (p b)
      by_side first later p q (inr b) = used-more t xs (x ∷ xs) later (first ++ later) c (λ y i. inr i) (λ e i. among-right e first later i) (q b)

  all-used : (xs : List Term) → AllUsed xs
  all-used = terms_induct UsedAt AllUsed
      (λ n s g c a. absurd (true≢false (sym g.ready ∙ is_ready-Var t.sig n s)))
      input-used
      app-used
      (λ g c a. absurd a)
      more-used

  -- ---- later
  ready-left : (done : List Term) (bs cs : List PlannedCall) → AreReady t d done (bs ++ cs) → AreReady t d done bs
  ready-left done [] cs r = tt
  ready-left done (b ∷ bs) cs r = (r.0, ready-left (done ++ made_by t b) bs cs r.1)

  ready-right : (done : List Term) (bs cs : List PlannedCall) → AreReady t d done (bs ++ cs) → AreReady t d (done ++ flat_map (made_by t) bs) cs
  ready-right done [] cs r = subst (λ (xs : List Term). AreReady t d xs cs) (sym (append-nil done)) r
  ready-right done (b ∷ bs) cs r = subst (λ (xs : List Term). AreReady t d xs cs) (append_assoc done (made_by t b) (flat_map (made_by t) bs)) (ready-right (done ++ made_by t b) bs cs r.1)

  abbrev made_of : List PlannedCall → List Term
  made_of = flat_map (made_by t)

  ready-args : (done : List Term) (cs : List PlannedCall) (b : PlannedCall) (y : Term) → AreReady t d done cs → Among b cs → Among y b.args → Available t d (done ++ made_of cs) y
  ready-args done [] b y r a i = absurd a
  ready-args done (c ∷ cs) b y r (inl e) i =
      available-more t d done (done ++ (made_by t c ++ made_of cs)) y (λ z j. among-left z done (made_by t c ++ made_of cs) j) (all-among (Available t d done) y c.args r.0.available (subst (λ (x : PlannedCall). Among y x.args) e i))
  ready-args done (c ∷ cs) b y r (inr a) i =
      subst (λ (xs : List Term). Available t d xs y) (append_assoc done (made_by t c) (made_of cs)) (ready-args (done ++ made_by t c) cs b y r.1 a i)

  -- a callee's symbol is one of the theory's
  computed-there : (f : SymId) (c : Callee) → Computes t f c → (s : Symbol) × (slice_get t.sig.symbols f.0 ≡ Some s)
  computed-there f (callee.Routine k) c = let s = routine-stands t h k c.0 f c.1 c.2 in (s.symbol, s.there)
  computed-there f (callee.Function k) c =
      let s = (all-index (IsFunction t) t.functions k c.0 h.functions c.1).stands in
      subst (λ (g : SymId). (s : Symbol) × (slice_get t.sig.symbols g.0 ≡ Some s)) c.2 (s.symbol, s.there)

  -- what a call makes is no input and no literal
  done-only : (done args : List Term) (c : Callee) (y : Term) (f : SymId) → y ≡ App f args → Computes t f c → Available t d done y → Among y done
  done-only done args c y f is computes (inl i) = absurd (no_input (sym (outs-App f args) ∙ ap out-Term (sym is ∙ i.is) ∙ outs-In i.index))
    where
      no_input : {k : ℕ} → Term-F.App f args ≡ Term-F.In k → ⊥
      no_input e = absurd cc
  done-only done args c y f is computes (inr (inl l)) =
      let s = computed-there f c computes in
      let none = computed-literal t h f c s.0 s.1 computes in
      let o : Term-F.App f args ≡ Term-F.App l.decl.symbol [] = sym (outs-App f args) ∙ ap out-Term (sym is ∙ l.is) ∙ outs-App l.decl.symbol [] in
      let same : f ≡ l.decl.symbol = cc in
      absurd (some_none (sym (ap (literal_declared t) same ∙ l.found) ∙ none))
    where
      some_none : {x : LiteralDecl} → Some x ≡ None → ⊥
      some_none e = absurd cc
  done-only done args c y f is computes (inr (inr m)) = m.there

  -- calls that come in an order, each different and each used
  module _ (answer : List Term) (whole : List PlannedCall) (ready : AreReady t d [] whole) (differ : Different (made_of whole)) (fit : AllByRecursion (λ (c : PlannedCall). CalleeFits t ins c.args c.callee) whole)
      (computes : (c : PlannedCall) (y : Term) → Among c whole → Among y (made_by t c) → (f : SymId) × (y ≡ App f c.args) × Computes t f c.callee)
      (used : (c : PlannedCall) → Among c whole → Used t answer whole c) where
    needed-here : (pre cs : List PlannedCall) (c : PlannedCall) → whole ≡ pre ++ c ∷ cs → IsNeeded t answer cs c
    needed-here pre cs c is =
        let here : Among c whole = subst (λ (bs : List PlannedCall). Among c bs) (sym is) (among-right c pre (c ∷ cs) (inl refl)) in
        let r = used c here in
        record { output = r.output; made = among-contains r.output (made_by t c) r.there; used = by_use r.output here r.there r.by }
      where
        all_ready : AreReady t d [] (pre ++ c ∷ cs)
        all_ready = subst (λ (bs : List PlannedCall). AreReady t d [] bs) is ready

        made-differ-here : Different (made_of pre ++ (made_by t c ++ made_of cs))
        made-differ-here = subst (λ (xs : List Term). Different xs) (ap made_of is ∙ flat_map-append (made_by t) pre (c ∷ cs)) differ

        never : (y : Term) → Among c whole → Among y (made_by t c) → Available t d (made_of pre) y → ⊥
        never y here a av =
            let m = computes c y here a in
            different-apart y (made_of pre) (made_by t c ++ made_of cs) made-differ-here (done-only (made_of pre) c.args c.callee y m.0 m.1 m.2 av) (among-left y (made_by t c) (made_of cs) a)

        by_place : (y : Term) (b : PlannedCall) → Among c whole → Among y (made_by t c) → Among y b.args → Among b pre ⊎ Among b (c ∷ cs) → Among b cs
        by_place y b here a i (inl p) = absurd (never y here a (ready-args [] pre b y (ready-left [] pre (c ∷ cs) all_ready) p i))
        by_place y b here a i (inr (inl e)) = absurd (never y here a (all-among (Available t d (made_of pre)) y c.args (ready-right [] pre (c ∷ cs) all_ready).0.available (subst (λ (x : PlannedCall). Among y x.args) e i)))
        by_place y b here a i (inr (inr p)) = p

        by_use : (y : Term) → Among c whole → Among y (made_by t c) → Among y answer ⊎ ((b : PlannedCall) × Among b whole × Among y b.args) → Contains answer y ⊎ ((b : PlannedCall) × Contains cs b × Contains b.args y)
        by_use y here a (inl p) = inl (among-contains y answer p)
        by_use y here a (inr q) = inr (q.0, among-contains q.0 cs (by_place y q.0 here a q.2 (among-split q.0 pre (c ∷ cs) (subst (λ (bs : List PlannedCall). Among q.0 bs) is q.1))), among-contains y q.0.args q.2)

    needed-from : (pre cs : List PlannedCall) → whole ≡ pre ++ cs → AreNeeded t answer cs
    needed-from pre [] is = tt
    needed-from pre (c ∷ cs) is = (needed-here pre cs c is, needed-from (pre ++ c ∷ []) cs (is ∙ sym (append_assoc pre (c ∷ []) cs)))

pub calls-needed : NothingNeedless
unfolding calls
calls-needed t d answer h wd serve =
    let fine = serve-fine t d d.outputs answer serve in
    let ready = calls-ready t d h answer fine in
    let fit = ready-fit t d h answer fine [] (calls t answer) ready in
    needed-from t h d answer (calls t answer) ready (made-differ t d h answer fine) fit
    (λ c y a i. makes-so t d h answer fine c.args c.callee y (all-among (λ (c : PlannedCall). CalleeFits t (entry_sorts d.inputs) c.args c.callee) c (calls t answer) fit a) i)
    (λ c a. used-more t answer answer (asks_for t answer) (calls t answer) c (λ x i. i) (λ b i. distinct-among same_call same_call-is same_call-refl b (asks_for t answer) i) (all-used t h d answer fine c (distinct-from same_call c (asks_for t answer) a)))
    [] (calls t answer) refl
