-- The plan of an answer gives the answer.
use Rattle.std.proofs.Common.{◌≡◌, ◌∙◌, ◌⊎◌, inl, inr, ◌++◌, ◌+◌, ◌<◌, ◌≤◌, ℕ, arith, Bool, true, false, refl, sym, ap, subst, List, [], ◌∷◌, Option, Some, None, Ok, cond, map, length, slice_get, is_some, true≢false, if◌then◌else◌}
use Rattle.std.proofs.lemmas.List.{append-nil, map-append}
use Rattle.std.specs.List.{AllByRecursion, flat_map}
use Rattle.std.specs.Str.{bytes_eq}
use Rattle.am_term.specs.declared.id.SortId.{SortId}
use Rattle.am_term.specs.declared.id.SymId.{SymId}
use Rattle.am_term.specs.declared.symbol.Symbol.{Symbol}
use Rattle.am_term.specs.declared.term.Term.{Term}
use Rattle.am_term.specs.declared.term.Term.TheVariants.{App}
use Rattle.am_term.specs.Names.{is_local_name}
use Rattle.am_term.specs.NameLists.{is_among}
use Rattle.am_term.specs.Sorts.{fits}
use Rattle.am_term.specs.Sorting.{fit_places, result_at, sort_of, sorts_of as sorts_of_terms, sort_of-App}
use Rattle.am_term.specs.Weight.{nodes}
use Rattle.am_term.proofs.Forest.{fits-akin}
use Rattle.am_theory.specs.declared.theory.FortranFunction.{FortranFunction}
use Rattle.am_theory.specs.declared.theory.Theory.{Theory}
use Rattle.am_theory.specs.Lookups.{rep_of, result_of, result_sort, function_named}
use Rattle.am_theory.specs.Facts.{WellFormed as WellFormedTheory, IsConcrete, IsFunction}
use Rattle.am_diagram.specs.declared.diagram.Diagram.{Diagram}
use Rattle.am_diagram.specs.Listed.{entry_sorts, entry_names}
use Rattle.am_diagram.specs.Facts.{WellFormed, IsFree}
use Rattle.am_fortran.specs.declared.statement.Statement.{Statement}
use Rattle.am_fortran.specs.declared.unit.Unit.{Unit as Subroutine}
use Rattle.am_exec.specs.Run.{sort_listed}
use Rattle.am_exec.specs.Lawful.{further}
use Rattle.am_exec.specs.States.{Store, inputs_held}
use Rattle.am_exec.specs.ItemFaults.{is_target, declared_names, lacks_dummy}
use Rattle.am_exec.specs.Terms.{terms}
use Rattle.am_exec.proofs.Held.{eq_is, eq_same}
use Rattle.am_term.proofs.Tests.{fails}
use Rattle.am_plan.specs.declared.call.Callee.{Callee}
use Rattle.am_plan.specs.declared.call.Callee.TheVariants as callee
use Rattle.am_plan.specs.Calls.{PlannedCall, calls, listed_option, made_by, made}
use Rattle.am_plan.specs.Names.{output_for, Named, named_terms, locals, name_of_term, local_name}
use Rattle.am_plan.specs.Numbering.{named_from}
use Rattle.am_plan.specs.Plan.{IsPlan, statement_of, copies, is_set, function_at, functions_used}
use Rattle.am_plan.specs.Answers.{ServesOutput, AllServe, IsAnswerFor}
use Rattle.am_plan.specs.Laws.{PlanGivesAnswer}
use Rattle.am_plan.proofs.Numbered.{named-are}
use Rattle.am_plan.proofs.Membership.{Among, Different, all-among, among-map, map-among, among-left, among-right, among-split, flat-among, among-flat, different-append}
use Rattle.am_plan.proofs.Holding.{names_in, is_among-so, among-is, inputs-names}
use Rattle.am_plan.proofs.Standing.{Available, all-index}
use Rattle.am_plan.proofs.CallStatements.{pairs, index-among, function-named}
use Rattle.am_plan.proofs.Copying.{place-sort}
use Rattle.am_plan.proofs.Callees.{Computes, routine-stands}
use Rattle.am_plan.proofs.Going.{Goes, goes-append, terms-go}
use Rattle.am_plan.proofs.Running.{CalleeFits, AreReady, after, after-keeps, calls-go, AreCopied, copies-go, AreHeld, ends-held}
use Rattle.am_plan.proofs.Asked.{IsFine}
use Rattle.am_plan.proofs.Once.{distinct-from, distinct-has, distinct-names, calls-ready, answers-available, ready-fit, makes-so, opened, made-differ}
use Rattle.am_plan.proofs.Counted.{made-few}
use Rattle.am_plan.proofs.TermNames.{local-is, Answered, answered-output, answered-name, answered-one, output-answered, IsNamed, named-terms, all-named, names-differ, name-own, pairs-are}
use Rattle.am_plan.proofs.Locals.{locals-so, locals-among, locals-differ, copied, copied-so, copied-there, copied-differ}
use Rattle.am_plan.proofs.PlanDeclared.{head-good, none-lacks, declarations-good, inputs-differ, outputs-differ, input-no_output, output-target, local-target, function-declared}

-- ---- what serves
module _ (t : Theory) (d : Diagram) where
  abbrev ins : List SortId
  ins = entry_sorts d.inputs

  pub serve-fine : (os : List (List ℕ × SortId)) (xs : List Term) → AllServe t d os xs → AllByRecursion (IsFine t ins) xs
  serve-fine [] [] s = tt
  serve-fine [] (x ∷ xs) s = absurd s
  serve-fine (o ∷ os) [] s = absurd s
  serve-fine (o ∷ os) (x ∷ xs) s = (
    record { ready = s.0.ready; sorted = ap is_some (place-sort t.sig (sort_of t.sig ins x) o.1 s.0.sorted).1; small = s.0.small },
    serve-fine os xs s.1,
  )

  serve-answered : (o : List ℕ × SortId) (x : Term) (os : List (List ℕ × SortId)) (xs : List Term) → AllServe t d os xs → Answered o x os xs → ServesOutput t d o.1 x
  serve-answered o x [] xs s a = absurd a
  serve-answered o x (p ∷ os) [] s a = absurd a
  serve-answered o x (p ∷ os) (y ∷ xs) s (inl e) = subst (λ (q : List ℕ × SortId). ServesOutput t d q.1 x) (sym e.0) (subst (λ (z : Term). ServesOutput t d p.1 z) (sym e.1) s.0)
  serve-answered o x (p ∷ os) (y ∷ xs) s (inr a) = serve-answered o x os xs s.1 a

  -- the sort of a symbol at arguments is its result sort
  applied-result : (f : SymId) (xs : List Term) (s : SortId) → sort_of t.sig ins (App f xs) ≡ Some s → result_sort t.sig f ≡ Some s
  applied-result f xs s e = by_symbol (slice_get t.sig.symbols f.0) (sym (sort_of-App t.sig ins f xs) ∙ e)
    where
      by_fit : (y : Symbol) (b : Bool) → (if b then y.result else None) ≡ Some s → y.result ≡ Some s
      by_fit y true e = e
      by_fit y false e = absurd cc

      by_symbol : (o : Option Symbol) → result_at t.sig o (sorts_of_terms t.sig ins xs) ≡ Some s → result_of o ≡ Some s
      by_symbol None e = absurd cc
      by_symbol (Some y) e = by_fit y (fit_places t.sig (sorts_of_terms t.sig ins xs) y.args) e

-- the sort listed for a name
listed-sort : (o : List ℕ × SortId) (es : List (List ℕ × SortId)) → Different (entry_names es) → Among o es → sort_listed o.0 es ≡ Some o.1
listed-sort o [] h a = absurd a
listed-sort o (e ∷ es) h (inl s) =
    ap (λ (b : Bool). cond b (Some e.1) (sort_listed o.0 es)) (subst (λ (q : List ℕ × SortId). bytes_eq q.0 o.0 ≡ true) s (eq_same o.0)) ∙ ap (λ (q : List ℕ × SortId). Some q.1) (sym s)
listed-sort o (e ∷ es) h (inr a) =
    ap (λ (b : Bool). cond b (Some e.1) (sort_listed o.0 es)) (fails (bytes_eq e.0 o.0) (λ s. h.0 (subst (λ (n : List ℕ). Among n (entry_names es)) (sym (eq_is e.0 o.0 s)) (among-map (λ (q : List ℕ × SortId). q.0) o es a))))
    ∙ listed-sort o es h.1 a

-- what a callee computes has a concrete sort
record HasSort (t : Theory) (f : SymId) : Type 0 where
  sort : SortId
  result : result_sort t.sig f ≡ Some sort
  concrete : is_some (rep_of t sort) ≡ true

computed-sort : (t : Theory) → WellFormedTheory t → (f : SymId) (c : Callee) → Computes t f c → HasSort t f
computed-sort t h f (callee.Routine k) c =
    let s = routine-stands t h k c.0 f c.1 c.2 in
    record { sort = s.sort; result = ap result_of s.there ∙ s.result; concrete = s.concrete }
computed-sort t h f (callee.Function k) c =
    let s = (all-index (IsFunction t) t.functions k c.0 h.functions c.1).stands in
    subst (λ (g : SymId). HasSort t g) c.2 (record { sort = s.sort; result = ap result_of s.there ∙ s.result; concrete = s.concrete })

module _ (t : Theory) (d : Diagram) (answer : List Term) (u : Subroutine) (h : WellFormedTheory t) (wd : WellFormed t d) (serve : IsAnswerFor t d answer) (p : IsPlan t d answer u) where
  abbrev names : List Named
  names = named_terms t d answer

  abbrev name : Term → List ℕ
  name = name_of_term names

  abbrev cs : List PlannedCall
  cs = calls t answer

  abbrev all_made : List Term
  all_made = made t answer

  abbrev ls : List Named
  ls = locals d.outputs answer names

  abbrev fs : List FortranFunction
  fs = functions_used t cs

  fine : AllByRecursion (IsFine t (entry_sorts d.inputs)) answer
  fine = serve-fine t d d.outputs answer serve

  ready : AreReady t d [] cs
  ready = calls-ready t d h answer fine

  fit : AllByRecursion (λ (c : PlannedCall). CalleeFits t (entry_sorts d.inputs) c.args c.callee) cs
  fit = ready-fit t d h answer fine [] cs ready

  terms-differ : Different all_made
  terms-differ = made-differ t d h answer fine

  few : 1 + length all_made ≤ 100000
  few = one (length all_made) (made-few t h d answer (less (length d.inputs) (length d.outputs) wd.few_dummies) serve fit)
    where
      one : (m : ℕ) → m + 1 < 100000 → 1 + m ≤ 100000
      one m e = omega arith

      less : (a b : ℕ) → a + b ≤ 18 → b ≤ 18
      less a b e = omega arith

  names-are : names ≡ named_from 1 d.outputs answer all_made
  names-are = named-are t d answer

  named-all : map (λ (e : Named). e.1) names ≡ all_made
  named-all = ap (λ (es : List Named). map (λ (e : Named). e.1) es) names-are ∙ named-terms d.outputs answer 1 all_made

  named-each : (e : Named) → Among e names → IsNamed d.outputs answer 1 (1 + length all_made) e
  named-each e a = all-named d.outputs answer 1 all_made e (subst (λ (es : List Named). Among e es) names-are a)

  output-no_local : (n : List ℕ) → Among n (entry_names d.outputs) → is_local_name n ≡ false
  output-no_local n a = (all-among (IsFree t) n (entry_names d.outputs) wd.outputs_named a).not_local

  set_names : Different (map (λ (e : Named). e.0) names)
  set_names = subst (λ (es : List Named). Different (map (λ (e : Named). e.0) es)) (sym names-are) (names-differ d.outputs answer (outputs-differ t h d wd) output-no_local 1 all_made terms-differ few)

  made-pairs : pairs name all_made ≡ names
  made-pairs = ap (λ (xs : List Term). pairs name xs) (sym named-all) ∙ pairs-are names (subst (λ (xs : List Term). Different xs) (sym named-all) terms-differ)

  -- ---- locals and functions
  local-named : (e : Named) → Among e ls → (j : ℕ) × (e.0 ≡ local_name j)
  local-named e a = let r = locals-so d.outputs answer e names a in by_name r.1 (named-each e r.0)
    where
      by_name : output_for e.1 d.outputs answer ≡ None → IsNamed d.outputs answer 1 (1 + length all_made) e → (j : ℕ) × (e.0 ≡ local_name j)
      by_name none (inl o) = absurd cc
      by_name none (inr q) = (q.1.0, q.1.1)

  ls-differ : Different (map (λ (e : Named). e.0) ls)
  ls-differ = locals-differ d.outputs answer names set_names

  function-there : (f : FortranFunction) → Among f fs → (k : ℕ) × (slice_get t.functions k ≡ Some f)
  function-there f a =
      let c = flat-among (λ (c : PlannedCall). function_at t c.callee) f cs (distinct-from _ f (flat_map (λ (c : PlannedCall). function_at t c.callee) cs) a) in
      by_callee c.0.callee c.2
    where
      by_found : (k : ℕ) (o : Option FortranFunction) → slice_get t.functions k ≡ o → Among f (listed_option o) → (k : ℕ) × (slice_get t.functions k ≡ Some f)
      by_found k None is a = absurd a
      by_found k (Some g) is (inl e) = (k, is ∙ ap Some (sym e))
      by_found k (Some g) is (inr a) = absurd a

      by_callee : (c : Callee) → Among f (function_at t c) → (k : ℕ) × (slice_get t.functions k ≡ Some f)
      by_callee (callee.Routine k) a = absurd a
      by_callee (callee.Function k) a = by_found k (slice_get t.functions k) refl a

  function-listed : (f : FortranFunction) → Among f fs → Among f t.functions
  function-listed f a = let r = function-there f a in index-among t.functions r.0 f r.1

  function-found : (f : FortranFunction) → Among f fs → function_named t f.name ≡ Some f
  function-found f a = let r = function-there f a in function-named t h r.0 f r.1

  fs-differ : Different (map (λ (f : FortranFunction). f.name) fs)
  fs-differ = distinct-names (λ (f : FortranFunction). f.name) (flat_map (λ (c : PlannedCall). function_at t c.callee) cs)

  lacks : lacks_dummy u ≡ false
  lacks = none-lacks t h d wd u ls fs local-named ls-differ function-listed function-found fs-differ p.name p.dummies p.declarations

  -- the functions of calls are declared
  calls-declared : (c : PlannedCall) (k : ℕ) (g : FortranFunction) → Among c cs → c.callee ≡ callee.Function k → slice_get t.functions k ≡ Some g → is_among g.name (declared_names (further u)) ≡ true
  calls-declared c k g a is at =
      let used : Among g (function_at t c.callee) = subst (λ (x : Callee). Among g (function_at t x)) (sym is) (subst (λ (o : Option FortranFunction). Among g (listed_option o)) (sym at) (inl refl)) in
      let f = distinct-has (λ (f : FortranFunction). f.name) g (flat_map (λ (c : PlannedCall). function_at t c.callee) cs) (among-flat (λ (c : PlannedCall). function_at t c.callee) c g cs a used) in
      subst (λ (n : List ℕ). is_among n (declared_names (further u)) ≡ true) f.2
      (function-declared t h d wd u ls fs local-named ls-differ function-listed function-found fs-differ p.name p.dummies p.declarations f.0 f.1)

  -- ---- targets
  alike : (s o : SortId) → fits t.sig s o ≡ true → rep_of t s ≡ rep_of t o
  alike s o e = (h.alike s o (fits-akin t.sig s o e)).0

  made-sort : (f : SymId) (xs : List Term) → Among (App f xs) all_made → HasSort t f
  made-sort f xs a =
      let c = flat-among (made_by t) (App f xs) cs a in
      let m = makes-so t d h answer fine c.0.args c.0.callee (App f xs) (all-among (λ (c : PlannedCall). CalleeFits t (entry_sorts d.inputs) c.args c.callee) c.0 cs fit c.1) c.2 in
      subst (λ (g : SymId). HasSort t g) (sym (opened t d h answer fine f m.0 xs c.0.args m.1).0) (computed-sort t h m.0 c.0.callee m.2)

  target-by : (f : SymId) (xs : List Term) → HasSort t f → (e : Named) → Among e names → e.1 ≡ App f xs → IsNamed d.outputs answer 1 (1 + length all_made) e → is_target t d u (Some e.0) (result_sort t.sig f) ≡ true
  target-by f xs has e a is (inl out) =
      let o = output-answered e.1 d.outputs answer e.0 out in
      let served = serve-answered t d o.0 e.1 d.outputs answer serve o.2 in
      let s = place-sort t.sig (sort_of t.sig (entry_sorts d.inputs) e.1) o.0.1 served.sorted in
      let result = applied-result t d f xs s.0 (ap (sort_of t.sig (entry_sorts d.inputs)) (sym is) ∙ s.1) in
      ap (λ (r : Option SortId). is_target t d u (Some e.0) r) result
      ∙ ap (λ (n : List ℕ). is_target t d u (Some n) (Some s.0)) (sym o.1)
      ∙ output-target t h d wd u ls fs local-named ls-differ function-listed function-found fs-differ p.name p.dummies p.declarations o.0 (answered-output o.0 e.1 d.outputs answer o.2) s.0 (alike s.0 o.0.1 s.2)
  target-by f xs has e a is (inr q) =
      ap (λ (r : Option SortId). is_target t d u (Some e.0) r) has.result
      ∙ local-target t h d wd u ls fs local-named ls-differ function-listed function-found fs-differ p.name p.dummies p.declarations e.0 f xs has.sort
      (subst (λ (x : Term). Among {A = Named} (e.0, x) ls) is (locals-among d.outputs answer e names a q.0)) has.result has.concrete

  made-target : (f : SymId) (xs : List Term) → Among (App f xs) all_made → is_target t d u (Some (name (App f xs))) (result_sort t.sig f) ≡ true
  made-target f xs a =
      let e = map-among (λ (e : Named). e.1) (App f xs) names (subst (λ (ys : List Term). Among (App f xs) ys) (sym named-all) a) in
      let own : name (App f xs) ≡ e.0.0 = ap name e.2 ∙ name-own names e.0 (subst (λ (ys : List Term). Different ys) (sym named-all) terms-differ) e.1 in
      ap (λ (n : List ℕ). is_target t d u (Some n) (result_sort t.sig f)) own ∙ target-by f xs (made-sort f xs a) e.0 e.1 (sym e.2) (named-each e.0 e.1)

  -- ---- copies
  output-concrete : (o : List ℕ × SortId) → Among o d.outputs → is_some (rep_of t o.1) ≡ true
  output-concrete o a = all-among (IsConcrete t) o.1 (entry_sorts d.outputs) wd.outputs_concrete (among-map (λ (q : List ℕ × SortId). q.1) o d.outputs a)

  small_enough : (n : ℕ) → n ≤ 400 → n ≤ 10000
  small_enough n e = omega arith

  all-copied : (os : List (List ℕ × SortId)) (xs : List Term) → AllServe t d os xs → AllByRecursion (Available t d all_made) xs → ((o : List ℕ × SortId) → Among o os → Among o d.outputs) → AreCopied t h d u lacks names all_made os xs
  all-copied [] [] s a there = tt
  all-copied [] (x ∷ xs) s a there = absurd s
  all-copied (o ∷ os) [] s a there = absurd s
  all-copied (o ∷ os) (x ∷ xs) s a there =
      let here = there o (inl refl) in (
        (
          record {
            fit = s.0.sorted;
            place = listed-sort o d.outputs (outputs-differ t h d wd) here;
            target = output-target t h d wd u ls fs local-named ls-differ function-listed function-found fs-differ p.name p.dummies p.declarations o here;
            small = small_enough (nodes x) s.0.small;
            concrete = output-concrete o here;
          },
          a.0,
        ),
        all-copied os xs s.1 a.1 (λ q b. there q (inr b)),
      )

  -- ---- the end
  abbrev before : Store
  before = after t h d u lacks names all_made

  abbrev end : Store
  end = before ++ copied names d.outputs answer

  before-names : names_in before ≡ entry_names d.inputs ++ map (λ (e : Named). e.0) names
  before-names =
      ap (λ (es : Store). names_in (inputs_held d.inputs ++ es)) made-pairs
      ∙ map-append (λ (e : List ℕ × Term). e.0) (inputs_held d.inputs) names
      ∙ ap (λ (ns : List (List ℕ)). ns ++ map (λ (e : Named). e.0) names) (inputs-names 0 d.inputs)

  input-no_name : (n : List ℕ) → Among n (entry_names d.inputs) → Among n (map (λ (e : Named). e.0) names) → ⊥
  input-no_name n a b = let e = map-among (λ (e : Named). e.0) n names b in by_name e.0 e.2 (named-each e.0 e.1)
    where
      by_name : (e : Named) → n ≡ e.0 → IsNamed d.outputs answer 1 (1 + length all_made) e → ⊥
      by_name e is (inl out) =
          let o = output-answered e.1 d.outputs answer e.0 out in
          input-no_output t h d wd n a (subst (λ (m : List ℕ). Among m (entry_names d.outputs)) (o.1 ∙ sym is) (answered-name o.0 e.1 d.outputs answer o.2))
      by_name e is (inr q) = true≢false (sym (local-is q.1.0) ∙ ap is_local_name (sym (is ∙ q.1.1)) ∙ (all-among (IsFree t) n (entry_names d.inputs) wd.inputs_named a).not_local)

  before-differ : Different (names_in before)
  before-differ = subst (λ (ns : List (List ℕ)). Different ns) (sym before-names) (different-append (entry_names d.inputs) (map (λ (e : Named). e.0) names) (inputs-differ t h d wd) set_names input-no_name)

  end-differ : Different (names_in end)
  end-differ = subst (λ (ns : List (List ℕ)). Different ns) (sym (map-append (λ (e : List ℕ × Term). e.0) before (copied names d.outputs answer)))
      (different-append (names_in before) (names_in (copied names d.outputs answer)) before-differ (copied-differ names d.outputs answer (outputs-differ t h d wd)) apart)
    where
      by_side : (n : List ℕ) → Among n (entry_names d.outputs) × (is_set names n ≡ false) → Among n (entry_names d.inputs) ⊎ Among n (map (λ (e : Named). e.0) names) → ⊥
      by_side n r (inl a) = input-no_output t h d wd n a r.0
      by_side n r (inr a) = true≢false (sym (among-is n (map (λ (e : Named). e.0) names) a) ∙ r.1)

      apart : (n : List ℕ) → Among n (names_in before) → Among n (names_in (copied names d.outputs answer)) → ⊥
      apart n a b =
          let e = map-among (λ (e : List ℕ × Term). e.0) n (copied names d.outputs answer) b in
          let r = copied-so names e.0 d.outputs answer e.1 in
          by_side n (subst (λ (m : List ℕ). Among m (entry_names d.outputs)) (sym e.2) r.0, ap (is_set names) e.2 ∙ r.1) (among-split n (entry_names d.inputs) (map (λ (e : Named). e.0) names) (subst (λ (ns : List (List ℕ)). Among n ns) before-names a))

  -- each output's name holds its answer
  output-held : (o : List ℕ × SortId) (x : Term) → Answered o x d.outputs answer → Among (o.0, x) end
  output-held o x a = by_set (is_set names o.0) refl
    where
      by_name : (e : Named) → Among e names → o.0 ≡ e.0 → IsNamed d.outputs answer 1 (1 + length all_made) e → Among {A = Named} (o.0, x) names
      by_name e b is (inl out) =
          let q = output-answered e.1 d.outputs answer e.0 out in
          let same = answered-one o q.0 x e.1 d.outputs answer (outputs-differ t h d wd) a q.2 (is ∙ sym q.1) in
          let pair : Named = (o.0, x) in
          let one : pair ≡ e = ap (λ (n : List ℕ). let r : Named = (n, x) in r) is ∙ ap (λ (y : Term). let r : Named = (e.0, y) in r) same in
          subst (λ (r : Named). Among r names) (sym one) b
      by_name e b is (inr q) = absurd (true≢false (sym (local-is q.1.0) ∙ ap is_local_name (sym (is ∙ q.1.1)) ∙ output-no_local o.0 (answered-name o x d.outputs answer a)))

      by_set : (b : Bool) → is_set names o.0 ≡ b → Among {A = Named} (o.0, x) end
      by_set true is =
          let e = map-among (λ (e : Named). e.0) o.0 names (is_among-so o.0 (map (λ (e : Named). e.0) names) is) in
          among-left (o.0, x) before (copied names d.outputs answer)
          (among-right (o.0, x) (inputs_held d.inputs) (pairs name all_made) (subst (λ (es : Store). Among {A = Named} (o.0, x) es) (sym made-pairs) (by_name e.0 e.1 e.2 (named-each e.0 e.1))))
      by_set false is = among-right (o.0, x) before (copied names d.outputs answer) (copied-there names o x d.outputs answer a is)

  all-held : (os : List (List ℕ × SortId)) (xs : List Term) → AllServe t d os xs → ((o : List ℕ × SortId) (x : Term) → Answered o x os xs → Among (o.0, x) end) → AreHeld t h d u lacks names end os xs
  all-held [] [] s g = tt
  all-held [] (x ∷ xs) s g = absurd s
  all-held (o ∷ os) [] s g = absurd s
  all-held (o ∷ os) (x ∷ xs) s g = (g o x (inl (refl, refl)), all-held os xs s.1 (λ q y a. g q y (inr a)))

  -- ---- the run
  run-goes : Goes t d u (inputs_held d.inputs) u.statements end
  run-goes =
      subst (λ (ss : List Statement). Goes t d u (inputs_held d.inputs) ss end) (sym p.statements)
      (goes-append t d u (inputs_held d.inputs) before end (flat_map (statement_of t d names) cs) (copies t d names d.outputs answer)
      (subst (λ (store : Store). Goes t d u store (flat_map (statement_of t d names) cs) before) (append-nil (inputs_held d.inputs))
      (calls-go t h d u lacks names [] cs ready made-target calls-declared before-differ))
      (copies-go t h d u lacks names all_made before d.outputs answer (all-copied d.outputs answer serve (answers-available t d h answer fine) (λ o a. a)) (after-keeps t h d u lacks names all_made) end-differ))

  answer-given : terms t d u ≡ Ok answer
  answer-given =
      terms-go t d u end answer
      (head-good t h d wd u ls fs local-named ls-differ function-listed function-found fs-differ p.name p.dummies p.declarations)
      (declarations-good t h d wd u ls fs local-named ls-differ function-listed function-found fs-differ p.name p.dummies p.declarations)
      run-goes
      lacks
      (ends-held t h d u lacks names end d.outputs answer end-differ (all-held d.outputs answer serve output-held))

pub plan-gives : PlanGivesAnswer
plan-gives t d answer u h wd serve p = answer-given t d answer u h wd serve p
