-- The run of the statements of calls, of the copies, and its end.
use Rattle.std.proofs.Common.{◌≡◌, ◌∙◌, inl, inr, ◌++◌, ◌<◌, ℕ, arith, Bool, true, false, refl, sym, ap, subst, List, [], ◌∷◌, Option, Some, map, slice_get, sum_by, append_assoc, if◌then◌else◌}
use Rattle.std.proofs.lemmas.List.{append-nil, map-append}
use Rattle.std.specs.List.{AllByRecursion, flat_map}
use Rattle.am_term.specs.declared.id.SortId.{SortId}
use Rattle.am_term.specs.declared.id.SymId.{SymId}
use Rattle.am_term.specs.declared.term.Term.{Term}
use Rattle.am_term.specs.declared.term.Term.TheVariants.{In, App}
use Rattle.am_term.specs.NameLists.{is_among}
use Rattle.am_term.specs.Sorting.{fit_places, sorts_of}
use Rattle.am_term.specs.Weight.{nodes}
use Rattle.am_theory.specs.declared.theory.Routine.{Routine}
use Rattle.am_theory.specs.declared.theory.FortranFunction.{FortranFunction}
use Rattle.am_theory.specs.declared.theory.Theory.{Theory}
use Rattle.am_theory.specs.Lookups.{result_sort, argument_sorts}
use Rattle.am_theory.specs.Facts.{WellFormed}
use Rattle.am_diagram.specs.declared.diagram.Diagram.{Diagram}
use Rattle.am_diagram.specs.Listed.{entry_names, entry_sorts}
use Rattle.am_fortran.specs.declared.statement.Operand.{Operand}
use Rattle.am_fortran.specs.declared.statement.Statement.{Statement}
use Rattle.am_fortran.specs.declared.statement.Statement.TheVariants.{Call, Apply}
use Rattle.am_fortran.specs.declared.unit.Unit.{Unit as Subroutine}
use Rattle.am_exec.specs.Lawful.{further}
use Rattle.am_exec.specs.States.{Store, inputs_held}
use Rattle.am_exec.specs.ItemFaults.{is_target, declared_names, lacks_dummy}
use Rattle.am_exec.specs.Terms.{with_held_term, terms_held}
use Rattle.am_plan.specs.declared.call.Callee.{Callee}
use Rattle.am_plan.specs.declared.call.Callee.TheVariants as callee
use Rattle.am_plan.specs.Calls.{PlannedCall, call_with, outputs_made, value_made, made_by}
use Rattle.am_plan.specs.Names.{Named, name_of_term}
use Rattle.am_plan.specs.Plan.{operand_for, routine_call, function_call, first_name, statement_of, is_set, copy_to, copies}
use Rattle.am_plan.proofs.Membership.{Among, Different, among-all, all-among, among-map, among-left, among-right, different-left, different-right, different-apart}
use Rattle.am_plan.proofs.Holding.{names_in, held-there, inputs-among}
use Rattle.am_plan.proofs.Standing.{Available, StandsFor, operand-stands}
use Rattle.am_plan.proofs.CallStatements.{pairs, targets_of, pairs-names, routine-puts, function-puts}
use Rattle.am_plan.proofs.Copying.{Copies, copy-puts}
use Rattle.am_plan.proofs.Locals.{copied}
use Rattle.am_plan.proofs.Going.{Goes, goes-append, goes-one}

-- what is called has this number, and its inputs are the sorts' places
abbrev pub CalleeFits : Theory → List SortId → List Term → Callee → Type 0
CalleeFits t ins args (callee.Routine k) = (r : Routine) × (slice_get t.routines k ≡ Some r) × (fit_places t.sig (sorts_of t.sig ins args) r.inputs ≡ true)
CalleeFits t ins args (callee.Function k) = (g : FortranFunction) × (slice_get t.functions k ≡ Some g) × (fit_places t.sig (sorts_of t.sig ins args) (argument_sorts t.sig g.symbol) ≡ true)

-- a call whose arguments are inputs, literals, or terms that are done
pub record IsReady (t : Theory) (d : Diagram) (done : List Term) (c : PlannedCall) : Type 0 where
  pub available : AllByRecursion (Available t d done) c.args
  pub fit : CalleeFits t (entry_sorts d.inputs) c.args c.callee
  pub small : sum_by nodes c.args < 10000

-- each call's arguments are done before it
abbrev pub AreReady : Theory → Diagram → List Term → List PlannedCall → Type 0
AreReady t d done [] = Unit {0}
AreReady t d done (c ∷ cs) = IsReady t d done c × AreReady t d (done ++ made_by t c) cs

module _ (t : Theory) (h : WellFormed t) (d : Diagram) (u : Subroutine) (lacks : lacks_dummy u ≡ false) (names : List Named) where
  abbrev name : Term → List ℕ
  name = name_of_term names

  abbrev op : Term → Operand
  op = operand_for t d names

  -- what the names hold once these terms are done
  abbrev pub after : List Term → Store
  after done = inputs_held d.inputs ++ pairs name done

  pub after-more : (done more : List Term) → after (done ++ more) ≡ after done ++ pairs name more
  after-more done more = ap (λ (es : Store). inputs_held d.inputs ++ es) (map-append (λ (x : Term). (name x, x)) done more) ∙ sym (append_assoc (inputs_held d.inputs) (pairs name done) (pairs name more))

  names-more : (store : Store) (more : List Term) → names_in (store ++ pairs name more) ≡ names_in store ++ map name more
  names-more store more = map-append (λ (e : List ℕ × Term). e.0) store (pairs name more) ∙ ap (λ (ns : List (List ℕ)). names_in store ++ ns) (pairs-names name more)

  -- the inputs and the terms that are done are held
  pub record Keeps (store : Store) (done : List Term) : Type 0 where
    pub inputs : (k : ℕ) (e : List ℕ × SortId) → slice_get d.inputs k ≡ Some e → Among (e.0, In k) store
    pub there : (y : Term) → Among y done → Among (name y, y) store

  pub after-keeps : (done : List Term) → Keeps (after done) done
  after-keeps done = record {
    inputs = λ k e at. among-left (e.0, In k) (inputs_held d.inputs) (pairs name done) (inputs-among d.inputs 0 k k e at (omega arith));
    there = λ y a. among-right (name y, y) (inputs_held d.inputs) (pairs name done) (among-map (λ (x : Term). (name x, x)) y done a);
  }

  standing : (store : Store) (done : List Term) (xs : List Term) → Different (names_in store) → Keeps store done → AllByRecursion (Available t d done) xs → AllByRecursion (λ (x : Term). StandsFor t store (op x) x) xs
  standing store done xs differ keeps available =
      among-all (λ (x : Term). StandsFor t store (op x) x) xs (λ x a. operand-stands t d names store done x differ keeps.inputs keeps.there (all-among (Available t d done) x xs available a))

  abbrev MayHold : List Term → Type 0
  MayHold made = (f : SymId) (xs : List Term) → Among (App f xs) made → is_target t d u (Some (name (App f xs))) (result_sort t.sig f) ≡ true

  abbrev AreDeclared : List PlannedCall → Type 0
  AreDeclared cs = (c : PlannedCall) (k : ℕ) (g : FortranFunction) → Among c cs → c.callee ≡ callee.Function k → slice_get t.functions k ≡ Some g → is_among g.name (declared_names (further u)) ≡ true

  -- one call
  module _ (done args : List Term) (available : AllByRecursion (Available t d done) args) (small : sum_by nodes args < 10000) where
    module _ (k : ℕ) (r : Routine) (at : slice_get t.routines k ≡ Some r) (fit : fit_places t.sig (sorts_of t.sig (entry_sorts d.inputs) args) r.inputs ≡ true) where
      abbrev routine : PlannedCall
      routine = call_with args (callee.Routine k)

      abbrev made : List Term
      made = map (λ (f : SymId). App f args) r.outputs

      made-is : made_by t routine ≡ made
      made-is = ap (outputs_made args) at

      statement : statement_of t d names routine ≡ Call r.name (map op args ++ targets_of name made) ∷ []
      statement = ap (routine_call t d names routine) at ∙ ap (λ (ys : List Term). Call r.name (map op args ++ targets_of name ys) ∷ []) made-is

      routine-goes : MayHold (made_by t routine) → Different (names_in (after done ++ pairs name (made_by t routine)))
          → Goes t d u (after done) (statement_of t d names routine) (after done ++ pairs name (made_by t routine))
      routine-goes targets differ =
          let named : Different (names_in (after done) ++ map name made) = subst (λ (ns : List (List ℕ)). Different ns) (ap (λ (ys : List Term). names_in (after done ++ pairs name ys)) made-is ∙ names-more (after done) made) differ in
          let puts = routine-puts name t h d u lacks op (after done) args (standing (after done) done args (different-left (names_in (after done)) (map name made) named) (after-keeps done) available) small k r at fit
          (λ n a b. different-apart n (names_in (after done)) (map name made) named b a)
          (different-right (names_in (after done)) (map name made) named)
          (among-all (λ (f : SymId). is_target t d u (Some (name (App f args))) (result_sort t.sig f) ≡ true) r.outputs (λ f a. targets f args (subst (λ (ys : List Term). Among (App f args) ys) (sym made-is) (among-map (λ (g : SymId). App g args) f r.outputs a)))) in
          subst (λ (ss : List Statement). Goes t d u (after done) ss (after done ++ pairs name (made_by t routine))) (sym statement)
          (subst (λ (ys : List Term). Goes t d u (after done) (Call r.name (map op args ++ targets_of name made) ∷ []) (after done ++ pairs name ys)) (sym made-is)
          (goes-one t d u (after done) (after done ++ pairs name made) (Call r.name (map op args ++ targets_of name made)) puts.passes puts.put_is))

    module _ (k : ℕ) (g : FortranFunction) (at : slice_get t.functions k ≡ Some g) (fit : fit_places t.sig (sorts_of t.sig (entry_sorts d.inputs) args) (argument_sorts t.sig g.symbol) ≡ true) where
      abbrev function : PlannedCall
      function = call_with args (callee.Function k)

      abbrev value : Term
      value = App g.symbol args

      value-is : made_by t function ≡ value ∷ []
      value-is = ap (value_made args) at

      application : statement_of t d names function ≡ Apply (name value) g.name (map op args) ∷ []
      application = ap (function_call t d names function) at ∙ ap (λ (ys : List Term). Apply (first_name names ys) g.name (map op args) ∷ []) value-is

      function-goes : MayHold (made_by t function) → AreDeclared (function ∷ []) → Different (names_in (after done ++ pairs name (made_by t function)))
          → Goes t d u (after done) (statement_of t d names function) (after done ++ pairs name (made_by t function))
      function-goes targets functions differ =
          let named : Different (names_in (after done) ++ name value ∷ []) = subst (λ (ns : List (List ℕ)). Different ns) (ap (λ (ys : List Term). names_in (after done ++ pairs name ys)) value-is ∙ names-more (after done) (value ∷ [])) differ in
          let puts = function-puts name t h d u lacks op (after done) args (standing (after done) done args (different-left (names_in (after done)) (name value ∷ []) named) (after-keeps done) available) small k g at fit
          (λ a. different-apart (name value) (names_in (after done)) (name value ∷ []) named a (inl refl))
          (functions function k g (inl refl) refl at)
          (targets g.symbol args (subst (λ (ys : List Term). Among value ys) (sym value-is) (inl refl))) in
          subst (λ (ss : List Statement). Goes t d u (after done) ss (after done ++ pairs name (made_by t function))) (sym application)
          (subst (λ (ys : List Term). Goes t d u (after done) (Apply (name value) g.name (map op args) ∷ []) (after done ++ pairs name ys)) (sym value-is)
          (goes-one t d u (after done) (after done ++ pairs name (value ∷ [])) (Apply (name value) g.name (map op args)) puts.passes puts.put_is))

    call-goes : (k : Callee) → CalleeFits t (entry_sorts d.inputs) args k → MayHold (made_by t (call_with args k)) → AreDeclared (call_with args k ∷ [])
        → Different (names_in (after done ++ pairs name (made_by t (call_with args k))))
        → Goes t d u (after done) (statement_of t d names (call_with args k)) (after done ++ pairs name (made_by t (call_with args k)))
    call-goes (callee.Routine k) fit targets functions differ = routine-goes k fit.0 fit.1 fit.2 targets differ
    call-goes (callee.Function k) fit targets functions differ = function-goes k fit.0 fit.1 fit.2 targets functions differ

  -- all calls
  pub calls-go : (done : List Term) (cs : List PlannedCall) → AreReady t d done cs → MayHold (flat_map (made_by t) cs) → AreDeclared cs
      → Different (names_in (after (done ++ flat_map (made_by t) cs)))
      → Goes t d u (after done) (flat_map (statement_of t d names) cs) (after (done ++ flat_map (made_by t) cs))
  calls-go done [] ready targets functions differ = ap after (sym (append-nil done))
  calls-go done (c ∷ cs) ready targets functions differ =
      let made = made_by t c in
      let rest = flat_map (made_by t) cs in
      let here = after-more done made in
      let regrouped : done ++ (made ++ rest) ≡ (done ++ made) ++ rest = sym (append_assoc done made rest) in
      let names_differ : Different (names_in (after ((done ++ made) ++ rest))) = subst (λ (xs : List Term). Different (names_in (after xs))) regrouped differ in
      let fewer : Different (names_in (after (done ++ made))) = different-left (names_in (after (done ++ made))) (map name rest) (subst (λ (ns : List (List ℕ)). Different ns) (ap names_in (after-more (done ++ made) rest) ∙ names-more (after (done ++ made)) rest) names_differ) in
      goes-append t d u (after done) (after (done ++ made)) (after (done ++ (made ++ rest))) (statement_of t d names c) (flat_map (statement_of t d names) cs)
      (subst (λ (s : Store). Goes t d u (after done) (statement_of t d names c) s) (sym here)
      (call-goes done c.args ready.0.available ready.0.small c.callee ready.0.fit (λ f xs a. targets f xs (among-left (App f xs) made rest a)) (λ b k g a is at. functions b k g (first b a) is at)
      (subst (λ (s : Store). Different (names_in s)) here fewer)))
      (subst (λ (xs : List Term). Goes t d u (after (done ++ made)) (flat_map (statement_of t d names) cs) (after xs)) (sym regrouped)
      (calls-go (done ++ made) cs ready.1 (λ f xs a. targets f xs (among-right (App f xs) made rest a)) (λ b k g a is at. functions b k g (inr a) is at) names_differ))
    where
      first : (b : PlannedCall) → Among b (c ∷ []) → Among b (c ∷ cs)
      first b (inl e) = inl e
      first b (inr a) = absurd a

  -- ---- copies

  -- each output can be copied to, and its term is there
  abbrev pub AreCopied : List Term → List (List ℕ × SortId) → List Term → Type 0
  AreCopied done [] [] = Unit {0}
  AreCopied done [] (x ∷ xs) = ⊥
  AreCopied done (o ∷ os) [] = ⊥
  AreCopied done (o ∷ os) (x ∷ xs) = (Copies t d u o x × Available t d done x) × AreCopied done os xs

  copy-goes : (done : List Term) (store : Store) (o : List ℕ × SortId) (x : Term) → Copies t d u o x → Available t d done x → Keeps store done → (b : Bool) → Different (names_in (store ++ (if b then [] else (o.0, x) ∷ [])))
      → Goes t d u store (if b then [] else copy_to t o (op x) ∷ []) (store ++ (if b then [] else (o.0, x) ∷ []))
  copy-goes done store o x can available keeps true differ = sym (append-nil store)
  copy-goes done store o x can available keeps false differ =
      let named : Different (names_in store ++ o.0 ∷ []) = subst (λ (ns : List (List ℕ)). Different ns) (map-append (λ (e : List ℕ × Term). e.0) store ((o.0, x) ∷ [])) differ in
      let one = standing store done (x ∷ []) (different-left (names_in store) (o.0 ∷ []) named) keeps (available, tt) in
      let puts = copy-puts t h d u lacks store o x can (λ a. different-apart o.0 (names_in store) (o.0 ∷ []) named a (inl refl)) (op x) one.0 in
      goes-one t d u store (store ++ (o.0, x) ∷ []) (copy_to t o (op x)) puts.passes puts.put_is

  keeps-more : (done : List Term) (store more : Store) → Keeps store done → Keeps (store ++ more) done
  keeps-more done store more k = record { inputs = λ i e at. among-left (e.0, In i) store more (k.inputs i e at); there = λ y a. among-left (name y, y) store more (k.there y a) }

  pub copies-go : (done : List Term) (store : Store) (os : List (List ℕ × SortId)) (xs : List Term) → AreCopied done os xs → Keeps store done → Different (names_in (store ++ copied names os xs)) → Goes t d u store (copies t d names os xs) (store ++ copied names os xs)
  copies-go done store [] xs can keeps differ = sym (append-nil store)
  copies-go done store (o ∷ os) [] can keeps differ = absurd can
  copies-go done store (o ∷ os) (x ∷ xs) can keeps differ =
      let new : Store = if is_set names o.0 then [] else (o.0, x) ∷ [] in
      let regrouped : store ++ (new ++ copied names os xs) ≡ (store ++ new) ++ copied names os xs = sym (append_assoc store new (copied names os xs)) in
      let names_differ : Different (names_in ((store ++ new) ++ copied names os xs)) = subst (λ (s : Store). Different (names_in s)) regrouped differ in
      let fewer : Different (names_in (store ++ new)) = different-left (names_in (store ++ new)) (names_in (copied names os xs)) (subst (λ (ns : List (List ℕ)). Different ns) (map-append (λ (e : List ℕ × Term). e.0) (store ++ new) (copied names os xs)) names_differ) in
      goes-append t d u store (store ++ new) (store ++ (new ++ copied names os xs)) (if is_set names o.0 then [] else copy_to t o (op x) ∷ []) (copies t d names os xs)
      (copy-goes done store o x can.0.0 can.0.1 keeps (is_set names o.0) fewer)
      (subst (λ (s : Store). Goes t d u (store ++ new) (copies t d names os xs) s) (sym regrouped)
      (copies-go done (store ++ new) os xs can.1 (keeps-more done store new keeps) names_differ))

  -- ---- the end

  -- each output's name is one of a pair with its term
  abbrev pub AreHeld : Store → List (List ℕ × SortId) → List Term → Type 0
  AreHeld store [] [] = Unit {0}
  AreHeld store [] (x ∷ xs) = ⊥
  AreHeld store (o ∷ os) [] = ⊥
  AreHeld store (o ∷ os) (x ∷ xs) = Among (o.0, x) store × AreHeld store os xs

  pub ends-held : (store : Store) (os : List (List ℕ × SortId)) (xs : List Term) → Different (names_in store) → AreHeld store os xs → terms_held store (entry_names os) ≡ Some xs
  ends-held store [] [] differ held = refl
  ends-held store [] (x ∷ xs) differ held = absurd held
  ends-held store (o ∷ os) [] differ held = absurd held
  ends-held store (o ∷ os) (x ∷ xs) differ held =
      ap (λ (q : Option Term). with_held_term q (terms_held store (entry_names os))) (held-there store o.0 x differ held.0)
      ∙ ap (with_held_term (Some x)) (ends-held store os xs differ held.1)
