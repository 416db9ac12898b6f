-- The head and the declarations of a plan are good, and its targets may be set.
use Rattle.std.proofs.Common.{◌≡◌, ◌∙◌, ◌⊎◌, inl, inr, ◌++◌, ◌&&◌, ◌==◌, ◌+◌, ◌≤◌, ℕ, zero, suc, arith, Bool, true, false, not, refl, sym, ap, subst, List, [], ◌∷◌, Option, Some, None, map, length, drop, find, slice_get, option_map, nat_lt, is_none, is_some, true≢false, append_assoc, if◌then◌else◌}
use Rattle.std.proofs.lemmas.Bool.Decides.{nat_tests}
use Rattle.std.proofs.lemmas.List.{length-append, length-map, map-append}
use Rattle.std.specs.List.{AllByRecursion}
use Rattle.std.specs.Str.{bytes_eq}
use Rattle.am_term.specs.declared.id.SortId.{SortId}
use Rattle.am_term.specs.declared.id.SymId.{SymId}
use Rattle.am_term.specs.declared.term.Term.{Term}
use Rattle.am_term.specs.declared.term.Term.TheViews.{out-Term}
use Rattle.am_term.specs.declared.term.Term.TheVariants.{App, outs-App}
use Rattle.am_term.specs.Names.{is_fortran_name, is_local_name}
use Rattle.am_term.specs.NameLists.{is_among}
use Rattle.am_term.proofs.Tests.{and_right, and_both, or_left, or_right, not_false, true_not}
use Rattle.am_theory.specs.declared.theory.Rep.{Rep}
use Rattle.am_theory.specs.declared.theory.Rep.TheVariants as rep
use Rattle.am_theory.specs.declared.theory.Routine.{Routine}
use Rattle.am_theory.specs.declared.theory.FortranFunction.{FortranFunction}
use Rattle.am_theory.specs.declared.theory.Theory.{Theory}
use Rattle.am_theory.specs.Lookups.{rep_of, result_of, result_sort, function_named, copy_names, fortran_names}
use Rattle.am_theory.specs.Faults.{is_free_name}
use Rattle.am_theory.specs.Facts.{WellFormed, IsConcrete, IsRoutine, IsFunction}
use Rattle.am_diagram.specs.declared.diagram.Diagram.{Diagram}
use Rattle.am_diagram.specs.Listed.{entry_sorts, entry_names}
use Rattle.am_diagram.specs.Facts.{WellFormed as WellFormedDiagram, IsFree, all_names}
use Rattle.am_fortran.specs.declared.statement.FortranType.{FortranType}
use Rattle.am_fortran.specs.declared.statement.FortranType.TheVariants as fortran
use Rattle.am_fortran.specs.declared.statement.Decl.{Decl}
use Rattle.am_fortran.specs.declared.unit.Unit.{Unit as Subroutine}
use Rattle.am_exec.specs.Types.{dummy_type, local_type, type_by, type_of_name, is_text_of_any_length, same_type}
use Rattle.am_exec.specs.Lawful.{dummies_of, further}
use Rattle.am_exec.specs.ItemFaults.{same_names, is_bad_head, have_one_type, declared_names, is_local, function_type, has_function_type, is_declared_function, declares, is_bad_declaration, lacks_dummy, declared_type, may_be_set, is_target}
use Rattle.am_exec.specs.Terms.{bad_declaration}
use Rattle.am_exec.proofs.Held.{eq_is, eq_same, or_both}
use Rattle.am_plan.specs.Names.{local_name, Named}
use Rattle.am_plan.specs.Plan.{rep_or_double, dummy_decl, head_symbol, rep_of_sort, rep_of_head, local_decl, called_function_decl}
use Rattle.am_plan.proofs.Membership.{Among, Different, all-among, among-all, among-map, map-among, among-left, among-right, among-split, different-left, different-right, different-apart, different-append}
use Rattle.am_plan.proofs.Holding.{not_among-is, among-is}
use Rattle.am_plan.proofs.CallStatements.{find-named, distinct-different}
use Rattle.am_plan.proofs.Copying.{find-among}
use Rattle.am_plan.proofs.TermNames.{local-is}

-- ---- types
number-same : (n : ℕ) → (n == n) ≡ true
number-same n = grind (arith, nat_tests)

same_type-refl : (a : FortranType) → same_type a a ≡ true
same_type-refl fortran.Double = refl
same_type-refl fortran.Integer = refl
same_type-refl fortran.Logical = refl
same_type-refl (fortran.Char m) = number-same m
same_type-refl fortran.CharAny = refl
same_type-refl (fortran.DoubleVec m) = number-same m
same_type-refl (fortran.DoubleMat m n) = and_both (m == m) (n == n) (number-same m) (number-same n)
same_type-refl (fortran.IntegerVec m) = number-same m

one_type : (a b : Option FortranType) (ty : FortranType) → a ≡ Some ty → b ≡ Some ty → have_one_type a b ≡ true
one_type a b ty e f = ap (λ (x : Option FortranType). have_one_type x b) e ∙ ap (have_one_type (Some ty)) f ∙ same_type-refl ty

local-sized : (r : Rep) → is_text_of_any_length (local_type r) ≡ false
local-sized rep.Double = refl
local-sized rep.Integer = refl
local-sized rep.Logical = refl
local-sized (rep.Char n) = refl
local-sized (rep.DoubleVec m) = refl
local-sized (rep.DoubleMat m n) = refl
local-sized (rep.IntegerVec m) = refl

-- what is there
pub the-rep : (o : Option Rep) → is_some o ≡ true → o ≡ Some (rep_or_double o)
the-rep None e = absurd (true≢false (sym e))
the-rep (Some r) e = refl

names-same : (ns : List (List ℕ)) → same_names ns ns ≡ true
names-same [] = refl
names-same (n ∷ ns) = and_both (bytes_eq n n) (same_names ns ns) (eq_same n) (names-same ns)

none-among : {A : Type 0} (f : A → List ℕ) (n : List ℕ) (xs : List A) → ((x : A) → Among x xs → f x ≡ n → ⊥) → (o : Option A) → find (λ (x : A). bytes_eq (f x) n) xs ≡ o → o ≡ None
none-among {A = A} f n xs h None e = refl
none-among {A = A} f n xs h (Some x) e = let r = find-among (λ (y : A). bytes_eq (f y) n) xs x e in absurd (h x r.0 (eq_is (f x) n r.1))

-- ---- names of the theory
module _ (t : Theory) (h : WellFormed t) where
  free_no_local : (n : List ℕ) → is_free_name n ≡ true → is_local_name n ≡ false
  free_no_local n e = true_not (is_local_name n) (and_right (is_fortran_name n) (not (is_local_name n)) e)

  function-no_local : (f : FortranFunction) → Among f t.functions → is_local_name f.name ≡ false
  function-no_local f a = free_no_local f.name (all-among (IsFunction t) f t.functions h.functions a).named

  -- no FORTRAN name of the theory is a local's
  fortran-no_local : (n : List ℕ) → Among n (fortran_names t) → is_local_name n ≡ false
  fortran-no_local n a = by_side (among-split n (map (λ (r : Routine). r.name) t.routines ++ map (λ (f : FortranFunction). f.name) t.functions) (copy_names t) a)
    where
      by_called : Among n (map (λ (r : Routine). r.name) t.routines) ⊎ Among n (map (λ (f : FortranFunction). f.name) t.functions) → is_local_name n ≡ false
      by_called (inl b) = let r = map-among (λ (r : Routine). r.name) n t.routines b in ap is_local_name r.2 ∙ free_no_local r.0.name (all-among (IsRoutine t) r.0 t.routines h.routines r.1).named
      by_called (inr b) = let r = map-among (λ (f : FortranFunction). f.name) n t.functions b in ap is_local_name r.2 ∙ function-no_local r.0 r.1

      by_side : Among n (map (λ (r : Routine). r.name) t.routines ++ map (λ (f : FortranFunction). f.name) t.functions) ⊎ Among n (copy_names t) → is_local_name n ≡ false
      by_side (inl b) = by_called (among-split n (map (λ (r : Routine). r.name) t.routines) (map (λ (f : FortranFunction). f.name) t.functions) b)
      by_side (inr b) = free_no_local n (all-among (λ (m : List ℕ). is_free_name m ≡ true) n (copy_names t) h.copies_named b)

  function-fortran : (f : FortranFunction) → Among f t.functions → Among f.name (fortran_names t)
  function-fortran f a = among-left f.name (map (λ (r : Routine). r.name) t.routines ++ map (λ (g : FortranFunction). g.name) t.functions) (copy_names t) (among-right f.name (map (λ (r : Routine). r.name) t.routines) (map (λ (g : FortranFunction). g.name) t.functions) (among-map (λ (g : FortranFunction). g.name) f t.functions a))

  -- a local's name is no function's
  local-no_function : (j : ℕ) → function_named t (local_name j) ≡ None
  local-no_function j = none-among (λ (f : FortranFunction). f.name) (local_name j) t.functions (λ f a e. true≢false (sym (local-is j) ∙ ap is_local_name (sym e) ∙ function-no_local f a)) (function_named t (local_name j)) refl

  module _ (d : Diagram) (wd : WellFormedDiagram t d) where
    dummy-free : (n : List ℕ) → Among n (entry_names (dummies_of d)) → IsFree t n
    dummy-free n a = by_side (among-split n (entry_names d.inputs) (entry_names d.outputs) (subst (λ (ns : List (List ℕ)). Among n ns) (map-append (λ (e : List ℕ × SortId). e.0) d.inputs d.outputs) a))
      where
        by_side : Among n (entry_names d.inputs) ⊎ Among n (entry_names d.outputs) → IsFree t n
        by_side (inl b) = all-among (IsFree t) n (entry_names d.inputs) wd.inputs_named b
        by_side (inr b) = all-among (IsFree t) n (entry_names d.outputs) wd.outputs_named b

    names-there : Different (all_names d)
    names-there = distinct-different (all_names d) wd.distinct

    behind-name : Different (entry_names d.inputs ++ entry_names d.objects ++ entry_names d.outputs)
    behind-name = names-there.1

    pub inputs-differ : Different (entry_names d.inputs)
    inputs-differ = different-left (entry_names d.inputs) (entry_names d.objects) (different-left (entry_names d.inputs ++ entry_names d.objects) (entry_names d.outputs) behind-name)

    pub outputs-differ : Different (entry_names d.outputs)
    outputs-differ = different-right (entry_names d.inputs ++ entry_names d.objects) (entry_names d.outputs) behind-name

    pub input-no_output : (n : List ℕ) → Among n (entry_names d.inputs) → Among n (entry_names d.outputs) → ⊥
    input-no_output n a b = different-apart n (entry_names d.inputs ++ entry_names d.objects) (entry_names d.outputs) behind-name (among-left n (entry_names d.inputs) (entry_names d.objects) a) b

    dummies-differ : Different (entry_names (dummies_of d))
    dummies-differ = subst (λ (ns : List (List ℕ)). Different ns) (sym (map-append (λ (e : List ℕ × SortId). e.0) d.inputs d.outputs)) (different-append (entry_names d.inputs) (entry_names d.outputs) inputs-differ outputs-differ input-no_output)

    dummy-no_local : (n : List ℕ) (j : ℕ) → Among n (entry_names (dummies_of d)) → n ≡ local_name j → ⊥
    dummy-no_local n j a e = true≢false (sym (local-is j) ∙ ap is_local_name (sym e) ∙ (dummy-free n a).not_local)

    -- ---- the plan's declarations
    module _ (u : Subroutine) (ls : List Named) (fs : List FortranFunction)
        (locals_named : (e : Named) → Among e ls → (j : ℕ) × (e.0 ≡ local_name j))
        (locals_differ : Different (map (λ (e : Named). e.0) ls))
        (functions_there : (f : FortranFunction) → Among f fs → Among f t.functions)
        (functions_named : (f : FortranFunction) → Among f fs → function_named t f.name ≡ Some f)
        (functions_differ : Different (map (λ (f : FortranFunction). f.name) fs))
        (name_is : u.name ≡ d.name)
        (dummies_are : u.dummies ≡ entry_names (dummies_of d))
        (declarations_are : u.declarations ≡ map (dummy_decl t) (dummies_of d) ++ map (local_decl t) ls ++ map (called_function_decl t) fs) where
      abbrev dummy_decls : List Decl
      dummy_decls = map (dummy_decl t) (dummies_of d)

      abbrev local_decls : List Decl
      local_decls = map (local_decl t) ls

      abbrev function_decls : List Decl
      function_decls = map (called_function_decl t) fs

      -- names of declarations
      dummy-names : (es : List (List ℕ × SortId)) → declared_names (map (dummy_decl t) es) ≡ entry_names es
      dummy-names [] = refl
      dummy-names (e ∷ es) = ap (λ (ns : List (List ℕ)). e.0 ∷ ns) (dummy-names es)

      local-names : (es : List Named) → declared_names (map (local_decl t) es) ≡ map (λ (e : Named). e.0) es
      local-names [] = refl
      local-names (e ∷ es) = ap (λ (ns : List (List ℕ)). e.0 ∷ ns) (local-names es)

      function-names : (gs : List FortranFunction) → declared_names (map (called_function_decl t) gs) ≡ map (λ (f : FortranFunction). f.name) gs
      function-names [] = refl
      function-names (g ∷ gs) = ap (λ (ns : List (List ℕ)). g.name ∷ ns) (function-names gs)

      abbrev dummy_names : List (List ℕ)
      dummy_names = entry_names (dummies_of d)

      abbrev own_names : List (List ℕ)
      own_names = map (λ (e : Named). e.0) ls

      abbrev function_names : List (List ℕ)
      function_names = map (λ (f : FortranFunction). f.name) fs

      further-names : declared_names (local_decls ++ function_decls) ≡ own_names ++ function_names
      further-names = map-append (λ (e : Decl). e.name) local_decls function_decls ∙ ap (λ (ns : List (List ℕ)). ns ++ declared_names function_decls) (local-names ls) ∙ ap (λ (ns : List (List ℕ)). own_names ++ ns) (function-names fs)

      whole-names : declared_names (dummy_decls ++ (local_decls ++ function_decls)) ≡ dummy_names ++ (own_names ++ function_names)
      whole-names = map-append (λ (e : Decl). e.name) dummy_decls (local_decls ++ function_decls) ∙ ap (λ (ns : List (List ℕ)). ns ++ declared_names (local_decls ++ function_decls)) (dummy-names (dummies_of d)) ∙ ap (λ (ns : List (List ℕ)). dummy_names ++ ns) further-names

      own-function : (n : List ℕ) → Among n own_names → Among n function_names → ⊥
      own-function n a b =
          let e = map-among (λ (e : Named). e.0) n ls a in
          let f = map-among (λ (f : FortranFunction). f.name) n fs b in
          let j = locals_named e.0 e.1 in
          true≢false (sym (local-is j.0) ∙ ap is_local_name (sym (e.2 ∙ j.1)) ∙ ap is_local_name f.2 ∙ function-no_local f.0 (functions_there f.0 f.1))

      dummy-further : (n : List ℕ) → Among n dummy_names → Among n (own_names ++ function_names) → ⊥
      dummy-further n a b = by_side (among-split n own_names function_names b)
        where
          by_side : Among n own_names ⊎ Among n function_names → ⊥
          by_side (inl c) = let e = map-among (λ (e : Named). e.0) n ls c in let j = locals_named e.0 e.1 in dummy-no_local n j.0 a (e.2 ∙ j.1)
          by_side (inr c) =
              let f = map-among (λ (f : FortranFunction). f.name) n fs c in
              true≢false (sym (among-is n (fortran_names t) (subst (λ (m : List ℕ). Among m (fortran_names t)) (sym f.2) (function-fortran f.0 (functions_there f.0 f.1)))) ∙ (dummy-free n a).not_theory)

      names-differ : Different (dummy_names ++ (own_names ++ function_names))
      names-differ = different-append dummy_names (own_names ++ function_names) dummies-differ (different-append own_names function_names locals_differ functions_differ own-function) dummy-further

      decls-differ : Different (declared_names (dummy_decls ++ (local_decls ++ function_decls)))
      decls-differ = subst (λ (ns : List (List ℕ)). Different ns) (sym whole-names) names-differ

      decls-are : u.declarations ≡ dummy_decls ++ (local_decls ++ function_decls)
      decls-are = declarations_are ∙ append_assoc dummy_decls local_decls function_decls

      -- ---- the head
      pub head-good : is_bad_head d u ≡ false
      head-good = ap not (and_both (bytes_eq u.name d.name) (same_names u.dummies (entry_names (dummies_of d)))
          (subst (λ (n : List ℕ). bytes_eq n d.name ≡ true) (sym name_is) (eq_same d.name))
          (subst (λ (ns : List (List ℕ)). same_names ns (entry_names (dummies_of d)) ≡ true) (sym dummies_are) (names-same (entry_names (dummies_of d)))))

      dummies-counted : length u.dummies ≡ length (dummies_of d)
      dummies-counted = ap (λ (ns : List (List ℕ)). length ns) dummies_are ∙ length-map (dummies_of d) (λ (e : List ℕ × SortId). e.0)

      dummy_decls-counted : length dummy_decls ≡ length u.dummies
      dummy_decls-counted = length-map (dummies_of d) (dummy_decl t) ∙ sym dummies-counted

      pub none-lacks : lacks_dummy u ≡ false
      none-lacks = enough (length u.declarations) (length u.dummies) (length (local_decls ++ function_decls)) (ap (λ (es : List Decl). length es) decls-are ∙ length-append dummy_decls (local_decls ++ function_decls) ∙ ap (λ (n : ℕ). n + length (local_decls ++ function_decls)) dummy_decls-counted)
        where
          enough : (a b c : ℕ) → a ≡ b + c → nat_lt a b ≡ false
          enough a b c e = let l : b ≤ a = omega arith in grind (arith, nat_tests)

      -- ---- what stands behind the dummies
      local-good : (e : Named) → Among e ls → declares t u None (local_decl t e) ≡ true
      local-good e a =
          let j = locals_named e a in
          let x = local_decl t e in
          or_left (is_local t u x) (is_declared_function t x)
          (and_both (not (is_among e.0 u.dummies)) (not (is_among e.0 (u.name ∷ [])) && (not (is_among e.0 (fortran_names t)) && not (is_text_of_any_length x.ty)))
          (not_false (is_among e.0 u.dummies) (ap (is_among e.0) dummies_are ∙ not_among-is e.0 dummy_names (λ b. dummy-no_local e.0 j.0 b j.1)))
          (and_both (not (is_among e.0 (u.name ∷ []))) (not (is_among e.0 (fortran_names t)) && not (is_text_of_any_length x.ty))
          (not_false (is_among e.0 (u.name ∷ [])) (not_among-is e.0 (u.name ∷ []) (no_unit j.0 j.1)))
          (and_both (not (is_among e.0 (fortran_names t))) (not (is_text_of_any_length x.ty))
          (not_false (is_among e.0 (fortran_names t)) (not_among-is e.0 (fortran_names t) (λ b. true≢false (sym (local-is j.0) ∙ ap is_local_name (sym j.1) ∙ fortran-no_local e.0 b))))
          (not_false (is_text_of_any_length x.ty) (local-sized (rep_of_head t (head_symbol (out-Term e.1))))))))
        where
          no_unit : (j : ℕ) → e.0 ≡ local_name j → Among e.0 (u.name ∷ []) → ⊥
          no_unit j is (inl s) = true≢false (sym (local-is j) ∙ ap is_local_name (sym is ∙ s ∙ name_is) ∙ wd.named.not_local)
          no_unit j is (inr b) = b

      function-good : (f : FortranFunction) → Among f fs → declares t u None (called_function_decl t f) ≡ true
      function-good f a =
          let x = called_function_decl t f in
          let stands = (all-among (IsFunction t) f t.functions h.functions (functions_there f a)).stands in
          let sort : result_sort t.sig f.symbol ≡ Some stands.sort = ap result_of stands.there ∙ stands.result in
          let the = the-rep (rep_of t stands.sort) stands.concrete in
          or_right (is_local t u x) (is_declared_function t x)
          (ap (has_function_type t x.ty) (functions_named f a)
          ∙ one_type (Some x.ty) (function_type t (result_sort t.sig f.symbol)) x.ty refl
          (ap (function_type t) sort ∙ ap (type_by local_type) the ∙ ap (λ (s : Option SortId). Some (local_type (rep_of_sort t s))) (sym sort)))

      further-good : AllByRecursion (λ (e : Decl). declares t u None e ≡ true) (local_decls ++ function_decls)
      further-good = among-all (λ (e : Decl). declares t u None e ≡ true) (local_decls ++ function_decls) (λ e a. by_side e (among-split e local_decls function_decls a))
        where
          by_side : (e : Decl) → Among e local_decls ⊎ Among e function_decls → declares t u None e ≡ true
          by_side e (inl a) = let r = map-among (local_decl t) e ls a in subst (λ (x : Decl). declares t u None x ≡ true) (sym r.2) (local-good r.0 r.1)
          by_side e (inr a) = let r = map-among (called_function_decl t) e fs a in subst (λ (x : Decl). declares t u None x ≡ true) (sym r.2) (function-good r.0 r.1)

      dummy-concrete : (e : List ℕ × SortId) → Among e (dummies_of d) → is_some (rep_of t e.1) ≡ true
      dummy-concrete e a = by_side (among-split e d.inputs d.outputs a)
        where
          by_side : Among e d.inputs ⊎ Among e d.outputs → is_some (rep_of t e.1) ≡ true
          by_side (inl b) = all-among (IsConcrete t) e.1 (entry_sorts d.inputs) wd.inputs_concrete (among-map (λ (q : List ℕ × SortId). q.1) e d.inputs b)
          by_side (inr b) = all-among (IsConcrete t) e.1 (entry_sorts d.outputs) wd.outputs_concrete (among-map (λ (q : List ℕ × SortId). q.1) e d.outputs b)

      dummy-good : (e : List ℕ × SortId) → Among e (dummies_of d) → declares t u (Some e) (dummy_decl t e) ≡ true
      dummy-good e a = and_both (bytes_eq e.0 e.0) (have_one_type (Some (dummy_type (rep_or_double (rep_of t e.1)))) (type_by dummy_type (rep_of t e.1))) (eq_same e.0)
          (one_type (Some (dummy_type (rep_or_double (rep_of t e.1)))) (type_by dummy_type (rep_of t e.1)) (dummy_type (rep_or_double (rep_of t e.1))) refl (ap (type_by dummy_type) (the-rep (rep_of t e.1) (dummy-concrete e a))))

      -- ---- no declaration is bad
      not-bad : (earlier : List Decl) (e : Decl) (es : List Decl) (o : Option (List ℕ × SortId)) → slice_get (dummies_of d) (length earlier) ≡ o → declares t u o e ≡ true → Different (declared_names earlier ++ declared_names (e ∷ es)) → is_bad_declaration t d u earlier e ≡ false
      not-bad earlier e es o at good differ =
          or_both (is_among e.name (declared_names earlier)) (not (declares t u (slice_get (dummies_of d) (length earlier)) e))
          (not_among-is e.name (declared_names earlier) (λ a. different-apart e.name (declared_names earlier) (declared_names (e ∷ es)) differ a (inl refl)))
          (ap (λ (q : Option (List ℕ × SortId)). not (declares t u q e)) at ∙ ap not good)

      on : (earlier : List Decl) (e : Decl) (es : List Decl) → is_bad_declaration t d u earlier e ≡ false → bad_declaration t d u (earlier ++ e ∷ []) es ≡ None → bad_declaration t d u earlier (e ∷ es) ≡ None
      on earlier e es good rest = ap (λ (b : Bool). if b then Some (length earlier) else bad_declaration t d u (earlier ++ e ∷ []) es) good ∙ rest

      moved : (earlier : List Decl) (e : Decl) (es : List Decl) → Different (declared_names earlier ++ declared_names (e ∷ es)) → Different (declared_names (earlier ++ e ∷ []) ++ declared_names es)
      moved earlier e es differ = subst (λ (ns : List (List ℕ)). Different ns) (sym (append_assoc (declared_names earlier) (e.name ∷ []) (declared_names es)) ∙ ap (λ (ns : List (List ℕ)). ns ++ declared_names es) (sym (map-append (λ (x : Decl). x.name) earlier (e ∷ [])))) differ

      get-past : (xs : List (List ℕ × SortId)) (k : ℕ) → length xs ≤ k → slice_get xs k ≡ None
      get-past [] k l = refl
      get-past (x ∷ xs) zero l = absurd (omega arith)
      get-past (x ∷ xs) (suc k) l = get-past xs k (omega arith)

      get-seam : (xs : List (List ℕ × SortId)) (y : List ℕ × SortId) (ys : List (List ℕ × SortId)) (k : ℕ) → k ≡ length xs → slice_get (xs ++ y ∷ ys) k ≡ Some y
      get-seam [] y ys zero e = refl
      get-seam [] y ys (suc k) e = absurd (omega arith)
      get-seam (x ∷ xs) y ys zero e = absurd (omega arith)
      get-seam (x ∷ xs) y ys (suc k) e = get-seam xs y ys k (omega arith)

      good-further : (earlier es : List Decl) → length (dummies_of d) ≤ length earlier → AllByRecursion (λ (e : Decl). declares t u None e ≡ true) es → Different (declared_names earlier ++ declared_names es) → bad_declaration t d u earlier es ≡ None
      good-further earlier [] l g differ = refl
      good-further earlier (e ∷ es) l g differ = on earlier e es (not-bad earlier e es None (get-past (dummies_of d) (length earlier) l) g.0 differ)
          (good-further (earlier ++ e ∷ []) es (longer (length earlier) (length (earlier ++ e ∷ [])) (length (dummies_of d)) (length-append earlier (e ∷ [])) l) g.1 (moved earlier e es differ))
        where
          longer : (a b n : ℕ) → b ≡ a + 1 → n ≤ a → n ≤ b
          longer a b n e l = omega arith

      good-dummies : (pre rem : List (List ℕ × SortId)) (earlier es : List Decl) → dummies_of d ≡ pre ++ rem → length earlier ≡ length pre → AllByRecursion (λ (e : Decl). declares t u None e ≡ true) es → Different (declared_names earlier ++ declared_names (map (dummy_decl t) rem ++ es)) → bad_declaration t d u earlier (map (dummy_decl t) rem ++ es) ≡ None
      good-dummies pre [] earlier es is l g differ = good-further earlier es (all_before (length (dummies_of d)) (length pre) (length earlier) (ap (λ (xs : List (List ℕ × SortId)). length xs) is ∙ length-append pre []) l) g differ
        where
          all_before : (a b c : ℕ) → a ≡ b + 0 → c ≡ b → a ≤ c
          all_before a b c e f = omega arith
      good-dummies pre (r ∷ rem) earlier es is l g differ =
          let e = dummy_decl t r in
          let rest = map (dummy_decl t) rem ++ es in
          on earlier e rest
          (not-bad earlier e rest (Some r) (ap (λ (xs : List (List ℕ × SortId)). slice_get xs (length earlier)) is ∙ get-seam pre r rem (length earlier) l) (dummy-good r (subst (λ (xs : List (List ℕ × SortId)). Among r xs) (sym is) (among-right r pre (r ∷ rem) (inl refl)))) differ)
          (good-dummies (pre ++ r ∷ []) rem (earlier ++ e ∷ []) es (is ∙ sym (append_assoc pre (r ∷ []) rem))
          (longer (length earlier) (length pre) (length (earlier ++ e ∷ [])) (length (pre ++ r ∷ [])) l (length-append earlier (e ∷ [])) (length-append pre (r ∷ [])))
          g (moved earlier e rest differ))
        where
          longer : (a b c d : ℕ) → a ≡ b → c ≡ a + 1 → d ≡ b + 1 → c ≡ d
          longer a b c d e f g = omega arith

      pub declarations-good : bad_declaration t d u [] u.declarations ≡ None
      declarations-good = ap (bad_declaration t d u []) decls-are ∙ good-dummies [] (dummies_of d) [] (local_decls ++ function_decls) refl refl further-good decls-differ

      -- ---- targets
      declared-as : (e : Decl) → Among e (dummy_decls ++ (local_decls ++ function_decls)) → declared_type u e.name ≡ Some e.ty
      declared-as e a = ap (λ (es : List Decl). option_map (λ (x : Decl). x.ty) (find (λ (x : Decl). bytes_eq x.name e.name) es)) decls-are
          ∙ ap (option_map (λ (x : Decl). x.ty)) (find-named (λ (x : Decl). x.name) e.name e (dummy_decls ++ (local_decls ++ function_decls)) decls-differ a refl)

      further-is : further u ≡ local_decls ++ function_decls
      further-is = ap (λ (es : List Decl). drop (length u.dummies) es) decls-are ∙ behind dummy_decls (local_decls ++ function_decls) (length u.dummies) dummy_decls-counted
        where
          behind : (xs ys : List Decl) (n : ℕ) → length xs ≡ n → drop n (xs ++ ys) ≡ ys
          behind [] ys zero e = refl
          behind [] ys (suc n) e = absurd (omega arith)
          behind (x ∷ xs) ys zero e = absurd (omega arith)
          behind (x ∷ xs) ys (suc n) e = behind xs ys n (omega arith)

      -- an output gets a term whose sort has the output's representation
      pub output-target : (o : List ℕ × SortId) → Among o d.outputs → (s : SortId) → rep_of t s ≡ rep_of t o.1 → is_target t d u (Some o.0) (Some s) ≡ true
      output-target o a s e =
          let ty = dummy_type (rep_or_double (rep_of t o.1)) in
          let there = among-right o d.inputs d.outputs a in
          let name = among-map (λ (q : List ℕ × SortId). q.0) o (dummies_of d) there in
          and_both (may_be_set t d u o.0) (have_one_type (declared_type u o.0) (type_of_name t u.dummies o.0 s))
          (or_left (is_among o.0 (entry_names d.outputs)) (is_among o.0 (declared_names (further u)) && is_none (function_named t o.0)) (among-is o.0 (entry_names d.outputs) (among-map (λ (q : List ℕ × SortId). q.0) o d.outputs a)))
          (one_type (declared_type u o.0) (type_of_name t u.dummies o.0 s) ty
          (declared-as (dummy_decl t o) (among-left (dummy_decl t o) dummy_decls (local_decls ++ function_decls) (among-map (dummy_decl t) o (dummies_of d) there)))
          (ap (λ (b : Bool). if b then type_by dummy_type (rep_of t s) else type_by local_type (rep_of t s)) (ap (is_among o.0) dummies_are ∙ among-is o.0 dummy_names name)
          ∙ ap (type_by dummy_type) (e ∙ the-rep (rep_of t o.1) (dummy-concrete o there))))

      -- a local gets its term
      pub local-target : (n : List ℕ) (f : SymId) (xs : List Term) (s : SortId) → Among (n, App f xs) ls → result_sort t.sig f ≡ Some s → is_some (rep_of t s) ≡ true → is_target t d u (Some n) (Some s) ≡ true
      local-target n f xs s a sort concrete =
          let e : Named = (n, App f xs) in
          let x = local_decl t e in
          let j = locals_named e a in
          let ty = local_type (rep_or_double (rep_of t s)) in
          let there = among-left x local_decls function_decls (among-map (local_decl t) e ls a) in
          let typed : x.ty ≡ ty = ap (λ (o : Option SymId). local_type (rep_of_head t o)) (ap head_symbol (outs-App f xs)) ∙ ap (λ (o : Option SortId). local_type (rep_of_sort t o)) sort in
          and_both (may_be_set t d u n) (have_one_type (declared_type u n) (type_of_name t u.dummies n s))
          (or_right (is_among n (entry_names d.outputs)) (is_among n (declared_names (further u)) && is_none (function_named t n))
          (and_both (is_among n (declared_names (further u))) (is_none (function_named t n))
          (ap (λ (es : List Decl). is_among n (declared_names es)) further-is ∙ among-is n (declared_names (local_decls ++ function_decls)) (among-map (λ (y : Decl). y.name) x (local_decls ++ function_decls) there))
          (ap is_none (ap (function_named t) j.1 ∙ local-no_function j.0))))
          (one_type (declared_type u n) (type_of_name t u.dummies n s) ty
          (declared-as x (among-right x dummy_decls (local_decls ++ function_decls) there) ∙ ap Some typed)
          (ap (λ (b : Bool). if b then type_by dummy_type (rep_of t s) else type_by local_type (rep_of t s)) (ap (is_among n) dummies_are ∙ not_among-is n dummy_names (λ b. dummy-no_local n j.0 b j.1))
          ∙ ap (type_by local_type) (the-rep (rep_of t s) concrete)))

      -- the functions are declared
      pub function-declared : (f : FortranFunction) → Among f fs → is_among f.name (declared_names (further u)) ≡ true
      function-declared f a =
          ap (λ (es : List Decl). is_among f.name (declared_names es)) further-is
          ∙ among-is f.name (declared_names (local_decls ++ function_decls)) (among-map (λ (y : Decl). y.name) (called_function_decl t f) (local_decls ++ function_decls) (among-right (called_function_decl t f) local_decls function_decls (among-map (called_function_decl t) f fs a)))
