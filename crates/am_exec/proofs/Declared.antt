-- What the tests of the head and of declarations tell.
use Rattle.std.proofs.Common.{◌≡◌, ◌∙◌, ◌⊎◌, inl, inr, ◌++◌, ◌&&◌, ◌||◌, ◌≤◌, ◌==◌, ℕ, zero, suc, true, false, Bool, not, refl, sym, ap, subst, arith, List, [], ◌∷◌, Option, Some, None, map, length, take, drop, slice_get, true≢false, append_assoc, if◌then◌else◌, Contains}
use Rattle.std.proofs.lemmas.Bool.Decides.{nat_tests}
use Rattle.std.specs.List.{AllByRecursion}
use Rattle.std.specs.Str.{bytes_eq}
use Rattle.am_term.specs.declared.id.SortId.{SortId}
use Rattle.am_term.specs.NameLists.{is_among, are_distinct}
use Rattle.am_term.proofs.Tests.{and_left, and_right, and_both, or_cases, true_not, false_not, not_false, never_both}
use Rattle.am_theory.specs.declared.theory.FortranFunction.{FortranFunction}
use Rattle.am_theory.specs.declared.theory.Theory.{Theory}
use Rattle.am_theory.specs.Lookups.{rep_of, result_sort, function_named, fortran_names}
use Rattle.am_diagram.specs.declared.diagram.Diagram.{Diagram}
use Rattle.am_diagram.specs.Listed.{entry_names}
use Rattle.am_fortran.specs.declared.statement.FortranType.{FortranType}
use Rattle.am_fortran.specs.declared.statement.FortranType.TheVariants as fortran
use Rattle.am_fortran.specs.declared.statement.Decl.{Decl}
use Rattle.am_fortran.specs.declared.unit.Unit.{Unit as Subroutine}
use Rattle.am_exec.specs.Types.{is_text_of_any_length, same_type, dummy_type, local_type, type_by}
use Rattle.am_exec.specs.Lawful.{dummies_of, typed_name, typed_dummy, IsDeclaredFunction, IsLocal}
use Rattle.am_exec.specs.ItemFaults.{same_names, is_bad_head, have_one_type, declared_names, is_local, function_type, has_function_type, is_declared_function, declares, is_bad_declaration, lacks_dummy}
use Rattle.am_exec.specs.Terms.{bad_declaration}
use Rattle.am_exec.proofs.Names.{is_among-append}
use Rattle.am_exec.proofs.Held.{eq_is, eq_same, or_false-left, or_false-right, or_both}
use Rattle.am_exec.proofs.Listed.{contains-here, contains-later}

same_number : (m n : ℕ) → (m == n) ≡ true → m ≡ n
same_number m n e = grind (arith, nat_tests)

same_type-is : (a b : FortranType) → same_type a b ≡ true → a ≡ b
same_type-is fortran.Double fortran.Double e = refl
same_type-is fortran.Integer fortran.Integer e = refl
same_type-is fortran.Logical fortran.Logical e = refl
same_type-is (fortran.Char m) (fortran.Char n) e = ap fortran.Char (same_number m n e)
same_type-is fortran.CharAny fortran.CharAny e = refl
same_type-is (fortran.DoubleVec m) (fortran.DoubleVec n) e = ap fortran.DoubleVec (same_number m n e)
same_type-is (fortran.DoubleMat k m) (fortran.DoubleMat l n) e = ap (λ x. fortran.DoubleMat x m) (same_number k l (and_left (k == l) (m == n) e)) ∙ ap (fortran.DoubleMat l) (same_number m n (and_right (k == l) (m == n) e))
same_type-is (fortran.IntegerVec m) (fortran.IntegerVec n) e = ap fortran.IntegerVec (same_number m n e)
same_type-is _ _ e = absurd (true≢false (sym e))

pub one_type-is : (a b : Option FortranType) → have_one_type a b ≡ true → a ≡ b
one_type-is None b e = absurd (true≢false (sym e))
one_type-is (Some a) None e = absurd (true≢false (sym e))
one_type-is (Some a) (Some b) e = ap Some (same_type-is a b e)

same_names-is : (ms ns : List (List ℕ)) → same_names ms ns ≡ true → ms ≡ ns
same_names-is [] [] e = refl
same_names-is [] (n ∷ ns) e = absurd (true≢false (sym e))
same_names-is (m ∷ ms) [] e = absurd (true≢false (sym e))
same_names-is (m ∷ ms) (n ∷ ns) e = ap (λ x. x ∷ ms) (eq_is m n (and_left (bytes_eq m n) (same_names ms ns) e)) ∙ ap (λ xs. n ∷ xs) (same_names-is ms ns (and_right (bytes_eq m n) (same_names ms ns) e))

-- the head's two rules
pub head-named : (d : Diagram) (u : Subroutine) → is_bad_head d u ≡ false → u.name ≡ d.name
head-named d u e = eq_is u.name d.name (and_left (bytes_eq u.name d.name) (same_names u.dummies (entry_names (dummies_of d))) (false_not (bytes_eq u.name d.name && same_names u.dummies (entry_names (dummies_of d))) e))

pub head-dummies : (d : Diagram) (u : Subroutine) → is_bad_head d u ≡ false → u.dummies ≡ entry_names (dummies_of d)
head-dummies d u e = same_names-is u.dummies (entry_names (dummies_of d)) (and_right (bytes_eq u.name d.name) (same_names u.dummies (entry_names (dummies_of d))) (false_not (bytes_eq u.name d.name && same_names u.dummies (entry_names (dummies_of d))) e))

names-counted : (es : List (List ℕ × SortId)) → length (entry_names es) ≡ length es
names-counted [] = refl
names-counted (e ∷ es) = ap suc (names-counted es)

pub dummies-counted : (d : Diagram) (u : Subroutine) → is_bad_head d u ≡ false → length u.dummies ≡ length (dummies_of d)
dummies-counted d u e = ap length (head-dummies d u e) ∙ names-counted (dummies_of d)

get-seam : (xs : List (List ℕ × SortId)) (y : List ℕ × SortId) (ys : List (List ℕ × SortId)) → slice_get (xs ++ y ∷ ys) (length xs) ≡ Some y
get-seam [] y ys = refl
get-seam (x ∷ xs) y ys = get-seam xs y ys

get-past : (xs : List (List ℕ × SortId)) (k : ℕ) → length xs ≤ k → slice_get xs k ≡ None
get-past [] k h = refl
get-past (x ∷ xs) zero h = absurd (omega arith)
get-past (x ∷ xs) (suc k) h = get-past xs k (omega arith)

length-push : (xs : List Decl) (x : Decl) → length (xs ++ x ∷ []) ≡ suc (length xs)
length-push [] x = refl
length-push (y ∷ ys) x = ap suc (length-push ys x)

longer : (xs : List (List ℕ × SortId)) (x : List ℕ × SortId) → length (xs ++ x ∷ []) ≡ suc (length xs)
longer [] x = refl
longer (y ∷ ys) x = ap suc (longer ys x)

-- the declarations follow these dummies: each has its name and type, and what is behind is a local or a function
abbrev pub FollowDummies : Theory → Subroutine → List (List ℕ × SortId) → List Decl → Type 0
FollowDummies t u [] es = AllByRecursion (λ (e : Decl). declares t u None e ≡ true) es
FollowDummies t u (r ∷ rs) [] = Unit {0}
FollowDummies t u (r ∷ rs) (e ∷ es) = (declares t u (Some r) e ≡ true) × FollowDummies t u rs es

module _ (t : Theory) (d : Diagram) (u : Subroutine) where
  -- a declaration that isn't bad, and those behind it
  record Good (earlier : List Decl) (e : Decl) (es : List Decl) : Type 0 where
    new : is_among e.name (declared_names earlier) ≡ false
    declaring : declares t u (slice_get (dummies_of d) (length earlier)) e ≡ true
    behind : bad_declaration t d u (earlier ++ e ∷ []) es ≡ None

  good : (earlier : List Decl) (e : Decl) (es : List Decl) → bad_declaration t d u earlier (e ∷ es) ≡ None → Good earlier e es
  good earlier e es h = by_test (is_bad_declaration t d u earlier e) refl h
    where
      by_test : (b : Bool) → is_bad_declaration t d u earlier e ≡ b → (if b then Some (length earlier) else bad_declaration t d u (earlier ++ e ∷ []) es) ≡ None → Good earlier e es
      by_test true is h = absurd cc
      by_test false is h =
          let among = is_among e.name (declared_names earlier) in
          let declaring = declares t u (slice_get (dummies_of d) (length earlier)) e in
          record { new = or_false-left among (not declaring) is; declaring = false_not declaring (or_false-right among (not declaring) is); behind = h }

  follow-further : (earlier es : List Decl) → length (dummies_of d) ≤ length earlier → bad_declaration t d u earlier es ≡ None → AllByRecursion (λ (e : Decl). declares t u None e ≡ true) es
  follow-further earlier [] l h = tt
  follow-further earlier (e ∷ es) l h =
      let g = good earlier e es h in (
        subst (λ (o : Option (List ℕ × SortId)). declares t u o e ≡ true) (get-past (dummies_of d) (length earlier) l) g.declaring,
        follow-further (earlier ++ e ∷ []) es (subst (λ (k : ℕ). length (dummies_of d) ≤ k) (sym (length-push earlier e)) (omega arith)) g.behind,
      )

  follow : (pre rem : List (List ℕ × SortId)) (earlier es : List Decl) → dummies_of d ≡ pre ++ rem → length pre ≡ length earlier → bad_declaration t d u earlier es ≡ None → FollowDummies t u rem es
  follow pre [] earlier es is l h = follow-further earlier es (all_before pre is l) h
    where
      nothing_behind : (xs : List (List ℕ × SortId)) → length (xs ++ []) ≡ length xs
      nothing_behind [] = refl
      nothing_behind (x ∷ xs) = ap suc (nothing_behind xs)

      all_before : (pre : List (List ℕ × SortId)) → dummies_of d ≡ pre ++ [] → length pre ≡ length earlier → length (dummies_of d) ≤ length earlier
      all_before pre is l = let e : length (dummies_of d) ≡ length pre = ap length is ∙ nothing_behind pre in omega (arith, e, l)
  follow pre (r ∷ rs) earlier [] is l h = tt
  follow pre (r ∷ rs) earlier (e ∷ es) is l h =
      let g = good earlier e es h in (
        subst (λ (o : Option (List ℕ × SortId)). declares t u o e ≡ true) (ap (λ (xs : List (List ℕ × SortId)). slice_get xs (length earlier)) is ∙ ap (slice_get (pre ++ r ∷ rs)) (sym l) ∙ get-seam pre r rs) g.declaring,
        follow (pre ++ r ∷ []) rs (earlier ++ e ∷ []) es (is ∙ sym (append_assoc pre (r ∷ []) rs)) (longer pre r ∙ ap suc l ∙ sym (length-push earlier e)) g.behind,
      )

  pub dummies-followed : bad_declaration t d u [] u.declarations ≡ None → FollowDummies t u (dummies_of d) u.declarations
  dummies-followed h = follow [] (dummies_of d) [] u.declarations refl refl h

  -- no name is declared twice
  record Once (earlier es : List Decl) : Type 0 where
    distinct : are_distinct (declared_names es) ≡ true
    apart : (n : List ℕ) → is_among n (declared_names earlier) ≡ true → is_among n (declared_names es) ≡ false

  named-push : (earlier : List Decl) (e : Decl) → declared_names (earlier ++ e ∷ []) ≡ declared_names earlier ++ e.name ∷ []
  named-push [] e = refl
  named-push (x ∷ xs) e = ap (λ ns. x.name ∷ ns) (named-push xs e)

  among-push : (earlier : List Decl) (e : Decl) (n : List ℕ) → is_among n (declared_names (earlier ++ e ∷ [])) ≡ (is_among n (declared_names earlier) || (bytes_eq n e.name || false))
  among-push earlier e n = ap (is_among n) (named-push earlier e) ∙ is_among-append n (declared_names earlier) (e.name ∷ [])

  or_true-left : (a b : Bool) → a ≡ true → (a || b) ≡ true
  or_true-left true b e = refl
  or_true-left false b e = absurd (true≢false (sym e))

  or_true-right : (a b : Bool) → b ≡ true → (a || b) ≡ true
  or_true-right true b e = refl
  or_true-right false b e = e

  once : (earlier es : List Decl) → bad_declaration t d u earlier es ≡ None → Once earlier es
  once earlier [] h = record { distinct = refl; apart = λ n i. refl }
  once earlier (e ∷ es) h =
      let g = good earlier e es h in
      let rest = once (earlier ++ e ∷ []) es g.behind in
      record {
        distinct = and_both (not (is_among e.name (declared_names es))) (are_distinct (declared_names es))
            (not_false (is_among e.name (declared_names es)) (rest.apart e.name (among-push earlier e e.name ∙ or_true-right (is_among e.name (declared_names earlier)) (bytes_eq e.name e.name || false) (or_true-left (bytes_eq e.name e.name) false (eq_same e.name)))))
            rest.distinct;
        apart = λ n i. or_both (bytes_eq n e.name) (is_among n (declared_names es)) (other (bytes_eq n e.name) n refl i g.new) (rest.apart n (among-push earlier e n ∙ or_true-left (is_among n (declared_names earlier)) (bytes_eq n e.name || false) i));
      }
    where
      other : (b : Bool) (n : List ℕ) → bytes_eq n e.name ≡ b → is_among n (declared_names earlier) ≡ true → is_among e.name (declared_names earlier) ≡ false → b ≡ false
      other true n is i new = never_both (is_among n (declared_names earlier)) i (ap (λ (m : List ℕ). is_among m (declared_names earlier)) (eq_is n e.name is) ∙ new)
      other false n is i new = refl

  pub declared-once : bad_declaration t d u [] u.declarations ≡ None → are_distinct (declared_names u.declarations) ≡ true
  declared-once h = (once [] u.declarations h).distinct

module _ (t : Theory) (u : Subroutine) where
  -- a dummy's declaration has its name and its type
  dummy-typed : (r : List ℕ × SortId) (e : Decl) → declares t u (Some r) e ≡ true → (e.name ≡ r.0) × (Some e.ty ≡ type_by dummy_type (rep_of t r.1))
  dummy-typed r e h =
      let named = bytes_eq e.name r.0 in
      let one = have_one_type (Some e.ty) (type_by dummy_type (rep_of t r.1)) in
      (eq_is e.name r.0 (and_left named one h), one_type-is (Some e.ty) (type_by dummy_type (rep_of t r.1)) (and_right named one h))

  pub dummies-typed : (rs : List (List ℕ × SortId)) (es : List Decl) → FollowDummies t u rs es → length rs ≤ length es → map typed_name (take (length rs) es) ≡ map (typed_dummy t) rs
  dummies-typed [] es f l = refl
  dummies-typed (r ∷ rs) [] f l = absurd (omega arith)
  dummies-typed (r ∷ rs) (e ∷ es) f l =
      let h = dummy-typed r e f.0 in
      ap (λ (n : List ℕ). (n, Some e.ty) ∷ map typed_name (take (length rs) es)) h.0
      ∙ ap (λ (o : Option FortranType). (r.0, o) ∷ map typed_name (take (length rs) es)) h.1
      ∙ ap (λ xs. typed_dummy t r ∷ xs) (dummies-typed rs es f.1 (omega arith))

  -- the declaration of a dummy
  pub dummy-declared : (rs : List (List ℕ × SortId)) (es : List Decl) (k : ℕ) (r : List ℕ × SortId) → FollowDummies t u rs es → length rs ≤ length es → slice_get rs k ≡ Some r → (e : Decl) × Contains es e × (e.name ≡ r.0) × (Some e.ty ≡ type_by dummy_type (rep_of t r.1))
  dummy-declared [] es k r f l at = absurd cc
  dummy-declared (q ∷ rs) [] k r f l at = absurd (omega arith)
  dummy-declared (q ∷ rs) (e ∷ es) zero r f l at =
      let is : q ≡ r = cc in
      let h = dummy-typed r e (subst (λ (x : List ℕ × SortId). declares t u (Some x) e ≡ true) is f.0) in
      (e, contains-here e es, h.0, h.1)
  dummy-declared (q ∷ rs) (e ∷ es) (suc k) r f l at =
      let h = dummy-declared rs es k r f.1 (omega arith) at in
      (h.0, contains-later h.0 e es h.1, h.2, h.3)

  local-is : (e : Decl) → is_local t u e ≡ true → IsLocal t u e
  local-is e h =
      let a = not (is_among e.name u.dummies) in
      let b = not (is_among e.name (u.name ∷ [])) in
      let c = not (is_among e.name (fortran_names t)) in
      let f = not (is_text_of_any_length e.ty) in
      let bcf = and_right a (b && (c && f)) h in
      let cf = and_right b (c && f) bcf in
      record {
        no_dummy = true_not (is_among e.name u.dummies) (and_left a (b && (c && f)) h);
        not_unit = true_not (is_among e.name (u.name ∷ [])) (and_left b (c && f) bcf);
        not_fortran = true_not (is_among e.name (fortran_names t)) (and_left c f cf);
        sized = λ is. never_both (is_text_of_any_length e.ty) (ap is_text_of_any_length is) (true_not (is_text_of_any_length e.ty) (and_right c f cf));
      }

  function-is : (e : Decl) → is_declared_function t e ≡ true → IsDeclaredFunction t e
  function-is e h = by_function (function_named t e.name) refl h
    where
      by_sort : (f : FortranFunction) (o : Option SortId) → function_named t e.name ≡ Some f → result_sort t.sig f.symbol ≡ o → have_one_type (Some e.ty) (function_type t o) ≡ true → IsDeclaredFunction t e
      by_sort f None is at h = absurd (true≢false (sym h))
      by_sort f (Some s) is at h = record { function = f; listed = is; sort = s; result = at; typed = one_type-is (Some e.ty) (type_by local_type (rep_of t s)) h }

      by_function : (o : Option FortranFunction) → function_named t e.name ≡ o → has_function_type t e.ty o ≡ true → IsDeclaredFunction t e
      by_function None is h = absurd (true≢false (sym h))
      by_function (Some f) is h = by_sort f (result_sort t.sig f.symbol) is refl h

  further-is : (e : Decl) → declares t u None e ≡ true → IsLocal t u e ⊎ IsDeclaredFunction t e
  further-is e h = by_cases (or_cases (is_local t u e) (is_declared_function t e) h)
    where
      by_cases : (is_local t u e ≡ true) ⊎ (is_declared_function t e ≡ true) → IsLocal t u e ⊎ IsDeclaredFunction t e
      by_cases (inl l) = inl (local-is e l)
      by_cases (inr f) = inr (function-is e f)

  all-further : (es : List Decl) → AllByRecursion (λ (e : Decl). declares t u None e ≡ true) es → AllByRecursion (λ (e : Decl). IsLocal t u e ⊎ IsDeclaredFunction t e) es
  all-further [] h = tt
  all-further (e ∷ es) h = (further-is e h.0, all-further es h.1)

  pub behind-dummies : (rs : List (List ℕ × SortId)) (es : List Decl) → FollowDummies t u rs es → AllByRecursion (λ (e : Decl). IsLocal t u e ⊎ IsDeclaredFunction t e) (drop (length rs) es)
  behind-dummies [] es f = all-further es f
  behind-dummies (r ∷ rs) [] f = tt
  behind-dummies (r ∷ rs) (e ∷ es) f = behind-dummies rs es f.1

pub enough-declared : (u : Subroutine) → lacks_dummy u ≡ false → length u.dummies ≤ length u.declarations
enough-declared u e = grind (arith, nat_tests)
