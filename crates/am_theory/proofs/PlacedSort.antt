-- Where one more sort is added, alone or under another that has its representation and its copy routine, all stays sound.
use Rattle.std.proofs.Common.{◌≡◌, ◌∙◌, ◌⊎◌, inl, inr, ◌+◌, ◌<◌, ◌≤◌, ℕ, true, false, Option, Some, None, List, [], ◌∷◌, ◌++◌, length, refl, sym, ap, subst, arith, slice_get}
use Rattle.std.specs.Prelude.{IsTrue}
use Rattle.std.specs.List.{AllByRecursion}
use Rattle.std.specs.Str.{bytes_eq}
use Rattle.std.proofs.lemmas.List.{length-append}
use Rattle.std.proofs.lemmas.List.Concat.{flat_map-append}
use Rattle.am_term.specs.declared.id.SortId.{SortId}
use Rattle.am_term.specs.Names.{is_name}
use Rattle.am_term.specs.NameLists.{is_among}
use Rattle.am_term.proofs.Older.{get-older}
use Rattle.am_theory.specs.declared.theory.Rep.{Rep}
use Rattle.am_theory.specs.Contents.{Contents, with_sort}
use Rattle.am_theory.specs.Lookups.{known, listed_name}
use Rattle.am_theory.specs.Faults.{is_free_name, copy_clashes}
use Rattle.am_theory.specs.Limits.{sort_limit}
use Rattle.am_theory.proofs.Appends.{before, behind, all-append, all-push, all-weaker, all-both, all-each, get-left, get-end, get-side, get-only, get-within, zip-push, none-is, none_both, among-append, distinct-append}
use Rattle.am_theory.proofs.Growing.{routine-kept, function-kept, literal-kept, one-each-older, profile-kept, axiom-kept}
use Rattle.am_theory.proofs.Sound.{Suits, HasVersionOf, IsUnder, AreUnder, SortsSound, CalledSound, ProfileSound, RoutineSound, FunctionSound, LiteralSound, AxiomSound, Sound, OneEach, listed, called, sort_rep, sort_copy}

-- ---- copy routines
abbrev pub IsFree : List ℕ → Type 0
IsFree n = IsTrue (is_free_name n)

listed-push : (copies : List (Option (List ℕ))) (copy : Option (List ℕ)) → listed (copies ++ copy ∷ []) ≡ listed copies ++ (listed_name copy ++ [])
listed-push copies copy = flat_map-append listed_name copies (copy ∷ [])

-- no name is that of the copy routine
apart-by : (c : Contents) (copy : Option (List ℕ)) → copy_clashes c copy ≡ false → AllByRecursion (λ n. is_among n (listed_name copy ++ []) ≡ false) (called c.routines c.functions)
apart-by c None e = all-each (λ n. is_among n [] ≡ false) (λ n. refl) (called c.routines c.functions)
apart-by c (Some w) e = all-weaker (λ n. bytes_eq n w ≡ false) (λ n. is_among n (w ∷ []) ≡ false) (λ n k. none_both (bytes_eq n w) false k refl) (called c.routines c.functions) (none-is w (called c.routines c.functions) e)

called-apart : (c : Contents) (copy : Option (List ℕ)) → CalledSound c.routines c.functions c.copies → copy_clashes c copy ≡ false → CalledSound c.routines c.functions (c.copies ++ copy ∷ [])
called-apart c copy h e = record {
  distinct = h.distinct;
  apart = all-both (λ n. is_among n (listed c.copies) ≡ false) (λ n. is_among n (listed_name copy ++ []) ≡ false) (λ n. is_among n (listed (c.copies ++ copy ∷ [])) ≡ false)
      (λ n a b. ap (is_among n) (listed-push c.copies copy) ∙ among-append n (listed c.copies) (listed_name copy ++ []) a b)
      (called c.routines c.functions) h.apart (apart-by c copy e);
}

-- ---- sorts
-- the sort is there, and has this representation and this copy routine
pub record IsAbove (c : Contents) (r : Option Rep) (copy : Option (List ℕ)) (p : SortId) : Type 0 where
  pub there : p.0 < length c.sorts
  pub same_rep : r ≡ sort_rep c.reps p
  pub same_copy : copy ≡ sort_copy c.copies p

-- a sort that may be added: its parent, if it has one, is there and has what it has
pub record MayBePlaced (c : Contents) (n : List ℕ) (parent : Option SortId) (r : Option Rep) (copy : Option (List ℕ)) : Type 0 where
  pub named : is_name n ≡ true
  pub new : is_among n c.sorts ≡ false
  pub few : length c.sorts + 1 ≤ sort_limit
  pub represented : Suits r copy
  pub free : AllByRecursion IsFree (listed_name copy)
  pub uncalled : copy_clashes c copy ≡ false
  pub allowed : (parent ≡ None) ⊎ (c.version ≡ 2)
  pub above : (p : SortId) → parent ≡ Some p → IsAbove c r copy p

version-push : (v : ℕ) (parents : List (Option SortId)) (parent : Option SortId) → (parent ≡ None) ⊎ (v ≡ 2) → HasVersionOf v parents → HasVersionOf v (parents ++ parent ∷ [])
version-push v parents parent (inl e) (inl h) = inl (h.0, all-push (λ (p : Option SortId). p ≡ None) parents parent h.1 e)
version-push v parents parent (inr e) (inl h) = inr e
version-push v parents parent a (inr e) = inr e

module _ (c : Contents) (s : Sound c) (n : List ℕ) (parent : Option SortId) (r : Option Rep) (copy : Option (List ℕ)) (a : MayBePlaced c n parent r copy) where
  counted : length c.parents ≡ length c.sorts
  counted = s.of_sorts.parents_counted

  rep-older : (q : SortId) → q.0 < length c.sorts → sort_rep (c.reps ++ r ∷ []) q ≡ sort_rep c.reps q
  rep-older q h = ap known (get-older c.reps (r ∷ []) q.0 (subst (λ k. q.0 < k) (sym s.of_sorts.reps_counted) h))

  copy-older : (q : SortId) → q.0 < length c.sorts → sort_copy (c.copies ++ copy ∷ []) q ≡ sort_copy c.copies q
  copy-older q h = ap known (get-older c.copies (copy ∷ []) q.0 (subst (λ k. q.0 < k) (sym s.of_sorts.copies_counted) h))

  rep-last : (q : SortId) → q.0 ≡ length c.sorts → sort_rep (c.reps ++ r ∷ []) q ≡ r
  rep-last q e = ap (λ k. known (slice_get (c.reps ++ r ∷ []) k)) (e ∙ sym s.of_sorts.reps_counted) ∙ ap known (get-end c.reps [] r)

  copy-last : (q : SortId) → q.0 ≡ length c.sorts → sort_copy (c.copies ++ copy ∷ []) q ≡ copy
  copy-last q e = ap (λ k. known (slice_get (c.copies ++ copy ∷ []) k)) (e ∙ sym s.of_sorts.copies_counted) ∙ ap known (get-end c.copies [] copy)

  under-older : (q p : SortId) → slice_get c.parents q.0 ≡ Some (Some p) → IsUnder (c.reps ++ r ∷ []) (c.copies ++ copy ∷ []) q p
  under-older q p e =
      let u = s.of_sorts.under q p e in
      let g = get-within c.parents q.0 (Some p) e in
      let here : q.0 < length c.sorts = subst (λ k. q.0 < k) counted g in
      let lower = u.lower in
      let there : p.0 < length c.sorts = omega arith in
      record {
        lower = lower;
        rep = rep-older q here ∙ u.rep ∙ sym (rep-older p there);
        copy = copy-older q here ∙ u.copy ∙ sym (copy-older p there);
      }

  under-last : (q p : SortId) → q.0 ≡ length c.sorts → parent ≡ Some p → IsUnder (c.reps ++ r ∷ []) (c.copies ++ copy ∷ []) q p
  under-last q p e is =
      let above = a.above p is in
      record {
        lower = subst (λ k. p.0 < k) (sym e) above.there;
        rep = rep-last q e ∙ above.same_rep ∙ sym (rep-older p above.there);
        copy = copy-last q e ∙ above.same_copy ∙ sym (copy-older p above.there);
      }

  under-all : AreUnder (c.parents ++ parent ∷ []) (c.reps ++ r ∷ []) (c.copies ++ copy ∷ [])
  under-all q p e = elim (get-side c.parents (parent ∷ []) q.0 (Some p) e) [
    | before g ↦ under-older q p g
    | behind j i g ↦ let o : (j ≡ 0) × (parent ≡ Some p) = get-only parent j (Some p) g in let first = o.0 in let n = counted in under-last q p (omega arith) o.1
  ]

  sorts-push : SortsSound c.version (c.sorts ++ n ∷ []) (c.parents ++ parent ∷ []) (c.reps ++ r ∷ []) (c.copies ++ copy ∷ [])
  sorts-push = let h = s.of_sorts in record {
    versioned = version-push c.version c.parents parent a.allowed h.versioned;
    parents_counted = length-append c.parents (parent ∷ []) ∙ ap (λ k. k + 1) h.parents_counted ∙ sym (length-append c.sorts (n ∷ []));
    under = under-all;
    represented = zip-push Suits c.reps c.copies r copy h.represented a.represented;
    reps_counted = length-append c.reps (r ∷ []) ∙ ap (λ k. k + 1) h.reps_counted ∙ sym (length-append c.sorts (n ∷ []));
    copies_counted = length-append c.copies (copy ∷ []) ∙ ap (λ k. k + 1) h.copies_counted ∙ sym (length-append c.sorts (n ∷ []));
    named = all-push (λ m. IsTrue (is_name m)) c.sorts n h.named a.named;
    distinct = distinct-append c.sorts (n ∷ []) h.distinct refl (a.new, tt);
    few = subst (λ k. k ≤ sort_limit) (sym (length-append c.sorts (n ∷ []))) a.few;
    copies_named = subst (AllByRecursion IsFree) (sym (listed-push c.copies copy)) (all-append IsFree (listed c.copies) (listed_name copy ++ []) h.copies_named (all-append IsFree (listed_name copy) [] a.free tt));
  }

  more_sorts : length c.sorts ≤ length (c.sorts ++ n ∷ [])
  more_sorts = omega (arith, length-append c.sorts (n ∷ []))

  one-each-still : OneEach (c.parents ++ parent ∷ []) c.symbols c.literals
  one-each-still = one-each-older c.parents (parent ∷ []) c.symbols (subst (λ k. AllByRecursion (ProfileSound k) c.symbols) (sym counted) s.of_symbols.each) c.literals s.one_each

  pub sound-placed : Sound (with_sort c n parent r copy)
  sound-placed =
      let count = length c.sorts in
      let more = length (c.sorts ++ n ∷ []) in
      let reps = c.reps ++ r ∷ [] in
      let kept = get-left c.reps (r ∷ []) in
      record {
        of_sorts = sorts-push;
        of_called = called-apart c copy s.of_called a.uncalled;
        of_symbols = record {
          each = all-weaker (ProfileSound count) (ProfileSound more) (profile-kept count more more_sorts) c.symbols s.of_symbols.each;
          distinct = s.of_symbols.distinct;
          few = s.of_symbols.few;
        };
        of_routines = all-weaker (RoutineSound c.reps c.symbols) (RoutineSound reps c.symbols) (routine-kept c.reps reps kept c.symbols c.symbols (λ k x e. e)) c.routines s.of_routines;
        of_functions = all-weaker (FunctionSound c.reps c.symbols) (FunctionSound reps c.symbols) (function-kept c.reps reps kept c.symbols c.symbols (λ k x e. e)) c.functions s.of_functions;
        of_literals = all-weaker (LiteralSound c.reps c.symbols) (LiteralSound reps c.symbols) (literal-kept c.reps reps kept c.symbols c.symbols (λ k x e. e)) c.literals s.of_literals;
        one_each = one-each-still;
        outputs = s.outputs;
        values = s.values;
        constants = s.constants;
        numbered = s.numbered;
        of_axioms = all-weaker (AxiomSound count c.parents c.symbols) (AxiomSound more (c.parents ++ parent ∷ []) c.symbols)
            (λ x h. axiom-kept count more more_sorts c.parents (c.parents ++ parent ∷ []) (parent ∷ []) counted refl c.symbols c.symbols s.of_symbols.each (λ k y e. e) (λ v k e. e) x h.apart h)
            c.axioms s.of_axioms;
        few_axioms = s.few_axioms;
      }
