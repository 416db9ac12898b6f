-- After the declaration of a sort, alone or under another, all is sound.
use Rattle.std.proofs.Common.{◌≡◌, ◌∙◌, inl, inr, ◌+◌, ◌&&◌, ℕ, zero, suc, Bool, true, false, not, Option, Some, None, List, [], ◌∷◌, length, refl, sym, ap, subst, arith, slice_get, true≢false}
use Rattle.std.specs.Prelude.{ℤ, pos, negsuc, is_some, is_none, nat_le, nat_lt, option_map}
use Rattle.std.specs.List.{AllByRecursion}
use Rattle.std.proofs.lemmas.Bool.{ltb-false}
use Rattle.std.proofs.lemmas.Option.{same_Some}
use Rattle.am_term.specs.declared.id.SortId.{SortId}
use Rattle.am_term.specs.NameLists.{is_among}
use Rattle.am_term.proofs.Tests.{and_both, false_not}
use Rattle.am_syntax.proofs.Among.{none_left, none_right}
use Rattle.am_theory.specs.declared.theory.Rep.{Rep}
use Rattle.am_theory.specs.declared.declaration.WrittenRep.{WrittenRep}
use Rattle.am_theory.specs.declared.declaration.WrittenRep.TheVariants as written
use Rattle.am_theory.specs.declared.declaration.Declaration.TheVariants as decl
use Rattle.am_theory.specs.Contents.{Contents, extent, rep_meaning, sort_number, rep_named, copy_named, with_decl}
use Rattle.am_theory.specs.Lookups.{known, listed_name}
use Rattle.am_theory.specs.Faults.{has_unknown_name, is_unknown_sort, is_out_of, is_bad_rep, is_array, is_bad_sort_rep, is_array_rep, lacks_copy, is_free_name, is_bad_copy_name, has_bad_fortran_name, copy_clashes, clashes, is_twice, is_badly_represented, is_over_limit}
use Rattle.am_theory.specs.Facts.{is_within, is_in_range, is_represented, copies_when_array}
use Rattle.am_theory.specs.Facts.{is_array as is_array_meant}
use Rattle.am_theory.specs.Limits.{sort_limit, length_limit, extent_limit}
use Rattle.am_theory.specs.Traces.{IsWritten, is_rep_with}
use Rattle.am_theory.proofs.Appends.{all-front, all-back, apart-turned}
use Rattle.am_theory.proofs.NoFault.{IsFaultless}
use Rattle.am_theory.proofs.Kinship.{zip-at}
use Rattle.am_theory.proofs.Sound.{Suits, HasVersionOf, Sound, listed, called, sort_rep, sort_copy}
use Rattle.am_theory.proofs.SortNames.{sort-there, rep-there, copy-there}
use Rattle.am_theory.proofs.PlacedSort.{IsFree, IsAbove, MayBePlaced, sound-placed}

-- ---- representations
within : (most : ℕ) (n : ℤ) → is_out_of most n ≡ false → is_within most (extent n) ≡ true
within most (pos n) e = false_not (nat_le 1 n && nat_le n most) e
within most (negsuc n) e = absurd (true≢false e)

in_range : (r : WrittenRep) → is_bad_rep r ≡ false → is_in_range (rep_meaning r) ≡ true
in_range written.Double e = refl
in_range written.Integer e = refl
in_range written.Logical e = refl
in_range (written.Char n) e = within length_limit n e
in_range (written.DoubleVec m) e = within extent_limit m e
in_range (written.DoubleMat m n) e =
    and_both (is_within extent_limit (extent m)) (is_within extent_limit (extent n))
    (within extent_limit m (none_left (is_out_of extent_limit m) (is_out_of extent_limit n) e))
    (within extent_limit n (none_right (is_out_of extent_limit m) (is_out_of extent_limit n) e))
in_range (written.IntegerVec m) e = within extent_limit m e

array_same : (r : WrittenRep) → is_array_meant (rep_meaning r) ≡ is_array r
array_same written.Double = refl
array_same written.Integer = refl
array_same written.Logical = refl
array_same (written.Char n) = refl
array_same (written.DoubleVec m) = refl
array_same (written.DoubleMat m n) = refl
array_same (written.IntegerVec m) = refl

copied : (b : Bool) (copy : Option (List ℕ)) → (not b && is_some copy) ≡ false → (b && is_none copy) ≡ false → copies_when_array b copy ≡ true
copied true None e f = absurd (true≢false f)
copied true (Some w) e f = refl
copied false None e f = refl
copied false (Some w) e f = absurd (true≢false e)

represented : (r : Option WrittenRep) (copy : Option (List ℕ)) → is_bad_sort_rep r copy ≡ false → (is_array_rep r && is_none copy) ≡ false → is_rep_with r copy ≡ true → Suits (option_map rep_meaning r) copy
represented None None e f w = refl
represented None (Some c) e f w = absurd (true≢false (sym w))
represented (Some r) copy e f w =
    and_both (is_in_range (rep_meaning r)) (copies_when_array (is_array_meant (rep_meaning r)) copy)
    (in_range r (none_left (is_bad_rep r) (not (is_array r) && is_some copy) e))
    (ap (λ b. copies_when_array b copy) (array_same r) ∙ copied (is_array r) copy (none_right (is_bad_rep r) (not (is_array r) && is_some copy) e) f)

-- ---- copy routines
free : (copy : Option (List ℕ)) → is_bad_copy_name copy ≡ false → AllByRecursion IsFree (listed_name copy)
free None e = tt
free (Some w) e = (false_not (is_free_name w) e, tt)

-- what holds of the copy routines holds of that of a sort
listed-at : (P : List ℕ → Type 0) (copies : List (Option (List ℕ))) (k : ℕ) → AllByRecursion P (listed copies) → AllByRecursion P (listed_name (known (slice_get copies k)))
listed-at P [] k h = tt
listed-at P (o ∷ copies) zero h = all-front P (listed_name o) (listed copies) h
listed-at P (o ∷ copies) (suc k) h = listed-at P copies k (all-back P (listed_name o) (listed copies) h)

uncalled-by : (c : Contents) (copy : Option (List ℕ)) → AllByRecursion (λ m. is_among m (called c.routines c.functions) ≡ false) (listed_name copy) → copy_clashes c copy ≡ false
uncalled-by c None h = refl
uncalled-by c (Some w) h = h.0

-- ---- declarations
module _ (c : Contents) (s : Sound c) (n : List ℕ) where
  -- ---- a sort of its own
  module _ (r : Option WrittenRep) (copy : Option (List ℕ)) where
    sort-placed : IsWritten (decl.Sort n r copy) → IsFaultless c (decl.Sort n r copy) → MayBePlaced c n None (option_map rep_meaning r) copy
    unfolding is_twice is_badly_represented lacks_copy has_bad_fortran_name clashes is_over_limit
    sort-placed w f = record {
      named = w.0;
      new = f.new;
      few = ltb-false sort_limit (length c.sorts + 1) f.few;
      represented = represented r copy f.represented f.copied w.1;
      free = free copy f.named;
      uncalled = f.apart;
      allowed = inl refl;
      above = λ p e. absurd cc;
    }

    pub sound-Sort : IsWritten (decl.Sort n r copy) → IsFaultless c (decl.Sort n r copy) → Sound (with_decl c (decl.Sort n r copy))
    unfolding with_decl
    sound-Sort w f = sound-placed c s n None (option_map rep_meaning r) copy (sort-placed w f)

  -- ---- a sort under another
  module _ (name : List ℕ) where
    second : HasVersionOf c.version c.parents → nat_lt c.version 2 ≡ false → c.version ≡ 2
    second (inl h) e = absurd (let v = h.0 in let l = ltb-false c.version 2 e in omega arith)
    second (inr v) e = v

    module _ (known_sort : is_unknown_sort c name ≡ false) where
      abbrev above : SortId
      above = sort_number c name

      rep-is : rep_named c name ≡ sort_rep c.reps above
      rep-is = rep-there c name known_sort

      copy-is : copy_named c name ≡ sort_copy c.copies above
      copy-is = copy-there c name known_sort

      suits-above : Suits (rep_named c name) (copy_named c name)
      suits-above = ap (λ (x : Option Rep). is_represented x (copy_named c name)) rep-is ∙ ap (is_represented (sort_rep c.reps above)) copy-is ∙ zip-at c.reps c.copies above.0 s.of_sorts.represented

      free-above : AllByRecursion IsFree (listed_name (copy_named c name))
      free-above = subst (λ (o : Option (List ℕ)). AllByRecursion IsFree (listed_name o)) (sym copy-is) (listed-at IsFree c.copies above.0 s.of_sorts.copies_named)

      uncalled-above : copy_clashes c (copy_named c name) ≡ false
      uncalled-above = ap (copy_clashes c) copy-is ∙ uncalled-by c (sort_copy c.copies above)
          (listed-at (λ m. is_among m (called c.routines c.functions) ≡ false) c.copies above.0 (apart-turned (called c.routines c.functions) (listed c.copies) s.of_called.apart))

      is-above : (p : SortId) → Some above ≡ Some p → IsAbove c (rep_named c name) (copy_named c name) p
      is-above p e = subst (IsAbove c (rep_named c name) (copy_named c name)) (same_Some above p e) (record { there = sort-there c name known_sort; same_rep = rep-is; same_copy = copy-is })

    known-above : IsFaultless c (decl.Subsort n name) → is_unknown_sort c name ≡ false
    unfolding has_unknown_name
    known-above f = f.known

    subsort-placed : IsWritten (decl.Subsort n name) → IsFaultless c (decl.Subsort n name) → MayBePlaced c n (Some (sort_number c name)) (rep_named c name) (copy_named c name)
    unfolding is_twice is_over_limit
    subsort-placed w f = let k = known-above f in record {
      named = w.0;
      new = f.new;
      few = ltb-false sort_limit (length c.sorts + 1) f.few;
      represented = suits-above k;
      free = free-above k;
      uncalled = uncalled-above k;
      allowed = inr (second s.of_sorts.versioned f.allowed);
      above = is-above k;
    }

    pub sound-Subsort : IsWritten (decl.Subsort n name) → IsFaultless c (decl.Subsort n name) → Sound (with_decl c (decl.Subsort n name))
    unfolding with_decl
    sound-Subsort w f = sound-placed c s n (Some (sort_number c name)) (rep_named c name) (copy_named c name) (subsort-placed w f)
