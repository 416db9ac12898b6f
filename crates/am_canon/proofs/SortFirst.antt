-- A sort, or a sort under another, that is declared behind something else may stand before it.
use Rattle.std.proofs.Common.{◌≡◌, ◌∙◌, ◌+◌, ℕ, false, not, Option, Some, None, List, length, refl, sym, ap}
use Rattle.std.specs.Prelude.{option_map, nat_lt}
use Rattle.am_term.specs.declared.id.SortId.{SortId}
use Rattle.am_term.specs.NameLists.{is_among}
use Rattle.am_syntax.specs.Positions.{position_of}
use Rattle.am_theory.specs.declared.theory.Rep.{Rep}
use Rattle.am_theory.specs.declared.declaration.WrittenRep.{WrittenRep}
use Rattle.am_theory.specs.declared.declaration.Declaration.{Declaration}
use Rattle.am_theory.specs.declared.declaration.Declaration.TheVariants as decl
use Rattle.am_theory.specs.Contents.{Contents, id_of, rep_meaning, sort_number, of_sort, rep_named, copy_named, with_sort, with_decl}
use Rattle.am_theory.specs.Faults.{has_unknown_name, is_twice, has_bad_sort, has_bad_arity, has_unbound, quantifies, is_badly_represented, lacks_copy, has_bad_fortran_name, copy_clashes, clashes, is_over_limit}
use Rattle.am_theory.specs.Limits.{sort_limit}
use Rattle.am_theory.proofs.NoFault.{IsFaultless}
use Rattle.am_canon.proofs.Swapped.{IsSwapped, StandsBehind, LeavesSorts, CallsOther, DeclaresSort}

module _ (c : Contents) (d : Declaration) (l : LeavesSorts c (with_decl c d)) where
  abbrev after : Contents
  after = with_decl c d

  -- ---- the sort before
  uncalled_copy : (o : Option (List ℕ)) → copy_clashes after o ≡ false → copy_clashes c o ≡ false
  uncalled_copy None e = refl
  uncalled_copy (Some w) e = l.called w e

  unknown-before : (n : List ℕ) → is_among n after.sorts ≡ false → is_among n c.sorts ≡ false
  unknown-before n e = ap (is_among n) (sym l.sorts) ∙ e

  few-before : nat_lt sort_limit (length after.sorts + 1) ≡ false → nat_lt sort_limit (length c.sorts + 1) ≡ false
  few-before e = ap (λ ns. nat_lt sort_limit (length ns + 1)) (sym l.sorts) ∙ e

  root-before : (n : List ℕ) (r : Option WrittenRep) (copy : Option (List ℕ)) → IsFaultless after (decl.Sort n r copy) → IsFaultless c (decl.Sort n r copy)
  unfolding has_unknown_name is_twice has_bad_sort has_bad_arity has_unbound quantifies is_badly_represented lacks_copy has_bad_fortran_name clashes is_over_limit
  root-before n r copy k = record {
    allowed = refl;
    known = refl;
    new = unknown-before n k.new;
    sorted = refl;
    counted = refl;
    represented = k.represented;
    copied = k.copied;
    named = k.named;
    apart = uncalled_copy copy k.apart;
    bound = refl;
    plain = refl;
    few = few-before k.few;
  }

  under-before : (n s : List ℕ) → IsFaultless after (decl.Subsort n s) → IsFaultless c (decl.Subsort n s)
  unfolding has_unknown_name is_twice has_bad_sort has_bad_arity has_unbound quantifies is_badly_represented lacks_copy has_bad_fortran_name clashes is_over_limit
  under-before n s k = record {
    allowed = ap (λ v. nat_lt v 2) (sym l.version) ∙ k.allowed;
    known = ap (λ ns. not (is_among s ns)) (sym l.sorts) ∙ k.known;
    new = unknown-before n k.new;
    sorted = refl;
    counted = refl;
    represented = refl;
    copied = refl;
    named = refl;
    apart = refl;
    bound = refl;
    plain = refl;
    few = few-before k.few;
  }

  -- ---- what there is with the sort
  under-same : (n s : List ℕ) → with_decl after (decl.Subsort n s) ≡ with_sort after n (Some (sort_number c s)) (rep_named c s) (copy_named c s)
  unfolding with_decl
  under-same n s =
      ap (λ ns. with_sort after n (Some (id_of (position_of s ns))) (of_sort after.reps (position_of s ns)) (of_sort after.copies (position_of s ns))) l.sorts
      ∙ ap (λ rs. with_sort after n (Some (sort_number c s)) (of_sort rs (position_of s c.sorts)) (of_sort after.copies (position_of s c.sorts))) l.reps
      ∙ ap (λ ks. with_sort after n (Some (sort_number c s)) (rep_named c s) (of_sort ks (position_of s c.sorts))) l.copies

  -- ---- both kinds
  module _ (root : (copy : Option (List ℕ)) → copy_clashes (with_decl c d) copy ≡ false → CallsOther d copy)
      (under : (o : Option ℕ) → CallsOther d (of_sort c.copies o))
      (stands : (n : List ℕ) (parent : Option SortId) (r : Option Rep) (copy : Option (List ℕ)) → CallsOther d copy → StandsBehind c d n parent r copy) where
    root-first : (n : List ℕ) (r : Option WrittenRep) (copy : Option (List ℕ)) → IsFaultless after (decl.Sort n r copy) → IsSwapped c d (decl.Sort n r copy)
    unfolding with_decl clashes
    root-first n r copy k =
        let s = stands n None (option_map rep_meaning r) copy (root copy k.apart) in
        record { before = root-before n r copy k; behind = s.behind; same = s.same }

    under-first : (n s : List ℕ) → IsFaultless after (decl.Subsort n s) → IsSwapped c d (decl.Subsort n s)
    unfolding with_decl
    under-first n s k =
        let t = stands n (Some (sort_number c s)) (rep_named c s) (copy_named c s) (under (position_of s c.sorts)) in
        record { before = under-before n s k; behind = t.behind; same = under-same n s ∙ t.same }

    pub sort-first : (e : Declaration) → DeclaresSort e → IsFaultless (with_decl c d) e → IsSwapped c d e
    sort-first (decl.Sort n r copy) h k = root-first n r copy k
    sort-first (decl.Subsort n s) h k = under-first n s k
    sort-first (decl.Function n args r) h k = absurd h
    sort-first (decl.Relation n args) h k = absurd h
    sort-first (decl.Literal n s v) h k = absurd h
    sort-first (decl.Routine n inputs outputs) h k = absurd h
    sort-first (decl.Value f n args r) h k = absurd h
    sort-first (decl.Axiom vs g) h k = absurd h
