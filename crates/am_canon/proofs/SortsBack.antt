-- After a run over sorts alone there is nothing new beside sorts, and their declarations are those of the run.
use Rattle.std.proofs.Common.{◌≡◌, ◌∙◌, ℕ, false, Option, Some, None, List, [], ◌∷◌, ◌++◌, length, refl, sym, ap, subst, true≢false, arith, append_assoc}
use Rattle.std.specs.Prelude.{ℤ, pos, negsuc, option_map, is_some, not, ◌&&◌, slice_get, slice_index_or}
use Rattle.std.specs.List.{AllByRecursion}
use Rattle.std.proofs.lemmas.List.{append-nil}
use Rattle.std.proofs.lemmas.Option.{get_or_from_slice_get}
use Rattle.am_term.specs.declared.id.SortId.{SortId}
use Rattle.am_syntax.proofs.Among.{none_left, none_right}
use Rattle.am_syntax.proofs.Positions.{position_there}
use Rattle.am_theory.specs.declared.theory.Rep.{Rep}
use Rattle.am_theory.specs.declared.declaration.WrittenRep.{WrittenRep}
use Rattle.am_theory.specs.declared.declaration.WrittenRep.TheVariants as written
use Rattle.am_theory.specs.declared.declaration.Declaration.{Declaration}
use Rattle.am_theory.specs.declared.declaration.Declaration.TheVariants as decl
use Rattle.am_theory.specs.Contents.{Contents, id_of, sort_number, rep_named, copy_named, extent, rep_meaning, with_sort, with_decl}
use Rattle.am_theory.specs.Faults.{is_unknown_sort, has_unknown_name, is_out_of, is_bad_rep, is_array, is_bad_sort_rep, is_badly_represented}
use Rattle.am_theory.specs.Limits.{length_limit, extent_limit}
use Rattle.am_theory.specs.Traces.{Trace}
use Rattle.am_canon.specs.CanonicalText.{sort_name, written_rep, rep_as_written, declared_sort, sort_decls}
use Rattle.am_theory.proofs.NoFault.{IsFaultless, faultless}
use Rattle.am_theory.proofs.Appends.{get-left}
use Rattle.am_theory.proofs.OfForm.{of_form}
use Rattle.am_theory.proofs.Sound.{Sound}
use Rattle.am_theory.proofs.SoundAxiom.{sound-with}
use Rattle.am_canon.proofs.KnownSorts.{IsPlaced, placed}
use Rattle.am_canon.proofs.Swapped.{DeclaresSort}

-- ---- a representation in range is written as it was
number-back : (most : ℕ) (z : ℤ) → is_out_of most z ≡ false → pos (extent z) ≡ z
number-back most (pos n) e = refl
number-back most (negsuc n) e = absurd (true≢false e)

rep-back : (r : WrittenRep) → is_bad_rep r ≡ false → written_rep (rep_meaning r) ≡ r
rep-back written.Double e = refl
rep-back written.Integer e = refl
rep-back written.Logical e = refl
rep-back (written.Char n) e = ap written.Char (number-back length_limit n e)
rep-back (written.DoubleVec m) e = ap written.DoubleVec (number-back extent_limit m e)
rep-back (written.DoubleMat m n) e =
    ap (λ x. written.DoubleMat x (pos (extent n))) (number-back extent_limit m (none_left (is_out_of extent_limit m) (is_out_of extent_limit n) e))
    ∙ ap (written.DoubleMat m) (number-back extent_limit n (none_right (is_out_of extent_limit m) (is_out_of extent_limit n) e))
rep-back (written.IntegerVec m) e = ap written.IntegerVec (number-back extent_limit m e)

reps-back : (r : Option WrittenRep) (copy : Option (List ℕ)) → is_bad_sort_rep r copy ≡ false → rep_as_written (option_map rep_meaning r) ≡ r
reps-back None copy e = refl
reps-back (Some r) copy e = ap Some (rep-back r (none_left (is_bad_rep r) (not (is_array r) && is_some copy) e))

-- ---- the declarations with one more sort
module _ (m : Contents) (n : List ℕ) (p : Option SortId) (r : Option Rep) (k : Option (List ℕ)) where
  pushed : (ns : List (List ℕ)) (ps : List (Option SortId)) (rs : List (Option Rep)) (ks : List (Option (List ℕ))) → length ps ≡ length ns → length rs ≡ length ns → length ks ≡ length ns → sort_decls m (ns ++ n ∷ []) (ps ++ p ∷ []) (rs ++ r ∷ []) (ks ++ k ∷ []) ≡ sort_decls m ns ps rs ks ++ declared_sort m n p r k ∷ []
  pushed [] [] [] [] d e f = refl
  pushed [] [] [] (j ∷ ks) d e f = absurd (omega arith)
  pushed [] [] (q ∷ rs) ks d e f = absurd (omega arith)
  pushed [] (o ∷ ps) rs ks d e f = absurd (omega arith)
  pushed (w ∷ ns) [] rs ks d e f = absurd (omega arith)
  pushed (w ∷ ns) (o ∷ ps) [] ks d e f = absurd (omega arith)
  pushed (w ∷ ns) (o ∷ ps) (q ∷ rs) [] d e f = absurd (omega arith)
  pushed (w ∷ ns) (o ∷ ps) (q ∷ rs) (j ∷ ks) d e f = ap (λ ds. declared_sort m w o q j ∷ ds) (pushed ns ps rs ks (omega arith) (omega arith) (omega arith))

-- only the names of sorts tell in the declarations of sorts
one-same : (a b : Contents) → a.sorts ≡ b.sorts → (n : List ℕ) (p : Option SortId) (r : Option Rep) (k : Option (List ℕ)) → declared_sort a n p r k ≡ declared_sort b n p r k
one-same a b e n None r k = refl
one-same a b e n (Some p) r k = ap (λ xs. decl.Subsort n (slice_index_or xs p.0 [])) e

pub decls-same : (a b : Contents) → a.sorts ≡ b.sorts → (ns : List (List ℕ)) (ps : List (Option SortId)) (rs : List (Option Rep)) (ks : List (Option (List ℕ))) → sort_decls a ns ps rs ks ≡ sort_decls b ns ps rs ks
decls-same a b e [] ps rs ks = refl
decls-same a b e (n ∷ ns) [] rs ks = refl
decls-same a b e (n ∷ ns) (p ∷ ps) [] ks = refl
decls-same a b e (n ∷ ns) (p ∷ ps) (r ∷ rs) [] = refl
decls-same a b e (n ∷ ns) (p ∷ ps) (r ∷ rs) (k ∷ ks) =
    ap (λ d. d ∷ sort_decls a ns ps rs ks) (one-same a b e n p r k)
    ∙ ap (λ ds. declared_sort b n p r k ∷ ds) (decls-same a b e ns ps rs ks)

-- ---- runs
pub record AreSortsOf (c : Contents) (ds : List Declaration) (last : Contents) : Type 0 where
  pub more : List (List ℕ)
  pub names : last.sorts ≡ c.sorts ++ more
  pub back : sort_decls last last.sorts last.parents last.reps last.copies ≡ sort_decls last c.sorts c.parents c.reps c.copies ++ ds
  pub symbols : last.symbols ≡ c.symbols
  pub routines : last.routines ≡ c.routines
  pub functions : last.functions ≡ c.functions
  pub literals : last.literals ≡ c.literals
  pub axioms : last.axioms ≡ c.axioms

none-more : (c : Contents) → AreSortsOf c [] c
none-more c = record {
  more = [];
  names = sym (append-nil c.sorts);
  back = sym (append-nil (sort_decls c c.sorts c.parents c.reps c.copies));
  symbols = refl;
  routines = refl;
  functions = refl;
  literals = refl;
  axioms = refl;
}

-- one more sort, and the declaration that it is written as
one-more : (c last : Contents) → Sound c → (n : List ℕ) (p : Option SortId) (r : Option Rep) (k : Option (List ℕ)) (d : Declaration) (ds : List Declaration) → declared_sort last n p r k ≡ d → AreSortsOf (with_sort c n p r k) ds last → AreSortsOf c (d ∷ ds) last
one-more c last sound n p r k d ds is s = record {
  more = n ∷ s.more;
  names = s.names ∙ append_assoc c.sorts (n ∷ []) s.more;
  back =
      s.back
      ∙ ap (λ xs. xs ++ ds) (pushed last n p r k c.sorts c.parents c.reps c.copies sound.of_sorts.parents_counted sound.of_sorts.reps_counted sound.of_sorts.copies_counted)
      ∙ append_assoc (sort_decls last c.sorts c.parents c.reps c.copies) (declared_sort last n p r k ∷ []) ds
      ∙ ap (λ x. sort_decls last c.sorts c.parents c.reps c.copies ++ x ∷ ds) is;
  symbols = s.symbols;
  routines = s.routines;
  functions = s.functions;
  literals = s.literals;
  axioms = s.axioms;
}

-- the name of a sort that was known stands for it behind more sorts too
name-later_by : (c last : Contents) (more : List (List ℕ)) (s : List ℕ) → last.sorts ≡ c.sorts ++ more → IsPlaced s c.sorts → sort_name last (sort_number c s) ≡ s
name-later_by c last more s e p =
    ap (λ o. sort_name last (id_of o)) p.found
    ∙ get_or_from_slice_get last.sorts p.place s [] (ap (λ ns. slice_get ns p.place) e ∙ get-left c.sorts more p.place s (position_there s c.sorts p.place p.found))

name-later : (c last : Contents) (more : List (List ℕ)) (s : List ℕ) → last.sorts ≡ c.sorts ++ more → is_unknown_sort c s ≡ false → sort_name last (sort_number c s) ≡ s
name-later c last more s e known = name-later_by c last more s e (placed c s known)

root-back : (c : Contents) (n : List ℕ) (r : Option WrittenRep) (copy : Option (List ℕ)) (ds : List Declaration) (last : Contents) → Sound c → IsFaultless c (decl.Sort n r copy) → AreSortsOf (with_decl c (decl.Sort n r copy)) ds last → AreSortsOf c (decl.Sort n r copy ∷ ds) last
unfolding with_decl is_badly_represented
root-back c n r copy ds last sound k s =
    one-more c last sound n None (option_map rep_meaning r) copy (decl.Sort n r copy) ds (ap (λ x. decl.Sort n x copy) (reps-back r copy k.represented)) s

under-back : (c : Contents) (n s : List ℕ) (ds : List Declaration) (last : Contents) → Sound c → IsFaultless c (decl.Subsort n s) → AreSortsOf (with_decl c (decl.Subsort n s)) ds last → AreSortsOf c (decl.Subsort n s ∷ ds) last
unfolding with_decl has_unknown_name
under-back c n s ds last sound k a =
    one-more c last sound n (Some (sort_number c s)) (rep_named c s) (copy_named c s) (decl.Subsort n s) ds
    (ap (decl.Subsort n) (name-later c last (n ∷ a.more) s (a.names ∙ append_assoc c.sorts (n ∷ []) a.more) k.known)) a

pub sorts-back : (ds : List Declaration) (c last : Contents) → AllByRecursion DeclaresSort ds → Trace c ds last → Sound c → AreSortsOf c ds last
sorts-back [] c last all t sound = subst (λ (b : Contents). AreSortsOf c [] b) t (none-more c)
sorts-back (decl.Sort n r copy ∷ ds) c last all t sound =
    let k = faultless c (decl.Sort n r copy) t.0 in
    root-back c n r copy ds last sound k
    (sorts-back ds (with_decl c (decl.Sort n r copy)) last all.1 t.2 (sound-with c (decl.Sort n r copy) sound (of_form (decl.Sort n r copy) t.1) k))
sorts-back (decl.Subsort n s ∷ ds) c last all t sound =
    let k = faultless c (decl.Subsort n s) t.0 in
    under-back c n s ds last sound k
    (sorts-back ds (with_decl c (decl.Subsort n s)) last all.1 t.2 (sound-with c (decl.Subsort n s) sound (of_form (decl.Subsort n s) t.1) k))
sorts-back (decl.Function n args r ∷ ds) c last all t sound = absurd all.0
sorts-back (decl.Relation n args ∷ ds) c last all t sound = absurd all.0
sorts-back (decl.Literal n s v ∷ ds) c last all t sound = absurd all.0
sorts-back (decl.Routine n inputs outputs ∷ ds) c last all t sound = absurd all.0
sorts-back (decl.Value m n args r ∷ ds) c last all t sound = absurd all.0
sorts-back (decl.Axiom vs g ∷ ds) c last all t sound = absurd all.0
