-- The sorts of symbols, and those of the variables of an axiom, are among the sorts that were declared.
use Rattle.std.proofs.Common.{◌≡◌, ◌<◌, ◌+◌, ℕ, Bool, true, false, Option, Some, None, List, [], ◌∷◌, length, sym, subst, slice_get}
use Rattle.std.specs.Prelude.{if◌then◌else◌}
use Rattle.std.specs.List.{list_any}
use Rattle.std.specs.Str.{bytes_eq}
use Rattle.am_term.specs.declared.id.SortId.{SortId}
use Rattle.am_syntax.specs.declared.scope.Standing.{Standing}
use Rattle.am_syntax.specs.declared.scope.Standing.TheVariants.{Variable}
use Rattle.am_syntax.specs.Scopes.{Profile, standing_of, standing_sort, result_of}
use Rattle.am_syntax.specs.Laws.{IsSortIn}
use Rattle.am_syntax.proofs.Among.{none_left, none_right}
use Rattle.am_theory.specs.declared.declaration.Typed.{Typed}
use Rattle.am_theory.specs.Contents.{Contents, sort_number, bound_from, axiom_scope}
use Rattle.am_theory.specs.Faults.{is_unknown_sort}
use Rattle.am_theory.specs.Parts.{sorts_in}
use Rattle.am_theory.proofs.Appends.{all-at}
use Rattle.am_theory.proofs.SortNames.{sort-there}
use Rattle.am_theory.proofs.Sound.{HasResultOf, ProfileSound, Sound}

module _ (c : Contents) (s : Sound c) where
  -- one of the sorts, where there is a sort; each sort has a place among the parents
  abbrev pub IsThere : Option SortId → Type 0
  IsThere = HasResultOf (length c.parents)

  -- ---- a sort that is known, and the result of a symbol
  pub number-there : (w : List ℕ) → is_unknown_sort c w ≡ false → (sort_number c w).0 < length c.parents
  number-there w e = subst (λ n. (sort_number c w).0 < n) (sym s.of_sorts.parents_counted) (sort-there c w e)

  pub result-there : (k : ℕ) (o : Option Profile) → slice_get c.symbols k ≡ o → IsThere (result_of o)
  result-there k None e = tt
  result-there k (Some y) e = subst (λ n. HasResultOf n y.result) (sym s.of_sorts.parents_counted) (all-at (ProfileSound (length c.sorts)) c.symbols k y s.of_symbols.each e).result

  -- ---- the variables of an axiom
  standing_by : (b : Bool) (i : ℕ) (r : SortId) (later : Option Standing) (o : Standing) → r.0 < length c.parents → ((p : Standing) → later ≡ Some p → IsThere (standing_sort p)) → (if b then Some (Variable i r) else later) ≡ Some o → IsThere (standing_sort o)
  standing_by true i r later o k behind e = let v : Variable i r ≡ o = cc in subst (λ (p : Standing). IsThere (standing_sort p)) v k
  standing_by false i r later o k behind e = behind o e

  standing-there : (i : ℕ) (vs : List Typed) (w : List ℕ) (o : Standing) → list_any (is_unknown_sort c) (sorts_in vs) ≡ false → standing_of w (bound_from c i vs) ≡ Some o → IsThere (standing_sort o)
  standing-there i [] w o e f = absurd cc
  standing-there i (v ∷ vs) w o e f =
      standing_by (bytes_eq w v.name) i (sort_number c v.sort) (standing_of w (bound_from c (i + 1) vs)) o
      (number-there v.sort (none_left (is_unknown_sort c v.sort) (list_any (is_unknown_sort c) (sorts_in vs)) e))
      (λ p g. standing-there (i + 1) vs w p (none_right (is_unknown_sort c v.sort) (list_any (is_unknown_sort c) (sorts_in vs)) e) g)
      f

  -- ---- in the scope of an axiom
  module _ (vs : List Typed) where
    in-scope : (o : Option SortId) → IsThere o → IsSortIn (axiom_scope c vs) o
    in-scope None h = tt
    in-scope (Some r) h = h

    pub results-in : (k : ℕ) (y : Profile) → slice_get c.symbols k ≡ Some y → IsSortIn (axiom_scope c vs) y.result
    results-in k y e = in-scope y.result (result-there k (Some y) e)

    pub standings-in : list_any (is_unknown_sort c) (sorts_in vs) ≡ false → (w : List ℕ) (o : Standing) → standing_of w (axiom_scope c vs).bound ≡ Some o → IsSortIn (axiom_scope c vs) (standing_sort o)
    standings-in e w o f = in-scope (standing_sort o) (standing-there 0 vs w o e f)
