-- The sorts of ids' terms, by a table.
use Rattle.std.proofs.Common.{◌≡◌, ◌≢◌, ◌∙◌, ◌+◌, ◌&&◌, ◌<◌, ◌≤◌, ◌++◌, ℕ, zero, suc, Bool, List, [], ◌∷◌, Option, true, false, refl, sym, ap, ap₂, subst, length, drop, get_or, arith, slice_get, nat_lt, None, length-append}
use Rattle.std.proofs.lemmas.Grind.{common_steps}
use Rattle.std.proofs.lemmas.Bool.Decides.{nat_tests}
use Rattle.std.proofs.lemmas.List.{drop_more, get_or_append_left}
use Rattle.std.proofs.Math.Seq.{get_or-append_seam}
use Rattle.am_term.specs.declared.id.SortId.{SortId}
use Rattle.am_term.specs.declared.signature.Signature.{Signature}
use Rattle.am_term.specs.Sorting.{sort_of, sorts_of, sort_step, fit_places, fits_place, result_at, sort_of-Var, sort_of-In, sort_of-App}
use Rattle.am_bank.specs.declared.id.TermId.{TermId}
use Rattle.am_bank.specs.declared.node.Node.{Node}
use Rattle.am_bank.specs.declared.node.Node.TheVariants as node
use Rattle.am_bank.specs.Node.{Shared}
use Rattle.am_bank.specs.Bank.{Grows}
use Rattle.am_bank.proofs.Trees.{tree-there}
use Rattle.am_bank.proofs.Stays.{tree-stays}
use Rattle.am_sharing.specs.Terms.{term_at, terms_at, node_term}
use Rattle.am_sharing.specs.Bound.{id_bound, node_bound}
use Rattle.am_sharing.specs.SortTable.{IsSortTable, sorts_in_table, node_sorts}
use Rattle.am_sharing.proofs.Nodes.{tree-is, term_at-is, bound-at}

-- within a list no other is read
pub read-within : {A : Type 0} (xs : List A) (i : ℕ) (d e : A) → i < length xs → get_or xs i d ≡ get_or xs i e
read-within [] i d e h = absurd (omega arith)
read-within (x ∷ xs) zero d e h = refl
read-within (x ∷ xs) (suc i) d e h = read-within xs i d e (omega arith)

module _ (sig : Signature) where
  -- other counts don't fit
  places-count : (ss : List (Option SortId)) (ps : List SortId) → length ss ≢ length ps → fit_places sig ss ps ≡ false
  places-count [] [] h = absurd (h refl)
  places-count [] (p ∷ ps) h = refl
  places-count (s ∷ ss) [] h = refl
  places-count (s ∷ ss) (p ∷ ps) h = ap (λ b. fits_place sig s p && b) (places-count ss ps (λ e. h (ap suc e))) ∙ and_false (fits_place sig s p)
    where
      and_false : (b : Bool) → (b && false) ≡ false
      and_false true = refl
      and_false false = refl

  module _ (table : List (Option SortId)) where
    length-sorts : (ids : List TermId) → length (sorts_in_table table ids) ≡ length ids
    length-sorts [] = refl
    length-sorts (i ∷ ids) = ap suc (length-sorts ids)

    pub ids-count : (ids : List TermId) (ps : List SortId) → length ids ≢ length ps → fit_places sig (sorts_in_table table ids) ps ≡ false
    ids-count ids ps h = places-count (sorts_in_table table ids) ps (λ e. h (sym (length-sorts ids) ∙ e))

    -- the first of what is left, and what is behind it
    pub ids-fit : (ids : List TermId) (ps : List SortId) (i : ℕ) (d : TermId) (p : SortId) → i < length ids → i < length ps → fit_places sig (sorts_in_table table (drop i ids)) (drop i ps) ≡ (fits_place sig (get_or table (get_or ids i d).0 None) (get_or ps i p) && fit_places sig (sorts_in_table table (drop (i + 1) ids)) (drop (i + 1) ps))
    ids-fit ids ps i d p h k = rw (drop_more ids i d h, drop_more ps i p k) refl

pub ruleset places = (common_steps, nat_tests, bound-at, read-within, ids-count, ids-fit)

module _ (sig : Signature) (ins : List SortId) (ns : List Shared) where
  pub no-sorts : IsSortTable sig ins ns []
  no-sorts = record { within = omega arith; sorts = λ i t h e. absurd (omega arith) }

  module _ (table : List (Option SortId)) (is : IsSortTable sig ins ns table) where
    pub sort-in : (i : ℕ) → i < length table → get_or table i None ≡ sort_of sig ins (term_at ns i)
    sort-in i h = let w = is.within in is.sorts i (term_at ns i) h (tree-is ns i (omega arith))

    sorts-are : (ids : List TermId) → id_bound ids ≤ length table → sorts_in_table table ids ≡ sorts_of sig ins (terms_at ns ids)
    sorts-are [] h = refl
    sorts-are (i ∷ ids) h = ap₂ (λ (s : Option SortId) (ss : List (Option SortId)). s ∷ ss) (sort-in i.0 (omega arith)) (sorts-are ids (omega arith))

    -- a node's sort is that of its term
    pub node-sort : (x : Node) → node_bound x ≤ length table → sort_step sig ins (node_sorts table x) ≡ sort_of sig ins (node_term ns x)
    node-sort (node.Var n s) h = sym (sort_of-Var sig ins n s)
    node-sort (node.In k) h = sym (sort_of-In sig ins k)
    node-sort (node.App f args) h = ap (result_at sig (slice_get sig.symbols f.0)) (sorts-are args.items h) ∙ sym (sort_of-App sig ins f (terms_at ns args.items))

    -- one more sort
    module _ (s : Option SortId) (below : length table < length ns) (e : s ≡ sort_of sig ins (term_at ns (length table))) where
      pushed : (i : ℕ) → i < length (table ++ s ∷ []) → get_or (table ++ s ∷ []) i None ≡ sort_of sig ins (term_at ns i)
      pushed i h = by_test (nat_lt i (length table)) refl
        where
          by_test : (b : Bool) → nat_lt i (length table) ≡ b → get_or (table ++ s ∷ []) i None ≡ sort_of sig ins (term_at ns i)
          by_test true l =
              let below : i < length table = grind (arith, nat_tests) in
              get_or_append_left table (s ∷ []) None i below ∙ sort-in i below
          by_test false l =
              let all = length-append table (s ∷ []) in
              let last : i ≡ length table = grind (arith, nat_tests) in
              subst (λ (j : ℕ). get_or (table ++ s ∷ []) j None ≡ sort_of sig ins (term_at ns j)) (sym last) (get_or-append_seam table s [] None ∙ e)

      pub one-more : IsSortTable sig ins ns (table ++ s ∷ [])
      one-more = record {
        within = let l = length-append table (s ∷ []) in omega arith;
        sorts = λ i t h d. pushed i h ∙ ap (sort_of sig ins) (term_at-is ns i t d);
      }

pub grown : (sig : Signature) (ins : List SortId) (old new : List Shared) → Grows old new → (table : List (Option SortId)) → IsSortTable sig ins old table → IsSortTable sig ins new table
grown sig ins old new g table is = record {
  within = let w = is.within in let l = ap length g.is ∙ length-append old g.more in omega arith;
  sorts = λ i t h e. let w = is.within in let u = tree-there old i (omega arith) in is.sorts i t h (u.1 ∙ (sym (tree-stays old new g i u.0 u.1) ∙ e));
}

pub ruleset sorting_ids = (common_steps, nat_tests, no-sorts, sort-in, node-sort, one-more)
