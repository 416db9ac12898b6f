-- The steps over ids are those of the recursion over their terms.
use Rattle.std.proofs.Common.{◌≡◌, ◌<◌, ◌≤◌, ◌++◌, ◌∙◌, ℕ, List, [], ◌∷◌, Option, Some, None, refl, sym, ap, ap₂, subst, length, max, arith, slice_get, option_map}
use Rattle.std.specs.List.{remove}
use Rattle.std.proofs.lemmas.Grind.{common_steps}
use Rattle.std.proofs.lemmas.List.{map-append}
use Rattle.am_term.specs.declared.id.SortId.{SortId}
use Rattle.am_term.specs.declared.signature.Signature.{Signature}
use Rattle.am_term.specs.declared.term.Term.{Term}
use Rattle.am_unify.specs.declared.opening.Opened.TheVariants as opened
use Rattle.am_unify.specs.Mgu.{mgu}
use Rattle.am_unify.specs.Opening.{IsNext, opened as opened_term}
use Rattle.am_unify.specs.Occurrence.{count_of_numbers}
use Rattle.am_unify.specs.Size.{size}
use Rattle.am_unify.specs.Substitution.{after_binding, apply, insert_binding, listed, replace_in}
use Rattle.am_unify.specs.Unifier.{AreSortedUnder, IsSolved}
use Rattle.am_unify.proofs.Solved.{mgu-solved}
use Rattle.am_unify.proofs.Unified.{IsLeft, left-first, left-done, left-more, shorter-more, next-bind, next-clash}
use Rattle.am_unify.proofs.Walks.{removed_first}
use Rattle.am_bank.specs.declared.id.TermId.{TermId}
use Rattle.am_bank.specs.declared.shared.SharedSubst.{SharedSubst}
use Rattle.am_bank.specs.Node.{Shared}
use Rattle.am_bank.specs.Bank.{Grows}
use Rattle.am_bank.proofs.Built.{grows-none, grows-on, grows-longer}
use Rattle.am_sharing.specs.Pairs.{answer_at, answer_bound, insert_id, pairs_at, pairs_bound}
use Rattle.am_sharing.specs.Terms.{term_at}
use Rattle.am_sharing.proofs.Nodes.{tree-is}
use Rattle.am_sharing.proofs.Pairs.{bindings-are, insert-bound, insert-is}
use Rattle.am_sharing.proofs.Sorted.{grown, no-sorts}
use Rattle.am_shared_unify.specs.Sides.{sides_at, term_sides}
use Rattle.am_shared_unify.specs.Unifying.{IsSolvedShared, IsUnifiedShared, pair_ids_bound, pairs_of}
use Rattle.am_shared_unify.proofs.Grown.{pairs-kept, term-kept}

pairs-append : (ps qs : List (TermId × TermId)) → pair_ids_bound (ps ++ qs) ≡ max (pair_ids_bound ps) (pair_ids_bound qs)
pairs-append [] qs = omega arith
pairs-append (p ∷ ps) qs = let h = pairs-append ps qs in omega arith

-- what is left has the same answer, and its ids are of the bank
pub record AreLeft (sig : Signature) (ins : List SortId) (ns : List Shared) (first todo : List (TermId × TermId)) : Type 0 where
  pub left : IsLeft sig ins (term_sides ns first) (term_sides ns todo)
  pub within : pair_ids_bound todo ≤ length ns

pub are-left : (sig : Signature) (ins : List SortId) (ns : List Shared) (ps : List (TermId × TermId)) → pair_ids_bound ps ≤ length ns → AreLeft sig ins ns ps ps
are-left sig ins ns ps h = record { left = left-first sig ins (term_sides ns ps); within = h }

pub none-left : (sig : Signature) (ins : List SortId) (ns : List Shared) (first todo : List (TermId × TermId)) → AreLeft sig ins ns first todo → todo ≡ [] → mgu sig ins (term_sides ns first) ≡ Some []
none-left sig ins ns first todo h e = left-done sig ins (term_sides ns first) (term_sides ns todo) h.left (ap (term_sides ns) e)

module _ (sig : Signature) (ins : List SortId) (ns : List Shared) (first old rest : List (TermId × TermId)) (p : TermId × TermId) (left : AreLeft sig ins ns first old) (item : slice_get old 0 ≡ Some p) (is : rest ≡ remove old 0) where
  begins : old ≡ p ∷ rest
  begins = removed_first old rest p item is

  pub within-all : pair_ids_bound (p ∷ rest) ≤ length ns
  within-all = subst (λ (ps : List (TermId × TermId)). pair_ids_bound ps ≤ length ns) begins left.within

  pub first-left : p.0.0 < length ns
  first-left = let h = within-all in omega arith

  pub first-right : p.1.0 < length ns
  first-right = let h = within-all in omega arith

  abbrev Sides : List (Term × Term)
  Sides = term_sides ns first

  before : IsLeft sig ins Sides (sides_at ns p ∷ term_sides ns rest)
  before = subst (λ (ps : List (TermId × TermId)). IsLeft sig ins Sides (term_sides ns ps)) begins left.left

  module _ (qs new : List (TermId × TermId)) (e : opened_term sig ins (term_at ns p.0.0) (term_at ns p.1.0) ≡ opened.More (term_sides ns qs)) (all : new ≡ qs ++ rest) where
    sides-are : term_sides ns new ≡ term_sides ns qs ++ term_sides ns rest
    sides-are = ap (term_sides ns) all ∙ map-append (sides_at ns) qs rest

    pub more-left : pair_ids_bound qs ≤ length ns → AreLeft sig ins ns first new
    more-left h = record {
      left = left-more sig ins Sides (sides_at ns p ∷ term_sides ns rest) (term_sides ns rest) (sides_at ns p) before refl refl (term_sides ns qs) (term_sides ns new) e sides-are;
      within = let w = within-all in let b = ap pair_ids_bound all ∙ pairs-append qs rest in omega arith;
    }

    pub fewer-left : size (term_sides ns new) < size (term_sides ns old)
    fewer-left =
        subst (λ (ps : List (TermId × TermId)). size (term_sides ns new) < size (term_sides ns ps)) (sym begins)
        (shorter-more sig ins Sides (sides_at ns p ∷ term_sides ns rest) (term_sides ns rest) (sides_at ns p) before refl refl (term_sides ns qs) (term_sides ns new) e sides-are)

  pub binds-next : (n : ℕ) (v : Term) → opened_term sig ins (term_at ns p.0.0) (term_at ns p.1.0) ≡ opened.Bind n v → IsNext sig ins Sides n v (term_sides ns rest)
  binds-next n v e = next-bind sig ins Sides (sides_at ns p ∷ term_sides ns rest) (term_sides ns rest) (sides_at ns p) before refl refl n v e

  pub clashes : opened_term sig ins (term_at ns p.0.0) (term_at ns p.1.0) ≡ opened.Clash → mgu sig ins Sides ≡ None
  clashes e = next-clash sig ins Sides (sides_at ns p ∷ term_sides ns rest) (term_sides ns rest) (sides_at ns p) before refl refl e

-- a binding before those of what is left
module _ (sig : Signature) (ins : List SortId) (old mid : List Shared) (first : List (Term × Term)) (rest left : List (TermId × TermId)) (n : ℕ) (id : TermId) (next : IsNext sig ins first n (term_at old id.0) (term_sides old rest)) (is : term_sides mid left ≡ replace_in n (term_at old id.0) (term_sides old rest)) where
  left-answer : (o : Option (List (ℕ × Term))) → o ≡ mgu sig ins (term_sides mid left) → mgu sig ins first ≡ after_binding n (term_at old id.0) o
  left-answer o e = next.same ∙ ap (after_binding n (term_at old id.0)) (sym (e ∙ ap (mgu sig ins) is))

  pub fewer-behind : count_of_numbers (term_sides mid left) < count_of_numbers first
  fewer-behind = subst (λ (ps : List (Term × Term)). count_of_numbers ps < count_of_numbers first) (sym is) next.fewer

  pub none-behind : None ≡ mgu sig ins (term_sides mid left) → None ≡ mgu sig ins first
  none-behind e = sym (left-answer None e)

  pub one-before : (end new : List Shared) (found ps : List (ℕ × TermId)) (j : TermId) → Grows old end → Grows end new → id.0 < length old → pairs_bound found ≤ length end → Some (pairs_at end found) ≡ mgu sig ins (term_sides mid left) → term_at new j.0 ≡ apply (listed (pairs_at end found)) (term_at end id.0) → ps ≡ insert_id n j found → Some (pairs_at new ps) ≡ mgu sig ins first
  one-before end new found ps j grows more inside within e image all =
      ap (λ (qs : List (ℕ × TermId)). Some (pairs_at new qs)) all
      ∙ ap Some (insert-is new n j found)
      ∙ ap₂ (λ (t : Term) (bs : List (ℕ × Term)). Some (insert_binding n t bs)) (image ∙ ap (apply (listed (pairs_at end found))) (term-kept old end grows id.0 inside)) (pairs-kept end new more found within)
      ∙ sym (left-answer (Some (pairs_at end found)) e)

pub inserted-bound : (n : ℕ) (j : TermId) (found ps : List (ℕ × TermId)) (k : ℕ) → ps ≡ insert_id n j found → j.0 < k → pairs_bound found ≤ k → pairs_bound ps ≤ k
inserted-bound n j found ps k is h l = let b = ap pairs_bound is ∙ insert-bound n j found in omega arith

-- the pairs of terms that the ids stand for
pairs-there : (ns : List Shared) (ps : List (TermId × TermId)) → pair_ids_bound ps ≤ length ns → pairs_of ns ps ≡ Some (term_sides ns ps)
pairs-there ns [] h = refl
pairs-there ns (p ∷ ps) h = rw (tree-is ns p.0.0 (omega arith), tree-is ns p.1.0 (omega arith), pairs-there ns ps (omega arith)) refl

abbrev shared_subst : List (ℕ × TermId) → SharedSubst
shared_subst ps = record { 0 = ps }

module _ (sig : Signature) (ins : List SortId) (old new : List Shared) (pairs : List (TermId × TermId)) (ps : List (Term × Term)) (within : pair_ids_bound pairs ≤ length old) (are : pairs_of old pairs ≡ Some ps) where
  sides-same : term_sides old pairs ≡ ps
  sides-same = let h = pairs-there old pairs within in cc

  by_answer : (o : Option (List (ℕ × TermId))) → answer_bound o ≤ length new → answer_at new o ≡ mgu sig ins ps → IsUnifiedShared new (option_map shared_subst o) (mgu sig ins ps)
  by_answer None l e = sym e
  by_answer (Some qs) l e = (pairs_at new qs, (bindings-are new qs l, sym e))

  pub unified : (o q : Option (List (ℕ × TermId))) → o ≡ q → answer_bound o ≤ length new → answer_at new o ≡ mgu sig ins (term_sides old pairs) → IsUnifiedShared new (option_map shared_subst q) (mgu sig ins ps)
  unified o q same l e = by_answer q (subst (λ (r : Option (List (ℕ × TermId))). answer_bound r ≤ length new) same l) (ap (answer_at new) (sym same) ∙ e ∙ ap (mgu sig ins) sides-same)

  module _ (sorts : ℕ → SortId) (sorted : AreSortedUnder sig ins sorts ps) where
    by_solution : (o : Option (List (ℕ × TermId))) → answer_bound o ≤ length new → answer_at new o ≡ mgu sig ins ps → IsSolvedShared new sig ins sorts ps (option_map shared_subst o)
    by_solution None l e = subst (IsSolved sig ins sorts ps) (sym e) (mgu-solved sig ins sorts ps sorted)
    by_solution (Some qs) l e = (pairs_at new qs, (bindings-are new qs l, subst (IsSolved sig ins sorts ps) (sym e) (mgu-solved sig ins sorts ps sorted)))

    pub solved : (o q : Option (List (ℕ × TermId))) → o ≡ q → answer_bound o ≤ length new → answer_at new o ≡ mgu sig ins (term_sides old pairs) → IsSolvedShared new sig ins sorts ps (option_map shared_subst q)
    solved o q same l e = by_solution q (subst (λ (r : Option (List (ℕ × TermId))). answer_bound r ≤ length new) same l) (ap (answer_at new) (sym same) ∙ e ∙ ap (mgu sig ins) sides-same)

pub ruleset stepping = (common_steps, are-left, none-left, first-left, first-right, fewer-left, binds-next, clashes)

pub ruleset solving = (common_steps, grown, grows-none, grows-on, grows-longer, inserted-bound)

pub ruleset unifying = (common_steps, no-sorts)
