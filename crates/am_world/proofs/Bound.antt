-- What holds of a clause holds of its instance.
use Rattle.std.proofs.Common.{◌≡◌, ◌∙◌, inl, inr, ℕ, zero, suc, Bool, true, false, refl, sym, ap, subst, List, [], ◌∷◌, map, Option, Some, None, IsTrue, slice_get, slice_index_or}
use Rattle.am_term.specs.declared.id.SortId.{SortId}
use Rattle.am_term.specs.declared.signature.Signature.{Signature}
use Rattle.am_term.specs.declared.term.Term.{Term}
use Rattle.am_term.specs.declared.term.Term.TheVariants.{Var}
use Rattle.am_clause.specs.declared.clause.Clause.{Clause}
use Rattle.am_clause.specs.Distinct.{among}
use Rattle.am_clause.specs.Variables.{Variable, same_variable, in_literals, in_answer, in_clause, variables}
use Rattle.am_clause.specs.Renaming.{places_in}
use Rattle.am_clause.specs.Numbered.{IsNumbered, sorts_in}
use Rattle.am_clause.proofs.Bijections.{read-place, listed}
use Rattle.am_clause.proofs.Renames.{Within}
use Rattle.am_world.specs.Interpretation.{Interpretation, IsWorld, Members}
use Rattle.am_world.specs.Value.{Assignment, IsAssignment, value, values, through}
use Rattle.am_world.proofs.Meanings.{values-members}
use Rattle.am_clause.specs.Bound.{instance_answer, bound}
use Rattle.am_clause.specs.SortedClause.{are_bindings}
use Rattle.am_world.specs.Holding.{Serves, HoldsAt, HoldsFor}
use Rattle.am_world.proofs.Coincidence.{Agree, left, right, values-agree, literals-agree}
use Rattle.am_world.proofs.Instanced.{values-instances, literals-instance}

-- the k-th term stands for a member of the k-th sort
member-bound : (w : Interpretation) (ins : List ℕ) (a : Assignment) (with : List Term) (ps : List SortId) → Members w ps (values w ins a with)
    → (k : ℕ) (s : SortId) (d : Term) → slice_get ps k ≡ Some s → IsTrue (w.dom s (value w ins a (slice_index_or with k d)))
member-bound w ins a with [] m k s d e = absurd cc
member-bound w ins a [] (p ∷ ps) m k s d e = absurd m
member-bound w ins a (t ∷ ts) (p ∷ ps) m zero s d e = let one : p ≡ s = cc in subst (λ (x : SortId). IsTrue (w.dom x (value w ins a t))) one m.0
member-bound w ins a (t ∷ ts) (p ∷ ps) m (suc k) s d e = member-bound w ins a ts ps m.1 k s d e

-- the sort of the k-th variable
sort-read : (vs : List Variable) (k : ℕ) (v : Variable) → slice_get vs k ≡ Some v → slice_get (map (λ (x : Variable). x.1) vs) k ≡ Some v.1
sort-read [] k v e = absurd cc
sort-read (x ∷ xs) zero v e = let one : x ≡ v = cc in ap (λ (y : Variable). Some y.1) one
sort-read (x ∷ xs) (suc k) v e = sort-read xs k v e

-- some variables stand for what the listed terms stand for, all others for what they did
pub chosen : Bool → ℕ → ℕ → ℕ
chosen true m n = m
chosen false m n = n

module _ (w : Interpretation) (ins : List ℕ) (a : Assignment) (with : List Term) where
  abbrev pub rebound : List Variable → Assignment
  rebound vs n s = chosen (among same_variable (n, s) vs) (through w ins a with n s) (a n s)

  rebound-agrees : (vs : List Variable) (v : Variable) → Within v vs → through w ins a with v.0 v.1 ≡ rebound vs v.0 v.1
  unfolding chosen
  rebound-agrees vs v m = sym (ap (λ b. chosen b (through w ins a with v.0 v.1) (a v.0 v.1)) m)

  module _ (sig : Signature) (world : IsWorld sig w) (sorts : List SortId) (inside : Members w sorts ins) (assigned : IsAssignment sig w a) where
    module _ (c : Clause) (numbered : IsNumbered c) (binds : are_bindings sig sorts with c ≡ true) where
      -- a variable of the clause is bound to a member of its sort
      variable-bound : (v : Variable) → Within v (in_clause c) → IsTrue (w.dom v.1 (through w ins a with v.0 v.1))
      variable-bound v m =
          let read : slice_get (variables c) (places_in (variables c) v.0 v.1) ≡ Some v = read-place (variables c) v (listed v c m) in
          let at : v.0 ≡ places_in (variables c) v.0 v.1 = numbered (places_in (variables c) v.0 v.1) v read in
          let sort : slice_get (sorts_in c) v.0 ≡ Some v.1 = ap (slice_get (sorts_in c)) at ∙ sort-read (variables c) (places_in (variables c) v.0 v.1) v read in
          member-bound w ins a with (sorts_in c) (values-members sig w world sorts ins inside a assigned with (sorts_in c) binds) v.0 v.1 (Var v.0 v.1) sort

      rebound-assigned : IsAssignment sig w (rebound (in_clause c))
      unfolding chosen
      rebound-assigned n s low = by_test (among same_variable (n, s) (in_clause c)) refl
        where
          by_test : (b : Bool) → among same_variable (n, s) (in_clause c) ≡ b → IsTrue (w.dom s (chosen b (through w ins a with n s) (a n s)))
          by_test true e = variable-bound (n, s) e
          by_test false e = assigned n s low

      pub holds-bound : (Q : List ℕ → Type 0) → HoldsFor sig w ins Q c → HoldsAt w ins Q a (bound with c)
      holds-bound Q h = elim (h (rebound (in_clause c)) rebound-assigned) [
        | inl t ↦ inl (literals-instance w ins a with c.literals ∙ (literals-agree w ins (through w ins a with) (rebound (in_clause c)) c.literals (left w ins (through w ins a with) (rebound (in_clause c)) (in_literals c.literals) (in_answer c.answer) (rebound-agrees (in_clause c))) ∙ t))
        | inr s ↦ inr (served c.answer (right w ins (through w ins a with) (rebound (in_clause c)) (in_literals c.literals) (in_answer c.answer) (rebound-agrees (in_clause c))) s)
      ]
        where
          served : (o : Option (List Term)) → Agree w ins (through w ins a with) (rebound (in_clause c)) (in_answer o) → Serves w ins Q (rebound (in_clause c)) o → Serves w ins Q a (instance_answer with o)
          served None g s = s
          served (Some ts) g s = subst Q (sym (values-instances w ins a with ts ∙ values-agree w ins (through w ins a with) (rebound (in_clause c)) ts g)) s
