-- The goal holds: some requirement is false, or the numbers of the outputs' variables meet what is asked.
use Rattle.std.proofs.Common.{◌≡◌, ◌∙◌, ◌||◌, ◌+◌, ◌++◌, inl, inr, ℕ, zero, suc, Bool, true, false, not, refl, sym, ap, subst, arith, if◌then◌else◌, List, [], ◌∷◌, map, length, slice_get, slice_index, Some, IsTrue}
use Rattle.std.specs.List.{list_any, AllByRecursion}
use Rattle.am_term.specs.declared.id.SortId.{SortId}
use Rattle.am_term.specs.declared.signature.Signature.{Signature}
use Rattle.am_term.specs.declared.term.Literal.{Literal}
use Rattle.am_term.proofs.Tests.{bool_cases}
use Rattle.am_clause.specs.Variables.{in_atom}
use Rattle.am_world.specs.Interpretation.{Interpretation, Members}
use Rattle.am_world.specs.Value.{Assignment, IsAssignment, values, atom_truth, literal_truth, value-Var}
use Rattle.am_world.specs.Holding.{HoldsAt, HoldsFor}
use Rattle.am_world.specs.Questions.{numbered, Meets, IsPosed, IsSortOf}
use Rattle.am_clause.specs.Goals.{negated, variables_from, goal_of}
use Rattle.am_world.proofs.Coincidence.{Agree, literal-agrees}
use Rattle.am_world.proofs.Renumbered.{renumbered-holds}

-- the numbers of the variables from n on
numbers_from : Assignment → ℕ → List SortId → List ℕ
numbers_from a n [] = []
numbers_from a n (s ∷ ss) = a n s ∷ numbers_from a (n + 1) ss

module _ (sig : Signature) (w : Interpretation) (a : Assignment) (assigned : IsAssignment sig w a) where
  values-from : (ins : List ℕ) (n : ℕ) (ss : List SortId) → values w ins a (variables_from n ss) ≡ numbers_from a n ss
  unfolding numbers_from
  values-from ins n [] = refl
  values-from ins n (s ∷ ss) = ap (λ m. m ∷ values w ins a (variables_from (n + 1) ss)) (value-Var w ins a n s) ∙ ap (λ ms. a n s ∷ ms) (values-from ins (n + 1) ss)

  members-from : (n : ℕ) (ss : List SortId) → AllByRecursion (IsSortOf sig) ss → Members w ss (numbers_from a n ss)
  unfolding numbers_from
  members-from n [] h = tt
  members-from n (s ∷ ss) h = (assigned n s h.0, members-from (n + 1) ss h.1)

  -- the k-th of them
  index-from : (n : ℕ) (ss : List SortId) (k : ℕ) (s : SortId) → slice_get ss k ≡ Some s → slice_index (numbers_from a n ss) k ≡ a (n + k) s
  unfolding numbers_from
  index-from n [] k s e = absurd cc
  index-from n (r ∷ rs) zero s e = let one : r ≡ s = cc in ap (a n) one ∙ ap (λ m. a m s) (omega arith)
  index-from n (r ∷ rs) (suc k) s e = index-from (n + 1) rs k s e ∙ ap (λ m. a m s) (omega arith)

  both-from : (n m : ℕ) (ss rs : List SortId) → m ≡ n + length ss → numbers_from a n (ss ++ rs) ≡ numbers_from a n ss ++ numbers_from a m rs
  unfolding numbers_from
  both-from n m [] rs e = ap (λ k. numbers_from a k rs) (omega arith)
  both-from n m (s ∷ ss) rs e = ap (λ ns. a n s ∷ ns) (both-from (n + 1) m ss rs (omega arith))

-- a literal that isn't true has a negation that is
negation : (sign b : Bool) → (if not sign then b else not b) ≡ false → (if sign then b else not b) ≡ true
negation true true e = refl
negation true false e = absurd cc
negation false true e = absurd cc
negation false false e = refl

module _ (sig : Signature) (w : Interpretation) (ins : List ℕ) (objects outputs : List SortId)
    (objects_there : AllByRecursion (IsSortOf sig) objects) (outputs_there : AllByRecursion (IsSortOf sig) outputs) where
  module _ (a : Assignment) (assigned : IsAssignment sig w a) where
    abbrev now : List ℕ
    now = numbers_from a 0 objects ++ numbers_from a (length objects) outputs

    agrees : (l : Literal) → IsPosed (objects ++ outputs) l → Agree w ins a (numbered now) (in_atom l.atom)
    agrees l h v m =
        let at : slice_index (numbers_from a 0 (objects ++ outputs)) v.0 ≡ a (0 + v.0) v.1 = index-from sig w a assigned 0 (objects ++ outputs) v.0 v.1 (h v m) in
        ap (λ k. a k v.1) (omega arith) ∙ (sym at ∙ ap (λ (ns : List ℕ). slice_index ns v.0) (both-from sig w a assigned 0 (length objects) objects outputs (omega arith)))

    all_true : (ls : List Literal) → AllByRecursion (IsPosed (objects ++ outputs)) ls → list_any (literal_truth w ins a) (map negated ls) ≡ false → AllByRecursion (λ (l : Literal). IsTrue (literal_truth w ins (numbered now) l)) ls
    all_true [] h e = tt
    all_true (l ∷ ls) h e = (
      sym (literal-agrees w ins a (numbered now) l (agrees l h.0)) ∙ negation l.positive (atom_truth w ins a l.atom) (neither (literal_truth w ins a (negated l)) _ e),
      all_true ls h.1 (nor (literal_truth w ins a (negated l)) (list_any (literal_truth w ins a) (map negated ls)) e),
    )
      where
        neither : (b c : Bool) → (b || c) ≡ false → b ≡ false
        neither true c e = e
        neither false c e = refl

        nor : (b c : Bool) → (b || c) ≡ false → c ≡ false
        nor true c e = absurd cc
        nor false c e = e

    goal-holds-at : (required : List Literal) → AllByRecursion (IsPosed (objects ++ outputs)) required
        → HoldsAt w ins (Meets w objects outputs required ins) a (record { literals = map negated required; answer = Some (variables_from (length objects) outputs) })
    goal-holds-at required h = elim (bool_cases (list_any (literal_truth w ins a) (map negated required))) [
      | inl t ↦ inl t
      | inr f ↦ inr (subst (Meets w objects outputs required ins) (sym (values-from sig w a assigned ins (length objects) outputs)) (record {
        members = members-from sig w a assigned (length objects) outputs outputs_there;
        others = numbers_from a 0 objects;
        inside = members-from sig w a assigned 0 objects objects_there;
        holds = all_true required h f;
      }))
    ]

  pub goal-holds : (required : List Literal) → AllByRecursion (IsPosed (objects ++ outputs)) required → HoldsFor sig w ins (Meets w objects outputs required ins) (goal_of objects outputs required)
  goal-holds required h = renumbered-holds sig w ins (Meets w objects outputs required ins) (record { literals = map negated required; answer = Some (variables_from (length objects) outputs) })
      (λ a g. goal-holds-at a g required h)
