-- What a rule of one parent gives by unification is right: the case of two parents in which the second has no variable.
use Rattle.std.proofs.Common.{◌≡◌, ◌∙◌, inl, inr, ℕ, true, refl, sym, ap, List, [], ◌∷◌, Option, Some, None, option_map}
use Rattle.std.specs.List.{AllByRecursion}
use Rattle.am_term.specs.declared.id.SortId.{SortId}
use Rattle.am_term.specs.declared.signature.Signature.{Signature}
use Rattle.am_term.specs.declared.term.Term.{Term}
use Rattle.am_term.specs.Instance.{instance}
use Rattle.am_clause.specs.declared.clause.Clause.{Clause}
use Rattle.am_clause.specs.Variables.{Variable, occurrences, occurrences_all, variables}
use Rattle.am_clause.specs.Numbered.{IsNumbered}
use Rattle.am_clause.proofs.Renames.{Within, within-left}
use Rattle.am_unify.specs.Mgu.{mgu}
use Rattle.am_unify.specs.Substitution.{apply, listed}
use Rattle.am_unify.specs.Unifier.{AreSortedUnder, Unifies, IsUnifier, IsSolved}
use Rattle.am_unify.proofs.Solved.{mgu-solved}
use Rattle.am_rules.specs.Binding.{BindsOne, OfOne, of_one}
use Rattle.am_rules.specs.Made.{IsMadeOfSuch, IsMadeIfAny, IsNatural}
use Rattle.am_rules.specs.Most.{AreInstances}
use Rattle.am_rules.specs.Row.{in_lists}
use Rattle.am_rules.specs.Asked.{Pairs}
use Rattle.am_rules.specs.Solving.{images}
use Rattle.am_rules.specs.Alone.{made_alone, solved_alone}
use Rattle.am_rules.proofs.Standing.{never, within-cases, Each}
use Rattle.am_rules.proofs.AskedLaws.{Told, Tells, Holding}
use Rattle.am_rules.proofs.Posing.{Valid}
use Rattle.am_rules.proofs.Joining.{At, IsCounted, sorts, Left, left-posed, joint, joint-left, joint-fits, instance-apply, read_image, none-more, lefts-fit, images-keep, lefts-factor}
use Rattle.am_rules.proofs.Numberings.{made-numbered}
use Rattle.am_rules.proofs.Solutions.{valid}
use Rattle.am_clause.specs.SortedClause.{is_sorted_clause}

no-variable : (P : Variable → Type 0) → Each P []
no-variable P v m = never m

pub none-counted : IsCounted []
none-counted k v e = absurd cc

module _ (sig : Signature) (ins : List SortId) (p : Clause) (numbered : IsNumbered p) (sorted : is_sorted_clause sig ins p ≡ true)
    (Meets : (Term → Term) → Type 0) (make : List Term → Clause) (natural : IsNatural (OfOne (BindsOne sig ins p Meets)) (of_one make)) where
  abbrev pub Such : List (List Term) → Type 0
  Such = OfOne (BindsOne sig ins p Meets)

  abbrev pub vs : List Variable
  vs = variables p

  abbrev pub G : Term → Type 0
  G t = Left sig ins vs [] numbered none-counted t

  abbrev ss : ℕ → SortId
  ss = sorts sig ins vs [] numbered none-counted

  abbrev Paired : List (Term × Term) → Type 0
  Paired ps = AllByRecursion (λ (e : Term × Term). G e.0 × G e.1) ps

  posed : (ps : List (Term × Term)) → Paired ps → AreSortedUnder sig ins ss ps
  posed [] h = tt
  posed (e ∷ ps) h = ((left-posed sig ins vs [] numbered none-counted e.0 h.0.0, left-posed sig ins vs [] numbered none-counted e.1 h.0.1), posed ps h.1)

  unifies : (xs : List Term) (b : BindsOne sig ins p Meets xs) (ps : List (Term × Term)) → Paired ps → AllByRecursion (λ (e : Term × Term). instance xs e.0 ≡ instance xs e.1) ps → Unifies (joint sig ins vs [] numbered none-counted xs [] b.whole refl) ps
  unifies xs b [] h u = tt
  unifies xs b (e ∷ ps) h u = (
    sym (at e.0 h.0.0.1) ∙ (u.0 ∙ at e.1 h.0.1.1),
    unifies xs b ps h.1 u.1,
  )
    where
      at : (t : Term) → Each (At vs) (occurrences t) → instance xs t ≡ apply (joint sig ins vs [] numbered none-counted xs [] b.whole refl) t
      at = instance-apply xs (joint sig ins vs [] numbered none-counted xs [] b.whole refl) (At vs) (λ n s. joint-left sig ins vs [] numbered none-counted xs [] b.whole refl (n, s))

  unifier : (xs : List Term) (b : BindsOne sig ins p Meets xs) (ps : List (Term × Term)) → Paired ps → AllByRecursion (λ (e : Term × Term). instance xs e.0 ≡ instance xs e.1) ps → IsUnifier sig ins ss (joint sig ins vs [] numbered none-counted xs [] b.whole refl) ps
  unifier xs b ps h u = record { fitting = joint-fits sig ins vs [] numbered none-counted xs [] b.whole refl; unifies = unifies xs b ps h u }

  no-pairs : ((f : Term → Term) → Meets f → ⊥) → (ws : List (List Term)) → Such ws → ⊥
  no-pairs h [] k = k
  no-pairs h (xs ∷ []) k = h (instance xs) k.meets
  no-pairs h (xs ∷ ys ∷ ws) k = k

  module _ (ps : List (Term × Term)) (told : (f : Term → Term) → Tells f f (Meets f) ps) (pairing : Paired ps) where
    no-unifier : IsSolved sig ins ss ps None → (ws : List (List Term)) → Such ws → ⊥
    no-unifier h [] k = k
    no-unifier h (xs ∷ []) k = h (joint sig ins vs [] numbered none-counted xs [] k.whole refl) (unifier xs k ps pairing ((told (instance xs)).there k.meets))
    no-unifier h (xs ∷ ys ∷ ws) k = k

    module _ (bs : List (ℕ × Term)) (solved : IsSolved sig ins ss ps (Some bs)) where
      abbrev xs : List Term
      xs = images bs 0 vs

      p_valid : Each (Valid sig ins) vs
      p_valid = valid sig ins p numbered sorted

      q_valid : Each (Valid sig ins) []
      q_valid = no-variable (Valid sig ins)

      as_applied : (t : Term) → Each (At vs) (occurrences t) → instance xs t ≡ apply (listed bs) t
      as_applied = instance-apply xs (listed bs) (At vs)
          (λ n s e. read_image sig ins vs [] numbered none-counted p_valid q_valid ps bs solved 0 vs (n, s) e ∙ ap (λ i. listed bs i s) (none-more sig ins vs [] numbered none-counted p_valid q_valid ps bs solved n))

      unite : (qs : List (Term × Term)) → Paired qs → Unifies (listed bs) qs → AllByRecursion (λ (e : Term × Term). instance xs e.0 ≡ instance xs e.1) qs
      unite [] h u = tt
      unite (e ∷ qs) h u = (as_applied e.0 h.0.0.1 ∙ (u.0 ∙ sym (as_applied e.1 h.0.1.1)), unite qs h.1 u.1)

      such : BindsOne sig ins p Meets xs
      such = record {
        whole = lefts-fit sig ins vs [] numbered none-counted p_valid q_valid ps bs solved;
        meets = (told (instance xs)).back (unite ps pairing solved.most_general.unifier.unifies);
      }

      factors : (ws : List (List Term)) → Such ws → AreInstances sig ins ws (xs ∷ [])
      factors [] k = absurd k
      factors (us ∷ []) k =
          let u : IsUnifier sig ins ss (joint sig ins vs [] numbered none-counted us [] k.whole refl) ps = unifier us k ps pairing ((told (instance us)).there k.meets) in
          record {
            by = joint sig ins vs [] numbered none-counted us [] k.whole refl;
            keeps = λ n s m. images-keep sig ins vs [] numbered none-counted p_valid q_valid ps bs solved us [] k.whole refl u n s (widen (n, s) m);
            equal = sym (ap (λ x. x ∷ []) (lefts-factor sig ins vs [] numbered none-counted p_valid q_valid ps bs solved us [] k.whole refl u));
          }
        where
          widen : (v : Variable) → Within v (in_lists (xs ∷ [])) → Within v (in_lists (xs ∷ [] ∷ []))
          widen v m = elim (within-cases v (occurrences_all xs) [] m) [
            | inl a ↦ within-left v (occurrences_all xs) (in_lists ([] ∷ [])) a
            | inr b ↦ never b
          ]
      factors (us ∷ ys ∷ ws) k = absurd k

      made : IsMadeOfSuch sig ins Such (of_one make) (made_alone p make bs)
      made = made-numbered sig ins Such (of_one make) natural (xs ∷ []) (record { holds = such; factors = factors })

    by_solution : (o : Option (List (ℕ × Term))) → IsSolved sig ins ss ps o → IsMadeIfAny sig ins Such (of_one make) (option_map (made_alone p make) o)
    by_solution None h = no-unifier h
    by_solution (Some bs) h = made bs h

  pub alone-answer : (o : Pairs) → ((f : Term → Term) → Told f f (Meets f) o) → Holding G G o → IsMadeIfAny sig ins Such (of_one make) (solved_alone sig ins p make o)
  alone-answer None told hold = no-pairs told
  alone-answer (Some ps) told hold = by_solution ps told hold (mgu sig ins ps) (mgu-solved sig ins ss ps (posed ps hold))
