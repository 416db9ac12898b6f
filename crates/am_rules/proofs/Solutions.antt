-- What a rule of two parents gives by unification is right.
use Rattle.std.proofs.Common.{◌≡◌, ◌∙◌, ℕ, true, sym, ap, List, [], ◌∷◌, map, length, Option, Some, None, option_map}
use Rattle.std.specs.List.{AllByRecursion}
use Rattle.am_term.specs.declared.id.SortId.{SortId}
use Rattle.am_term.specs.declared.signature.Signature.{Signature}
use Rattle.am_term.specs.declared.term.Term.{Term}
use Rattle.am_term.specs.declared.term.Atom.{Atom}
use Rattle.am_term.specs.declared.term.Atom.TheVariants.{Rel, Eq}
use Rattle.am_term.specs.Instance.{instance}
use Rattle.am_clause.specs.declared.clause.Clause.{Clause}
use Rattle.am_clause.specs.Variables.{Variable, occurrences, occurrences_all, in_atom, in_answer, in_literals, in_clause, variables}
use Rattle.am_clause.specs.Numbered.{IsNumbered}
use Rattle.am_clause.proofs.Bijections.{listed}
use Rattle.am_clause.proofs.Renames.{Within}
use Rattle.am_unify.specs.Mgu.{mgu}
use Rattle.am_unify.specs.Unifier.{IsSolved, IsUnifier}
use Rattle.am_unify.specs.Substitution.{applies}
use Rattle.am_unify.proofs.Solved.{mgu-solved}
use Rattle.am_rules.specs.Made.{IsMadeOfSuch, IsMadeIfAny, IsNatural}
use Rattle.am_rules.specs.Most.{AreInstances}
use Rattle.am_rules.specs.Parts.{answer_terms}
use Rattle.am_rules.specs.Resolution.{nth_atom}
use Rattle.am_rules.specs.Binding.{Binds, OfTwo, of_two}
use Rattle.am_rules.specs.Asked.{Pairs}
use Rattle.am_rules.specs.Solving.{apart, images, solved_apart, made_with_bindings}
use Rattle.am_rules.proofs.Standing.{Each, each-left, each-right, each-head, each-tail}
use Rattle.am_rules.proofs.Lifts.{literals-each}
use Rattle.am_rules.proofs.AskedLaws.{Told, Tells, Holding}
use Rattle.am_rules.proofs.Posing.{HasOne, Valid, atoms-sorted, answer-sorted, clause-valid}
use Rattle.am_rules.proofs.Joining.{At, counted-at, sorts, Left, Right, Pairing, apart-posed, joint, joint-unifier, lefts-fit, rights-fit, unite, images-keep, lefts-factor, rights-factor}
use Rattle.am_rules.proofs.RowLaws.{in-variables}
use Rattle.am_rules.proofs.Numberings.{made-numbered}
use Rattle.am_rules.proofs.Resolvents.{atom-each}
use Rattle.am_term.specs.Parts.{parts_of}
use Rattle.am_clause.specs.SortedClause.{is_sorted_clause}

-- terms of an atom and of an answer
pub all-terms : (P : Variable → Type 0) (ts : List Term) → Each P (occurrences_all ts) → AllByRecursion (λ t. Each P (occurrences t)) ts
all-terms P [] h = tt
all-terms P (t ∷ ts) h = (each-head P t ts h, all-terms P ts (each-tail P t ts h))

pub atom-terms : (P : Variable → Type 0) (a : Atom) → Each P (in_atom a) → AllByRecursion (λ t. Each P (occurrences t)) (parts_of a)
atom-terms P (Rel r args) h = all-terms P args h
atom-terms P (Eq l r) h = (each-left P (occurrences l) (occurrences r) h, (each-right P (occurrences l) (occurrences r) h, tt))

pub answers-terms : (P : Variable → Type 0) (o : Option (List Term)) → Each P (in_answer o) → AllByRecursion (λ t. Each P (occurrences t)) (answer_terms o)
answers-terms P None h = tt
answers-terms P (Some ts) h = all-terms P ts h

pub all-and : {A : Type 0} (P Q : A → Type 0) (xs : List A) → AllByRecursion P xs → AllByRecursion Q xs → AllByRecursion (λ x. P x × Q x) xs
all-and P Q [] h k = tt
all-and P Q (x ∷ xs) h k = ((h.0, k.0), all-and P Q xs h.1 k.1)

module _ (sig : Signature) (ins : List SortId) (c : Clause) (numbered : IsNumbered c) (sorted : is_sorted_clause sig ins c ≡ true) where
  each_at : Each (At (variables c)) (in_clause c)
  each_at v m = counted-at (variables c) numbered v (listed v c m)

  abbrev pub Good : Term → Type 0
  Good t = HasOne sig ins t × Each (At (variables c)) (occurrences t)

  pub atom_good : (i : ℕ) (a : Atom) → nth_atom i c ≡ Some a → AllByRecursion Good (parts_of a)
  atom_good i a e = all-and (HasOne sig ins) (λ t. Each (At (variables c)) (occurrences t)) (parts_of a) (atoms-sorted sig ins c sorted i a e)
      (atom-terms (At (variables c)) a (atom-each (At (variables c)) i c.literals (literals-each (At (variables c)) c.literals (each-left (At (variables c)) (in_literals c.literals) (in_answer c.answer) each_at)) a e))

  pub answer_good : AllByRecursion Good (answer_terms c.answer)
  answer_good = all-and (HasOne sig ins) (λ t. Each (At (variables c)) (occurrences t)) (answer_terms c.answer) (answer-sorted sig ins c sorted)
      (answers-terms (At (variables c)) c.answer (each-right (At (variables c)) (in_literals c.literals) (in_answer c.answer) each_at))

  unlisted : (v : Variable) → Within v (variables c) → Within v (in_clause c)
  unlisted v m = in-variables v c m

  pub valid : Each (Valid sig ins) (variables c)
  valid v m = clause-valid sig ins c sorted v (unlisted v m)

module _ (sig : Signature) (ins : List SortId) (p q : Clause) (first : IsNumbered p) (second : IsNumbered q)
    (left_sorted : is_sorted_clause sig ins p ≡ true) (right_sorted : is_sorted_clause sig ins q ≡ true)
    (Meets : (Term → Term) → (Term → Term) → Type 0) (make : List Term → List Term → Clause) (natural : IsNatural (OfTwo (Binds sig ins p q Meets)) (of_two make)) where
  abbrev pub Such : List (List Term) → Type 0
  Such = OfTwo (Binds sig ins p q Meets)

  abbrev pub S : Term → Type 0
  S t = Left sig ins (variables p) (variables q) first second t

  abbrev pub T : Term → Type 0
  T t = Right sig ins (variables p) (variables q) first second t

  -- no pairs: no bindings
  no-pairs : ((f g : Term → Term) → Meets f g → ⊥) → (ws : List (List Term)) → Such ws → ⊥
  no-pairs h [] k = k
  no-pairs h (xs ∷ []) k = k
  no-pairs h (xs ∷ ys ∷ []) k = h (instance xs) (instance ys) k.meets
  no-pairs h (xs ∷ ys ∷ zs ∷ ws) k = k

  module _ (ps : List (Term × Term)) (told : (f g : Term → Term) → Tells f g (Meets f g) ps) (pairing : Pairing sig ins (variables p) (variables q) first second ps) where
    abbrev ss : ℕ → SortId
    ss = sorts sig ins (variables p) (variables q) first second

    no-unifier : IsSolved sig ins ss (apart (length (variables p)) ps) None → (ws : List (List Term)) → Such ws → ⊥
    no-unifier h [] k = k
    no-unifier h (xs ∷ []) k = k
    no-unifier h (xs ∷ ys ∷ []) k = h (joint sig ins (variables p) (variables q) first second xs ys k.left k.right)
        (joint-unifier sig ins (variables p) (variables q) first second xs ys k.left k.right ps pairing ((told (instance xs) (instance ys)).there k.meets))
    no-unifier h (xs ∷ ys ∷ zs ∷ ws) k = k

    module _ (bs : List (ℕ × Term)) (solved : IsSolved sig ins ss (apart (length (variables p)) ps) (Some bs)) where
      abbrev xs : List Term
      xs = images bs 0 (variables p)

      abbrev ys : List Term
      ys = images bs (length (variables p)) (variables q)

      p_valid : Each (Valid sig ins) (variables p)
      p_valid = valid sig ins p first left_sorted

      q_valid : Each (Valid sig ins) (variables q)
      q_valid = valid sig ins q second right_sorted

      meet : Meets (instance xs) (instance ys)
      meet = (told (instance xs) (instance ys)).back (unite sig ins (variables p) (variables q) first second p_valid q_valid (apart (length (variables p)) ps) bs solved ps pairing solved.most_general.unifier.unifies)

      such : Binds sig ins p q Meets xs ys
      such = record {
        left = lefts-fit sig ins (variables p) (variables q) first second p_valid q_valid (apart (length (variables p)) ps) bs solved;
        right = rights-fit sig ins (variables p) (variables q) first second p_valid q_valid (apart (length (variables p)) ps) bs solved;
        meets = meet;
      }

      factors : (ws : List (List Term)) → Such ws → AreInstances sig ins ws (xs ∷ ys ∷ [])
      factors [] k = absurd k
      factors (us ∷ []) k = absurd k
      factors (us ∷ vs ∷ []) k =
          let u : IsUnifier sig ins ss (joint sig ins (variables p) (variables q) first second us vs k.left k.right) (apart (length (variables p)) ps) =
          joint-unifier sig ins (variables p) (variables q) first second us vs k.left k.right ps pairing ((told (instance us) (instance vs)).there k.meets) in
          record {
            by = joint sig ins (variables p) (variables q) first second us vs k.left k.right;
            keeps = images-keep sig ins (variables p) (variables q) first second p_valid q_valid (apart (length (variables p)) ps) bs solved us vs k.left k.right u;
            equal = sym (ap (λ x. x ∷ map (applies (joint sig ins (variables p) (variables q) first second us vs k.left k.right)) (ys ∷ []))
                (lefts-factor sig ins (variables p) (variables q) first second p_valid q_valid (apart (length (variables p)) ps) bs solved us vs k.left k.right u)
                ∙ ap (λ y. us ∷ y ∷ []) (rights-factor sig ins (variables p) (variables q) first second p_valid q_valid (apart (length (variables p)) ps) bs solved us vs k.left k.right u));
          }
      factors (us ∷ vs ∷ zs ∷ ws) k = absurd k

      made : IsMadeOfSuch sig ins Such (of_two make) (made_with_bindings p q make bs)
      made = made-numbered sig ins Such (of_two make) natural (xs ∷ ys ∷ []) (record { holds = such; factors = factors })

    by_solution : (o : Option (List (ℕ × Term))) → IsSolved sig ins ss (apart (length (variables p)) ps) o → IsMadeIfAny sig ins Such (of_two make) (option_map (made_with_bindings p q make) o)
    by_solution None h = no-unifier h
    by_solution (Some bs) h = made bs h

  pub by_pairs : (o : Pairs) → ((f g : Term → Term) → Told f g (Meets f g) o) → Holding S T o
      → IsMadeIfAny sig ins Such (of_two make) (option_map (made_with_bindings p q make) (solved_apart sig ins (length (variables p)) o))
  by_pairs None told hold = no-pairs told
  by_pairs (Some ps) told hold = by_solution ps told hold (mgu sig ins (apart (length (variables p)) ps))
      (mgu-solved sig ins (ss ps told hold) (apart (length (variables p)) ps) (apart-posed sig ins (variables p) (variables q) first second ps hold))
