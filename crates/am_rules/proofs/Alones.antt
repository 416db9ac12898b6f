-- Factoring and reflexion are natural, and what they give by unification is right.
use Rattle.std.proofs.Common.{◌≡◌, ◌∙◌, ◌++◌, ℕ, true, refl, sym, ap, subst, List, [], ◌∷◌, map, length, Option, Some, None}
use Rattle.std.specs.List.{AllByRecursion}
use Rattle.am_term.specs.declared.id.SortId.{SortId}
use Rattle.am_term.specs.declared.signature.Signature.{Signature}
use Rattle.am_term.specs.declared.term.Term.{Term}
use Rattle.am_term.specs.declared.term.Atom.{Atom}
use Rattle.am_term.specs.declared.term.Atom.TheVariants.{Rel, Eq}
use Rattle.am_term.specs.Instance.{instance}
use Rattle.am_term.specs.Sorting.{fit_places}
use Rattle.am_clause.specs.declared.clause.Clause.{Clause}
use Rattle.am_clause.specs.Merge.{merged}
use Rattle.am_clause.specs.Variables.{Variable, occurrences, occurrences_all, in_atom, in_literals, in_answer, in_clause, variables}
use Rattle.am_clause.specs.Renaming.{Numbers, renamed, renamed_all, renamed_literal, renamed_clause}
use Rattle.am_clause.specs.Numbered.{IsNumbered, sorts_in}
use Rattle.am_clause.proofs.Renames.{Within, within-left}
use Rattle.am_rules.specs.Row.{in_lists, renamed_lists}
use Rattle.am_rules.specs.Most.{IsUndone}
use Rattle.am_rules.specs.Made.{IsMadeIfAny, IsNatural}
use Rattle.am_rules.specs.Parts.{literal_under, answer_under, all_but}
use Rattle.am_rules.specs.Binding.{BindsOne, OfOne, of_one}
use Rattle.am_rules.specs.Asked.{asked}
use Rattle.am_rules.specs.Resolution.{nth_atom, AtomsMeet}
use Rattle.am_rules.specs.Alone.{FactorMeets, SidesMeet, ReflexMeets, kept, sides, factoring, reflexion}
use Rattle.am_rules.proofs.Standing.{Each, each-left, each-right, each-both}
use Rattle.am_rules.proofs.Lifts.{EachAtom, clause, each-literals, all-weaker}
use Rattle.am_rules.proofs.InstanceLaws.{Below, instance-renamed, sorts-renamed, bindings-length}
use Rattle.am_rules.proofs.Merging.{Undone, all-merged, merged-renamed}
use Rattle.am_rules.proofs.AskedLaws.{Told, told-as, Holding, asked-told, asked-both}
use Rattle.am_rules.proofs.Solutions.{atom_good}
use Rattle.am_rules.proofs.OneParent.{G, alone-answer}
use Rattle.am_rules.proofs.Resolvents.{atoms-after, atom-below, literals-part, answer-part, literals-inside, answer-inside}
use Rattle.am_term.specs.Parts.{parts_of}
use Rattle.am_clause.specs.SortedClause.{is_sorted_clause}

-- What a rule asks for stays, where the terms become what others become and then more.
module _ (sig : Signature) (ins : List SortId) (p : Clause) (i : ℕ) (numbered : IsNumbered p) (Meets : (Term → Term) → Type 0)
    (after : (to : Numbers) (xs : List Term) → length xs ≡ length (variables p) → Meets (instance xs) → Meets (instance (renamed_all to xs))) where
  abbrev Bound : List Term → Type 0
  Bound = BindsOne sig ins p Meets

  module _ (xs : List Term) (such : Bound xs) where
    long : length xs ≡ length (variables p)
    long = bindings-length sig ins p xs such.whole

    abbrev In_ : Variable → Type 0
    In_ v = Within v (in_lists (xs ∷ []))

    widen : (v : Variable) → Within v (occurrences_all xs) → In_ v
    widen v m = within-left v (occurrences_all xs) [] m

    literals_inner : AllByRecursion (EachAtom In_) (map (literal_under xs) (all_but i p.literals))
    literals_inner = all-weaker (EachAtom (λ v. Within v (occurrences_all xs))) (EachAtom In_) (λ l e v m. widen v (e v m)) (map (literal_under xs) (all_but i p.literals)) (literals-inside p numbered xs long i)

    clause_inner : Each In_ (in_clause (kept p i xs))
    clause_inner = each-both In_ (in_literals (merged (map (literal_under xs) (all_but i p.literals)))) (in_answer (answer_under xs p.answer))
        (each-literals In_ (merged (map (literal_under xs) (all_but i p.literals))) (all-merged (EachAtom In_) (map (literal_under xs) (all_but i p.literals)) literals_inner))
        (λ v m. widen v (answer-inside p numbered xs long v m))

    module _ (to back : Numbers) (u : IsUndone to back (in_lists (xs ∷ []))) where
      such_renamed : Bound (renamed_all to xs)
      such_renamed = record {
        whole = subst (λ os. fit_places sig os (sorts_in p) ≡ true) (sym (sorts-renamed sig ins to xs)) such.whole;
        meets = after to xs long such.meets;
      }

      conclusion_renamed : kept p i (renamed_all to xs) ≡ renamed_clause to (kept p i xs)
      conclusion_renamed =
          ap (λ ls. clause (merged ls) (answer_under (renamed_all to xs) p.answer)) (literals-part p numbered xs long to i)
          ∙ (ap (λ ls. clause ls (answer_under (renamed_all to xs) p.answer)) (merged-renamed to back (map (literal_under xs) (all_but i p.literals))
          (all-weaker (EachAtom In_) (EachAtom (Undone to back)) (λ l e v m. u.undone v.0 v.1 (e v m)) (map (literal_under xs) (all_but i p.literals)) literals_inner))
          ∙ ap (clause (map (renamed_literal to) (merged (map (literal_under xs) (all_but i p.literals))))) (answer-part p numbered xs long to))

  such : (to back : Numbers) (ws : List (List Term)) → IsUndone to back (in_lists ws) → OfOne Bound ws → OfOne Bound (renamed_lists to ws)
  such to back [] u h = h
  such to back (xs ∷ []) u h = such_renamed xs h to back u
  such to back (xs ∷ ys ∷ ws) u h = h

  concluded : (to back : Numbers) (ws : List (List Term)) → IsUndone to back (in_lists ws) → OfOne Bound ws → of_one (kept p i) (renamed_lists to ws) ≡ renamed_clause to (of_one (kept p i) ws)
  concluded to back [] u h = absurd h
  concluded to back (xs ∷ []) u h = conclusion_renamed xs h to back u
  concluded to back (xs ∷ ys ∷ ws) u h = absurd h

  inner : (ws : List (List Term)) → OfOne Bound ws → (v : Variable) → Within v (in_clause (of_one (kept p i) ws)) → Within v (in_lists ws)
  inner [] h v m = absurd h
  inner (xs ∷ []) h v m = clause_inner xs h v m
  inner (xs ∷ ys ∷ ws) h v m = absurd h

  pub kept-natural : IsNatural (OfOne Bound) (of_one (kept p i))
  kept-natural = record { such = such; concluded = concluded; inner = inner }

-- factoring
factor-after : (p : Clause) (i j : ℕ) → IsNumbered p → (to : Numbers) (xs : List Term) → length xs ≡ length (variables p) → FactorMeets p i j (instance xs) → FactorMeets p i j (instance (renamed_all to xs))
factor-after p i j n to xs long m = atoms-after (instance xs) (instance xs) (instance (renamed_all to xs)) (instance (renamed_all to xs)) (renamed to) (Below (length xs)) (Below (length xs)) (instance-renamed to xs) (instance-renamed to xs)
    (nth_atom i p) (nth_atom j p) (atom-below p n xs long i) (atom-below p n xs long j) m

module _ (sig : Signature) (ins : List SortId) (p : Clause) (numbered : IsNumbered p) where
  pub factor-natural : (i j : ℕ) → IsNatural (OfOne (BindsOne sig ins p (FactorMeets p i j))) (of_one (kept p 0))
  factor-natural i j = kept-natural sig ins p 0 numbered (FactorMeets p i j) (factor-after p i j numbered)

  pub factoring-answer : (sorted : is_sorted_clause sig ins p ≡ true) (i j : ℕ) → IsMadeIfAny sig ins (OfOne (BindsOne sig ins p (FactorMeets p i j))) (of_one (kept p 0)) (factoring sig ins p i j)
  factoring-answer sorted i j = alone-answer sig ins p numbered sorted (FactorMeets p i j) (kept p 0) (factor-natural i j) (asked (nth_atom i p) (nth_atom j p) None None)
      (λ f. told-as f f (AtomsMeet f f (nth_atom i p) (nth_atom j p) × Unit {0}) (FactorMeets p i j f) (λ h. h.0) (λ h. (h, tt)) (asked (nth_atom i p) (nth_atom j p) None None) (asked-told f f (nth_atom i p) (nth_atom j p) None None))
      (asked-both (λ t. G sig ins p numbered sorted (FactorMeets p i j) (kept p 0) (factor-natural i j) t) (λ t. G sig ins p numbered sorted (FactorMeets p i j) (kept p 0) (factor-natural i j) t)
      (nth_atom i p) (nth_atom j p) None None (atom_good sig ins p numbered sorted i) (atom_good sig ins p numbered sorted j) tt tt)

-- reflexion
sides-told : (f : Term → Term) (o : Option Atom) → Told f f (SidesMeet f o) (sides o)
sides-told f None = λ h. h
sides-told f (Some (Rel r args)) = λ h. h
sides-told f (Some (Eq l r)) = record { there = λ h. (h, tt); back = λ h. h.0 }

sides-hold : (S : Term → Type 0) (o : Option Atom) → ((a : Atom) → o ≡ Some a → AllByRecursion S (parts_of a)) → Holding S S (sides o)
sides-hold S None h = tt
sides-hold S (Some (Rel r args)) h = tt
sides-hold S (Some (Eq l r)) h = let k : AllByRecursion S (l ∷ r ∷ []) = h (Eq l r) refl in ((k.0, k.1.0), tt)

sides-after : (f h r : Term → Term) (P : Variable → Type 0) → ((t : Term) → Each P (occurrences t) → h t ≡ r (f t)) → (o : Option Atom) → ((a : Atom) → o ≡ Some a → Each P (in_atom a)) → SidesMeet f o → SidesMeet h o
sides-after f h r P same None e m = m
sides-after f h r P same (Some (Rel q args)) e m = m
sides-after f h r P same (Some (Eq l k)) e m =
    let i : Each P (occurrences l ++ occurrences k) = e (Eq l k) refl in
    same l (each-left P (occurrences l) (occurrences k) i) ∙ (ap r m ∙ sym (same k (each-right P (occurrences l) (occurrences k) i)))

module _ (sig : Signature) (ins : List SortId) (p : Clause) (numbered : IsNumbered p) (i : ℕ) where
  pub reflex-natural : IsNatural (OfOne (BindsOne sig ins p (ReflexMeets p i))) (of_one (kept p i))
  reflex-natural = kept-natural sig ins p i numbered (ReflexMeets p i)
      (λ to xs long m. sides-after (instance xs) (instance (renamed_all to xs)) (renamed to) (Below (length xs)) (instance-renamed to xs) (nth_atom i p) (atom-below p numbered xs long i) m)

  pub reflexion-answer : (sorted : is_sorted_clause sig ins p ≡ true) → IsMadeIfAny sig ins (OfOne (BindsOne sig ins p (ReflexMeets p i))) (of_one (kept p i)) (reflexion sig ins p i)
  reflexion-answer sorted = alone-answer sig ins p numbered sorted (ReflexMeets p i) (kept p i) reflex-natural (sides (nth_atom i p)) (λ f. sides-told f (nth_atom i p))
      (sides-hold (λ t. G sig ins p numbered sorted (ReflexMeets p i) (kept p i) reflex-natural t) (nth_atom i p) (atom_good sig ins p numbered sorted i))
