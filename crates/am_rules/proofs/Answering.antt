-- From bindings that a rule of this crate takes to those that a rule of the calculus takes, and back.
use Rattle.std.proofs.Common.{◌≡◌, ◌∙◌, inl, inr, true, false, refl, sym, ap, subst, List, [], ◌∷◌, Option, Some, None}
use Rattle.am_term.specs.declared.id.SortId.{SortId}
use Rattle.am_term.specs.declared.signature.Signature.{Signature}
use Rattle.am_term.specs.declared.term.Term.{Term}
use Rattle.am_clause.specs.declared.clause.Clause.{Clause}
use Rattle.am_clause.specs.declared.row.Made.{Made}
use Rattle.am_clause.specs.Rules.{OneParent, TwoParents}
use Rattle.am_clause.specs.Steps.{IsMadeOfOne, IsMadeOfTwo}
use Rattle.am_rules.specs.Binding.{Binds, BindsOne, OfOne, OfTwo, of_one, of_two}
use Rattle.am_rules.specs.Made.{IsMadeOfSuch, IsMadeIfAny}
use Rattle.am_rules.specs.Paramodulation.{IsSortedAnswer}
use Rattle.am_rules.specs.Inference.{TakesOne, TakesTwo, IsInferenceOfOne, IsInferenceOfTwo, AnswersOne, AnswersTwo, AnswersSorted}
use Rattle.am_rules.proofs.Standing.{never}
use Rattle.am_rules.proofs.Factors.{as-list, as-substitution}

record AreOne (Such : List Term → Type 0) (ws : List (List Term)) : Type 0 where
  pub first : List Term
  pub is : ws ≡ first ∷ []
  pub such : Such first

are-one : (Such : List Term → Type 0) (ws : List (List Term)) → OfOne Such ws → AreOne Such ws
are-one Such [] h = absurd h
are-one Such (xs ∷ []) h = record { first = xs; is = refl; such = h }
are-one Such (xs ∷ ys ∷ ws) h = absurd h

pub record AreTwo (Such : List Term → List Term → Type 0) (ws : List (List Term)) : Type 0 where
  pub first : List Term
  pub second : List Term
  pub is : ws ≡ first ∷ second ∷ []
  pub such : Such first second

pub are-two : (Such : List Term → List Term → Type 0) (ws : List (List Term)) → OfTwo Such ws → AreTwo Such ws
are-two Such [] h = absurd h
are-two Such (xs ∷ []) h = absurd h
are-two Such (xs ∷ ys ∷ []) h = record { first = xs; second = ys; is = refl; such = h }
are-two Such (xs ∷ ys ∷ zs ∷ ws) h = absurd h

-- parents without the named parts
module _ (sig : Signature) (ins : List SortId) where
  pub unsuited-one : (rule : OneParent) (p : Clause) → rule.suits p ≡ false → AnswersOne sig ins rule p None
  unsuited-one rule p e ws h = never (sym e ∙ h.made.suits)

  pub unsuited-two : (rule : TwoParents) (p q : Clause) → rule.suits p q ≡ false → AnswersTwo sig ins rule p q None
  unsuited-two rule p q e ws h = never (sym e ∙ h.made.suits)

-- the same claim of what a rule takes and makes
pub record IsTiedOne (sig : Signature) (ins : List SortId) (rule : OneParent) (p : Clause) (Meets : (Term → Term) → Type 0) (make : List Term → Clause) : Type 0 where
  pub there : (xs : List Term) → rule.suits p ≡ true → BindsOne sig ins p Meets xs → IsMadeOfOne sig ins rule p xs (make xs)
  pub back : (xs : List Term) (d : Clause) → IsMadeOfOne sig ins rule p xs d → BindsOne sig ins p Meets xs
  pub same : (xs : List Term) (d : Clause) → IsMadeOfOne sig ins rule p xs d → d ≡ make xs

pub record IsTiedTwo (sig : Signature) (ins : List SortId) (rule : TwoParents) (p q : Clause) (Meets : (Term → Term) → (Term → Term) → Type 0) (make : List Term → List Term → Clause) : Type 0 where
  pub there : (xs ys : List Term) → rule.suits p q ≡ true → Binds sig ins p q Meets xs ys → IsMadeOfTwo sig ins rule p xs q ys (make xs ys)
  pub back : (xs ys : List Term) (d : Clause) → IsMadeOfTwo sig ins rule p xs q ys d → Binds sig ins p q Meets xs ys
  pub same : (xs ys : List Term) (d : Clause) → IsMadeOfTwo sig ins rule p xs q ys d → d ≡ make xs ys

module _ (sig : Signature) (ins : List SortId) (rule : OneParent) (p : Clause) (Meets : (Term → Term) → Type 0) (make : List Term → Clause) (tied : IsTiedOne sig ins rule p Meets make) where
  abbrev SuchOne : List (List Term) → Type 0
  SuchOne = OfOne (BindsOne sig ins p Meets)

  such-one : (ws : List (List Term)) → TakesOne sig ins rule p ws → SuchOne ws
  such-one ws t = subst SuchOne (sym t.bound_by) (tied.back t.first t.conclusion t.made)

  one-inference : rule.suits p ≡ true → (m : Made) → IsMadeOfSuch sig ins SuchOne (of_one make) m → IsInferenceOfOne sig ins rule p m
  one-inference suits m h =
      let r : AreOne (BindsOne sig ins p Meets) m.with = are-one (BindsOne sig ins p Meets) m.with h.general.holds in
      let made : IsMadeOfOne sig ins rule p r.first m.clause =
      subst (IsMadeOfOne sig ins rule p r.first) (sym (h.concluded ∙ ap (of_one make) r.is)) (tied.there r.first suits r.such) in
      record {
        first = r.first;
        bound_by = r.is;
        made = made;
        general = record {
          solves = record { conclusion = m.clause; first = r.first; bound_by = r.is; made = made };
          general = λ us t. as-list sig ins m h.numbered us (h.general.factors us (such-one us t));
        };
        numbered = h.numbered;
      }

  pub one-answer : rule.suits p ≡ true → (o : Option Made) → IsMadeIfAny sig ins SuchOne (of_one make) o → AnswersOne sig ins rule p o
  one-answer suits None h = λ ws t. h ws (such-one ws t)
  one-answer suits (Some m) h = one-inference suits m h

  pub one-made : (m : Made) → IsInferenceOfOne sig ins rule p m → IsMadeOfSuch sig ins SuchOne (of_one make) m
  one-made m h = record {
    general = record {
      holds = such-one m.with h.general.solves;
      factors = λ us such. let r : AreOne (BindsOne sig ins p Meets) us = are-one (BindsOne sig ins p Meets) us such in
          as-substitution sig ins m.with us (h.general.general us (record { conclusion = make r.first; first = r.first; bound_by = r.is; made = tied.there r.first h.made.suits r.such }));
    };
    concluded = tied.same h.first m.clause h.made ∙ ap (of_one make) (sym h.bound_by);
    numbered = h.numbered;
  }

module _ (sig : Signature) (ins : List SortId) (rule : TwoParents) (p q : Clause) (Meets : (Term → Term) → (Term → Term) → Type 0) (make : List Term → List Term → Clause) (tied : IsTiedTwo sig ins rule p q Meets make) where
  abbrev SuchTwo : List (List Term) → Type 0
  SuchTwo = OfTwo (Binds sig ins p q Meets)

  such-two : (ws : List (List Term)) → TakesTwo sig ins rule p q ws → SuchTwo ws
  such-two ws t = subst SuchTwo (sym t.bound_by) (tied.back t.first t.second t.conclusion t.made)

  two-inference : rule.suits p q ≡ true → (m : Made) → IsMadeOfSuch sig ins SuchTwo (of_two make) m → IsInferenceOfTwo sig ins rule p q m
  two-inference suits m h =
      let r : AreTwo (Binds sig ins p q Meets) m.with = are-two (Binds sig ins p q Meets) m.with h.general.holds in
      let made : IsMadeOfTwo sig ins rule p r.first q r.second m.clause =
      subst (IsMadeOfTwo sig ins rule p r.first q r.second) (sym (h.concluded ∙ ap (of_two make) r.is)) (tied.there r.first r.second suits r.such) in
      record {
        first = r.first;
        second = r.second;
        bound_by = r.is;
        made = made;
        general = record {
          solves = record { conclusion = m.clause; first = r.first; second = r.second; bound_by = r.is; made = made };
          general = λ us t. as-list sig ins m h.numbered us (h.general.factors us (such-two us t));
        };
        numbered = h.numbered;
      }

  pub two-answer : rule.suits p q ≡ true → (o : Option Made) → IsMadeIfAny sig ins SuchTwo (of_two make) o → AnswersTwo sig ins rule p q o
  two-answer suits None h = λ ws t. h ws (such-two ws t)
  two-answer suits (Some m) h = two-inference suits m h

  pub sorted-two-answer : rule.suits p q ≡ true → (o : Option Made) → IsSortedAnswer sig ins SuchTwo (of_two make) o → AnswersSorted sig ins rule p q o
  sorted-two-answer suits None (inl h) = inl (λ ws t. h ws (such-two ws t))
  sorted-two-answer suits None (inr h) = inr (record { inferred = h.row; inference = two-inference suits h.row h.made; unsorted = h.unsorted })
  sorted-two-answer suits (Some m) h = (two-inference suits m h.made, h.sorted)

  pub two-made : (m : Made) → IsInferenceOfTwo sig ins rule p q m → IsMadeOfSuch sig ins SuchTwo (of_two make) m
  two-made m h = record {
    general = record {
      holds = such-two m.with h.general.solves;
      factors = λ us such. let r : AreTwo (Binds sig ins p q Meets) us = are-two (Binds sig ins p q Meets) us such in
          as-substitution sig ins m.with us (h.general.general us (record { conclusion = make r.first r.second; first = r.first; second = r.second; bound_by = r.is; made = tied.there r.first r.second h.made.suits r.such }));
    };
    concluded = tied.same h.first h.second m.clause h.made ∙ ap (of_two make) (sym h.bound_by);
    numbered = h.numbered;
  }
