-- The functions of the rules answer as inferences do, and what they make are steps.
use Rattle.std.proofs.Common.{◌≡◌, ◌∙◌, ◌++◌, ℕ, zero, suc, Bool, true, false, refl, sym, ap, subst, inl, List, [], ◌∷◌, Option, Some, None, Result, Ok, Err, IfOk, slice_get, if◌then◌else◌}
use Rattle.std.proofs.lemmas.Grind.{common_steps}
use Rattle.am_term.specs.declared.id.SortId.{SortId}
use Rattle.am_term.specs.declared.signature.Signature.{Signature}
use Rattle.am_clause.specs.declared.clause.Clause.{Clause}
use Rattle.am_clause.specs.declared.row.Made.{Made}
use Rattle.am_clause.specs.declared.row.Side.{Side}
use Rattle.am_clause.specs.Numbered.{IsNumbered, AreNumbered}
use Rattle.am_clause.specs.NumberedMade.{made_occurrences}
use Rattle.am_clause.specs.Rules.{OneParent, TwoParents, factor, reflex, resolve, para, close, rewrite}
use Rattle.am_clause.specs.SortedClause.{is_sorted_clause}
use Rattle.am_clause.specs.Variables.{Variable, same_variable, variables}
use Rattle.am_clause.proofs.Firsts.{with_new-is}
use Rattle.am_clause.proofs.Places.{same_variable-sound, same_variable-refl}
use Rattle.am_rules.specs.Alone.{FactorMeets, ReflexMeets, kept, factoring, reflexion}
use Rattle.am_rules.specs.Binding.{Binds, OfTwo, of_two}
use Rattle.am_rules.specs.Chosen.{all_chosen, closing}
use Rattle.am_rules.specs.Closing.{IsClosing, AnswersClosing}
use Rattle.am_rules.specs.Conclusions.{factored, reflexed, resolved, paramodulated, closed_off, rewritten, factored-is, reflexed-is, resolved-is, paramodulated-is, closed-is, rewritten-is, rewriting}
use Rattle.am_rules.specs.Inference.{IsInferenceOfOne, IsInferenceOfTwo, AnswersOne, AnswersTwo, AnswersSorted, AnswersRewrite, IsRewrite, IsStepOfOne, IsStepOfTwo}
use Rattle.am_rules.specs.Paramodulation.{ParaMeets, paramodulant, paramodulation, sorted_only}
use Rattle.am_rules.specs.Resolution.{ResolveMeets, resolvent}
use Rattle.am_rules.specs.Row.{in_lists}
use Rattle.am_rules.specs.Solving.{resolution}
use Rattle.am_rules.proofs.Alones.{factoring-answer, reflexion-answer}
use Rattle.am_rules.proofs.Answering.{one-answer, two-answer, sorted-two-answer, unsuited-one, unsuited-two, one-made, two-made}
use Rattle.am_rules.proofs.Closings.{closing-answer, closing-sorted}
use Rattle.am_rules.proofs.Paramodulations.{paramodulation-answer, sorted-answer}
use Rattle.am_rules.proofs.Resolutions.{resolution-answer}
use Rattle.am_rules.proofs.Rewritings.{rewriting-answer, rewriting-found}
use Rattle.am_rules.proofs.SortedMade.{alone-sorted, resolved-sorted}
use Rattle.am_rules.proofs.Tied.{factor-tied, reflex-tied, resolve-tied}
use Rattle.am_rules.proofs.TiedParts.{para-tied}
use Rattle.am_rules.proofs.Walks.{row-noted}

by-suits : (P : Option Made → Type 0) (suits : Bool) (o : Option Made) → (suits ≡ true → P o) → (suits ≡ false → P None) → P (if suits then o else None)
by-suits P true o h k = h refl
by-suits P false o h k = k refl

-- what the call answers, as the relation asks
pub not-suited : (P : Option Made → Type 0) (suits : Bool) (o whole : Option Made) → whole ≡ (if suits then o else None) → suits ≡ false → P whole → P None
not-suited P suits o whole is e h = subst P (is ∙ ap (λ (b : Bool). if b then o else None) e) h

pub as-suited : (P : Option Made → Type 0) (suits : Bool) (o whole : Option Made) → whole ≡ (if suits then o else None) → suits ≡ true → P whole → (r : Option Made) → r ≡ o → P r
as-suited P suits o whole is e h r k = subst P (is ∙ (ap (λ (b : Bool). if b then o else None) e ∙ sym k)) h

pub answered : {E : Type 0} (P : Option Made → Type 0) (suits : Bool) (o whole : Option Made) → whole ≡ (if suits then o else None) → suits ≡ true → P whole → (r : Result (Option Made) E) → IfOk r (λ x. x ≡ o) → IfOk r P
answered P suits o whole is e h (Ok x) k = as-suited P suits o whole is e h x k
answered P suits o whole is e h (Err x) k = tt

module _ (sig : Signature) (ins : List SortId) (p : Clause) where
  module _ (numbered : IsNumbered p) (sorted : is_sorted_clause sig ins p ≡ true) where
    pub factored-answers : (i j : ℕ) → AnswersOne sig ins (factor i j) p (factored sig ins p i j)
    factored-answers i j = subst (AnswersOne sig ins (factor i j) p) (sym (factored-is sig ins p i j))
        (by-suits (AnswersOne sig ins (factor i j) p) ((factor i j).suits p) (factoring sig ins p i j)
        (λ e. one-answer sig ins (factor i j) p (FactorMeets p i j) (kept p 0) (factor-tied sig ins p i j) e (factoring sig ins p i j) (factoring-answer sig ins p numbered sorted i j))
        (unsuited-one sig ins (factor i j) p))

    pub reflexed-answers : (i : ℕ) → AnswersOne sig ins (reflex i) p (reflexed sig ins p i)
    reflexed-answers i = subst (AnswersOne sig ins (reflex i) p) (sym (reflexed-is sig ins p i))
        (by-suits (AnswersOne sig ins (reflex i) p) ((reflex i).suits p) (reflexion sig ins p i)
        (λ e. one-answer sig ins (reflex i) p (ReflexMeets p i) (kept p i) (reflex-tied sig ins p i) e (reflexion sig ins p i) (reflexion-answer sig ins p numbered i sorted))
        (unsuited-one sig ins (reflex i) p))

  pub closed-answers : IsNumbered p → AnswersClosing sig ins p (closed_off sig ins p)
  closed-answers numbered = subst (AnswersClosing sig ins p) (sym (closed-is sig ins p))
      (by-suits (AnswersClosing sig ins p) (close.suits p) (closing sig ins p)
      (λ e. closing-answer sig ins p numbered e (all_chosen sig ins (variables p)) refl) inl)

module _ (sig : Signature) (ins : List SortId) (p q : Clause) (first : IsNumbered p) (second : IsNumbered q) (left : is_sorted_clause sig ins p ≡ true) (right : is_sorted_clause sig ins q ≡ true) where
  pub resolved-answers : (i j : ℕ) → AnswersTwo sig ins (resolve i j) p q (resolved sig ins p i q j)
  resolved-answers i j = subst (AnswersTwo sig ins (resolve i j) p q) (sym (resolved-is sig ins p i q j))
      (by-suits (AnswersTwo sig ins (resolve i j) p q) ((resolve i j).suits p q) (resolution sig ins p i q j)
      (λ e. two-answer sig ins (resolve i j) p q (ResolveMeets p i q j) (resolvent p i q j) (resolve-tied sig ins p i q j) e (resolution sig ins p i q j) (resolution-answer sig ins p i q j first second left right))
      (unsuited-two sig ins (resolve i j) p q))

  pub paramodulated-answers : (j : ℕ) (side : Side) (i : ℕ) (path : List ℕ) → AnswersSorted sig ins (para j side i path) p q (paramodulated sig ins p j side q i path)
  paramodulated-answers j side i path = subst (AnswersSorted sig ins (para j side i path) p q) (sym (paramodulated-is sig ins p j side q i path))
      (by-suits (AnswersSorted sig ins (para j side i path) p q) ((para j side i path).suits p q) (sorted_only sig ins (paramodulation sig ins p j side q i path))
      (λ e. sorted-two-answer sig ins (para j side i path) p q (ParaMeets p j side q i path) (paramodulant p j side q i path) (para-tied sig ins p j side q i path) e
      (sorted_only sig ins (paramodulation sig ins p j side q i path))
      (sorted-answer sig ins (OfTwo (Binds sig ins p q (ParaMeets p j side q i path))) (of_two (paramodulant p j side q i path)) (paramodulation sig ins p j side q i path)
      (paramodulation-answer sig ins p j side q i path first second left right)))
      (λ e. inl (unsuited-two sig ins (para j side i path) p q e)))

  pub rewritten-answers : (side : Side) (i : ℕ) (path : List ℕ) → AnswersRewrite sig ins p side q i path (rewritten sig ins p side q i path)
  rewritten-answers side i path = subst (AnswersRewrite sig ins p side q i path) (sym (rewritten-is sig ins p side q i path))
      (by-suits (AnswersRewrite sig ins p side q i path) ((rewrite 1 side i path).suits p q) (sorted_only sig ins (rewriting sig ins p side q i path))
      (rewriting-answer sig ins p side q i path first second left right) inl)

-- ---- steps

before : {A : Type 0} (xs ys : List A) (k : ℕ) (x : A) → slice_get xs k ≡ Some x → slice_get (xs ++ ys) k ≡ Some x
before [] ys k x e = absurd cc
before (y ∷ xs) ys zero x e = e
before (y ∷ xs) ys (suc k) x e = before xs ys k x e

-- a conclusion that is numbered with its lists is numbered by itself
pub numbered-alone : (m : Made) → AreNumbered (made_occurrences m) → IsNumbered m.clause
numbered-alone m h k v e = h k v
    (sym (ap (λ (vs : List Variable). slice_get vs k) (sym (with_new-is same_variable same_variable-sound same_variable-refl (variables m.clause) (in_lists m.with)) ∙ row-noted m))
    ∙ before (variables m.clause) _ k v e)

module _ (sig : Signature) (ins : List SortId) (m : Made) where
  inferred-one : (rule : OneParent) (p : Clause) → IsInferenceOfOne sig ins rule p m → is_sorted_clause sig ins m.clause ≡ true → IsStepOfOne sig ins m rule p
  inferred-one rule p h s = record { first = h.first; bound_by = h.bound_by; made = h.made; sorted = s; numbered = h.numbered; clause_numbered = numbered-alone m h.numbered }

  inferred-two : (rule : TwoParents) (p q : Clause) → IsInferenceOfTwo sig ins rule p q m → is_sorted_clause sig ins m.clause ≡ true → IsStepOfTwo sig ins m rule p q
  inferred-two rule p q h s = record { first = h.first; second = h.second; bound_by = h.bound_by; made = h.made; sorted = s; numbered = h.numbered; clause_numbered = numbered-alone m h.numbered }

  module _ (p : Clause) (numbered : IsNumbered p) (sorted : is_sorted_clause sig ins p ≡ true) where
    pub factor-step : (i j : ℕ) → factored sig ins p i j ≡ Some m → IsStepOfOne sig ins m (factor i j) p
    factor-step i j e =
        let h : IsInferenceOfOne sig ins (factor i j) p m = subst (AnswersOne sig ins (factor i j) p) e (factored-answers sig ins p numbered sorted i j) in
        inferred-one (factor i j) p h (alone-sorted sig ins p 0 (FactorMeets p i j) m numbered sorted (one-made sig ins (factor i j) p (FactorMeets p i j) (kept p 0) (factor-tied sig ins p i j) m h))

    pub reflex-step : (i : ℕ) → reflexed sig ins p i ≡ Some m → IsStepOfOne sig ins m (reflex i) p
    reflex-step i e =
        let h : IsInferenceOfOne sig ins (reflex i) p m = subst (AnswersOne sig ins (reflex i) p) e (reflexed-answers sig ins p numbered sorted i) in
        inferred-one (reflex i) p h (alone-sorted sig ins p i (ReflexMeets p i) m numbered sorted (one-made sig ins (reflex i) p (ReflexMeets p i) (kept p i) (reflex-tied sig ins p i) m h))

    pub close-step : closed_off sig ins p ≡ Some m → IsStepOfOne sig ins m close p
    close-step e =
        let h : IsClosing sig ins p m = subst (AnswersClosing sig ins p) e (closed-answers sig ins p numbered) in
        record { first = h.first; bound_by = h.bound_by; made = h.made; sorted = closing-sorted sig ins p m numbered sorted h; numbered = h.numbered; clause_numbered = numbered-alone m h.numbered }

  module _ (p q : Clause) (first : IsNumbered p) (second : IsNumbered q) (left : is_sorted_clause sig ins p ≡ true) (right : is_sorted_clause sig ins q ≡ true) where
    pub resolve-step : (i j : ℕ) → resolved sig ins p i q j ≡ Some m → IsStepOfTwo sig ins m (resolve i j) p q
    resolve-step i j e =
        let h : IsInferenceOfTwo sig ins (resolve i j) p q m = subst (AnswersTwo sig ins (resolve i j) p q) e (resolved-answers sig ins p q first second left right i j) in
        inferred-two (resolve i j) p q h (resolved-sorted sig ins p i q j m first second left right (two-made sig ins (resolve i j) p q (ResolveMeets p i q j) (resolvent p i q j) (resolve-tied sig ins p i q j) m h))

    pub para-step : (j : ℕ) (side : Side) (i : ℕ) (path : List ℕ) → paramodulated sig ins p j side q i path ≡ Some m → IsStepOfTwo sig ins m (para j side i path) p q
    para-step j side i path e =
        let h : IsInferenceOfTwo sig ins (para j side i path) p q m × (is_sorted_clause sig ins m.clause ≡ true) = subst (AnswersSorted sig ins (para j side i path) p q) e (paramodulated-answers sig ins p q first second left right j side i path) in
        inferred-two (para j side i path) p q h.0 h.1

    pub rewrite-step : (side : Side) (i : ℕ) (path : List ℕ) → rewritten sig ins p side q i path ≡ Some m → IsStepOfTwo sig ins m (rewrite 1 side i path) p q
    rewrite-step side i path e =
        let h : IsRewrite sig ins p side q i path m × (is_sorted_clause sig ins m.clause ≡ true) = subst (AnswersRewrite sig ins p side q i path) e (rewritten-answers sig ins p q first second left right side i path) in
        record { first = h.0.first; second = h.0.second; bound_by = h.0.bound_by; made = h.0.made; sorted = h.1; numbered = h.0.numbered; clause_numbered = numbered-alone m h.0.numbered }

pub ruleset concluding = (common_steps, factored-is, reflexed-is, resolved-is, paramodulated-is, closed-is, rewritten-is, rewriting-found)
