-- What rewriting by matching gives is right.
use Rattle.std.proofs.Common.{◌≡◌, ◌∙◌, ◌<◌, ◌&&◌, ◌==◌, ◌+◌, inl, inr, ℕ, Bool, true, false, refl, sym, ap, subst, arith, List, [], ◌∷◌, map, length, Option, Some, None, option_map, is_none, if◌then◌else◌}
use Rattle.std.proofs.lemmas.List.{get_or-map}
use Rattle.am_term.specs.declared.id.SortId.{SortId}
use Rattle.am_term.specs.declared.signature.Signature.{Signature}
use Rattle.am_term.specs.declared.term.Term.{Term}
use Rattle.am_term.specs.declared.term.Term.TheVariants.{Var, App}
use Rattle.am_term.specs.Induct.{term_induct}
use Rattle.am_term.specs.Instance.{instance}
use Rattle.am_term.specs.Place.{member}
use Rattle.am_term.specs.Sorting.{term_fits}
use Rattle.am_term.proofs.Alike.{same_term-sound, same_term-refl}
use Rattle.am_term.proofs.Forest.{fits-same}
use Rattle.am_term.proofs.Tests.{and_left, and_right}
use Rattle.am_clause.specs.declared.clause.Clause.{Clause}
use Rattle.am_clause.specs.declared.row.Made.{Made}
use Rattle.am_clause.specs.declared.row.Side.{Side}
use Rattle.am_clause.specs.Bound.{bound}
use Rattle.am_clause.specs.MostGeneral.{conclusion_of}
use Rattle.am_clause.specs.Numbered.{IsNumbered, AreNumbered}
use Rattle.am_clause.specs.NumberedMade.{made_occurrences, numbered_made}
use Rattle.am_clause.specs.Renaming.{Numbers, places_in}
use Rattle.am_clause.specs.Rules.{para, rewrite, part_at, are_one}
use Rattle.am_clause.specs.SortedClause.{is_sorted_clause, are_bindings}
use Rattle.am_clause.specs.Steps.{IsMadeOfTwo}
use Rattle.am_clause.specs.Variables.{Variable, occurrences, in_clause, variables}
use Rattle.am_clause.proofs.Renames.{within-right}
use Rattle.am_unify.specs.Matching.{IsInstance, IsMatched, matched}
use Rattle.am_unify.specs.Substitution.{Substitution, apply, applies, listed, apply-Var, apply-In, apply-App}
use Rattle.am_unify.specs.Unifier.{IsFitting}
use Rattle.am_unify.proofs.Keeping.{variable-fits}
use Rattle.am_unify.proofs.Matched.{matched-answer}
use Rattle.am_rules.specs.Binding.{Binds, OfTwo, of_two}
use Rattle.am_rules.specs.Conclusions.{rewriting, rewriting_by}
use Rattle.am_rules.specs.Inference.{MakesPart, IsRewrite, AnswersRewrite}
use Rattle.am_rules.specs.Made.{IsNatural}
use Rattle.am_rules.specs.Most.{IsUndone}
use Rattle.am_rules.specs.Paramodulation.{TermsMeet, ParaMeets, side_in, part_in, paramodulant, sorted_only}
use Rattle.am_rules.specs.Resolution.{AnswersMeet}
use Rattle.am_rules.specs.Rewriting.{own_terms, found_match, rewriting_made, rewriting_found}
use Rattle.am_rules.specs.Row.{row, in_lists, variables_of_made}
use Rattle.am_rules.specs.Solving.{images}
use Rattle.am_rules.proofs.Answering.{AreTwo, are-two}
use Rattle.am_rules.proofs.Standing.{never, Each}
use Rattle.am_rules.proofs.Joining.{At, at-low, at-read, counted-at, fit-mapped, instance-apply, sorts, left-sort, left-posed, joint, joint-left, joint-fits}
use Rattle.am_rules.proofs.Numberings.{back_of, places-undone, renumbered-numbered}
use Rattle.am_rules.proofs.OneParent.{none-counted}
use Rattle.am_rules.proofs.Paramodulants.{para-natural}
use Rattle.am_rules.proofs.Paramodulations.{side_good, part_good}
use Rattle.am_rules.proofs.Solutions.{Good, valid}
use Rattle.am_rules.proofs.TiedParts.{side-is, part-is, side-there, paramodulant-is, para-tied}

-- ---- what is made by the rule and as the code goes

rewriting-as : (p : Clause) (side : Side) (q : Clause) (i : ℕ) (path : List ℕ) (sig : Signature) (ins : List SortId) (xs ys : List Term)
    → conclusion_of (rewrite 1 side i path) p q xs ys ≡ row (paramodulant p 1 side q i path xs ys) (xs ∷ ys ∷ [])
rewriting-as p side q i path sig ins xs ys = ap (λ c. row c (xs ∷ ys ∷ [])) (paramodulant-is sig ins p 1 side q i path xs ys)

module _ (sig : Signature) (ins : List SortId) (p : Clause) (side : Side) (q : Clause) (i : ℕ) (path : List ℕ) where
  by-as : (found : List (ℕ × Term)) → rewriting_by p side q i path found ≡ rewriting_made p side q i path found
  by-as found = ap numbered_made (rewriting-as p side q i path sig ins (images found 0 (variables p)) (own_terms (variables q)))

  maps : (o : Option (List (ℕ × Term))) → option_map (rewriting_by p side q i path) o ≡ option_map (rewriting_made p side q i path) o
  maps None = refl
  maps (Some found) = ap Some (by-as found)

  pub rewriting-found : rewriting sig ins p side q i path ≡ rewriting_found sig ins p side q i path
  rewriting-found =
      ap (λ o. option_map (rewriting_by p side q i path) (found_match sig ins o (part_at path (member q.literals i)))) (sym (side-is side (member p.literals 1)))
      ∙ (ap (λ o. option_map (rewriting_by p side q i path) (found_match sig ins (side_in p 1 side) o)) (sym (part-is path (member q.literals i)))
      ∙ maps (found_match sig ins (side_in p 1 side) (part_in q i path)))

-- ---- lists of terms for a clause's variables

none-more : (n : ℕ) → n + 0 ≡ n
none-more n = omega arith

module _ (sig : Signature) (ins : List SortId) (c : Clause) (numbered : IsNumbered c) (sorted : is_sorted_clause sig ins c ≡ true) where
  -- the instance is what a substitution gives
  instance-mapped : (f : Variable → Term) (σ : Substitution) → ((v : Variable) → f v ≡ σ v.0 v.1) → (t : Term) → Each (At (variables c)) (occurrences t) → instance (map f (variables c)) t ≡ apply σ t
  instance-mapped f σ same = instance-apply (map f (variables c)) σ (At (variables c))
      (λ n s e. get_or-map f (variables c) n (n, s) (Var n s) (at-low (variables c) (n, s) e) ∙ (ap f (at-read (variables c) (n, s) (n, s) e) ∙ same (n, s)))

  abbrev own : Substitution
  own n s = Var n s

  itself : (t : Term) → apply own t ≡ t
  itself = term_induct (λ t. apply own t ≡ t) (λ ts. applies own ts ≡ ts)
      (apply-Var own)
      (apply-In own)
      (λ f ts h. apply-App own f ts ∙ ap (App f) h)
      refl
      (λ t ts h k. ap (λ x. x ∷ applies own ts) h ∙ ap (λ xs. t ∷ xs) k)

  pub own-instance : (t : Term) → Each (At (variables c)) (occurrences t) → instance (own_terms (variables c)) t ≡ t
  own-instance t h = instance-mapped (λ v. Var v.0 v.1) own (λ v. refl) t h ∙ itself t

  pub own-binds : are_bindings sig ins (own_terms (variables c)) c ≡ true
  own-binds = fit-mapped sig ins (λ v. Var v.0 v.1) (variables c) (λ v m. variable-fits sig ins v.0 v.1 v.1 (valid sig ins c numbered sorted v m) (fits-same sig v.1))

  pub images-instance : (found : List (ℕ × Term)) (t : Term) → Each (At (variables c)) (occurrences t) → instance (images found 0 (variables c)) t ≡ apply (listed found) t
  images-instance found = instance-mapped (λ v. listed found (v.0 + 0) v.1) (listed found) (λ v. ap (λ n. listed found n v.1) (none-more v.0))

  abbrev pub ss : ℕ → SortId
  ss = sorts sig ins (variables c) [] numbered none-counted

  pub images-bind : (found : List (ℕ × Term)) → IsFitting sig ins ss (listed found) → are_bindings sig ins (images found 0 (variables c)) c ≡ true
  images-bind found fitting = fit-mapped sig ins (λ v. listed found (v.0 + 0) v.1) (variables c) (λ v m.
      let sort : v.1 ≡ ss v.0 = left-sort sig ins (variables c) [] numbered none-counted v (counted-at (variables c) numbered v m) in
      let at : term_fits sig ins (listed found v.0 v.1) v.1 ≡ true = subst (λ (s : SortId). term_fits sig ins (listed found v.0 s) s ≡ true) (sym sort)
      (fitting v.0 (subst (λ (s : SortId). s.0 < length sig.sorts) sort (valid sig ins c numbered sorted v m))) in
      subst (λ n. term_fits sig ins (listed found n v.1) v.1 ≡ true) (sym (none-more v.0)) at)

  -- lists that bind, as a substitution
  pub joint-instance : (xs : List Term) → are_bindings sig ins xs c ≡ true → (pattern term : Term) → Each (At (variables c)) (occurrences pattern) → instance xs pattern ≡ term → (θ : Substitution) × IsInstance sig ins ss θ pattern term
  joint-instance xs fit pattern term inside e = (
    joint sig ins (variables c) [] numbered none-counted xs [] fit refl,
    record {
      fitting = joint-fits sig ins (variables c) [] numbered none-counted xs [] fit refl;
      equal = sym (instance-apply xs (joint sig ins (variables c) [] numbered none-counted xs [] fit refl) (At (variables c)) (λ n s. joint-left sig ins (variables c) [] numbered none-counted xs [] fit refl (n, s)) pattern inside) ∙ e;
    },
  )

-- ---- numbering keeps what a rule takes and makes

pub record IsNumberedSuch (Such : List (List Term) → Type 0) (conclusion : List (List Term) → Clause) (m : Made) : Type 0 where
  pub holds : Such m.with
  pub concluded : m.clause ≡ conclusion m.with
  pub numbered : AreNumbered (made_occurrences m)

pub such-numbered : (Such : List (List Term) → Type 0) (conclusion : List (List Term) → Clause) → IsNatural Such conclusion → (ws : List (List Term)) → Such ws → IsNumberedSuch Such conclusion (numbered_made (row (conclusion ws) ws))
unfolding numbered_made
such-numbered Such conclusion natural ws h =
    let m : Made = row (conclusion ws) ws in
    let to : Numbers = places_in (variables_of_made m) in
    let u : IsUndone to (back_of m) (in_lists ws) = record { undone = λ n s j. (places-undone m).undone n s (within-right (n, s) (in_clause (conclusion ws)) (in_lists ws) j) } in
    record {
      holds = natural.such to (back_of m) ws u h;
      concluded = sym (natural.concluded to (back_of m) ws u h);
      numbered = renumbered-numbered m;
    }

-- ---- the answer

module _ (sig : Signature) (ins : List SortId) (p : Clause) (side : Side) (q : Clause) (i : ℕ) (path : List ℕ)
    (first : IsNumbered p) (second : IsNumbered q) (left_sorted : is_sorted_clause sig ins p ≡ true) (right_sorted : is_sorted_clause sig ins q ≡ true) where
  abbrev Such : List (List Term) → Type 0
  Such = OfTwo (Binds sig ins p q (ParaMeets p 1 side q i path))

  abbrev make : List (List Term) → Clause
  make = of_two (paramodulant p 1 side q i path)

  abbrev ys : List Term
  ys = own_terms (variables q)

  abbrev xs_of : List (ℕ × Term) → List Term
  xs_of found = images found 0 (variables p)

  -- with the side and the part, what makes the one the other
  equal-as : (xs : List Term) (o u : Option Term) → side_in p 1 side ≡ o → part_in q i path ≡ u → (rewrite 1 side i path).equal (bound xs p) q ≡ are_one (option_map (instance xs) o) u
  equal-as xs o u a b =
      ap (λ x. are_one x (part_at path (member q.literals i))) (side-there sig ins p 1 side q i path xs xs ∙ ap (option_map (instance xs)) a)
      ∙ ap (are_one (option_map (instance xs) o)) (sym (part-is path (member q.literals i)) ∙ b)

  module _ (suits : (rewrite 1 side i path).suits p q ≡ true) where
    no-answer : (o : Option (List Term)) → is_none o ≡ true → (f g : Term → Term) → AnswersMeet f g o q.answer
    no-answer None e f g = tt
    no-answer (Some ts) e f g = never e

    para-suits : (para 1 side i path).suits p q ≡ true
    para-suits = and_right (is_none p.answer) ((para 1 side i path).suits p q) (and_right (length p.literals == 1) (is_none p.answer && (para 1 side i path).suits p q) suits)

    unanswered : is_none p.answer ≡ true
    unanswered = and_left (is_none p.answer) ((para 1 side i path).suits p q) (and_right (length p.literals == 1) (is_none p.answer && (para 1 side i path).suits p q) suits)

    as-rewrite : (xs zs : List Term) (d : Clause) → IsMadeOfTwo sig ins (para 1 side i path) p xs q zs d → IsMadeOfTwo sig ins (rewrite 1 side i path) p xs q zs d
    as-rewrite xs zs d h = record { suits = suits; binds = h.binds; binds_other = h.binds_other; equal = h.equal; answers = h.answers; is = h.is }

    module _ (l t : Term) (a : side_in p 1 side ≡ Some l) (b : part_in q i path ≡ Some t) where
      left : Good sig ins p first left_sorted l
      left = side_good sig ins p first left_sorted 1 side l a

      right : Good sig ins q second right_sorted t
      right = part_good sig ins q second right_sorted i path t b

      makes : (xs : List Term) → instance xs l ≡ t → are_bindings sig ins xs p ≡ true → MakesPart sig ins p side q i path xs
      makes xs e fit = record { binds = fit; equal = equal-as xs (Some l) (Some t) a b ∙ subst (λ x. are_one (Some (instance xs l)) (Some x) ≡ true) e (same_term-refl (instance xs l)) }

      made-part : (xs : List Term) → MakesPart sig ins p side q i path xs → instance xs l ≡ t
      made-part xs h = same_term-sound (instance xs l) t (sym (equal-as xs (Some l) (Some t) a b) ∙ h.equal)

      meets : (xs : List Term) → instance xs l ≡ t → ParaMeets p 1 side q i path (instance xs) (instance (own_terms (variables q)))
      meets xs e = record {
        terms = subst (λ o. TermsMeet (instance xs) (instance ys) o (part_in q i path)) (sym a)
            (subst (TermsMeet (instance xs) (instance ys) (Some l)) (sym b) (e ∙ sym (own-instance sig ins q second right_sorted t right.1)));
        answers = no-answer p.answer unanswered (instance xs) (instance ys);
      }

      such : (xs : List Term) → instance xs l ≡ t → are_bindings sig ins xs p ≡ true → Such (xs ∷ own_terms (variables q) ∷ [])
      such xs e fit = record { left = fit; right = own-binds sig ins q second right_sorted; meets = meets xs e }

      is-rewrite : (found : List (ℕ × Term)) → IsMatched sig ins (ss sig ins p first left_sorted) l t (Some found) → IsRewrite sig ins p side q i path (rewriting_made p side q i path found)
      is-rewrite found h = by (rewriting_made p side q i path found) refl (such-numbered Such make (para-natural sig ins p 1 side q i path first second) (xs_of found ∷ ys ∷ []) (such (xs_of found) same fit))
        where
          same : instance (xs_of found) l ≡ t
          same = images-instance sig ins p first left_sorted found l left.1 ∙ h.matches.equal

          fit : are_bindings sig ins (xs_of found) p ≡ true
          fit = images-bind sig ins p first left_sorted found h.matches.fitting

          by : (m : Made) → m ≡ rewriting_made p side q i path found → IsNumberedSuch Such make m → IsRewrite sig ins p side q i path m
          by m e n =
              let r : AreTwo (Binds sig ins p q (ParaMeets p 1 side q i path)) m.with = are-two (Binds sig ins p q (ParaMeets p 1 side q i path)) m.with n.holds in
              record {
                found = xs_of found;
                makes_part = makes (xs_of found) same fit;
                is = e ∙ sym (ap numbered_made (rewriting-as p side q i path sig ins (xs_of found) ys));
                first = r.first;
                second = r.second;
                bound_by = r.is;
                made = as-rewrite r.first r.second m.clause (subst (IsMadeOfTwo sig ins (para 1 side i path) p r.first q r.second) (sym (n.concluded ∙ ap make r.is))
                    ((para-tied sig ins p 1 side q i path).there r.first r.second para-suits r.such));
                numbered = n.numbered;
              }

      no-match : IsMatched sig ins (ss sig ins p first left_sorted) l t None → (xs : List Term) → MakesPart sig ins p side q i path xs → ⊥
      no-match h xs k =
          let r : (θ : Substitution) × IsInstance sig ins (ss sig ins p first left_sorted) θ l t = joint-instance sig ins p first left_sorted xs k.binds l t left.1 (made-part xs k) in
          h r.0 r.1

    abbrev Found : Option Made → Type 0
    Found None = (xs : List Term) → MakesPart sig ins p side q i path xs → ⊥
    Found (Some m) = IsRewrite sig ins p side q i path m

    matched-found : (l t : Term) → side_in p 1 side ≡ Some l → part_in q i path ≡ Some t → (o : Option (List (ℕ × Term))) → IsMatched sig ins (ss sig ins p first left_sorted) l t o → Found (option_map (rewriting_made p side q i path) o)
    matched-found l t a b None h = no-match l t a b h
    matched-found l t a b (Some found) h = is-rewrite l t a b found h

    by-parts : (o u : Option Term) → side_in p 1 side ≡ o → part_in q i path ≡ u → Found (option_map (rewriting_made p side q i path) (found_match sig ins o u))
    by-parts None u a b = λ xs k. never (sym (equal-as xs None u a b) ∙ k.equal)
    by-parts (Some l) None a b = λ xs k. never (sym (equal-as xs (Some l) None a b) ∙ k.equal)
    by-parts (Some l) (Some t) a b = matched-found l t a b (matched sig ins l t [])
        (matched-answer sig ins (ss sig ins p first left_sorted) l t (left-posed sig ins (variables p) [] first none-counted l (side_good sig ins p first left_sorted 1 side l a)))

    found : Found (rewriting sig ins p side q i path)
    found = subst Found (sym (rewriting-found sig ins p side q i path)) (by-parts (side_in p 1 side) (part_in q i path) refl refl)

    only-sorted : (o : Option Made) → Found o → AnswersRewrite sig ins p side q i path (sorted_only sig ins o)
    only-sorted None h = inr (inl h)
    only-sorted (Some m) h = by (is_sorted_clause sig ins m.clause) refl
      where
        by : (b : Bool) → is_sorted_clause sig ins m.clause ≡ b → AnswersRewrite sig ins p side q i path (if b then Some m else None)
        by true e = (h, e)
        by false e = inr (inr (record { inferred = m; inference = h; unsorted = e }))

    pub rewriting-answer : AnswersRewrite sig ins p side q i path (sorted_only sig ins (rewriting sig ins p side q i path))
    rewriting-answer = only-sorted (rewriting sig ins p side q i path) found
