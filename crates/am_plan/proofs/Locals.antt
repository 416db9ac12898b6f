-- The locals among the names of terms, and what the copies put.
use Rattle.std.proofs.Common.{◌≡◌, ◌∙◌, inl, inr, ◌++◌, ℕ, Bool, true, false, refl, sym, ap, subst, List, [], ◌∷◌, Option, Some, None, map, if◌then◌else◌}
use Rattle.am_term.specs.declared.id.SortId.{SortId}
use Rattle.am_term.specs.declared.term.Term.{Term}
use Rattle.am_diagram.specs.Listed.{entry_names}
use Rattle.am_exec.specs.States.{Store}
use Rattle.am_plan.specs.Names.{output_for, Named, local_by, locals}
use Rattle.am_plan.specs.Plan.{is_set}
use Rattle.am_plan.proofs.Membership.{Among, Different, among-map, map-among, among-left, among-right}
use Rattle.am_plan.proofs.Holding.{names_in}
use Rattle.am_plan.proofs.TermNames.{Answered}

module _ (os : List (List ℕ × SortId)) (answer : List Term) where
  pub locals-so : (e : Named) (es : List Named) → Among e (locals os answer es) → Among e es × (output_for e.1 os answer ≡ None)
  locals-so e [] a = absurd a
  locals-so e (q ∷ es) a = by_output (locals-so e es) (output_for q.1 os answer) refl a
    where
      by_output : (Among e (locals os answer es) → Among e es × (output_for e.1 os answer ≡ None)) → (o : Option (List ℕ)) → output_for q.1 os answer ≡ o → Among e (local_by o q ++ locals os answer es) → Among e (q ∷ es) × (output_for e.1 os answer ≡ None)
      by_output later (Some n) is a = let r = later a in (inr r.0, r.1)
      by_output later None is (inl s) = (inl s, ap (λ (x : Named). output_for x.1 os answer) s ∙ is)
      by_output later None is (inr a) = let r = later a in (inr r.0, r.1)

  pub locals-among : (e : Named) (es : List Named) → Among e es → output_for e.1 os answer ≡ None → Among e (locals os answer es)
  locals-among e [] a is = absurd a
  locals-among e (q ∷ es) (inl s) is = subst (λ (o : Option (List ℕ)). Among e (local_by o q ++ locals os answer es)) (sym (ap (λ (x : Named). output_for x.1 os answer) (sym s) ∙ is)) (inl s)
  locals-among e (q ∷ es) (inr a) is = among-right e (local_by (output_for q.1 os answer) q) (locals os answer es) (locals-among e es a is)

  pub locals-differ : (es : List Named) → Different (map (λ (e : Named). e.0) es) → Different (map (λ (e : Named). e.0) (locals os answer es))
  locals-differ [] h = tt
  locals-differ (q ∷ es) h = by_output (output_for q.1 os answer) (locals-differ es h.1)
    where
      by_output : (o : Option (List ℕ)) → Different (map (λ (e : Named). e.0) (locals os answer es)) → Different (map (λ (e : Named). e.0) (local_by o q ++ locals os answer es))
      by_output (Some n) r = r
      by_output None r = ((λ a. let e = map-among (λ (e : Named). e.0) q.0 (locals os answer es) a in h.0 (subst (λ (n : List ℕ). Among n (map (λ (e : Named). e.0) es)) (sym e.2) (among-map (λ (e : Named). e.0) e.0 es (locals-so e.0 es e.1).0))), r)

-- ---- the pairs of the copies
module _ (names : List Named) where
  abbrev pub copied : List (List ℕ × SortId) → List Term → Store
  copied [] xs = []
  copied (o ∷ os) [] = []
  copied (o ∷ os) (x ∷ xs) = (if is_set names o.0 then [] else (o.0, x) ∷ []) ++ copied os xs

  pub copied-so : (e : List ℕ × Term) (os : List (List ℕ × SortId)) (xs : List Term) → Among e (copied os xs) → Among e.0 (entry_names os) × (is_set names e.0 ≡ false)
  copied-so e [] xs a = absurd a
  copied-so e (o ∷ os) [] a = absurd a
  copied-so e (o ∷ os) (x ∷ xs) a = by_set (copied-so e os xs) (is_set names o.0) refl a
    where
      by_set : (Among e (copied os xs) → Among e.0 (entry_names os) × (is_set names e.0 ≡ false)) → (b : Bool) → is_set names o.0 ≡ b → Among e ((if b then [] else (o.0, x) ∷ []) ++ copied os xs) → Among e.0 (o.0 ∷ entry_names os) × (is_set names e.0 ≡ false)
      by_set later true is a = let r = later a in (inr r.0, r.1)
      by_set later false is (inl s) = let same : e.0 ≡ o.0 = ap (λ (q : List ℕ × Term). q.0) s in (inl same, ap (is_set names) same ∙ is)
      by_set later false is (inr a) = let r = later a in (inr r.0, r.1)

  pub copied-there : (o : List ℕ × SortId) (x : Term) (os : List (List ℕ × SortId)) (xs : List Term) → Answered o x os xs → is_set names o.0 ≡ false → Among (o.0, x) (copied os xs)
  copied-there o x [] xs a is = absurd a
  copied-there o x (p ∷ os) [] a is = absurd a
  copied-there o x (p ∷ os) (y ∷ xs) (inl s) is =
      among-left (o.0, x) (if is_set names p.0 then [] else (p.0, y) ∷ []) (copied os xs)
      (subst (λ (b : Bool). Among {A = List ℕ × Term} (o.0, x) (if b then [] else (p.0, y) ∷ [])) (sym (ap (λ (q : List ℕ × SortId). is_set names q.0) (sym s.0) ∙ is))
      (inl (ap (λ (q : List ℕ × SortId). let r : List ℕ × Term = (q.0, x) in r) s.0 ∙ ap (λ (z : Term). let r : List ℕ × Term = (p.0, z) in r) s.1)))
  copied-there o x (p ∷ os) (y ∷ xs) (inr a) is = among-right (o.0, x) (if is_set names p.0 then [] else (p.0, y) ∷ []) (copied os xs) (copied-there o x os xs a is)

  pub copied-differ : (os : List (List ℕ × SortId)) (xs : List Term) → Different (entry_names os) → Different (names_in (copied os xs))
  copied-differ [] xs h = tt
  copied-differ (o ∷ os) [] h = tt
  copied-differ (o ∷ os) (x ∷ xs) h = by_set (is_set names o.0) (copied-differ os xs h.1)
    where
      by_set : (b : Bool) → Different (names_in (copied os xs)) → Different (names_in ((if b then [] else (o.0, x) ∷ []) ++ copied os xs))
      by_set true r = r
      by_set false r = ((λ a. let e = map-among (λ (e : List ℕ × Term). e.0) o.0 (copied os xs) a in h.0 (subst (λ (n : List ℕ). Among n (entry_names os)) (sym e.2) (copied-so e.0 os xs e.1).0)), r)
