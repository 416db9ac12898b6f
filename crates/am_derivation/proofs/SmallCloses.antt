-- What closing makes of a small row is small: each variable becomes a term of one node.
use Rattle.std.proofs.Common.{◌≡◌, ◌∙◌, ◌==◌, ◌||◌, ◌≤◌, ◌+◌, ℕ, zero, suc, Bool, true, false, arith, refl, sym}
use Rattle.std.proofs.Common.{ap, subst, List, [], ◌∷◌, map, length, sum_by, nat_lt, Option, Some, None}
use Rattle.std.proofs.Common.{option_map, is_some, slice_index_or}
use Rattle.std.specs.List.{AllByRecursion, list_any}
use Rattle.std.specs.Option.{option_or}
use Rattle.std.proofs.lemmas.Bool.Decides.{nat_tests}
use Rattle.std.proofs.lemmas.List.Sums.{sum_by-cons}
use Rattle.am_term.specs.Induct.{term_induct}
use Rattle.am_term.specs.Instance.{instance, instances, instance_literals, instance-Var, instance-In, instance-App}
use Rattle.am_term.specs.Weight.{nodes, nodes-Var, nodes-In, nodes-App}
use Rattle.am_term.specs.declared.id.SortId.{SortId}
use Rattle.am_term.specs.declared.id.SymId.{SymId}
use Rattle.am_term.specs.declared.term.Literal.{Literal}
use Rattle.am_term.specs.declared.signature.Signature.{Signature}
use Rattle.am_term.specs.declared.term.Term.{Term}
use Rattle.am_term.specs.declared.term.Term.TheVariants.{Var, In, App}
use Rattle.am_term.proofs.Instances.{nodes-positive}
use Rattle.am_term.proofs.Tests.{and_left, and_right}
use Rattle.am_clause.specs.Bound.{instance_answer}
use Rattle.am_clause.specs.Merge.{merged}
use Rattle.am_clause.specs.Size.{clause_weight}
use Rattle.am_clause.specs.Variables.{Variable, variables, occurrences-none}
use Rattle.am_clause.specs.declared.clause.Clause.{Clause}
use Rattle.am_clause.specs.declared.row.Made.{Made}
use Rattle.am_rules.specs.Closing.{input_for, constant_for, constant_term, closing_term, IsClosing, AnswersClosing}
use Rattle.am_rules.specs.Conclusions.{closed_off}
use Rattle.am_rules.proofs.Concluded.{closed-answers}
use Rattle.am_simplify.specs.Reasons.{are_heavy, is_heavy_answer, reason_if, too_big}
use Rattle.am_simplify.specs.Steps.{IsProper}
use Rattle.am_simplify.specs.declared.reason.Reason.TheVariants.{Heavy}
use Rattle.am_derivation.proofs.ClosedEnds.{clause_with, empty-list, no-variables}
use Rattle.am_derivation.proofs.Nestings.{light, or-false}

-- ---- terms of one node

abbrev IsOne : Term → Type 0
IsOne t = nodes t ≡ 1

module _ (sig : Signature) (ins : List SortId) where
  chosen-one : (s : SortId) (t : Term) → closing_term sig ins s ≡ Some t → IsOne t
  chosen-one s t e = by (input_for sig ins s) (constant_for sig s) e
    where
      by : (o u : Option ℕ) → option_or (option_map (λ k. In k) o) (option_map constant_term u) ≡ Some t → IsOne t
      by (Some k) u e = let is : In k ≡ t = cc in subst IsOne is (nodes-In k)
      by None (Some n) e =
          let is : constant_term n ≡ t = cc in subst IsOne is (nodes-App (record { 0 = n }) [])
      by None None e = absurd cc

  all-one : (vs : List Variable) (ts : List Term)
      → map (λ (v : Variable). closing_term sig ins v.1) vs ≡ map (λ (t : Term). Some t) ts → AllByRecursion IsOne ts
  all-one vs [] e = tt
  all-one [] (t ∷ ts) e = absurd cc
  all-one (v ∷ vs) (t ∷ ts) e =
      let one : closing_term sig ins v.1 ≡ Some t = cc in
      let more : map (λ (w : Variable). closing_term sig ins w.1) vs ≡ map (λ (x : Term). Some x) ts = cc in
      (chosen-one v.1 t one, all-one vs ts more)

one-of : (xs : List Term) (n : ℕ) (t : Term) → AllByRecursion IsOne xs → IsOne t → IsOne (slice_index_or xs n t)
one-of [] n t h e = e
one-of (x ∷ xs) zero t h e = h.0
one-of (x ∷ xs) (suc n) t h e = one-of xs n t h.1 e

-- ---- an instance under such terms is as large

module _ (xs : List Term) (ones : AllByRecursion IsOne xs) where
  abbrev Keeps : Term → Type 0
  Keeps t = nodes (instance xs t) ≡ nodes t

  abbrev Keep : List Term → Type 0
  Keep ts = sum_by nodes (instances xs ts) ≡ sum_by nodes ts

  keeps-Var : (n : ℕ) (s : SortId) → Keeps (Var n s)
  keeps-Var n s =
      ap nodes (instance-Var xs n s) ∙ (one-of xs n (Var n s) ones (nodes-Var n s) ∙ sym (nodes-Var n s))

  keeps-App : (f : SymId) (args : List Term) → Keep args → Keeps (App f args)
  keeps-App f args h =
      ap nodes (instance-App xs f args)
      ∙ (nodes-App f (instances xs args) ∙ (ap (λ n. n + 1) h ∙ sym (nodes-App f args)))

  keep-more : (t : Term) (ts : List Term) → Keeps t → Keep ts → Keep (t ∷ ts)
  keep-more t ts h k =
      sum_by-cons nodes (instance xs t) (instances xs ts)
      ∙ (ap (λ n. n + sum_by nodes (instances xs ts)) h ∙ (ap (λ n. nodes t + n) k ∙ sym (sum_by-cons nodes t ts)))

  keeps : (t : Term) → Keeps t
  keeps = term_induct Keeps Keep keeps-Var (λ k. ap nodes (instance-In xs k)) keeps-App refl keep-more

  heavy-same : (most : ℕ) (ts : List Term) → are_heavy most (instances xs ts) ≡ are_heavy most ts
  heavy-same most [] = refl
  heavy-same most (t ∷ ts) =
      ap (λ n. nat_lt most n || are_heavy most (instances xs ts)) (keeps t)
      ∙ ap (λ b. nat_lt most (nodes t) || b) (heavy-same most ts)

  heavy-answer-same : (most : ℕ) (o : Option (List Term))
      → is_heavy_answer most (instance_answer xs o) ≡ is_heavy_answer most o
  heavy-answer-same most None = refl
  heavy-answer-same most (Some ts) = heavy-same most ts

-- ---- the terms that are chosen

none-mapped : (f : Variable → Option Term) (vs : List Variable) (ts : List Term) → vs ≡ []
    → map f vs ≡ map (λ (t : Term). Some t) ts → ts ≡ []
none-mapped f vs [] e h = refl
none-mapped f [] (t ∷ ts) e h = absurd cc
none-mapped f (v ∷ vs) (t ∷ ts) e h = absurd cc

-- a clause without literals whose answer is empty has no variables
none-in : (p : Clause) → p.literals ≡ [] → p.answer ≡ Some [] → variables p ≡ []
none-in p bare is =
    let same : p ≡ clause_with [] (Some []) =
    ap (λ (ls : List Literal). clause_with ls p.answer) bare ∙ ap (clause_with []) is in
    ap variables same ∙ no-variables (clause_with [] (Some [])) occurrences-none

no-or : (a b c : Bool) → a ≡ false → b ≡ false → c ≡ false → (a || (b || (c || false))) ≡ false
no-or false false false e f g = refl
no-or true b c e f g = e
no-or false true c e f g = f
no-or false false true e f g = g

module _ (most : ℕ) where
  not-heavy : (ts : List Term) → 1 ≤ most → AllByRecursion IsOne ts → are_heavy most ts ≡ false
  not-heavy [] h ones = refl
  not-heavy (t ∷ ts) h ones =
      let one : nodes t ≡ 1 = ones.0 in
      let light_ : nat_lt most (nodes t) ≡ false = grind (arith, nat_tests) in
      ap (λ b. b || are_heavy most ts) light_ ∙ not-heavy ts h ones.1

  some-light : (n : ℕ) → 1 ≤ n → nat_lt most n ≡ false → 1 ≤ most
  some-light n h e = grind (arith, nat_tests)

  no-weight : nat_lt most 0 ≡ false
  no-weight = grind (arith, nat_tests)

  -- where there is a variable, a term of the answer has a node, so that terms of one node aren't too heavy
  chosen-light : (f : Variable → Option Term) (p : Clause) (xs : List Term) (o : Option (List Term)) → p.literals ≡ []
      → p.answer ≡ o → is_some o ≡ true → is_heavy_answer most o ≡ false
      → map f (variables p) ≡ map (λ (t : Term). Some t) xs → AllByRecursion IsOne xs → are_heavy most xs ≡ false
  chosen-light f p xs None bare is some e h ones = absurd cc
  chosen-light f p xs (Some []) bare is some e h ones =
      ap (are_heavy most) (none-mapped f (variables p) xs (none-in p bare is) h)
  chosen-light f p xs (Some (t ∷ ts)) bare is some e h ones =
      let a = or-false (nat_lt most (nodes t)) (are_heavy most ts) e in
      not-heavy xs (some-light (nodes t) (nodes-positive t) a.0) ones

  small-close : (a : Option (List Term)) (xs : List Term) → is_heavy_answer most a ≡ false → are_heavy most xs ≡ false
      → too_big most (clause_with [] a) (xs ∷ []) ≡ None
  small-close a xs e h =
      ap (λ b. reason_if b Heavy None)
      (no-or (nat_lt most 0) (is_heavy_answer most a) (are_heavy most xs) no-weight e h)

  pub closes-small : (sig : Signature) (ins : List SortId) (p : Clause) (with : List (List Term)) → IsProper sig ins p
      → too_big most p with ≡ None → (m : Made) → closed_off sig ins p ≡ Some m → too_big most m.clause m.with ≡ None
  closes-small sig ins p with h small m e =
      let c : IsClosing sig ins p m = subst (AnswersClosing sig ins p) e (closed-answers sig ins p h.numbered) in
      let xs : List Term = c.first in
      let bare : p.literals ≡ [] =
      empty-list p.literals (and_left (length p.literals == 0) (is_some p.answer) c.made.suits) in
      let some : is_some p.answer ≡ true = and_right (length p.literals == 0) (is_some p.answer) c.made.suits in
      let ones : AllByRecursion IsOne xs = all-one sig ins (variables p) xs c.chosen in
      let answer : Option (List Term) = instance_answer xs p.answer in
      let is : m.clause ≡ clause_with [] answer =
      c.made.is ∙ ap (λ (ls : List Literal). clause_with (merged (instance_literals xs ls)) answer) bare in
      let a = light most p with small in
      let b = or-false (nat_lt most (clause_weight p))
      (is_heavy_answer most p.answer || list_any (are_heavy most) with) a.1 in
      let d = or-false (is_heavy_answer most p.answer) (list_any (are_heavy most) with) b.1 in
      ap (λ (x : Clause). too_big most x m.with) is
      ∙ (ap (too_big most (clause_with [] answer)) c.bound_by
      ∙ small-close answer xs (heavy-answer-same xs ones most p.answer ∙ d.0)
      (chosen-light (λ (v : Variable). closing_term sig ins v.1) p xs p.answer bare refl some d.0 c.chosen ones))
