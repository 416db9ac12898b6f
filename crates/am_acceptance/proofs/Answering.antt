-- The answer by which a log ends is one that there is a subroutine for.
use Rattle.std.proofs.Common.{◌≡◌, ◌∙◌, ◌++◌, ◌≤◌, ◌||◌, ◌⊎◌, inl, inr, ℕ, Bool, true, false, not}
use Rattle.std.proofs.Common.{arith, refl, sym, ap, subst}
use Rattle.std.proofs.Common.{List, [], ◌∷◌, map, length, nat_lt, slice_get, Option, Some, None}
use Rattle.std.specs.Prelude.{option_and_then, option_map}
use Rattle.std.specs.List.{list_all, list_any, AllByRecursion}
use Rattle.std.proofs.lemmas.Bool.Decides.{nat_tests}
use Rattle.am_term.specs.declared.id.SortId.{SortId}
use Rattle.am_term.specs.declared.id.SymId.{SymId}
use Rattle.am_term.specs.declared.signature.Signature.{Signature}
use Rattle.am_term.specs.declared.term.Formula.{Formula}
use Rattle.am_term.specs.declared.term.Term.{Term}
use Rattle.am_term.specs.declared.term.Term.TheVariants.{Var, In, App}
use Rattle.am_term.specs.Induct.{terms_induct}
use Rattle.am_term.specs.Place.{member}
use Rattle.am_term.specs.Sorting.{sorts_of, fit_places, term_fits}
use Rattle.am_term.specs.Weight.{nodes}
use Rattle.am_term.proofs.Tests.{and_both, and_left, and_right}
use Rattle.am_clause.specs.declared.clause.Clause.{Clause}
use Rattle.am_clause.specs.declared.row.Row.{Row}
use Rattle.am_clause.specs.declared.row.Rule.{Rule}
use Rattle.am_clause.specs.ClauseForm.{Lists, pos, merged_clause, cnf}
use Rattle.am_clause.specs.Distinct.{distinct}
use Rattle.am_clause.specs.Final.{is_computable_symbol}
use Rattle.am_clause.specs.Renaming.{renumbered, renumbered-is}
use Rattle.am_clause.specs.Steps.{Follows, clause_at}
use Rattle.am_clause.specs.Variables.{Variable, same_variable, occurrences, occurrences_all, variables}
use Rattle.am_clause.specs.Variables.{occurrences-Var, occurrences-App, occurrences-more}
use Rattle.am_theory.specs.declared.theory.Theory.{Theory}
use Rattle.am_theory.specs.Facts.{WellFormed}
use Rattle.am_diagram.specs.declared.diagram.Diagram.{Diagram}
use Rattle.am_diagram.specs.Facts.{WellFormed as WellDrawn}
use Rattle.am_diagram.specs.Listed.{entry_sorts}
use Rattle.am_diagram.specs.Steps.{formulas_of, sources, IsProof}
use Rattle.am_fitting.proofs.FittingSteps.{all-member}
use Rattle.am_fitting.proofs.FittingStarts.{answers-fit}
use Rattle.am_plan.specs.Answers.{is_ready, AllServe, IsAnswerFor}
use Rattle.am_plan.proofs.Serving.{is_ready-In, is_ready-App}
use Rattle.am_simplify.specs.Reasons.{are_heavy, is_heavy_answer, has_abstract, has_abstract-App}
use Rattle.am_derivation.specs.Laws.{answering, EndsWithAnswer}
use Rattle.am_derivation.specs.Sizes.{IsOfAxiom, IsSmall, BesideAxioms}
use Rattle.am_derivation.proofs.Nestings.{or-false, light}
use Rattle.am_acceptance.proofs.SortedSteps.{IsAfter, row-step}

-- ---- terms without variables, of which a program can compute each symbol

joined-none : {A : Type 0} (xs ys : List A) → xs ++ ys ≡ [] → (xs ≡ []) × (ys ≡ [])
joined-none [] ys e = (refl, e)
joined-none (x ∷ xs) ys e = absurd cc

some-none : (v : Variable) (vs : List Variable) → v ∷ vs ≡ [] → ⊥
some-none v vs e = cc

known : (b : Bool) → not b ≡ false → b ≡ true
known true e = refl
known false e = absurd cc

module _ (sig : Signature) where
  abbrev Ready : Term → Type 0
  Ready t = has_abstract sig t ≡ false → occurrences t ≡ [] → is_ready sig t ≡ true

  abbrev AllReady : List Term → Type 0
  AllReady ts =
      list_any (has_abstract sig) ts ≡ false → occurrences_all ts ≡ [] → list_all (is_ready sig) ts ≡ true

  ready-Var : (n : ℕ) (s : SortId) → Ready (Var n s)
  ready-Var n s e o = absurd (some-none (n, s) [] (sym (occurrences-Var n s) ∙ o))

  ready-In : (k : ℕ) → Ready (In k)
  ready-In k e o = is_ready-In sig k

  ready-App : (f : SymId) (args : List Term) → AllReady args → Ready (App f args)
  ready-App f args h e o =
      let b : Bool = is_computable_symbol (slice_get sig.symbols f.0) in
      let parts = or-false (not b) (list_any (has_abstract sig) args) (sym (has_abstract-App sig f args) ∙ e) in
      is_ready-App sig f args
      ∙ and_both b (list_all (is_ready sig) args) (known b parts.0) (h parts.1 (sym (occurrences-App f args) ∙ o))

  ready-more : (t : Term) (ts : List Term) → Ready t → AllReady ts → AllReady (t ∷ ts)
  ready-more t ts h k e o =
      let parts = or-false (has_abstract sig t) (list_any (has_abstract sig) ts) e in
      let none = joined-none (occurrences t) (occurrences_all ts) (sym (occurrences-more t ts) ∙ o) in
      and_both (is_ready sig t) (list_all (is_ready sig) ts) (h parts.0 none.0) (k parts.1 none.1)

  all-ready : (ts : List Term) → AllReady ts
  all-ready = terms_induct Ready AllReady ready-Var ready-In ready-App (λ e o. refl) ready-more

no-occurrences : (vs : List Variable) → distinct same_variable vs ≡ [] → vs ≡ []
no-occurrences [] e = refl
no-occurrences (v ∷ vs) e = absurd cc

closed-terms : (ts : List Term) → variables (answering ts) ≡ [] → occurrences_all ts ≡ []
unfolding variables
closed-terms ts e = no-occurrences (occurrences_all ts) e

-- ---- what serves the outputs

module _ (t : Theory) (d : Diagram) (most : ℕ) (few : most ≤ 400) where
  below : (n : ℕ) → nat_lt most n ≡ false → n ≤ 400
  below n e = let within : n ≤ most = grind (arith, nat_tests) in omega arith

  all-serve : (os : List (List ℕ × SortId)) (ts : List Term)
      → fit_places t.sig (sorts_of t.sig (entry_sorts d.inputs) ts) (entry_sorts os) ≡ true
      → list_all (is_ready t.sig) ts ≡ true → are_heavy most ts ≡ false → AllServe t d os ts
  all-serve [] [] fit ready light = tt
  all-serve [] (x ∷ ts) fit ready light = absurd cc
  all-serve (o ∷ os) [] fit ready light = absurd cc
  all-serve (o ∷ os) (x ∷ ts) fit ready light =
      let fits : Bool = term_fits t.sig (entry_sorts d.inputs) x o.1 in
      let more : Bool = fit_places t.sig (sorts_of t.sig (entry_sorts d.inputs) ts) (entry_sorts os) in
      let weight = or-false (nat_lt most (nodes x)) (are_heavy most ts) light in (
        record {
          sorted = and_left fits more fit;
          ready = and_left (is_ready t.sig x) (list_all (is_ready t.sig) ts) ready;
          small = below (nodes x) weight.0;
        },
        all-serve os ts (and_right fits more fit)
            (and_right (is_ready t.sig x) (list_all (is_ready t.sig) ts) ready) weight.1,
      )

-- ---- the clauses of axioms have no answer

abbrev HasNone : Clause → Type 0
HasNone c = c.answer ≡ None

clauses-none : (ls : Lists) → AllByRecursion HasNone (map (λ l. renumbered (merged_clause l)) ls)
clauses-none [] = tt
clauses-none (l ∷ ls) =
    let c : Clause = merged_clause l in
    (subst HasNone (sym (renumbered-is c)) refl, clauses-none ls)

cnf-none : (f : Formula) → AllByRecursion HasNone (cnf f)
unfolding cnf
cnf-none f = clauses-none (pos f)

axiom-none : (o : Option Formula) (n : ℕ) (c : Clause) → option_and_then (λ f. member (cnf f) n) o ≡ Some c
    → HasNone c
axiom-none None n c e = absurd cc
axiom-none (Some f) n c e = all-member HasNone (cnf f) n c (cnf-none f) e

-- ---- the last row

module _ (t : Theory) (d : Diagram) where
  abbrev IsRowOf : List Row → Row → Type 0
  IsRowOf rows row = IsAfter t.sig (entry_sorts d.inputs) (sources t d) rows row

  axiom-row : (rows : List Row) (row : Row) → IsRowOf rows row → IsOfAxiom row → HasNone row.clause
  axiom-row rows row s (k, c, e) =
      let follows = subst (λ (r : Rule). Follows t.sig (entry_sorts d.inputs) (sources t d) s.earlier r row.with row.clause) e
      s.step.follows in
      axiom-none (member (formulas_of t) k) c row.clause follows.is

  light-answer : (most : ℕ) (row : Row) (ts : List Term) → row.clause ≡ answering ts → IsSmall most row
      → are_heavy most ts ≡ false
  light-answer most row ts is small =
      let sized = (light most row.clause row.with small).1 in
      let behind =
      (or-false _ (is_heavy_answer most row.clause.answer || list_any (are_heavy most) row.with) sized).1 in
      ap (λ (c : Clause). is_heavy_answer most c.answer) (sym is)
      ∙ (or-false (is_heavy_answer most row.clause.answer) (list_any (are_heavy most) row.with) behind).0

  row-light : (most : ℕ) (rows : List Row) (row : Row) (ts : List Term) → IsRowOf rows row
      → row.clause ≡ answering ts → IsOfAxiom row ⊎ IsSmall most row → are_heavy most ts ≡ false
  row-light most rows row ts s is (inl a) =
      let no : Some ts ≡ None = ap (λ (c : Clause). c.answer) (sym is) ∙ axiom-row rows row s a in absurd cc
  row-light most rows row ts s is (inr small) = light-answer most row ts is small

  last-light : (most : ℕ) (rows : List Row) → IsProof t d rows → BesideAxioms (IsSmall most) rows → (n : ℕ)
      (ts : List Term) → clause_at rows n ≡ Some (answering ts) → are_heavy most ts ≡ false
  last-light most rows steps small n ts e = by (member rows n) refl e
    where
      by : (o : Option Row) → member rows n ≡ o → option_map (λ (r : Row). r.clause) o ≡ Some (answering ts)
          → are_heavy most ts ≡ false
      by None at_ f = absurd cc
      by (Some row) at_ f =
          let is : row.clause ≡ answering ts = cc in
          row-light most rows row ts (row-step t.sig (entry_sorts d.inputs) (sources t d) rows steps n row at_) is
          (all-member (λ (r : Row). IsOfAxiom r ⊎ IsSmall most r) rows n row small at_)

  pub answer-serves : WellFormed t → WellDrawn t d → (most : ℕ) → most ≤ 400 → (rows : List Row) → IsProof t d rows
      → BesideAxioms (IsSmall most) rows → (ends : EndsWithAnswer t.sig rows) → IsAnswerFor t d ends.terms
  answer-serves wt wd most few rows steps small ends =
      all-serve t d most few d.outputs ends.terms
      (answers-fit t d wt wd rows steps (length rows) (answering ends.terms) ends.terms ends.ends refl)
      (all-ready t.sig ends.terms ends.computed (closed-terms ends.terms ends.closed))
      (last-light most rows steps small (length rows) ends.terms ends.ends)
