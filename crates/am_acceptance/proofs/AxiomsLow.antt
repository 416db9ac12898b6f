-- In a theory that was read the terms of the clauses of axioms nest no deeper than the lists of a file.
use Rattle.std.proofs.Common.{◌≡◌, ◌∙◌, ◌+◌, ◌≤◌, ℕ, arith, refl, sym, ap, subst}
use Rattle.std.proofs.Common.{List, [], ◌∷◌, map, Option, Some, None}
use Rattle.std.specs.Prelude.{codes, option_and_then}
use Rattle.std.specs.List.{AllByRecursion}
use Rattle.am_term.specs.Induct.{term_induct}
use Rattle.am_term.specs.Place.{member}
use Rattle.am_term.specs.Span.{greatest}
use Rattle.am_term.specs.declared.term.Atom.{Atom}
use Rattle.am_term.specs.declared.term.Atom.TheVariants.{Rel, Eq}
use Rattle.am_term.specs.declared.term.Formula.{Formula}
use Rattle.am_term.specs.declared.term.Literal.{Literal}
use Rattle.am_term.specs.declared.term.Term.{Term}
use Rattle.am_text.specs.Grammar.{height}
use Rattle.am_text.specs.declared.form.Form.{Form}
use Rattle.am_clause.specs.ClauseForm.{Lists, pos, merged_clause, cnf}
use Rattle.am_clause.specs.Merge.{merged}
use Rattle.am_clause.specs.Renaming.{Numbers, renamed, renamed_all, renamed_atom, renamed_literal, renamed_clause}
use Rattle.am_clause.specs.Renaming.{places_in, renumbered, renamed-Var, renamed-In, renamed-App, renumbered-is}
use Rattle.am_clause.specs.Variables.{variables}
use Rattle.am_clause.specs.declared.clause.Clause.{Clause}
use Rattle.am_syntax.specs.declared.written.WrittenFormula.{WrittenFormula}
use Rattle.am_syntax.specs.Forms.{list_form, headed_form, formula_form}
use Rattle.am_syntax.specs.Meaning.{formula_meaning}
use Rattle.am_syntax.specs.Scopes.{Scope}
use Rattle.am_theory.specs.Contents.{Contents, axiom_scope, contents, nothing, variable_of, with_decl}
use Rattle.am_theory.specs.Limits.{depth_limit}
use Rattle.am_theory.specs.Traces.{IsOfForm, Trace}
use Rattle.am_theory.specs.declared.declaration.Declaration.{Declaration}
use Rattle.am_theory.specs.declared.declaration.Declaration.TheVariants as decl
use Rattle.am_theory.specs.declared.declaration.Typed.{Typed}
use Rattle.am_theory.specs.declared.theory.Axiom.{Axiom}
use Rattle.am_theory.specs.declared.theory.Theory.{Theory}
use Rattle.am_theory.proofs.Appends.{all-push, all-map}
use Rattle.am_theory.proofs.RunOf.{Started, run_of}
use Rattle.am_canon.specs.CanonicalText.{decl_form, typed_form}
use Rattle.am_canon.proofs.DeclarationRead.{declaration_no_higher}
use Rattle.am_diagram.specs.Steps.{formulas_of}
use Rattle.am_fitting.proofs.FittingSteps.{all-member}
use Rattle.am_derivation.specs.Sizes.{nesting, nesting-Var, nesting-App, AreLow}
use Rattle.am_acceptance.specs.Laws.{AxiomsNestLow, ClauseIsLow}
use Rattle.am_acceptance.proofs.ClauseAtoms.{AreGood, AllGood, HasGood, merged-good}
use Rattle.am_acceptance.proofs.MeaningsLow.{IsLowAtom, formula-low, height-headed}

-- ---- other numbers for variables

module _ (to : Numbers) where
  -- a term nests as deep as before
  nesting-renamed : (t : Term) → nesting (renamed to t) ≡ nesting t
  nesting-renamed = term_induct (λ t. nesting (renamed to t) ≡ nesting t)
      (λ ts. map nesting (renamed_all to ts) ≡ map nesting ts)
      (λ n s. ap nesting (renamed-Var to n s) ∙ nesting-Var (to n s) s ∙ sym (nesting-Var n s))
      (λ k. ap nesting (renamed-In to k))
      (λ f args h. ap nesting (renamed-App to f args) ∙ nesting-App f (renamed_all to args)
      ∙ ap (λ ns. greatest ns + 1) h ∙ sym (nesting-App f args))
      refl
      (λ t ts h k. ap (λ n. n ∷ map nesting (renamed_all to ts)) h ∙ ap (λ ns. nesting t ∷ ns) k)

  module _ (most : ℕ) where
    renamed-low : (ts : List Term) → AreLow most ts → AreLow most (renamed_all to ts)
    renamed-low [] h = tt
    renamed-low (t ∷ ts) h = (subst (λ n. n ≤ most) (sym (nesting-renamed t)) h.0, renamed-low ts h.1)

    atom-renamed : (a : Atom) → IsLowAtom most a → IsLowAtom most (renamed_atom to a)
    atom-renamed (Rel r args) h = renamed-low args h
    atom-renamed (Eq left right) h = renamed-low (left ∷ right ∷ []) h

    literals-renamed : (ls : List Literal) → AreGood (IsLowAtom most) ls
        → AreGood (IsLowAtom most) (map (renamed_literal to) ls)
    literals-renamed [] h = tt
    literals-renamed (l ∷ ls) h = (atom-renamed l.atom h.0, literals-renamed ls h.1)

    clause-renamed : (ls : List Literal) → AreGood (IsLowAtom most) ls
        → ClauseIsLow most (renamed_clause to (merged_clause ls))
    clause-renamed ls h = record {
      literals = literals-renamed (merged ls) (merged-good (IsLowAtom most) ls h);
      answer = tt;
    }

-- ---- the clauses of a formula

module _ (most : ℕ) where
  -- the clause of such literals, with its variables numbered
  clause-low : (ls : List Literal) → AreGood (IsLowAtom most) ls → ClauseIsLow most (renumbered (merged_clause ls))
  clause-low ls h =
      let c : Clause = merged_clause ls in
      subst (ClauseIsLow most) (sym (renumbered-is c)) (clause-renamed (places_in (variables c)) most ls h)

  clauses-low : (cs : Lists) → AllGood (IsLowAtom most) cs
      → AllByRecursion (ClauseIsLow most) (map (λ ls. renumbered (merged_clause ls)) cs)
  clauses-low [] h = tt
  clauses-low (ls ∷ cs) h = (clause-low ls h.0, clauses-low cs h.1)

  cnf-low : (f : Formula) → HasGood (IsLowAtom most) f → AllByRecursion (ClauseIsLow most) (cnf f)
  unfolding cnf
  cnf-low f h = clauses-low (pos f) h.clauses

-- ---- declarations

-- the terms of the formula's clauses nest no deeper than the lists of a file
abbrev HasLowClauses : Formula → Type 0
HasLowClauses f = AllByRecursion (ClauseIsLow depth_limit) (cnf f)

abbrev AxiomIsLow : Axiom → Type 0
AxiomIsLow a = HasLowClauses a.formula

abbrev AxiomsAreLow : Contents → Type 0
AxiomsAreLow c = AllByRecursion AxiomIsLow c.axioms

-- the formula of an axiom stands inside the axiom's form
formula-inside : (vs : List Typed) (g : WrittenFormula)
    → height (formula_form g) ≤ height (decl_form (decl.Axiom vs g))
unfolding decl_form
formula-inside [] g = let whole = height-headed (codes "axiom") (formula_form g ∷ []) in omega arith
formula-inside (v ∷ vs) g =
    let behind : List Form = list_form (map typed_form (v ∷ vs)) ∷ formula_form g ∷ [] in
    let inner = height-headed (codes "all") behind in
    let whole = height-headed (codes "axiom") (headed_form (codes "all") behind ∷ []) in
    omega arith

-- so what it means has such clauses
meaning-low : (s : Scope) (vs : List Typed) (g : WrittenFormula) → IsOfForm (decl.Axiom vs g)
    → HasLowClauses (formula_meaning s g)
meaning-low s vs g o =
    let inside = formula-inside vs g in
    let again = declaration_no_higher o.form (decl.Axiom vs g) o.read in
    let low = o.low in
    cnf-low depth_limit (formula_meaning s g) (formula-low s depth_limit g (omega arith))

-- one more declaration
kept-low : (c : Contents) (d : Declaration) → IsOfForm d → AxiomsAreLow c → AxiomsAreLow (with_decl c d)
unfolding with_decl
kept-low c (decl.Sort n r copy) o h = h
kept-low c (decl.Subsort n s) o h = h
kept-low c (decl.Function n args r) o h = h
kept-low c (decl.Relation n args) o h = h
kept-low c (decl.Literal n s v) o h = h
kept-low c (decl.Routine n inputs outputs) o h = h
kept-low c (decl.Value f n args r) o h = h
kept-low c (decl.Axiom vs g) o h =
    let meaning : Formula = formula_meaning (axiom_scope c vs) g in
    all-push AxiomIsLow c.axioms (record { vars = map (variable_of c) vs; formula = meaning }) h
    (meaning-low (axiom_scope c vs) vs g o)

run-low : (ds : List Declaration) (c last : Contents) → Trace c ds last → AxiomsAreLow c → AxiomsAreLow last
run-low [] c last t h = subst AxiomsAreLow t h
run-low (d ∷ ds) c last t h = run-low ds (with_decl c d) last t.2 (kept-low c d t.1 h)

-- ---- theories

module _ (t : Theory) (low : AxiomsAreLow (contents t)) where
  source-low : (k n : ℕ) (c : Clause) (o : Option Formula) → member (formulas_of t) k ≡ o
      → option_and_then (λ f. member (cnf f) n) o ≡ Some c → ClauseIsLow depth_limit c
  source-low k n c None is e = absurd cc
  source-low k n c (Some f) is e =
      let all : AllByRecursion HasLowClauses (formulas_of t) =
      all-map HasLowClauses (λ (a : Axiom). a.formula) t.axioms low in
      all-member (ClauseIsLow depth_limit) (cnf f) n c (all-member HasLowClauses (formulas_of t) k f all is) e

pub axioms-low : AxiomsNestLow
axioms-low t d file k n c e =
    let start : Started (contents t) = run_of file.0 (contents t) file.1 in
    let low = run-low start.run.0 (nothing t.version) (contents t) start.run.1 tt in
    source-low t low k n c (member (formulas_of t) k) refl e
