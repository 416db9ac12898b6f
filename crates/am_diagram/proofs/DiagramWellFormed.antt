-- Each diagram that was read is well formed.
use Rattle.std.proofs.Common.{◌≡◌, ◌==◌, ◌≤◌, ℕ, false, List, ◌++◌, None, Ok, refl, sym, subst, arith}
use Rattle.std.specs.Prelude.{length, map, IsTrue}
use Rattle.std.specs.List.{AllByRecursion}
use Rattle.std.proofs.lemmas.Bool.Decides.{nat_tests}
use Rattle.std.proofs.lemmas.List.{length-map}
use Rattle.am_term.specs.declared.id.SortId.{SortId}
use Rattle.am_term.specs.declared.term.Literal.{Literal}
use Rattle.am_term.specs.Names.{is_name}
use Rattle.am_term.specs.NameLists.{is_among}
use Rattle.am_term.specs.Sorting.{is_sorted_literal}
use Rattle.am_term.specs.Variables.{occurs}
use Rattle.am_term.proofs.Tests.{fails}
use Rattle.am_syntax.specs.declared.written.WrittenTerm.{WrittenTerm}
use Rattle.am_syntax.specs.declared.written.WrittenAtom.{WrittenAtom}
use Rattle.am_syntax.specs.declared.written.WrittenAtom.TheVariants.{Equation, Relation}
use Rattle.am_syntax.specs.declared.written.WrittenLiteral.{WrittenLiteral}
use Rattle.am_syntax.specs.Scopes.{Scope}
use Rattle.am_syntax.specs.Meaning.{term_meaning, atom_meaning, literal_meaning}
use Rattle.am_syntax.proofs.FromScope.{term-bound}
use Rattle.am_syntax.proofs.WellSortedFormula.{atom-sorted}
use Rattle.am_theory.specs.declared.theory.Theory.{Theory}
use Rattle.am_theory.specs.Facts.{IsSort, IsConcrete}
use Rattle.am_theory.proofs.Appends.{all-append, all-each, all-map, all-weaker}
use Rattle.am_diagram.specs.declared.diagram.Diagram.{Diagram}
use Rattle.am_diagram.specs.declared.draft.Draft.{Draft}
use Rattle.am_diagram.specs.declared.fault.DiagramKind.TheVariants.{NoOutput, NoRequire}
use Rattle.am_diagram.specs.Listed.{entry_names, entry_sorts}
use Rattle.am_diagram.specs.Drafts.{started, requirement_scope, given_scope, diagram_of}
use Rattle.am_diagram.specs.Facts.{IsFree, NoVariable, NoVariables, HasSort, HaveSorts, WellFormed}
use Rattle.am_diagram.specs.Faults.{head_kind, end_kind}
use Rattle.am_diagram.specs.Limits.{given_limit, requirement_limit}
use Rattle.am_diagram.specs.Reading.{diagram}
use Rattle.am_diagram.proofs.FaultlessDeclaration.{first_false, then_none, faultless, free-head}
use Rattle.am_diagram.proofs.ReadKeeps.{IsRead, is_read}
use Rattle.am_diagram.proofs.ScopeMatches.{variable-sort, no-variable, required-matches, given-matches}
use Rattle.am_diagram.proofs.SoundDeclared.{sound-with}
use Rattle.am_diagram.proofs.SoundDraft.{symbol_names, DummySound, ObjectSound, GivenSound, RequirementSound, Sound}
use Rattle.am_diagram.proofs.StandingViews.{Entry}

some-there : (n : ℕ) → (n == 0) ≡ false → 1 ≤ n
some-there n e = grind (arith, nat_tests)

module _ (t : Theory) (d : Draft) where
  -- ---- variables
  abbrev sorts : List SortId
  sorts = entry_sorts (d.objects ++ d.outputs)

  term-numbered : (u : WrittenTerm) → HasSort sorts (term_meaning (requirement_scope t d) u)
  term-numbered u n s e = let b = term-bound (requirement_scope t d) n s u e in variable-sort t d b.0 n s b.1

  numbered : (a : WrittenAtom) → HaveSorts sorts (atom_meaning (requirement_scope t d) a)
  numbered (Equation left right) = (term-numbered left, term-numbered right)
  numbered (Relation n args) = all-map (HasSort sorts) (term_meaning (requirement_scope t d)) args (all-each (λ u. HasSort sorts (term_meaning (requirement_scope t d) u)) term-numbered args)

  term-closed : (u : WrittenTerm) → NoVariable (term_meaning (given_scope t d) u)
  term-closed u n s = fails (occurs n s (term_meaning (given_scope t d) u)) (λ e. let b = term-bound (given_scope t d) n s u e in no-variable t d b.0 n s b.1)

  closed : (a : WrittenAtom) → NoVariables (atom_meaning (given_scope t d) a)
  closed (Equation left right) = (term-closed left, term-closed right)
  closed (Relation n args) = all-map NoVariable (term_meaning (given_scope t d)) args (all-each (λ u. NoVariable (term_meaning (given_scope t d) u)) term-closed args)

  -- ---- members of the lists
  each-name : (P : List ℕ → Type 0) (Q : Entry → Type 0) → ((e : Entry) → Q e → P e.0) → (es : List Entry) → AllByRecursion Q es → AllByRecursion P (entry_names es)
  each-name P Q f es h = all-map P (λ (e : Entry). e.0) es (all-weaker Q (λ e. P e.0) f es h)

  each-sort : (P : SortId → Type 0) (Q : Entry → Type 0) → ((e : Entry) → Q e → P e.1) → (es : List Entry) → AllByRecursion Q es → AllByRecursion P (entry_sorts es)
  each-sort P Q f es h = all-map P (λ (e : Entry). e.1) es (all-weaker Q (λ e. P e.1) f es h)

  each-literal : (s : Scope) (P : Literal → Type 0) (Q : WrittenLiteral → Type 0) → ((l : WrittenLiteral) → Q l → P (literal_meaning s l)) → (ls : List WrittenLiteral) → AllByRecursion Q ls → AllByRecursion P (map (literal_meaning s) ls)
  each-literal s P Q f ls h = all-map P (literal_meaning s) ls (all-weaker Q (λ l. P (literal_meaning s l)) f ls h)

  abbrev IsApart : List ℕ → Type 0
  IsApart n = is_among n (symbol_names t) ≡ false

  pub well-formed : Sound t d → end_kind d ≡ None → WellFormed t (diagram_of t d)
  unfolding diagram_of end_kind
  well-formed k complete = record {
    few_dummies = k.few_dummies;
    few_objects = k.few_objects;
    few_givens = subst (λ n. n ≤ given_limit) (sym (length-map d.givens (literal_meaning (given_scope t d)))) k.few_givens;
    few_requirements = subst (λ n. n ≤ requirement_limit) (sym (length-map d.required (literal_meaning (requirement_scope t d)))) k.few_requirements;
    some_output = some-there (length d.outputs) (first_false (length d.outputs == 0) NoOutput _ complete);
    some_requirement = subst (λ n. 1 ≤ n) (sym (length-map d.required (literal_meaning (requirement_scope t d))))
        (some-there (length d.required) (first_false (length d.required == 0) NoRequire _ (then_none (length d.outputs == 0) NoOutput _ complete)));
    named = k.named;
    inputs_named = each-name (IsFree t) (DummySound t) (λ e h. h.free) d.inputs k.inputs;
    outputs_named = each-name (IsFree t) (DummySound t) (λ e h. h.free) d.outputs k.outputs;
    objects_named = each-name (λ n. IsTrue (is_name n)) (ObjectSound t) (λ e h. h.named) d.objects k.objects;
    distinct = k.distinct;
    apart = all-append IsApart (entry_names d.inputs ++ entry_names d.objects) (entry_names d.outputs)
        (all-append IsApart (entry_names d.inputs) (entry_names d.objects)
        (each-name IsApart (DummySound t) (λ e h. h.apart) d.inputs k.inputs)
        (each-name IsApart (ObjectSound t) (λ e h. h.apart) d.objects k.objects))
        (each-name IsApart (DummySound t) (λ e h. h.apart) d.outputs k.outputs);
    inputs_concrete = each-sort (IsConcrete t) (DummySound t) (λ e h. h.concrete) d.inputs k.inputs;
    outputs_concrete = each-sort (IsConcrete t) (DummySound t) (λ e h. h.concrete) d.outputs k.outputs;
    objects_sorted = each-sort (IsSort t) (ObjectSound t) (λ e h. h.sorted) d.objects k.objects;
    givens_sorted = each-literal (given_scope t d) (λ l. IsTrue (is_sorted_literal t.sig (entry_sorts d.inputs) l)) (GivenSound t d)
        (λ l h. atom-sorted (given_scope t d) t.sig (entry_sorts d.inputs) (given-matches t d) l.atom h) d.givens k.givens;
    givens_closed = each-literal (given_scope t d) (λ l. NoVariables l.atom) (GivenSound t d) (λ l h. closed l.atom) d.givens k.givens;
    required_sorted = each-literal (requirement_scope t d) (λ l. IsTrue (is_sorted_literal t.sig (entry_sorts d.inputs) l)) (RequirementSound t d)
        (λ l h. atom-sorted (requirement_scope t d) t.sig (entry_sorts d.inputs) (required-matches t d k) l.atom h) d.required k.required;
    required_numbered = each-literal (requirement_scope t d) (λ l. HaveSorts sorts l.atom) (RequirementSound t d) (λ l h. numbered l.atom) d.required k.required;
  }

sound-started : (t : Theory) (n : List ℕ) → head_kind t n ≡ None → Sound t (started n)
sound-started t n e = record {
  few_dummies = omega arith;
  few_objects = omega arith;
  few_givens = omega arith;
  few_requirements = omega arith;
  named = free-head t n e;
  inputs = tt;
  objects = tt;
  outputs = tt;
  distinct = refl;
  givens = tt;
  required = tt;
}

pub read_well_formed : (t : Theory) (bytes : List ℕ) (d : Diagram) → diagram t bytes ≡ Ok d → WellFormed t d
read_well_formed t bytes d e =
    let r : IsRead t (Sound t) d = is_read t (Sound t) (sound-started t) (λ f k s named none. sound-with t f s k named (faultless t f k none)) bytes d e in
    subst (WellFormed t) r.is (well-formed t r.draft r.holds r.complete)
