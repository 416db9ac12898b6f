-- After a run over axioms alone there is nothing new beside axioms, and these are written as they were.
use Rattle.std.proofs.Common.{◌≡◌, ◌∙◌, ℕ, suc, ◌+◌, Bool, true, false, Some, List, [], ◌∷◌, ◌++◌, map, refl, sym, ap, subst, arith, append_assoc}
use Rattle.std.specs.Prelude.{slice_get, slice_index_or, if◌then◌else◌, not, ◌&&◌}
use Rattle.std.specs.List.{AllByRecursion, list_any, list_all}
use Rattle.std.specs.Str.{bytes_eq}
use Rattle.std.proofs.lemmas.List.{append-nil}
use Rattle.std.proofs.lemmas.Option.{get_or_from_slice_get, none-some}
use Rattle.am_term.specs.declared.id.SortId.{SortId}
use Rattle.am_term.proofs.Tests.{and_left, and_right}
use Rattle.am_syntax.specs.declared.scope.Standing.TheVariants.{Variable, Input}
use Rattle.am_syntax.specs.declared.written.Words.TheVariants.{Names}
use Rattle.am_syntax.specs.declared.written.WrittenFormula.{WrittenFormula}
use Rattle.am_syntax.specs.Scopes.{standing_of}
use Rattle.am_syntax.specs.Flaws.{has_quantifier}
use Rattle.am_syntax.specs.Forms.{is_spellable_formula}
use Rattle.am_syntax.specs.Meaning.{formula_meaning}
use Rattle.am_syntax.specs.Naming.{named_formula}
use Rattle.am_syntax.specs.Laws.{NamesBack}
use Rattle.am_syntax.proofs.Among.{none_left, none_right}
use Rattle.am_syntax.proofs.WrittenBack.{formula-back}
use Rattle.am_theory.specs.declared.theory.Axiom.{Axiom}
use Rattle.am_theory.specs.declared.declaration.Typed.{Typed}
use Rattle.am_theory.specs.declared.declaration.Declaration.{Declaration}
use Rattle.am_theory.specs.declared.declaration.Declaration.TheVariants as decl
use Rattle.am_theory.specs.Contents.{Contents, sort_number, symbol_names, bound_from, axiom_scope, variable_of, with_decl}
use Rattle.am_theory.specs.Faults.{is_unknown_sort, quantifies}
use Rattle.am_theory.specs.Parts.{sorts_in}
use Rattle.am_canon.specs.CanonicalText.{typed_variable, axiom_naming, written_axiom}
use Rattle.am_theory.specs.Traces.{Trace, IsOfForm, is_typed}
use Rattle.am_syntax.proofs.Positions.{same, position_there}
use Rattle.am_theory.proofs.NoFault.{IsFaultless, faultless}
use Rattle.am_canon.proofs.KnownSorts.{name-back}
use Rattle.am_canon.proofs.AxiomKept.{variables-known, heads-known, names-bound}
use Rattle.am_canon.proofs.DeclarationRead.{read_declaration_is_spellable}
use Rattle.am_canon.proofs.Swapped.{StatesAxiom}

module _ (c : Contents) where
  -- ---- the variables of an axiom by their numbers
  abbrev variable_names_of : List Typed → List (List ℕ)
  variable_names_of vs = map (λ (v : List ℕ × SortId). v.0) (map (variable_of c) vs)

  -- a variable bound to a number from i on has its name at that place, counted from i
  abbrev IsNamed : ℕ → List Typed → List ℕ → ℕ → Type 0
  IsNamed i vs w k = (j : ℕ) × (k ≡ i + j) × (slice_get (variable_names_of vs) j ≡ Some w)

  named_later : (i : ℕ) (v : Typed) (vs : List Typed) (w : List ℕ) (k : ℕ) → IsNamed (i + 1) vs w k → IsNamed i (v ∷ vs) w k
  named_later i v vs w k h = (suc h.0, (let e : k ≡ i + 1 + h.0 = h.1 in omega arith), h.2)

  named_by : (b : Bool) (i : ℕ) (v : Typed) (vs : List Typed) (w : List ℕ) (k : ℕ) (sort : SortId) → bytes_eq w v.name ≡ b → (standing_of w (bound_from c (i + 1) vs) ≡ Some (Variable k sort) → IsNamed (i + 1) vs w k) → (if b then Some (Variable i (sort_number c v.sort)) else standing_of w (bound_from c (i + 1) vs)) ≡ Some (Variable k sort) → IsNamed i (v ∷ vs) w k
  named_by true i v vs w k sort p later e = (0, (let f : i ≡ k = cc in omega arith), ap Some (sym (same w v.name p)))
  named_by false i v vs w k sort p later e = named_later i v vs w k (later e)

  named-at : (i : ℕ) (vs : List Typed) (w : List ℕ) (k : ℕ) (sort : SortId) → standing_of w (bound_from c i vs) ≡ Some (Variable k sort) → IsNamed i vs w k
  named-at i [] w k sort e = absurd (none-some (Variable k sort) e)
  named-at i (v ∷ vs) w k sort e = named_by (bytes_eq w v.name) i v vs w k sort refl (λ f. named-at (i + 1) vs w k sort f) e

  no_input_by : (b : Bool) (i : ℕ) (v : Typed) (vs : List Typed) (w : List ℕ) (k : ℕ) (sort : SortId) → (standing_of w (bound_from c (i + 1) vs) ≡ Some (Input k sort) → ⊥) → (if b then Some (Variable i (sort_number c v.sort)) else standing_of w (bound_from c (i + 1) vs)) ≡ Some (Input k sort) → ⊥
  no_input_by true i v vs w k sort later e = cc
  no_input_by false i v vs w k sort later e = later e

  no-input : (i : ℕ) (vs : List Typed) (w : List ℕ) (k : ℕ) (sort : SortId) → standing_of w (bound_from c i vs) ≡ Some (Input k sort) → ⊥
  no-input i [] w k sort e = none-some (Input k sort) e
  no-input i (v ∷ vs) w k sort e = no_input_by (bytes_eq w v.name) i v vs w k sort (λ f. no-input (i + 1) vs w k sort f) e

  -- ---- one axiom
  module _ (vs : List Typed) (g : WrittenFormula) where
    abbrev pub axiom_of : Axiom
    axiom_of = record { vars = map (variable_of c) vs; formula = formula_meaning (axiom_scope c vs) g }

    named_there : (w : List ℕ) (k : ℕ) → IsNamed 0 vs w k → slice_index_or (variable_names_of vs) k [] ≡ w
    named_there w k h =
        ap (λ i. slice_index_or (variable_names_of vs) i []) (let e : k ≡ 0 + h.0 = h.1 in let f : k ≡ h.0 = omega arith in f)
        ∙ get_or_from_slice_get (variable_names_of vs) h.0 w [] h.2

    names_back : NamesBack (axiom_scope c vs) (axiom_naming c axiom_of)
    names_back = record {
      symbols = λ w k e. get_or_from_slice_get (symbol_names c) k w [] (position_there w (symbol_names c) k e);
      variables = λ w k sort e. named_there w k (named-at 0 vs w k sort e);
      inputs = λ w k sort e. absurd (no-input 0 vs w k sort e);
    }

  variables-back : (vs : List Typed) → list_any (is_unknown_sort c) (sorts_in vs) ≡ false → map (typed_variable c) (map (variable_of c) vs) ≡ vs
  variables-back [] e = refl
  variables-back (v ∷ vs) e =
      ap (λ (s : List ℕ). record { name = v.name; sort = s } ∷ map (typed_variable c) (map (variable_of c) vs)) (name-back c v.sort (none_left (is_unknown_sort c v.sort) (list_any (is_unknown_sort c) (sorts_in vs)) e))
      ∙ ap (λ xs. v ∷ xs) (variables-back vs (none_right (is_unknown_sort c v.sort) (list_any (is_unknown_sort c) (sorts_in vs)) e))

  axiom-back : (vs : List Typed) (g : WrittenFormula) → IsFaultless c (decl.Axiom vs g) → is_spellable_formula Names g ≡ true → written_axiom c (axiom_of vs g) ≡ decl.Axiom vs g
  unfolding quantifies
  axiom-back vs g k spelled =
      ap (λ xs. decl.Axiom xs (named_formula (axiom_naming c (axiom_of vs g)) (formula_meaning (axiom_scope c vs) g))) (variables-back vs (variables-known c vs g k))
      ∙ ap (decl.Axiom vs) (formula-back (axiom_scope c vs) (axiom_naming c (axiom_of vs g)) Names (names_back vs g) g spelled (heads-known c vs g k) (names-bound c vs g k) k.plain)

-- ---- runs
pub record AreAxiomsOf (c : Contents) (ds : List Declaration) (last : Contents) : Type 0 where
  pub more : List Axiom
  pub axioms : last.axioms ≡ c.axioms ++ more
  pub rest : last ≡ record c { axioms = last.axioms }
  pub back : map (written_axiom last) more ≡ ds

none-more : (c : Contents) → AreAxiomsOf c [] c
none-more c = record { more = []; axioms = sym (append-nil c.axioms); rest = refl; back = refl }

one-more : (c last : Contents) (vs : List Typed) (g : WrittenFormula) (ds : List Declaration) → IsFaultless c (decl.Axiom vs g) → is_spellable_formula Names g ≡ true → AreAxiomsOf (with_decl c (decl.Axiom vs g)) ds last → AreAxiomsOf c (decl.Axiom vs g ∷ ds) last
unfolding with_decl
one-more c last vs g ds k spelled s = record {
  more = axiom_of c vs g ∷ s.more;
  axioms = s.axioms ∙ append_assoc c.axioms (axiom_of c vs g ∷ []) s.more;
  rest = s.rest;
  back =
      ap (λ ds'. written_axiom last (axiom_of c vs g) ∷ ds') s.back
      ∙ ap (λ (b : Contents). written_axiom b (axiom_of c vs g) ∷ ds) s.rest
      ∙ ap (λ d. d ∷ ds) (axiom-back c vs g k spelled);
}

-- the formula of an axiom that a form is, and that has no fault, can be a form
formula-spelled : (c : Contents) (vs : List Typed) (g : WrittenFormula) → IsOfForm (decl.Axiom vs g) → IsFaultless c (decl.Axiom vs g) → is_spellable_formula Names g ≡ true
formula-spelled c vs g o k =
    let e = read_declaration_is_spellable c (decl.Axiom vs g) o k.plain in
    and_left (is_spellable_formula Names g) (not (has_quantifier g)) (and_right (list_all is_typed vs) (is_spellable_formula Names g && not (has_quantifier g)) e)

pub axioms-back : (ds : List Declaration) (c last : Contents) → AllByRecursion StatesAxiom ds → Trace c ds last → AreAxiomsOf c ds last
axioms-back [] c last all t = subst (λ (b : Contents). AreAxiomsOf c [] b) t (none-more c)
axioms-back (decl.Axiom vs g ∷ ds) c last all t =
    one-more c last vs g ds (faultless c (decl.Axiom vs g) t.0) (formula-spelled c vs g t.1 (faultless c (decl.Axiom vs g) t.0)) (axioms-back ds (with_decl c (decl.Axiom vs g)) last all.1 t.2)
axioms-back (decl.Sort n r copy ∷ ds) c last all t = absurd all.0
axioms-back (decl.Subsort n s ∷ ds) c last all t = absurd all.0
axioms-back (decl.Function n args r ∷ ds) c last all t = absurd all.0
axioms-back (decl.Relation n args ∷ ds) c last all t = absurd all.0
axioms-back (decl.Literal n s v ∷ ds) c last all t = absurd all.0
axioms-back (decl.Routine n inputs outputs ∷ ds) c last all t = absurd all.0
axioms-back (decl.Value m n args r ∷ ds) c last all t = absurd all.0
