-- Each theory that was read is well formed.
use Rattle.std.proofs.Common.{◌≡◌, ◌∙◌, ◌⊎◌, inl, inr, ◌≤◌, ℕ, zero, suc, true, false, Option, Some, None, List, [], ◌∷◌, map, length, refl, sym, ap, subst, slice_get, Ok}
use Rattle.std.specs.List.{AllByRecursion}
use Rattle.std.proofs.lemmas.List.{length-map}
use Rattle.am_term.specs.declared.id.SortId.{SortId}
use Rattle.am_term.specs.declared.id.SymId.{SymId}
use Rattle.am_term.specs.declared.kind.SymKind.{SymKind}
use Rattle.am_term.specs.declared.kind.SymKind.TheVariants as kind
use Rattle.am_term.specs.declared.symbol.Symbol.{Symbol}
use Rattle.am_term.specs.declared.term.Formula.{Formula}
use Rattle.am_term.specs.NameLists.{is_among, are_distinct}
use Rattle.am_term.specs.Sorts.{akin}
use Rattle.am_clause.specs.ClauseForm.{maps}
use Rattle.am_syntax.specs.Scopes.{Profile, profile, result_of}
use Rattle.am_term.specs.SortedFormula.{is_sorted_formula}
use Rattle.am_syntax.specs.Laws.{MatchesSignature}
use Rattle.am_syntax.proofs.WellSortedFormula.{formula-sorted}
use Rattle.am_theory.specs.declared.theory.Routine.{Routine}
use Rattle.am_theory.specs.declared.theory.FortranFunction.{FortranFunction}
use Rattle.am_theory.specs.declared.theory.LiteralDecl.{LiteralDecl}
use Rattle.am_theory.specs.declared.theory.Axiom.{Axiom}
use Rattle.am_theory.specs.declared.theory.Theory.{Theory}
use Rattle.am_theory.specs.Contents.{contents, nothing}
use Rattle.am_theory.specs.Lookups.{rep_of, copy_of}
use Rattle.am_theory.specs.Facts.{HasResult, IsSymbol, Stands, IsRoutine, IsFunction, IsLiteral, IsAxiom, OneLiteral, WellFormed}
use Rattle.am_theory.specs.Limits.{symbol_limit}
use Rattle.am_theory.specs.Reading.{theory}
use Rattle.am_theory.proofs.Kinship.{zip-at, akin-alike}
use Rattle.am_theory.proofs.Appends.{all-weaker, all-unmap}
use Rattle.am_theory.proofs.RunOf.{Started, run_of}
use Rattle.am_theory.proofs.Sound.{HasResultOf, ProfileSound, StandsIn, RoutineSound, FunctionSound, LiteralSound, FormulaSound, AxiomSound, HasVersionOf, Sound, names_of_symbols, sort_at, scope_in}
use Rattle.am_theory.proofs.SoundAxiom.{sound-nothing, sound-run}

-- ---- symbols and their profiles
get-profile : (ys : List Symbol) (k : ℕ) (y : Symbol) → slice_get ys k ≡ Some y → slice_get (map profile ys) k ≡ Some (profile y)
get-profile [] k y e = absurd cc
get-profile (x ∷ ys) zero y e = let same : x ≡ y = cc in ap (λ z. Some (profile z)) same
get-profile (x ∷ ys) (suc k) y e = get-profile ys k y e

-- the symbol of a profile
pub record Behind (ys : List Symbol) (k : ℕ) (p : Profile) : Type 0 where
  pub symbol : Symbol
  pub there : slice_get ys k ≡ Some symbol
  pub is : profile symbol ≡ p

get-symbol : (ys : List Symbol) (k : ℕ) (p : Profile) → slice_get (map profile ys) k ≡ Some p → Behind ys k p
get-symbol [] k p e = absurd cc
get-symbol (y ∷ ys) zero p e = record { symbol = y; there = refl; is = let same : profile y ≡ p = cc in same }
get-symbol (y ∷ ys) (suc k) p e = let b = get-symbol ys k p e in record { symbol = b.symbol; there = b.there; is = b.is }

module _ (t : Theory) (s : Sound (contents t)) where
  abbrev profiles : List Profile
  profiles = map profile t.sig.symbols

  symbol-names : names_of_symbols profiles ≡ map (λ (y : Symbol). y.name) t.sig.symbols
  symbol-names = maps (λ (p : Profile). p.name) profile t.sig.symbols

  has-result : (o : Option SortId) → HasResultOf (length t.sig.sorts) o → HasResult t o
  has-result None h = tt
  has-result (Some r) h = h

  symbols-are : AllByRecursion (IsSymbol t) t.sig.symbols
  symbols-are = all-weaker (λ y. ProfileSound (length t.sig.sorts) (profile y)) (IsSymbol t)
      (λ y h. record { named = h.named; args = h.args; result = has-result y.result h.result; few = h.few })
      t.sig.symbols (all-unmap (ProfileSound (length t.sig.sorts)) profile t.sig.symbols s.of_symbols.each)

  abbrev stands-there : (f : SymId) (k : SymKind) (args : List SortId) → StandsIn t.reps profiles f k args → Stands t f k args
  stands-there f k args h =
      let b = get-symbol t.sig.symbols f.0 h.symbol h.there in
      record {
        symbol = b.symbol;
        there = b.there;
        of_kind = ap (λ (p : Profile). p.kind) b.is ∙ h.of_kind;
        with_args = ap (λ (p : Profile). p.args) b.is ∙ h.with_args;
        sort = h.sort;
        result = ap (λ (p : Profile). p.result) b.is ∙ h.result;
        concrete = h.concrete;
      }

  routine-is : (r : Routine) → RoutineSound t.reps profiles r → IsRoutine t r
  routine-is r h = record {
    named = h.named;
    inputs = h.inputs;
    outputs = all-weaker (λ f. StandsIn t.reps profiles f kind.Output r.inputs) (λ f. Stands t f kind.Output r.inputs) (λ f. stands-there f kind.Output r.inputs) r.outputs h.outputs;
    some_output = h.some_output;
    few_inputs = h.few_inputs;
    few_outputs = h.few_outputs;
    few = h.few;
  }

  function-is : (f : FortranFunction) → FunctionSound t.reps profiles f → IsFunction t f
  function-is f h = record { named = h.named; args = h.args; stands = stands-there f.symbol kind.Value h.args h.stands; concrete = h.concrete; returnable = h.returnable }

  literal-is : (l : LiteralDecl) → LiteralSound t.reps profiles l → IsLiteral t l
  literal-is l h = record { stands = stands-there l.symbol kind.Literal [] h.stands; suited = h.suited; valued = h.valued }

  -- ---- akin sorts have one representation and one copy routine, and two literals of one value and akin sorts are one
  alike : (a b : SortId) → akin t.sig a b ≡ true → (rep_of t a ≡ rep_of t b) × (copy_of t a ≡ copy_of t b)
  unfolding akin
  alike = akin-alike t.sig.parents t.reps t.copies s.of_sorts.under

  sort-stands : (l : LiteralDecl) (h : Stands t l.symbol kind.Literal []) → sort_at profiles l.symbol ≡ Some h.sort
  sort-stands l h = ap result_of (get-profile t.sig.symbols l.symbol.0 h.symbol h.there) ∙ h.result

  one-literal : OneLiteral t
  unfolding akin
  one-literal i j l m e f first second v a = s.one_each i j l m first.sort second.sort e f (sort-stands l first) (sort-stands m second) a v

  -- ---- axioms
  matches : (g : Formula) (f : FormulaSound (length t.sig.sorts) t.sig.parents profiles g) → MatchesSignature (scope_in t.sig.parents profiles f.bound) t.sig []
  matches g f = record { names = symbol-names; symbols = refl; parents = refl; variables = f.variables; inputs = λ w k r e. absurd (f.inputs w k r e) }

  axiom-is : (a : Axiom) → AxiomSound (length t.sig.sorts) t.sig.parents profiles a → IsAxiom t a
  axiom-is a h = record {
    sorts = h.sorts;
    named = h.named;
    distinct = h.distinct;
    apart = subst (λ ns. AllByRecursion (λ (v : List ℕ × SortId). is_among v.0 ns ≡ false) a.vars) symbol-names h.apart;
    few_variables = h.few_variables;
    sorted = ap (is_sorted_formula t.sig []) h.formula.meant ∙ formula-sorted (scope_in t.sig.parents profiles h.formula.bound) t.sig [] (matches a.formula h.formula) h.formula.written h.formula.flawless h.formula.plain;
    few_clauses = h.few_clauses;
    small = h.small;
  }

  pub well-formed : WellFormed t
  well-formed = record {
    version = s.of_sorts.versioned;
    reps = s.of_sorts.reps_counted;
    copies = s.of_sorts.copies_counted;
    sorts_named = s.of_sorts.named;
    sorts_distinct = s.of_sorts.distinct;
    few_sorts = s.of_sorts.few;
    represented = λ r. zip-at t.reps t.copies r.0 s.of_sorts.represented;
    copies_named = s.of_sorts.copies_named;
    alike = alike;
    symbols = symbols-are;
    symbols_distinct = ap are_distinct (sym symbol-names) ∙ s.of_symbols.distinct;
    few_symbols = subst (λ k. k ≤ symbol_limit) (length-map t.sig.symbols profile) s.of_symbols.few;
    routines = all-weaker (RoutineSound t.reps profiles) (IsRoutine t) routine-is t.routines s.of_routines;
    functions = all-weaker (FunctionSound t.reps profiles) (IsFunction t) function-is t.functions s.of_functions;
    literals = all-weaker (LiteralSound t.reps profiles) (IsLiteral t) literal-is t.literals s.of_literals;
    one_literal = one-literal;
    outputs = λ k y e q. s.outputs k (profile y) (get-profile t.sig.symbols k y e) q;
    values = λ k y e q. s.values k (profile y) (get-profile t.sig.symbols k y e) q;
    constants = λ k y e q. s.constants k (profile y) (get-profile t.sig.symbols k y e) q;
    numbers_distinct = s.numbered;
    called_distinct = s.of_called.distinct;
    called_apart = s.of_called.apart;
    axioms = all-weaker (AxiomSound (length t.sig.sorts) t.sig.parents profiles) (IsAxiom t) axiom-is t.axioms s.of_axioms;
    few_axioms = s.few_axioms;
  }

first-version : (v : ℕ) → (v ≡ 1) ⊎ (v ≡ 2) → HasVersionOf v []
first-version v (inl e) = inl (e, tt)
first-version v (inr e) = inr e

pub read_well_formed : (bytes : List ℕ) (t : Theory) → theory bytes ≡ Ok (contents t) → WellFormed t
read_well_formed bytes t e =
    let start : Started (contents t) = run_of bytes (contents t) e in
    let run = start.run in
    well-formed t (sound-run run.0 (nothing t.version) (contents t) (sound-nothing t.version (first-version t.version start.versioned)) run.1)
