-- Where symbols are added, what was declared stays sound.
use Rattle.std.proofs.Common.{◌≡◌, ◌∙◌, ◌+◌, ◌≤◌, ℕ, true, false, Some, List, [], ◌∷◌, ◌++◌, length, sym, ap, subst, arith, slice_get}
use Rattle.std.specs.List.{AllByRecursion}
use Rattle.std.proofs.lemmas.List.{length-append, map-append, append-nil}
use Rattle.am_term.specs.declared.id.SortId.{SortId}
use Rattle.am_term.specs.declared.kind.SymKind.{SymKind}
use Rattle.am_term.specs.NameLists.{is_among, are_distinct}
use Rattle.am_syntax.specs.Positions.{position_of}
use Rattle.am_syntax.specs.Scopes.{Profile}
use Rattle.am_syntax.proofs.Positions.{position_kept}
use Rattle.am_theory.specs.declared.theory.Axiom.{Axiom}
use Rattle.am_theory.specs.Contents.{Contents}
use Rattle.am_theory.specs.Faults.{axiom_names, variable_names, is_symbol_name}
use Rattle.am_theory.specs.Limits.{symbol_limit}
use Rattle.am_theory.proofs.Appends.{before, behind, all-append, all-unmap, all-weaker, all-both, all-unflat, get-left, get-side, get-only, apart-turned, among-append, distinct-append}
use Rattle.am_theory.proofs.Growing.{Keeps, routine-kept, function-kept, literal-kept, one-each-kept, axiom-kept}
use Rattle.am_theory.proofs.Sound.{ProfileSound, SymbolsSound, RoutineSound, FunctionSound, LiteralSound, AxiomSound, OneEach, Sound, names_of_symbols}

-- symbols that may be added
pub record MayBeAdded (c : Contents) (ys : List Profile) : Type 0 where
  pub sound : AllByRecursion (ProfileSound (length c.sorts)) ys
  pub distinct : are_distinct (names_of_symbols ys) ≡ true
  pub new : AllByRecursion (λ n. is_symbol_name c n ≡ false) (names_of_symbols ys)
  pub unused : AllByRecursion (λ n. is_among n (variable_names c) ≡ false) (names_of_symbols ys)
  pub few : length c.symbols + length ys ≤ symbol_limit

module _ (c : Contents) (s : Sound c) (ys : List Profile) (a : MayBeAdded c ys) where
  abbrev pub larger : List Profile
  larger = c.symbols ++ ys

  pub kept : Keeps c.symbols larger
  kept = get-left c.symbols ys

  same : Keeps c.reps c.reps
  same k x e = e

  names-larger : names_of_symbols larger ≡ names_of_symbols c.symbols ++ names_of_symbols ys
  names-larger = map-append (λ (y : Profile). y.name) c.symbols ys

  pub symbols-larger : SymbolsSound (length c.sorts) larger
  symbols-larger = record {
    each = all-append (ProfileSound (length c.sorts)) c.symbols ys s.of_symbols.each a.sound;
    distinct = ap are_distinct names-larger ∙ distinct-append (names_of_symbols c.symbols) (names_of_symbols ys) s.of_symbols.distinct a.distinct a.new;
    few = subst (λ k. k ≤ symbol_limit) (sym (length-append c.symbols ys)) a.few;
  }

  pub routines-larger : AllByRecursion (RoutineSound c.reps larger) c.routines
  routines-larger = all-weaker (RoutineSound c.reps c.symbols) (RoutineSound c.reps larger) (routine-kept c.reps c.reps same c.symbols larger kept) c.routines s.of_routines

  pub functions-larger : AllByRecursion (FunctionSound c.reps larger) c.functions
  functions-larger = all-weaker (FunctionSound c.reps c.symbols) (FunctionSound c.reps larger) (function-kept c.reps c.reps same c.symbols larger kept) c.functions s.of_functions

  pub literals-larger : AllByRecursion (LiteralSound c.reps larger) c.literals
  literals-larger = all-weaker (LiteralSound c.reps c.symbols) (LiteralSound c.reps larger) (literal-kept c.reps c.reps same c.symbols larger kept) c.literals s.of_literals

  pub one-each-larger : OneEach c.parents larger c.literals
  one-each-larger = one-each-kept c.reps c.reps same c.symbols larger kept c.parents c.literals s.of_literals s.one_each

  -- ---- axioms
  positions : (w : List ℕ) (k : ℕ) → position_of w (names_of_symbols c.symbols) ≡ Some k → position_of w (names_of_symbols larger) ≡ Some k
  positions w k e = ap (position_of w) names-larger ∙ position_kept w (names_of_symbols c.symbols) (names_of_symbols ys) k e

  abbrev IsNew : List ℕ → Type 0
  IsNew n = is_among n (names_of_symbols ys) ≡ false

  -- no variable of an axiom has the name of one of the symbols
  variables-apart : AllByRecursion (λ (x : Axiom). AllByRecursion IsNew (axiom_names x)) c.axioms
  variables-apart = all-unflat IsNew axiom_names c.axioms (apart-turned (names_of_symbols ys) (variable_names c) a.unused)

  axiom-larger : (x : Axiom) → AxiomSound (length c.sorts) c.parents c.symbols x → AllByRecursion IsNew (axiom_names x) → AxiomSound (length c.sorts) c.parents larger x
  axiom-larger x h k =
      axiom-kept (length c.sorts) (length c.sorts) (omega arith) c.parents c.parents [] s.of_sorts.parents_counted (sym (append-nil c.parents)) c.symbols larger s.of_symbols.each kept positions x
      (all-both (λ (v : List ℕ × SortId). is_among v.0 (names_of_symbols c.symbols) ≡ false) (λ (v : List ℕ × SortId). IsNew v.0) (λ (v : List ℕ × SortId). is_among v.0 (names_of_symbols larger) ≡ false)
      (λ v e f. ap (is_among v.0) names-larger ∙ among-append v.0 (names_of_symbols c.symbols) (names_of_symbols ys) e f)
      x.vars h.apart (all-unmap IsNew (λ (v : List ℕ × SortId). v.0) x.vars k))
      h

  pub axioms-larger : AllByRecursion (AxiomSound (length c.sorts) c.parents larger) c.axioms
  axioms-larger = all-both (AxiomSound (length c.sorts) c.parents c.symbols) (λ (x : Axiom). AllByRecursion IsNew (axiom_names x)) (AxiomSound (length c.sorts) c.parents larger) axiom-larger c.axioms s.of_axioms variables-apart

-- a symbol of a kind, where one symbol is added: one from before, or the one that is added
pub of-kind : (symbols : List Profile) (y : Profile) (p : SymKind) (G : Type 0) (k : ℕ) (z : Profile) → slice_get (symbols ++ y ∷ []) k ≡ Some z → z.kind ≡ p → (slice_get symbols k ≡ Some z → G) → (k ≡ length symbols → y.kind ≡ p → G) → G
of-kind symbols y p G k z e f was new = elim (get-side symbols (y ∷ []) k z e) [
  | before g ↦ was g
  | behind j i g ↦ let o = get-only y j z g in new (let h = o.0 in omega arith) (ap (λ (x : Profile). x.kind) o.1 ∙ f)
]
