-- What was declared stays sound where more is declared.
use Rattle.std.proofs.Common.{◌≡◌, ◌∙◌, ◌<◌, ◌≤◌, ◌++◌, ℕ, true, false, Option, Some, None, List, [], length, refl, subst, sym, ap, arith, slice_get}
use Rattle.std.specs.Prelude.{is_some}
use Rattle.std.specs.List.{AllByRecursion}
use Rattle.am_term.specs.declared.id.SortId.{SortId}
use Rattle.am_term.specs.declared.id.SymId.{SymId}
use Rattle.am_term.specs.declared.kind.SymKind.{SymKind}
use Rattle.am_term.specs.declared.term.Formula.{Formula}
use Rattle.am_term.specs.NameLists.{is_among}
use Rattle.am_term.proofs.Older.{akin-older}
use Rattle.am_syntax.specs.declared.scope.Bound.{Bound}
use Rattle.am_syntax.specs.declared.scope.Flaw.TheVariants.{UnknownName, Unbound}
use Rattle.am_syntax.specs.declared.scope.Standing.{Standing}
use Rattle.am_syntax.specs.declared.scope.Standing.TheVariants.{Variable, Input, Barred}
use Rattle.am_syntax.specs.Positions.{position_of}
use Rattle.am_syntax.specs.Scopes.{Profile, Scope, standing_of, standing_sort, result_of}
use Rattle.am_syntax.specs.Laws.{Extends, IsSameFormulaIn, IsSortIn}
use Rattle.am_syntax.proofs.LargerFormula.{formula-kept}
use Rattle.am_theory.specs.declared.theory.Rep.{Rep}
use Rattle.am_theory.specs.declared.theory.Routine.{Routine}
use Rattle.am_theory.specs.declared.theory.FortranFunction.{FortranFunction}
use Rattle.am_theory.specs.declared.theory.LiteralDecl.{LiteralDecl}
use Rattle.am_theory.specs.declared.theory.Axiom.{Axiom}
use Rattle.am_theory.specs.Lookups.{known}
use Rattle.am_theory.specs.Faults.{is_returnable, suits}
use Rattle.am_theory.proofs.Appends.{all-weaker, all-at}
use Rattle.am_theory.proofs.Sound.{IsSortOf, IsConcreteIn, HasResultOf, ProfileSound, StandsIn, RoutineSound, FunctionSound, LiteralSound, FormulaSound, AxiomSound, OneEach, names_of_symbols, sort_rep, sort_at, scope_in}

-- each member has its number there too
abbrev pub Keeps : {X : Type 0} → List X → List X → Type 0
Keeps {X} xs ys = (k : ℕ) (x : X) → slice_get xs k ≡ Some x → slice_get ys k ≡ Some x

pub sort-at : (reps : List (Option Rep)) (symbols : List Profile) (f : SymId) (k : SymKind) (args : List SortId) (s : StandsIn reps symbols f k args) → sort_at symbols f ≡ Some s.sort
sort-at reps symbols f k args s = ap result_of s.there ∙ s.result

-- ---- representations
module _ (reps more : List (Option Rep)) (kept : Keeps reps more) where
  rep_by : (s : SortId) (o : Option (Option Rep)) → slice_get reps s.0 ≡ o → is_some (known o) ≡ true → sort_rep more s ≡ known o
  rep_by s None e h = absurd cc
  rep_by s (Some None) e h = absurd cc
  rep_by s (Some (Some r)) e h = ap known (kept s.0 (Some r) e)

  pub rep-same : (s : SortId) → IsConcreteIn reps s → sort_rep more s ≡ sort_rep reps s
  rep-same s h = rep_by s (slice_get reps s.0) refl h

  pub concrete-kept : (s : SortId) → IsConcreteIn reps s → IsConcreteIn more s
  concrete-kept s h = ap is_some (rep-same s h) ∙ h

  -- ---- symbols
  module _ (symbols larger : List Profile) (there : Keeps symbols larger) where
    abbrev pub stands-kept : (f : SymId) (k : SymKind) (args : List SortId) → StandsIn reps symbols f k args → StandsIn more larger f k args
    stands-kept f k args s = record { symbol = s.symbol; there = there f.0 s.symbol s.there; of_kind = s.of_kind; with_args = s.with_args; sort = s.sort; result = s.result; concrete = concrete-kept s.sort s.concrete }

    pub routine-kept : (r : Routine) → RoutineSound reps symbols r → RoutineSound more larger r
    routine-kept r h = record {
      named = h.named;
      inputs = all-weaker (IsConcreteIn reps) (IsConcreteIn more) concrete-kept r.inputs h.inputs;
      outputs = all-weaker (λ f. StandsIn reps symbols f _ r.inputs) (λ f. StandsIn more larger f _ r.inputs) (λ f. stands-kept f _ r.inputs) r.outputs h.outputs;
      some_output = h.some_output;
      few_inputs = h.few_inputs;
      few_outputs = h.few_outputs;
      few = h.few;
    }

    pub function-kept : (f : FortranFunction) → FunctionSound reps symbols f → FunctionSound more larger f
    function-kept f h = record {
      named = h.named;
      args = h.args;
      stands = stands-kept f.symbol _ h.args h.stands;
      concrete = all-weaker (IsConcreteIn reps) (IsConcreteIn more) concrete-kept h.args h.concrete;
      returnable = ap is_returnable (rep-same h.stands.sort h.stands.concrete) ∙ h.returnable;
    }

    pub literal-kept : (l : LiteralDecl) → LiteralSound reps symbols l → LiteralSound more larger l
    literal-kept l h = record {
      stands = stands-kept l.symbol _ [] h.stands;
      suited = ap (suits l.value) (rep-same h.stands.sort h.stands.concrete) ∙ h.suited;
      valued = h.valued;
    }

    -- the sort of a literal's symbol stays
    pub literal-sort : (l : LiteralDecl) (s : SortId) → LiteralSound reps symbols l → sort_at larger l.symbol ≡ Some s → sort_at symbols l.symbol ≡ Some s
    literal-sort l s h e =
        let was = sort-at reps symbols l.symbol _ [] h.stands in
        let is = sort-at more larger l.symbol _ [] (stands-kept l.symbol _ [] h.stands) in
        was ∙ sym is ∙ e

    pub one-each-kept : (parents : List (Option SortId)) (ls : List LiteralDecl) → AllByRecursion (LiteralSound reps symbols) ls → OneEach parents symbols ls → OneEach parents larger ls
    one-each-kept parents ls h one i j l m s r e f a b =
        one i j l m s r e f
        (literal-sort l s (all-at (LiteralSound reps symbols) ls i l h e) a)
        (literal-sort m r (all-at (LiteralSound reps symbols) ls j m h f) b)

-- ---- sorts of literals
module _ (parents more : List (Option SortId)) (symbols : List Profile) (each : AllByRecursion (ProfileSound (length parents)) symbols) where
  result-there : (o : Option SortId) (a : SortId) → HasResultOf (length parents) o → o ≡ Some a → a.0 < length parents
  result-there None a h e = absurd cc
  result-there (Some s) a h e = let same : s ≡ a = cc in subst (IsSortOf (length parents)) same h

  sort-by : (f : SymId) (o : Option Profile) (a : SortId) → slice_get symbols f.0 ≡ o → result_of o ≡ Some a → a.0 < length parents
  sort-by f None a is e = absurd cc
  sort-by f (Some y) a is e = let h = all-at (ProfileSound (length parents)) symbols f.0 y each is in result-there y.result a h.result e

  -- of older sorts those are akin that were, so with more sorts literals stay one
  pub one-each-older : (ls : List LiteralDecl) → OneEach parents symbols ls → OneEach (parents ++ more) symbols ls
  one-each-older ls one i j l m s r e f a b k =
      one i j l m s r e f a b
      (sym (akin-older parents more s r (sort-by l.symbol (slice_get symbols l.symbol.0) s refl a) (sort-by m.symbol (slice_get symbols m.symbol.0) r refl b)) ∙ k)

-- ---- profiles
module _ (count more : ℕ) (le : count ≤ more) where
  pub sort-kept : (s : SortId) → IsSortOf count s → IsSortOf more s
  sort-kept s h = omega arith

  result-kept : (o : Option SortId) → HasResultOf count o → HasResultOf more o
  result-kept None h = tt
  result-kept (Some s) h = sort-kept s h

  pub profile-kept : (y : Profile) → ProfileSound count y → ProfileSound more y
  profile-kept y h = record { named = h.named; args = all-weaker (IsSortOf count) (IsSortOf more) sort-kept y.args h.args; result = result-kept y.result h.result; few = h.few }

  -- ---- axioms
  module _ (parents after behind : List (Option SortId)) (counted : length parents ≡ count) (grown : after ≡ parents ++ behind)
      (symbols larger : List Profile) (each : AllByRecursion (ProfileSound count) symbols) (there : Keeps symbols larger)
      (named : (w : List ℕ) (k : ℕ) → position_of w (names_of_symbols symbols) ≡ Some k → position_of w (names_of_symbols larger) ≡ Some k) where
    module _ (bound : List Bound) (variables : (w : List ℕ) (n : ℕ) (s : SortId) → standing_of w bound ≡ Some (Variable n s) → IsSortOf count s) (inputs : (w : List ℕ) (k : ℕ) (s : SortId) → standing_of w bound ≡ Some (Input k s) → ⊥) where
      abbrev scope : Scope
      scope = scope_in parents symbols bound

      sort-in : (o : Option SortId) → HasResultOf count o → IsSortIn scope o
      sort-in None h = tt
      sort-in (Some s) h = subst (λ n. s.0 < n) (sym counted) h

      standing-in : (w : List ℕ) (o : Standing) → standing_of w bound ≡ Some o → IsSortIn scope (standing_sort o)
      standing-in w (Variable n s) e = sort-in (Some s) (variables w n s e)
      standing-in w (Input k s) e = absurd (inputs w k s e)
      standing-in w Barred e = tt

      extends : Extends scope (scope_in after larger bound)
      extends = record {
        names = named;
        symbols = there;
        bound = refl;
        more = behind;
        parents = grown;
        results = λ k y e. let h = all-at (ProfileSound count) symbols k y each e in sort-in y.result h.result;
        standings = standing-in;
      }

    formula-stays : (f : Formula) → FormulaSound count parents symbols f → FormulaSound more after larger f
    formula-stays f h =
        let same : IsSameFormulaIn (scope_in parents symbols h.bound) (scope_in after larger h.bound) h.written =
        formula-kept (scope_in parents symbols h.bound) (scope_in after larger h.bound) (extends h.bound h.variables h.inputs) h.written (h.flawless UnknownName) (h.flawless Unbound) in
        record {
          written = h.written;
          bound = h.bound;
          meant = h.meant ∙ sym same.meaning;
          flawless = λ flaw. same.flaws flaw ∙ h.flawless flaw;
          plain = h.plain;
          variables = λ w n s e. sort-kept s (h.variables w n s e);
          inputs = h.inputs;
        }

    pub axiom-kept : (a : Axiom) → AllByRecursion (λ (v : List ℕ × SortId). is_among v.0 (names_of_symbols larger) ≡ false) a.vars → AxiomSound count parents symbols a → AxiomSound more after larger a
    axiom-kept a apart h = record {
      sorts = all-weaker (λ (v : List ℕ × SortId). IsSortOf count v.1) (λ (v : List ℕ × SortId). IsSortOf more v.1) (λ v. sort-kept v.1) a.vars h.sorts;
      named = h.named;
      distinct = h.distinct;
      apart = apart;
      few_variables = h.few_variables;
      formula = formula-stays a.formula h.formula;
      few_clauses = h.few_clauses;
      small = h.small;
    }
