-- What computes a symbol.
use Rattle.std.proofs.Common.{◌≡◌, ◌∙◌, ◌⊎◌, inl, inr, ◌++◌, ◌||◌, ◌==◌, ◌+◌, ◌<◌, ℕ, zero, suc, arith, Bool, true, false, not, refl, sym, ap, subst, List, [], ◌∷◌, Option, Some, None, cond, map, length, find, slice_get, slice_index_or, true≢false, Contains}
use Rattle.std.proofs.lemmas.Bool.Decides.{nat_tests}
use Rattle.std.specs.List.{flat_map}
use Rattle.am_term.specs.declared.id.SortId.{SortId}
use Rattle.am_term.specs.declared.id.SymId.{SymId}
use Rattle.am_term.specs.declared.kind.SymKind.{SymKind}
use Rattle.am_term.specs.declared.kind.SymKind.TheVariants as kind
use Rattle.am_term.specs.declared.symbol.Symbol.{Symbol}
use Rattle.am_term.proofs.Tests.{and_left, and_right, or_cases, true_not}
use Rattle.am_theory.specs.declared.theory.Routine.{Routine}
use Rattle.am_theory.specs.declared.theory.FortranFunction.{FortranFunction}
use Rattle.am_theory.specs.declared.theory.LiteralDecl.{LiteralDecl}
use Rattle.am_theory.specs.declared.theory.Theory.{Theory}
use Rattle.am_theory.specs.Facts.{WellFormed, Stands, IsRoutine, IsFunction, IsLiteral, symbol_numbers, is_number_among, are_distinct_numbers}
use Rattle.am_plan.specs.declared.call.Callee.{Callee}
use Rattle.am_plan.specs.declared.call.Callee.TheVariants as callee
use Rattle.am_plan.specs.Calls.{has_symbol, first_there, routine_from, function_from, callee_of}
use Rattle.am_theory.specs.Lookups.{literal_declared}
use Rattle.am_plan.proofs.Membership.{Among, Different, all-among, among-map, among-flat, different-left, different-right, different-apart}
use Rattle.am_plan.proofs.Standing.{all-index}
use Rattle.am_plan.proofs.CallStatements.{index-among}
use Rattle.am_plan.proofs.Copying.{find-among}

number-is : (m n : ℕ) → (m == n) ≡ true → m ≡ n
number-is m n e = grind (arith, nat_tests)

number-same : (m n : ℕ) → m ≡ n → (m == n) ≡ true
number-same m n e = grind (arith, nat_tests)

pub symbol-numbered : (f g : SymId) → f.0 ≡ g.0 → f ≡ g
symbol-numbered f g e = ap (λ (i : ℕ). let r : SymId = record { 0 = i } in r) e

pub contains-among : {A : Type 0} (xs : List A) (x : A) → Contains xs x → Among x xs
contains-among {A = A} xs x c = at xs c.0 c.1 c.2
  where
    at : (zs : List A) (k : ℕ) → k < length zs → slice_index_or zs k x ≡ x → Among x zs
    at [] k l e = absurd (omega arith)
    at (z ∷ zs) zero l e = inl (sym e)
    at (z ∷ zs) (suc k) l e = inr (at zs k (omega arith) e)

has-among : (f : SymId) (fs : List SymId) → has_symbol f fs ≡ true → Among f fs
has-among f [] e = absurd (true≢false (sym e))
has-among f (g ∷ fs) e = by_side (has-among f fs) (or_cases (f.0 == g.0) (has_symbol f fs) e)
  where
    by_side : (has_symbol f fs ≡ true → Among f fs) → ((f.0 == g.0) ≡ true) ⊎ (has_symbol f fs ≡ true) → Among f (g ∷ fs)
    by_side later (inl a) = inl (symbol-numbered f g (number-is f.0 g.0 a))
    by_side later (inr b) = inr (later b)

among-has : (f : SymId) (fs : List SymId) → Among f fs → has_symbol f fs ≡ true
among-has f [] a = absurd a
among-has f (g ∷ fs) (inl e) = ap (λ (b : Bool). b || has_symbol f fs) (number-same f.0 g.0 (ap (λ (x : SymId). x.0) e))
among-has f (g ∷ fs) (inr a) = either (f.0 == g.0) (has_symbol f fs) (among-has f fs a)
  where
    either : (a b : Bool) → b ≡ true → (a || b) ≡ true
    either true b e = refl
    either false b e = e

-- a routine with the symbol as an output, or the function of the symbol
abbrev pub Computes : Theory → SymId → Callee → Type 0
Computes t f (callee.Routine k) = (r : Routine) × (slice_get t.routines k ≡ Some r) × Among f r.outputs
Computes t f (callee.Function k) = (g : FortranFunction) × (slice_get t.functions k ≡ Some g) × (g.symbol ≡ f)

record FromRoutine (n : ℕ) (f : SymId) (rs : List Routine) (c : Callee) : Type 0 where
  index : ℕ
  routine : Routine
  is : c ≡ callee.Routine (n + index)
  there : slice_get rs index ≡ Some routine
  output : Among f routine.outputs

from-routine : (n : ℕ) (f : SymId) (rs : List Routine) (c : Callee) → routine_from n f rs ≡ Some c → FromRoutine n f rs c
from-routine n f [] c e = absurd cc
from-routine n f (r ∷ rs) c e = by_test (from-routine (n + 1) f rs c) (has_symbol f r.outputs) refl e
  where
    by_test : (routine_from (n + 1) f rs ≡ Some c → FromRoutine (n + 1) f rs c) → (b : Bool) → has_symbol f r.outputs ≡ b → cond b (Some (callee.Routine n)) (routine_from (n + 1) f rs) ≡ Some c → FromRoutine n f (r ∷ rs) c
    by_test later true is e =
        let same : callee.Routine n ≡ c = cc in
        let here : n ≡ n + 0 = omega arith in
        record { index = 0; routine = r; is = sym same ∙ ap callee.Routine here; there = refl; output = has-among f r.outputs is }
    by_test later false is e =
        let q = later e in
        let more : (n + 1) + q.index ≡ n + suc q.index = omega arith in
        record { index = suc q.index; routine = q.routine; is = q.is ∙ ap callee.Routine more; there = q.there; output = q.output }

record FromFunction (n : ℕ) (f : SymId) (gs : List FortranFunction) (c : Callee) : Type 0 where
  index : ℕ
  function : FortranFunction
  is : c ≡ callee.Function (n + index)
  there : slice_get gs index ≡ Some function
  output : function.symbol ≡ f

from-function : (n : ℕ) (f : SymId) (gs : List FortranFunction) (c : Callee) → function_from n f gs ≡ Some c → FromFunction n f gs c
from-function n f [] c e = absurd cc
from-function n f (g ∷ gs) c e = by_test (from-function (n + 1) f gs c) (f.0 == g.symbol.0) refl e
  where
    by_test : (function_from (n + 1) f gs ≡ Some c → FromFunction (n + 1) f gs c) → (b : Bool) → (f.0 == g.symbol.0) ≡ b → cond b (Some (callee.Function n)) (function_from (n + 1) f gs) ≡ Some c → FromFunction n f (g ∷ gs) c
    by_test later true is e =
        let same : callee.Function n ≡ c = cc in
        let here : n ≡ n + 0 = omega arith in
        record { index = 0; function = g; is = sym same ∙ ap callee.Function here; there = refl; output = sym (symbol-numbered f g.symbol (number-is f.0 g.symbol.0 is)) }
    by_test later false is e =
        let q = later e in
        let more : (n + 1) + q.index ≡ n + suc q.index = omega arith in
        record { index = suc q.index; function = q.function; is = q.is ∙ ap callee.Function more; there = q.there; output = q.output }

pub callee-computes : (t : Theory) (f : SymId) (c : Callee) → callee_of t f ≡ Some c → Computes t f c
unfolding callee_of
callee-computes t f c e = by_first (routine_from 0 f t.routines) refl e
  where
    by_first : (o : Option Callee) → routine_from 0 f t.routines ≡ o → first_there o (function_from 0 f t.functions) ≡ Some c → Computes t f c
    by_first (Some b) is e =
        let q = from-routine 0 f t.routines c (is ∙ e) in
        let here : 0 + q.index ≡ q.index = omega arith in
        subst (λ (k : Callee). Computes t f k) (sym (q.is ∙ ap callee.Routine here)) (q.routine, q.there, q.output)
    by_first None is e =
        let q = from-function 0 f t.functions c e in
        let here : 0 + q.index ≡ q.index = omega arith in
        subst (λ (k : Callee). Computes t f k) (sym (q.is ∙ ap callee.Function here)) (q.function, q.there, q.output)

routine_from-some : (n : ℕ) (f : SymId) (r : Routine) (rs : List Routine) → Among r rs → Among f r.outputs → routine_from n f rs ≡ None → ⊥
routine_from-some n f r [] a o e = a
routine_from-some n f r (q ∷ rs) (inl is) o e = first (among-has f q.outputs (subst (λ (x : Routine). Among f x.outputs) is o))
  where
    first : has_symbol f q.outputs ≡ true → ⊥
    first has = let no : Some (callee.Routine n) ≡ None = sym (ap (λ (b : Bool). cond b (Some (callee.Routine n)) (routine_from (n + 1) f rs)) has) ∙ e in absurd cc
routine_from-some n f r (q ∷ rs) (inr a) o e = by_test (routine_from-some (n + 1) f r rs a o) (has_symbol f q.outputs) e
  where
    by_test : (routine_from (n + 1) f rs ≡ None → ⊥) → (b : Bool) → cond b (Some (callee.Routine n)) (routine_from (n + 1) f rs) ≡ None → ⊥
    by_test later true e = absurd cc
    by_test later false e = later e

function_from-some : (n : ℕ) (f : SymId) (g : FortranFunction) (gs : List FortranFunction) → Among g gs → g.symbol ≡ f → function_from n f gs ≡ None → ⊥
function_from-some n f g [] a o e = a
function_from-some n f g (q ∷ gs) (inl is) o e =
    let same : (f.0 == q.symbol.0) ≡ true = number-same f.0 q.symbol.0 (ap (λ (x : SymId). x.0) (sym o ∙ ap (λ (x : FortranFunction). x.symbol) is)) in
    let no : Some (callee.Function n) ≡ None = sym (ap (λ (b : Bool). cond b (Some (callee.Function n)) (function_from (n + 1) f gs)) same) ∙ e in absurd cc
function_from-some n f g (q ∷ gs) (inr a) o e = by_test (function_from-some (n + 1) f g gs a o) (f.0 == q.symbol.0) e
  where
    by_test : (function_from (n + 1) f gs ≡ None → ⊥) → (b : Bool) → cond b (Some (callee.Function n)) (function_from (n + 1) f gs) ≡ None → ⊥
    by_test later true e = absurd cc
    by_test later false e = later e

-- what has no callee is no output and no function's symbol
pub no-routine : (t : Theory) (f : SymId) (r : Routine) → Among r t.routines → Among f r.outputs → callee_of t f ≡ None → ⊥
unfolding callee_of
no-routine t f r a o e = by_first (routine_from 0 f t.routines) refl e
  where
    by_first : (q : Option Callee) → routine_from 0 f t.routines ≡ q → first_there q (function_from 0 f t.functions) ≡ None → ⊥
    by_first (Some b) is e = absurd cc
    by_first None is e = routine_from-some 0 f r t.routines a o is

pub no-function : (t : Theory) (f : SymId) (g : FortranFunction) → Among g t.functions → g.symbol ≡ f → callee_of t f ≡ None → ⊥
unfolding callee_of
no-function t f g a o e = by_first (routine_from 0 f t.routines) e
  where
    by_first : (q : Option Callee) → first_there q (function_from 0 f t.functions) ≡ None → ⊥
    by_first (Some b) e = absurd cc
    by_first None e = function_from-some 0 f g t.functions a o e

-- ---- kinds
abbrev is_literal : SymKind → Bool
is_literal kind.Literal = true
is_literal _ = false

module _ (t : Theory) (h : WellFormed t) where
  -- the symbol of a callee, and where it stands
  pub routine-stands : (k : ℕ) (r : Routine) (f : SymId) → slice_get t.routines k ≡ Some r → Among f r.outputs → Stands t f kind.Output r.inputs
  routine-stands k r f at a = all-among (λ (g : SymId). Stands t g kind.Output r.inputs) f r.outputs (all-index (IsRoutine t) t.routines k r h.routines at).outputs a

  one-symbol : (f : SymId) (k : SymKind) (ss : List SortId) (y : Symbol) → slice_get t.sig.symbols f.0 ≡ Some y → (s : Stands t f k ss) → s.symbol ≡ y
  one-symbol f k ss y at s = let e : Some s.symbol ≡ Some y = sym s.there ∙ at in cc

  pub stands-kind : (f : SymId) (k : SymKind) (ss : List SortId) (y : Symbol) → slice_get t.sig.symbols f.0 ≡ Some y → Stands t f k ss → y.kind ≡ k
  stands-kind f k ss y at s = ap (λ (z : Symbol). z.kind) (sym (one-symbol f k ss y at s)) ∙ s.of_kind

  pub stands-args : (f : SymId) (k : SymKind) (ss : List SortId) (y : Symbol) → slice_get t.sig.symbols f.0 ≡ Some y → Stands t f k ss → y.args ≡ ss
  stands-args f k ss y at s = ap (λ (z : Symbol). z.args) (sym (one-symbol f k ss y at s)) ∙ s.with_args

  -- the kind of what has a callee
  pub computed-no_literal : (f : SymId) (c : Callee) (y : Symbol) → slice_get t.sig.symbols f.0 ≡ Some y → Computes t f c → is_literal y.kind ≡ false
  computed-no_literal f (callee.Routine k) y at c = ap is_literal (stands-kind f kind.Output c.0.inputs y at (routine-stands k c.0 f c.1 c.2))
  computed-no_literal f (callee.Function k) y at c =
      let g = all-index (IsFunction t) t.functions k c.0 h.functions c.1 in
      ap is_literal (stands-kind f kind.Value g.args y at (subst (λ (x : SymId). Stands t x kind.Value g.args) c.2 g.stands))

  -- the literal of a symbol is a literal's
  pub literal-found : (f : SymId) (l : LiteralDecl) → literal_declared t f ≡ Some l → Among l t.literals × (l.symbol ≡ f)
  literal-found f l e =
      let r = find-among (λ (m : LiteralDecl). m.symbol.0 == f.0) t.literals l e in
      (r.0, symbol-numbered l.symbol f (number-is l.symbol.0 f.0 r.1))

  pub literal-kind : (f : SymId) (l : LiteralDecl) (y : Symbol) → slice_get t.sig.symbols f.0 ≡ Some y → literal_declared t f ≡ Some l → is_literal y.kind ≡ true
  literal-kind f l y at e =
      let r = literal-found f l e in
      let s = (all-among (IsLiteral t) l t.literals h.literals r.0).stands in
      ap is_literal (stands-kind f kind.Literal [] y at (subst (λ (x : SymId). Stands t x kind.Literal []) r.1 s))

  -- what a callee computes is no literal
  pub computed-literal : (f : SymId) (c : Callee) (y : Symbol) → slice_get t.sig.symbols f.0 ≡ Some y → Computes t f c → literal_declared t f ≡ None
  computed-literal f c y at computes = by_literal (literal_declared t f) refl
    where
      by_literal : (o : Option LiteralDecl) → literal_declared t f ≡ o → o ≡ None
      by_literal None e = refl
      by_literal (Some l) e = absurd (true≢false (sym (literal-kind f l y at e) ∙ computed-no_literal f c y at computes))

  -- a literal is found under its number
  pub literal-there : (f : SymId) (y : Symbol) → slice_get t.sig.symbols f.0 ≡ Some y → y.kind ≡ kind.Literal → (l : LiteralDecl) × (literal_declared t f ≡ Some l)
  literal-there f y at is =
      let c = h.constants f.0 y at is in
      some_found c.0 t.literals (contains-among t.literals c.0 c.1) c.2
    where
      some_found : (l : LiteralDecl) (ls : List LiteralDecl) → Among l ls → l.symbol.0 ≡ f.0 → (m : LiteralDecl) × (find (λ (x : LiteralDecl). x.symbol.0 == f.0) ls ≡ Some m)
      some_found l [] a e = absurd a
      some_found l (z ∷ zs) (inl s) e = (z, ap (λ (b : Bool). cond b (Some z) (find (λ (x : LiteralDecl). x.symbol.0 == f.0) zs)) (number-same z.symbol.0 f.0 (ap (λ (x : LiteralDecl). x.symbol.0) (sym s) ∙ e)))
      some_found l (z ∷ zs) (inr a) e = by_test (z.symbol.0 == f.0) (some_found l zs a e)
        where
          by_test : (b : Bool) → (m : LiteralDecl) × (find (λ (x : LiteralDecl). x.symbol.0 == f.0) zs ≡ Some m) → (m : LiteralDecl) × (cond b (Some z) (find (λ (x : LiteralDecl). x.symbol.0 == f.0) zs) ≡ Some m)
          by_test true r = (z, refl)
          by_test false r = r

  -- ---- each symbol has one callee
  numbers-different : (fs : List SymId) → are_distinct_numbers fs ≡ true → Different fs
  numbers-different [] e = tt
  numbers-different (f ∷ fs) e = (
    (λ a. true≢false (sym (among-has f fs a) ∙ true_not (is_number_among f fs) (and_left (not (is_number_among f fs)) (are_distinct_numbers fs) e))),
    numbers-different fs (and_right (not (is_number_among f fs)) (are_distinct_numbers fs) e),
  )

  abbrev outputs_numbered : List SymId
  outputs_numbered = flat_map (λ (r : Routine). r.outputs) t.routines

  abbrev functions_numbered : List SymId
  functions_numbered = map (λ (g : FortranFunction). g.symbol) t.functions

  abbrev literals_numbered : List SymId
  literals_numbered = map (λ (l : LiteralDecl). l.symbol) t.literals

  called-different : Different (outputs_numbered ++ functions_numbered)
  called-different = different-left (outputs_numbered ++ functions_numbered) literals_numbered (numbers-different (symbol_numbers t) h.numbers_distinct)

  pub outputs-different : Different outputs_numbered
  outputs-different = different-left outputs_numbered functions_numbered called-different

  pub functions-different : Different functions_numbered
  functions-different = different-right outputs_numbered functions_numbered called-different

  output-no_function : (f : SymId) → Among f outputs_numbered → Among f functions_numbered → ⊥
  output-no_function f a b = different-apart f outputs_numbered functions_numbered called-different a b

  pub one-callee : (f : SymId) (b c : Callee) → Computes t f b → Computes t f c → b ≡ c
  one-callee f (callee.Routine j) (callee.Routine k) p q = ap callee.Routine (flat_index t.routines j k p.0 q.0 outputs-different p.1 q.1 p.2 q.2)
    where
      flat_index : (rs : List Routine) (i j : ℕ) (q r : Routine) → Different (flat_map (λ (r : Routine). r.outputs) rs) → slice_get rs i ≡ Some q → slice_get rs j ≡ Some r → Among f q.outputs → Among f r.outputs → i ≡ j
      flat_index [] i j q r d at bt a b = absurd cc
      flat_index (x ∷ rs) zero zero q r d at bt a b = refl
      flat_index (x ∷ rs) zero (suc j) q r d at bt a b =
          let same : x ≡ q = cc in
          absurd (different-apart f x.outputs (flat_map (λ (r : Routine). r.outputs) rs) d (subst (λ (z : Routine). Among f z.outputs) (sym same) a) (among-flat (λ (r : Routine). r.outputs) r f rs (index-among rs j r bt) b))
      flat_index (x ∷ rs) (suc i) zero q r d at bt a b =
          let same : x ≡ r = cc in
          absurd (different-apart f x.outputs (flat_map (λ (r : Routine). r.outputs) rs) d (subst (λ (z : Routine). Among f z.outputs) (sym same) b) (among-flat (λ (r : Routine). r.outputs) q f rs (index-among rs i q at) a))
      flat_index (x ∷ rs) (suc i) (suc j) q r d at bt a b = ap suc (flat_index rs i j q r (different-right x.outputs (flat_map (λ (r : Routine). r.outputs) rs) d) at bt a b)
  one-callee f (callee.Routine j) (callee.Function k) p q = absurd (output-no_function f (among-flat (λ (r : Routine). r.outputs) p.0 f t.routines (index-among t.routines j p.0 p.1) p.2) (subst (λ (x : SymId). Among x functions_numbered) q.2 (among-map (λ (g : FortranFunction). g.symbol) q.0 t.functions (index-among t.functions k q.0 q.1))))
  one-callee f (callee.Function j) (callee.Routine k) p q = absurd (output-no_function f (among-flat (λ (r : Routine). r.outputs) q.0 f t.routines (index-among t.routines k q.0 q.1) q.2) (subst (λ (x : SymId). Among x functions_numbered) p.2 (among-map (λ (g : FortranFunction). g.symbol) p.0 t.functions (index-among t.functions j p.0 p.1))))
  one-callee f (callee.Function j) (callee.Function k) p q = ap callee.Function (map_index t.functions j k p.0 q.0 functions-different p.1 q.1 p.2 q.2)
    where
      map_index : (gs : List FortranFunction) (i j : ℕ) (q r : FortranFunction) → Different (map (λ (g : FortranFunction). g.symbol) gs) → slice_get gs i ≡ Some q → slice_get gs j ≡ Some r → q.symbol ≡ f → r.symbol ≡ f → i ≡ j
      map_index [] i j q r d at bt a b = absurd cc
      map_index (x ∷ gs) zero zero q r d at bt a b = refl
      map_index (x ∷ gs) zero (suc j) q r d at bt a b =
          let same : x ≡ q = cc in
          absurd (d.0 (subst (λ (s : SymId). Among s (map (λ (g : FortranFunction). g.symbol) gs)) (b ∙ sym a ∙ sym (ap (λ (z : FortranFunction). z.symbol) same)) (among-map (λ (g : FortranFunction). g.symbol) r gs (index-among gs j r bt))))
      map_index (x ∷ gs) (suc i) zero q r d at bt a b =
          let same : x ≡ r = cc in
          absurd (d.0 (subst (λ (s : SymId). Among s (map (λ (g : FortranFunction). g.symbol) gs)) (a ∙ sym b ∙ sym (ap (λ (z : FortranFunction). z.symbol) same)) (among-map (λ (g : FortranFunction). g.symbol) q gs (index-among gs i q at))))
      map_index (x ∷ gs) (suc i) (suc j) q r d at bt a b = ap suc (map_index gs i j q r d.1 at bt a b)
