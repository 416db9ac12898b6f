-- The numbers of outputs, values and literals: each is that of a symbol, and no number comes twice.
use Rattle.std.proofs.Common.{◌≡◌, ◌∙◌, ◌+◌, ◌<◌, ◌≤◌, ◌&&◌, ℕ, Bool, true, false, not, List, [], ◌∷◌, ◌++◌, map, length, refl, sym, ap, subst, arith, append_assoc}
use Rattle.std.specs.Prelude.{◌==◌}
use Rattle.std.specs.List.{AllByRecursion, flat_map}
use Rattle.std.proofs.lemmas.Bool.Decides.{nat_tests}
use Rattle.std.proofs.lemmas.List.{map-append, append-nil}
use Rattle.std.proofs.lemmas.List.Concat.{flat_map-append}
use Rattle.am_term.specs.declared.id.SymId.{SymId}
use Rattle.am_term.specs.declared.kind.SymKind.TheVariants as kind
use Rattle.am_theory.specs.declared.theory.Routine.{Routine}
use Rattle.am_theory.specs.declared.theory.FortranFunction.{FortranFunction}
use Rattle.am_theory.specs.declared.theory.LiteralDecl.{LiteralDecl}
use Rattle.am_theory.specs.declared.declaration.Typed.{Typed}
use Rattle.am_theory.specs.Contents.{Contents, numbers_from}
use Rattle.am_theory.specs.Facts.{is_number_among, are_distinct_numbers}
use Rattle.am_theory.proofs.Appends.{differ, between, all-append, all-map, all-flat, all-weaker, get-within, none-passed}
use Rattle.am_theory.proofs.Sound.{StandsIn, RoutineSound, FunctionSound, LiteralSound, Sound, numbers}

abbrev same_number : SymId → SymId → Bool
same_number f g = f.0 == g.0

numbers-turned : (f g : SymId) → same_number f g ≡ same_number g f
numbers-turned f g = grind (arith, nat_tests)

numbers-differ : (fs : List SymId) → are_distinct_numbers fs ≡ differ same_number numbers-turned fs
numbers-differ [] = refl
numbers-differ (f ∷ fs) = ap (λ b. not (is_number_among f fs) && b) (numbers-differ fs)

abbrev pub IsBelow : ℕ → SymId → Type 0
IsBelow n f = f.0 < n

abbrev pub IsFrom : ℕ → SymId → Type 0
IsFrom n f = n ≤ f.0

unlike : (n : ℕ) (f g : SymId) → IsFrom n f → IsBelow n g → same_number f g ≡ false
unlike n f g h k = grind (arith, nat_tests)

apart-from : (n : ℕ) (xs : List SymId) (f : SymId) → AllByRecursion (IsBelow n) xs → IsFrom n f → is_number_among f xs ≡ false
apart-from n xs f h k = none-passed (same_number f) xs (all-weaker (IsBelow n) (λ g. same_number f g ≡ false) (λ g l. unlike n f g k l) xs h)

-- numbers from n on, between others that are below n
pub numbers-between : (n : ℕ) (xs ns bs : List SymId) → are_distinct_numbers (xs ++ bs) ≡ true → are_distinct_numbers ns ≡ true → AllByRecursion (IsBelow n) (xs ++ bs) → AllByRecursion (IsFrom n) ns → are_distinct_numbers (xs ++ (ns ++ bs)) ≡ true
numbers-between n xs ns bs e f h k =
    numbers-differ (xs ++ (ns ++ bs))
    ∙ between same_number numbers-turned xs ns bs (sym (numbers-differ (xs ++ bs)) ∙ e) (sym (numbers-differ ns) ∙ f)
    (all-weaker (IsFrom n) (λ f. is_number_among f (xs ++ bs) ≡ false) (λ f l. apart-from n (xs ++ bs) f h l) ns k)

-- ---- the numbers of a routine's outputs
pub from-all : (k n : ℕ) (os : List Typed) → n ≤ k → AllByRecursion (IsFrom n) (numbers_from k os)
from-all k n [] h = tt
from-all k n (o ∷ os) h = (h, from-all (k + 1) n os (omega arith))

later : (k : ℕ) (f g : SymId) → f.0 ≡ k → IsFrom (k + 1) g → same_number f g ≡ false
later k f g e h = grind (arith, nat_tests)

pub from-distinct : (k : ℕ) (os : List Typed) → are_distinct_numbers (numbers_from k os) ≡ true
from-distinct k [] = refl
from-distinct k (o ∷ os) =
    let first : SymId = record { 0 = k } in
    let none : is_number_among first (numbers_from (k + 1) os) ≡ false =
    none-passed (same_number first) (numbers_from (k + 1) os)
    (all-weaker (IsFrom (k + 1)) (λ g. same_number first g ≡ false) (λ g h. later k first g refl h) (numbers_from (k + 1) os) (from-all (k + 1) (k + 1) os (omega arith))) in
    ap (λ b. not b && are_distinct_numbers (numbers_from (k + 1) os)) none ∙ from-distinct (k + 1) os

-- ---- what was declared so far
module _ (c : Contents) (s : Sound c) where
  pub numbers-below : AllByRecursion (IsBelow (length c.symbols)) (numbers c.routines c.functions c.literals)
  numbers-below =
      let P = IsBelow (length c.symbols) in
      let outs = λ (r : Routine). r.outputs in
      let symbol = λ (f : FortranFunction). f.symbol in
      let constant = λ (l : LiteralDecl). l.symbol in
      all-append P (flat_map outs c.routines ++ map symbol c.functions) (map constant c.literals)
      (all-append P (flat_map outs c.routines) (map symbol c.functions)
      (all-flat P outs c.routines
      (all-weaker (RoutineSound c.reps c.symbols) (λ (r : Routine). AllByRecursion P r.outputs)
      (λ r h. all-weaker (λ f. StandsIn c.reps c.symbols f kind.Output r.inputs) P (λ f k. get-within c.symbols f.0 k.symbol k.there) r.outputs h.outputs)
      c.routines s.of_routines))
      (all-map P symbol c.functions (all-weaker (FunctionSound c.reps c.symbols) (λ (f : FortranFunction). P f.symbol) (λ f h. get-within c.symbols f.symbol.0 h.stands.symbol h.stands.there) c.functions s.of_functions)))
      (all-map P constant c.literals (all-weaker (LiteralSound c.reps c.symbols) (λ (l : LiteralDecl). P l.symbol) (λ l h. get-within c.symbols l.symbol.0 h.stands.symbol h.stands.there) c.literals s.of_literals))

-- one more literal's symbol, one more function's, and one more routine's
behind-all : {X : Type 0} (xs bs cs ds : List X) → (xs ++ bs) ++ (cs ++ ds) ≡ ((xs ++ bs) ++ cs) ++ (ds ++ [])
behind-all xs bs cs ds = sym (append_assoc (xs ++ bs) cs ds) ∙ ap (λ ys. ((xs ++ bs) ++ cs) ++ ys) (sym (append-nil ds))

in-middle : {X : Type 0} (xs bs cs ds : List X) → (xs ++ (bs ++ ds)) ++ cs ≡ (xs ++ bs) ++ (ds ++ cs)
in-middle xs bs cs ds = ap (λ ys. ys ++ cs) (sym (append_assoc xs bs ds)) ∙ append_assoc (xs ++ bs) ds cs

in-front : {X : Type 0} (xs bs cs ds : List X) → ((xs ++ (ds ++ [])) ++ bs) ++ cs ≡ xs ++ (ds ++ (bs ++ cs))
in-front xs bs cs ds =
    ap (λ ys. ((xs ++ ys) ++ bs) ++ cs) (append-nil ds)
    ∙ append_assoc (xs ++ ds) bs cs ∙ append_assoc xs ds (bs ++ cs)

module _ (c : Contents) (s : Sound c) where
  abbrev as_ : List SymId
  as_ = flat_map (λ (r : Routine). r.outputs) c.routines

  abbrev bs : List SymId
  bs = map (λ (f : FortranFunction). f.symbol) c.functions

  abbrev cs : List SymId
  cs = map (λ (l : LiteralDecl). l.symbol) c.literals

  pub literal-numbered : (l : LiteralDecl) → l.symbol.0 ≡ length c.symbols → are_distinct_numbers (numbers c.routines c.functions (c.literals ++ l ∷ [])) ≡ true
  literal-numbered l e =
      let none : ((as_ ++ bs) ++ cs) ++ [] ≡ (as_ ++ bs) ++ cs = append-nil ((as_ ++ bs) ++ cs) in
      ap (λ xs. are_distinct_numbers ((as_ ++ bs) ++ xs)) (map-append (λ (m : LiteralDecl). m.symbol) c.literals (l ∷ []))
      ∙ ap are_distinct_numbers (behind-all as_ bs cs (l.symbol ∷ []))
      ∙ numbers-between (length c.symbols) ((as_ ++ bs) ++ cs) (l.symbol ∷ []) []
      (ap are_distinct_numbers none ∙ s.numbered) refl
      (subst (AllByRecursion (IsBelow (length c.symbols))) (sym none) (numbers-below c s))
      (let le : length c.symbols ≤ l.symbol.0 = omega arith in (le, tt))

  pub function-numbered : (f : FortranFunction) → f.symbol.0 ≡ length c.symbols → are_distinct_numbers (numbers c.routines (c.functions ++ f ∷ []) c.literals) ≡ true
  function-numbered f e =
      ap (λ xs. are_distinct_numbers ((as_ ++ xs) ++ cs)) (map-append (λ (m : FortranFunction). m.symbol) c.functions (f ∷ []))
      ∙ ap are_distinct_numbers (in-middle as_ bs cs (f.symbol ∷ []))
      ∙ numbers-between (length c.symbols) (as_ ++ bs) (f.symbol ∷ []) cs s.numbered refl (numbers-below c s)
      (let le : length c.symbols ≤ f.symbol.0 = omega arith in (le, tt))

  pub routine-numbered : (r : Routine) (os : List Typed) → r.outputs ≡ numbers_from (length c.symbols) os → are_distinct_numbers (numbers (c.routines ++ r ∷ []) c.functions c.literals) ≡ true
  routine-numbered r os e =
      let whole : (as_ ++ bs) ++ cs ≡ as_ ++ (bs ++ cs) = append_assoc as_ bs cs in
      ap (λ xs. are_distinct_numbers ((xs ++ bs) ++ cs)) (flat_map-append (λ (q : Routine). q.outputs) c.routines (r ∷ []))
      ∙ ap are_distinct_numbers (in-front as_ bs cs r.outputs)
      ∙ ap (λ xs. are_distinct_numbers (as_ ++ (xs ++ (bs ++ cs)))) e
      ∙ numbers-between (length c.symbols) as_ (numbers_from (length c.symbols) os) (bs ++ cs)
      (ap are_distinct_numbers (sym whole) ∙ s.numbered) (from-distinct (length c.symbols) os)
      (subst (AllByRecursion (IsBelow (length c.symbols))) whole (numbers-below c s))
      (from-all (length c.symbols) (length c.symbols) os (omega arith))
