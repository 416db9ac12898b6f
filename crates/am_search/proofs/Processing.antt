-- The units of the processed rows, as one row more is processed.
use Rattle.std.specs.Prelude.{◌≡◌, ◌≢◌, ◌≤◌, ◌<◌, ◌+◌, ◌-◌, ◌++◌, ◌==◌, ◌||◌, ℕ, zero, suc, Bool, true, false, nat_lt, nat_le, Option, Some, None, List, [], ◌∷◌, length, slice_get, if◌then◌else◌}
use Rattle.std.proofs.Common.{refl, sym, ap, subst, ◌∙◌, arith}
use Rattle.std.proofs.lemmas.Bool.Decides.{nat_tests}
use Rattle.std.proofs.lemmas.Grind.{common_steps}
use Rattle.std.specs.List.{AllByRecursion, filter}
use Rattle.am_clause.specs.declared.clause.Clause.{Clause}
use Rattle.am_clause.specs.declared.row.Row.{Row}
use Rattle.am_clause.specs.declared.row.Side.{Side}
use Rattle.am_search.proofs.Fewer.{numbered_push}
use Rattle.am_search.proofs.Marked.{any_more}
use Rattle.am_search.specs.Marks.{was_chosen}
use Rattle.am_search.specs.Members.{Member, numbered_rows, row_at, clause_row, clause_rows, is_processed}
use Rattle.am_search.specs.Processing.{processed_units}
use Rattle.am_simplify.specs.Units.{units, unit_of, unit_with, unit_side, with_unit, with_units}
use Rattle.am_simplify.specs.declared.step.Unit.{Unit}
use Rattle.am_term.specs.declared.signature.Signature.{Signature}

-- ---- lists of units

abbrev AreFrom : ℕ → List Unit → Type 0
AreFrom k us = AllByRecursion (λ (u : Unit). k ≤ u.row) us

from_lower : (k : ℕ) (us : List Unit) → AreFrom (k + 1) us → AreFrom k us
from_lower k [] a = tt
from_lower k (u ∷ us) a = (let low = a.0 in omega arith, from_lower k us a.1)

from_one : (k n : ℕ) (c : Clause) (o : Option Side) (us : List Unit) → k ≤ n → AreFrom k us → AreFrom k (unit_with n c o ++ us)
from_one k n c None us low a = a
from_one k n c (Some side) us low a = (low, a)

in_front : (u : Unit) (us : List Unit) → AreFrom u.row us → with_unit u us ≡ u ∷ us
in_front u [] a = refl
in_front u (v ∷ us) a =
    let low : u.row ≤ v.row = a.0 in
    let test : nat_lt v.row u.row ≡ false = grind (arith, nat_tests) in
    ap (λ (b : Bool). if b then v ∷ with_unit u us else u ∷ v ∷ us) test

all_in_front : (n : ℕ) (c : Clause) (o : Option Side) (us : List Unit) → AreFrom n us → with_units (unit_with n c o) us ≡ unit_with n c o ++ us
all_in_front n c None us a = refl
all_in_front n c (Some side) us a = in_front (record { row = n; side = side; clause = c }) us a

behind_one : (n k : ℕ) (c d : Clause) (o e : Option Side) (us : List Unit) → k < n → with_units (unit_with n c o) (unit_with k d e ++ us) ≡ unit_with k d e ++ with_units (unit_with n c o) us
behind_one n k c d None e us less = refl
behind_one n k c d (Some side) None us less = refl
behind_one n k c d (Some side) (Some other) us less =
    let test : nat_lt k n ≡ true = grind (arith, nat_tests) in
    let u : Unit = record { row = n; side = side; clause = c } in
    let v : Unit = record { row = k; side = other; clause = d } in
    ap (λ (b : Bool). if b then v ∷ with_unit u us else u ∷ v ∷ us) test

module _ (sig : Signature) where
  -- the units among the rows that pass, numbered from k
  abbrev passing : (Member → Bool) → ℕ → List Row → List Unit
  passing p k rows = units sig (clause_rows (filter p (numbered_rows k rows)))

  abbrev own : Bool → Member → List Unit
  own b m = if b then unit_of sig (clause_row m) else []

  split : (b : Bool) (m : Member) (ms : List Member) → units sig (clause_rows (if b then m ∷ ms else ms)) ≡ own b m ++ units sig (clause_rows ms)
  split true m ms = refl
  split false m ms = refl

  own_from : (b : Bool) (k : ℕ) (row : Row) (us : List Unit) → AreFrom k us → AreFrom k (own b (record { number = k; row = row }) ++ us)
  own_from true k row us a = from_one k k row.clause (unit_side sig row.clause) us (omega arith) a
  own_from false k row us a = a

  passing_from : (p : Member → Bool) (k : ℕ) (rows : List Row) → AreFrom k (passing p k rows)
  passing_from p k [] = tt
  passing_from p k (r ∷ rows) =
      let m : Member = record { number = k; row = r } in
      subst (λ (us : List Unit). AreFrom k us) (sym (split (p m) m (filter p (numbered_rows (k + 1) rows))))
      (own_from (p m) k r (passing p (k + 1) rows) (from_lower k (passing p (k + 1) rows) (passing_from p (k + 1) rows)))

  -- tests that agree from a number on pass the same
  filter_same : (p q : Member → Bool) (k : ℕ) (rows : List Row) → ((m : Member) → k ≤ m.number → p m ≡ q m) → filter p (numbered_rows k rows) ≡ filter q (numbered_rows k rows)
  filter_same p q k [] agree = refl
  filter_same p q k (r ∷ rows) agree =
      let m : Member = record { number = k; row = r } in
      ap (λ (ms : List Member). if p m then m ∷ ms else ms) (filter_same p q (k + 1) rows (λ x low. agree x (omega arith)))
      ∙ ap (λ (b : Bool). if b then m ∷ filter q (numbered_rows (k + 1) rows) else filter q (numbered_rows (k + 1) rows)) (agree m (omega arith))

  -- one row more passes
  at_own : (p q : Member → Bool) (k : ℕ) (row : Row) (rows : List Row) → p (record { number = k; row = row }) ≡ false → q (record { number = k; row = row }) ≡ true
      → ((m : Member) → (m.number == k) ≡ false → p m ≡ q m) → with_units (unit_of sig (k, row.clause)) (passing p k (row ∷ rows)) ≡ passing q k (row ∷ rows)
  at_own p q k row rows fails passes agree =
      let m : Member = record { number = k; row = row } in
      let us : List Unit = passing p (k + 1) rows in
      let same : filter p (numbered_rows (k + 1) rows) ≡ filter q (numbered_rows (k + 1) rows) = filter_same p q (k + 1) rows (λ x low. agree x (grind (arith, nat_tests))) in
      ap (with_units (unit_of sig (k, row.clause))) (split (p m) m (filter p (numbered_rows (k + 1) rows)) ∙ ap (λ (b : Bool). own b m ++ us) fails)
      ∙ all_in_front k row.clause (unit_side sig row.clause) us (from_lower k us (passing_from p (k + 1) rows))
      ∙ ap (λ (ms : List Member). unit_of sig (k, row.clause) ++ units sig (clause_rows ms)) same
      ∙ sym (split (q m) m (filter q (numbered_rows (k + 1) rows)) ∙ ap (λ (b : Bool). own b m ++ passing q (k + 1) rows) passes)

  past_own : (b : Bool) (n k : ℕ) (c : Clause) (row : Row) (us : List Unit) → k < n → with_units (unit_of sig (n, c)) (own b (record { number = k; row = row }) ++ us) ≡ own b (record { number = k; row = row }) ++ with_units (unit_of sig (n, c)) us
  past_own true n k c row us less = behind_one n k c row.clause (unit_side sig c) (unit_side sig row.clause) us less
  past_own false n k c row us less = refl

  on_test : (b : Bool) (p q : Member → Bool) (n k : ℕ) (r : Row) (rows : List Row) (row : Row) → (k == n) ≡ b → k ≤ n → slice_get (r ∷ rows) (n - k) ≡ Some row
      → p (record { number = n; row = row }) ≡ false → q (record { number = n; row = row }) ≡ true
      → ((m : Member) → (m.number == n) ≡ false → p m ≡ q m)
      → (k + 1 ≤ n → slice_get rows (n - (k + 1)) ≡ Some row → with_units (unit_of sig (n, row.clause)) (passing p (k + 1) rows) ≡ passing q (k + 1) rows)
      → with_units (unit_of sig (n, row.clause)) (passing p k (r ∷ rows)) ≡ passing q k (r ∷ rows)
  on_test true p q n k r rows row test low at_ fails passes agree next =
      let same : n ≡ k = grind (arith, nat_tests) in
      let none : n - k ≡ 0 = omega arith in
      let first : Some r ≡ Some row = sym (ap (slice_get (r ∷ rows)) none) ∙ at_ in
      let row_is : row ≡ r = cc in
      subst (λ (x : Row). with_units (unit_of sig (n, x.clause)) (passing p k (r ∷ rows)) ≡ passing q k (r ∷ rows)) (sym row_is)
      (subst (λ (x : ℕ). with_units (unit_of sig (x, r.clause)) (passing p k (r ∷ rows)) ≡ passing q k (r ∷ rows)) (sym same)
      (at_own p q k r rows
      (subst (λ (x : ℕ). p (record { number = x; row = r }) ≡ false) same (subst (λ (x : Row). p (record { number = n; row = x }) ≡ false) row_is fails))
      (subst (λ (x : ℕ). q (record { number = x; row = r }) ≡ true) same (subst (λ (x : Row). q (record { number = n; row = x }) ≡ true) row_is passes))
      (λ m e. agree m (subst (λ (x : ℕ). (m.number == x) ≡ false) (sym same) e))))
  on_test false p q n k r rows row test low at_ fails passes agree next =
      let m : Member = record { number = k; row = r } in
      let isnt : k ≢ n = grind (arith, nat_tests) in
      let less : k < n = omega arith in
      let far : n - k ≡ suc (n - (k + 1)) = omega arith in
      let there : slice_get rows (n - (k + 1)) ≡ Some row = sym (ap (slice_get (r ∷ rows)) far) ∙ at_ in
      ap (with_units (unit_of sig (n, row.clause))) (split (p m) m (filter p (numbered_rows (k + 1) rows)))
      ∙ past_own (p m) n k row.clause r (passing p (k + 1) rows) less
      ∙ ap (λ (us : List Unit). own (p m) m ++ us) (next (omega arith) there)
      ∙ ap (λ (b : Bool). own b m ++ passing q (k + 1) rows) (agree m test)
      ∙ sym (split (q m) m (filter q (numbered_rows (k + 1) rows)))

  inserted : (p q : Member → Bool) (n k : ℕ) (rows : List Row) (row : Row) → k ≤ n → slice_get rows (n - k) ≡ Some row
      → p (record { number = n; row = row }) ≡ false → q (record { number = n; row = row }) ≡ true
      → ((m : Member) → (m.number == n) ≡ false → p m ≡ q m) → with_units (unit_of sig (n, row.clause)) (passing p k rows) ≡ passing q k rows
  inserted p q n k [] row low at_ fails passes agree = absurd (cc)
  inserted p q n k (r ∷ rows) row low at_ fails passes agree = on_test (k == n) p q n k r rows row refl low at_ fails passes agree (λ more there. inserted p q n (k + 1) rows row more there fails passes agree)

  unless_none : (b : Bool) (n : ℕ) (rows : List Row) (row : Row) → (n == 0) ≡ b → (if b then None else slice_get rows (n - 1)) ≡ Some row → (1 ≤ n) × (slice_get rows (n - 1) ≡ Some row)
  unless_none true n rows row test is = absurd (cc)
  unless_none false n rows row test is = (let isnt : n ≢ 0 = grind (arith, nat_tests) in omega arith, is)

  -- no row has the number
  none_on : (p q : Member → Bool) (n k : ℕ) (rows : List Row) → ((m : Member) → (m.number == n) ≡ false → p m ≡ q m) → k + length rows ≤ n → filter p (numbered_rows k rows) ≡ filter q (numbered_rows k rows)
  none_on p q n k [] agree high = refl
  none_on p q n k (r ∷ rows) agree high =
      let m : Member = record { number = k; row = r } in
      let isnt : (k == n) ≡ false = grind (arith, nat_tests) in
      ap (λ (ms : List Member). if p m then m ∷ ms else ms) (none_on p q n (k + 1) rows agree (omega arith))
      ∙ ap (λ (b : Bool). if b then m ∷ filter q (numbered_rows (k + 1) rows) else filter q (numbered_rows (k + 1) rows)) (agree m isnt)

  get_none : (rows : List Row) (k : ℕ) → slice_get rows k ≡ None → length rows ≤ k
  get_none [] k is = omega arith
  get_none (r ∷ rows) zero is = absurd (cc)
  get_none (r ∷ rows) (suc k) is = let low : length rows ≤ k = get_none rows k is in omega arith

  nothing_on : (b : Bool) (p q : Member → Bool) (n : ℕ) (rows : List Row) → (n == 0) ≡ b → ((m : Member) → (m.number == n) ≡ false → p m ≡ q m)
      → (if b then None else slice_get rows (n - 1)) ≡ None → filter p (numbered_rows 1 rows) ≡ filter q (numbered_rows 1 rows)
  nothing_on true p q n rows test agree is = filter_same p q 1 rows (λ m low. agree m (grind (arith, nat_tests)))
  nothing_on false p q n rows test agree is =
      let isnt : n ≢ 0 = grind (arith, nat_tests) in
      let low : length rows ≤ n - 1 = get_none rows (n - 1) is in
      none_on p q n 1 rows agree (omega arith)

  nothing_there : (p q : Member → Bool) (n : ℕ) (rows : List Row) → ((m : Member) → (m.number == n) ≡ false → p m ≡ q m)
      → row_at rows n ≡ None → passing p 1 rows ≡ passing q 1 rows
  nothing_there p q n rows agree is = ap (λ (ms : List Member). units sig (clause_rows ms)) (nothing_on (n == 0) p q n rows refl agree is)

  something_there : (p q : Member → Bool) (n : ℕ) (rows : List Row) (row : Row) → row_at rows n ≡ Some row
      → p (record { number = n; row = row }) ≡ false → q (record { number = n; row = row }) ≡ true
      → ((m : Member) → (m.number == n) ≡ false → p m ≡ q m) → with_units (unit_of sig (n, row.clause)) (passing p 1 rows) ≡ passing q 1 rows
  something_there p q n rows row is fails passes agree =
      let at_ = unless_none (n == 0) n rows row refl is in
      inserted p q n 1 rows row at_.0 at_.1 fails passes agree

  filter_push : (p : Member → Bool) (ms : List Member) (m : Member) → p m ≡ false → filter p (ms ++ m ∷ []) ≡ filter p ms
  filter_push p [] m fails = ap (λ (b : Bool). if b then m ∷ [] else []) fails
  filter_push p (x ∷ ms) m fails = ap (λ (xs : List Member). if p x then x ∷ xs else xs) (filter_push p ms m fails)

or_true : (a b : Bool) → b ≡ true → (a || b) ≡ true
or_true true b is = refl
or_true false b is = is

-- one more number is chosen
agrees : (axioms : ℕ) (cs : List ℕ) (n : ℕ) (m : Member) → (m.number == n) ≡ false → is_processed axioms cs m ≡ is_processed axioms (cs ++ n ∷ []) m
agrees axioms cs n m isnt =
    let turned : (n == m.number) ≡ false = grind (arith, nat_tests) in
    ap (λ (b : Bool). nat_le m.number axioms || b) (sym (any_more (λ k. k == m.number) cs n ∙ ap (λ (b : Bool). was_chosen cs m.number || b) turned ∙ or_false (was_chosen cs m.number)))
  where
    or_false : (b : Bool) → (b || false) ≡ b
    or_false true = refl
    or_false false = refl

chosen_now : (axioms : ℕ) (cs : List ℕ) (n : ℕ) (m : Member) → (m.number == n) ≡ true → is_processed axioms (cs ++ n ∷ []) m ≡ true
chosen_now axioms cs n m is =
    let turned : (n == m.number) ≡ true = grind (arith, nat_tests) in
    or_true (nat_le m.number axioms) (was_chosen (cs ++ n ∷ []) m.number)
    (any_more (λ k. k == m.number) cs n ∙ or_true (was_chosen cs m.number) (n == m.number) turned)

again_on : (b : Bool) (axioms : ℕ) (cs : List ℕ) (n : ℕ) (m : Member) → (m.number == n) ≡ b → ((nat_le n axioms || was_chosen cs n) ≡ true) → is_processed axioms cs m ≡ is_processed axioms (cs ++ n ∷ []) m
again_on false axioms cs n m test is = agrees axioms cs n m test
again_on true axioms cs n m test is =
    let same : n ≡ m.number = grind (arith, nat_tests) in
    subst (λ (k : ℕ). (nat_le k axioms || was_chosen cs k) ≡ true) same is ∙ sym (chosen_now axioms cs n m test)

chosen_again : (sig : Signature) (axioms : ℕ) (rows : List Row) (cs : List ℕ) (n : ℕ) → ((nat_le n axioms || was_chosen cs n) ≡ true) → processed_units sig axioms rows cs ≡ processed_units sig axioms rows (cs ++ n ∷ [])
chosen_again sig axioms rows cs n is =
    ap (λ (ms : List Member). units sig (clause_rows ms)) (filter_same sig (is_processed axioms cs) (is_processed axioms (cs ++ n ∷ [])) 1 rows (λ m low. again_on (m.number == n) axioms cs n m refl is))

pub axiom_again : (sig : Signature) (axioms : ℕ) (rows : List Row) (cs : List ℕ) (n : ℕ) → n ≤ axioms → processed_units sig axioms rows cs ≡ processed_units sig axioms rows (cs ++ n ∷ [])
axiom_again sig axioms rows cs n low =
    let test : nat_le n axioms ≡ true = grind (arith, nat_tests) in
    chosen_again sig axioms rows cs n (ap (λ (b : Bool). b || was_chosen cs n) test)

pub choice_again : (sig : Signature) (axioms : ℕ) (rows : List Row) (cs : List ℕ) (n : ℕ) → was_chosen cs n ≡ true → processed_units sig axioms rows cs ≡ processed_units sig axioms rows (cs ++ n ∷ [])
choice_again sig axioms rows cs n is = chosen_again sig axioms rows cs n (or_true (nat_le n axioms) (was_chosen cs n) is)

pub none_chosen : (sig : Signature) (axioms : ℕ) (rows : List Row) (cs : List ℕ) (n : ℕ) → row_at rows n ≡ None → processed_units sig axioms rows cs ≡ processed_units sig axioms rows (cs ++ n ∷ [])
none_chosen sig axioms rows cs n is = nothing_there sig (is_processed axioms cs) (is_processed axioms (cs ++ n ∷ [])) n rows (agrees axioms cs n) is

pub one_chosen : (sig : Signature) (axioms : ℕ) (rows : List Row) (cs : List ℕ) (n : ℕ) (row : Row) (old new : List Unit) → row_at rows n ≡ Some row → axioms < n → was_chosen cs n ≡ false
    → old ≡ processed_units sig axioms rows cs → new ≡ with_units (unit_of sig (n, row.clause)) old → new ≡ processed_units sig axioms rows (cs ++ n ∷ [])
one_chosen sig axioms rows cs n row old new at_ high fresh is more =
    let test : nat_le n axioms ≡ false = grind (arith, nat_tests) in
    let equal : (n == n) ≡ true = grind (arith, nat_tests) in
    more ∙ ap (with_units (unit_of sig (n, row.clause))) is
    ∙ something_there sig (is_processed axioms cs) (is_processed axioms (cs ++ n ∷ [])) n rows row at_ (ap (λ (b : Bool). b || was_chosen cs n) test ∙ fresh)
    (chosen_now axioms cs n (record { number = n; row = row }) equal) (agrees axioms cs n)

-- one axiom row more
next_axiom : (i : ℕ) (m : Member) → (m.number == i + 1) ≡ false → is_processed i [] m ≡ is_processed (i + 1) [] m
next_axiom i m isnt = let same : nat_le m.number i ≡ nat_le m.number (i + 1) = grind (arith, nat_tests) in ap (λ (b : Bool). b || false) same

pub one_axiom : (sig : Signature) (rows : List Row) (i : ℕ) (row : Row) (old new : List Unit) → row_at rows (i + 1) ≡ Some row → old ≡ processed_units sig i rows []
    → new ≡ with_units (unit_of sig (i + 1, row.clause)) old → new ≡ processed_units sig (i + 1) rows []
one_axiom sig rows i row old new at_ is more =
    let fails : nat_le (i + 1) i ≡ false = grind (arith, nat_tests) in
    let passes : nat_le (i + 1) (i + 1) ≡ true = grind (arith, nat_tests) in
    more ∙ ap (with_units (unit_of sig (i + 1, row.clause))) is
    ∙ something_there sig (is_processed i []) (is_processed (i + 1) []) (i + 1) rows row at_ (ap (λ (b : Bool). b || false) fails) (ap (λ (b : Bool). b || false) passes) (next_axiom i)

pub no_axiom : (sig : Signature) (rows : List Row) (i : ℕ) (old : List Unit) → row_at rows (i + 1) ≡ None → old ≡ processed_units sig i rows [] → old ≡ processed_units sig (i + 1) rows []
no_axiom sig rows i old at_ is = is ∙ nothing_there sig (is_processed i []) (is_processed (i + 1) []) (i + 1) rows (next_axiom i) at_

none_yet : (k : ℕ) (rows : List Row) → 1 ≤ k → filter (is_processed 0 []) (numbered_rows k rows) ≡ []
none_yet k [] low = refl
none_yet k (r ∷ rows) low =
    let m : Member = record { number = k; row = r } in
    let fails : nat_le k 0 ≡ false = grind (arith, nat_tests) in
    ap (λ (ms : List Member). if is_processed 0 [] m then m ∷ ms else ms) (none_yet (k + 1) rows (omega arith))
    ∙ ap (λ (b : Bool). if b || false then m ∷ [] else []) fails

pub no_axioms : (sig : Signature) (rows : List Row) → [] ≡ processed_units sig 0 rows []
no_axioms sig rows = ap (λ (ms : List Member). units sig (clause_rows ms)) (sym (none_yet 1 rows (omega arith)))

pub ruleset processing = (common_steps, axiom_again, choice_again, none_chosen, one_chosen, one_axiom, no_axiom, no_axioms)

-- a row more that isn't processed
pub grown : (sig : Signature) (axioms : ℕ) (rows : List Row) (row : Row) (cs : List ℕ) → axioms ≤ length rows → ((n : ℕ) → length rows < n → was_chosen cs n ≡ false)
    → processed_units sig axioms (rows ++ row ∷ []) cs ≡ processed_units sig axioms rows cs
grown sig axioms rows row cs low fresh =
    let m : Member = record { number = 1 + length rows; row = row } in
    let test : nat_le (1 + length rows) axioms ≡ false = grind (arith, nat_tests) in
    let fails : is_processed axioms cs m ≡ false = ap (λ (b : Bool). b || was_chosen cs (1 + length rows)) test ∙ fresh (1 + length rows) (omega arith) in
    ap (λ (ms : List Member). units sig (clause_rows (filter (is_processed axioms cs) ms))) (numbered_push 1 rows row)
    ∙ ap (λ (ms : List Member). units sig (clause_rows ms)) (filter_push sig (is_processed axioms cs) (numbered_rows 1 rows) m fails)
