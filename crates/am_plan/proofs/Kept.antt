-- What a unit's parts keep: FORTRAN names, types in range, few arguments.
use Rattle.std.proofs.Common.{◌≡◌, ◌∙◌, inl, inr, ◌&&◌, ◌==◌, ◌≤◌, ◌++◌, ℕ, zero, suc, Bool, true, false, not, cond, refl, sym, ap, subst, arith, Option, Some, None, List, [], ◌∷◌, length, map, slice_get, slice_index_or, is_some, find, nat_le, true≢false, if◌then◌else◌}
use Rattle.std.specs.List.{AllByRecursion, filter, flat_map, list_all}
use Rattle.std.proofs.lemmas.Bool.Decides.{nat_tests}
use Rattle.std.proofs.lemmas.List.Folds.{list_all-append}
use Rattle.am_term.specs.declared.id.SortId.{SortId}
use Rattle.am_term.specs.declared.term.Term.{Term}
use Rattle.am_term.specs.Names.{is_upper, is_digit, is_fortran_byte, is_fortran_name, is_local_name}
use Rattle.am_term.specs.Same.{same_term}
use Rattle.am_term.proofs.Alike.{same_term-refl}
use Rattle.am_term.proofs.Tests.{and_left, and_right, and_both, and_assoc, or_right, never_both}
use Rattle.am_clause.specs.Distinct.{distinct}
use Rattle.am_theory.specs.declared.theory.Rep.{Rep}
use Rattle.am_theory.specs.declared.theory.Rep.TheVariants as rep
use Rattle.am_theory.specs.declared.theory.LitValue.{LitValue}
use Rattle.am_theory.specs.declared.theory.LitValue.TheVariants as value
use Rattle.am_theory.specs.Faults.{is_free_name, suits}
use Rattle.am_theory.specs.Facts.{is_in_range, is_array, is_value}
use Rattle.am_diagram.specs.Facts.{IsFree}
use Rattle.am_theory.specs.declared.theory.Theory.{Theory}
use Rattle.am_diagram.specs.Listed.{entry_names}
use Rattle.am_fortran.specs.Well.{is_between, is_type, is_unit_text_byte, is_operand}
use Rattle.am_exec.specs.Types.{dummy_type, local_type, is_scalar}
use Rattle.am_plan.specs.Names.{digit, local_name, output_for, Named, named_by, local_by, locals, name_of_term}
use Rattle.am_plan.specs.Numbering.{next_local, named_from}
use Rattle.am_plan.specs.Plan.{written_value}
use Rattle.am_plan.proofs.Membership.{Among}

-- ---- all of a list
pub all-each : {A : Type 0} (p : A → Bool) (xs : List A) → ((x : A) → Among x xs → p x ≡ true) → list_all p xs ≡ true
all-each {A = A} p [] h = refl
all-each {A = A} p (x ∷ xs) h = and_both (p x) (list_all p xs) (h x (inl refl)) (all-each p xs (λ y m. h y (inr m)))

pub all-map : {A B : Type 0} (p : B → Bool) (f : A → B) (xs : List A) → ((x : A) → Among x xs → p (f x) ≡ true) → list_all p (map f xs) ≡ true
all-map {A = A} {B = B} p f [] h = refl
all-map {A = A} {B = B} p f (x ∷ xs) h = and_both (p (f x)) (list_all p (map f xs)) (h x (inl refl)) (all-map p f xs (λ y m. h y (inr m)))

pub all-flat-map : {A B : Type 0} (p : B → Bool) (f : A → List B) (xs : List A) → ((x : A) → Among x xs → list_all p (f x) ≡ true) → list_all p (flat_map f xs) ≡ true
all-flat-map {A = A} {B = B} p f [] h = refl
all-flat-map {A = A} {B = B} p f (x ∷ xs) h = list_all-append p (f x) (flat_map f xs) ∙ and_both (list_all p (f x)) (list_all p (flat_map f xs)) (h x (inl refl)) (all-flat-map p f xs (λ y m. h y (inr m)))

pub all-append : {A : Type 0} (p : A → Bool) (xs ys : List A) → list_all p xs ≡ true → list_all p ys ≡ true → list_all p (xs ++ ys) ≡ true
all-append {A = A} p xs ys e f = list_all-append p xs ys ∙ and_both (list_all p xs) (list_all p ys) e f

pub all-member : {A : Type 0} (p : A → Bool) (x : A) (xs : List A) → list_all p xs ≡ true → Among x xs → p x ≡ true
all-member {A = A} p x [] e m = absurd m
all-member {A = A} p x (y ∷ ys) e (inl is) = subst (λ (z : A). p z ≡ true) (sym is) (and_left (p y) (list_all p ys) e)
all-member {A = A} p x (y ∷ ys) e (inr m) = all-member p x ys (and_right (p y) (list_all p ys) e) m

all-filter : {A : Type 0} (p q : A → Bool) (xs : List A) → list_all p xs ≡ true → list_all p (filter q xs) ≡ true
all-filter {A = A} p q [] e = refl
all-filter {A = A} p q (x ∷ xs) e = by_test (q x) (all-filter p q xs (and_right (p x) (list_all p xs) e))
  where
    by_test : (b : Bool) → list_all p (filter q xs) ≡ true → list_all p (cond b (x ∷ filter q xs) (filter q xs)) ≡ true
    by_test true h = and_both (p x) (list_all p (filter q xs)) (and_left (p x) (list_all p xs) e) h
    by_test false h = h

pub all-distinct : {A : Type 0} (same : A → A → Bool) (p : A → Bool) (xs : List A) → list_all p xs ≡ true → list_all p (distinct same xs) ≡ true
all-distinct {A = A} same p [] e = refl
all-distinct {A = A} same p (x ∷ xs) e = and_both (p x) (list_all p (filter (λ y. not (same x y)) (distinct same xs))) (and_left (p x) (list_all p xs) e) (all-filter p (λ y. not (same x y)) (distinct same xs) (all-distinct same p xs (and_right (p x) (list_all p xs) e)))

pub all-at : {A : Type 0} (P : A → Type 0) (xs : List A) (i : ℕ) (x : A) → AllByRecursion P xs → slice_get xs i ≡ Some x → P x
all-at {A = A} P [] i x h at = absurd cc
all-at {A = A} P (z ∷ zs) zero x h at = let same : z ≡ x = cc in subst P same h.0
all-at {A = A} P (z ∷ zs) (suc i) x h at = all-at P zs i x h.1 at

pub find-among : {A : Type 0} (p : A → Bool) (xs : List A) (x : A) → find p xs ≡ Some x → Among x xs
find-among {A = A} p [] x e = absurd cc
find-among {A = A} p (y ∷ ys) x e = by_test (p y) refl e (find-among p ys x)
  where
    by_test : (b : Bool) → p y ≡ b → cond (p y) (Some y) (find p ys) ≡ Some x → (find p ys ≡ Some x → Among x ys) → Among x (y ∷ ys)
    by_test true h i later = let j : Some y ≡ Some x = sym (ap (λ (b : Bool). cond b (Some y) (find p ys)) h) ∙ i in let is : y ≡ x = cc in inl (sym is)
    by_test false h i later = inr (later (sym (ap (λ (b : Bool). cond b (Some y) (find p ys)) h) ∙ i))

-- ---- FORTRAN names
pub free-fortran : (n : List ℕ) → is_free_name n ≡ true → is_fortran_name n ≡ true
free-fortran n e = and_left (is_fortran_name n) (not (is_local_name n)) e

pub free-all : (t : Theory) (ns : List (List ℕ)) → AllByRecursion (λ n. IsFree t n) ns → list_all is_fortran_name ns ≡ true
free-all t [] h = refl
free-all t (n ∷ ns) h = and_both (is_fortran_name n) (list_all is_fortran_name ns) h.0.fortran (free-all t ns h.1)

low-digit : (b : ℕ) → 48 ≤ b → b ≤ 57 → is_fortran_byte b ≡ true
low-digit b h k = or_right (is_upper b) (is_digit b) (and_both (nat_le 48 b) (nat_le b 57) (grind (arith, nat_tests)) (grind (arith, nat_tests)))

digit-fortran : (n power : ℕ) → is_fortran_byte (digit n power) ≡ true
digit-fortran n power = low-digit (digit n power) (omega arith) (omega arith)

five : (a b c d e : Bool) → a ≡ true → b ≡ true → c ≡ true → d ≡ true → e ≡ true → (a && (b && (c && (d && (e && true))))) ≡ true
five a b c d e p q r s u = rw (p, q, r, s, u) refl

pub local-fortran : (n : ℕ) → is_fortran_name (local_name n) ≡ true
unfolding is_fortran_name
local-fortran n =
    let digits = digit n 10000 ∷ digit n 1000 ∷ digit n 100 ∷ digit n 10 ∷ digit n 1 ∷ [] in
    let bytes : list_all is_fortran_byte digits ≡ true = five (is_fortran_byte (digit n 10000)) (is_fortran_byte (digit n 1000)) (is_fortran_byte (digit n 100)) (is_fortran_byte (digit n 10)) (is_fortran_byte (digit n 1)) (digit-fortran n 10000) (digit-fortran n 1000) (digit-fortran n 100) (digit-fortran n 10) (digit-fortran n 1) in
    and_both (list_all is_fortran_byte digits) true bytes refl

pub output-fortran : (x : Term) (os : List (List ℕ × SortId)) (as_ : List Term) (n : List ℕ) → list_all is_fortran_name (entry_names os) ≡ true → output_for x os as_ ≡ Some n → is_fortran_name n ≡ true
output-fortran x [] as_ n all e = absurd cc
output-fortran x (o ∷ os) [] n all e = absurd cc
output-fortran x (o ∷ os) (a ∷ as_) n all e = by_test (same_term x a) refl e (output-fortran x os as_ n (and_right (is_fortran_name o.0) (list_all is_fortran_name (entry_names os)) all))
  where
    by_test : (b : Bool) → same_term x a ≡ b → (if same_term x a then Some o.0 else output_for x os as_) ≡ Some n → (output_for x os as_ ≡ Some n → is_fortran_name n ≡ true) → is_fortran_name n ≡ true
    by_test true h i later =
        let j : Some o.0 ≡ Some n = sym (ap (λ (b : Bool). cond b (Some o.0) (output_for x os as_)) h) ∙ i in
        let is : o.0 ≡ n = cc in
        subst (λ (m : List ℕ). is_fortran_name m ≡ true) is (and_left (is_fortran_name o.0) (list_all is_fortran_name (entry_names os)) all)
    by_test false h i later = later (sym (ap (λ (b : Bool). cond b (Some o.0) (output_for x os as_)) h) ∙ i)

entry-fortran : (o : Option (List ℕ)) (k : ℕ) (x : Term) → ((n : List ℕ) → o ≡ Some n → is_fortran_name n ≡ true) → is_fortran_name (named_by o k x).0 ≡ true
entry-fortran None k x h = local-fortran k
entry-fortran (Some n) k x h = h n refl

entry-term : (o : Option (List ℕ)) (k : ℕ) (x : Term) → (named_by o k x).1 ≡ x
entry-term None k x = refl
entry-term (Some n) k x = refl

module _ (os : List (List ℕ × SortId)) (answer : List Term) (all : list_all is_fortran_name (entry_names os) ≡ true) where
  pub named-all : (k : ℕ) (xs : List Term) → list_all (λ (e : Named). is_fortran_name e.0) (named_from k os answer xs) ≡ true
  named-all k [] = refl
  named-all k (x ∷ xs) =
      let o = output_for x os answer in
      and_both (is_fortran_name (named_by o k x).0) (list_all (λ (e : Named). is_fortran_name e.0) (named_from (next_local o k) os answer xs))
      (entry-fortran o k x (λ n e. output-fortran x os answer n all e))
      (named-all (next_local o k) xs)

  pub name-fortran : (k : ℕ) (xs : List Term) (x : Term) → Among x xs → is_fortran_name (name_of_term (named_from k os answer xs) x) ≡ true
  name-fortran k [] x m = absurd m
  name-fortran k (y ∷ ys) x m = by_test (same_term first.1 x) refl m (name-fortran (next_local o k) ys x)
    where
      o : Option (List ℕ)
      o = output_for y os answer

      first : Named
      first = named_by o k y

      rest : List Named
      rest = named_from (next_local o k) os answer ys

      found : is_fortran_name first.0 ≡ true
      found = entry-fortran o k y (λ n e. output-fortran y os answer n all e)

      by_test : (b : Bool) → same_term first.1 x ≡ b → Among x (y ∷ ys) → (Among x ys → is_fortran_name (name_of_term rest x) ≡ true) → is_fortran_name (if same_term first.1 x then first.0 else name_of_term rest x) ≡ true
      by_test true h m later = ap (λ (b : Bool). is_fortran_name (if b then first.0 else name_of_term rest x)) h ∙ found
      by_test false h (inl is) later = never_both (same_term first.1 x) (subst (λ (z : Term). same_term first.1 z ≡ true) (entry-term o k y ∙ sym is) (same_term-refl first.1)) h
      by_test false h (inr m) later = ap (λ (b : Bool). is_fortran_name (if b then first.0 else name_of_term rest x)) h ∙ later m

  pub locals-all : (es : List Named) → list_all (λ (e : Named). is_fortran_name e.0) es ≡ true → list_all (λ (e : Named). is_fortran_name e.0) (locals os answer es) ≡ true
  locals-all [] e = refl
  locals-all (x ∷ xs) e = all-append (λ (y : Named). is_fortran_name y.0) (local_by (output_for x.1 os answer) x) (locals os answer xs) (by_output (output_for x.1 os answer)) (locals-all xs (and_right (is_fortran_name x.0) (list_all (λ (y : Named). is_fortran_name y.0) xs) e))
    where
      by_output : (o : Option (List ℕ)) → list_all (λ (y : Named). is_fortran_name y.0) (local_by o x) ≡ true
      by_output None = and_both (is_fortran_name x.0) true (and_left (is_fortran_name x.0) (list_all (λ (y : Named). is_fortran_name y.0) xs) e) refl
      by_output (Some n) = refl

-- the name of an input that has a sort
pub input-fortran : (es : List (List ℕ × SortId)) (k : ℕ) → list_all is_fortran_name (entry_names es) ≡ true → is_some (slice_get (map (λ (e : List ℕ × SortId). e.1) es) k) ≡ true → is_fortran_name (slice_index_or (entry_names es) k []) ≡ true
input-fortran [] k all e = absurd (true≢false (sym e))
input-fortran (x ∷ es) zero all e = and_left (is_fortran_name x.0) (list_all is_fortran_name (entry_names es)) all
input-fortran (x ∷ es) (suc k) all e = input-fortran es k (and_right (is_fortran_name x.0) (list_all is_fortran_name (entry_names es)) all) e

-- ---- values
-- what stands in a text of a theory
abbrev is_byte_of_text : ℕ → Bool
is_byte_of_text b = nat_le 32 b && (nat_le b 126 && (not (b == 34) && not (b == 39)))

text-byte : (b : ℕ) → is_unit_text_byte b ≡ is_byte_of_text b
text-byte b = and_assoc (nat_le 32 b) (nat_le b 126) (not (b == 34) && not (b == 39))

text-bytes : (bs : List ℕ) → list_all is_byte_of_text bs ≡ true → list_all is_unit_text_byte bs ≡ true
text-bytes [] e = refl
text-bytes (b ∷ bs) e = and_both (is_unit_text_byte b) (list_all is_unit_text_byte bs) (text-byte b ∙ and_left (is_byte_of_text b) (list_all is_byte_of_text bs) e) (text-bytes bs (and_right (is_byte_of_text b) (list_all is_byte_of_text bs) e))

text-length : (x : List ℕ) (r : Option Rep) → suits (value.Text x) r ≡ true → is_between 1 32 (length x) ≡ true
text-length x None e = absurd (true≢false (sym e))
text-length x (Some rep.Double) e = absurd (true≢false (sym e))
text-length x (Some rep.Integer) e = absurd (true≢false (sym e))
text-length x (Some rep.Logical) e = absurd (true≢false (sym e))
text-length x (Some (rep.Char n)) e =
    let low = nat_le 1 (length x) in
    let high = nat_le (length x) 32 in
    and_both low high (and_left low (high && nat_le (length x) n) e) (and_left high (nat_le (length x) n) (and_right low (high && nat_le (length x) n) e))
text-length x (Some (rep.DoubleVec m)) e = absurd (true≢false (sym e))
text-length x (Some (rep.DoubleMat m n)) e = absurd (true≢false (sym e))
text-length x (Some (rep.IntegerVec m)) e = absurd (true≢false (sym e))

pub value-well : (v : LitValue) (r : Option Rep) → suits v r ≡ true → is_value v ≡ true → is_operand (written_value v) ≡ true
value-well (value.Int z) r s e = refl
value-well (value.Text x) r s e = and_both (list_all is_unit_text_byte x) (is_between 1 32 (length x)) (text-bytes x e) (text-length x r s)

-- ---- types
pub dummy-typed : (r : Rep) → is_in_range r ≡ true → is_type (dummy_type r) ≡ true
dummy-typed rep.Double e = refl
dummy-typed rep.Integer e = refl
dummy-typed rep.Logical e = refl
dummy-typed (rep.Char n) e = refl
dummy-typed (rep.DoubleVec m) e = e
dummy-typed (rep.DoubleMat m n) e = e
dummy-typed (rep.IntegerVec m) e = e

pub local-typed : (r : Rep) → is_in_range r ≡ true → is_type (local_type r) ≡ true
local-typed rep.Double e = refl
local-typed rep.Integer e = refl
local-typed rep.Logical e = refl
local-typed (rep.Char n) e = e
local-typed (rep.DoubleVec m) e = e
local-typed (rep.DoubleMat m n) e = e
local-typed (rep.IntegerVec m) e = e

pub array-not-scalar : (r : Rep) → not (is_scalar r) ≡ is_array r
array-not-scalar rep.Double = refl
array-not-scalar rep.Integer = refl
array-not-scalar rep.Logical = refl
array-not-scalar (rep.Char n) = refl
array-not-scalar (rep.DoubleVec m) = refl
array-not-scalar (rep.DoubleMat m n) = refl
array-not-scalar (rep.IntegerVec m) = refl
