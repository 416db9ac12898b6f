-- How many rows wait, and that the search ends.
use Rattle.std.specs.Prelude.{Bool, ℕ, ◌≤◌, true, false, List, length, ◌∷◌, ◌≡◌, ◌+◌, ◌++◌, [], suc, ◌≢◌, ◌<◌, ◌==◌, ◌&&◌, not, ◌||◌, map, Some, zero, Option, None, ◌*◌, ◌-◌, if◌then◌else◌}
use Rattle.std.proofs.Common.{arith, ap, ◌∙◌, refl, sym, nat_eq, ◌⊎◌, inl, inr}
use Rattle.std.proofs.lemmas.Bool.Decides.{nat_tests}
use Rattle.std.proofs.lemmas.List.{length-append, length-map}
use Rattle.std.proofs.lemmas.List.Elements.{filter-append}
use Rattle.std.specs.List.{filter, list_any}
use Rattle.am_clause.specs.declared.row.Row.{Row}
use Rattle.am_search.proofs.Entered.{prepare_left}
use Rattle.am_search.proofs.Marked.{any_more}
use Rattle.am_search.proofs.Standing.{due_by}
use Rattle.am_search.specs.Marks.{was_chosen, keeps, was_kept, is_kept}
use Rattle.am_search.specs.Members.{Member, numbered_rows, is_waiting, shown, waiting, row_at}
use Rattle.am_search.specs.Outcomes.{due_kind, advanced}
use Rattle.am_search.specs.Plain.{picked_at, Judged, prepare, fate_of, when_quiet, begun, start_prepared, next_start, row_judged, settled, Reading, after, Infer, wait_of, due_of, Choose}
use Rattle.am_search.specs.Rules.{Rules}
use Rattle.am_search.specs.Searching.{work}
use Rattle.am_simplify.specs.NormalStep.{goes}
use Rattle.am_search.specs.declared.fate.Fate.TheVariants.{Last}
use Rattle.am_search.specs.declared.fate.Kind.TheVariants.{Inferring}
use Rattle.am_search.specs.declared.fate.Prepared.{Prepared}
use Rattle.am_search.specs.declared.fate.Stage.{Stage}
use Rattle.am_search.specs.declared.fate.Stage.TheVariants.{Quiet, Makes, Closes, Ended}
use Rattle.am_term.specs.Place.{place}

abbrev bit : Bool → ℕ
bit b = if b then 1 else 0

bit_most : (b : Bool) → bit b ≤ 1
bit_most true = omega arith
bit_most false = omega arith

abbrev many : (Member → Bool) → List Member → ℕ
many q xs = length (filter q xs)

length_if : (b : Bool) (x : Member) (xs : List Member) → length (if b then x ∷ xs else xs) ≡ bit b + length xs
length_if true x xs = omega arith
length_if false x xs = omega arith

many_cons : (q : Member → Bool) (x : Member) (xs : List Member) → many q (x ∷ xs) ≡ bit (q x) + many q xs
many_cons q x xs = length_if (q x) x (filter q xs)

-- one more row
many_push : (q : Member → Bool) (xs : List Member) (x : Member) → many q (xs ++ x ∷ []) ≤ many q xs + 1
many_push q xs x =
    let parts : many q (xs ++ x ∷ []) ≡ length (filter q xs ++ filter q (x ∷ [])) = ap (λ (ys : List Member). length ys) (filter-append q xs (x ∷ [])) in
    let sum_ : length (filter q xs ++ filter q (x ∷ [])) ≡ many q xs + many q (x ∷ []) = length-append (filter q xs) (filter q (x ∷ [])) in
    let one : many q (x ∷ []) ≡ bit (q x) + 0 = many_cons q x [] in
    let most : bit (q x) ≤ 1 = bit_most (q x) in
    omega arith

pub numbered_push : (n : ℕ) (rs : List Row) (row : Row) → numbered_rows n (rs ++ row ∷ []) ≡ numbered_rows n rs ++ (record { number = n + length rs; row = row }) ∷ []
numbered_push n [] row = ap (λ (k : ℕ). record { number = k; row = row } ∷ []) (omega arith)
numbered_push n (r ∷ rs) row =
    let same : (n + 1) + length rs ≡ n + suc (length rs) = omega arith in
    ap (λ (ms : List Member). (record { number = n; row = r }) ∷ ms) (numbered_push (n + 1) rs row ∙ ap (λ (k : ℕ). numbered_rows (n + 1) rs ++ (record { number = k; row = row }) ∷ []) same)

abbrev waits_many : List Row → List Prepared → List ℕ → ℕ
waits_many rs fates ns = many (is_waiting fates ns) (numbered_rows 1 rs)

row_more : (rs : List Row) (row : Row) (fates : List Prepared) (ns : List ℕ) → waits_many (rs ++ row ∷ []) fates ns ≤ waits_many rs fates ns + 1
row_more rs row fates ns =
    let same : waits_many (rs ++ row ∷ []) fates ns ≡ many (is_waiting fates ns) (numbered_rows 1 rs ++ (record { number = 1 + length rs; row = row }) ∷ []) = ap (many (is_waiting fates ns)) (numbered_push 1 rs row) in
    let less : many (is_waiting fates ns) (numbered_rows 1 rs ++ (record { number = 1 + length rs; row = row }) ∷ []) ≤ waits_many rs fates ns + 1 = many_push (is_waiting fates ns) (numbered_rows 1 rs) (record { number = 1 + length rs; row = row }) in
    omega arith

-- tests that differ at one number
module _ (p q : Member → Bool) (k : ℕ) (same : (r : Member) → r.number ≢ k → p r ≡ q r) where
  beyond : (m : ℕ) (rs : List Row) → k < m → many p (numbered_rows m rs) ≡ many q (numbered_rows m rs)
  beyond m [] h = refl
  beyond m (r ∷ rs) h =
      let x : Member = record { number = m; row = r } in
      let isnt : m ≢ k = omega arith in
      let head : bit (p x) ≡ bit (q x) = ap bit (same x isnt) in
      let tail : many p (numbered_rows (m + 1) rs) ≡ many q (numbered_rows (m + 1) rs) = beyond (m + 1) rs (omega arith) in
      many_cons p x (numbered_rows (m + 1) rs) ∙ ap (λ (n : ℕ). n + many p (numbered_rows (m + 1) rs)) head ∙ ap (λ (n : ℕ). bit (q x) + n) tail ∙ sym (many_cons q x (numbered_rows (m + 1) rs))

  grown_at : (m : ℕ) (r : Row) (rs : List Row) → (b : Bool) → nat_eq m k ≡ b → many p (numbered_rows (m + 1) rs) ≤ many q (numbered_rows (m + 1) rs) + 1 → many p (numbered_rows m (r ∷ rs)) ≤ many q (numbered_rows m (r ∷ rs)) + 1
  grown_at m r rs true is less =
      let x : Member = record { number = m; row = r } in
      let here_ : m ≡ k = grind (arith, nat_tests) in
      let tail : many p (numbered_rows (m + 1) rs) ≡ many q (numbered_rows (m + 1) rs) = beyond (m + 1) rs (omega arith) in
      let left_ : many p (numbered_rows m (r ∷ rs)) ≡ bit (p x) + many p (numbered_rows (m + 1) rs) = many_cons p x (numbered_rows (m + 1) rs) in
      let right_ : many q (numbered_rows m (r ∷ rs)) ≡ bit (q x) + many q (numbered_rows (m + 1) rs) = many_cons q x (numbered_rows (m + 1) rs) in
      let most : bit (p x) ≤ 1 = bit_most (p x) in
      omega arith
  grown_at m r rs false is less =
      let x : Member = record { number = m; row = r } in
      let isnt : m ≢ k = grind (arith, nat_tests) in
      let head : bit (p x) ≡ bit (q x) = ap bit (same x isnt) in
      let left_ : many p (numbered_rows m (r ∷ rs)) ≡ bit (p x) + many p (numbered_rows (m + 1) rs) = many_cons p x (numbered_rows (m + 1) rs) in
      let right_ : many q (numbered_rows m (r ∷ rs)) ≡ bit (q x) + many q (numbered_rows (m + 1) rs) = many_cons q x (numbered_rows (m + 1) rs) in
      omega arith

  grown : (m : ℕ) (rs : List Row) → many p (numbered_rows m rs) ≤ many q (numbered_rows m rs) + 1
  grown m [] = omega arith
  grown m (r ∷ rs) = grown_at m r rs (nat_eq m k) refl (grown (m + 1) rs)

kept_apart : (fates : List Prepared) (p : Prepared) (ns : List ℕ) (r : Member) → r.number ≢ p.number → is_waiting (fates ++ p ∷ []) ns r ≡ is_waiting fates ns r
kept_apart fates p ns r isnt =
    let test : (p.number == r.number) ≡ false = grind (arith, nat_tests) in
    ap (λ (b : Bool). b && not (was_chosen ns r.number)) (any_more (keeps r.number) fates p ∙ ap (λ (b : Bool). was_kept fates r.number || (b && is_kept p.fate)) test ∙ or_none (was_kept fates r.number)) where
      or_none : (b : Bool) → (b || false) ≡ b
      or_none true = refl
      or_none false = refl

fate_more : (rs : List Row) (fates : List Prepared) (p : Prepared) (ns : List ℕ) → waits_many rs (fates ++ p ∷ []) ns ≤ waits_many rs fates ns + 1
fate_more rs fates p ns = grown (is_waiting (fates ++ p ∷ []) ns) (is_waiting fates ns) p.number (kept_apart fates p ns) 1 rs

-- a member that is taken out
less_bit : (a b : Bool) → bit (a && not b) ≤ bit a
less_bit true true = omega arith
less_bit true false = omega arith
less_bit false b = omega arith

out_bit : (a b : Bool) → (a && b) ≡ true → bit (a && not b) + 1 ≤ bit a
out_bit true true is = omega arith
out_bit true false is = absurd (cc)
out_bit false b is = absurd (cc)

either : (b d : Bool) → (b || d) ≡ true → (b ≡ true) ⊎ (d ≡ true)
either true d is = inl refl
either false d is = inr is

true_right : (b : Bool) → (b || true) ≡ true
true_right true = refl
true_right false = refl

module _ (p q : Member → Bool) (n : ℕ) (is_out : (r : Member) → p r ≡ (q r && not (n == r.number))) where
  abbrev is_it : Member → Bool
  is_it r = q r && (n == r.number)

  no_more : (xs : List Member) → many p xs ≤ many q xs
  no_more [] = omega arith
  no_more (x ∷ xs) =
      let left_ : many p (x ∷ xs) ≡ bit (p x) + many p xs = many_cons p x xs in
      let right_ : many q (x ∷ xs) ≡ bit (q x) + many q xs = many_cons q x xs in
      let head : bit (p x) ≡ bit (q x && not (n == x.number)) = ap bit (is_out x) in
      let less : bit (q x && not (n == x.number)) ≤ bit (q x) = less_bit (q x) (n == x.number) in
      let tail : many p xs ≤ many q xs = no_more xs in
      omega arith

  strictly_at : (x : Member) (xs : List Member) → (list_any is_it xs ≡ true → many p xs + 1 ≤ many q xs) → (is_it x ≡ true) ⊎ (list_any is_it xs ≡ true) → many p (x ∷ xs) + 1 ≤ many q (x ∷ xs)
  strictly_at x xs next (inl h) =
      let left_ : many p (x ∷ xs) ≡ bit (p x) + many p xs = many_cons p x xs in
      let right_ : many q (x ∷ xs) ≡ bit (q x) + many q xs = many_cons q x xs in
      let head : bit (p x) ≡ bit (q x && not (n == x.number)) = ap bit (is_out x) in
      let less : bit (q x && not (n == x.number)) + 1 ≤ bit (q x) = out_bit (q x) (n == x.number) h in
      let tail : many p xs ≤ many q xs = no_more xs in
      omega arith
  strictly_at x xs next (inr h) =
      let left_ : many p (x ∷ xs) ≡ bit (p x) + many p xs = many_cons p x xs in
      let right_ : many q (x ∷ xs) ≡ bit (q x) + many q xs = many_cons q x xs in
      let head : bit (p x) ≡ bit (q x && not (n == x.number)) = ap bit (is_out x) in
      let less : bit (q x && not (n == x.number)) ≤ bit (q x) = less_bit (q x) (n == x.number) in
      let tail : many p xs + 1 ≤ many q xs = next h in
      omega arith

  strictly : (xs : List Member) → list_any is_it xs ≡ true → many p xs + 1 ≤ many q xs
  strictly [] is = absurd (cc)
  strictly (x ∷ xs) is = strictly_at x xs (strictly xs) (either (is_it x) (list_any is_it xs) is)

  picked_on : (most : ℕ) (x : Member) (xs : List Member) (b : Bool) (place : ℕ) → q x ≡ b
      → ((k : ℕ) → picked_at (map (shown most) (filter q xs)) k ≡ Some n → list_any is_it xs ≡ true)
      → picked_at (map (shown most) (if b then x ∷ filter q xs else filter q xs)) place ≡ Some n → list_any is_it (x ∷ xs) ≡ true
  picked_on most x xs true zero is later h =
      let number : x.number ≡ n = cc in
      let test : (n == x.number) ≡ true = grind (arith, nat_tests) in
      ap (λ (b : Bool). (b && (n == x.number)) || list_any is_it xs) is ∙ ap (λ (b : Bool). b || list_any is_it xs) test
  picked_on most x xs true (suc place) is later h = ap (λ (b : Bool). is_it x || b) (later place h) ∙ true_right (is_it x)
  picked_on most x xs false place is later h = ap (λ (b : Bool). is_it x || b) (later place h) ∙ true_right (is_it x)

  picked_it : (most : ℕ) (xs : List Member) (place : ℕ) → picked_at (map (shown most) (filter q xs)) place ≡ Some n → list_any is_it xs ≡ true
  picked_it most [] place h = absurd (cc)
  picked_it most (x ∷ xs) place h = picked_on most x xs (q x) place refl (picked_it most xs) h

and_or : (a b d : Bool) → (a && not (b || d)) ≡ ((a && not b) && not d)
and_or true true d = refl
and_or true false d = refl
and_or false b d = refl

taken_out : (fates : List Prepared) (ns : List ℕ) (n : ℕ) (r : Member) → is_waiting fates (ns ++ n ∷ []) r ≡ (is_waiting fates ns r && not (n == r.number))
taken_out fates ns n r =
    ap (λ (b : Bool). was_kept fates r.number && not b) (any_more (λ (m : ℕ). m == r.number) ns n)
    ∙ and_or (was_kept fates r.number) (was_chosen ns r.number) (n == r.number)

choice_more : (most : ℕ) (rs : List Row) (fates : List Prepared) (ns : List ℕ) (n place : ℕ) → picked_at (waiting most rs fates ns) place ≡ Some n
    → waits_many rs fates (ns ++ n ∷ []) + 1 ≤ waits_many rs fates ns
choice_more most rs fates ns n place is =
    strictly (is_waiting fates (ns ++ n ∷ [])) (is_waiting fates ns) n (taken_out fates ns n) (numbered_rows 1 rs)
    (picked_it (is_waiting fates (ns ++ n ∷ [])) (is_waiting fates ns) n (taken_out fates ns n) most (numbered_rows 1 rs) place is)

-- what is left to prepare, and the rows that wait
module _ (c : Rules) (rs : List Row) (ns : List ℕ) where
  abbrev open_ : Judged → ℕ
  open_ j = j.left + waits_many rs j.fates ns

  prepare_open : (n : ℕ) (o : Option Row) (j : Judged) → open_ (prepare c rs ns n o j) ≤ open_ j + 1
  prepare_open n None j = omega arith
  prepare_open n (Some row) j =
      let more : waits_many rs (j.fates ++ (record { number = n; fate = (fate_of c rs ns j.fates n row).0 }) ∷ []) ns ≤ waits_many rs j.fates ns + 1 = fate_more rs j.fates (record { number = n; fate = (fate_of c rs ns j.fates n row).0 }) ns in
      omega arith

  when_open : (s : Stage) (j k : Judged) (most : ℕ) → open_ j ≤ most → open_ k ≤ most → open_ (when_quiet s j k) ≤ most
  when_open Quiet j k most a b = a
  when_open (Makes row) j k most a b = b
  when_open (Closes row) j k most a b = b
  when_open (Ended e) j k most a b = b

  begun_open : (left : ℕ) (j : Judged) → j.left ≡ left → open_ (begun c rs ns left j) ≤ open_ j
  begun_open zero j is = omega arith
  begun_open (suc left) j is =
      let start_ : Judged = start_prepared c rs ns left j in
      let less : open_ (begun c rs ns left start_) ≤ open_ start_ = begun_open left start_ (prepare_left c rs ns (next_start c j.left) (row_at rs (next_start c j.left)) (record j { left = left })) in
      let more : open_ start_ ≤ open_ (record j { left = left }) + 1 = prepare_open (next_start c j.left) (row_at rs (next_start c j.left)) (record j { left = left }) in
      when_open j.stage (begun c rs ns left start_) j (open_ j) (omega arith) (omega arith)

  joined_open : (n : ℕ) (row : Row) (s : Stage) (j : Judged) → open_ (row_judged c rs ns n row s j) ≤ open_ j + 1
  joined_open n row Quiet j = prepare_open n (Some row) j
  joined_open n row (Makes r) j = prepare_open n (Some row) j
  joined_open n row (Closes r) j = let more : waits_many rs (j.fates ++ (record { number = n; fate = Last }) ∷ []) ns ≤ waits_many rs j.fates ns + 1 = fate_more rs j.fates (record { number = n; fate = Last }) ns in omega arith
  joined_open n row (Ended b) j = omega arith

  settled_open : (n : ℕ) (row : Row) (j : Judged) → open_ (settled c rs ns n row j) ≤ open_ j + 1
  settled_open n row j =
      let k : Judged = row_judged c rs ns n row j.stage j in
      let less : open_ (begun c rs ns k.left k) ≤ open_ k = begun_open k.left k refl in
      let more : open_ k ≤ open_ j + 1 = joined_open n row j.stage j in
      omega arith

counted : (most : ℕ) (rs : List Row) (fates : List Prepared) (ns : List ℕ) → length (waiting most rs fates ns) ≡ waits_many rs fates ns
counted most rs fates ns = length-map (filter (is_waiting fates ns) (numbered_rows 1 rs)) (shown most)

work_inferred : (c : Rules) (row : Row) (v : Reading) → work c (after c (Infer row) v) ≤ work c v + 2
work_inferred c row v =
    let w : Reading = after c (Infer row) v in
    let new_ : length (wait_of c w) ≡ waits_many w.rows w.judged.fates w.choices = counted c.most w.rows w.judged.fates w.choices in
    let old_ : length (wait_of c v) ≡ waits_many v.rows v.judged.fates v.choices = counted c.most v.rows v.judged.fates v.choices in
    let less : open_ c (v.rows ++ row ∷ []) v.choices w.judged ≤ open_ c (v.rows ++ row ∷ []) v.choices v.judged + 1 = settled_open c (v.rows ++ row ∷ []) v.choices (length v.rows + 1) row v.judged in
    let one : waits_many (v.rows ++ row ∷ []) v.judged.fates v.choices ≤ waits_many v.rows v.judged.fates v.choices + 1 = row_more v.rows row v.judged.fates v.choices in
    omega arith

-- an inference leaves less to do
pub infers_less : (c : Rules) (u v w : Reading) (limit made : ℕ) → v ≡ u → due_kind (due_of c v) ≡ Inferring → w ≡ advanced c v → made ≤ limit → made ≢ limit
    → 3 * (limit - (made + 1)) + work c w < 3 * (limit - made) + work c u
infers_less c u v w limit made same is goes few isnt =
    let d = due_by c v w (due_of c v) is goes in
    let made_ : work c w ≡ work c (after c (Infer d.0) v) = ap (work c) d.2 in
    let less : work c (after c (Infer d.0) v) ≤ work c v + 2 = work_inferred c d.0 v in
    let old_ : work c v ≡ work c u = ap (work c) same in
    omega arith

-- and a choice
pub chooses_less : (c : Rules) (u v w : Reading) (rest_ n place : ℕ) → v ≡ u → picked_at (wait_of c v) place ≡ Some n → w ≡ after c (Choose n) v → rest_ + work c w < rest_ + work c u
chooses_less c u v w rest_ n place same is goes =
    let x : Reading = after c (Choose n) v in
    let made_ : work c w ≡ work c x = ap (work c) goes in
    let old_ : work c v ≡ work c u = ap (work c) same in
    let new_many : length (wait_of c x) ≡ waits_many v.rows v.judged.fates (v.choices ++ n ∷ []) = counted c.most v.rows v.judged.fates (v.choices ++ n ∷ []) in
    let old_many : length (wait_of c v) ≡ waits_many v.rows v.judged.fates v.choices = counted c.most v.rows v.judged.fates v.choices in
    let less : waits_many v.rows v.judged.fates (v.choices ++ n ∷ []) + 1 ≤ waits_many v.rows v.judged.fates v.choices = choice_more c.most v.rows v.judged.fates v.choices n place is in
    omega arith
