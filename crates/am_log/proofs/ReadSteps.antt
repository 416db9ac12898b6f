-- Steps of reading the rows of a proof.
use Rattle.std.proofs.Common.{◌≡◌, ◌<◌, ◌≤◌, ◌+◌, ℕ, suc, Bool, true, false, List, [], ◌∷◌, ◌++◌, length, take, drop, Result, Ok, Err, refl, sym, ap, ◌∙◌, arith, append_assoc}
use Rattle.std.specs.Prelude.{◌==◌, if◌then◌else◌}
use Rattle.std.specs.Str.{bytes_eq}
use Rattle.std.proofs.lemmas.Grind.{common_steps}
use Rattle.std.proofs.lemmas.List.{append-nil}
use Rattle.am_log.specs.declared.fault.LogKind.TheVariants.{NotProof}
use Rattle.am_term.specs.declared.id.SortId.{SortId}
use Rattle.am_term.specs.declared.signature.Signature.{Signature}
use Rattle.am_clause.specs.declared.row.Row.{Row}
use Rattle.am_log.specs.declared.fault.LogKind.{LogKind}
use Rattle.am_log.specs.Groups.{groups, onto_first, ends_group}
use Rattle.am_log.specs.Unwrapped.{first_length}
use Rattle.am_log.specs.Naming.{Names}
use Rattle.am_log.specs.Answers.{group_row, at, row_before, rows_in, head_fault, rows_behind, log_answer}
use Rattle.am_log.specs.Faults.{lines_in}
use Rattle.am_log.specs.Text.{proof_line}

-- ---- the first group of some bytes
front_step : (t : Bool) (b m : ℕ) (bs : List ℕ) → groups bs ≡ take m bs ∷ groups (drop m bs) → (if t then (b ∷ []) ∷ groups bs else onto_first b (groups bs)) ≡ take (if t then 1 else suc m) (b ∷ bs) ∷ groups (drop (if t then 1 else suc m) (b ∷ bs))
front_step true b m bs h = refl
front_step false b m bs h = ap (onto_first b) h

front_last : (t : Bool) (b : ℕ) → (if t then (b ∷ []) ∷ groups [] else onto_first b (groups [])) ≡ take (if t then 1 else 1) (b ∷ []) ∷ groups (drop (if t then 1 else 1) (b ∷ []))
unfolding groups
front_last true b = refl
front_last false b = refl

pub first_front : (bs : List ℕ) → 0 < length bs → groups bs ≡ take (first_length bs) bs ∷ groups (drop (first_length bs) bs)
unfolding groups first_length
first_front [] l = absurd (omega arith)
first_front (b ∷ []) l = front_last (ends_group b []) b
first_front (b ∷ c ∷ cs) l = front_step (ends_group b (c ∷ cs)) b (first_length (c ∷ cs)) (c ∷ cs) (first_front (c ∷ cs) (omega arith))

length_step : (t : Bool) (m k : ℕ) → m ≤ k → (0 < (if t then 1 else suc m)) × ((if t then 1 else suc m) ≤ suc k)
length_step true m k h = (omega arith, omega arith)
length_step false m k h = (omega arith, omega (arith, h))

pub first_within : (bs : List ℕ) → first_length bs ≤ length bs
unfolding first_length
first_within [] = omega arith
first_within (b ∷ bs) = (length_step (ends_group b bs) (first_length bs) (length bs) (first_within bs)).1

pub first_bounds : (bs : List ℕ) → 0 < length bs → (0 < first_length bs) × (first_length bs ≤ length bs)
unfolding first_length
first_bounds [] l = absurd (omega arith)
first_bounds (b ∷ bs) l = length_step (ends_group b bs) (first_length bs) (length bs) (first_within bs)

count_step : (t : Bool) (m k : ℕ) → m ≤ k → (if t then suc m else m) ≤ suc k
count_step true m k h = omega (arith, h)
count_step false m k h = omega (arith, h)

pub lines_within : (g : List ℕ) → lines_in g ≤ length g
lines_within [] = omega arith
lines_within (b ∷ bs) = count_step (b == 10) (lines_in bs) (length bs) (lines_within bs)

-- ---- rows that were read, and what is left
abbrev pub onto : List Row → Result (List Row) (ℕ × LogKind) → Result (List Row) (ℕ × LogKind)
onto rs (Ok qs) = Ok (rs ++ qs)
onto rs (Err e) = Err e

abbrev pub good : Row → Result Row LogKind
good r = Ok r

abbrev pub bad : LogKind → Result Row LogKind
bad kind = Err kind

onto_more : (rs : List Row) (r : Row) (l : ℕ) (x : Result (List Row) (ℕ × LogKind)) → onto rs (row_before l (good r) x) ≡ onto (rs ++ r ∷ []) x
onto_more rs r l (Ok qs) = ap Ok (sym (append_assoc rs (r ∷ []) qs))
onto_more rs r l (Err e) = refl

pub rows_step : (n : Names) (sig : Signature) (ins : List SortId) (k l : ℕ) (rs : List Row) (rest g more : List ℕ) (r : Row) → groups rest ≡ g ∷ groups more → group_row n sig ins k g ≡ good r
    → onto rs (rows_in n sig ins k l (groups rest)) ≡ onto (rs ++ r ∷ []) (rows_in n sig ins (k + 1) (l + lines_in g) (groups more))
rows_step n sig ins k l rs rest g more r s e =
    ap (λ (gs : List (List ℕ)). onto rs (rows_in n sig ins k l gs)) s
    ∙ ap (λ (x : Result Row LogKind). onto rs (row_before l x (rows_in n sig ins (k + 1) (l + lines_in g) (groups more)))) e
    ∙ onto_more rs r l (rows_in n sig ins (k + 1) (l + lines_in g) (groups more))

pub rows_stop : (n : Names) (sig : Signature) (ins : List SortId) (k l : ℕ) (rs : List Row) (rest g more : List ℕ) (kind : LogKind) → groups rest ≡ g ∷ groups more → group_row n sig ins k g ≡ bad kind → onto rs (rows_in n sig ins k l (groups rest)) ≡ Err (l, kind)
rows_stop n sig ins k l rs rest g more kind s e =
    ap (λ (gs : List (List ℕ)). onto rs (rows_in n sig ins k l gs)) s
    ∙ ap (λ (x : Result Row LogKind). onto rs (row_before l x (rows_in n sig ins (k + 1) (l + lines_in g) (groups more)))) e

none_left : (rest : List ℕ) → length rest ≡ 0 → groups rest ≡ []
unfolding groups
none_left [] h = refl
none_left (b ∷ bs) h = absurd (omega (arith, h))

pub rows_done : (n : Names) (sig : Signature) (ins : List SortId) (k l : ℕ) (rs : List Row) (rest : List ℕ) → length rest ≡ 0 → onto rs (rows_in n sig ins k l (groups rest)) ≡ Ok rs
rows_done n sig ins k l rs rest h = ap (λ (gs : List (List ℕ)). onto rs (rows_in n sig ins k l gs)) (none_left rest h) ∙ ap Ok (append-nil rs)

pub rows_start : (x : Result (List Row) (ℕ × LogKind)) → x ≡ onto [] x
rows_start (Ok qs) = refl
rows_start (Err e) = refl

-- ---- the answer of a whole
abbrev pub a_fault : ℕ → LogKind → Result (List Row) (ℕ × LogKind)
a_fault l kind = Err (l, kind)

pub empty_answer : (n : Names) (sig : Signature) (ins : List SortId) (bytes : List ℕ) → length bytes ≡ 0 → log_answer n sig ins bytes ≡ a_fault 1 NotProof
unfolding log_answer
empty_answer n sig ins bytes h = ap (rows_behind n sig ins) (none_left bytes h)

pub rows_answer : (n : Names) (sig : Signature) (ins : List SortId) (bytes g more : List ℕ) → groups bytes ≡ g ∷ groups more → bytes_eq g proof_line ≡ true → log_answer n sig ins bytes ≡ rows_in n sig ins 1 2 (groups more)
unfolding log_answer
rows_answer n sig ins bytes g more s e = ap (rows_behind n sig ins) s ∙ ap (λ (b : Bool). if b then rows_in n sig ins 1 2 (groups more) else at 1 (head_fault g)) e

pub head_answer : (n : Names) (sig : Signature) (ins : List SortId) (bytes g more : List ℕ) → groups bytes ≡ g ∷ groups more → bytes_eq g proof_line ≡ false → log_answer n sig ins bytes ≡ a_fault 1 (head_fault g)
unfolding log_answer
head_answer n sig ins bytes g more s e = ap (rows_behind n sig ins) s ∙ ap (λ (b : Bool). if b then rows_in n sig ins 1 2 (groups more) else at 1 (head_fault g)) e

pub ruleset group_laws = (common_steps, first_front, first_bounds, first_within)

pub ruleset row_laws = (common_steps, rows_start)

pub ruleset answer_laws = (common_steps, empty_answer)
