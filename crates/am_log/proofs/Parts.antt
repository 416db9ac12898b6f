-- A text is in one way lines that begin with `C` and what stands behind them.
use Rattle.std.proofs.Common.{◌≡◌, ◌≤◌, ℕ, suc, Bool, true, false, List, [], ◌∷◌, ◌++◌, length, take, drop, refl, sym, ap, ◌∙◌, arith, subst}
use Rattle.std.specs.Prelude.{◌&&◌, ◌||◌, ◌==◌, not, if◌then◌else◌}
use Rattle.std.proofs.lemmas.Grind.{common_steps}
use Rattle.std.proofs.lemmas.List.{take-append-drop}
use Rattle.am_log.specs.Laws.{OneSplit}
use Rattle.am_log.specs.Split.{is_c, is_no_c, lines_begin, ends_line, no_bytes, starts_with_c, IsSplit, proof_bytes}

-- ---- the place that is found
within_by : (t : Bool) (n m : ℕ) → n ≤ m → (if t then 0 else suc n) ≤ suc m
within_by true n m h = omega arith
within_by false n m h = omega (arith, h)

bytes_within : (start : Bool) (t : List ℕ) → proof_bytes start t ≤ length t
unfolding proof_bytes
bytes_within start [] = omega arith
bytes_within start (b ∷ bs) = within_by (start && is_no_c b) (proof_bytes (b == 10) bs) (length bs) (bytes_within (b == 10) bs)

lines_by : (start c : Bool) (b n : ℕ) (bs : List ℕ) → is_c b ≡ c → lines_begin is_c (b == 10) (take n bs) ≡ true → lines_begin is_c start (take (if start && not c then 0 else suc n) (b ∷ bs)) ≡ true
lines_by true true b n bs e h = rw (e, h) refl
lines_by true false b n bs e h = refl
lines_by false c b n bs e h = h

found_lines : (start : Bool) (t : List ℕ) → lines_begin is_c start (take (proof_bytes start t) t) ≡ true
unfolding proof_bytes
found_lines start [] = refl
found_lines start (b ∷ bs) = lines_by start (is_c b) b (proof_bytes (b == 10) bs) bs refl (found_lines (b == 10) bs)

ended_by : (start c : Bool) (b n : ℕ) (bs : List ℕ) → (no_bytes (drop n bs) || ends_line (b == 10) (take n bs)) ≡ true → (no_bytes (drop (if start && not c then 0 else suc n) (b ∷ bs)) || ends_line start (take (if start && not c then 0 else suc n) (b ∷ bs))) ≡ true
ended_by true true b n bs h = h
ended_by true false b n bs h = refl
ended_by false c b n bs h = h

found_ended : (start : Bool) (t : List ℕ) → (no_bytes (drop (proof_bytes start t) t) || ends_line start (take (proof_bytes start t) t)) ≡ true
unfolding proof_bytes
found_ended start [] = refl
found_ended start (b ∷ bs) = ended_by start (is_c b) b (proof_bytes (b == 10) bs) bs (found_ended (b == 10) bs)

behind_by : (start c : Bool) (b n : ℕ) (bs : List ℕ) → is_c b ≡ c → starts_with_c (drop n bs) ≡ false → starts_with_c (drop (if start && not c then 0 else suc n) (b ∷ bs)) ≡ false
behind_by true true b n bs e h = h
behind_by true false b n bs e h = e
behind_by false c b n bs e h = h

found_behind : (start : Bool) (t : List ℕ) → starts_with_c (drop (proof_bytes start t) t) ≡ false
unfolding proof_bytes
found_behind start [] = refl
found_behind start (b ∷ bs) = behind_by start (is_c b) b (proof_bytes (b == 10) bs) bs refl (found_behind (b == 10) bs)

pub found_split : (t : List ℕ) (n : ℕ) → n ≡ proof_bytes true t → IsSplit t (take n t) (drop n t)
found_split t n e = subst (λ (k : ℕ). IsSplit t (take k t) (drop k t)) (sym e) (record {
  all = sym (take-append-drop (proof_bytes true t) t);
  lines = found_lines true t;
  ended = found_ended true t;
  behind = found_behind true t;
})

pub found_within : (t : List ℕ) (n : ℕ) → n ≡ proof_bytes true t → n ≤ length t
found_within t n e = let h = bytes_within true t in omega (arith, h, e)

pub ruleset split_laws = (common_steps, found_split, found_within)

-- ---- one split
-- what a split says from the start of a line on or from inside one
record IsSplitFrom (start : Bool) (p u : List ℕ) : Type 0 where
  pub lines : lines_begin is_c start p ≡ true
  pub ended : (no_bytes u || ends_line start p) ≡ true
  pub behind : starts_with_c u ≡ false

first_in : (start c : Bool) (b : ℕ) (q v : List ℕ) → is_c b ≡ c → (no_bytes (b ∷ q) || start) ≡ true → starts_with_c (b ∷ q) ≡ false → lines_begin is_c start (b ∷ v) ≡ true → ⊥
first_in true true b q v e h k l = absurd cc
first_in true false b q v e h k l = absurd (let z : false ≡ true = sym (rw e refl) ∙ l in cc)
first_in false c b q v e h k l = absurd cc

behind_line : (start : Bool) (b : ℕ) (p : List ℕ) → lines_begin is_c start (b ∷ p) ≡ true → lines_begin is_c (b == 10) p ≡ true
behind_line true b p h = by (is_c b) h
  where
    by : (c : Bool) → (c && lines_begin is_c (b == 10) p) ≡ true → lines_begin is_c (b == 10) p ≡ true
    by true k = k
    by false k = absurd cc
behind_line false b p h = h

split_from : (start : Bool) (p u q v : List ℕ) → IsSplitFrom start p u → IsSplitFrom start q v → p ++ u ≡ q ++ v → (p ≡ q) × (u ≡ v)
split_from start [] u [] v k l e = (refl, e)
split_from start [] u (b ∷ q) v k l e = absurd (
    let h : starts_with_c (b ∷ (q ++ v)) ≡ false = sym (ap starts_with_c e) ∙ k.behind in
    let i : (no_bytes (b ∷ (q ++ v)) || start) ≡ true = sym (ap (λ (z : List ℕ). no_bytes z || start) e) ∙ k.ended in
    first_in start (is_c b) b (q ++ v) q refl i h l.lines)
split_from start (b ∷ p) u [] v k l e = absurd (
    let h : starts_with_c (b ∷ (p ++ u)) ≡ false = ap starts_with_c e ∙ l.behind in
    let i : (no_bytes (b ∷ (p ++ u)) || start) ≡ true = ap (λ (z : List ℕ). no_bytes z || start) e ∙ l.ended in
    first_in start (is_c b) b (p ++ u) p refl i h k.lines)
split_from start (b ∷ p) u (c ∷ q) v k l e =
    let same : b ≡ c = cc in
    let rest : p ++ u ≡ q ++ v = cc in
    let lk : IsSplitFrom (b == 10) p u = record { lines = behind_line start b p k.lines; ended = k.ended; behind = k.behind } in
    let ll : IsSplitFrom (c == 10) q v = record { lines = behind_line start c q l.lines; ended = l.ended; behind = l.behind } in
    let more = split_from (b == 10) p u q v lk (subst (λ (x : ℕ). IsSplitFrom (x == 10) q v) (sym same) ll) rest in
    (rw (same, more.0) refl, more.1)

pub one_split : OneSplit
one_split = λ text p u q v k l. split_from true p u q v (record { lines = k.lines; ended = k.ended; behind = k.behind }) (record { lines = l.lines; ended = l.ended; behind = l.behind }) (sym k.all ∙ l.all)
