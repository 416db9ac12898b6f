use Rattle.std.proofs.Common.{◌≡◌, ℕ, ◌+◌, ◌<◌, List, length, get_or, drop, add-one, drop-cons, Ok, refl, ◌∙◌, arith}
use Rattle.std.proofs.lemmas.List.{drop_all}
use Rattle.std.proofs.lemmas.Grind.{common_steps}
use Rattle.am_text.specs.Answers.{◌>>=◌, Fails}
use Rattle.am_text.specs.Scan.{State, step, run}
use Rattle.am_text.specs.declared.fault.ReadError.{ReadError}
use Rattle.am_text.specs.declared.fault.ReadError.TheVariants as errors

pub run_at : (depth i : ℕ) (bytes : List ℕ) (s : State) (d : ℕ) → i < length bytes → run depth i (drop i bytes) s ≡ (step depth i (get_or bytes i d) s >>= run depth (i + 1) (drop (i + 1) bytes))
unfolding run
run_at depth i bytes s d h = rw (drop-cons bytes i d, add-one) refl

pub run_fails : (e : ReadError) (depth i : ℕ) (bytes : List ℕ) (s : State) (d : ℕ) → i < length bytes → Fails e (step depth i (get_or bytes i d) s) → Fails e (run depth i (drop i bytes) s)
run_fails errors.Memory depth i bytes s d h f = tt
run_fails (errors.Fault x) depth i bytes s d h f = run_at depth i bytes s d h ∙ rw f refl

pub run_goes_on : (depth i : ℕ) (bytes : List ℕ) (s t : State) (d : ℕ) → i < length bytes → step depth i (get_or bytes i d) s ≡ Ok t → run depth i (drop i bytes) s ≡ run depth (i + 1) (drop (i + 1) bytes) t
run_goes_on depth i bytes s t d h e = run_at depth i bytes s d h ∙ rw e refl

pub run_ends : (depth i : ℕ) (bytes : List ℕ) (s : State) → length bytes ≡ i → run depth i (drop i bytes) s ≡ Ok s
unfolding run
run_ends depth i bytes s e = rw (drop_all i bytes (omega arith)) refl

pub ruleset scan_laws = (common_steps)

pub ruleset run_laws = (common_steps, run_goes_on, run_ends)
