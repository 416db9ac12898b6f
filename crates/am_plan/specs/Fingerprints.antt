-- Terms and calls by numbers of 64 bits that tell nearly all of them apart, by which they are looked up.
use Rattle.std.specs.Prelude.{◌≡◌, ◌+◌, ◌*◌, ◌%◌, ◌^◌, ◌==◌, ℕ, Option, List, length, map}
use Rattle.std.specs.List.{fold, position_from}
use Rattle.am_term.specs.declared.id.SortId.{SortId}
use Rattle.am_term.specs.declared.id.SymId.{SymId}
use Rattle.am_term.specs.declared.term.Term.{Term}
use Rattle.am_term.specs.declared.term.Term.TheOpen.{Term-F}
use Rattle.am_term.specs.declared.term.Term.TheVariants.{Var, In, App}
use Rattle.am_term.specs.declared.term.Term.TheFolds.{fold-Term}
use Rattle.am_term.specs.Fold.{fold-Var, fold-In, fold-App}
use Rattle.am_plan.specs.declared.call.Callee.{Callee}
use Rattle.am_plan.specs.declared.call.Callee.TheVariants as callee
use Rattle.am_plan.specs.Calls.{PlannedCall}

-- a fingerprint with one more number in it
unfoldable pub mix : ℕ → ℕ → ℕ
mix fingerprint n = (fingerprint + n) % 2 ^ 64 * 11400714819323198485 % 2 ^ 64

-- the fingerprint of what is of this kind, has this number, and these fingerprints below it
abbrev pub fingerprint_with : ℕ → ℕ → List ℕ → ℕ
fingerprint_with kind n fingerprints = fold mix (mix (mix kind n) (length fingerprints)) fingerprints

abbrev pub fingerprint_step : Term-F ℕ → ℕ
fingerprint_step (Term-F.Var n s) = mix (mix 1 n) s.0
fingerprint_step (Term-F.In k) = mix 2 k
fingerprint_step (Term-F.App f fingerprints) = fingerprint_with 3 f.0 fingerprints

-- the fingerprint of a term: what is one has one fingerprint, and two terms hardly ever have the same
unfoldable pub fingerprint : Term → ℕ
fingerprint = fold-Term ℕ fingerprint_step

pub fingerprint-Var : (n : ℕ) (s : SortId) → fingerprint (Var n s) ≡ mix (mix 1 n) s.0
unfolding fingerprint
fingerprint-Var = fold-Var ℕ fingerprint_step

pub fingerprint-In : (k : ℕ) → fingerprint (In k) ≡ mix 2 k
unfolding fingerprint
fingerprint-In = fold-In ℕ fingerprint_step

pub fingerprint-App : (f : SymId) (args : List Term) → fingerprint (App f args) ≡ fingerprint_with 3 f.0 (map fingerprint args)
unfolding fingerprint
fingerprint-App = fold-App ℕ fingerprint_step

pub ruleset fingerprint_laws = (fingerprint-Var, fingerprint-In, fingerprint-App)

abbrev pub callee_fingerprint : Callee → List ℕ → ℕ
callee_fingerprint (callee.Routine k) fingerprints = fingerprint_with 4 k fingerprints
callee_fingerprint (callee.Function k) fingerprints = fingerprint_with 5 k fingerprints

-- the fingerprint of a call: of its callee and its arguments
abbrev pub call_fingerprint : PlannedCall → ℕ
call_fingerprint c = callee_fingerprint c.callee (map fingerprint c.args)

-- the place, from number k on, of the first of these fingerprints that is this one
abbrev pub place_from : ℕ → ℕ → List ℕ → Option ℕ
place_from p k fingerprints = position_from (λ q. p == q) k fingerprints
