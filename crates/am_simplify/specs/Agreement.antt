-- For the private contracts and the proofs of this crate alone: what a match asks of symbols and inputs, which is told
-- without bindings.
use Rattle.std.specs.Prelude.{◌≡◌, ◌==◌, ◌&&◌, ℕ, Bool, true, false, Option, Some, None, List, map}
use Rattle.std.proofs.Common.{ap}
use Rattle.am_term.specs.Fold.{fold-Var, fold-In, fold-App}
use Rattle.am_term.specs.Place.{member}
use Rattle.am_term.specs.Same.{is_in, all_pass}
use Rattle.am_term.specs.declared.id.SortId.{SortId}
use Rattle.am_term.specs.declared.id.SymId.{SymId}
use Rattle.am_term.specs.declared.term.Term.{Term}
use Rattle.am_term.specs.declared.term.Term.TheFolds.{fold-Term}
use Rattle.am_term.specs.declared.term.Term.TheOpen.{Term-F}
use Rattle.am_term.specs.declared.term.Term.TheVariants.{Var, In, App}
use Rattle.am_term.specs.declared.term.Term.TheViews.{out-Term}
use Rattle.am_clause.specs.Rules.{side_at}
use Rattle.am_simplify.specs.declared.step.Unit.{Unit}

-- this symbol with arguments that pass the tests
abbrev pub is_headed : SymId → List (Term → Bool) → Term-F Term → Bool
is_headed f tests (Term-F.Var n s) = false
is_headed f tests (Term-F.In k) = false
is_headed f tests (Term-F.App g ts) = f.0 == g.0 && all_pass tests ts

abbrev pub agree_step : Term-F (Term → Bool) → Term → Bool
agree_step (Term-F.Var n s) t = true
agree_step (Term-F.In k) t = is_in k (out-Term t)
agree_step (Term-F.App f tests) t = is_headed f tests (out-Term t)

-- wherever the pattern has a symbol or an input, the term has it too
unfoldable pub term_agrees : Term → Term → Bool
term_agrees = fold-Term (Term → Bool) agree_step

abbrev pub agree_all : List Term → List Term → Bool
agree_all patterns ts = all_pass (map term_agrees patterns) ts

pub agree-Var : (n : ℕ) (s : SortId) (t : Term) → term_agrees (Var n s) t ≡ true
unfolding term_agrees
agree-Var n s t = ap (λ (test : Term → Bool). test t) (fold-Var (Term → Bool) agree_step n s)

pub agree-In : (k : ℕ) (t : Term) → term_agrees (In k) t ≡ is_in k (out-Term t)
unfolding term_agrees
agree-In k t = ap (λ (test : Term → Bool). test t) (fold-In (Term → Bool) agree_step k)

pub agree-App : (f : SymId) (args : List Term) (t : Term) → term_agrees (App f args) t ≡ is_headed f (map term_agrees args) (out-Term t)
unfolding term_agrees
agree-App f args t = ap (λ (test : Term → Bool). test t) (fold-App (Term → Bool) agree_step f args)

pub ruleset agree_laws = (agree-Var, agree-In, agree-App)

-- the side is there, and agrees with the part
abbrev pub side_agrees : Option Term → Term → Bool
side_agrees None part = false
side_agrees (Some pattern) part = term_agrees pattern part

-- the side from which the unit is used agrees with the part
abbrev pub unit_agrees : Unit → Term → Bool
unit_agrees u part = side_agrees (side_at u.side (member u.clause.literals 1)) part
