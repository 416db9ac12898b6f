-- Which terms are an answer.
use Rattle.std.proofs.Common.{◌≡◌, ◌∙◌, ◌↔◌, ◌<◌, ◌≤◌, ◌&&◌, ℕ, zero, suc, Bool, true, false, sym, ap, refl, arith, List, [], ◌∷◌, map, length, slice_get, nat_le, true≢false, get_or, IsTrue}
use Rattle.std.specs.List.{list_all}
use Rattle.std.proofs.lemmas.Grind.{common_steps}
use Rattle.std.proofs.lemmas.Bool.Decides.{nat_tests}
use Rattle.am_term.specs.declared.id.SortId.{SortId}
use Rattle.am_term.specs.declared.id.SymId.{SymId}
use Rattle.am_term.specs.declared.signature.Signature.{Signature}
use Rattle.am_term.specs.declared.term.Term.{Term}
use Rattle.am_term.specs.declared.term.Term.TheViews.{the_lemmas}
use Rattle.am_term.specs.declared.term.Term.TheVariants.{Var, In, App}
use Rattle.am_term.specs.Fold.{fold-Var, fold-In, fold-App}
use Rattle.am_term.specs.Sorting.{term_fits}
use Rattle.am_term.specs.Weight.{nodes}
use Rattle.am_term.proofs.Tests.{and_left, and_right, and_both}
use Rattle.am_clause.specs.Final.{is_computable_symbol}
use Rattle.am_theory.specs.declared.theory.Theory.{Theory}
use Rattle.am_diagram.specs.declared.diagram.Diagram.{Diagram}
use Rattle.am_diagram.specs.Listed.{entry_sorts}
use Rattle.am_plan.specs.Answers.{is_ready, ready_step, weight_limit, AllServe, IsAnswerFor}
use Rattle.am_plan.specs.AnswerTests.{is_server, are_servers}

-- ---- answers

within : (m n : ℕ) → nat_le m n ≡ true → m ≤ n
within m n e = grind (arith, nat_tests)

is-within : (m n : ℕ) → m ≤ n → nat_le m n ≡ true
is-within m n h = grind (arith, nat_tests)

servers-serve : (t : Theory) (d : Diagram) (os : List (List ℕ × SortId)) (xs : List Term) → are_servers t.sig (entry_sorts d.inputs) os xs ≡ true → AllServe t d os xs
servers-serve t d [] [] e = tt
servers-serve t d [] (x ∷ xs) e = absurd (true≢false (sym e))
servers-serve t d (o ∷ os) [] e = absurd (true≢false (sym e))
servers-serve t d (o ∷ os) (x ∷ xs) e =
    let fitting = term_fits t.sig (entry_sorts d.inputs) x o.1 in
    let small = nat_le (nodes x) weight_limit in
    let one = and_left (is_server t.sig (entry_sorts d.inputs) o.1 x) (are_servers t.sig (entry_sorts d.inputs) os xs) e in
    let two = and_right fitting (is_ready t.sig x && small) one in (
      record { sorted = and_left fitting (is_ready t.sig x && small) one; ready = and_left (is_ready t.sig x) small two; small = within (nodes x) weight_limit (and_right (is_ready t.sig x) small two) },
      servers-serve t d os xs (and_right (is_server t.sig (entry_sorts d.inputs) o.1 x) (are_servers t.sig (entry_sorts d.inputs) os xs) e),
    )

serving-servers : (t : Theory) (d : Diagram) (os : List (List ℕ × SortId)) (xs : List Term) → AllServe t d os xs → are_servers t.sig (entry_sorts d.inputs) os xs ≡ true
serving-servers t d [] [] s = refl
serving-servers t d [] (x ∷ xs) s = absurd s
serving-servers t d (o ∷ os) [] s = absurd s
serving-servers t d (o ∷ os) (x ∷ xs) s =
    let small = nat_le (nodes x) weight_limit in
    let two = and_both (is_ready t.sig x) small s.0.ready (is-within (nodes x) weight_limit s.0.small) in
    and_both (is_server t.sig (entry_sorts d.inputs) o.1 x) (are_servers t.sig (entry_sorts d.inputs) os xs) (and_both (term_fits t.sig (entry_sorts d.inputs) x o.1) (is_ready t.sig x && small) s.0.sorted two) (serving-servers t d os xs s.1)

-- ---- the test
pub answers-told : (t : Theory) (d : Diagram) (answer : List Term) (ins : List SortId) (b : Bool) → ins ≡ entry_sorts d.inputs → b ≡ are_servers t.sig ins d.outputs answer → IsTrue b ↔ IsAnswerFor t d answer
answers-told t d answer ins b is e =
    let h : b ≡ are_servers t.sig (entry_sorts d.inputs) d.outputs answer = e ∙ ap (λ (ss : List SortId). are_servers t.sig ss d.outputs answer) is in
    (λ k. servers-serve t d d.outputs answer (sym h ∙ k), λ k. h ∙ serving-servers t d d.outputs answer k)

-- ---- what a program can compute

all-map : (test : Term → Bool) (ts : List Term) → list_all (λ b. b) (map test ts) ≡ list_all test ts
all-map test [] = refl
all-map test (t ∷ ts) = ap (λ b. test t && b) (all-map test ts)

pub is_ready-Var : (sig : Signature) (n : ℕ) (s : SortId) → is_ready sig (Var n s) ≡ false
unfolding is_ready
is_ready-Var sig = fold-Var Bool (ready_step sig)

pub is_ready-In : (sig : Signature) (k : ℕ) → is_ready sig (In k) ≡ true
unfolding is_ready
is_ready-In sig = fold-In Bool (ready_step sig)

pub is_ready-App : (sig : Signature) (f : SymId) (args : List Term) → is_ready sig (App f args) ≡ (is_computable_symbol (slice_get sig.symbols f.0) && list_all (is_ready sig) args)
unfolding is_ready
is_ready-App sig f args = fold-App Bool (ready_step sig) f args ∙ ap (λ b. is_computable_symbol (slice_get sig.symbols f.0) && b) (all-map (is_ready sig) args)

pub all_broken : (test : Term → Bool) (ts : List Term) (i : ℕ) (d : Term) → i < length ts → test (get_or ts i d) ≡ false → list_all test ts ≡ false
all_broken test [] i d h e = absurd (omega arith)
all_broken test (t ∷ ts) zero d h e = ap (λ b. b && list_all test ts) e
all_broken test (t ∷ ts) (suc i) d h e = either (test t) (all_broken test ts i d (omega arith) e)
  where
    either : (b : Bool) → list_all test ts ≡ false → (b && list_all test ts) ≡ false
    either true f = f
    either false f = refl

pub ruleset ready_laws = (common_steps, nat_tests, the_lemmas, is_ready-Var, is_ready-In, is_ready-App, all_broken)

pub ruleset server_laws = (common_steps, nat_tests)

pub ruleset answer_laws = (common_steps, answers-told)
