-- Which terms a program can compute.
use Rattle.std.proofs.Common.{◌≡◌, ◌∙◌, ◌&&◌, ℕ, Bool, true, false, ap, List, slice_get}
use Rattle.std.specs.List.{list_all}
use Rattle.std.proofs.lemmas.Grind.{common_steps}
use Rattle.std.proofs.lemmas.Bool.Decides.{nat_tests}
use Rattle.std.proofs.lemmas.List.Folds.{list_all-map, list_all_more, list_all_at}
use Rattle.am_term.specs.declared.id.SortId.{SortId}
use Rattle.am_term.specs.declared.id.SymId.{SymId}
use Rattle.am_term.specs.declared.signature.Signature.{Signature}
use Rattle.am_term.specs.declared.term.Term.{Term}
use Rattle.am_term.specs.declared.term.Term.TheViews.{the_lemmas}
use Rattle.am_term.specs.declared.term.Term.TheVariants.{Var, In, App}
use Rattle.am_term.specs.Fold.{fold-Var, fold-In, fold-App}
use Rattle.am_clause.specs.Final.{is_computable_symbol, computable_step, is_computable_term}

pub computable-Var : (sig : Signature) (n : ℕ) (s : SortId) → is_computable_term sig (Var n s) ≡ false
unfolding is_computable_term
computable-Var sig = fold-Var Bool (computable_step sig)

pub computable-In : (sig : Signature) (k : ℕ) → is_computable_term sig (In k) ≡ true
unfolding is_computable_term
computable-In sig = fold-In Bool (computable_step sig)

pub computable-App : (sig : Signature) (f : SymId) (args : List Term) → is_computable_term sig (App f args) ≡ (is_computable_symbol (slice_get sig.symbols f.0) && list_all (is_computable_term sig) args)
unfolding is_computable_term
computable-App sig f args = fold-App Bool (computable_step sig) f args ∙ ap (λ b. is_computable_symbol (slice_get sig.symbols f.0) && b) (list_all-map (λ b. b) (is_computable_term sig) args)

pub ruleset computing = (common_steps, nat_tests, the_lemmas, computable-Var, computable-In, computable-App, list_all_more, list_all_at)
