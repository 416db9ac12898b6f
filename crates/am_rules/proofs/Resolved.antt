-- The code of resolution and of paramodulation.
use Rattle.std.proofs.Common.{◌≡◌, ◌∙◌, sym, ap, ℕ, List, length, Option, Some, option_map, Result, Ok, Err, IfOk}
use Rattle.std.proofs.lemmas.Grind.{common_steps}
use Rattle.am_term.specs.declared.id.SortId.{SortId}
use Rattle.am_term.specs.declared.signature.Signature.{Signature}
use Rattle.am_term.specs.declared.term.Term.{Term}
use Rattle.am_clause.specs.declared.clause.Clause.{Clause}
use Rattle.am_clause.specs.declared.row.Made.{Made}
use Rattle.am_clause.specs.Variables.{Variable, variables}
use Rattle.am_unify.specs.declared.substitution.Subst.{Subst}
use Rattle.am_unify.specs.Unifier.{bindings_answered}
use Rattle.am_rules.specs.Asked.{Pairs}
use Rattle.am_rules.specs.Solving.{images, solved_apart, made_of_lists, made_with_bindings, solved}
use Rattle.am_rules.proofs.Walks.{both-apart}

pub ruleset solving = (common_steps, both-apart)

-- what was read is what stands there
pub images-read : (bs read : List (ℕ × Term)) (k : ℕ) (vs there_ read_vs : List Variable) (ts : List Term) → read ≡ bs → read_vs ≡ there_ → there_ ≡ vs → ts ≡ images read k read_vs → ts ≡ images bs k vs
images-read bs read k vs there_ read_vs ts a b c e = e ∙ (ap (λ x. images x k read_vs) a ∙ ap (images bs k) (b ∙ c))

pub made-read : {E : Type 0} (make : List Term → List Term → Clause) (xs ys left right : List Term) (r : Result Made E) → left ≡ xs → right ≡ ys → IfOk r (λ m. m ≡ made_of_lists make left right) → IfOk r (λ m. m ≡ made_of_lists make xs ys)
made-read make xs ys left right (Ok m) a b h = h ∙ (ap (λ x. made_of_lists make x right) a ∙ ap (made_of_lists make xs) b)
made-read make xs ys left right (Err e) a b h = tt

pub made-is : (sig : Signature) (ins : List SortId) (p q : Clause) (make : List Term → List Term → Clause) (ps : Pairs) (k n : ℕ) (vs : List Variable) (o : Option Subst) (found : Subst) (m : Made)
    → k ≡ n → n ≡ length vs → vs ≡ variables p → bindings_answered o ≡ solved_apart sig ins k ps → o ≡ Some found
    → m ≡ made_of_lists make (images found.0 0 (variables p)) (images found.0 k (variables q)) → Some m ≡ solved sig ins p q make ps
made-is sig ins p q make ps k n vs o found m a b c solving is e =
    let many : k ≡ length (variables p) = a ∙ (b ∙ ap length c) in
    ap Some (e ∙ ap (λ i. made_of_lists make (images found.0 0 (variables p)) (images found.0 i (variables q))) many)
    ∙ ap (option_map (made_with_bindings p q make)) (sym (ap (λ i. solved_apart sig ins i ps) (sym many) ∙ (sym solving ∙ ap bindings_answered is)))
