-- Counting the nodes of instances.
use Rattle.std.proofs.Common.{◌≡◌, ◌∙◌, ℕ, zero, suc, refl, ap, List, Option, [], ◌∷◌, slice_get, slice_index_or, Some, None, min}
use Rattle.std.proofs.lemmas.Bool.Decides.{nat_tests}
use Rattle.std.proofs.lemmas.Grind.{common_steps}
use Rattle.am_term.specs.Instance.{instance, instances, instance_atom, instance_literals, instance-Var, instance-In, instance-App, instance_laws}
use Rattle.am_term.specs.Weight.{nodes, nodes_laws}
use Rattle.am_term.specs.declared.term.Term.{Term}
use Rattle.am_term.specs.declared.term.Term.TheViews.{the_lemmas}
use Rattle.am_calculus.specs.Sizes.{counted_nodes}
use Rattle.am_term.specs.Induct.{term_induct}
use Rattle.am_term.specs.declared.term.Atom.{Atom}
use Rattle.am_term.specs.declared.term.Atom.TheVariants.{Rel, Eq}
use Rattle.am_term.specs.declared.term.Literal.{Literal}
use Rattle.am_term.specs.declared.term.Term.TheVariants.{App}
use Rattle.am_clause.specs.Bound.{bound, instance_answer}
use Rattle.am_clause.specs.declared.clause.Clause.{Clause}

pub counted-some : (ts : List Term) (n : ℕ) (d : Term) (m : ℕ) → slice_get (counted_nodes ts) n ≡ Some m → min (nodes (slice_index_or ts n d)) 16777217 ≡ m
counted-some [] n d m e = absurd cc
counted-some (t ∷ ts) zero d m e = cc
counted-some (t ∷ ts) (suc n) d m e = counted-some ts n d m e

pub counted-none : (ts : List Term) (n : ℕ) (d : Term) → slice_get (counted_nodes ts) n ≡ None → slice_index_or ts n d ≡ d
counted-none [] n d e = refl
counted-none (t ∷ ts) zero d e = absurd cc
counted-none (t ∷ ts) (suc n) d e = counted-none ts n d e

-- nothing bound, nothing changes
pub instance-none : (t : Term) → instance [] t ≡ t
instance-none = term_induct
    (λ t. instance [] t ≡ t)
    (λ ts. instances [] ts ≡ ts)
    (λ n s. instance-Var [] n s)
    (λ k. instance-In [] k)
    (λ f args h. instance-App [] f args ∙ ap (App f) h)
    refl
    (λ t ts h k. ap (λ x. x ∷ instances [] ts) h ∙ ap (λ xs. t ∷ xs) k)

instances-none : (ts : List Term) → instances [] ts ≡ ts
instances-none [] = refl
instances-none (t ∷ ts) = ap (λ x. x ∷ instances [] ts) (instance-none t) ∙ ap (λ xs. t ∷ xs) (instances-none ts)

atom-none : (a : Atom) → instance_atom [] a ≡ a
atom-none (Rel r args) = ap (Rel r) (instances-none args)
atom-none (Eq left right) = ap (λ x. Eq x (instance [] right)) (instance-none left) ∙ ap (Eq left) (instance-none right)

literals-none : (ls : List Literal) → instance_literals [] ls ≡ ls
literals-none [] = refl
literals-none (l ∷ ls) = ap (λ (a : Atom). let m : Literal = record { positive = l.positive; atom = a } in m ∷ instance_literals [] ls) (atom-none l.atom) ∙ ap (λ ms. l ∷ ms) (literals-none ls)

answer-none : (o : Option (List Term)) → instance_answer [] o ≡ o
answer-none None = refl
answer-none (Some ts) = ap Some (instances-none ts)

pub bound-none : (c : Clause) → bound [] c ≡ c
bound-none c = ap (λ ls. let d : Clause = record { literals = ls; answer = instance_answer [] c.answer } in d) (literals-none c.literals) ∙ ap (λ o. let d : Clause = record { literals = c.literals; answer = o } in d) (answer-none c.answer)

pub ruleset counting = (common_steps, nat_tests, the_lemmas, nodes_laws, instance_laws, counted-some, counted-none, bound-none)
