-- Truth of instances.
use Rattle.std.proofs.Common.{◌≡◌, ◌∙◌, ◌==◌, ◌||◌, ℕ, Bool, not, refl, ap, if◌then◌else◌, List, [], ◌∷◌}
use Rattle.std.specs.List.{list_any}
use Rattle.am_term.specs.declared.term.Term.{Term}
use Rattle.am_term.specs.declared.term.Atom.{Atom}
use Rattle.am_term.specs.declared.term.Atom.TheVariants.{Rel, Eq}
use Rattle.am_term.specs.declared.term.Literal.{Literal}
use Rattle.am_term.specs.Instance.{instance, instances}
use Rattle.am_world.specs.Interpretation.{Interpretation}
use Rattle.am_world.specs.Value.{Assignment, value, values, through, atom_truth, literal_truth}
use Rattle.am_world.proofs.Meanings.{value-instance}
use Rattle.am_term.specs.Instance.{instance_atom, instance_literal, instance_literals}

module _ (w : Interpretation) (ins : List ℕ) (a : Assignment) (with : List Term) where
  pub values-instances : (ts : List Term) → values w ins a (instances with ts) ≡ values w ins (through w ins a with) ts
  values-instances [] = refl
  values-instances (t ∷ ts) = ap (λ n. n ∷ values w ins a (instances with ts)) (value-instance w ins a with t) ∙ ap (λ ns. value w ins (through w ins a with) t ∷ ns) (values-instances ts)

  pub atom-instance : (x : Atom) → atom_truth w ins a (instance_atom with x) ≡ atom_truth w ins (through w ins a with) x
  atom-instance (Rel r args) = ap (w.rel r) (values-instances args)
  atom-instance (Eq s t) = ap (λ n. n == value w ins a (instance with t)) (value-instance w ins a with s) ∙ ap (λ n. value w ins (through w ins a with) s == n) (value-instance w ins a with t)

  pub literal-instance : (l : Literal) → literal_truth w ins a (instance_literal with l) ≡ literal_truth w ins (through w ins a with) l
  literal-instance l = ap (λ (x : Bool). if l.positive then x else not x) (atom-instance l.atom)

  pub literals-instance : (ls : List Literal) → list_any (literal_truth w ins a) (instance_literals with ls) ≡ list_any (literal_truth w ins (through w ins a with)) ls
  literals-instance [] = refl
  literals-instance (l ∷ ls) = ap (λ x. x || list_any (literal_truth w ins a) (instance_literals with ls)) (literal-instance l) ∙ ap (λ x. literal_truth w ins (through w ins a with) l || x) (literals-instance ls)
