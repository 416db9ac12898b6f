-- Renumbering keeps what holds.
use Rattle.std.proofs.Common.{◌≡◌, ◌∙◌, ◌==◌, ◌||◌, inl, inr, ℕ, Bool, not, refl, sym, ap, subst, if◌then◌else◌, List, [], ◌∷◌, map, Option, Some, None}
use Rattle.std.specs.List.{list_any}
use Rattle.am_term.specs.declared.signature.Signature.{Signature}
use Rattle.am_term.specs.declared.term.Term.{Term}
use Rattle.am_term.specs.declared.term.Atom.{Atom}
use Rattle.am_term.specs.declared.term.Atom.TheVariants.{Rel, Eq}
use Rattle.am_term.specs.declared.term.Literal.{Literal}
use Rattle.am_clause.specs.declared.clause.Clause.{Clause}
use Rattle.am_clause.specs.Variables.{variables}
use Rattle.am_clause.specs.Renaming.{Numbers, renamed, renamed_all, renamed_atom, renamed_literal, renamed_answer, renamed_clause, places_in, renumbered, renumbered-is}
use Rattle.am_world.specs.Interpretation.{Interpretation}
use Rattle.am_world.specs.Value.{Assignment, value, values, atom_truth, literal_truth}
use Rattle.am_world.specs.ClauseTruth.{before_renaming}
use Rattle.am_world.proofs.Renamings.{value-renamed}
use Rattle.am_world.specs.Holding.{Serves, HoldsAt, HoldsFor}

module _ (w : Interpretation) (ins : List ℕ) (a : Assignment) (to : Numbers) where
  pub values-renamed : (ts : List Term) → values w ins a (renamed_all to ts) ≡ values w ins (before_renaming a to) ts
  values-renamed [] = refl
  values-renamed (t ∷ ts) = ap (λ n. n ∷ values w ins a (renamed_all to ts)) (value-renamed w ins a to t) ∙ ap (λ ns. value w ins (before_renaming a to) t ∷ ns) (values-renamed ts)

  atom-renamed : (l : Atom) → atom_truth w ins a (renamed_atom to l) ≡ atom_truth w ins (before_renaming a to) l
  atom-renamed (Rel r args) = ap (w.rel r) (values-renamed args)
  atom-renamed (Eq left right) = ap (λ n. n == value w ins a (renamed to right)) (value-renamed w ins a to left) ∙ ap (λ n. value w ins (before_renaming a to) left == n) (value-renamed w ins a to right)

  literal-renamed : (l : Literal) → literal_truth w ins a (renamed_literal to l) ≡ literal_truth w ins (before_renaming a to) l
  literal-renamed l = ap (λ (b : Bool). if l.positive then b else not b) (atom-renamed l.atom)

  literals-renamed : (ls : List Literal) → list_any (literal_truth w ins a) (map (renamed_literal to) ls) ≡ list_any (literal_truth w ins (before_renaming a to)) ls
  literals-renamed [] = refl
  literals-renamed (l ∷ ls) = ap (λ b. b || list_any (literal_truth w ins a) (map (renamed_literal to) ls)) (literal-renamed l) ∙ ap (λ b. literal_truth w ins (before_renaming a to) l || b) (literals-renamed ls)

  module _ (Q : List ℕ → Type 0) where
    served : (o : Option (List Term)) → Serves w ins Q (before_renaming a to) o → Serves w ins Q a (renamed_answer to o)
    served None s = s
    served (Some ts) s = subst Q (sym (values-renamed ts)) s

    renamed-holds : (c : Clause) → HoldsAt w ins Q (before_renaming a to) c → HoldsAt w ins Q a (renamed_clause to c)
    renamed-holds c h = elim h [
      | inl t ↦ inl (literals-renamed c.literals ∙ t)
      | inr s ↦ inr (served c.answer s)
    ]

pub renumbered-holds : (sig : Signature) (w : Interpretation) (ins : List ℕ) (Q : List ℕ → Type 0) (c : Clause) → HoldsFor sig w ins Q c → HoldsFor sig w ins Q (renumbered c)
renumbered-holds sig w ins Q c h a g = subst (HoldsAt w ins Q a) (sym (renumbered-is c))
    (renamed-holds w ins a (places_in (variables c)) Q c (h (before_renaming a (places_in (variables c))) (λ n s l. g (places_in (variables c) n s) s l)))
