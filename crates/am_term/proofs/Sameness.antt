-- What a test tells that is equal to that of sameness.
use Rattle.std.proofs.Common.{◌≡◌, ◌∙◌, ◌↔◌, Bool, true, sym, subst, IsTrue}
use Rattle.am_term.specs.declared.term.Term.{Term}
use Rattle.am_term.specs.Same.{same_term}
use Rattle.am_term.proofs.Alike.{same_term-refl, same_term-sound}

pub term_test : (b : Bool) (t u : Term) → b ≡ same_term t u → IsTrue b ↔ (t ≡ u)
term_test b t u e = (λ h. same_term-sound t u (sym e ∙ h), λ h. e ∙ subst (λ x. same_term t x ≡ true) h (same_term-refl t))
