-- What old ids stand for stays as a bank grows.
use Rattle.std.proofs.Common.{◌≡◌, ◌<◌, ◌≤◌, ℕ, List, [], ◌∷◌, Option, refl, ap₂, length, arith}
use Rattle.am_term.specs.declared.term.Term.{Term}
use Rattle.am_unify.specs.Substitution.{Substitution}
use Rattle.am_bank.specs.declared.id.TermId.{TermId}
use Rattle.am_bank.specs.Node.{Shared}
use Rattle.am_bank.specs.Bank.{Grows}
use Rattle.am_bank.proofs.Built.{grows-longer}
use Rattle.am_bank.proofs.Trees.{tree-grown}
use Rattle.am_sharing.specs.Bound.{id_bound}
use Rattle.am_sharing.specs.Pairs.{pairs_at, pairs_bound}
use Rattle.am_sharing.specs.Terms.{term_at, terms_at}
use Rattle.am_sharing.proofs.Nodes.{term_at-is, tree-is}
use Rattle.am_shared_unify.specs.Sides.{sides_at, term_sides}
use Rattle.am_shared_unify.specs.Tables.{AreImages}
use Rattle.am_shared_unify.specs.Unifying.{pair_ids_bound}

module _ (old new : List Shared) (grows : Grows old new) where
  pub term-kept : (i : ℕ) → i < length old → term_at new i ≡ term_at old i
  term-kept i h = term_at-is new i (term_at old i) (tree-grown old new i (term_at old i) grows (tree-is old i h))

  pub terms-kept : (ids : List TermId) → id_bound ids ≤ length old → terms_at new ids ≡ terms_at old ids
  terms-kept [] h = refl
  terms-kept (i ∷ ids) h = ap₂ (λ (t : Term) (ts : List Term). t ∷ ts) (term-kept i.0 (omega arith)) (terms-kept ids (omega arith))

  pub pairs-kept : (ps : List (ℕ × TermId)) → pairs_bound ps ≤ length old → pairs_at new ps ≡ pairs_at old ps
  pairs-kept [] h = refl
  pairs-kept (p ∷ ps) h = ap₂ (λ (t : Term) (bs : List (ℕ × Term)). (p.0, t) ∷ bs) (term-kept p.1.0 (omega arith)) (pairs-kept ps (omega arith))

  pub side-kept : (p : TermId × TermId) → p.0.0 < length old → p.1.0 < length old → sides_at new p ≡ sides_at old p
  side-kept p h k = ap₂ (λ (t u : Term). (t, u)) (term-kept p.0.0 h) (term-kept p.1.0 k)

  pub sides-kept : (ps : List (TermId × TermId)) → pair_ids_bound ps ≤ length old → term_sides new ps ≡ term_sides old ps
  sides-kept [] h = refl
  sides-kept (p ∷ ps) h = ap₂ (λ (q : Term × Term) (qs : List (Term × Term)). q ∷ qs) (side-kept p (omega arith) (omega arith)) (sides-kept ps (omega arith))

  pub images-kept : (θ : Substitution) (f : ℕ → Option TermId) → AreImages old θ f → AreImages new θ f
  images-kept θ f are = record {
    there = λ i j e. let h = are.there i j e in omega (arith, grows-longer old new grows);
    inside = λ i j e. let h = are.inside i j e in omega (arith, grows-longer old new grows);
    are = λ i j e. rw (term-kept j.0 (are.inside i j e), term-kept i (are.there i j e)) (are.are i j e);
  }
