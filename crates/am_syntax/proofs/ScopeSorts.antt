-- The sort of a term in a scope that extends to another is one of its own sorts, and these fit and are akin in
-- the other as they do in the scope.
use Rattle.std.proofs.Common.{◌≡◌, ◌∙◌, ℕ, not, refl, subst, sym, ap, List, Option, Some, None, slice_get}
use Rattle.am_term.specs.declared.id.SortId.{SortId}
use Rattle.am_term.specs.Sorts.{fits_in, akin_in}
use Rattle.am_term.proofs.Older.{fits-older, akin-older}
use Rattle.am_syntax.specs.declared.scope.Standing.{Standing}
use Rattle.am_syntax.specs.declared.written.WrittenTerm.{WrittenTerm}
use Rattle.am_syntax.specs.Induct.{written_term_cases}
use Rattle.am_syntax.specs.Positions.{position_of}
use Rattle.am_syntax.specs.Scopes.{Scope, Profile, standing_of, symbol_at, symbol_of, result_of, alone_sort_by}
use Rattle.am_syntax.specs.Flaws.{written_sort, misfits, are_apart}
use Rattle.am_syntax.specs.Laws.{Extends, IsSortIn}
use Rattle.am_syntax.proofs.Equations.{written_sort-Alone, written_sort-Headed}

module _ (s r : Scope) (x : Extends s r) where
  result-in : (k : ℕ) (o : Option Profile) → slice_get s.symbols k ≡ o → IsSortIn s (result_of o)
  result-in k None e = tt
  result-in k (Some y) e = x.results k y e

  symbol-in : (o : Option ℕ) → IsSortIn s (result_of (symbol_at s.symbols o))
  symbol-in None = tt
  symbol-in (Some k) = result-in k (slice_get s.symbols k) refl

  alone-in : (w : List ℕ) (o : Option Standing) → standing_of w s.bound ≡ o → IsSortIn s (alone_sort_by o (symbol_of s w))
  alone-in w None e = symbol-in (position_of w s.names)
  alone-in w (Some standing) e = x.standings w standing e

  pub sort-in : (t : WrittenTerm) → IsSortIn s (written_sort s t)
  sort-in = written_term_cases (λ t. IsSortIn s (written_sort s t))
      (λ w. subst (IsSortIn s) (sym (written_sort-Alone s w)) (alone-in w (standing_of w s.bound) refl))
      (λ h args. subst (IsSortIn s) (sym (written_sort-Headed s h args)) (symbol-in (position_of h s.names)))

  pub misfits-kept : (o : Option SortId) (p : SortId) → IsSortIn s o → misfits r.parents o p ≡ misfits s.parents o p
  misfits-kept None p h = refl
  misfits-kept (Some a) p h = ap (λ ps. not (fits_in ps a p)) x.parents ∙ ap not (fits-older s.parents x.more a p h)

  pub apart-kept : (a b : Option SortId) → IsSortIn s a → IsSortIn s b → are_apart r.parents a b ≡ are_apart s.parents a b
  apart-kept None b h k = refl
  apart-kept (Some a) None h k = refl
  apart-kept (Some a) (Some b) h k = ap (λ ps. not (akin_in ps a b)) x.parents ∙ ap not (akin-older s.parents x.more a b h k)
