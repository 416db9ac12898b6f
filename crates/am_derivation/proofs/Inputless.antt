-- What is well sorted where there are no inputs is well sorted for any inputs.
use Rattle.std.proofs.Common.{◌≡◌, ◌∙◌, Bool, true, false, refl, sym, ap, List, [], ◌∷◌, slice_get, Option, Some, None}
use Rattle.std.proofs.Common.{ℕ, is_none, if◌then◌else◌}
use Rattle.am_term.specs.declared.id.SortId.{SortId}
use Rattle.am_term.specs.declared.id.SymId.{SymId}
use Rattle.am_term.specs.declared.symbol.Symbol.{Symbol}
use Rattle.am_term.specs.declared.signature.Signature.{Signature}
use Rattle.am_term.specs.declared.term.Term.{Term}
use Rattle.am_term.specs.declared.term.Term.TheVariants.{Var, In, App}
use Rattle.am_term.specs.declared.term.Atom.{Atom}
use Rattle.am_term.specs.declared.term.Atom.TheVariants.{Rel, Eq}
use Rattle.am_term.specs.Induct.{term_induct}
use Rattle.am_term.specs.Sorting.{sort_of, sorts_of, fits_place, fit_places, result_at, are_akin, relates}
use Rattle.am_term.specs.Sorting.{is_sorted_atom, sort_of-Var, sort_of-In, sort_of-App}
use Rattle.am_term.proofs.Tests.{and_left, and_right, and_both}

module _ (sig : Signature) (ins : List SortId) where
  abbrev Goes : Term → Type 0
  Goes t = (s : SortId) → sort_of sig [] t ≡ Some s → sort_of sig ins t ≡ Some s

  abbrev Go : List Term → Type 0
  Go ts = (ps : List SortId) → fit_places sig (sorts_of sig [] ts) ps ≡ true
      → fit_places sig (sorts_of sig ins ts) ps ≡ true

  goes-Var : (n : ℕ) (r : SortId) → Goes (Var n r)
  goes-Var n r s e = sort_of-Var sig ins n r ∙ (sym (sort_of-Var sig [] n r) ∙ e)

  goes-In : (k : ℕ) → Goes (In k)
  goes-In k s e =
      let nothing : List SortId = [] in
      let none : slice_get nothing k ≡ Some s = sym (sort_of-In sig [] k) ∙ e in absurd cc

  goes-App : (f : SymId) (args : List Term) → Go args → Goes (App f args)
  goes-App f args h s e =
      sort_of-App sig ins f args ∙ by_symbol (slice_get sig.symbols f.0) (sym (sort_of-App sig [] f args) ∙ e)
    where
      by_fit : (y : Symbol) (b : Bool) → fit_places sig (sorts_of sig [] args) y.args ≡ b
          → (if b then y.result else None) ≡ Some s → result_at sig (Some y) (sorts_of sig ins args) ≡ Some s
      by_fit y true fit e = ap (λ (b : Bool). if b then y.result else None) (h y.args fit) ∙ e
      by_fit y false fit e = absurd cc

      by_symbol : (o : Option Symbol) → result_at sig o (sorts_of sig [] args) ≡ Some s
          → result_at sig o (sorts_of sig ins args) ≡ Some s
      by_symbol None e = absurd cc
      by_symbol (Some y) e = by_fit y (fit_places sig (sorts_of sig [] args) y.args) refl e

  fits-more : (t : Term) → Goes t → (p : SortId) (o : Option SortId) → sort_of sig [] t ≡ o → fits_place sig o p ≡ true
      → fits_place sig (sort_of sig ins t) p ≡ true
  fits-more t h p None is e = absurd cc
  fits-more t h p (Some s) is e = ap (λ (o : Option SortId). fits_place sig o p) (h s is) ∙ e

  go-more : (t : Term) (ts : List Term) → Goes t → Go ts → Go (t ∷ ts)
  go-more t ts h k [] e = absurd cc
  go-more t ts h k (p ∷ ps) e =
      and_both (fits_place sig (sort_of sig ins t) p) (fit_places sig (sorts_of sig ins ts) ps)
      (fits-more t h p (sort_of sig [] t) refl
      (and_left (fits_place sig (sort_of sig [] t) p) (fit_places sig (sorts_of sig [] ts) ps) e))
      (k ps (and_right (fits_place sig (sort_of sig [] t) p) (fit_places sig (sorts_of sig [] ts) ps) e))

  goes : (t : Term) → Goes t
  goes = term_induct Goes Go goes-Var goes-In goes-App (λ ps e. e) go-more

  all-go : (ts : List Term) → Go ts
  all-go [] ps e = e
  all-go (t ∷ ts) ps e = go-more t ts (goes t) (all-go ts) ps e

  relates-so : (o : Option Symbol) (ts : List Term) → relates sig o (sorts_of sig [] ts) ≡ true
      → relates sig o (sorts_of sig ins ts) ≡ true
  relates-so None ts e = absurd cc
  relates-so (Some y) ts e = and_both (is_none y.result) (fit_places sig (sorts_of sig ins ts) y.args)
      (and_left (is_none y.result) (fit_places sig (sorts_of sig [] ts) y.args) e)
      (all-go ts y.args (and_right (is_none y.result) (fit_places sig (sorts_of sig [] ts) y.args) e))

  akin-so : (t u : Term) (o v : Option SortId) → sort_of sig [] t ≡ o → sort_of sig [] u ≡ v → are_akin sig o v ≡ true
      → are_akin sig (sort_of sig ins t) (sort_of sig ins u) ≡ true
  akin-so t u None v is at_ e = absurd cc
  akin-so t u (Some s) None is at_ e = absurd cc
  akin-so t u (Some s) (Some r) is at_ e =
      ap (λ (o : Option SortId). are_akin sig o (sort_of sig ins u)) (goes t s is)
      ∙ (ap (are_akin sig (Some s)) (goes u r at_) ∙ e)

  pub atom-so : (a : Atom) → is_sorted_atom sig [] a ≡ true → is_sorted_atom sig ins a ≡ true
  atom-so (Rel r args) e = relates-so (slice_get sig.symbols r.0) args e
  atom-so (Eq t u) e = akin-so t u (sort_of sig [] t) (sort_of sig [] u) refl refl e
