-- Renaming keeps sorts, so a renumbered clause is well sorted exactly where the clause is.
use Rattle.std.proofs.Common.{◌≡◌, ◌∙◌, ◌&&◌, refl, sym, ap, List, [], ◌∷◌, map, slice_get, Option, Some, None, is_some}
use Rattle.std.specs.List.{list_all}
use Rattle.am_term.specs.declared.id.SortId.{SortId}
use Rattle.am_term.specs.declared.signature.Signature.{Signature}
use Rattle.am_term.specs.declared.term.Term.{Term}
use Rattle.am_term.specs.declared.term.Atom.{Atom}
use Rattle.am_term.specs.declared.term.Atom.TheVariants.{Rel, Eq}
use Rattle.am_term.specs.declared.term.Literal.{Literal}
use Rattle.am_term.specs.Induct.{term_induct}
use Rattle.am_term.specs.Sorting.{sort_of, sorts_of, result_at, are_akin, relates, is_sorted_atom, is_sorted_literal}
use Rattle.am_term.specs.Sorting.{sort_of-Var, sort_of-App}
use Rattle.am_clause.specs.declared.clause.Clause.{Clause}
use Rattle.am_clause.specs.Renaming.{Numbers, renamed, renamed_all, renamed_atom, renamed_literal, renamed_answer}
use Rattle.am_clause.specs.Renaming.{renamed_clause, places_in, renumbered, renamed-Var, renamed-In, renamed-App}
use Rattle.am_clause.specs.Renaming.{renumbered-is}
use Rattle.am_clause.specs.SortedClause.{is_sorted_answer, is_sorted_clause}
use Rattle.am_clause.specs.Variables.{variables}

module _ (sig : Signature) (ins : List SortId) (to : Numbers) where
  term-sort : (t : Term) → sort_of sig ins (renamed to t) ≡ sort_of sig ins t
  term-sort = term_induct
      (λ t. sort_of sig ins (renamed to t) ≡ sort_of sig ins t)
      (λ ts. sorts_of sig ins (renamed_all to ts) ≡ sorts_of sig ins ts)
      (λ n s. ap (sort_of sig ins) (renamed-Var to n s)
      ∙ (sort_of-Var sig ins (to n s) s ∙ sym (sort_of-Var sig ins n s)))
      (λ k. ap (sort_of sig ins) (renamed-In to k))
      (λ f args h. ap (sort_of sig ins) (renamed-App to f args)
      ∙ (sort_of-App sig ins f (renamed_all to args)
      ∙ (ap (result_at sig (slice_get sig.symbols f.0)) h ∙ sym (sort_of-App sig ins f args))))
      refl
      (λ t ts h k. ap (λ o. o ∷ sorts_of sig ins (renamed_all to ts)) h ∙ ap (λ os. sort_of sig ins t ∷ os) k)

  terms-sort : (ts : List Term) → sorts_of sig ins (renamed_all to ts) ≡ sorts_of sig ins ts
  terms-sort [] = refl
  terms-sort (t ∷ ts) = ap (λ o. o ∷ sorts_of sig ins (renamed_all to ts)) (term-sort t)
      ∙ ap (λ os. sort_of sig ins t ∷ os) (terms-sort ts)

  atom-sorted : (a : Atom) → is_sorted_atom sig ins (renamed_atom to a) ≡ is_sorted_atom sig ins a
  atom-sorted (Rel r args) = ap (relates sig (slice_get sig.symbols r.0)) (terms-sort args)
  atom-sorted (Eq left right) = ap (λ o. are_akin sig o (sort_of sig ins (renamed to right))) (term-sort left)
      ∙ ap (are_akin sig (sort_of sig ins left)) (term-sort right)

  literals-sorted : (ls : List Literal)
      → list_all (is_sorted_literal sig ins) (map (renamed_literal to) ls) ≡ list_all (is_sorted_literal sig ins) ls
  literals-sorted [] = refl
  literals-sorted (l ∷ ls) =
      ap (λ b. b && list_all (is_sorted_literal sig ins) (map (renamed_literal to) ls)) (atom-sorted l.atom)
      ∙ ap (λ b. is_sorted_literal sig ins l && b) (literals-sorted ls)

  terms-sorted : (ts : List Term)
      → list_all (λ t. is_some (sort_of sig ins t)) (renamed_all to ts) ≡ list_all (λ t. is_some (sort_of sig ins t)) ts
  terms-sorted [] = refl
  terms-sorted (t ∷ ts) =
      ap (λ o. is_some o && list_all (λ x. is_some (sort_of sig ins x)) (renamed_all to ts)) (term-sort t)
      ∙ ap (λ b. is_some (sort_of sig ins t) && b) (terms-sorted ts)

  answer-sorted : (o : Option (List Term))
      → is_sorted_answer sig ins (renamed_answer to o) ≡ is_sorted_answer sig ins o
  answer-sorted None = refl
  answer-sorted (Some ts) = terms-sorted ts

  clause-sorted : (c : Clause) → is_sorted_clause sig ins (renamed_clause to c) ≡ is_sorted_clause sig ins c
  clause-sorted c =
      ap (λ b. b && is_sorted_answer sig ins (renamed_answer to c.answer)) (literals-sorted c.literals)
      ∙ ap (λ b. list_all (is_sorted_literal sig ins) c.literals && b) (answer-sorted c.answer)

pub renumbered-sorted : (sig : Signature) (ins : List SortId) (c : Clause)
    → is_sorted_clause sig ins (renumbered c) ≡ is_sorted_clause sig ins c
renumbered-sorted sig ins c =
    ap (is_sorted_clause sig ins) (renumbered-is c) ∙ clause-sorted sig ins (places_in (variables c)) c
