-- A numbered row has a numbered clause, and the numbering of a conclusion without lists is that of its clause.
use Rattle.std.proofs.Common.{◌≡◌, ◌∙◌, ◌++◌, ℕ, zero, suc, sym, ap, List, [], ◌∷◌, slice_get, Some}
use Rattle.std.specs.List.{flat_map}
use Rattle.std.proofs.lemmas.List.{append-nil}
use Rattle.am_clause.specs.declared.clause.Clause.{Clause}
use Rattle.am_clause.specs.declared.row.Row.{Row}
use Rattle.am_clause.specs.Distinct.{distinct, with_new}
use Rattle.am_clause.specs.Variables.{Variable, same_variable, occurrences_all, in_clause, variables}
use Rattle.am_clause.specs.Renaming.{renumbered, renumbered-is}
use Rattle.am_clause.specs.Numbered.{IsNumbered, IsNumberedRow}
use Rattle.am_clause.specs.NumberedMade.{numbering, renamed_made, numbered_made, without_lists}
use Rattle.am_clause.proofs.Firsts.{with_new-append, with_new-distinct, with_new-is}
use Rattle.am_clause.proofs.Places.{same_variable-refl, same_variable-sound}

get-first : {A : Type 0} (xs ys : List A) (k : ℕ) (x : A) → slice_get xs k ≡ Some x → slice_get (xs ++ ys) k ≡ Some x
get-first [] ys k x e = absurd cc
get-first (z ∷ zs) ys zero x e = e
get-first (z ∷ zs) ys (suc k) x e = get-first zs ys k x e

extends : (seen ws : List Variable) (k : ℕ) (v : Variable) → slice_get seen k ≡ Some v → slice_get (with_new same_variable seen ws) k ≡ Some v
extends seen ws k v e = ap (λ (xs : List Variable). slice_get xs k) (with_new-is same_variable same_variable-sound same_variable-refl seen ws) ∙ get-first seen _ k v e

-- more occurrences bring new variables behind the old ones alone
distinct-first : (vs ws : List Variable) (k : ℕ) (v : Variable) → slice_get (distinct same_variable vs) k ≡ Some v → slice_get (distinct same_variable (vs ++ ws)) k ≡ Some v
distinct-first vs ws k v e =
    ap (λ (xs : List Variable). slice_get xs k) (sym (with_new-distinct same_variable same_variable-sound same_variable-refl (vs ++ ws)) ∙ with_new-append same_variable [] vs ws)
    ∙ extends (with_new same_variable [] vs) ws k v (ap (λ (xs : List Variable). slice_get xs k) (with_new-distinct same_variable same_variable-sound same_variable-refl vs) ∙ e)

pub numbered-clause : (row : Row) → IsNumberedRow row → IsNumbered row.clause
unfolding variables
numbered-clause row h k v e = h k v (distinct-first (in_clause row.clause) (flat_map occurrences_all row.with) k v e)

pub made-without : (c : Clause) → numbered_made (without_lists c) ≡ without_lists (renumbered c)
unfolding numbered_made variables
made-without c =
    ap (λ (vs : List Variable). renamed_made (numbering vs) (without_lists c)) (append-nil (in_clause c)) ∙ ap without_lists (sym (renumbered-is c))
