-- For the private contracts and the proofs of this crate alone: lists of which all others are instances by a substitution.
use Rattle.std.specs.Prelude.{◌≡◌, ℕ, List, map, IsTrue}
use Rattle.am_term.specs.declared.id.SortId.{SortId}
use Rattle.am_term.specs.declared.signature.Signature.{Signature}
use Rattle.am_term.specs.declared.term.Term.{Term}
use Rattle.am_term.specs.Sorting.{term_fits}
use Rattle.am_clause.specs.Distinct.{among}
use Rattle.am_clause.specs.Variables.{Variable, same_variable}
use Rattle.am_clause.specs.Renaming.{Numbers}
use Rattle.am_unify.specs.Substitution.{Substitution, applies}
use Rattle.am_rules.specs.Row.{in_lists, renamed_lists}

-- the variable is one of the list
abbrev pub IsAmong : Variable → List Variable → Type 0
IsAmong v vs = IsTrue (among same_variable v vs)

-- each variable of the list becomes a well-sorted term whose sort fits that of the variable
abbrev pub Keeps : Signature → List SortId → Substitution → List Variable → Type 0
Keeps sig ins θ vs = (n : ℕ) (s : SortId) → IsAmong (n, s) vs → IsTrue (term_fits sig ins (θ n s) s)

-- the lists `vs` are what `ws` become by fitting terms for the variables in them
pub record AreInstances (sig : Signature) (ins : List SortId) (vs ws : List (List Term)) : Type 0 where
  pub by : Substitution
  pub keeps : Keeps sig ins by (in_lists ws)
  pub equal : vs ≡ map (applies by) ws

-- such lists, of which all such lists are instances by a substitution; the public word is am_clause's, by lists of terms
pub record AreMostGeneralBySubstitution (sig : Signature) (ins : List SortId) (Such : List (List Term) → Type 0) (ws : List (List Term)) : Type 0 where
  pub holds : Such ws
  pub factors : (vs : List (List Term)) → Such vs → AreInstances sig ins vs ws

-- The numbers take each variable of the list to another of its sort, and `back` takes it back: so no two become one.
pub record IsUndone (to back : Numbers) (vs : List Variable) : Type 0 where
  pub undone : (n : ℕ) (s : SortId) → IsAmong (n, s) vs → back (to n s) s ≡ n

-- the lists `vs` are `ws` but for a bijection of the variables that keeps sorts
pub record AreRenamed (vs ws : List (List Term)) : Type 0 where
  pub to : Numbers
  pub back : Numbers
  pub undone : IsUndone to back (in_lists ws)
  pub equal : vs ≡ renamed_lists to ws
