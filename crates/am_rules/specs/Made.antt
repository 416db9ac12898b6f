-- For the private contracts and the proofs of this crate alone: what a rule makes of bindings, as a function of the lists of terms.
use Rattle.std.specs.Prelude.{◌≡◌, Option, Some, None, List}
use Rattle.am_term.specs.declared.id.SortId.{SortId}
use Rattle.am_term.specs.declared.signature.Signature.{Signature}
use Rattle.am_term.specs.declared.term.Term.{Term}
use Rattle.am_clause.specs.declared.clause.Clause.{Clause}
use Rattle.am_clause.specs.declared.row.Made.{Made}
use Rattle.am_clause.specs.Variables.{Variable, in_clause}
use Rattle.am_clause.specs.Renaming.{Numbers, renamed_clause}
use Rattle.am_rules.specs.Most.{AreMostGeneralBySubstitution, IsUndone, IsAmong}
use Rattle.am_rules.specs.Row.{in_lists, renamed_lists}
use Rattle.am_clause.specs.Numbered.{AreNumbered}
use Rattle.am_clause.specs.NumberedMade.{made_occurrences}

-- `Such` says which lists of terms a rule takes, and `conclusion` what it makes of them
pub record IsMadeOfSuch (sig : Signature) (ins : List SortId) (Such : List (List Term) → Type 0) (conclusion : List (List Term) → Clause) (m : Made) : Type 0 where
  pub general : AreMostGeneralBySubstitution sig ins Such m.with
  pub concluded : m.clause ≡ conclusion m.with
  pub numbered : AreNumbered (made_occurrences m)

-- an answer: no lists are such, or what is made
abbrev pub IsMadeIfAny : Signature → List SortId → (List (List Term) → Type 0) → (List (List Term) → Clause) → Option Made → Type 0
IsMadeIfAny sig ins Such conclusion None = (ws : List (List Term)) → Such ws → ⊥
IsMadeIfAny sig ins Such conclusion (Some m) = IsMadeOfSuch sig ins Such conclusion m

-- The bindings that a rule takes may have their variables renamed, and what it makes of them is then renamed
-- likewise; what it makes has no variables but those of the bindings.
pub record IsNatural (Such : List (List Term) → Type 0) (conclusion : List (List Term) → Clause) : Type 0 where
  pub such : (to back : Numbers) (ws : List (List Term)) → IsUndone to back (in_lists ws) → Such ws → Such (renamed_lists to ws)
  pub concluded : (to back : Numbers) (ws : List (List Term)) → IsUndone to back (in_lists ws) → Such ws → conclusion (renamed_lists to ws) ≡ renamed_clause to (conclusion ws)
  pub inner : (ws : List (List Term)) → Such ws → (v : Variable) → IsAmong v (in_clause (conclusion ws)) → IsAmong v (in_lists ws)
