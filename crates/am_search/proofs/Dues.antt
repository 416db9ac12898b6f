-- What is due, by whether something is left of the turn.
use Rattle.std.specs.Prelude.{List, ◌≡◌, false, [], ◌∷◌, true}
use Rattle.std.proofs.Common.{refl, sym, ap, ◌∙◌}
use Rattle.std.proofs.lemmas.Grind.{common_steps}
use Rattle.am_clause.specs.declared.row.Row.{Row}
use Rattle.am_search.specs.Outcomes.{due_kind}
use Rattle.am_search.specs.Plain.{due_turn, due_at, due_choice}
use Rattle.am_search.specs.Members.{is_empty}
use Rattle.am_agenda.specs.declared.wait_row.WaitRow.{WaitRow}
use Rattle.am_search.specs.declared.fate.Kind.TheVariants.{Inferring}
use Rattle.am_search.specs.declared.fate.Stage.{Stage}
use Rattle.am_search.specs.declared.fate.Stage.TheVariants.{Quiet}

kind_left : (waits : List WaitRow) (rows : List Row) → is_empty rows ≡ false → due_kind (due_turn waits rows) ≡ Inferring
kind_left waits [] none = cc
kind_left waits (row ∷ rows) none = refl

pub infers_left : (waits : List WaitRow) (rest : List Row) (stage : Stage) → stage ≡ Quiet → is_empty rest ≡ false → Inferring ≡ due_kind (due_at waits rest stage)
infers_left waits rest stage quiet none = sym (ap (λ s. due_kind (due_at waits rest s)) quiet ∙ kind_left waits rest none)

none_left : (waits : List WaitRow) (rows : List Row) → is_empty rows ≡ true → due_kind (due_turn waits rows) ≡ due_kind (due_choice waits)
none_left waits [] none = refl
none_left waits (row ∷ rows) none = cc

pub chooses_then : (waits : List WaitRow) (rest : List Row) (stage : Stage) → stage ≡ Quiet → is_empty rest ≡ true → due_kind (due_choice waits) ≡ due_kind (due_at waits rest stage)
chooses_then waits rest stage quiet none = sym (ap (λ s. due_kind (due_at waits rest s)) quiet ∙ none_left waits rest none)

pub ruleset looking = (common_steps, infers_left, chooses_then)
