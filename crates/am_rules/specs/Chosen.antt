-- Closing as the code goes, for the proofs of this crate alone: all terms, if there are all, and what is made of them.
use Rattle.std.specs.Prelude.{List, [], ◌∷◌, Option, Some, None, option_map}
use Rattle.am_term.specs.declared.id.SortId.{SortId}
use Rattle.am_term.specs.declared.signature.Signature.{Signature}
use Rattle.am_term.specs.declared.term.Term.{Term}
use Rattle.am_clause.specs.declared.clause.Clause.{Clause}
use Rattle.am_clause.specs.declared.row.Made.{Made}
use Rattle.am_clause.specs.Variables.{Variable, variables}
use Rattle.am_rules.specs.Closing.{closing_term}
use Rattle.am_rules.specs.Parts.{answer_under}
use Rattle.am_rules.specs.Row.{row}

abbrev pub one_more : Option Term → Option (List Term) → Option (List Term)
one_more None o = None
one_more (Some t) None = None
one_more (Some t) (Some ts) = Some (t ∷ ts)

abbrev pub all_chosen : Signature → List SortId → List Variable → Option (List Term)
all_chosen sig ins [] = Some []
all_chosen sig ins (v ∷ vs) = one_more (closing_term sig ins v.1) (all_chosen sig ins vs)

abbrev pub closed_by : Clause → List Term → Made
closed_by p xs = row (record { literals = []; answer = answer_under xs p.answer }) (xs ∷ [])

abbrev pub closing : Signature → List SortId → Clause → Option Made
closing sig ins p = option_map (closed_by p) (all_chosen sig ins (variables p))
