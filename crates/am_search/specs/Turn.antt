-- The turn of a row: the inferences with the processed rows that succeed, as one list.
use Rattle.std.specs.Prelude.{ℕ, List, Option, option_map, ◌++◌}
use Rattle.std.specs.List.{filter_map, flat_map}
use Rattle.am_clause.specs.declared.clause.Clause.{Clause}
use Rattle.am_clause.specs.declared.row.Made.{Made}
use Rattle.am_clause.specs.declared.row.Row.{Row}
use Rattle.am_clause.specs.declared.row.Rule.{Rule}
use Rattle.am_rules.specs.Conclusions.{factored, resolved, paramodulated, reflexed}
use Rattle.am_rules.specs.Inference.{row_of}
use Rattle.am_search.specs.Candidates.{candidates_between, candidates_alone}
use Rattle.am_search.specs.Sources.{Source}
use Rattle.am_search.specs.declared.candidate.Candidate.{Candidate}
use Rattle.am_search.specs.declared.candidate.Candidate.TheVariants.{Factor, Reflex, Resolve, Para}
use Rattle.am_search.specs.declared.candidate.Way.TheVariants.{Inward, Outward}
use Rattle.am_term.specs.declared.id.SortId.{SortId}
use Rattle.am_term.specs.declared.signature.Signature.{Signature}
use Rattle.am_clause.specs.declared.row.Rule.TheVariants as R

-- the rule of an inference of rows g and p
abbrev pub rule_of : ℕ → ℕ → Candidate → Rule
rule_of g p (Factor i j) = R.Factor g i j
rule_of g p (Reflex i) = R.Reflex g i
rule_of g p (Resolve i j) = R.Resolve g i p j
rule_of g p (Para Inward j side i path) = R.Para p j side g i path
rule_of g p (Para Outward j side i path) = R.Para g j side p i path

-- what the rule's call answers
abbrev pub tried : Signature → List SortId → Clause → Clause → Candidate → Option Made
tried sig ins g p (Factor i j) = factored sig ins g i j
tried sig ins g p (Reflex i) = reflexed sig ins g i
tried sig ins g p (Resolve i j) = resolved sig ins g i p j
tried sig ins g p (Para Inward j side i path) = paramodulated sig ins p j side g i path
tried sig ins g p (Para Outward j side i path) = paramodulated sig ins g j side p i path

-- the row that an inference makes, if it succeeds
unfoldable pub row_made : Signature → List SortId → Source → Source → Candidate → Option Row
row_made sig ins g p c = option_map (row_of (rule_of g.number p.number c)) (tried sig ins g.clause p.clause c)

abbrev pub all_made : Signature → List SortId → Source → Source → List Candidate → List Row
all_made sig ins g p cs = filter_map (row_made sig ins g p) cs

abbrev pub made_with : Signature → List SortId → Source → Source → List Row
made_with sig ins g p = all_made sig ins g p (candidates_between sig g p)

-- g alone, and then with each of the processed rows, g among them
unfoldable pub turn : Signature → List SortId → Source → List Source → List Row
turn sig ins g ps = all_made sig ins g g (candidates_alone g) ++ flat_map (made_with sig ins g) ps
