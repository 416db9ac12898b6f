-- The inferences of a turn that are tried, in order: which literals, which side, which place.
use Rattle.std.specs.Prelude.{ℕ, List, [], ◌∷◌, Bool, not, Option, None, Some, true, false, find, nat_lt, ◌&&◌, ◌++◌, map, ◌==◌, if◌then◌else◌}
use Rattle.std.specs.Bool.{beq}
use Rattle.std.specs.List.{flat_map}
use Rattle.am_clause.specs.declared.row.Side.{Side}
use Rattle.am_clause.specs.declared.row.Side.TheVariants.{Left, Right}
use Rattle.am_order.specs.Order.{greater}
use Rattle.am_simplify.specs.Numbering.{Numbered, with_numbers}
use Rattle.am_simplify.specs.Places.{places_of_atom}
use Rattle.am_search.specs.Sources.{Source}
use Rattle.am_search.specs.declared.candidate.Candidate.{Candidate}
use Rattle.am_search.specs.declared.candidate.Candidate.TheVariants.{Factor, Reflex, Resolve, Para}
use Rattle.am_search.specs.declared.candidate.Way.{Way}
use Rattle.am_search.specs.declared.candidate.Way.TheVariants.{Inward, Outward}
use Rattle.am_term.specs.Variables.{is_variable}
use Rattle.am_term.specs.declared.signature.Signature.{Signature}
use Rattle.am_term.specs.declared.term.Atom.{Atom}
use Rattle.am_term.specs.declared.term.Atom.TheVariants.{Rel, Eq}
use Rattle.am_term.specs.declared.term.Literal.{Literal}
use Rattle.am_term.specs.declared.term.Term.{Term}

-- the literal, whatever its number, is negative
abbrev pub is_negative : Numbered → Bool
is_negative e = not e.1.positive

-- the one that there is alone, else all
abbrev pub that_or_all : Option Numbered → List Numbered → List Numbered
that_or_all None all = all
that_or_all (Some e) all = e ∷ []

-- of an axiom's clause all literals; of another the first negative one, or all if there is none
abbrev pub eligible : Bool → List Literal → List Numbered
eligible true ls = with_numbers 1 ls
eligible false ls = that_or_all (find is_negative (with_numbers 1 ls)) (with_numbers 1 ls)

-- this, if the test holds
abbrev pub only : {A : Type 0} → Bool → A → List A
only true x = x ∷ []
only false x = []

abbrev pub is_relation_atom : Atom → Bool
is_relation_atom (Rel r args) = true
is_relation_atom (Eq left right) = false

-- a later literal of one sign
abbrev pub factor_candidates : Numbered → Numbered → List Candidate
factor_candidates e d = only (nat_lt e.0 d.0 && beq e.1.positive d.1.positive) (Factor e.0 d.0)

abbrev pub factors_at : List Numbered → Numbered → List Candidate
factors_at all e = flat_map (factor_candidates e) all

abbrev pub factors : List Numbered → List Numbered → List Candidate
factors all es = flat_map (factors_at all) es

-- a negative equation
abbrev pub reflex_candidates : Numbered → List Candidate
reflex_candidates e = only (not e.1.positive && not (is_relation_atom e.1.atom)) (Reflex e.0)

abbrev pub reflexes : List Numbered → List Candidate
reflexes es = flat_map reflex_candidates es

-- relations of opposite signs
abbrev pub resolve_candidates : Numbered → Numbered → List Candidate
resolve_candidates e d = only (not (beq e.1.positive d.1.positive) && is_relation_atom e.1.atom && is_relation_atom d.1.atom) (Resolve e.0 d.0)

abbrev pub resolves_at : List Numbered → Numbered → List Candidate
resolves_at ds e = flat_map (resolve_candidates e) ds

abbrev pub resolves : List Numbered → List Numbered → List Candidate
resolves es ds = flat_map (resolves_at ds) es

-- a side that isn't a variable and isn't smaller than the other
abbrev pub is_source : Signature → Term → Term → Bool
is_source sig side other = not (is_variable side) && not (greater sig other side)

abbrev pub sides_of : Signature → Atom → List Side
sides_of sig (Rel r args) = []
sides_of sig (Eq left right) = only (is_source sig left right) Left ++ only (is_source sig right left) Right

-- the sides of a positive equation from which a para goes
abbrev pub para_sides : Signature → Literal → List Side
para_sides sig l = if l.positive then sides_of sig l.atom else []

abbrev pub paras_into : Way → ℕ → Side → Numbered → List Candidate
paras_into way j side e = map (Para way j side e.0) (places_of_atom e.1.atom)

abbrev pub paras_side : Way → List Numbered → ℕ → Side → List Candidate
paras_side way es j side = flat_map (paras_into way j side) es

abbrev pub paras_at : Signature → Way → List Numbered → Numbered → List Candidate
paras_at sig way es d = flat_map (paras_side way es d.0) (para_sides sig d.1)

-- from the equations ds into the literals es
abbrev pub paras : Signature → Way → List Numbered → List Numbered → List Candidate
paras sig way ds es = flat_map (paras_at sig way es) ds

abbrev pub eligible_in : Source → List Numbered
eligible_in p = eligible p.axiom_row p.clause.literals

-- of g alone: by (i, j), then by i
unfoldable pub candidates_alone : Source → List Candidate
candidates_alone g = factors (with_numbers 1 g.clause.literals) (eligible_in g) ++ reflexes (eligible_in g)

-- of g and p: by (i, j); then by (j, side, i, path) from p into g; then, if p isn't g, from g into p
unfoldable pub candidates_between : Signature → Source → Source → List Candidate
candidates_between sig g p =
    resolves (eligible_in g) (eligible_in p)
    ++ paras sig Inward (eligible_in p) (eligible_in g)
    ++ (if p.number == g.number then [] else paras sig Outward (eligible_in g) (eligible_in p))
