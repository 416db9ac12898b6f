-- What each rule of inference makes of its parents, as a function: a conclusion with its lists of terms, or nothing.
-- Nothing comes exactly where the rule doesn't suit the parents, where no bindings make the named parts one, or, of
-- paramodulation and rewriting, where the conclusion isn't well sorted. Literals are named by their places from 1.
use Rattle.std.specs.Prelude.{◌≡◌, ℕ, List, Option, None, option_map, if◌then◌else◌}
use Rattle.std.proofs.Common.{refl}
use Rattle.am_term.specs.declared.id.SortId.{SortId}
use Rattle.am_term.specs.declared.signature.Signature.{Signature}
use Rattle.am_term.specs.declared.term.Term.{Term}
use Rattle.am_term.specs.Place.{member}
use Rattle.am_clause.specs.declared.clause.Clause.{Clause}
use Rattle.am_clause.specs.declared.row.Made.{Made}
use Rattle.am_clause.specs.declared.row.Side.{Side}
use Rattle.am_clause.specs.MostGeneral.{conclusion_of}
use Rattle.am_clause.specs.NumberedMade.{numbered_made}
use Rattle.am_clause.specs.Rules.{factor, reflex, resolve, para, close, rewrite, side_at, part_at}
use Rattle.am_clause.specs.Variables.{variables}
use Rattle.am_rules.specs.Alone.{factoring, reflexion}
use Rattle.am_rules.specs.Chosen.{closing}
use Rattle.am_rules.specs.Paramodulation.{paramodulation, sorted_only}
use Rattle.am_rules.specs.Rewriting.{own_terms, found_match}
use Rattle.am_rules.specs.Solving.{images, resolution}

-- literals i and j of p made one by a most general unifier of their atoms
unfoldable pub factored : Signature → List SortId → Clause → ℕ → ℕ → Option Made
factored sig ins p i j = if (factor i j).suits p then factoring sig ins p i j else None

pub factored-is : (sig : Signature) (ins : List SortId) (p : Clause) (i j : ℕ) → factored sig ins p i j ≡ (if (factor i j).suits p then factoring sig ins p i j else None)
unfolding factored
factored-is sig ins p i j = refl

-- p without its negative equation i, by a most general unifier of the sides
unfoldable pub reflexed : Signature → List SortId → Clause → ℕ → Option Made
reflexed sig ins p i = if (reflex i).suits p then reflexion sig ins p i else None

pub reflexed-is : (sig : Signature) (ins : List SortId) (p : Clause) (i : ℕ) → reflexed sig ins p i ≡ (if (reflex i).suits p then reflexion sig ins p i else None)
unfolding reflexed
reflexed-is sig ins p i = refl

-- p without literal i and q without literal j, by a most general unifier of the two atoms and of the answers, where
-- both have one
unfoldable pub resolved : Signature → List SortId → Clause → ℕ → Clause → ℕ → Option Made
resolved sig ins p i q j = if (resolve i j).suits p q then resolution sig ins p i q j else None

pub resolved-is : (sig : Signature) (ins : List SortId) (p : Clause) (i : ℕ) (q : Clause) (j : ℕ) → resolved sig ins p i q j ≡ (if (resolve i j).suits p q then resolution sig ins p i q j else None)
unfolding resolved
resolved-is sig ins p i q j = refl

-- q with the other side of p's equation j at the path of literal i, then p without j, by a most general unifier of the
-- named side and the part there, and of the answers, where both have one; only a well sorted conclusion
unfoldable pub paramodulated : Signature → List SortId → Clause → ℕ → Side → Clause → ℕ → List ℕ → Option Made
paramodulated sig ins p j side q i path = if (para j side i path).suits p q then sorted_only sig ins (paramodulation sig ins p j side q i path) else None

pub paramodulated-is : (sig : Signature) (ins : List SortId) (p : Clause) (j : ℕ) (side : Side) (q : Clause) (i : ℕ) (path : List ℕ)
    → paramodulated sig ins p j side q i path ≡ (if (para j side i path).suits p q then sorted_only sig ins (paramodulation sig ins p j side q i path) else None)
unfolding paramodulated
paramodulated-is sig ins p j side q i path = refl

-- the answer of p, which has no literals, with the first fitting input for each variable, else the first fitting
-- computable constant
unfoldable pub closed_off : Signature → List SortId → Clause → Option Made
closed_off sig ins p = if close.suits p then closing sig ins p else None

pub closed-is : (sig : Signature) (ins : List SortId) (p : Clause) → closed_off sig ins p ≡ (if close.suits p then closing sig ins p else None)
unfolding closed_off
closed-is sig ins p = refl

-- what these bindings of p's variables make of p and q, of which q keeps its own variables; a variable of p that isn't
-- bound stays as it is
abbrev pub rewriting_by : Clause → Side → Clause → ℕ → List ℕ → List (ℕ × Term) → Made
rewriting_by p side q i path found = numbered_made (conclusion_of (rewrite 1 side i path) p q (images found 0 (variables p)) (own_terms (variables q)))

-- by the match that makes that side of p's equation the part of q's literal i at the path
abbrev pub rewriting : Signature → List SortId → Clause → Side → Clause → ℕ → List ℕ → Option Made
rewriting sig ins p side q i path = option_map (rewriting_by p side q i path) (found_match sig ins (side_at side (member p.literals 1)) (part_at path (member q.literals i)))

-- q with the other side of p, which is one positive equation without an answer, at the path of literal i, where the
-- named side matches the part there: q's variables are constants; only a well sorted conclusion
unfoldable pub rewritten : Signature → List SortId → Clause → Side → Clause → ℕ → List ℕ → Option Made
rewritten sig ins p side q i path = if (rewrite 1 side i path).suits p q then sorted_only sig ins (rewriting sig ins p side q i path) else None

pub rewritten-is : (sig : Signature) (ins : List SortId) (p : Clause) (side : Side) (q : Clause) (i : ℕ) (path : List ℕ)
    → rewritten sig ins p side q i path ≡ (if (rewrite 1 side i path).suits p q then sorted_only sig ins (rewriting sig ins p side q i path) else None)
unfolding rewritten
rewritten-is sig ins p side q i path = refl
