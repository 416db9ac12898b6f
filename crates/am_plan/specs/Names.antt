-- What the terms that calls make are called.
use Rattle.std.specs.Prelude.{◌+◌, ◌++◌, ◌/◌, ◌%◌, ℕ, Bool, true, false, Option, Some, None, List, [], ◌∷◌, length, if◌then◌else◌}
use Rattle.std.specs.List.{filter, flat_map}
use Rattle.am_term.specs.declared.id.SortId.{SortId}
use Rattle.am_term.specs.declared.term.Term.{Term}
use Rattle.am_term.specs.Same.{same_term}
use Rattle.am_theory.specs.declared.theory.Theory.{Theory}
use Rattle.am_diagram.specs.declared.diagram.Diagram.{Diagram}
use Rattle.am_plan.specs.Calls.{made}

-- the digit of a number at a power of ten
abbrev pub digit : ℕ → ℕ → ℕ
digit n power = 48 + n / power % 10

-- `T` and five digits
abbrev pub local_name : ℕ → List ℕ
local_name n = 84 ∷ digit n 10000 ∷ digit n 1000 ∷ digit n 100 ∷ digit n 10 ∷ digit n 1 ∷ []

-- the first of the outputs whose answer is the term
abbrev pub output_for : Term → List (List ℕ × SortId) → List Term → Option (List ℕ)
output_for x [] answer = None
output_for x (o ∷ os) [] = None
output_for x (o ∷ os) (a ∷ as_) = if same_term x a then Some o.0 else output_for x os as_

-- a term and what it is called
abbrev pub Named : Type 0
Named = List ℕ × Term

-- an output's name, or that of local k
abbrev pub named_by : Option (List ℕ) → ℕ → Term → Named
named_by (Some n) k x = (n, x)
named_by None k x = (local_name k, x)

abbrev pub is_absent : Option (List ℕ) → Bool
is_absent None = true
is_absent (Some n) = false

-- how many of these terms locals hold: those that no output's answer is
abbrev pub locals_among : List (List ℕ × SortId) → List Term → List Term → ℕ
locals_among outputs answer xs = length (filter (λ (x : Term). is_absent (output_for x outputs answer)) xs)

-- a term that stands behind these: called by the first output whose answer it is, else by the local whose number is one
-- more than there are locals before
abbrev pub named_at : List (List ℕ × SortId) → List Term → List Term → Term → Named
named_at outputs answer before x = named_by (output_for x outputs answer) (locals_among outputs answer before + 1) x

-- each of the terms with its name, in order, behind these
abbrev pub named_behind : List (List ℕ × SortId) → List Term → List Term → List Term → List Named
named_behind outputs answer before [] = []
named_behind outputs answer before (x ∷ xs) = named_at outputs answer before x ∷ named_behind outputs answer (before ++ x ∷ []) xs

-- the terms that the calls make, with their names: a term's place among them tells its local's number
unfoldable pub named_terms : Theory → Diagram → List Term → List Named
named_terms t d answer = named_behind d.outputs answer [] (made t answer)

abbrev pub local_by : Option (List ℕ) → Named → List Named
local_by (Some n) e = []
local_by None e = e ∷ []

-- the locals with their terms, in order: what is called by no output's name
abbrev pub locals : List (List ℕ × SortId) → List Term → List Named → List Named
locals outputs answer es = flat_map (λ (e : Named). local_by (output_for e.1 outputs answer) e) es

-- what a term is called; nothing where no call makes it
abbrev pub name_of_term : List Named → Term → List ℕ
name_of_term [] x = []
name_of_term (e ∷ es) x = if same_term e.1 x then e.0 else name_of_term es x
