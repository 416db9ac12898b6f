-- Which term each name holds while a unit is run by terms.
use Rattle.std.specs.Prelude.{◌++◌, ℕ, suc, Bool, Option, Some, None, List, [], ◌∷◌, cond, is_some, option_map}
use Rattle.std.specs.Str.{bytes_eq}
use Rattle.am_term.specs.declared.id.SortId.{SortId}
use Rattle.am_term.specs.declared.id.SymId.{SymId}
use Rattle.am_term.specs.declared.term.Term.{Term}
use Rattle.am_term.specs.declared.term.Term.TheVariants.{In, App}
use Rattle.am_theory.specs.declared.theory.Theory.{Theory}
use Rattle.am_fortran.specs.declared.statement.Operand.{Operand}
use Rattle.am_fortran.specs.declared.statement.Operand.TheVariants as operand
use Rattle.am_exec.specs.Literals.{literal_written}

-- the terms that names hold, in the order in which they were set: of two pairs with one name the first counts
abbrev pub Store : Type 0
Store = List (List ℕ × Term)

-- names with their terms
abbrev pub store_of : List (List ℕ) → List Term → Store
store_of [] ts = []
store_of (n ∷ ns) [] = []
store_of (n ∷ ns) (t ∷ ts) = (n, t) ∷ store_of ns ts

-- the term that a name holds, if it holds one
abbrev pub term_held : Store → List ℕ → Option Term
term_held [] n = None
term_held (p ∷ ps) n = cond (bytes_eq p.0 n) (Some p.1) (term_held ps n)

-- the name holds a term
abbrev pub is_held : Store → List ℕ → Bool
is_held store n = is_some (term_held store n)

-- the inputs' names from the k-th on, each with its input
abbrev pub inputs_held_from : ℕ → List (List ℕ × SortId) → Store
inputs_held_from k [] = []
inputs_held_from k (d ∷ ds) = (d.0, In k) ∷ inputs_held_from (suc k) ds

-- at the start each input's name holds that input
abbrev pub inputs_held : List (List ℕ × SortId) → Store
inputs_held ds = inputs_held_from 0 ds

-- a name holds a term; a term for which there is no name goes nowhere
abbrev pub entry : Option (List ℕ) → Term → Store
entry None t = []
entry (Some n) t = (n, t) ∷ []

-- the names hold these terms in turn
abbrev pub entries_held : List (Option (List ℕ)) → List Term → Store
entries_held [] ts = []
entries_held (n ∷ ns) [] = []
entries_held (n ∷ ns) (t ∷ ts) = entry n t ++ entries_held ns ts

-- the term of a literal symbol
abbrev pub literal_term : SymId → Term
literal_term f = App f []

-- the term that an operand stands for at a place: a name for what it holds, a literal for its symbol
abbrev pub operand_term : Theory → Store → SortId → Operand → Option Term
operand_term t store place (operand.Name n) = term_held store n
operand_term t store place (operand.Int z) = option_map literal_term (literal_written t place (operand.Int z))
operand_term t store place (operand.Text x) = option_map literal_term (literal_written t place (operand.Text x))

abbrev pub listed_term : Option Term → List Term
listed_term None = []
listed_term (Some t) = t ∷ []

-- the terms that operands stand for at their places; what stands for none is left out
abbrev pub operand_terms : Theory → Store → List SortId → List Operand → List Term
operand_terms t store [] os = []
operand_terms t store (s ∷ ss) [] = []
operand_terms t store (s ∷ ss) (o ∷ os) = listed_term (operand_term t store s o) ++ operand_terms t store ss os
