-- How a term or a formula is written, by its parts.
use Rattle.std.proofs.Common.{◌≡◌, ◌≢◌, ℕ, zero, suc, List, [], ◌∷◌, map, refl, Option, Some, None}
use Rattle.std.specs.Prelude.{slice_get, slice_index_or}
use Rattle.std.proofs.lemmas.Grind.{common_steps}
use Rattle.std.proofs.lemmas.List.{map_more, map_push}
use Rattle.am_term.specs.declared.id.SortId.{SortId}
use Rattle.am_term.specs.declared.symbol.Symbol.{Symbol}
use Rattle.am_term.specs.declared.term.Term.TheViews as term_view
use Rattle.am_term.specs.declared.term.Formula.TheViews as formula_view
use Rattle.am_syntax.specs.declared.written.WrittenTerm.{WrittenTerm}
use Rattle.am_syntax.specs.declared.written.WrittenTerm.TheVariants.{Headed}
use Rattle.am_syntax.specs.Naming.{applied}
use Rattle.am_syntax.proofs.Equations.{named_term-Var, named_term-In, named_term-App, named_formula-Atom, named_formula-Not, named_formula-And, named_formula-Or, named_formula-Implies, named_formula-Iff}

-- the names of what is declared, by number
abbrev pub name_of_declared : Option (List ℕ × SortId) → List ℕ
name_of_declared None = []
name_of_declared (Some d) = d.0

pub name-declared : (ds : List (List ℕ × SortId)) (k : ℕ) → slice_index_or (map (λ d. d.0) ds) k [] ≡ name_of_declared (slice_get ds k)
name-declared [] k = refl
name-declared (d ∷ ds) zero = refl
name-declared (d ∷ ds) (suc k) = name-declared ds k

abbrev pub name_of_symbol : Option Symbol → List ℕ
name_of_symbol None = []
name_of_symbol (Some y) = y.name

pub name-symbol : (ys : List Symbol) (k : ℕ) → slice_index_or (map (λ y. y.name) ys) k [] ≡ name_of_symbol (slice_get ys k)
name-symbol [] k = refl
name-symbol (y ∷ ys) zero = refl
name-symbol (y ∷ ys) (suc k) = name-symbol ys k

pub ruleset names = (common_steps, name-declared, name-symbol)

pub applied-some : (n : List ℕ) (ts : List WrittenTerm) → ts ≢ [] → applied n ts ≡ Headed n ts
applied-some n [] h = absurd (h refl)
applied-some n (t ∷ ts) h = refl

pub ruleset applications = (common_steps, applied-some)

pub ruleset named_terms = (common_steps, term_view.the_lemmas, map_more, map_push, named_term-Var, named_term-In, named_term-App)

pub ruleset named_formulas = (common_steps, formula_view.the_lemmas, map_more, map_push, named_formula-Atom, named_formula-Not, named_formula-And, named_formula-Or, named_formula-Implies, named_formula-Iff)
