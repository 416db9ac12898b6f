-- Steps of naming terms.
use Rattle.std.proofs.Common.{◌≡◌, ◌≢◌, ℕ, zero, suc, Option, Some, None, List, [], ◌∷◌, refl}
use Rattle.std.specs.Prelude.{slice_get, slice_index_or}
use Rattle.std.proofs.lemmas.Grind.{common_steps}
use Rattle.std.proofs.lemmas.List.{map_more, map_push}
use Rattle.am_term.specs.declared.term.Term.TheViews as term_view
use Rattle.am_syntax.proofs.NamingSteps as others
use Rattle.am_log.specs.declared.named.NamedTerm.{NamedTerm}
use Rattle.am_log.specs.declared.named.NamedTerm.TheVariants.{Headed}
use Rattle.am_log.specs.Naming.{applied, named-Var, named-In, named-App}

abbrev pub or_empty : Option (List ℕ) → List ℕ
or_empty None = []
or_empty (Some n) = n

pub name-at : (ns : List (List ℕ)) (k : ℕ) → slice_index_or ns k [] ≡ or_empty (slice_get ns k)
name-at [] k = refl
name-at (n ∷ ns) zero = refl
name-at (n ∷ ns) (suc k) = name-at ns k

pub ruleset names = (common_steps, others.name-declared, others.name-symbol)

pub applied-some : (n : List ℕ) (ts : List NamedTerm) → ts ≢ [] → applied n ts ≡ Headed n ts
applied-some n [] h = absurd (h refl)
applied-some n (t ∷ ts) h = refl

pub ruleset applications = (common_steps, applied-some)

pub ruleset namings = (common_steps, term_view.the_lemmas, map_more, map_push, named-Var, named-In, named-App)
