-- For the private contracts and the proofs of this crate alone: what frames on the stack stand for.
use Rattle.std.specs.Prelude.{◌++◌, ℕ, List, [], ◌∷◌}
use Rattle.am_term.specs.declared.term.Term.{Term}
use Rattle.am_unify.specs.Substitution.{insert_binding}
use Rattle.am_simplify.specs.declared.frames.Bound.{Bound}
use Rattle.am_simplify.specs.declared.frames.Bound.TheVariants.{Nothing, Also'}
use Rattle.am_simplify.specs.declared.frames.Path.{Path}
use Rattle.am_simplify.specs.declared.frames.Path.TheVariants.{Root, Below'}
use Rattle.am_simplify.specs.declared.frames.Todo.{Todo}
use Rattle.am_simplify.specs.declared.frames.Todo.TheVariants.{Done, Next'}

-- the bindings, in order of their numbers
abbrev pub bindings : Bound → List (ℕ × Term)
bindings Nothing = []
bindings (Also' n t p before) = insert_binding n t.now (bindings before)

-- the lists that are still to be matched, the next one first
abbrev pub tasks : Todo → List (List Term × List Term)
tasks Done = []
tasks (Next' ps ts p behind) = (ps.now, ts.now) ∷ tasks behind

-- the numbers on the way, the first one first
abbrev pub path_of : Path → List ℕ
path_of Root = []
path_of (Below' k p above) = path_of above ++ k ∷ []
