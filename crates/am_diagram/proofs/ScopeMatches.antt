-- What the names of a draft stand for: inputs with their numbers and sorts, and variables with theirs.
use Rattle.std.proofs.Common.{◌≡◌, ◌∙◌, ◌+◌, ℕ, zero, suc, Bool, true, false, List, [], ◌∷◌, ◌++◌, Option, Some, refl, ap, arith, slice_get}
use Rattle.std.specs.Prelude.{length, if◌then◌else◌}
use Rattle.std.specs.List.{AllByRecursion}
use Rattle.std.specs.Str.{bytes_eq}
use Rattle.am_term.specs.declared.id.SortId.{SortId}
use Rattle.am_syntax.specs.declared.scope.Bound.{Bound}
use Rattle.am_syntax.specs.declared.scope.Standing.{Standing}
use Rattle.am_syntax.specs.declared.scope.Standing.TheVariants.{Variable, Input, Barred}
use Rattle.am_syntax.specs.Scopes.{standing_of}
use Rattle.am_syntax.specs.Laws.{MatchesSignature}
use Rattle.am_theory.specs.declared.theory.Theory.{Theory}
use Rattle.am_theory.specs.Facts.{IsSort}
use Rattle.am_theory.proofs.Appends.{all-at, all-map, all-weaker}
use Rattle.am_diagram.specs.declared.draft.Draft.{Draft}
use Rattle.am_diagram.specs.Listed.{entry_sorts}
use Rattle.am_diagram.specs.Drafts.{inputs_from, bound_variables_from, barred, requirement_scope, given_scope}
use Rattle.am_diagram.proofs.SoundDraft.{DummySound, ObjectSound, Sound}
use Rattle.am_diagram.proofs.StandingViews.{Entry}

abbrev stands_for : Standing → Option Standing
stands_for z = Some z

-- ---- in one list or behind it
either_by : (b : Bool) (x z : Standing) (o p : Option Standing) (G : Type 0) → ((if b then Some x else p) ≡ stands_for z → G) → ((p ≡ stands_for z → G) → o ≡ stands_for z → G) → (if b then Some x else o) ≡ stands_for z → G
either_by true x z o p G h more e = h e
either_by false x z o p G h more e = more h e

either : (w : List ℕ) (xs ys : List Bound) (z : Standing) (G : Type 0) → (standing_of w xs ≡ stands_for z → G) → (standing_of w ys ≡ stands_for z → G) → standing_of w (xs ++ ys) ≡ stands_for z → G
either w [] ys z G h k e = k e
either w (b ∷ xs) ys z G h k e = either_by (bytes_eq w b.name) b.standing z (standing_of w (xs ++ ys)) (standing_of w xs) G h (λ g q. either w xs ys z G g k q) e

-- the first, or one behind it
hit : (b : Bool) (x z : Standing) (o : Option Standing) (G : Type 0) → (x ≡ z → G) → (o ≡ stands_for z → G) → (if b then Some x else o) ≡ stands_for z → G
hit true x z o G h k e = h (cc)
hit false x z o G h k e = k e

-- ---- the number of a name tells its place
pub record IsPlaced (es : List Entry) (k j : ℕ) (s : SortId) : Type 0 where
  pub place : ℕ
  pub number : j ≡ k + place
  pub there : slice_get (entry_sorts es) place ≡ Some s

at_first : (e : Entry) (es : List Entry) (k j : ℕ) (s : SortId) → k ≡ j → e.1 ≡ s → IsPlaced (e ∷ es) k j s
at_first e es k j s q r = record { place = 0; number = omega arith; there = ap (λ x. Some x) r }

behind : (e : Entry) (es : List Entry) (k j : ℕ) (s : SortId) → IsPlaced es (k + 1) j s → IsPlaced (e ∷ es) k j s
behind e es k j s p = record { place = suc p.place; number = let n : j ≡ k + 1 + p.place = p.number in omega arith; there = p.there }

from_zero : (n i : ℕ) → n ≡ 0 + i → n ≡ i
from_zero n i e = omega arith

input-placed : (w : List ℕ) (k : ℕ) (es : List Entry) (j : ℕ) (s : SortId) → standing_of w (inputs_from k es) ≡ stands_for (Input j s) → IsPlaced es k j s
input-placed w k [] j s e = absurd cc
input-placed w k (x ∷ es) j s e =
    hit (bytes_eq w x.0) (Input k x.1) (Input j s) (standing_of w (inputs_from (k + 1) es)) (IsPlaced (x ∷ es) k j s)
    (λ q. at_first x es k j s (cc) (cc)) (λ q. behind x es k j s (input-placed w (k + 1) es j s q)) e

variable-placed : (w : List ℕ) (k : ℕ) (es : List Entry) (j : ℕ) (s : SortId) → standing_of w (bound_variables_from k es) ≡ stands_for (Variable j s) → IsPlaced es k j s
variable-placed w k [] j s e = absurd cc
variable-placed w k (x ∷ es) j s e =
    hit (bytes_eq w x.0) (Variable k x.1) (Variable j s) (standing_of w (bound_variables_from (k + 1) es)) (IsPlaced (x ∷ es) k j s)
    (λ q. at_first x es k j s (cc) (cc)) (λ q. behind x es k j s (variable-placed w (k + 1) es j s q)) e

-- ---- inputs are no variables, variables are no inputs, and what is barred is neither
input-not : (w : List ℕ) (k : ℕ) (es : List Entry) (j : ℕ) (s : SortId) → standing_of w (inputs_from k es) ≡ stands_for (Variable j s) → ⊥
input-not w k [] j s e = cc
input-not w k (x ∷ es) j s e = hit (bytes_eq w x.0) (Input k x.1) (Variable j s) (standing_of w (inputs_from (k + 1) es)) ⊥ (λ q. cc) (λ q. input-not w (k + 1) es j s q) e

variable-not : (w : List ℕ) (k : ℕ) (es : List Entry) (j : ℕ) (s : SortId) → standing_of w (bound_variables_from k es) ≡ stands_for (Input j s) → ⊥
variable-not w k [] j s e = cc
variable-not w k (x ∷ es) j s e = hit (bytes_eq w x.0) (Variable k x.1) (Input j s) (standing_of w (bound_variables_from (k + 1) es)) ⊥ (λ q. cc) (λ q. variable-not w (k + 1) es j s q) e

barred-variable : (w : List ℕ) (es : List Entry) (j : ℕ) (s : SortId) → standing_of w (barred es) ≡ stands_for (Variable j s) → ⊥
barred-variable w [] j s e = cc
barred-variable w (x ∷ es) j s e = hit (bytes_eq w x.0) Barred (Variable j s) (standing_of w (barred es)) ⊥ (λ q. cc) (λ q. barred-variable w es j s q) e

barred-input : (w : List ℕ) (es : List Entry) (j : ℕ) (s : SortId) → standing_of w (barred es) ≡ stands_for (Input j s) → ⊥
barred-input w [] j s e = cc
barred-input w (x ∷ es) j s e = hit (bytes_eq w x.0) Barred (Input j s) (standing_of w (barred es)) ⊥ (λ q. cc) (λ q. barred-input w es j s q) e

-- ---- sorts by places among two lists
get-front : (xs ys : List Entry) (i : ℕ) (s : SortId) → slice_get (entry_sorts xs) i ≡ Some s → slice_get (entry_sorts (xs ++ ys)) i ≡ Some s
get-front [] ys i s e = absurd cc
get-front (x ∷ xs) ys zero s e = e
get-front (x ∷ xs) ys (suc i) s e = get-front xs ys i s e

get-back : (xs ys : List Entry) (i k : ℕ) (s : SortId) → k ≡ length xs + i → slice_get (entry_sorts ys) i ≡ Some s → slice_get (entry_sorts (xs ++ ys)) k ≡ Some s
get-back [] ys i k s n e = let q : k ≡ i = omega arith in ap (slice_get (entry_sorts ys)) q ∙ e
get-back (x ∷ xs) ys i zero s n e = absurd (omega arith)
get-back (x ∷ xs) ys i (suc k) s n e = get-back xs ys i k s (omega arith) e

-- ---- the two scopes
module _ (t : Theory) (d : Draft) where
  abbrev objects_bound : List Bound
  objects_bound = bound_variables_from 0 d.objects

  abbrev outputs_bound : List Bound
  outputs_bound = bound_variables_from (length d.objects) d.outputs

  -- a variable of a requirement has its number and sort among the objects and then the outputs
  pub variable-sort : (w : List ℕ) (n : ℕ) (s : SortId) → standing_of w (requirement_scope t d).bound ≡ stands_for (Variable n s) → slice_get (entry_sorts (d.objects ++ d.outputs)) n ≡ Some s
  variable-sort w n s =
      either w (inputs_from 0 d.inputs ++ objects_bound) outputs_bound (Variable n s) (slice_get (entry_sorts (d.objects ++ d.outputs)) n ≡ Some s)
      (either w (inputs_from 0 d.inputs) objects_bound (Variable n s) (slice_get (entry_sorts (d.objects ++ d.outputs)) n ≡ Some s)
      (λ e. absurd (input-not w 0 d.inputs n s e))
      (λ e. let p = variable-placed w 0 d.objects n s e in ap (slice_get (entry_sorts (d.objects ++ d.outputs))) (from_zero n p.place p.number) ∙ get-front d.objects d.outputs p.place s p.there))
      (λ e. let p = variable-placed w (length d.objects) d.outputs n s e in get-back d.objects d.outputs p.place n s p.number p.there)

  -- an input has its sort among those of the inputs
  input-sort : (w : List ℕ) (k : ℕ) (s : SortId) → standing_of w (inputs_from 0 d.inputs) ≡ stands_for (Input k s) → slice_get (entry_sorts d.inputs) k ≡ Some s
  input-sort w k s e = let p = input-placed w 0 d.inputs k s e in ap (slice_get (entry_sorts d.inputs)) (from_zero k p.place p.number) ∙ p.there

  required-input : (w : List ℕ) (k : ℕ) (s : SortId) → standing_of w (requirement_scope t d).bound ≡ stands_for (Input k s) → slice_get (entry_sorts d.inputs) k ≡ Some s
  required-input w k s =
      either w (inputs_from 0 d.inputs ++ objects_bound) outputs_bound (Input k s) (slice_get (entry_sorts d.inputs) k ≡ Some s)
      (either w (inputs_from 0 d.inputs) objects_bound (Input k s) (slice_get (entry_sorts d.inputs) k ≡ Some s)
      (input-sort w k s)
      (λ e. absurd (variable-not w 0 d.objects k s e)))
      (λ e. absurd (variable-not w (length d.objects) d.outputs k s e))

  given-input : (w : List ℕ) (k : ℕ) (s : SortId) → standing_of w (given_scope t d).bound ≡ stands_for (Input k s) → slice_get (entry_sorts d.inputs) k ≡ Some s
  given-input w k s =
      either w (inputs_from 0 d.inputs ++ barred d.objects) (barred d.outputs) (Input k s) (slice_get (entry_sorts d.inputs) k ≡ Some s)
      (either w (inputs_from 0 d.inputs) (barred d.objects) (Input k s) (slice_get (entry_sorts d.inputs) k ≡ Some s)
      (input-sort w k s)
      (λ e. absurd (barred-input w d.objects k s e)))
      (λ e. absurd (barred-input w d.outputs k s e))

  -- no name stands for a variable in a given
  pub no-variable : (w : List ℕ) (n : ℕ) (s : SortId) → standing_of w (given_scope t d).bound ≡ stands_for (Variable n s) → ⊥
  no-variable w n s =
      either w (inputs_from 0 d.inputs ++ barred d.objects) (barred d.outputs) (Variable n s) ⊥
      (either w (inputs_from 0 d.inputs) (barred d.objects) (Variable n s) ⊥
      (λ e. input-not w 0 d.inputs n s e)
      (λ e. barred-variable w d.objects n s e))
      (λ e. barred-variable w d.outputs n s e)

  module _ (k : Sound t d) where
    objects-there : AllByRecursion (IsSort t) (entry_sorts d.objects)
    objects-there = all-map (IsSort t) (λ (e : Entry). e.1) d.objects (all-weaker (ObjectSound t) (λ (e : Entry). IsSort t e.1) (λ e h. h.sorted) d.objects k.objects)

    outputs-there : AllByRecursion (IsSort t) (entry_sorts d.outputs)
    outputs-there = all-map (IsSort t) (λ (e : Entry). e.1) d.outputs (all-weaker (DummySound t) (λ (e : Entry). IsSort t e.1) (λ e h. h.sorted) d.outputs k.outputs)

    variable-there : (w : List ℕ) (n : ℕ) (s : SortId) → standing_of w (requirement_scope t d).bound ≡ stands_for (Variable n s) → IsSort t s
    variable-there w n s =
        either w (inputs_from 0 d.inputs ++ objects_bound) outputs_bound (Variable n s) (IsSort t s)
        (either w (inputs_from 0 d.inputs) objects_bound (Variable n s) (IsSort t s)
        (λ e. absurd (input-not w 0 d.inputs n s e))
        (λ e. let p = variable-placed w 0 d.objects n s e in all-at (IsSort t) (entry_sorts d.objects) p.place s objects-there p.there))
        (λ e. let p = variable-placed w (length d.objects) d.outputs n s e in all-at (IsSort t) (entry_sorts d.outputs) p.place s outputs-there p.there)

    pub required-matches : MatchesSignature (requirement_scope t d) t.sig (entry_sorts d.inputs)
    required-matches = record { names = refl; symbols = refl; parents = refl; variables = variable-there; inputs = required-input }

  pub given-matches : MatchesSignature (given_scope t d) t.sig (entry_sorts d.inputs)
  given-matches = record { names = refl; symbols = refl; parents = refl; variables = λ w n s e. absurd (no-variable w n s e); inputs = given-input }
