-- Inferences after a history.
use Rattle.std.specs.Prelude.{List, ℕ, ◌≡◌, ◌≢◌, ◌+◌, ◌≤◌, true, false, ◌∷◌, [], Some, ◌<◌, ◌*◌, ◌-◌}
use Rattle.std.proofs.Common.{refl, inl, ◌∙◌, sym, inr, ap, arith, subst}
use Rattle.am_clause.specs.declared.row.Row.{Row}
use Rattle.am_search.proofs.Fewer.{infers_less, chooses_less}
use Rattle.am_search.proofs.Standing.{due_by, chooses_by}
use Rattle.am_search.specs.Outcomes.{due_kind, advanced}
use Rattle.am_search.specs.Plain.{History, Start, Then, Infer, Choose, Reading, due_of, after, due_at, wait_of, Pick, picked_at}
use Rattle.am_search.specs.Rules.{Rules}
use Rattle.am_search.specs.Searching.{GoesOn, StandsAt, Run, StopsInferring, task}
use Rattle.am_simplify.specs.NormalStep.{goes}
use Rattle.am_agenda.specs.declared.wait_row.WaitRow.{WaitRow}
use Rattle.am_search.specs.declared.fate.End.{End}
use Rattle.am_search.specs.declared.fate.End.TheVariants.{Spent, Found, Contradiction, Exhausted}
use Rattle.am_search.specs.declared.fate.Kind.{Kind}
use Rattle.am_search.specs.declared.fate.Kind.TheVariants.{Inferring, Ending, Choosing}
use Rattle.am_search.specs.declared.fate.Stage.{Stage}
use Rattle.am_search.specs.declared.fate.Stage.TheVariants.{Ended, Makes, Closes, Quiet}
use Rattle.am_search.specs.declared.searcher.Turned.TheVariants.{Over}
use Rattle.am_term.specs.Place.{place}

goes_same : (h : History) → GoesOn h h
goes_same Start = refl
goes_same (Then h (Infer row)) = inl refl
goes_same (Then h (Choose n)) = refl

pub run_none : (c : Rules) (start : List Row) (limit : ℕ) (h : History) (v : Reading) (made : ℕ) → StandsAt c start limit h v made → Run c start limit h v made
run_none c start limit h v made s = record { history = h; goes_on = goes_same h; stands = s }

pub stands_so : (c : Rules) (start : List Row) (limit : ℕ) (h : History) (v w : Reading) (made : ℕ) → StandsAt c start limit h v made → w ≡ v → StandsAt c start limit h w made
stands_so c start limit h v w made s is = record { reads = s.reads ∙ sym is; follows = s.follows; counts = s.counts; few = s.few }

pub run_same : (c : Rules) (start : List Row) (limit : ℕ) (h : History) (v w : Reading) (made : ℕ) → Run c start limit h v made → w ≡ v → Run c start limit h w made
run_same c start limit h v w made r is = record { history = r.history; goes_on = r.goes_on; stands = stands_so c start limit r.history v w made r.stands is }

pub run_more : (c : Rules) (start : List Row) (limit : ℕ) (h : History) (v w : Reading) (made : ℕ)
    → Run c start limit h v made → due_kind (due_of c v) ≡ Inferring → made ≢ limit → w ≡ advanced c v → Run c start limit h w (made + 1)
run_more c start limit h v w made r is isnt goes =
    let d = due_by c v w (due_of c v) is goes in
    let few : made ≤ limit = r.stands.few in
    record {
      history = Then r.history (Infer d.0);
      goes_on = inr r.goes_on;
      stands = record {
        reads = ap (after c (Infer d.0)) r.stands.reads ∙ sym d.2;
        follows = (ap (due_of c) r.stands.reads ∙ d.1, r.stands.follows);
        counts = ap (λ n. n + 1) r.stands.counts;
        few = omega arith;
      };
    }

pub stops_at : (limit made : ℕ) (kind : Kind) (end : End) → kind ≡ Ending end → end ≢ Spent → StopsInferring limit made kind (Over end)
stops_at limit made kind Found is isnt = is
stops_at limit made kind Contradiction is isnt = is
stops_at limit made kind Exhausted is isnt = is
stops_at limit made kind Spent is isnt = absurd (isnt refl)

at_kind : (waits : List WaitRow) (rs : List Row) (stage : Stage) (end : End) → due_kind (due_at waits rs stage) ≡ Ending end → end ≢ Spent
at_kind waits rs (Ended true) end is = λ e. cc
at_kind waits rs (Ended false) end is = λ e. cc
at_kind waits rs (Makes row) end is = λ e. cc
at_kind waits rs (Closes row) end is = λ e. cc
at_kind waits (r ∷ rs) Quiet end is = λ e. cc
at_kind [] [] Quiet end is = λ e. cc
at_kind (w ∷ ws) [] Quiet end is = λ e. cc

-- an end that is due isn't Spent
pub never_spent : (c : Rules) (v : Reading) (end : End) → due_kind (due_of c v) ≡ Ending end → end ≢ Spent
never_spent c v end is = at_kind (wait_of c v) v.rest v.judged.stage end is

-- after a choice
pub stands_chosen : (c : Rules) (start : List Row) (limit : ℕ) (h : History) (v w : Reading) (made n : ℕ)
    → StandsAt c start limit h v made → due_kind (due_of c v) ≡ Choosing → w ≡ after c (Choose n) v → StandsAt c start limit (Then h (Choose n)) w made
stands_chosen c start limit h v w made n s is goes = record {
  reads = ap (after c (Choose n)) s.reads ∙ sym goes;
  follows = (ap (due_of c) s.reads ∙ chooses_by (due_of c v) is, s.follows);
  counts = s.counts;
  few = s.few;
}

-- of the same list
pub picked_of : (pick : Pick) (ws waits : List WaitRow) (n : ℕ) → waits ≡ ws → picked_at waits (pick [] waits) ≡ Some n → picked_at ws (pick [] ws) ≡ Some n
picked_of pick ws waits n are is = subst (λ (l : List WaitRow). picked_at l (pick [] l) ≡ Some n) are is

-- what is left to do, of the same reading
pub less_same : (c : Rules) (limit made most : ℕ) (u v : Reading) → v ≡ u → task c limit made u ≤ most → task c limit made v ≤ most
less_same c limit made most u v same less = subst (λ (w : Reading). task c limit made w ≤ most) (sym same) less

pub less_more : (c : Rules) (u v w : Reading) (limit made most : ℕ) → v ≡ u → due_kind (due_of c v) ≡ Inferring → w ≡ advanced c v → made ≤ limit → made ≢ limit → task c limit made u ≤ most → task c limit (made + 1) w ≤ most
less_more c u v w limit made most same is goes few isnt less =
    let one : task c limit (made + 1) w < task c limit made u = infers_less c u v w limit made same is goes few isnt in
    omega arith

pub less_chosen : (c : Rules) (v w x : Reading) (limit made after_made n place : ℕ) → picked_at (wait_of c v) place ≡ Some n → w ≡ after c (Choose n) v → task c limit after_made x ≤ task c limit made w → task c limit after_made x < task c limit made v
less_chosen c v w x limit made after_made n place is goes less =
    let one : task c limit made w < task c limit made v = chooses_less c v v w (3 * (limit - made)) n place refl is goes in
    omega arith
