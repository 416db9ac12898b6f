-- Each inferred row is what the call of its rule answers for earlier rows.
use Rattle.std.specs.Prelude.{List, ℕ, slice_get, ◌≡◌, Some, ◌++◌, [], ◌∷◌, zero, suc, Bool, None, true, false, ◌==◌, ◌-◌, Option, length, ◌+◌, option_map, map, ◌&&◌, is_some, if◌then◌else◌}
use Rattle.std.proofs.Common.{ap, refl, ◌∙◌, arith, subst, append_assoc, sym}
use Rattle.std.proofs.lemmas.List.{length-append}
use Rattle.std.specs.List.{AllByRecursion, cons_option, filter_map, filter, flat_map}
use Rattle.am_clause.specs.declared.clause.Clause.{Clause}
use Rattle.am_clause.specs.declared.row.Made.{Made}
use Rattle.am_clause.specs.declared.row.Row.{Row}
use Rattle.am_clause.specs.declared.row.Rule.{Rule}
use Rattle.am_rules.specs.Inference.{row_of}
use Rattle.am_search.proofs.Entered.{row_found}
use Rattle.am_rules.specs.Conclusions.{factored, resolved, paramodulated, reflexed, rewritten, closed_off}
use Rattle.am_search.specs.Candidates.{candidates_between, candidates_alone}
use Rattle.am_simplify.specs.Numbering.{with_numbers, or_else, find_map}
use Rattle.am_search.specs.Members.{row_at, Member, numbered_rows, source_of, processed, is_processed, kept_rows, is_empty, clause_row, clause_rows}
use Rattle.am_simplify.specs.Places.{places_of_atom}
use Rattle.am_search.specs.Plain.{kept_or_closed, last_or, dropped_or, rewritten_or, big_or, Judged, prepare, when_quiet, begun, start_prepared, next_start, row_judged, turn_at, behind, rest_after, History, rows, judged, Start, at_first, Then, Choose, Infer, choices, rest, due_at, Infers, EachIsDue, wait_list}
use Rattle.am_search.specs.Replay.{on, on_both, only_if, replay, IsReplayed, Logged, StepsLaw}
use Rattle.am_search.specs.Rules.{Rules, rules_of, rules_of-close_of, rules_of-step_of, rules_of-turn, step_row, step_rule}
use Rattle.am_simplify.specs.NormalStep.{made_by_rule, rewrite_with, rewrite_at, rewrite_in, step_without, first_to_go, normal_step}
use Rattle.am_simplify.specs.Units.{units, unit_of, unit_with, unit_side}
use Rattle.am_simplify.specs.declared.step.RewriteMade.{RewriteMade}
use Rattle.am_simplify.specs.declared.step.StepRule.{StepRule}
use Rattle.am_simplify.specs.declared.step.StepRule.TheVariants.{Reflex as Reflexes, Rewrite}
use Rattle.am_simplify.specs.declared.step.Unit.{Unit}
use Rattle.am_clause.specs.declared.row.Side.{Side}
use Rattle.am_search.specs.Turn.{rule_of, tried, row_made, made_with, turn, all_made}
use Rattle.am_search.specs.declared.candidate.Candidate.{Candidate}
use Rattle.am_search.specs.declared.candidate.Candidate.TheVariants.{Factor, Reflex, Resolve, Para}
use Rattle.am_search.specs.declared.candidate.Way.TheVariants.{Inward, Outward}
use Rattle.am_agenda.specs.declared.wait_row.WaitRow.{WaitRow}
use Rattle.am_search.specs.declared.fate.Prepared.{Prepared}
use Rattle.am_simplify.specs.declared.reason.Reason.{Reason}
use Rattle.am_search.specs.declared.fate.Stage.{Stage}
use Rattle.am_search.specs.declared.fate.Stage.TheVariants.{Quiet, Makes, Closes, Ended}
use Rattle.am_term.specs.declared.id.SortId.{SortId}
use Rattle.am_term.specs.declared.signature.Signature.{Signature}
use Rattle.am_clause.specs.declared.row.Rule.TheVariants as R

get_more : (rs more : List Row) (k : ℕ) (row : Row) → slice_get rs k ≡ Some row → slice_get (rs ++ more) k ≡ Some row
get_more [] more k row is = absurd (cc)
get_more (r ∷ rs) more zero row is = is
get_more (r ∷ rs) more (suc k) row is = get_more rs more k row is

unless_more : (b : Bool) (rs more : List Row) (k : ℕ) (row : Row) → (if b then None else slice_get rs k) ≡ Some row → (if b then None else slice_get (rs ++ more) k) ≡ Some row
unless_more true rs more k row is = is
unless_more false rs more k row is = get_more rs more k row is

pub at_more : (rs more : List Row) (n : ℕ) (row : Row) → row_at rs n ≡ Some row → row_at (rs ++ more) n ≡ Some row
at_more rs more n row is = unless_more (n == 0) rs more (n - 1) row is

on_more : (o e : Option Row) (f : Clause → Option Made) (m : Made) → ((row : Row) → o ≡ Some row → e ≡ Some row) → on o f ≡ Some m → on e f ≡ Some m
on_more None e f m k is = absurd (cc)
on_more (Some row) e f m k is = ap (λ (x : Option Row). on x f) (k row refl) ∙ is

both_more : (o e p q : Option Row) (f : Clause → Clause → Option Made) (m : Made) → ((row : Row) → o ≡ Some row → e ≡ Some row) → ((row : Row) → p ≡ Some row → q ≡ Some row) → on_both o p f ≡ Some m → on_both e q f ≡ Some m
both_more None e p q f m k l is = absurd (cc)
both_more (Some row) e p q f m k l is = ap (λ (x : Option Row). on_both x q f) (k row refl) ∙ on_more p q (f row.clause) m l is

only_more : (b : Bool) (o e : Option Made) (m : Made) → (o ≡ Some m → e ≡ Some m) → only_if b o ≡ Some m → only_if b e ≡ Some m
only_more true o e m k is = k is
only_more false o e m k is = is

all_append : (P : Row → Type 0) (xs ys : List Row) → AllByRecursion P xs → AllByRecursion P ys → AllByRecursion P (xs ++ ys)
all_append P [] ys a b = b
all_append P (x ∷ xs) ys a b = (a.0, all_append P xs ys a.1 b)

cons_all : (P : Row → Type 0) (o : Option Row) (xs : List Row) → ((row : Row) → o ≡ Some row → P row) → AllByRecursion P xs → AllByRecursion P (cons_option o xs)
cons_all P None xs k a = a
cons_all P (Some row) xs k a = (k row refl, a)

all_filter_map : (P : Row → Type 0) (f : Candidate → Option Row) (cs : List Candidate) → ((x : Candidate) (row : Row) → f x ≡ Some row → P row) → AllByRecursion P (filter_map f cs)
all_filter_map P f [] k = tt
all_filter_map P f (x ∷ cs) k = cons_all P (f x) (filter_map f cs) (k x) (all_filter_map P f cs k)

one_member : (P : Member → Type 0) (b : Bool) (m : Member) (ms : List Member) → P m → AllByRecursion P ms → AllByRecursion P (if b then m ∷ ms else ms)
one_member P true m ms a b = (a, b)
one_member P false m ms a b = b

all_filter : (P : Member → Type 0) (p : Member → Bool) (ms : List Member) → AllByRecursion P ms → AllByRecursion P (filter p ms)
all_filter P p [] a = tt
all_filter P p (m ∷ ms) a = one_member P (p m) m (filter p ms) a.0 (all_filter P p ms a.1)

module _ (sig : Signature) (ins : List SortId) where
  replay_more : (rs more : List Row) (rule : Rule) (m : Made) → replay sig ins rs rule ≡ Some m → replay sig ins (rs ++ more) rule ≡ Some m
  replay_more rs more (R.Axiom a k) m is = absurd (cc)
  replay_more rs more R.Goal m is = absurd (cc)
  replay_more rs more (R.Given k) m is = absurd (cc)
  replay_more rs more (R.Factor p i j) m is = on_more (row_at rs p) (row_at (rs ++ more) p) (λ g. factored sig ins g i j) m (at_more rs more p) is
  replay_more rs more (R.Reflex p i) m is = on_more (row_at rs p) (row_at (rs ++ more) p) (λ g. reflexed sig ins g i) m (at_more rs more p) is
  replay_more rs more (R.Resolve p i q j) m is = both_more (row_at rs p) (row_at (rs ++ more) p) (row_at rs q) (row_at (rs ++ more) q) (λ g d. resolved sig ins g i d j) m (at_more rs more p) (at_more rs more q) is
  replay_more rs more (R.Para p j side q i path) m is = both_more (row_at rs p) (row_at (rs ++ more) p) (row_at rs q) (row_at (rs ++ more) q) (λ g d. paramodulated sig ins g j side d i path) m (at_more rs more p) (at_more rs more q) is
  replay_more rs more (R.Rewrite p j side q i path) m is = only_more (j == 1) (on_both (row_at rs p) (row_at rs q) (λ g d. rewritten sig ins g side d i path)) (on_both (row_at (rs ++ more) p) (row_at (rs ++ more) q) (λ g d. rewritten sig ins g side d i path)) m (both_more (row_at rs p) (row_at (rs ++ more) p) (row_at rs q) (row_at (rs ++ more) q) (λ g d. rewritten sig ins g side d i path) m (at_more rs more p) (at_more rs more q)) is
  replay_more rs more (R.Close p) m is = on_more (row_at rs p) (row_at (rs ++ more) p) (λ g. closed_off sig ins g) m (at_more rs more p) is

  abbrev Steps : List Row → List Row → Type 0
  Steps rs xs = AllByRecursion (IsReplayed sig ins rs) xs

  steps_more : (rs more xs : List Row) → Steps rs xs → Steps (rs ++ more) xs
  steps_more rs more [] a = tt
  steps_more rs more (x ∷ xs) a = (replay_more rs more x.rule (record { clause = x.clause; with = x.with }) a.0, steps_more rs more xs a.1)

  -- a member stands at its number
  abbrev pub IsAt : List Row → Member → Type 0
  IsAt rs m = row_at rs m.number ≡ Some m.row

  pub all_numbered : (before rs : List Row) (n : ℕ) → n ≡ length before + 1 → AllByRecursion (IsAt (before ++ rs)) (numbered_rows n rs)
  all_numbered before [] n is = tt
  all_numbered before (r ∷ rs) n is =
      let longer : length (before ++ r ∷ []) ≡ length before + 1 = length-append before (r ∷ []) in
      let next : n + 1 ≡ length (before ++ r ∷ []) + 1 = omega arith in (
        ap (row_at (before ++ r ∷ rs)) is ∙ row_found before r rs,
        subst (λ (xs : List Row). AllByRecursion (IsAt xs) (numbered_rows (n + 1) rs)) (append_assoc before (r ∷ []) rs) (all_numbered (before ++ r ∷ []) rs (n + 1) next),
      )

  -- what a call answers, with its rule, is a step
  mapped : (rs : List Row) (rule : Rule) (o : Option Made) (row : Row) → replay sig ins rs rule ≡ o → option_map (row_of rule) o ≡ Some row → IsReplayed sig ins rs row
  mapped rs rule None row is made = absurd (cc)
  mapped rs rule (Some m) row is made =
      let same : row_of rule m ≡ row = cc in
      subst (λ (x : Row). IsReplayed sig ins rs x) same is

  replayed : (axioms : ℕ) (rs : List Row) (g p : Member) → IsAt rs g → IsAt rs p → (x : Candidate) → replay sig ins rs (rule_of g.number p.number x) ≡ tried sig ins g.row.clause p.row.clause x
  replayed axioms rs g p a b (Factor i j) = ap (λ (o : Option Row). on o (λ d. factored sig ins d i j)) a
  replayed axioms rs g p a b (Reflex i) = ap (λ (o : Option Row). on o (λ d. reflexed sig ins d i)) a
  replayed axioms rs g p a b (Resolve i j) = ap (λ (o : Option Row). on_both o (row_at rs p.number) (λ d e. resolved sig ins d i e j)) a ∙ ap (λ (o : Option Row). on o (λ e. resolved sig ins g.row.clause i e j)) b
  replayed axioms rs g p a b (Para Inward j side i path) = ap (λ (o : Option Row). on_both o (row_at rs g.number) (λ d e. paramodulated sig ins d j side e i path)) b ∙ ap (λ (o : Option Row). on o (λ e. paramodulated sig ins p.row.clause j side e i path)) a
  replayed axioms rs g p a b (Para Outward j side i path) = ap (λ (o : Option Row). on_both o (row_at rs p.number) (λ d e. paramodulated sig ins d j side e i path)) a ∙ ap (λ (o : Option Row). on o (λ e. paramodulated sig ins g.row.clause j side e i path)) b

  made_step : (axioms : ℕ) (rs : List Row) (g p : Member) → IsAt rs g → IsAt rs p → (x : Candidate) (row : Row) → row_made sig ins (source_of axioms g) (source_of axioms p) x ≡ Some row → IsReplayed sig ins rs row
  unfolding row_made
  made_step axioms rs g p a b x row is = mapped rs (rule_of g.number p.number x) (tried sig ins g.row.clause p.row.clause x) row (replayed axioms rs g p a b x) is

  partners_steps : (axioms : ℕ) (rs : List Row) (g : Member) (ms : List Member) → IsAt rs g → AllByRecursion (IsAt rs) ms → Steps rs (flat_map (made_with sig ins (source_of axioms g)) (map (source_of axioms) ms))
  partners_steps axioms rs g [] a b = tt
  partners_steps axioms rs g (m ∷ ms) a b =
      all_append (IsReplayed sig ins rs) (made_with sig ins (source_of axioms g) (source_of axioms m)) (flat_map (made_with sig ins (source_of axioms g)) (map (source_of axioms) ms))
      (all_filter_map (IsReplayed sig ins rs) (row_made sig ins (source_of axioms g) (source_of axioms m)) (candidates_between sig (source_of axioms g) (source_of axioms m)) (made_step axioms rs g m a b.0))
      (partners_steps axioms rs g ms a b.1)

  turn_steps : (axioms : ℕ) (rs : List Row) (g : Member) (ms : List Member) → IsAt rs g → AllByRecursion (IsAt rs) ms → Steps rs (turn sig ins (source_of axioms g) (map (source_of axioms) ms))
  unfolding turn
  turn_steps axioms rs g ms a b =
      all_append (IsReplayed sig ins rs) (all_made sig ins (source_of axioms g) (source_of axioms g) (candidates_alone (source_of axioms g))) (flat_map (made_with sig ins (source_of axioms g)) (map (source_of axioms) ms))
      (all_filter_map (IsReplayed sig ins rs) (row_made sig ins (source_of axioms g) (source_of axioms g)) (candidates_alone (source_of axioms g)) (made_step axioms rs g g a a))
      (partners_steps axioms rs g ms a b)

  -- a unit is a row that stands at its number
  abbrev pub StandsAsUnit : List Row → Unit → Type 0
  StandsAsUnit rs u = (row : Row) × (row_at rs u.row ≡ Some row) × (row.clause ≡ u.clause)

  unit_stands : (rs : List Row) (m : Member) (o : Option Side) → IsAt rs m → AllByRecursion (StandsAsUnit rs) (unit_with m.number m.row.clause o)
  unit_stands rs m None a = tt
  unit_stands rs m (Some side) a = ((m.row, a, refl), tt)

  all_units : (P : Unit → Type 0) (us vs : List Unit) → AllByRecursion P us → AllByRecursion P vs → AllByRecursion P (us ++ vs)
  all_units P [] vs a b = b
  all_units P (u ∷ us) vs a b = (a.0, all_units P us vs a.1 b)

  units_stand : (rs : List Row) (ms : List Member) → AllByRecursion (IsAt rs) ms → AllByRecursion (StandsAsUnit rs) (units sig (clause_rows ms))
  units_stand rs [] a = tt
  units_stand rs (m ∷ ms) a = all_units (StandsAsUnit rs) (unit_of sig (clause_row m)) (units sig (clause_rows ms)) (unit_stands rs m (unit_side sig m.row.clause) a.0) (units_stand rs ms a.1)

  -- a normal step of the row of a number, as a row
  abbrev IsStepOf : List Row → ℕ → RewriteMade → Type 0
  IsStepOf rs n made = IsReplayed sig ins rs (step_row n made)

  or_made : (rs : List Row) (n : ℕ) (o e : Option RewriteMade) (m : RewriteMade) → ((r : RewriteMade) → o ≡ Some r → IsStepOf rs n r) → ((r : RewriteMade) → e ≡ Some r → IsStepOf rs n r) → or_else o e ≡ Some m → IsStepOf rs n m
  or_made rs n (Some r) e m k l is = k m is
  or_made rs n None e m k l is = l m is

  find_made : {A : Type 0} (rs : List Row) (n : ℕ) (f : A → Option RewriteMade) (xs : List A) (m : RewriteMade) → ((x : A) (r : RewriteMade) → f x ≡ Some r → IsStepOf rs n r) → find_map f xs ≡ Some m → IsStepOf rs n m
  find_made rs n f [] m k is = absurd (cc)
  find_made rs n f (x ∷ xs) m k is = or_made rs n (f x) (find_map f xs) m (k x) (λ r e. find_made rs n f xs r k e) is

  made_so : (rs : List Row) (n : ℕ) (rule : StepRule) (o : Option Made) (m : RewriteMade) → replay sig ins rs (step_rule n rule) ≡ o → option_map (made_by_rule rule) o ≡ Some m → IsStepOf rs n m
  made_so rs n rule None m is made = absurd (cc)
  made_so rs n rule (Some x) m is made =
      let same : made_by_rule rule x ≡ m = cc in
      subst (λ (y : RewriteMade). IsStepOf rs n y) same is

  rewrite_steps : (rs : List Row) (q : Member) (i : ℕ) (path : List ℕ) (us : List Unit) (m : RewriteMade) → IsAt rs q → AllByRecursion (StandsAsUnit rs) us
      → rewrite_at sig ins us q.row.clause i path ≡ Some m → IsStepOf rs q.number m
  rewrite_steps rs q i path [] m a b is = absurd (cc)
  rewrite_steps rs q i path (u ∷ us) m a b is =
      or_made rs q.number (rewrite_with sig ins q.row.clause i path u) (rewrite_at sig ins us q.row.clause i path) m
      (λ r e.
      let stands = b.0 in
      made_so rs q.number (Rewrite u.row u.side i path) (rewritten sig ins u.clause u.side q.row.clause i path) r
      (ap (λ (o : Option Row). on_both o (row_at rs q.number) (λ d c. rewritten sig ins d u.side c i path)) stands.1 ∙ ap (λ (o : Option Row). on o (λ c. rewritten sig ins stands.0.clause u.side c i path)) a
      ∙ ap (λ (d : Clause). rewritten sig ins d u.side q.row.clause i path) stands.2) e)
      (λ r e. rewrite_steps rs q i path us r a b.1 e) is

  without_steps : (rs : List Row) (q : Member) (us : List Unit) (o : Option ℕ) (m : RewriteMade) → IsAt rs q → AllByRecursion (StandsAsUnit rs) us
      → step_without sig ins us q.row.clause o ≡ Some m → IsStepOf rs q.number m
  without_steps rs q us (Some i) m a b is = made_so rs q.number (Reflexes i) (reflexed sig ins q.row.clause i) m (ap (λ (o : Option Row). on o (λ d. reflexed sig ins d i)) a) is
  without_steps rs q us None m a b is =
      find_made rs q.number (rewrite_in sig ins us q.row.clause) (with_numbers 1 q.row.clause.literals) m
      (λ e r here_. find_made rs q.number (rewrite_at sig ins us q.row.clause e.0) (places_of_atom e.1.atom) r
      (λ path x there. rewrite_steps rs q e.0 path us x a b there) here_) is

  stepped : (rs : List Row) (n : ℕ) (o : Option RewriteMade) (row : Row) → ((m : RewriteMade) → o ≡ Some m → IsStepOf rs n m) → option_map (step_row n) o ≡ Some row → IsReplayed sig ins rs row
  stepped rs n None row k is = absurd (cc)
  stepped rs n (Some m) row k is =
      let same : step_row n m ≡ row = cc in
      subst (λ (x : Row). IsReplayed sig ins rs x) same (k m refl)

  by_step : (rs : List Row) (q : Member) (ms : List Member) (row : Row) → IsAt rs q → AllByRecursion (IsAt rs) ms
      → option_map (step_row q.number) (normal_step sig ins (clause_rows ms) q.row.clause) ≡ Some row → IsReplayed sig ins rs row
  by_step rs q ms row a b is =
      stepped rs q.number (normal_step sig ins (clause_rows ms) q.row.clause) row
      (λ m e. without_steps rs q (units sig (clause_rows ms)) (first_to_go q.row.clause.literals) m a (units_stand rs ms b) e) is

  close_step : (rs : List Row) (n : ℕ) (from row : Row) (b : Bool) → row_at rs n ≡ Some from → (if b then option_map (row_of (R.Close n)) (closed_off sig ins from.clause) else None) ≡ Some row → IsReplayed sig ins rs row
  close_step rs n from row true a is = mapped rs (R.Close n) (closed_off sig ins from.clause) row (ap (λ (o : Option Row). on o (λ d. closed_off sig ins d)) a) is
  close_step rs n from row false a is = absurd (cc)

  -- what a stage asks for is a step
  abbrev StageStep : List Row → Stage → Type 0
  StageStep rs Quiet = Prim.Unit {0}
  StageStep rs (Makes row) = IsReplayed sig ins rs row
  StageStep rs (Closes row) = IsReplayed sig ins rs row
  StageStep rs (Ended b) = Prim.Unit {0}

  stage_more : (rs more : List Row) (s : Stage) → StageStep rs s → StageStep (rs ++ more) s
  stage_more rs more Quiet a = tt
  stage_more rs more (Makes x) a = replay_more rs more x.rule (record { clause = x.clause; with = x.with }) a
  stage_more rs more (Closes x) a = replay_more rs more x.rule (record { clause = x.clause; with = x.with }) a
  stage_more rs more (Ended b) a = tt

  module _ (most axioms starting : ℕ) where
    abbrev the_rules : Rules
    the_rules = rules_of sig ins most axioms starting

    processed_at : (k : ℕ) (rs : List Row) (ns : List ℕ) → AllByRecursion (IsAt rs) (processed k rs ns)
    processed_at k rs ns = all_filter (IsAt rs) (is_processed k ns) (numbered_rows 1 rs) (all_numbered [] rs 1 refl)

    closed_stage : (rs : List Row) (n : ℕ) (row : Row) (o : Option Row) → row_at rs n ≡ Some row → the_rules.close_of n row ≡ o → StageStep rs (kept_or_closed n o).1
    closed_stage rs n row None a is = tt
    closed_stage rs n row (Some x) a is = close_step rs n row x (is_empty row.clause.literals && is_some row.clause.answer) a (sym (rules_of-close_of sig ins most axioms starting n row) ∙ is)

    last_stage : (rs : List Row) (n : ℕ) (row : Row) (b : Bool) → row_at rs n ≡ Some row → StageStep rs (last_or the_rules n row b).1
    last_stage rs n row true a = tt
    last_stage rs n row false a = closed_stage rs n row (the_rules.close_of n row) a refl

    dropped_stage : (rs : List Row) (n : ℕ) (row : Row) (o : Option Reason) → row_at rs n ≡ Some row → StageStep rs (dropped_or the_rules n row o).1
    dropped_stage rs n row (Some r) a = tt
    dropped_stage rs n row None a = last_stage rs n row (the_rules.is_last row) a

    rewritten_stage : (rs : List Row) (ns : List ℕ) (fates : List Prepared) (n : ℕ) (row : Row) (o : Option Row) → row_at rs n ≡ Some row
        → the_rules.step_of (processed the_rules.axioms rs ns) n row ≡ o → StageStep rs (rewritten_or the_rules rs fates n row o).1
    rewritten_stage rs ns fates n row None a is = dropped_stage rs n row (the_rules.reason (kept_rows the_rules.axioms rs fates) row) a
    rewritten_stage rs ns fates n row (Some x) a is =
        by_step rs (record { number = n; row = row }) (processed the_rules.axioms rs ns) x a (processed_at the_rules.axioms rs ns)
        (sym (rules_of-step_of sig ins most axioms starting (processed the_rules.axioms rs ns) n row) ∙ is)

    big_stage : (rs : List Row) (ns : List ℕ) (fates : List Prepared) (n : ℕ) (row : Row) (o : Option Reason) → row_at rs n ≡ Some row → StageStep rs (big_or the_rules rs ns fates n row o).1
    big_stage rs ns fates n row (Some r) a = tt
    big_stage rs ns fates n row None a = rewritten_stage rs ns fates n row (the_rules.step_of (processed the_rules.axioms rs ns) n row) a refl

    prepared_stage : (rs : List Row) (ns : List ℕ) (n : ℕ) (o : Option Row) (j : Judged) → ((row : Row) → o ≡ Some row → row_at rs n ≡ Some row) → StageStep rs j.stage → StageStep rs (prepare the_rules rs ns n o j).stage
    prepared_stage rs ns n None j a s = s
    prepared_stage rs ns n (Some row) j a s = big_stage rs ns j.fates n row (the_rules.too_big row) (a row refl)

    when_stage : (rs : List Row) (s : Stage) (j k : Judged) → StageStep rs j.stage → StageStep rs k.stage → StageStep rs (when_quiet s j k).stage
    when_stage rs Quiet j k a b = a
    when_stage rs (Makes row) j k a b = b
    when_stage rs (Closes row) j k a b = b
    when_stage rs (Ended e) j k a b = b

    begun_stage : (rs : List Row) (ns : List ℕ) (left : ℕ) (j : Judged) → StageStep rs j.stage → StageStep rs (begun the_rules rs ns left j).stage
    begun_stage rs ns zero j s = s
    begun_stage rs ns (suc left) j s =
        when_stage rs j.stage (begun the_rules rs ns left (start_prepared the_rules rs ns left j)) j
        (begun_stage rs ns left (start_prepared the_rules rs ns left j)
        (prepared_stage rs ns (next_start the_rules j.left) (row_at rs (next_start the_rules j.left)) (record j { left = left }) (λ row e. e) s)) s

    joined_stage : (rs : List Row) (ns : List ℕ) (n : ℕ) (row : Row) (s : Stage) (j : Judged) → row_at rs n ≡ Some row → StageStep rs j.stage → StageStep rs (row_judged the_rules rs ns n row s j).stage
    joined_stage rs ns n row Quiet j a k = prepared_stage rs ns n (Some row) j (λ r e. a ∙ e) k
    joined_stage rs ns n row (Makes r) j a k = prepared_stage rs ns n (Some row) j (λ r e. a ∙ e) k
    joined_stage rs ns n row (Closes r) j a k = tt
    joined_stage rs ns n row (Ended b) j a k = k

    turn_all : (rs : List Row) (ns : List ℕ) (n : ℕ) (o : Option Row) → ((row : Row) → o ≡ Some row → row_at rs n ≡ Some row) → Steps rs (turn_at the_rules (processed the_rules.axioms rs ns) n o)
    turn_all rs ns n None a = tt
    turn_all rs ns n (Some row) a =
        subst (λ (xs : List Row). Steps rs xs) (sym (rules_of-turn sig ins most axioms starting (processed the_rules.axioms rs ns) n row))
        (turn_steps axioms rs (record { number = n; row = row }) (processed the_rules.axioms rs ns) (a row refl) (processed_at the_rules.axioms rs ns))

    behind_steps : (rs xs : List Row) → Steps rs xs → Steps rs (behind xs)
    behind_steps rs [] a = tt
    behind_steps rs (x ∷ xs) a = a.1

    rest_steps : (rs xs : List Row) (s : Stage) → Steps rs xs → Steps rs (rest_after s xs)
    rest_steps rs xs Quiet a = behind_steps rs xs a
    rest_steps rs xs (Makes row) a = a
    rest_steps rs xs (Closes row) a = a
    rest_steps rs xs (Ended b) a = a

    -- what may be due is a step
    all_stages : (start : List Row) (h : History) → StageStep (rows start h) (judged the_rules start h).stage
    all_stages start Start = begun_stage start [] (the_rules.starting - the_rules.axioms) (at_first the_rules) tt
    all_stages start (Then h (Choose n)) = all_stages start h
    all_stages start (Then h (Infer row)) =
        let rs : List Row = rows start h ++ row ∷ [] in
        let j : Judged = judged the_rules start h in
        let k : Judged = row_judged the_rules rs (choices h) (length (rows start h) + 1) row j.stage j in
        begun_stage rs (choices h) k.left k
        (joined_stage rs (choices h) (length (rows start h) + 1) row j.stage j (row_found (rows start h) row []) (stage_more (rows start h) (row ∷ []) j.stage (all_stages start h)))

    all_rests : (start : List Row) (h : History) → Steps (rows start h) (rest the_rules start h)
    all_rests start Start = tt
    all_rests start (Then h (Choose n)) = turn_all (rows start h) (choices h ++ n ∷ []) n (row_at (rows start h) n) (λ row e. e)
    all_rests start (Then h (Infer row)) =
        steps_more (rows start h) (row ∷ []) (rest_after (judged the_rules start h).stage (rest the_rules start h))
        (rest_steps (rows start h) (rest the_rules start h) (judged the_rules start h).stage (all_rests start h))

    due_step : (rs : List Row) (waits : List WaitRow) (xs : List Row) (s : Stage) (row : Row) → StageStep rs s → Steps rs xs → due_at waits xs s ≡ Infers row → IsReplayed sig ins rs row
    due_step rs waits xs (Ended b) row a k is = absurd (cc)
    due_step rs waits xs (Makes r) row a k is = let same : r ≡ row = cc in subst (λ (x : Row). IsReplayed sig ins rs x) same a
    due_step rs waits xs (Closes r) row a k is = let same : r ≡ row = cc in subst (λ (x : Row). IsReplayed sig ins rs x) same a
    due_step rs waits (x ∷ xs) Quiet row a k is = let same : x ≡ row = cc in subst (λ (y : Row). IsReplayed sig ins rs y) same k.0
    due_step rs (w ∷ ws) [] Quiet row a k is = absurd (cc)
    due_step rs [] [] Quiet row a k is = absurd (cc)

    all_logged : (start : List Row) (h : History) → EachIsDue the_rules start h → Logged sig ins start h
    all_logged start Start f = tt
    all_logged start (Then h (Choose n)) f = all_logged start h f.1
    all_logged start (Then h (Infer row)) f =
        (due_step (rows start h) (wait_list the_rules start h) (rest the_rules start h) (judged the_rules start h).stage row (all_stages start h) (all_rests start h) f.0, all_logged start h f.1)

pub steps_law : StepsLaw
steps_law sig ins most axioms starting start h f = all_logged sig ins most axioms starting start h f
