-- A kept row weighs no more than it may, so its weight is shown in full.
use Rattle.std.specs.Prelude.{Bool, ◌||◌, None, ◌≡◌, false, true, List, ℕ, Some, ◌≤◌, nat_lt, ◌++◌, ◌∷◌, [], Option, zero, suc, ◌-◌, length, ◌+◌, ◌==◌, ◌&&◌, min, map, not, if◌then◌else◌}
use Rattle.std.proofs.Common.{refl, sym, ◌∙◌, arith, subst, ap}
use Rattle.std.proofs.lemmas.Bool.Decides.{nat_tests}
use Rattle.std.specs.List.{list_any, AllByRecursion, filter}
use Rattle.am_clause.specs.Size.{clause_weight}
use Rattle.am_clause.specs.declared.row.Row.{Row}
use Rattle.am_search.proofs.Entered.{row_found}
use Rattle.am_search.proofs.Replayed.{at_more, all_numbered}
use Rattle.am_search.specs.Laws.{weighed, WeightLaw}
use Rattle.am_search.specs.Marks.{is_kept, was_kept, was_chosen}
use Rattle.am_search.specs.Members.{row_at, Member, shown, is_waiting, waiting, numbered_rows}
use Rattle.am_search.specs.Plain.{Judged, big_or, prepare, fate_of, when_quiet, begun, start_prepared, next_start, row_judged, History, rows, judged, Start, at_first, Then, Choose, Infer, choices}
use Rattle.am_simplify.specs.Reasons.{reason_if, too_big, is_wide, is_heavy_answer, are_heavy}
use Rattle.am_search.specs.Rules.{Rules, rules_of, rules_of-too_big, rules_of-most}
use Rattle.am_agenda.specs.declared.wait_row.WaitRow.{WaitRow}
use Rattle.am_search.specs.declared.fate.Fate.TheVariants.{Last}
use Rattle.am_search.specs.declared.fate.Prepared.{Prepared}
use Rattle.am_simplify.specs.declared.reason.Reason.{Reason}
use Rattle.am_simplify.specs.declared.reason.Reason.TheVariants.{Wide, Heavy}
use Rattle.am_search.specs.declared.fate.Stage.{Stage}
use Rattle.am_search.specs.declared.fate.Stage.TheVariants.{Quiet, Makes, Closes, Ended}
use Rattle.am_term.specs.declared.id.SortId.{SortId}
use Rattle.am_term.specs.declared.signature.Signature.{Signature}

not_big : (a b d : Bool) → reason_if a Wide (reason_if (b || d) Heavy None) ≡ None → b ≡ false
not_big true b d is = absurd (cc)
not_big false true d is = absurd (cc)
not_big false false d is = refl

module _ (sig : Signature) (ins : List SortId) (most axioms starting : ℕ) where
  abbrev the_rules : Rules
  the_rules = rules_of sig ins most axioms starting

  -- a row stands there that isn't heavier
  record LightAt (rs : List Row) (n : ℕ) : Type 0 where
    row : Row
    stands : row_at rs n ≡ Some row
    light : clause_weight row.clause ≤ most

  abbrev Light : List Row → Prepared → Type 0
  Light rs p = is_kept p.fate ≡ true → LightAt rs p.number

  small : (row : Row) → the_rules.too_big row ≡ None → clause_weight row.clause ≤ most
  small row is =
      let none : too_big most row.clause row.with ≡ None = sym (rules_of-too_big sig ins most axioms starting row) ∙ is in
      let test : nat_lt most (clause_weight row.clause) ≡ false = not_big (is_wide row.clause) (nat_lt most (clause_weight row.clause)) (is_heavy_answer most row.clause.answer || list_any (are_heavy most) row.with) none in
      grind (arith, nat_tests)

  lights_push : (rs : List Row) (fates : List Prepared) (p : Prepared) → AllByRecursion (Light rs) fates → Light rs p → AllByRecursion (Light rs) (fates ++ p ∷ [])
  lights_push rs [] p a b = (b, tt)
  lights_push rs (f ∷ fates) p a b = (a.0, lights_push rs fates p a.1 b)

  light_more : (rs more : List Row) (p : Prepared) → Light rs p → Light (rs ++ more) p
  light_more rs more p a is = let r = a is in record { row = r.row; stands = at_more rs more p.number r.row r.stands; light = r.light }

  lights_more : (rs more : List Row) (fates : List Prepared) → AllByRecursion (Light rs) fates → AllByRecursion (Light (rs ++ more)) fates
  lights_more rs more [] a = tt
  lights_more rs more (p ∷ fates) a = (light_more rs more p a.0, lights_more rs more fates a.1)

  module _ (rs : List Row) (ns : List ℕ) where
    abbrev Lights : Judged → Type 0
    Lights j = AllByRecursion (Light rs) j.fates

    kept_small : (fates : List Prepared) (n : ℕ) (row : Row) (o : Option Reason) → is_kept (big_or the_rules rs ns fates n row o).0 ≡ true → o ≡ None
    kept_small fates n row (Some r) is = absurd (cc)
    kept_small fates n row None is = refl

    prepare_lights : (n : ℕ) (o : Option Row) (j : Judged) → ((row : Row) → o ≡ Some row → row_at rs n ≡ Some row) → Lights j → Lights (prepare the_rules rs ns n o j)
    prepare_lights n None j at_ a = a
    prepare_lights n (Some row) j at_ a =
        lights_push rs j.fates (record { number = n; fate = (fate_of the_rules rs ns j.fates n row).0 }) a
        (λ is. record { row = row; stands = at_ row refl; light = small row (kept_small j.fates n row (the_rules.too_big row) is) })

    when_lights : (s : Stage) (j k : Judged) → Lights j → Lights k → Lights (when_quiet s j k)
    when_lights Quiet j k a b = a
    when_lights (Makes row) j k a b = b
    when_lights (Closes row) j k a b = b
    when_lights (Ended e) j k a b = b

    begun_lights : (left : ℕ) (j : Judged) → Lights j → Lights (begun the_rules rs ns left j)
    begun_lights zero j a = a
    begun_lights (suc left) j a =
        when_lights j.stage (begun the_rules rs ns left (start_prepared the_rules rs ns left j)) j
        (begun_lights left (start_prepared the_rules rs ns left j) (prepare_lights (next_start the_rules j.left) (row_at rs (next_start the_rules j.left)) (record j { left = left }) (λ row e. e) a)) a

    joined_lights : (n : ℕ) (row : Row) (s : Stage) (j : Judged) → row_at rs n ≡ Some row → Lights j → Lights (row_judged the_rules rs ns n row s j)
    joined_lights n row Quiet j at_ a = prepare_lights n (Some row) j (λ r e. at_ ∙ e) a
    joined_lights n row (Makes r) j at_ a = prepare_lights n (Some row) j (λ r e. at_ ∙ e) a
    joined_lights n row (Closes r) j at_ a = lights_push rs j.fates (record { number = n; fate = Last }) a (λ is. absurd (cc))
    joined_lights n row (Ended b) j at_ a = a

  all_lights : (start : List Row) (h : History) → AllByRecursion (Light (rows start h)) (judged the_rules start h).fates
  all_lights start Start = begun_lights start [] (the_rules.starting - the_rules.axioms) (at_first the_rules) tt
  all_lights start (Then h (Choose n)) = all_lights start h
  all_lights start (Then h (Infer row)) =
      let rs : List Row = rows start h ++ row ∷ [] in
      let j : Judged = judged the_rules start h in
      let n : ℕ = length (rows start h) + 1 in
      let k : Judged = row_judged the_rules rs (choices h) n row j.stage j in
      begun_lights rs (choices h) k.left k (joined_lights rs (choices h) n row j.stage j (row_found (rows start h) row []) (lights_more (rows start h) (row ∷ []) j.fates (all_lights start h)))

  -- a kept row is light
  found_on : (rs : List Row) (n : ℕ) (p : Prepared) (fates : List Prepared) (a b : Bool) → (p.number == n) ≡ a → is_kept p.fate ≡ b → Light rs p → (was_kept fates n ≡ true → LightAt rs n) → ((a && b) || was_kept fates n) ≡ true → LightAt rs n
  found_on rs n p fates true true e f l next is =
      let same : p.number ≡ n = grind (arith, nat_tests) in
      subst (λ (k : ℕ). LightAt rs k) same (l f)
  found_on rs n p fates true false e f l next is = next is
  found_on rs n p fates false b e f l next is = next is

  any_light : (rs : List Row) (n : ℕ) (fates : List Prepared) → AllByRecursion (Light rs) fates → was_kept fates n ≡ true → LightAt rs n
  any_light rs n [] a is = absurd (cc)
  any_light rs n (p ∷ fates) a is = found_on rs n p fates (p.number == n) (is_kept p.fate) refl refl a.0 (any_light rs n fates a.1) is

  shown_so : (rs : List Row) (m : Member) → row_at rs m.number ≡ Some m.row → LightAt rs m.number → shown most m ≡ weighed m
  shown_so rs m at_ l =
      let same : Some m.row ≡ Some l.row = sym at_ ∙ l.stands in
      let row_is : l.row ≡ m.row = cc in
      let weight_is : clause_weight l.row.clause ≡ clause_weight m.row.clause = ap (λ (r : Row). clause_weight r.clause) row_is in
      let few : clause_weight l.row.clause ≤ most = l.light in
      let least : min (clause_weight m.row.clause) (most + 1) ≡ clause_weight m.row.clause = omega arith in
      ap (λ (k : ℕ). record { number = m.number; weight = k }) least

  both_true : (a b : Bool) → (a && b) ≡ true → a ≡ true
  both_true true b is = refl
  both_true false b is = is

  shown_on : (q : Member → Bool) (m : Member) (ms : List Member) (b : Bool) → q m ≡ b → (q m ≡ true → shown most m ≡ weighed m) → map (shown most) (filter q ms) ≡ map weighed (filter q ms)
      → map (shown most) (if b then m ∷ filter q ms else filter q ms) ≡ map weighed (if b then m ∷ filter q ms else filter q ms)
  shown_on q m ms true is same next = ap (λ (w : WaitRow). w ∷ map (shown most) (filter q ms)) (same is) ∙ ap (λ (ws : List WaitRow). weighed m ∷ ws) next
  shown_on q m ms false is same next = next

  all_shown : (rs : List Row) (fates : List Prepared) (ns : List ℕ) (ms : List Member) → AllByRecursion (Light rs) fates → AllByRecursion (λ (m : Member). row_at rs m.number ≡ Some m.row) ms
      → map (shown most) (filter (is_waiting fates ns) ms) ≡ map weighed (filter (is_waiting fates ns) ms)
  all_shown rs fates ns [] a b = refl
  all_shown rs fates ns (m ∷ ms) a b =
      shown_on (is_waiting fates ns) m ms (is_waiting fates ns m) refl
      (λ is. shown_so rs m b.0 (any_light rs m.number fates a (both_true (was_kept fates m.number) (not (was_chosen ns m.number)) is)))
      (all_shown rs fates ns ms a b.1)

pub weight_law : WeightLaw
weight_law sig ins most axioms starting start h =
    let c : Rules = rules_of sig ins most axioms starting in
    ap (λ (k : ℕ). waiting k (rows start h) (judged c start h).fates (choices h)) (rules_of-most sig ins most axioms starting)
    ∙ all_shown sig ins most axioms starting (rows start h) (judged c start h).fates (choices h) (numbered_rows 1 (rows start h)) (all_lights sig ins most axioms starting start h)
    (all_numbered sig ins [] (rows start h) 1 refl)
