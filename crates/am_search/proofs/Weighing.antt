-- Weights beside rows.
use Rattle.std.specs.Prelude.{◌≡◌, Bool, true, false, not, ◌&&◌, List, ℕ, [], ◌∷◌, ◌++◌, ◌+◌, ◌≤◌, map, min, if◌then◌else◌}
use Rattle.std.specs.List.{filter}
use Rattle.std.proofs.Common.{refl, sym, ap, ◌∙◌, arith}
use Rattle.std.proofs.lemmas.Grind.{common_steps}
use Rattle.std.proofs.lemmas.List.{map-append}
use Rattle.am_clause.specs.declared.row.Row.{Row}
use Rattle.am_agenda.specs.declared.wait_row.WaitRow.{WaitRow}
use Rattle.am_clause.specs.Size.{clause_weight}
use Rattle.am_search.specs.Marks.{was_kept, was_chosen}
use Rattle.am_search.specs.Members.{Member, shown, is_waiting, numbered_rows, waiting}
use Rattle.am_search.specs.Weights.{row_features, row_weight, weighed_from}
use Rattle.am_search.specs.declared.fate.Prepared.{Prepared}

pub one_more : (rows all : List Row) (row : Row) (weights both : List ℕ) → weights ≡ map row_weight rows → all ≡ rows ++ row ∷ [] → both ≡ weights ++ row_weight row ∷ [] → both ≡ map row_weight all
one_more rows all row weights both are is more = more ∙ ap (λ ws. ws ++ row_weight row ∷ []) are ∙ sym (ap (map row_weight) is ∙ map-append row_weight rows (row ∷ []))

pub one_featured : (rows all : List Row) (row : Row) (features both : List ℕ) → features ≡ map row_features rows → all ≡ rows ++ row ∷ [] → both ≡ features ++ row_features row ∷ [] → both ≡ map row_features all
one_featured rows all row features both are is more = more ∙ ap (λ fs. fs ++ row_features row ∷ []) are ∙ sym (ap (map row_features) is ∙ map-append row_features rows (row ∷ []))

pub ruleset weighing = (common_steps, one_more, one_featured)

-- a weight that is told in full up to the cap, is so up to a limit below it
within_limit : (w most : ℕ) → most ≤ 1000000 → min (min w 1000001) (most + 1) ≡ min w (most + 1)
within_limit w most low = omega arith

weighed_on : (b : Bool) (most k : ℕ) (row : Row) (ws : List WaitRow) (ms : List Member) → most ≤ 1000000 → ws ≡ map (shown most) ms
    → (if b then (record { number = k; weight = min (row_weight row) (most + 1) }) ∷ ws else ws) ≡ map (shown most) (if b then (record { number = k; row = row }) ∷ ms else ms)
weighed_on true most k row ws ms low is =
    ap (λ (w : ℕ). (record { number = k; weight = w }) ∷ ws) (within_limit (clause_weight row.clause) most low)
    ∙ ap (λ (xs : List WaitRow). shown most (record { number = k; row = row }) ∷ xs) is
weighed_on false most k row ws ms low is = is

weighed_all : (most : ℕ) (fates : List Prepared) (cs : List ℕ) (k : ℕ) (rows : List Row) → most ≤ 1000000
    → weighed_from most fates cs k (map row_weight rows) ≡ map (shown most) (filter (is_waiting fates cs) (numbered_rows k rows))
weighed_all most fates cs k [] low = refl
weighed_all most fates cs k (row ∷ rows) low =
    weighed_on (was_kept fates k && not (was_chosen cs k)) most k row (weighed_from most fates cs (k + 1) (map row_weight rows)) (filter (is_waiting fates cs) (numbered_rows (k + 1) rows)) low
    (weighed_all most fates cs (k + 1) rows low)

pub weighed_is : (most : ℕ) (fates : List Prepared) (cs : List ℕ) (rows : List Row) (weights : List ℕ) (made : List WaitRow) → most ≤ 1000000 → weights ≡ map row_weight rows
    → made ≡ weighed_from most fates cs 1 weights → made ≡ waiting most rows fates cs
weighed_is most fates cs rows weights made low are is = is ∙ ap (weighed_from most fates cs 1) are ∙ weighed_all most fates cs 1 rows low

pub ruleset limiting = (common_steps, weighed_is)
