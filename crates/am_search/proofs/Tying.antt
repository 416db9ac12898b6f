-- A state stays tied as rows are added and chosen.
use Rattle.std.specs.Prelude.{◌≡◌, ◌≤◌, ◌+◌, ◌++◌, ◌∷◌, [], ◌||◌, ◌==◌, ℕ, List, Bool, false, length}
use Rattle.std.proofs.Common.{ap, sym, subst, ◌∙◌, arith}
use Rattle.std.proofs.lemmas.Bool.Decides.{nat_tests}
use Rattle.std.proofs.lemmas.Grind.{common_steps}
use Rattle.std.proofs.lemmas.List.{length-append}
use Rattle.am_clause.specs.declared.row.Row.{Row}
use Rattle.am_search.proofs.Marked.{any_more}
use Rattle.am_search.proofs.Processing.{grown}
use Rattle.am_search.specs.Marks.{was_chosen}
use Rattle.am_search.specs.Processing.{processed_units}
use Rattle.am_search.specs.Stating.{Tied}
use Rattle.am_search.specs.declared.ahead.Ahead.{Ahead}
use Rattle.am_search.specs.declared.setting.Setting.{Setting}
use Rattle.am_search.specs.declared.state.State.{State}

-- one row more
pub tied_more : (t : Setting) (s v : State) (row : Row) → Tied t s → v.rows ≡ s.rows ++ row ∷ [] → v.choices ≡ s.choices → v.ahead ≡ s.ahead → v.rewriter ≡ s.rewriter → Tied t v
tied_more t s v row k rows_are choices_are ahead_is units_are =
    let longer : length (s.rows ++ row ∷ []) ≡ length s.rows + 1 = length-append s.rows (row ∷ []) in
    let all : length v.rows ≡ length s.rows + 1 = ap (λ (rs : List Row). length rs) rows_are ∙ longer in
    record {
      count = subst (λ (a : Ahead). a.turn.count ≤ length v.rows) (sym ahead_is) (let low = k.count in omega arith);
      axioms = let low = k.axioms in omega arith;
      chosen = λ n high. ap (λ (cs : List ℕ). was_chosen cs n) choices_are ∙ k.chosen n (omega arith);
      units =
          units_are ∙ k.units ∙ sym (grown t.ctx.sig.now t.axioms s.rows row s.choices k.axioms k.chosen)
          ∙ ap (λ (rs : List Row). processed_units t.ctx.sig.now t.axioms rs s.choices) (sym rows_are)
          ∙ ap (λ (cs : List ℕ). processed_units t.ctx.sig.now t.axioms v.rows cs) (sym choices_are);
    }

-- one row is chosen
pub tied_chosen : (t : Setting) (s v : State) (n : ℕ) → Tied t s → n ≤ length s.rows → v.rows ≡ s.rows → v.choices ≡ s.choices ++ n ∷ [] → v.ahead.turn.count ≡ length v.rows
    → v.rewriter ≡ processed_units t.ctx.sig.now t.axioms s.rows (s.choices ++ n ∷ []) → Tied t v
tied_chosen t s v n k low rows_are choices_are count_is units_are =
    let all : length v.rows ≡ length s.rows = ap (λ (rs : List Row). length rs) rows_are in
    record {
      count = omega arith;
      axioms = let high = k.axioms in omega arith;
      chosen = λ m high.
          let other : (n == m) ≡ false = grind (arith, nat_tests) in
          let fresh : was_chosen s.choices m ≡ false = k.chosen m (omega arith) in
          ap (λ (cs : List ℕ). was_chosen cs m) choices_are ∙ any_more (λ j. j == m) s.choices n ∙ ap (λ (b : Bool). b || (n == m)) fresh ∙ other;
      units =
          units_are
          ∙ ap (λ (rs : List Row). processed_units t.ctx.sig.now t.axioms rs (s.choices ++ n ∷ [])) (sym rows_are)
          ∙ ap (λ (cs : List ℕ). processed_units t.ctx.sig.now t.axioms v.rows cs) (sym choices_are);
    }

pub ruleset tying = (common_steps, tied_more, tied_chosen)
