-- When the clause form is past a limit.
use Rattle.std.proofs.Common.{◌≡◌, ◌∙◌, ◌||◌, ◌<◌, ◌≤◌, ℕ, true, false, refl, ap, arith, List, [], ◌∷◌, length, map}
use Rattle.std.specs.Prelude.{Some, None, nat_lt}
use Rattle.std.specs.List.{list_any}
use Rattle.std.proofs.lemmas.Grind.{common_steps}
use Rattle.std.proofs.lemmas.Bool.Decides.{nat_tests}
use Rattle.std.proofs.lemmas.List.{length-map}
use Rattle.am_term.specs.declared.term.Literal.{Literal}
use Rattle.am_term.specs.declared.term.Formula.{Formula}
use Rattle.am_clause.specs.Merge.{merged}
use Rattle.am_clause.specs.ClauseForm.{Lists, cnf, merged_clause}
use Rattle.am_clause.specs.Count.{count}
use Rattle.am_clause.specs.Bounded.{is_long, bounded}
use Rattle.am_clause.specs.Exceeding.{is_longer, exceeds}
use Rattle.am_clause.specs.Forms.{capped, form_of}
use Rattle.am_clause.specs.Renaming.{renumbered}
use Rattle.am_clause.proofs.Bounds.{bounded-some, bounded-none}
use Rattle.am_clause.proofs.Clauses.{cnf-form}

-- numbering leaves how many literals there are
numbered_length : (ls : List Literal) → length (renumbered (merged_clause ls)).literals ≡ length (merged ls)
unfolding renumbered
numbered_length ls = length-map (merged ls) _

any_longer : (most : ℕ) (cs : Lists) → list_any (is_longer most) (map (λ ls. renumbered (merged_clause ls)) cs) ≡ list_any (is_long most) (map merged cs)
any_longer most [] = refl
any_longer most (c ∷ cs) = ap (λ n. nat_lt most n || list_any (is_longer most) (map (λ ls. renumbered (merged_clause ls)) cs)) (numbered_length c) ∙ ap (λ b. is_long most (merged c) || b) (any_longer most cs)

longer_form : (most : ℕ) (f : Formula) → list_any (is_longer most) (cnf f) ≡ list_any (is_long most) (map merged (form_of true f))
longer_form most f = ap (list_any (is_longer most)) (cnf-form f) ∙ any_longer most (form_of true f)

few_counted : (most : ℕ) (f : Formula) → capped (count f) ≤ 64 → exceeds most f ≡ list_any (is_long most) (map merged (form_of true f))
unfolding capped
few_counted most f h =
    let k : count f ≤ 64 = omega arith in
    let e : nat_lt 64 (count f) ≡ false = grind (arith, nat_tests) in
    rw e (longer_form most f)

pub exceeded-many : (most : ℕ) (f : Formula) → 64 < capped (count f) → exceeds most f ≡ true
unfolding capped
exceeded-many most f h = let k : 64 < count f = omega arith in grind (arith, nat_tests)

pub exceeded-long : (most : ℕ) (f : Formula) → capped (count f) ≤ 64 → bounded most (form_of true f) ≡ None → exceeds most f ≡ true
exceeded-long most f h e = few_counted most f h ∙ bounded-none most (form_of true f) e

pub exceeded-fits : (most : ℕ) (f : Formula) (made : Lists) → capped (count f) ≤ 64 → bounded most (form_of true f) ≡ Some made → exceeds most f ≡ false
exceeded-fits most f made h e = few_counted most f h ∙ (bounded-some most (form_of true f) made e).1

pub ruleset exceeding = (common_steps, nat_tests, exceeded-many, exceeded-long, exceeded-fits)
