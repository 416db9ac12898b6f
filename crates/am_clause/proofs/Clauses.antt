-- From the lists of literals to the clauses.
use Rattle.std.proofs.Common.{◌≡◌, ◌∙◌, ◌-◌, ◌^◌, ◌<◌, ℕ, true, refl, sym, ap, subst, length, map, min}
use Rattle.std.specs.Prelude.{Some}
use Rattle.std.specs.List.{All}
use Rattle.std.proofs.lemmas.Grind.{common_steps}
use Rattle.am_term.specs.declared.term.Formula.{Formula}
use Rattle.am_clause.specs.ClauseForm.{Lists, cnf, merged_clause, maps}
use Rattle.am_clause.specs.Bounded.{plain, bounded}
use Rattle.am_clause.specs.Count.{count}
use Rattle.am_clause.specs.Forms.{capped, form_of}
use Rattle.am_clause.specs.Merge.{merged}
use Rattle.am_clause.specs.Renaming.{renumbered}
use Rattle.am_clause.specs.Variables.{variables_of}
use Rattle.am_clause.proofs.Lengths.{count-length}
use Rattle.am_clause.proofs.Bounds.{bounded-some}
use Rattle.am_clause.proofs.Fewer.{IsFewPlain, few-clauses}

pub cnf-form : (f : Formula) → cnf f ≡ map (λ ls. renumbered (merged_clause ls)) (form_of true f)
unfolding cnf form_of
cnf-form f = refl

pub capped-count : (f : Formula) → capped (count f) ≡ min (length (cnf f)) (2 ^ 64 - 1)
unfolding capped
capped-count f = ap (λ n. min n (2 ^ 64 - 1)) (count-length f)

-- from the lists that were made
pub formed : (most : ℕ) (f : Formula) (made : Lists) → bounded most (form_of true f) ≡ Some made → map (λ ls. renumbered (plain ls)) made ≡ cnf f
formed most f made e = ap (map (λ ls. renumbered (plain ls))) (bounded-some most (form_of true f) made e).0 ∙ (maps (λ ls. renumbered (plain ls)) merged (form_of true f) ∙ sym (cnf-form f))

pub few_made : (most : ℕ) (f : Formula) (made : Lists) → length (variables_of f) < 4000000000 → bounded most (form_of true f) ≡ Some made → All IsFewPlain made
few_made most f made h e = subst (All IsFewPlain) (sym (bounded-some most (form_of true f) made e).0) (few-clauses f h)

pub ruleset forming = (common_steps, capped-count, formed, few_made)

pub ruleset finishing = (common_steps, cnf-form)
