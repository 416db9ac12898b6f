-- What closing makes of a clause whose answer can be computed has no literals, no variables and such an answer.
use Rattle.std.proofs.Common.{◌≡◌, ◌∙◌, ◌==◌, ◌++◌, Bool, true, false, arith, refl, sym, ap, subst}
use Rattle.std.proofs.Common.{List, [], ◌∷◌, map, length, Option, Some, None, is_some}
use Rattle.std.proofs.lemmas.Bool.Decides.{nat_tests}
use Rattle.am_term.specs.declared.id.SortId.{SortId}
use Rattle.am_term.specs.declared.signature.Signature.{Signature}
use Rattle.am_term.specs.declared.term.Literal.{Literal}
use Rattle.am_term.specs.declared.term.Term.{Term}
use Rattle.am_term.specs.Instance.{instance_literals}
use Rattle.am_term.proofs.Tests.{and_left, and_right, or_left}
use Rattle.am_clause.specs.declared.clause.Clause.{Clause}
use Rattle.am_clause.specs.declared.row.Made.{Made}
use Rattle.am_clause.specs.Bound.{instance_answer}
use Rattle.am_clause.specs.Distinct.{among, distinct}
use Rattle.am_clause.specs.Merge.{merged}
use Rattle.am_clause.specs.Variables.{Variable, same_variable, occurrences_all, in_answer, in_clause, variables}
use Rattle.am_clause.specs.Variables.{occurrences-none, occurrences-more}
use Rattle.am_clause.proofs.Places.{same_variable-refl}
use Rattle.am_clause.proofs.Renames.{Within}
use Rattle.am_rules.specs.Closing.{closing_term, IsClosing, AnswersClosing}
use Rattle.am_rules.specs.Conclusions.{closed_off}
use Rattle.am_rules.specs.Parts.{answer_under}
use Rattle.am_rules.proofs.Closings.{chosen-fits}
use Rattle.am_rules.proofs.Concluded.{closed-answers}
use Rattle.am_rules.proofs.InstanceLaws.{bindings-length}
use Rattle.am_rules.proofs.Resolvents.{answer-inside}
use Rattle.am_simplify.specs.Reasons.{is_uncomputed}
use Rattle.am_simplify.specs.Steps.{IsProper}
use Rattle.am_derivation.proofs.Computed.{answer-computed, closings-computed}

-- no literals, no variables, and an answer or none, of which a program can compute each symbol
abbrev pub HasEnd : Signature → Clause → Bool → Type 0
HasEnd sig c b =
    (c.literals ≡ []) × (variables c ≡ []) × (is_some c.answer ≡ b) × (is_uncomputed sig c.answer ≡ false)

abbrev pub clause_with : List Literal → Option (List Term) → Clause
clause_with ls a = record { literals = ls; answer = a }

-- ---- lists without members

pub empty-list : {A : Type 0} (xs : List A) → (length xs == 0) ≡ true → xs ≡ []
empty-list [] e = refl
empty-list (x ∷ xs) e = absurd (grind (arith, nat_tests))

none-within : (v : Variable) (vs : List Variable) → vs ≡ [] → Within v vs → ⊥
none-within v [] e w = cc
none-within v (x ∷ xs) e w = cc

no-members : (vs : List Variable) → ((v : Variable) → Within v vs → ⊥) → vs ≡ []
no-members [] h = refl
no-members (v ∷ vs) h = absurd (h v (or_left (same_variable v v) (among same_variable v vs) (same_variable-refl v)))

pub no-variables : (c : Clause) → in_clause c ≡ [] → variables c ≡ []
unfolding variables
no-variables c h = ap (distinct same_variable) h

-- ---- the terms that are chosen

all-closed : (sig : Signature) (ins : List SortId) (vs : List Variable) (ts : List Term)
    → map (λ (v : Variable). closing_term sig ins v.1) vs ≡ map (λ (t : Term). Some t) ts → occurrences_all ts ≡ []
all-closed sig ins [] [] e = occurrences-none
all-closed sig ins [] (t ∷ ts) e = absurd cc
all-closed sig ins (v ∷ vs) [] e = absurd cc
all-closed sig ins (v ∷ vs) (t ∷ ts) e =
    let one : closing_term sig ins v.1 ≡ Some t = cc in
    let more : map (λ (w : Variable). closing_term sig ins w.1) vs ≡ map (λ (x : Term). Some x) ts = cc in
    occurrences-more t ts
    ∙ (ap (λ ws. ws ++ occurrences_all ts) (chosen-fits sig ins v.1 t one).1 ∙ all-closed sig ins vs ts more)

answer-same : (xs : List Term) (o : Option (List Term)) → instance_answer xs o ≡ answer_under xs o
answer-same xs None = refl
answer-same xs (Some ts) = refl

answer-there : (xs : List Term) (o : Option (List Term)) → is_some o ≡ true → is_some (instance_answer xs o) ≡ true
answer-there xs None e = e
answer-there xs (Some ts) e = refl

pub close-ends : (sig : Signature) (ins : List SortId) (p : Clause) → IsProper sig ins p
    → is_uncomputed sig p.answer ≡ false → (m : Made) → closed_off sig ins p ≡ Some m → HasEnd sig m.clause true
close-ends sig ins p h computed m e =
    let c : IsClosing sig ins p m = subst (AnswersClosing sig ins p) e (closed-answers sig ins p h.numbered) in
    let xs : List Term = c.first in
    let bare : p.literals ≡ [] =
    empty-list p.literals (and_left (length p.literals == 0) (is_some p.answer) c.made.suits) in
    let answer : Option (List Term) = instance_answer xs p.answer in
    let is : m.clause ≡ clause_with [] answer =
    c.made.is ∙ ap (λ (ls : List Literal). clause_with (merged (instance_literals xs ls)) answer) bare in
    let inside = answer-inside p h.numbered xs (bindings-length sig ins p xs c.made.binds) in
    let chosen : occurrences_all xs ≡ [] = all-closed sig ins (variables p) xs c.chosen in
    let none : in_answer answer ≡ [] =
    ap in_answer (answer-same xs p.answer)
    ∙ no-members (in_answer (answer_under xs p.answer))
    (λ v w. none-within v (occurrences_all xs) chosen (inside v w)) in
    subst (λ (x : Clause). HasEnd sig x true) (sym is) (
      refl,
      no-variables (clause_with [] answer) none,
      answer-there xs p.answer (and_right (length p.literals == 0) (is_some p.answer) c.made.suits),
      answer-computed sig xs (closings-computed sig ins (variables p) xs c.chosen) p.answer computed,
    )
