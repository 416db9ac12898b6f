-- The parents of what a turn, a normal step and closing make: each is the row itself, a processed row, or a unit among
-- these.
use Rattle.std.proofs.Common.{◌≡◌, ℕ, Bool, true, false, refl, subst, List, [], ◌∷◌, map, flat_map}
use Rattle.std.proofs.Common.{Option, Some, None, option_map, filter_map, if◌then◌else◌}
use Rattle.std.specs.List.{AllByRecursion, cons_option}
use Rattle.am_term.specs.declared.id.SortId.{SortId}
use Rattle.am_term.specs.declared.signature.Signature.{Signature}
use Rattle.am_clause.specs.Ancestors.{parents_of}
use Rattle.am_clause.specs.declared.clause.Clause.{Clause}
use Rattle.am_clause.specs.declared.row.Made.{Made}
use Rattle.am_clause.specs.declared.row.Row.{Row}
use Rattle.am_clause.specs.declared.row.Rule.{Rule}
use Rattle.am_clause.specs.declared.row.Rule.TheVariants as R
use Rattle.am_clause.specs.declared.row.Side.{Side}
use Rattle.am_rules.specs.Conclusions.{reflexed, rewritten}
use Rattle.am_rules.specs.Inference.{row_of}
use Rattle.am_search.specs.Candidates.{candidates_between, candidates_alone}
use Rattle.am_search.specs.Members.{Member, source_of, clause_row, clause_rows}
use Rattle.am_search.specs.Rules.{step_row, step_rule}
use Rattle.am_search.specs.Turn.{rule_of, tried, row_made, made_with, turn, all_made}
use Rattle.am_search.specs.declared.candidate.Candidate.{Candidate}
use Rattle.am_search.specs.declared.candidate.Candidate.TheVariants.{Factor, Reflex, Resolve, Para}
use Rattle.am_search.specs.declared.candidate.Way.TheVariants.{Inward, Outward}
use Rattle.am_simplify.specs.NormalStep.{made_by_rule as made_by_step, rewrite_with, rewrite_at, rewrite_in, step_without}
use Rattle.am_simplify.specs.NormalStep.{first_to_go, normal_step}
use Rattle.am_simplify.specs.Numbering.{with_numbers, or_else, find_map}
use Rattle.am_simplify.specs.Places.{places_of_atom}
use Rattle.am_simplify.specs.Units.{units, unit_of, unit_with, unit_side}
use Rattle.am_simplify.specs.declared.step.RewriteMade.{RewriteMade}
use Rattle.am_simplify.specs.declared.step.StepRule.{StepRule}
use Rattle.am_simplify.specs.declared.step.StepRule.TheVariants.{Reflex as Reflexes, Rewrite}
use Rattle.am_simplify.specs.declared.step.Unit.{Unit}
use Rattle.am_derivation.proofs.StartingRows.{all-append}

cons-all : {A : Type 0} (P : A → Type 0) (o : Option A) (xs : List A) → ((x : A) → o ≡ Some x → P x)
    → AllByRecursion P xs → AllByRecursion P (cons_option o xs)
cons-all P None xs k a = a
cons-all P (Some x) xs k a = (k x refl, a)

all-made : {A B : Type 0} (P : B → Type 0) (f : A → Option B) (xs : List A)
    → ((x : A) (y : B) → f x ≡ Some y → P y) → AllByRecursion P (filter_map f xs)
all-made P f [] k = tt
all-made P f (x ∷ xs) k = cons-all P (f x) (filter_map f xs) (k x) (all-made P f xs k)

-- the claim is about numbers of rows
module _ (F : ℕ → Type 0) where
  -- it holds of each parent of the row
  abbrev pub Named : Row → Type 0
  Named row = AllByRecursion F (parents_of row.rule)

  -- it holds of the number
  abbrev pub Stands : Member → Type 0
  Stands m = F m.number

  mapped : (rule : Rule) → AllByRecursion F (parents_of rule) → (o : Option Made) (row : Row)
      → option_map (row_of rule) o ≡ Some row → Named row
  mapped rule h None row e = absurd cc
  mapped rule h (Some m) row e = let same : row_of rule m ≡ row = cc in subst Named same h

  -- ---- closing

  pub close-named : (n : ℕ) → F n → (b : Bool) (o : Option Made) (row : Row)
      → (if b then option_map (row_of (R.Close n)) o else None) ≡ Some row → Named row
  close-named n h true o row e = mapped (R.Close n) (h, tt) o row e
  close-named n h false o row e = absurd cc

  -- ---- a turn

  candidate-named : (g p : ℕ) → F g → F p → (x : Candidate) → AllByRecursion F (parents_of (rule_of g p x))
  candidate-named g p a b (Factor i j) = (a, tt)
  candidate-named g p a b (Reflex i) = (a, tt)
  candidate-named g p a b (Resolve i j) = (a, (b, tt))
  candidate-named g p a b (Para Inward j side i path) = (b, (a, tt))
  candidate-named g p a b (Para Outward j side i path) = (a, (b, tt))

  module _ (sig : Signature) (ins : List SortId) where
    module _ (axioms : ℕ) (g : Member) (stands : Stands g) where
      made-named : (p : Member) → Stands p → (x : Candidate) (row : Row)
          → row_made sig ins (source_of axioms g) (source_of axioms p) x ≡ Some row → Named row
      unfolding row_made
      made-named p a x row e =
          mapped (rule_of g.number p.number x) (candidate-named g.number p.number stands a x)
          (tried sig ins g.row.clause p.row.clause x) row e

      partners-named : (ms : List Member) → AllByRecursion Stands ms
          → AllByRecursion Named (flat_map (made_with sig ins (source_of axioms g)) (map (source_of axioms) ms))
      partners-named [] a = tt
      partners-named (m ∷ ms) a =
          all-append Named (made_with sig ins (source_of axioms g) (source_of axioms m))
          (flat_map (made_with sig ins (source_of axioms g)) (map (source_of axioms) ms))
          (all-made Named (row_made sig ins (source_of axioms g) (source_of axioms m))
          (candidates_between sig (source_of axioms g) (source_of axioms m)) (made-named m a.0))
          (partners-named ms a.1)

      pub turn-named : (ms : List Member) → AllByRecursion Stands ms
          → AllByRecursion Named (turn sig ins (source_of axioms g) (map (source_of axioms) ms))
      unfolding turn
      turn-named ms a =
          all-append Named (all_made sig ins (source_of axioms g) (source_of axioms g) (candidates_alone (source_of axioms g)))
          (flat_map (made_with sig ins (source_of axioms g)) (map (source_of axioms) ms))
          (all-made Named (row_made sig ins (source_of axioms g) (source_of axioms g)) (candidates_alone (source_of axioms g))
          (made-named g stands))
          (partners-named ms a)

    -- ---- a normal step

    unit-stands : (m : Member) (o : Option Side) → Stands m
        → AllByRecursion (λ (u : Unit). F u.row) (unit_with m.number m.row.clause o)
    unit-stands m None h = tt
    unit-stands m (Some side) h = (h, tt)

    units-stand : (ms : List Member) → AllByRecursion Stands ms
        → AllByRecursion (λ (u : Unit). F u.row) (units sig (clause_rows ms))
    units-stand [] a = tt
    units-stand (m ∷ ms) a =
        all-append (λ (u : Unit). F u.row) (unit_of sig (clause_row m)) (units sig (clause_rows ms))
        (unit-stands m (unit_side sig m.row.clause) a.0) (units-stand ms a.1)

    module _ (n : ℕ) (h : F n) (c : Clause) where
      -- the parents of the step
      abbrev StepNamed : RewriteMade → Type 0
      StepNamed m = AllByRecursion F (parents_of (step_rule n m.rule))

      or-made : (o e : Option RewriteMade) (m : RewriteMade) → ((r : RewriteMade) → o ≡ Some r → StepNamed r)
          → ((r : RewriteMade) → e ≡ Some r → StepNamed r) → or_else o e ≡ Some m → StepNamed m
      or-made (Some r) e m k l is = k m is
      or-made None e m k l is = l m is

      find-made : {A : Type 0} (f : A → Option RewriteMade) (xs : List A) (m : RewriteMade)
          → ((x : A) (r : RewriteMade) → f x ≡ Some r → StepNamed r) → find_map f xs ≡ Some m → StepNamed m
      find-made f [] m k is = absurd cc
      find-made f (x ∷ xs) m k is = or-made (f x) (find_map f xs) m (k x) (λ r e. find-made f xs r k e) is

      made-so : (rule : StepRule) (o : Option Made) (m : RewriteMade) → AllByRecursion F (parents_of (step_rule n rule))
          → option_map (made_by_step rule) o ≡ Some m → StepNamed m
      made-so rule None m a is = absurd cc
      made-so rule (Some x) m a is = let same : made_by_step rule x ≡ m = cc in subst StepNamed same a

      module _ (us : List Unit) where
        rewrite-named : (vs : List Unit) → AllByRecursion (λ (u : Unit). F u.row) vs → (i : ℕ) (path : List ℕ)
            (m : RewriteMade) → rewrite_at sig ins vs c i path ≡ Some m → StepNamed m
        rewrite-named [] a i path m is = absurd cc
        rewrite-named (u ∷ vs) a i path m is =
            or-made (rewrite_with sig ins c i path u) (rewrite_at sig ins vs c i path) m
            (λ r e. made-so (Rewrite u.row u.side i path) (rewritten sig ins u.clause u.side c i path) r
            (a.0, (h, tt)) e)
            (λ r e. rewrite-named vs a.1 i path r e) is

        without-named : AllByRecursion (λ (u : Unit). F u.row) us → (o : Option ℕ) (m : RewriteMade)
            → step_without sig ins us c o ≡ Some m → StepNamed m
        without-named a (Some i) m is = made-so (Reflexes i) (reflexed sig ins c i) m (h, tt) is
        without-named a None m is =
            find-made (rewrite_in sig ins us c) (with_numbers 1 c.literals) m
            (λ e r here_. find-made (rewrite_at sig ins us c e.0) (places_of_atom e.1.atom) r
            (λ path x there. rewrite-named us a e.0 path x there) here_) is

      stepped : (o : Option RewriteMade) (row : Row) → ((m : RewriteMade) → o ≡ Some m → StepNamed m)
          → option_map (step_row n) o ≡ Some row → Named row
      stepped None row k is = absurd cc
      stepped (Some m) row k is = let same : step_row n m ≡ row = cc in subst Named same (k m refl)

      pub step-named : (ms : List Member) → AllByRecursion Stands ms → (row : Row)
          → option_map (step_row n) (normal_step sig ins (clause_rows ms) c) ≡ Some row → Named row
      step-named ms a row is =
          stepped (normal_step sig ins (clause_rows ms) c) row
          (λ m e. without-named (units sig (clause_rows ms)) (units-stand ms a) (first_to_go c.literals) m e) is
