-- The normal step is a step.
use Rattle.std.proofs.Common.{◌≡◌, ◌∙◌, ◌++◌, ℕ, zero, suc, refl, subst, List, [], ◌∷◌, Option, Some, None, option_map, slice_get}
use Rattle.std.specs.List.{AllByRecursion}
use Rattle.am_term.specs.declared.id.SortId.{SortId}
use Rattle.am_term.specs.declared.signature.Signature.{Signature}
use Rattle.am_clause.specs.declared.clause.Clause.{Clause}
use Rattle.am_clause.specs.declared.row.Made.{Made}
use Rattle.am_clause.specs.declared.row.Side.{Side}
use Rattle.am_rules.specs.Conclusions.{reflexed, rewritten}
use Rattle.am_rules.proofs.Concluded.{reflex-step, rewrite-step}
use Rattle.am_simplify.specs.NormalStep.{first_to_go, made_by_rule, normal_step, rewrite_at, rewrite_in, rewrite_with, step_without}
use Rattle.am_simplify.specs.Numbering.{Numbered, find_map, with_numbers, or_else}
use Rattle.am_simplify.specs.Places.{places_of_atom}
use Rattle.am_simplify.specs.Reasons.{NumberedClause}
use Rattle.am_simplify.specs.Steps.{IsProper, IsStepBy}
use Rattle.am_simplify.specs.Units.{unit_side, unit_with, units}
use Rattle.am_simplify.specs.declared.step.RewriteMade.{RewriteMade}
use Rattle.am_simplify.specs.declared.step.StepRule.TheVariants.{Reflex, Rewrite}
use Rattle.am_simplify.specs.declared.step.Unit.{Unit}

-- the member from which something was made
record IsFound {A B : Type 0} (f : A → Option B) (xs : List A) (y : B) : Type 0 where
  place : ℕ
  member : A
  there : slice_get xs place ≡ Some member
  gives : f member ≡ Some y

found : {A B : Type 0} (f : A → Option B) (xs : List A) (y : B) → find_map f xs ≡ Some y → IsFound f xs y
found f [] y e = absurd cc
found {A = A} {B = B} f (x ∷ xs) y e = by (f x) refl e (found f xs y)
  where
    by : (o : Option B) → f x ≡ o → or_else o (find_map f xs) ≡ Some y → (find_map f xs ≡ Some y → IsFound f xs y) → IsFound f (x ∷ xs) y
    by (Some z) is e next = record { place = 0; member = x; there = refl; gives = is ∙ e }
    by None is e next = let k : IsFound f xs y = next e in record { place = suc k.place; member = k.member; there = k.there; gives = k.gives }

-- what holds of all holds at each place
at-place : {A : Type 0} (P : A → Type 0) (xs : List A) (n : ℕ) (x : A) → slice_get xs n ≡ Some x → AllByRecursion P xs → P x
at-place P [] n x e h = absurd cc
at-place P (y ∷ xs) zero x e h = let is : y ≡ x = cc in subst P (is) h.0
at-place P (y ∷ xs) (suc n) x e h = at-place P xs n x e h.1

-- a unit is one of the rows
record IsUnitOf (sig : Signature) (rows : List NumberedClause) (u : Unit) : Type 0 where
  place : ℕ
  there : slice_get rows place ≡ Some (u.row, u.clause)
  oriented : unit_side sig u.clause ≡ Some u.side

unit-found : (sig : Signature) (rows : List NumberedClause) (n : ℕ) (u : Unit) → slice_get (units sig rows) n ≡ Some u → IsUnitOf sig rows u
unit-found sig [] n u e = absurd cc
unit-found sig (row ∷ rows) n u e = by (unit-found sig rows) (unit_side sig row.1) refl n e
  where
    later : IsUnitOf sig rows u → IsUnitOf sig (row ∷ rows) u
    later k = record { place = suc k.place; there = k.there; oriented = k.oriented }

    by : ((n : ℕ) (u : Unit) → slice_get (units sig rows) n ≡ Some u → IsUnitOf sig rows u) → (o : Option Side) → unit_side sig row.1 ≡ o → (n : ℕ) → slice_get (unit_with row.0 row.1 o ++ units sig rows) n ≡ Some u → IsUnitOf sig (row ∷ rows) u
    by next None is n e = later (next n u e)
    by next (Some side) is zero e =
        let v : Unit = record { row = row.0; side = side; clause = row.1 } in
        let same : v ≡ u = (let g : Some v ≡ Some u = e in cc) in
        subst (IsUnitOf sig (row ∷ rows)) same (record { place = 0; there = refl; oriented = is })
    by next (Some side) is (suc n) e = later (next n u e)

module _ (sig : Signature) (ins : List SortId) (rows : List NumberedClause) (c : Clause) (proper : IsProper sig ins c) (all : AllByRecursion (λ (r : NumberedClause). IsProper sig ins r.1) rows) where
  abbrev IsStep : RewriteMade → Type 0
  IsStep s = IsStepBy sig ins rows c s.rule s.made

  by-rewrite : (u : Unit) → IsUnitOf sig rows u → (i : ℕ) (path : List ℕ) (s : RewriteMade) (o : Option Made) → rewritten sig ins u.clause u.side c i path ≡ o → option_map (made_by_rule (Rewrite u.row u.side i path)) o ≡ Some s → IsStep s
  by-rewrite u k i path s None is e = absurd cc
  by-rewrite u k i path s (Some m) is e =
      let same : made_by_rule (Rewrite u.row u.side i path) m ≡ s = cc in
      let unit : IsProper sig ins u.clause = at-place (λ (r : NumberedClause). IsProper sig ins r.1) rows k.place (u.row, u.clause) k.there all in
      subst IsStep (same) (record {
        place = k.place;
        unit = u.clause;
        there = k.there;
        oriented = k.oriented;
        step = rewrite-step sig ins m u.clause c unit.numbered proper.numbered unit.sorted proper.sorted u.side i path is;
      })

  by-reflex : (i : ℕ) (s : RewriteMade) (o : Option Made) → reflexed sig ins c i ≡ o → option_map (made_by_rule (Reflex i)) o ≡ Some s → IsStep s
  by-reflex i s None is e = absurd cc
  by-reflex i s (Some m) is e =
      let same : made_by_rule (Reflex i) m ≡ s = cc in
      subst IsStep (same) (reflex-step sig ins m c proper.numbered proper.sorted i is)

  by-unit : (i : ℕ) (path : List ℕ) (s : RewriteMade) → IsFound (rewrite_with sig ins c i path) (units sig rows) s → IsStep s
  by-unit i path s k = by-rewrite k.member (unit-found sig rows k.place k.member k.there) i path s (rewritten sig ins k.member.clause k.member.side c i path) refl k.gives

  by-place : (l : Numbered) (s : RewriteMade) → IsFound (rewrite_at sig ins (units sig rows) c l.0) (places_of_atom l.1.atom) s → IsStep s
  by-place l s k = by-unit l.0 k.member s (found (rewrite_with sig ins c l.0 k.member) (units sig rows) s k.gives)

  by-literal : (s : RewriteMade) → IsFound (rewrite_in sig ins (units sig rows) c) (with_numbers 1 c.literals) s → IsStep s
  by-literal s k = by-place k.member s (found (rewrite_at sig ins (units sig rows) c k.member.0) (places_of_atom k.member.1.atom) s k.gives)

  by-first : (s : RewriteMade) (o : Option ℕ) → step_without sig ins (units sig rows) c o ≡ Some s → IsStep s
  by-first s (Some i) e = by-reflex i s (reflexed sig ins c i) refl e
  by-first s None e = by-literal s (found (rewrite_in sig ins (units sig rows) c) (with_numbers 1 c.literals) s e)

  pub normal-step : (s : RewriteMade) → normal_step sig ins rows c ≡ Some s → IsStepBy sig ins rows c s.rule s.made
  normal-step s e = by-first s (first_to_go c.literals) e
